use Rattle.std.proofs.Common.{ap, sym, ◌∙◌, [], ◌∷◌}
use Rattle.base_store.specs.Stored.{view_in}
use Rattle.machine.specs.Bases.{base_at}
use Rattle.cursor_seat.proofs.SeenLemmas.{one_change}
use Rattle.cursor_seat.proofs.seen.Seen.of.Goals as goal

pub returns : goal.returns
returns c =
    let s = c.args.store.now in
    ap (λ n. n ∷ []) (c.change.ensures ∙ ap (λ b. (base_at s.world b).change) c.base_of.ensures.base) ∙ sym (one_change s.world (view_in s c.args.n) c.base_of.ensures.known)
