use Rattle.std.proofs.Common.{◌≡◌, ap, sym, ◌∙◌, [], ◌∷◌, nat_eq}
use Rattle.std.specs.Cmp.Lexicographic.{pointwise}
use Rattle.base_store.specs.Stored.{view_in}
use Rattle.machine.specs.Bases.{base_at}
use Rattle.machine.specs.Iterators.{changes}
use Rattle.view_laws.proofs.ListLemmas.{and-true}
use Rattle.cursor_seat.proofs.SeenLemmas.{one_change}
use Rattle.cursor_seat.proofs.seen.Seen.is_last.Goals as goal

pub returns : goal.returns
returns c =
    let s = c.args.store.now in
    let numbers : c.change.result ∷ [] ≡ changes s.world (view_in s c.args.n) =
    ap (λ n. n ∷ []) (c.change.ensures ∙ ap (λ b. (base_at s.world b).change) c.base_of.ensures.base) ∙ sym (one_change s.world (view_in s c.args.n) c.base_of.ensures.known) in
    let seen : c.args.self.now ≡ c.self.inside.change ∷ [] = sym c.self.view_is in
    sym (and-true (nat_eq c.change.result c.self.inside.change)) ∙ (λ i. pointwise nat_eq (numbers i) (sym seen i))
