use Rattle.std.proofs.Common.{◌<◌, ap, length, subst, sym, ◌∙◌}
use Rattle.machine.specs.Bases.{base_at}
use Rattle.vocabulary.specs.Known.{is_known_kind}
use Rattle.cursor_seat.proofs.there.is_there.Goals as goal

pub returns : goal.returns
returns c =
    let world = c.args.store.now.world in
    let base = c.base_of-base.ensures.base in
    record {
      node = c.requires;
      within = subst (λ b. b < length world) base c.base_of-base.ensures.within;
      known = c.base_of-base.ensures.known;
      kind = ap (λ b. is_known_kind (base_at world b).kind) (sym base) ∙ c.base_of-base.ensures.kind;
      made = c.base_of-base.ensures.made;
      tell = c.is_lawful.ensures.tell;
    }
