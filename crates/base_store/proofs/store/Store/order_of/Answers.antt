use Rattle.std.proofs.Common.{ap, sym, ◌∙◌}
use Rattle.vocabulary.specs.Kinds.{order_of_kind}
use Rattle.machine.specs.Bases.{Base, base_at}
use Rattle.base_store.specs.Stored.{view_in}
use Rattle.view_steps.proofs.KnownLemmas.{known_base}
use Rattle.base_store.proofs.store.Store.order_of.Goals as goal

pub returns : goal.returns
returns c =
    let s = c.args.self.now in
    c.order_of_kind.ensures ∙ ap order_of_kind c.kind.ensures
    ∙ ap (λ (it : Base). order_of_kind it.kind) (ap (base_at s.world) c.base_of.ensures.base ∙ sym (known_base s.world (view_in s c.args.n) c.base_of.ensures.known))
