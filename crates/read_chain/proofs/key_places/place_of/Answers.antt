use Rattle.std.proofs.Common.{◌≡◌, true, sym, subst}
use Rattle.elem.specs.declared.elements.Elem.{Elem}
use Rattle.machine.specs.Shown.{has_key}
use Rattle.view_steps.proofs.KeyLemmas.{same_keyed}
use Rattle.read_chain.proofs.key_places.place_of.Goals as goal

pub place_at_key-requires-clause-narrow : goal.place_at_key-requires-clause-narrow
place_at_key-requires-clause-narrow g c = λ other h. subst (λ (k : Elem). has_key k other ≡ true) (sym c.key_of.ensures) (same_keyed c.args.item.now other h)
