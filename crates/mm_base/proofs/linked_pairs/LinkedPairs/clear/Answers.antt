use Rattle.std.proofs.Common.{[], ◌∙◌, sym, ap, subst}
use Rattle.std.specs.HashMap as hash
use Rattle.std.specs.Map.{lookup}
use Rattle.mm_base.specs.KeyValues.{key_value, same_pair}
use Rattle.mm_base.specs.PairPlaces.{FindsPairs}
use Rattle.mm_base.specs.LinkedPairs.{AreLinked}
use Rattle.mm_base.proofs.KeyedRowsLemmas.{nothing_linked}
use Rattle.mm_base.proofs.linked_pairs.LinkedPairs.clear.Goals as goal

pub invariant_of-self : goal.invariant_of-self
invariant_of-self c = record {
  linked = subst (λ rows. AreLinked rows c.clear-3.new.self) (sym c.clear.ensures) (subst (AreLinked []) (sym c.clear-3.ensures) nothing_linked);
  found = subst (λ rows. FindsPairs rows (hash.get same_pair c.shrink_to_fit.new.self)) (sym c.clear.ensures) (λ k v. c.shrink_to_fit.ensures.entries.2 (key_value k v) ∙ ap (lookup (same_pair (key_value k v))) c.clear-2.ensures.empty);
}
