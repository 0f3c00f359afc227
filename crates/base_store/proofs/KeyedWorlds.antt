-- No key stands twice in a base without rows, nor in the bases of a world of which one changes, or to which another comes;
-- nor does a value in a bimap.
use Rattle.std.proofs.Common.{ℕ, ◌<◌, [], ◌∷◌, ◌++◌, length, set, ap, sym, ◌∙◌, subst, inl, inr, zero, suc}
use Rattle.std.specs.List.{IsDistinct}
use Rattle.std.proofs.lemmas.Bool.{cases_eq}
use Rattle.std.proofs.lemmas.List.{get_or-set_other}
use Rattle.vocabulary.specs.declared.kinds.Kind.{Kind}
use Rattle.vocabulary.specs.declared.kinds.Kind.TheVariants.{LinkedHashMap}
use Rattle.base_rows.specs.BaseSpots.{HasKeys}
use Rattle.machine.specs.Bases.{Base, World, base_at, empty_base}
use Rattle.view_steps.proofs.WorldLemmas.{written_at}

-- a base without rows has no key twice
pub empty_keys : (kind : Kind) → HasKeys (empty_base kind)
unfolding IsDistinct
empty_keys kind side unique = tt

pub no_base : (b : ℕ) → HasKeys (base_at [] b)
no_base b = empty_keys LinkedHashMap

-- a world with one more base
pub more_keys : (world : World) (it : Base) → ((b : ℕ) → HasKeys (base_at world b)) → HasKeys it → (b : ℕ) → HasKeys (base_at (world ++ it ∷ []) b)
more_keys [] it all this zero = this
more_keys [] it all this (suc b) = no_base b
more_keys (first ∷ world) it all this zero = all zero
more_keys (first ∷ world) it all this (suc b) = more_keys world it (λ k. all (suc k)) this b

-- a world in which one base changed
pub written_keys : (world : World) (b : ℕ) (it : Base) → b < length world → ((k : ℕ) → HasKeys (base_at world k)) → HasKeys it → (k : ℕ) → HasKeys (base_at (set world b it) k)
written_keys world b it lt all this k =
    elim (cases_eq k b) [
      | inl same ↦ subst (λ (x : Base). HasKeys x) (sym (ap (base_at (set world b it)) same ∙ written_at world b it lt)) this
      | inr other ↦ subst (λ (x : Base). HasKeys x) (sym (get_or-set_other world b k it (empty_base LinkedHashMap) other)) (all k)
    ]
