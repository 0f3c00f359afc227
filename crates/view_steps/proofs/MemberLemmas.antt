-- What stands in a part of a list stands in that list.
use Rattle.std.proofs.Common.{◌≡◌, ℕ, zero, suc, Bool, true, false, cond, List, [], ◌∷◌, refl, sym, subst}
use Rattle.std.specs.Prelude.{filter, slice_get, Some}
use Rattle.std.proofs.lemmas.Option.{same_Some}

-- an element of a list
abbrev pub StandsIn : {X : Type 0} → List X → X → Type 0
StandsIn xs x = (i : ℕ) × (slice_get xs i ≡ Some x)

in_longer : {X : Type 0} (y : X) (xs : List X) (x : X) → StandsIn xs x → StandsIn (y ∷ xs) x
in_longer y xs x h = (suc h.0, h.1)

pub in_filter : {X : Type 0} (p : X → Bool) (xs : List X) (x : X) (i : ℕ) → slice_get (filter p xs) i ≡ Some x → StandsIn xs x
in_filter p [] x i is = absurd (cc)
in_filter p (y ∷ xs) x i is = by (in_filter p xs x) (p y) i is
  where
    by : ((j : ℕ) → slice_get (filter p xs) j ≡ Some x → StandsIn xs x) → (t : Bool) (j : ℕ) → slice_get (cond t (y ∷ filter p xs) (filter p xs)) j ≡ Some x → StandsIn (y ∷ xs) x
    by rest true zero e = (zero, e)
    by rest true (suc j) e = in_longer y xs x (rest j e)
    by rest false j e = in_longer y xs x (rest j e)

-- what stands in a part passes its test, and what passes stands in it
pub passes_filter : {X : Type 0} (p : X → Bool) (xs : List X) (x : X) (i : ℕ) → slice_get (filter p xs) i ≡ Some x → p x ≡ true
passes_filter p [] x i is = absurd (cc)
passes_filter {X} p (y ∷ xs) x i is = by (passes_filter p xs x) (p y) refl i is
  where
    by : ((j : ℕ) → slice_get (filter p xs) j ≡ Some x → p x ≡ true) → (t : Bool) → p y ≡ t → (j : ℕ) → slice_get (cond t (y ∷ filter p xs) (filter p xs)) j ≡ Some x → p x ≡ true
    by rest true h zero e = subst (λ (z : X). p z ≡ true) (same_Some y x e) h
    by rest true h (suc j) e = rest j e
    by rest false h j e = rest j e

pub in_kept : {X : Type 0} (p : X → Bool) (xs : List X) (x : X) (i : ℕ) → slice_get xs i ≡ Some x → p x ≡ true → StandsIn (filter p xs) x
in_kept p [] x i is h = absurd (cc)
in_kept {X} p (y ∷ xs) x zero is h = subst (λ (b : Bool). StandsIn (cond b (y ∷ filter p xs) (filter p xs)) x) (sym (subst (λ (z : X). p z ≡ true) (sym (same_Some y x is)) h)) (zero, is)
in_kept p (y ∷ xs) x (suc i) is h = by (p y) (in_kept p xs x i is h)
  where
    by : (t : Bool) → StandsIn (filter p xs) x → StandsIn (cond t (y ∷ filter p xs) (filter p xs)) x
    by true rest = in_longer y (filter p xs) x rest
    by false rest = rest
