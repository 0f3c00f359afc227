-- The elements of a list, from the front and from the back.
use Rattle.std.proofs.Common.{◌≡◌, ℕ, ◌-◌, ◌<◌, List, [], ◌∷◌, length, reverse, ap, sym, ◌∙◌, arith, ◌+◌, Bool, true, false, refl}
use Rattle.std.specs.Prelude.{slice_get, Some}
use Rattle.std.proofs.lemmas.List.{get_or-reverse, length-reverse}
use Rattle.std.proofs.lemmas.Option.{slice_get-get_or, slice_get_within}
use Rattle.view_laws.specs.Lanes.{turned_if}

pub slice_get-reverse : {X : Type 0} (xs : List X) (i : ℕ) → i < length xs → slice_get (reverse xs) i ≡ slice_get xs (length xs - 1 - i)
slice_get-reverse [] i lt = absurd (omega arith)
slice_get-reverse (x ∷ xs) i lt =
    slice_get-get_or (reverse (x ∷ xs)) i x (omega (arith, length-reverse (x ∷ xs)))
    ∙ ap Some (get_or-reverse (x ∷ xs) i x lt)
    ∙ sym (slice_get-get_or (x ∷ xs) (length (x ∷ xs) - 1 - i) x (omega arith))

-- where an element of a list turned round stands in the list
pub reverse_at : {X : Type 0} (xs : List X) (i : ℕ) (x : X) → slice_get (reverse xs) i ≡ Some x → (j : ℕ) × (slice_get xs j ≡ Some x) × (i + j + 1 ≡ length xs)
reverse_at xs i x is =
    let lt : i < length xs = omega (arith, slice_get_within (reverse xs) i x is, length-reverse xs) in
    (length xs - 1 - i, sym (slice_get-reverse xs i lt) ∙ is, omega arith)

pub length-turned : {X : Type 0} (t : Bool) (xs : List X) → length (turned_if t xs) ≡ length xs
length-turned true xs = length-reverse xs
length-turned false xs = refl
