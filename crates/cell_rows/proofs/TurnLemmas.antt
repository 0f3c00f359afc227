-- The elements of a list, from the front and from the back.
use Rattle.std.proofs.Common.{◌≡◌, ℕ, ◌-◌, ◌<◌, List, [], ◌∷◌, length, reverse, ap, sym, ◌∙◌, arith, zero, suc, ◌+◌, ◌≤◌, Bool, true, false, refl}
use Rattle.std.specs.Prelude.{slice_get, Some, Option, None}
use Rattle.std.proofs.lemmas.List.{get_or-reverse, length-reverse}
use Rattle.std.proofs.lemmas.Option.{slice_get-get_or, slice_get_past, slice_get_within}
use Rattle.view_laws.specs.Lanes.{turned_if}

pub slice_get-reverse : {X : Type 0} (xs : List X) (i : ℕ) → i < length xs → slice_get (reverse xs) i ≡ slice_get xs (length xs - 1 - i)
slice_get-reverse [] i lt = absurd (omega arith)
slice_get-reverse (x ∷ xs) i lt =
    slice_get-get_or (reverse (x ∷ xs)) i x (omega (arith, length-reverse (x ∷ xs)))
    ∙ ap Some (get_or-reverse (x ∷ xs) i x lt)
    ∙ sym (slice_get-get_or (x ∷ xs) (length (x ∷ xs) - 1 - i) x (omega arith))

pub reverse_past : {X : Type 0} (xs : List X) (i : ℕ) → length xs ≤ i → slice_get (reverse xs) i ≡ None
reverse_past xs i le = slice_get_past (reverse xs) i (omega (arith, length-reverse xs))

-- where an element of a list turned round stands in the list
pub reverse_at : {X : Type 0} (xs : List X) (i : ℕ) (x : X) → slice_get (reverse xs) i ≡ Some x → (j : ℕ) × (slice_get xs j ≡ Some x) × (i + j + 1 ≡ length xs)
reverse_at xs i x is =
    let lt : i < length xs = omega (arith, slice_get_within (reverse xs) i x is, length-reverse xs) in
    (length xs - 1 - i, sym (slice_get-reverse xs i lt) ∙ is, omega arith)

-- what stands before an index, or `start` before the first
abbrev pub before_at : {X : Type 0} → Option X → List X → ℕ → Option X
before_at start [] j = start
before_at start (x ∷ xs) zero = start
before_at start (x ∷ xs) (suc j) = before_at (Some x) xs j

before_more : {X : Type 0} (start : Option X) (xs : List X) (j : ℕ) → j < length xs → before_at start xs (suc j) ≡ slice_get xs j
before_more start [] j lt = absurd (omega arith)
before_more start (x ∷ []) zero lt = refl
before_more start (x ∷ y ∷ xs) zero lt = refl
before_more start (x ∷ xs) (suc j) lt = before_more (Some x) xs j (omega arith)

-- turned round, what follows an element is what stood before it
pub reverse_next : {X : Type 0} (xs : List X) (i j : ℕ) → i + j + 1 ≡ length xs → slice_get (reverse xs) (i + 1) ≡ before_at None xs j
reverse_next [] i j e = absurd (omega arith)
reverse_next (x ∷ xs) i zero e = reverse_past (x ∷ xs) (i + 1) (omega arith)
reverse_next (x ∷ xs) i (suc j) e =
    slice_get-reverse (x ∷ xs) (i + 1) (omega arith)
    ∙ ap (slice_get (x ∷ xs)) (let f : length (x ∷ xs) - 1 - (i + 1) ≡ j = omega arith in f)
    ∙ sym (before_more None (x ∷ xs) j (omega arith))

-- and the first is what stood before the end
pub reverse_first : {X : Type 0} (xs : List X) → slice_get (reverse xs) 0 ≡ before_at None xs (length xs)
reverse_first [] = refl
reverse_first (x ∷ xs) =
    slice_get-reverse (x ∷ xs) 0 (omega arith)
    ∙ ap (slice_get (x ∷ xs)) (let e : length (x ∷ xs) - 1 - 0 ≡ length xs = omega arith in e)
    ∙ sym (before_more None (x ∷ xs) (length xs) (omega arith))

-- nothing stands in a list without elements, from the front or from the back
pub nothing_there : {X : Type 0} (back : Bool) (i : ℕ) → slice_get {X = X} (turned_if back []) i ≡ None
nothing_there true i = refl
nothing_there false i = refl
