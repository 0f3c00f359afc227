-- Places in a list, and what is in it.
use Rattle.std.proofs.Common.{◌≡◌, ◌⊎◌, inl, inr, ℕ, ◌+◌, ◌<◌, ◌≤◌, zero, suc, Bool, true, false, cond, ◌||◌, List, [], ◌∷◌, ◌++◌, length, get_or, refl, ap, sym, ◌∙◌, arith}
use Rattle.std.proofs.lemmas.List.Folds.{list_any-append}
use Rattle.elem.specs.declared.elements.Elem.{Elem}
use Rattle.elem.specs.Elements.{same}
use Rattle.elem.specs.ElementLaws.{same_equiv, same-Decides}
use Rattle.graph_walk.specs.Graphs.{is_in}
use Rattle.graph_walk.specs.Places.{first_place, place}

pub first_place-le : (t : Elem → Bool) (xs : List Elem) → first_place t xs ≤ length xs
first_place-le t [] = omega arith
first_place-le t (x ∷ xs) =
    let h : first_place t xs ≤ length xs = first_place-le t xs in
    elim (t x) as (λ b. cond b 0 (suc (first_place t xs)) ≤ suc (length xs)) [ true ↦ omega arith | false ↦ omega arith ]

pub first_place-left : (t : Elem → Bool) (xs ys : List Elem) → first_place t xs < length xs → first_place t (xs ++ ys) ≡ first_place t xs
first_place-left t [] ys h = absurd (omega arith)
first_place-left t (x ∷ xs) ys h = (elim (t x) as (λ b. cond b 0 (suc (first_place t xs)) < suc (length xs) → cond b 0 (suc (first_place t (xs ++ ys))) ≡ cond b 0 (suc (first_place t xs))) [ true ↦ λ h. refl | false ↦ λ h. ap (λ n. suc n) (first_place-left t xs ys (omega arith)) ]) h

pub first_place-right : (t : Elem → Bool) (xs ys : List Elem) → length xs ≤ first_place t xs → first_place t (xs ++ ys) ≡ length xs + first_place t ys
first_place-right t [] ys h = omega arith
first_place-right t (x ∷ xs) ys h = (elim (t x) as (λ b. suc (length xs) ≤ cond b 0 (suc (first_place t xs)) → cond b 0 (suc (first_place t (xs ++ ys))) ≡ suc (length xs) + first_place t ys) [ true ↦ λ h. absurd (omega arith) | false ↦ λ h. let r : first_place t (xs ++ ys) ≡ length xs + first_place t ys = first_place-right t xs ys (omega arith) in omega arith ]) h

-- a place whose element passes is no earlier than the first
pub first_place-at : (t : Elem → Bool) (xs : List Elem) (i : ℕ) (d : Elem) → i < length xs → t (get_or xs i d) ≡ true → first_place t xs ≤ i
first_place-at t [] i d l h = absurd (omega arith)
first_place-at t (x ∷ xs) zero d l h = let e : cond (t x) 0 (suc (first_place t xs)) ≡ 0 = ap (λ b. cond b 0 (suc (first_place t xs))) h in omega arith
first_place-at t (x ∷ xs) (suc i) d l h =
    let r : first_place t xs ≤ i = first_place-at t xs i d (omega arith) h in
    elim (t x) as (λ b. cond b 0 (suc (first_place t xs)) ≤ suc i) [ true ↦ omega arith | false ↦ omega arith ]

pub first_place-passes : (t : Elem → Bool) (xs : List Elem) (d : Elem) → first_place t xs < length xs → t (get_or xs (first_place t xs) d) ≡ true
first_place-passes t [] d h = absurd (omega arith)
first_place-passes t (x ∷ xs) d h = by_case (t x) refl h (first_place-passes t xs d)
  where
    by_case : (b : Bool) → t x ≡ b → cond b 0 (suc (first_place t xs)) < suc (length xs) → (first_place t xs < length xs → t (get_or xs (first_place t xs) d) ≡ true) → t (get_or (x ∷ xs) (cond b 0 (suc (first_place t xs))) d) ≡ true
    by_case true e h rest = e
    by_case false e h rest = rest (omega arith)

pub is_in-place : (x : Elem) (xs : List Elem) → is_in x xs ≡ true → place x xs < length xs
is_in-place x [] h = absurd (cc)
is_in-place x (y ∷ ys) h = (elim (same x y) as (λ b. (b || is_in x ys) ≡ true → cond b 0 (suc (place x ys)) < suc (length ys)) [ true ↦ λ h. omega arith | false ↦ λ h. let r : place x ys < length ys = is_in-place x ys h in omega arith ]) h

pub place-is_in : (x : Elem) (xs : List Elem) → place x xs < length xs → is_in x xs ≡ true
place-is_in x [] h = absurd (omega arith)
place-is_in x (y ∷ ys) h = (elim (same x y) as (λ b. cond b 0 (suc (place x ys)) < suc (length ys) → (b || is_in x ys) ≡ true) [ true ↦ λ h. refl | false ↦ λ h. place-is_in x ys (omega arith) ]) h

pub same-is : (x y : Elem) → same x y ≡ true → x ≡ y
same-is x y h = (same-Decides x y).0 h

-- what stands at an element's place is the element
pub at-place : (x : Elem) (xs : List Elem) (d : Elem) → is_in x xs ≡ true → get_or xs (place x xs) d ≡ x
at-place x xs d h = sym (same-is x _ (first_place-passes (same x) xs d (is_in-place x xs h)))

pub at-is_in : (xs : List Elem) (i : ℕ) (d : Elem) → i < length xs → is_in (get_or xs i d) xs ≡ true
at-is_in [] i d h = absurd (omega arith)
at-is_in (x ∷ xs) zero d h = ap (λ b. b || is_in x xs) (same_equiv.refl x)
at-is_in (x ∷ xs) (suc i) d h = let r : is_in (get_or xs i d) xs ≡ true = at-is_in xs i d (omega arith) in elim (same (get_or xs i d) x) as (λ b. (b || is_in (get_or xs i d) xs) ≡ true) [ true ↦ refl | false ↦ r ]

pub place-at : (xs : List Elem) (i : ℕ) (d : Elem) → i < length xs → place (get_or xs i d) xs ≤ i
place-at xs i d h = first_place-at (same (get_or xs i d)) xs i d h (same_equiv.refl (get_or xs i d))

-- two elements of one place are the same
pub one_place : (x y : Elem) (xs : List Elem) → is_in x xs ≡ true → is_in y xs ≡ true → place x xs ≡ place y xs → x ≡ y
one_place x y xs p q e = sym (at-place x xs x p) ∙ ap (λ i. get_or xs i x) e ∙ at-place y xs x q

pub at_default : (xs : List Elem) (i : ℕ) (d e : Elem) → i < length xs → get_or xs i d ≡ get_or xs i e
at_default [] i d e h = absurd (omega arith)
at_default (x ∷ xs) zero d e h = refl
at_default (x ∷ xs) (suc i) d e h = at_default xs i d e (omega arith)

-- a list with one more, last
pub in_front : (x y : Elem) (xs : List Elem) → is_in x xs ≡ true → is_in x (xs ++ y ∷ []) ≡ true
in_front x y xs h = list_any-append (same x) xs (y ∷ []) ∙ ap (λ b. b || (same x y || false)) h

pub in_last : (x : Elem) (xs : List Elem) → is_in x (xs ++ x ∷ []) ≡ true
in_last x xs = list_any-append (same x) xs (x ∷ []) ∙ ap (λ b. is_in x xs || (b || false)) (same_equiv.refl x) ∙ or_yes (is_in x xs)
  where
    or_yes : (b : Bool) → (b || true) ≡ true
    or_yes true = refl
    or_yes false = refl

pub front_or_last : (x y : Elem) (xs : List Elem) → is_in x (xs ++ y ∷ []) ≡ true → (is_in x xs ≡ true) ⊎ (x ≡ y)
front_or_last x y xs h = by_case (is_in x xs) (same x y) refl refl (sym (list_any-append (same x) xs (y ∷ [])) ∙ h)
  where
    by_case : (b s : Bool) → is_in x xs ≡ b → same x y ≡ s → (b || (s || false)) ≡ true → (is_in x xs ≡ true) ⊎ (x ≡ y)
    by_case true s p q r = inl p
    by_case false true p q r = inr (same-is x y q)
    by_case false false p q r = absurd (cc)

pub in_tail : (x y : Elem) (ys : List Elem) → is_in x ys ≡ true → is_in x (y ∷ ys) ≡ true
in_tail x y ys h = elim (same x y) as (λ b. (b || is_in x ys) ≡ true) [ true ↦ refl | false ↦ h ]
