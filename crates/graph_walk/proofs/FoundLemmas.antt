-- Lists that grow by what is new.
use Rattle.std.proofs.Common.{◌≡◌, inl, inr, ◌+◌, ◌<◌, ◌≤◌, suc, Bool, true, false, cond, ◌||◌, List, [], ◌∷◌, ◌++◌, length, refl, ap, sym, ◌∙◌, arith, append_assoc, length-append}
use Rattle.std.specs.List.{IsDistinct}
use Rattle.std.proofs.lemmas.Bool.{cases_lt, both_ways}
use Rattle.std.proofs.lemmas.List.{append-nil}
use Rattle.std.proofs.lemmas.List.Folds.{list_any-append}
use Rattle.std.proofs.lemmas.Map.Keys.{IsDistinct-push}
use Rattle.elem.specs.declared.elements.Elem.{Elem}
use Rattle.elem.specs.Elements.{same}
use Rattle.elem.specs.ElementLaws.{same_equiv}
use Rattle.graph_walk.specs.Graphs.{is_in}
use Rattle.graph_walk.specs.Places.{place}
use Rattle.graph_walk.specs.Found.{with_new, with_all}
use Rattle.graph_walk.proofs.PlaceLemmas.{first_place-le, first_place-left, first_place-right, is_in-place, place-is_in, same-is}

-- what a set has after an element is put into it
pub has_more : (x q : Elem) (xs : List Elem) (b : Bool) → b ≡ is_in q xs → cond (same x q) true b ≡ is_in q (xs ++ x ∷ [])
has_more x q xs b e = by_case (same x q) (is_in q xs) ∙ sym (list_any-append (same q) xs (x ∷ []) ∙ ap (λ s. is_in q xs || (s || false)) (same_equiv.symm q x))
  where
    by_both : (s i : Bool) → cond s true i ≡ (i || (s || false))
    by_both true true = refl
    by_both true false = refl
    by_both false true = refl
    by_both false false = refl

    by_case : (s i : Bool) → cond s true b ≡ (is_in q xs || (s || false))
    by_case s i = ap (cond s true) e ∙ by_both s (is_in q xs)

pub not_in-place : (x : Elem) (xs : List Elem) → is_in x xs ≡ false → length xs ≤ place x xs
not_in-place x xs h = elim (cases_lt (place x xs) (length xs)) [ inl l ↦ absurd (both_ways _ h (place-is_in x xs l)) | inr l ↦ l ]

pub is_in-new : (x y : Elem) (xs : List Elem) → is_in x (with_new y xs) ≡ (is_in x xs || same x y)
is_in-new x y xs = by_case (is_in y xs) refl
  where
    by_there : (s : Bool) → same x y ≡ s → is_in y xs ≡ true → is_in x xs ≡ (is_in x xs || s)
    by_there true e h = let there : is_in x xs ≡ true = ap (λ z. is_in z xs) (same-is x y e) ∙ h in there ∙ sym (ap (λ b. b || true) there)
    by_there false e h = or_no (is_in x xs)
      where
        or_no : (b : Bool) → b ≡ (b || false)
        or_no true = refl
        or_no false = refl

    or_no : (b : Bool) → (b || false) ≡ b
    or_no true = refl
    or_no false = refl

    by_case : (b : Bool) → is_in y xs ≡ b → is_in x (cond b xs (xs ++ y ∷ [])) ≡ (is_in x xs || same x y)
    by_case true h = by_there (same x y) refl h
    by_case false h = list_any-append (same x) xs (y ∷ []) ∙ ap (λ b. is_in x xs || b) (or_no (same x y))

or_assoc : (a b c : Bool) → ((a || b) || c) ≡ (a || (b || c))
or_assoc true b c = refl
or_assoc false b c = refl

pub is_in-all : (x : Elem) (ys xs : List Elem) → is_in x (with_all ys xs) ≡ (is_in x xs || is_in x ys)
is_in-all x [] xs = or_no (is_in x xs)
  where
    or_no : (b : Bool) → b ≡ (b || false)
    or_no true = refl
    or_no false = refl
is_in-all x (y ∷ ys) xs = is_in-all x ys (with_new y xs) ∙ ap (λ b. b || is_in x ys) (is_in-new x y xs) ∙ or_assoc (is_in x xs) (same x y) (is_in x ys)

new_distinct : (y : Elem) (xs : List Elem) → IsDistinct same xs → IsDistinct same (with_new y xs)
new_distinct y xs d = by_case (is_in y xs) refl
  where
    by_case : (b : Bool) → is_in y xs ≡ b → IsDistinct same (cond b xs (xs ++ y ∷ []))
    by_case true h = d
    by_case false h = IsDistinct-push same_equiv xs y d h

pub all_distinct : (ys xs : List Elem) → IsDistinct same xs → IsDistinct same (with_all ys xs)
all_distinct [] xs d = d
all_distinct (y ∷ ys) xs d = all_distinct ys (with_new y xs) (new_distinct y xs d)

-- the list stays in front
pub front_stays : (ys xs : List Elem) → (zs : List Elem) × (with_all ys xs ≡ xs ++ zs)
front_stays [] xs = ([], sym (append-nil xs))
front_stays (y ∷ ys) xs = by_case (is_in y xs) (front_stays ys xs) (front_stays ys (xs ++ y ∷ []))
  where
    by_case : (b : Bool) → (zs : List Elem) × (with_all ys xs ≡ xs ++ zs) → (zs : List Elem) × (with_all ys (xs ++ y ∷ []) ≡ (xs ++ y ∷ []) ++ zs) → (zs : List Elem) × (with_all ys (cond b xs (xs ++ y ∷ [])) ≡ xs ++ zs)
    by_case true there new = there
    by_case false there new = (y ∷ new.0, new.1 ∙ append_assoc xs (y ∷ []) new.0)

pub place-old : (x : Elem) (ys xs : List Elem) → is_in x xs ≡ true → place x (with_all ys xs) ≡ place x xs
place-old x ys xs h = let f : (zs : List Elem) × (with_all ys xs ≡ xs ++ zs) = front_stays ys xs in ap (place x) f.1 ∙ first_place-left (same x) xs f.0 (is_in-place x xs h)

pub place-new : (x : Elem) (ys xs : List Elem) → is_in x xs ≡ false → length xs ≤ place x (with_all ys xs)
place-new x ys xs h =
    let f : (zs : List Elem) × (with_all ys xs ≡ xs ++ zs) = front_stays ys xs in
    let e : place x (with_all ys xs) ≡ length xs + place x f.0 = ap (place x) f.1 ∙ first_place-right (same x) xs f.0 (not_in-place x xs h) in
    omega arith

-- new elements stand in the order in which they come
pub new_order : (x z : Elem) (ys xs : List Elem) → is_in x xs ≡ false → is_in z xs ≡ false → place x (with_all ys xs) < place z (with_all ys xs) → place x ys < place z ys
new_order x z [] xs p q l = let a : length xs ≤ place x xs = not_in-place x xs p in let b : place z xs ≤ length xs = first_place-le (same z) xs in absurd (omega arith)
new_order x z (y ∷ ys) xs p q l = by_case (is_in y xs) (same x y) (same z y) refl refl refl (new_order x z ys xs p q) (new_order x z ys (xs ++ y ∷ [])) l
  where
    still : (w : Elem) → is_in w xs ≡ false → same w y ≡ false → is_in w (xs ++ y ∷ []) ≡ false
    still w n e = list_any-append (same w) xs (y ∷ []) ∙ ap (λ b. b || (same w y || false)) n ∙ ap (λ b. b || false) e

    last : (w : Elem) → is_in w xs ≡ false → same w y ≡ true → place w (with_all ys (xs ++ y ∷ [])) ≡ length xs
    last w n e =
        let there : is_in w (xs ++ y ∷ []) ≡ true = list_any-append (same w) xs (y ∷ []) ∙ ap (λ b. b || (same w y || false)) n ∙ ap (λ b. b || false) e in
        let first : place w (xs ++ y ∷ []) ≡ length xs + place w (y ∷ []) = first_place-right (same w) xs (y ∷ []) (not_in-place w xs n) in
        let head : place w (y ∷ []) ≡ 0 = ap (λ b. cond b 0 (suc 0)) e in
        let old : place w (with_all ys (xs ++ y ∷ [])) ≡ place w (xs ++ y ∷ []) = place-old w ys (xs ++ y ∷ []) there in
        omega arith

    by_case : (b s t : Bool) → is_in y xs ≡ b → same x y ≡ s → same z y ≡ t → (place x (with_all ys xs) < place z (with_all ys xs) → place x ys < place z ys) → (is_in x (xs ++ y ∷ []) ≡ false → is_in z (xs ++ y ∷ []) ≡ false → place x (with_all ys (xs ++ y ∷ [])) < place z (with_all ys (xs ++ y ∷ [])) → place x ys < place z ys) → place x (with_all ys (cond b xs (xs ++ y ∷ []))) < place z (with_all ys (cond b xs (xs ++ y ∷ []))) → cond s 0 (suc (place x ys)) < cond t 0 (suc (place z ys))
    by_case true true t h e f old new l = absurd (both_ways _ p (ap (λ w. is_in w xs) (same-is x y e) ∙ h))
    by_case true false true h e f old new l = absurd (both_ways _ q (ap (λ w. is_in w xs) (same-is z y f) ∙ h))
    by_case true false false h e f old new l = let r : place x ys < place z ys = old l in omega arith
    by_case false true true h e f old new l = let a : place x (with_all ys (xs ++ y ∷ [])) ≡ length xs = last x p e in let b : place z (with_all ys (xs ++ y ∷ [])) ≡ length xs = last z q f in absurd (omega arith)
    by_case false true false h e f old new l = omega arith
    by_case false false true h e f old new l =
        let a : place z (with_all ys (xs ++ y ∷ [])) ≡ length xs = last z q f in
        let b : length (xs ++ y ∷ []) ≤ place x (with_all ys (xs ++ y ∷ [])) = place-new x ys (xs ++ y ∷ []) (still x p e) in
        absurd (omega (arith, length-append xs (y ∷ [])))
    by_case false false false h e f old new l = let r : place x ys < place z ys = new (still x p e) (still z q f) l in omega arith
