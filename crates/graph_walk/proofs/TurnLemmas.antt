-- Going through a list from each element to the one behind it.
use Rattle.std.proofs.Common.{◌≡◌, suc, length, subst, Bool, true, false, cond, ◌||◌, List, [], ◌∷◌, Option, Some, None, slice_get, refl, ap, sym, ◌∙◌}
use Rattle.std.specs.List.{IsDistinct, AllByRecursion}
use Rattle.std.proofs.lemmas.Bool.{both_ways}
use Rattle.elem.specs.declared.elements.Elem.{Elem}
use Rattle.elem.specs.Elements.{same}
use Rattle.elem.specs.ElementLaws.{same_equiv}
use Rattle.graph_walk.specs.Graphs.{is_in}
use Rattle.graph_walk.specs.Places.{after, from_on, left_at, IsAmong}
use Rattle.graph_walk.proofs.PlaceLemmas.{same-is, in_tail}

among_tail : (o : Option Elem) (y : Elem) (ys : List Elem) → IsAmong o ys → IsAmong o (y ∷ ys)
among_tail None y ys h = tt
among_tail (Some x) y ys h = in_tail x y ys h

pub first_among : (xs : List Elem) → IsAmong (slice_get xs 0) xs
first_among [] = tt
first_among (x ∷ xs) = ap (λ b. b || is_in x xs) (same_equiv.refl x)

pub after_among : (x : Elem) (xs : List Elem) → IsAmong (after x xs) xs
after_among x [] = tt
after_among x (y ∷ ys) = elim (same x y) as (λ b. IsAmong (cond b (slice_get ys 0) (after x ys)) (y ∷ ys)) [ true ↦ among_tail (slice_get ys 0) y ys (first_among ys) | false ↦ among_tail (after x ys) y ys (after_among x ys) ]

pub left-first : (xs : List Elem) → left_at (slice_get xs 0) xs ≡ xs
left-first [] = refl
left-first (x ∷ xs) = ap (λ b. cond b (x ∷ xs) (from_on x xs)) (same_equiv.refl x)

pub none_left : (o : Option Elem) (xs : List Elem) → ((x : Elem) → o ≡ Some x → ⊥) → left_at o xs ≡ []
none_left None xs h = refl
none_left (Some x) xs h = absurd (h x refl)

apart_head : (x y : Elem) (ys : List Elem) → IsDistinct same (y ∷ ys) → is_in x ys ≡ true → same x y ≡ false
unfolding IsDistinct
apart_head x y ys d h = apart x ys (d.0) h
  where
    apart : (x : Elem) (zs : List Elem) → AllByRecursion (λ z. same y z ≡ false) zs → is_in x zs ≡ true → same x y ≡ false
    apart x [] all i = absurd (both_ways _ refl i)
    apart x (z ∷ zs) all i = by_case (same x z) refl i (apart x zs all.1)
      where
        by_case : (b : Bool) → same x z ≡ b → (b || is_in x zs) ≡ true → (is_in x zs ≡ true → same x y ≡ false) → same x y ≡ false
        by_case true e j rest = same_equiv.symm x y ∙ ap (λ w. same y w) (same-is x z e) ∙ all.0
        by_case false e j rest = rest j

distinct_tail : (y : Elem) (ys : List Elem) → IsDistinct same (y ∷ ys) → IsDistinct same ys
unfolding IsDistinct
distinct_tail y ys d = d.1

left_tail : (o : Option Elem) (y : Elem) (ys : List Elem) → IsDistinct same (y ∷ ys) → IsAmong o ys → left_at o (y ∷ ys) ≡ left_at o ys
left_tail None y ys d h = refl
left_tail (Some x) y ys d h = ap (λ b. cond b (y ∷ ys) (from_on x ys)) (apart_head x y ys d h)

pub left-after : (x : Elem) (xs : List Elem) → IsDistinct same xs → is_in x xs ≡ true → from_on x xs ≡ x ∷ left_at (after x xs) xs
left-after x [] d h = absurd (both_ways _ refl h)
left-after x (y ∷ ys) d h = by_case (same x y) refl h (left-after x ys (distinct_tail y ys d))
  where
    by_case : (b : Bool) → same x y ≡ b → (b || is_in x ys) ≡ true → (is_in x ys ≡ true → from_on x ys ≡ x ∷ left_at (after x ys) ys) → cond b (y ∷ ys) (from_on x ys) ≡ x ∷ left_at (cond b (slice_get ys 0) (after x ys)) (y ∷ ys)
    by_case true e i rest = ap (λ z. z ∷ ys) (sym (same-is x y e)) ∙ ap (λ zs. x ∷ zs) (sym (left_tail (slice_get ys 0) y ys d (first_among ys) ∙ left-first ys))
    by_case false e i rest = rest i ∙ ap (λ zs. x ∷ zs) (sym (left_tail (after x ys) y ys d (after_among x ys)))

-- one step of a walk along a list: from the next element to the one behind it
module _ (all : List Elem) (distinct : IsDistinct same all) (o p : Option Elem) (x : Elem) (next : o ≡ Some x) (among : IsAmong o all) (behind : p ≡ after x all) where
  pub left_on : left_at o all ≡ x ∷ left_at p all
  left_on = ap (λ q. left_at q all) next ∙ left-after x all distinct (subst (λ q. IsAmong q all) next among) ∙ ap (λ q. x ∷ left_at q all) (sym behind)

  pub fewer_left : length (left_at o all) ≡ suc (length (left_at p all))
  fewer_left = ap length left_on

  pub still_among : IsAmong p all
  still_among = subst (λ q. IsAmong q all) (sym behind) (after_among x all)

-- where a walk along a list begins
module _ (all : List Elem) (o : Option Elem) (first : o ≡ slice_get all 0) where
  pub all_left : left_at o all ≡ all
  all_left = ap (λ q. left_at q all) first ∙ left-first all

  pub begins_among : IsAmong o all
  begins_among = subst (λ q. IsAmong q all) (sym first) (first_among all)
