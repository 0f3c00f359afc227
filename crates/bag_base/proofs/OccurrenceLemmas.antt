-- The occurrences of a bag's elements: how many there are of all, and of one.
use Rattle.std.proofs.Common.{◌≡◌, ℕ, zero, suc, ◌+◌, Bool, true, false, cond, unwrap_or, List, [], ◌∷◌, length, replicate, Some, refl, ap, ◌∙◌, arith, length-append}
use Rattle.std.specs.List.{count_by, AllByRecursion, IsDistinct}
use Rattle.std.specs.Map.{keys_of}
use Rattle.std.proofs.lemmas.List.Sums.{sum_by-cons, sum_by-append}
use Rattle.elem.specs.declared.elements.Elem.{Elem}
use Rattle.elem.specs.Elements.{same}
use Rattle.elem.specs.ElementLaws.{same-Decides}
use Rattle.elem.specs.Keyed.{value_at, HasDistinctKeys}
use Rattle.bag_base.specs.Counts.{count_of, occurrences, total_of}

length-replicate : {X : Type 0} (n : ℕ) (x : X) → length (replicate n x) ≡ n
length-replicate zero x = refl
length-replicate (suc n) x = ap suc (length-replicate n x)

pub length-occurrences : (rows : List (Elem × ℕ)) → length (occurrences rows) ≡ total_of rows
length-occurrences [] = refl
length-occurrences (row ∷ rows) = length-append (replicate row.1 row.0) (occurrences rows) ∙ (let h = length-occurrences rows in let r = length-replicate row.1 row.0 in let t = sum_by-cons (λ (e : Elem × ℕ). e.1) row rows in omega arith)

module _ (x : Elem) where
  count-replicate : (n : ℕ) (y : Elem) → count_by (same x) (replicate n y) ≡ cond (same x y) n 0
  count-replicate zero y = by (same x y)
    where
      by : (b : Bool) → count_by (same x) [] ≡ cond b 0 0
      by true = refl
      by false = refl
  count-replicate (suc n) y = sum_by-cons (λ z. cond (same x z) 1 0) y (replicate n y) ∙ ap (λ m. cond (same x y) 1 0 + m) (count-replicate n y) ∙ by (same x y)
    where
      by : (b : Bool) → cond b 1 0 + cond b n 0 ≡ cond b (suc n) 0
      by true = omega arith
      by false = refl

  none-count : (rows : List (Elem × ℕ)) → AllByRecursion (λ y. same x y ≡ false) (keys_of rows) → count_by (same x) (occurrences rows) ≡ 0
  none-count [] h = refl
  none-count (row ∷ rows) h =
      sum_by-append (λ z. cond (same x z) 1 0) (replicate row.1 row.0) (occurrences rows)
      ∙ (let a = none-count rows h.1 in let b : count_by (same x) (replicate row.1 row.0) ≡ 0 = count-replicate row.1 row.0 ∙ ap (λ t. cond t row.1 0) h.0 in omega arith)

  pub count-occurrences : (rows : List (Elem × ℕ)) → HasDistinctKeys rows → count_by (same x) (occurrences rows) ≡ count_of rows x
  unfolding IsDistinct
  count-occurrences [] d = refl
  count-occurrences (row ∷ rows) d =
      sum_by-append (λ z. cond (same x z) 1 0) (replicate row.1 row.0) (occurrences rows) ∙ ap (λ m. m + count_by (same x) (occurrences rows)) (count-replicate row.1 row.0)
      ∙ by (same x row.0) refl (count-occurrences rows d.1)
    where
      by : (b : Bool) → same x row.0 ≡ b → count_by (same x) (occurrences rows) ≡ count_of rows x → cond b row.1 0 + count_by (same x) (occurrences rows) ≡ unwrap_or (cond b (Some row.1) (value_at rows x)) 0
      by true e h = let none : count_by (same x) (occurrences rows) ≡ 0 = none-count rows (moved (keys_of rows) d.0) in omega arith
        where
          moved : (ys : List Elem) → AllByRecursion (λ y. same row.0 y ≡ false) ys → AllByRecursion (λ y. same x y ≡ false) ys
          moved [] a = tt
          moved (y ∷ ys) a = (ap (λ z. same z y) ((same-Decides x row.0).0 e) ∙ a.0, moved ys a.1)
      by false e h = omega (arith, h)
