-- A walk over rows of ranges: each row is followed by the first that begins after it.
use Rattle.std.proofs.Common.{◌≡◌, ℕ, zero, suc, ◌+◌, ◌<◌, ◌≤◌, true, false, cond, nat_lt, List, [], ◌∷◌, ◌++◌, length, take, map, Option, Some, None, refl, sym, ap, ◌∙◌, arith}
use Rattle.std.specs.List.{slice_get}
use Rattle.std.proofs.lemmas.Bool.Decides.{nat_tests}
use Rattle.std.proofs.lemmas.List.{take_more, take_all, map-append}
use Rattle.std.proofs.lemmas.Option.{slice_get_within, get_or_from_slice_get, same_Some}
use Rattle.range_base.specs.Rows.{Row, IsSpaced}
use Rattle.range_base.specs.Reads.{first_after}

not_less : (a b : ℕ) → b ≤ a → nat_lt a b ≡ false
not_less a b h = grind (arith, nat_tests, h)

module _ {V : Type 0} where
  starts : (gap from : ℕ) (rows : List (Row V)) → IsSpaced gap from rows → (i : ℕ) (r : Row V) → slice_get rows i ≡ Some r → from ≤ r.0
  starts gap from [] s i r e = cc
  starts gap from (row ∷ rows) s zero r e = let h : row.0 ≡ r.0 = ap (λ (x : Row V). x.0) (same_Some row r e) in let p = s.0 in omega arith
  starts gap from (row ∷ rows) s (suc i) r e = let h = starts gap (row.1.end + gap) rows s.2 i r e in let p = s.0 in let q = s.1 in omega arith

  after-first : (gap from c : ℕ) (rows : List (Row V)) → IsSpaced gap from rows → c < from → first_after c rows ≡ slice_get rows 0
  after-first gap from c [] s h = refl
  after-first gap from c (row ∷ rows) s h = ap (λ b. cond b (Some row) (first_after c rows)) (let p = s.0 in the_test p)
    where
      the_test : from ≤ row.0 → nat_lt c row.0 ≡ true
      the_test p = grind (arith, nat_tests, h, p)

  next_row : (gap from : ℕ) (rows : List (Row V)) → IsSpaced gap from rows → (i : ℕ) (r : Row V) → slice_get rows i ≡ Some r → first_after r.0 rows ≡ slice_get rows (suc i)
  next_row gap from [] s i r e = cc
  next_row gap from (row ∷ rows) s zero r e =
      let h : row ≡ r = same_Some row r e in
      let p = s.1 in
      ap (λ (x : Row V). first_after x.0 (row ∷ rows)) (sym h) ∙ ap (λ b. cond b (Some row) (first_after row.0 rows)) (not_less row.0 row.0 (omega arith)) ∙ after-first gap (row.1.end + gap) row.0 rows s.2 (omega arith)
  next_row gap from (row ∷ rows) s (suc i) r e =
      let later = starts gap (row.1.end + gap) rows s.2 i r e in
      let p = s.1 in
      ap (λ b. cond b (Some row) (first_after r.0 rows)) (not_less r.0 row.0 (omega arith)) ∙ next_row gap (row.1.end + gap) rows s.2 i r e

  none_past : (rows : List (Row V)) (i : ℕ) → None ≡ slice_get rows i → length rows ≤ i
  none_past [] i e = omega arith
  none_past (row ∷ rows) zero e = cc
  none_past (row ∷ rows) (suc i) e = let h = none_past rows i e in omega arith

  -- what was read so far, with one row more, and at the end
  module _ {R : Type 0} (read : R → Option (Row V)) (rows : List (Row V)) (i : ℕ) (out : List R) (so_far : map read out ≡ map Some (take i rows)) where
    pub read_more : (row : R) (r : Row V) → read row ≡ Some r → Some r ≡ slice_get rows i → map read (out ++ row ∷ []) ≡ map Some (take (i + 1) rows)
    read_more row r h e =
        map-append read out (row ∷ []) ∙ ap (λ l. l ++ read row ∷ []) so_far ∙ ap (λ x. map Some (take i rows) ++ x ∷ []) h
        ∙ sym (ap (map Some) (take_more rows i r (slice_get_within rows i r (sym e)) ∙ ap (λ x. take i rows ++ x ∷ []) (get_or_from_slice_get rows i r r (sym e))) ∙ map-append Some (take i rows) (r ∷ []))

    pub read_all : None ≡ slice_get rows i → map read out ≡ map Some rows
    read_all e = so_far ∙ ap (map Some) (take_all i rows (none_past rows i e))

  pub row_after : (gap from : ℕ) (rows : List (Row V)) → IsSpaced gap from rows → (i : ℕ) (r : Row V) → Some r ≡ slice_get rows i → first_after r.0 rows ≡ slice_get rows (i + 1)
  row_after gap from rows s i r e = next_row gap from rows s i r (sym e) ∙ ap (slice_get rows) (let one : suc i ≡ i + 1 = omega arith in one)
