-- What the writes of an edit leave.
use Rattle.std.proofs.Common.{◌≡◌, ℕ, ◌+◌, ◌<◌, ◌≤◌, cond, ◌&&◌, List, Option, Some, None, refl, ap, sym, ◌∙◌, subst, arith}
use Rattle.std.specs.Prelude.{◌==◌, IfSome, IsSome, is_some}
use Rattle.std.proofs.Common.{inl, inr}
use Rattle.std.proofs.lemmas.Bool.{cases_lt}
use Rattle.std.proofs.lemmas.Bool.Decides.{nat_tests}
use Rattle.std.specs.List.Sorted.{IsStrictlySortedBy}
use Rattle.std.specs.Map.{keys_of}
use Rattle.std.specs.Ordering.{nat_cmp}
use Rattle.std.specs.BTreeMap.{insert_entry}
use Rattle.range_base.specs.declared.part.Part.{Part}
use Rattle.range_base.specs.Rows.{Row, part, in_units, IsDisjoint}
use Rattle.range_base.specs.Edits.{without_units, put}
use Rattle.range_base.specs.Reads.{at, spanning, head, tail, with_row}
use Rattle.range_base.proofs.Spacing.{IsSpaced-without_units, IsSpaced-put, IsEdged-disjoint, IsOrdered-spaced}
use Rattle.range_base.proofs.Lookups.{at-without_units, at-insert, same_rows, spanning-row, spanning-inside}

module _ {V : Type 0} where
  -- the row before stays where it was when a row was written at a later place
  row_stays : (o b : Option (Row V)) (lo hi : ℕ) (rs ms : List (Row V)) → lo < hi → ((q : ℕ) → at q ms ≡ with_row (tail hi b) q (at q rs))
      → IfSome o (λ r. (at r.0 rs ≡ Some r.1) × (r.0 < lo) × (lo < r.1.end)) → IfSome o (λ r. at r.0 ms ≡ Some r.1)
  row_stays None b lo hi rs ms h e w = tt
  row_stays (Some r) None lo hi rs ms h e w = e r.0 ∙ w.0
  row_stays (Some r) (Some t) lo hi rs ms h e w = e r.0 ∙ (let below = w.1 in let f = w.0 in grind (arith, nat_tests, f, below))

  pub before_stays : (lo hi : ℕ) → lo < hi → (rs ms : List (Row V)) → IsDisjoint rs → (a b : Option (Row V)) → a ≡ spanning lo rs
      → ((q : ℕ) → at q ms ≡ with_row (tail hi b) q (at q rs)) → IfSome a (λ r. at r.0 ms ≡ Some r.1)
  before_stays lo hi h rs ms s a b e m =
      row_stays a b lo hi rs ms h m (subst (λ (o : Option (Row V)). IfSome o (λ r. (at r.0 rs ≡ Some r.1) × (r.0 < lo) × (lo < r.1.end))) (sym e) (spanning-row 0 0 lo rs s))

  pub cut_is : (lo hi : ℕ) → lo < hi → (rs m1 m2 m3 : List (Row V)) → IsDisjoint rs → (a b : Option (Row V)) → a ≡ spanning lo rs → b ≡ spanning hi rs
      → ((q : ℕ) → at q m1 ≡ with_row (tail hi b) q (at q rs)) → ((q : ℕ) → at q m2 ≡ with_row (head lo a) q (at q m1)) → ((q : ℕ) → at q m3 ≡ cond (in_units lo hi q) None (at q m2))
      → IsStrictlySortedBy nat_cmp (keys_of m3) → m3 ≡ without_units lo hi rs
  cut_is lo hi h rs m1 m2 m3 s a b ea eb e1 e2 e3 o =
      same_rows m3 (without_units lo hi rs) o (IsOrdered-spaced 0 0 _ (IsSpaced-without_units 0 lo hi (omega arith) 0 rs s))
      (λ q. e3 q ∙ (rw (e2 q, e1 q, ea, eb) (sym (at-without_units q 0 lo hi h 0 rs s))))

  -- the row before is not written from lo on
  head-beside : (a : Option (Row V)) (lo q : ℕ) (y : Option (Part V)) (rs : List (Row V)) → IfSome a (λ r. (at r.0 rs ≡ Some r.1) × (r.0 < lo) × (lo < r.1.end)) → lo ≤ q → with_row (head lo a) q y ≡ y
  head-beside None lo q y rs w le = refl
  head-beside (Some r) lo q y rs w le = let below = w.1 in grind (arith, nat_tests, below)

  pub put_is : (lo hi : ℕ) (v : V) → lo < hi → (rs m1 m2 m3 m4 : List (Row V)) → IsDisjoint rs → (a b : Option (Row V)) → a ≡ spanning lo rs → b ≡ spanning hi rs
      → ((q : ℕ) → at q m1 ≡ with_row (tail hi b) q (at q rs)) → ((q : ℕ) → at q m2 ≡ with_row (Some (lo, part hi v)) q (at q m1)) → ((q : ℕ) → at q m3 ≡ with_row (head lo a) q (at q m2)) → ((q : ℕ) → at q m4 ≡ cond (in_units (lo + 1) hi q) None (at q m3))
      → IsStrictlySortedBy nat_cmp (keys_of m4) → m4 ≡ put lo hi v rs
  put_is lo hi v h rs m1 m2 m3 m4 s a b ea eb e1 e2 e3 e4 o =
      let whole : put lo hi v rs ≡ insert_entry nat_cmp (without_units lo hi rs) lo (part hi v) = grind (arith, nat_tests) in
      let fact : IfSome a (λ r. (at r.0 rs ≡ Some r.1) × (r.0 < lo) × (lo < r.1.end)) =
      subst (λ (o : Option (Row V)). IfSome o (λ r. (at r.0 rs ≡ Some r.1) × (r.0 < lo) × (lo < r.1.end))) (sym ea) (spanning-row 0 0 lo rs s)
      in
      let after : (q : ℕ) → at q (insert_entry nat_cmp (without_units lo hi rs) lo (part hi v)) ≡ cond (q == lo) (Some (part hi v)) (cond (in_units lo hi q) None (with_row (head lo a) q (with_row (tail hi b) q (at q rs)))) =
      λ q. at-insert q lo (part hi v) (without_units lo hi rs) ∙ (rw (at-without_units q 0 lo hi h 0 rs s, ea, eb) refl)
      in
      rw whole (same_rows m4 _ o (IsOrdered-spaced 0 0 _ (IsSpaced-put 0 lo hi v h (omega arith) rs s (IsEdged-disjoint lo hi rs)))
      (λ q. e4 q ∙ (rw (e3 q, e2 q, e1 q) (step q (λ y le. head-beside a lo q y rs fact le))) ∙ sym (after q)))
    where
      step : (q : ℕ) → ((y : Option (Part V)) → lo ≤ q → with_row (head lo a) q y ≡ y)
          → cond (in_units (lo + 1) hi q) None (with_row (head lo a) q (cond (q == lo) (Some (part hi v)) (with_row (tail hi b) q (at q rs))))
          ≡ cond (q == lo) (Some (part hi v)) (cond (in_units lo hi q) None (with_row (head lo a) q (with_row (tail hi b) q (at q rs))))
      step q w = grind (arith, nat_tests)

  -- the rows are as before when the only write is taken back
  pub taken_back : (hi : ℕ) (rs m1 m2 m3 : List (Row V)) → IsDisjoint rs → (b : Option (Row V)) → b ≡ spanning hi rs
      → ((q : ℕ) → at q m1 ≡ with_row (tail hi b) q (at q rs)) → m2 ≡ m1 → ((q : ℕ) → at q m3 ≡ cond (is_some b && (q == hi)) None (at q m2))
      → IsStrictlySortedBy nat_cmp (keys_of m3) → m3 ≡ rs
  taken_back hi rs m1 m2 m3 s b eb e1 e2 e3 o =
      same_rows m3 rs o (IsOrdered-spaced 0 0 rs s) (λ q. e3 q ∙ (rw (e2, e1 q) (step b (λ w. spanning-inside 0 0 hi rs s (subst (λ (o : Option (Row V)). IsSome o) eb w)) q)))
    where
      step : (b : Option (Row V)) → (IsSome b → at hi rs ≡ None) → (q : ℕ) → cond (is_some b && (q == hi)) None (with_row (tail hi b) q (at q rs)) ≡ at q rs
      step None n q = refl
      step (Some r) n q = elim (cases_lt q hi) [
        | inl lt ↦ grind (arith, nat_tests)
        | inr le ↦ elim (cases_lt hi q) [ inl lt ↦ grind (arith, nat_tests) | inr ge ↦ (let e : hi ≡ q = omega arith in let none : at q rs ≡ None = ap (λ (k : ℕ). at k rs) (sym e) ∙ n refl in rw none (grind (arith, nat_tests))) ]
      ]

  -- the row before stays, where one was also written at lo
  pub before_stays_twice : (lo hi : ℕ) (v : V) → lo < hi → (rs m1 m2 : List (Row V)) → IsDisjoint rs → (a b : Option (Row V)) → a ≡ spanning lo rs
      → ((q : ℕ) → at q m1 ≡ with_row (tail hi b) q (at q rs)) → ((q : ℕ) → at q m2 ≡ with_row (Some (lo, part hi v)) q (at q m1)) → IfSome a (λ r. at r.0 m2 ≡ Some r.1)
  before_stays_twice lo hi v h rs m1 m2 s a b ea e1 e2 =
      step a (subst (λ (o : Option (Row V)). IfSome o (λ r. (at r.0 rs ≡ Some r.1) × (r.0 < lo) × (lo < r.1.end))) (sym ea) (spanning-row 0 0 lo rs s)) (before_stays lo hi h rs m1 s a b ea e1)
    where
      step : (a : Option (Row V)) → IfSome a (λ r. (at r.0 rs ≡ Some r.1) × (r.0 < lo) × (lo < r.1.end)) → IfSome a (λ r. at r.0 m1 ≡ Some r.1) → IfSome a (λ r. at r.0 m2 ≡ Some r.1)
      step None w e = tt
      step (Some r) w e = let below = w.1 in e2 r.0 ∙ (rw e (grind (arith, nat_tests, below)))
