-- What the calls of a range set and of a range map cite.
use Rattle.std.proofs.Common.{◌≡◌, ℕ, ◌+◌, ◌-◌, ◌<◌, ◌≤◌, Bool, true, false, cond, ◌&&◌, inl, inr, List, [], ◌∷◌, Option, Some, None, ap, sym, ◌∙◌, subst, arith}
use Rattle.std.specs.Prelude.{nat_lt, nat_le, IfSome}
use Rattle.std.proofs.lemmas.Bool.{cases_lt}
use Rattle.std.proofs.lemmas.Bool.Decides.{nat_tests}
use Rattle.std.specs.Bool.{Decides}
use Rattle.std.specs.Ordering.{nat_cmp}
use Rattle.std.specs.BTreeMap.{insert_entry}
use Rattle.elem.specs.Places.{IsPlace}
use Rattle.range_base.specs.Rows.{Row, part, IsSpaced, IsDisjoint, IsApart}
use Rattle.range_base.specs.Edits.{without_units, put, add, touching, start_of, end_of}
use Rattle.range_base.specs.Reads.{at, last_up_to}
use Rattle.range_base.specs.Ends.{AllEnds, IsMapRows, IsSetRows}
use Rattle.range_base.proofs.Spacing.{IsSpaced-without_units, IsSpaced-put, IsEdged-disjoint}
use Rattle.range_base.proofs.Lookups.{last-row, if_touching, touching_is}
use Rattle.range_base.proofs.Members.{touching-row, IsEdged-hull}
use Rattle.range_base.proofs.Changes.{EndsBefore, without_units-free, without_units-differs, IsFree-last, put-same, put-differs}
use Rattle.range_base.proofs.EndLemmas.{AllEnds-without_units, AllEnds-insert}

module _ {V : Type 0} where
  spaced_more : (gap c d : ℕ) (rs : List (Row V)) → c ≤ d → IsSpaced gap d rs → IsSpaced 0 c rs
  spaced_more gap c d [] le s = tt
  spaced_more gap c d (r ∷ rs) le s = (omega (arith, s.0), s.1, spaced_more gap (r.1.end + 0) (r.1.end + gap) rs (omega arith) s.2)

  pub IsDisjoint-apart : (rs : List (Row V)) → IsApart rs → IsDisjoint rs
  IsDisjoint-apart rs s = spaced_more 1 0 0 rs (omega arith) s

  -- ---- reads
  pub touching_found : (c : ℕ) (r : Row V) (rs : List (Row V)) → IsApart rs → Some r ≡ last_up_to c rs → c ≤ r.1.end → Some r ≡ touching c rs
  touching_found c r rs s e le =
      let row = subst (λ (o : Option (Row V)). IfSome o (λ t. (at t.0 rs ≡ Some t.1) × (t.0 ≤ c) × (0 ≤ t.0))) (sym e) (last-row 1 0 c rs s) in
      let here : Some r ≡ if_touching c (Some r) = (let up = row.1 in grind (arith, nat_tests, up)) in
      here ∙ sym (touching_is c rs s ∙ ap (if_touching c) (sym e))

  pub overlaps_some : (lo hi : ℕ) → lo < hi → (r : Row V) (rs : List (Row V)) → IsDisjoint rs → Some r ≡ last_up_to (hi - 1) rs
      → (nat_lt lo r.1.end ≡ false → without_units lo hi rs ≡ rs) × (without_units lo hi rs ≡ rs → nat_lt lo r.1.end ≡ false)
  overlaps_some lo hi h r rs s e = (
    λ f. without_units-free lo hi h 0 rs s (IsFree-last lo hi h 0 rs s (subst (EndsBefore lo) e (let le : r.1.end ≤ lo = grind (arith, nat_tests) in le))),
    λ same. elim (cases_lt lo r.1.end) [
      | inl lt ↦ (let row = subst (λ (o : Option (Row V)). IfSome o (λ t. (at t.0 rs ≡ Some t.1) × (t.0 ≤ hi - 1) × (0 ≤ t.0))) (sym e) (last-row 0 0 (hi - 1) rs s) in
          absurd (without_units-differs lo hi h rs s r.0 r.1 row.0 (let up = row.1 in omega (arith, up)) lt same))
      | inr le ↦ grind (arith, nat_tests)
    ],
  )

  pub overlaps_none : (lo hi : ℕ) → lo < hi → (rs : List (Row V)) → IsDisjoint rs → None ≡ last_up_to (hi - 1) rs → without_units lo hi rs ≡ rs
  overlaps_none lo hi h rs s e = without_units-free lo hi h 0 rs s (IsFree-last lo hi h 0 rs s (subst (EndsBefore lo) e tt))

  -- ---- the rows after an edit
  pub IsMapRows-without_units : (lo hi : ℕ) → lo < hi → IsPlace lo → IsPlace hi → (rs ns : List (Row V)) → IsMapRows rs → ns ≡ without_units lo hi rs → IsMapRows ns
  IsMapRows-without_units lo hi h p q rs ns s e = rw e (record {
    disjoint = IsSpaced-without_units 0 lo hi (omega arith) 0 rs s.disjoint;
    places = AllEnds-without_units IsPlace lo hi p q rs s.places;
  })

  pub IsSetRows-without_units : (lo hi : ℕ) → lo < hi → IsPlace lo → IsPlace hi → (rs ns : List (Row V)) → IsSetRows rs → ns ≡ without_units lo hi rs → IsSetRows ns
  IsSetRows-without_units lo hi h p q rs ns s e = rw e (record {
    apart = IsSpaced-without_units 1 lo hi (omega arith) 0 rs s.apart;
    places = AllEnds-without_units IsPlace lo hi p q rs s.places;
  })

  put_whole : (lo hi : ℕ) (v : V) (rs : List (Row V)) → lo < hi → put lo hi v rs ≡ insert_entry nat_cmp (without_units lo hi rs) lo (part hi v)
  put_whole lo hi v rs h = grind (arith, nat_tests)

  pub IsMapRows-put : (lo hi : ℕ) (v : V) → lo < hi → IsPlace lo → IsPlace hi → (rs ns : List (Row V)) → IsMapRows rs → ns ≡ put lo hi v rs → IsMapRows ns
  IsMapRows-put lo hi v h p q rs ns s e = rw (e ∙ put_whole lo hi v rs h) (record {
    disjoint = IsSpaced-put 0 lo hi v h (omega arith) rs s.disjoint (IsEdged-disjoint lo hi rs);
    places = AllEnds-insert IsPlace lo hi v p q (without_units lo hi rs) (AllEnds-without_units IsPlace lo hi p q rs s.places);
  })

  -- ---- the hull of a range and of the rows that it touches
  pub hull_order : (lo hi : ℕ) → lo < hi → (rs : List (Row V)) → IsApart rs → start_of lo (touching lo rs) < end_of hi (touching hi rs)
  hull_order lo hi h rs s = by (touching lo rs) (touching-row 1 0 lo rs s) (touching hi rs) (touching-row 1 0 hi rs s)
    where
      by : (a : Option (Row V)) → IfSome a (λ r. (at r.0 rs ≡ Some r.1) × (r.0 ≤ lo) × (lo ≤ r.1.end)) → (b : Option (Row V)) → IfSome b (λ r. (at r.0 rs ≡ Some r.1) × (r.0 ≤ hi) × (hi ≤ r.1.end)) → start_of lo a < end_of hi b
      by None u None w = h
      by None u (Some t) w = omega (arith, w.2)
      by (Some t) u None w = omega (arith, u.1)
      by (Some t) u (Some r) w = omega (arith, u.1, w.2)

  AllEnds-at : (P : ℕ → Type 0) (c : ℕ) (rs : List (Row V)) → AllEnds P rs → IfSome (touching c rs) (λ r. P r.0 × P r.1.end)
  AllEnds-at P c [] a = tt
  AllEnds-at P c (r ∷ rs) a = by (nat_le r.0 c && nat_le c r.1.end) (AllEnds-at P c rs a.2)
    where
      by : (b : Bool) → IfSome (touching c rs) (λ t. P t.0 × P t.1.end) → IfSome (cond b (Some r) (touching c rs)) (λ t. P t.0 × P t.1.end)
      by true e = (a.0, a.1)
      by false e = e

  start_at_place : (P : ℕ → Type 0) (c : ℕ) (o : Option (Row V)) → P c → IfSome o (λ r. P r.0 × P r.1.end) → P (start_of c o)
  start_at_place P c None p e = p
  start_at_place P c (Some r) p e = e.0

  end_at_place : (P : ℕ → Type 0) (c : ℕ) (o : Option (Row V)) → P c → IfSome o (λ r. P r.0 × P r.1.end) → P (end_of c o)
  end_at_place P c None p e = p
  end_at_place P c (Some r) p e = e.1

  pub IsSetRows-add : (lo hi : ℕ) (v : V) → lo < hi → IsPlace lo → IsPlace hi → (rs ns : List (Row V)) → IsSetRows rs → ns ≡ put (start_of lo (touching lo rs)) (end_of hi (touching hi rs)) v rs → IsSetRows ns
  IsSetRows-add lo hi v h p q rs ns s e =
      let a = start_of lo (touching lo rs) in
      let b = end_of hi (touching hi rs) in
      let order : a < b = hull_order lo hi h rs s.apart in
      let pa = start_at_place IsPlace lo (touching lo rs) p (AllEnds-at IsPlace lo rs s.places) in
      let pb = end_at_place IsPlace hi (touching hi rs) q (AllEnds-at IsPlace hi rs s.places) in
      rw (e ∙ put_whole a b v rs order) (record {
        apart = IsSpaced-put 1 a b v order (omega arith) rs s.apart (IsEdged-hull lo hi h rs s.apart);
        places = AllEnds-insert IsPlace a b v pa pb (without_units a b rs) (AllEnds-without_units IsPlace a b pa pb rs s.places);
      })

  pub add_same : (lo hi : ℕ) (v : V) → lo < hi → (rs : List (Row V)) → IsApart rs → at (start_of lo (touching lo rs)) rs ≡ Some (part (end_of hi (touching hi rs)) v) → rs ≡ add lo hi v rs
  add_same lo hi v h rs s e =
      let whole : add lo hi v rs ≡ put (start_of lo (touching lo rs)) (end_of hi (touching hi rs)) v rs = grind (arith, nat_tests) in
      sym (whole ∙ put-same _ _ v (hull_order lo hi h rs s) rs (IsDisjoint-apart rs s) e)

  -- ---- what a put answers
  pub put_changed : (lo hi : ℕ) (v : V) → lo < hi → (rs os ns : List (Row V)) (b : Bool) → b ≡ false → Decides b (at lo rs ≡ Some (part hi v)) → rs ≡ os → ns ≡ put lo hi v rs
      → (true ≡ false → ns ≡ os) × (ns ≡ os → true ≡ false)
  put_changed lo hi v h rs os ns b f d e n = (λ x. absurd (cc), λ same. sym (d.1 (put-differs lo hi v h rs (sym n ∙ same ∙ sym e))) ∙ f)

  pub put_again : (lo hi : ℕ) (v : V) → lo < hi → (rs os : List (Row V)) → IsDisjoint rs → rs ≡ os → at lo rs ≡ Some (part hi v) → os ≡ put lo hi v os
  put_again lo hi v h rs os s e f = rw (← e) (sym (put-same lo hi v h rs s f))

  pub add_again : (lo hi : ℕ) (v : V) → lo < hi → (rs os : List (Row V)) → IsApart rs → rs ≡ os → at (start_of lo (touching lo rs)) rs ≡ Some (part (end_of hi (touching hi rs)) v) → os ≡ add lo hi v os
  add_again lo hi v h rs os s e f = rw (← e) (add_same lo hi v h rs s f)
