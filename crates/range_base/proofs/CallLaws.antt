-- The units after each call.
use Rattle.std.proofs.Common.{◌≡◌, ℕ, ◌+◌, ◌<◌, ◌≤◌, true, cond, inl, inr, List, [], ◌∷◌, Option, Some, None, refl, ap, sym, ◌∙◌, arith}
use Rattle.std.specs.Prelude.{◌==◌, IfSome}
use Rattle.std.proofs.lemmas.Bool.{cases_lt}
use Rattle.std.proofs.lemmas.Bool.Decides.{nat_tests}
use Rattle.std.specs.BTreeMap.{insert_entry}
use Rattle.std.specs.Ordering.{nat_cmp}
use Rattle.range_base.specs.declared.part.Part.{Part}
use Rattle.range_base.specs.Rows.{Row, part, in_units, cover, CoverChanges, IsSpaced, IsDisjoint, IsApart, IsMaximalRun}
use Rattle.range_base.specs.Edits.{without_units, cut_out, put, add, touching, start_of, end_of}
use Rattle.range_base.specs.Reads.{at}
use Rattle.range_base.proofs.Lookups.{at-cons, at-from, at-some}
use Rattle.range_base.proofs.UnitLaws.{cover-before, cover-without_units, cover-put}
use Rattle.range_base.proofs.Members.{covers, touching-row}
use Rattle.range_base.proofs.RowsLemmas.{IsDisjoint-apart}

module _ {V : Type 0} where
  pub units-cut_out : (lo hi : ℕ) (rs : List (Row V)) (u : ℕ) → cover (cut_out lo hi rs) u ≡ cond (in_units lo hi u) None (cover rs u)
  units-cut_out lo hi rs u = elim (cases_lt lo hi) [
    | inl lt ↦ (let whole : cut_out lo hi rs ≡ without_units lo hi rs = grind (arith, nat_tests) in rw whole (cover-without_units lo hi lt rs u))
    | inr le ↦ (let same : cut_out lo hi rs ≡ rs = grind (arith, nat_tests) in rw same (grind (arith, nat_tests)))
  ]

  pub units-put : (lo hi : ℕ) (v : V) (rs : List (Row V)) → IsDisjoint rs → (u : ℕ) → cover (put lo hi v rs) u ≡ cond (in_units lo hi u) (Some v) (cover rs u)
  units-put lo hi v rs s u = elim (cases_lt lo hi) [
    | inl lt ↦ (let whole : put lo hi v rs ≡ insert_entry nat_cmp (without_units lo hi rs) lo (part hi v) = grind (arith, nat_tests) in rw whole (cover-put lo hi u v lt rs s))
    | inr le ↦ (let same : put lo hi v rs ≡ rs = grind (arith, nat_tests) in rw same (grind (arith, nat_tests)))
  ]

  pub units-add : ((x y : V) → x ≡ y) → (lo hi : ℕ) (v : V) (rs : List (Row V)) → IsApart rs → (u : ℕ) → cover (add lo hi v rs) u ≡ cond (in_units lo hi u) (Some v) (cover rs u)
  units-add one lo hi v rs s u = elim (cases_lt lo hi) [
    | inl lt ↦
        let whole : add lo hi v rs ≡ put (start_of lo (touching lo rs)) (end_of hi (touching hi rs)) v rs = grind (arith, nat_tests) in
        rw whole (units-put _ _ v rs (IsDisjoint-apart rs s) u ∙ step (touching lo rs) (touching-row 1 0 lo rs s) (touching hi rs) (touching-row 1 0 hi rs s) lt)
    | inr le ↦ (let same : add lo hi v rs ≡ rs = grind (arith, nat_tests) in rw same (grind (arith, nat_tests)))
  ]
    where
      covered : (t : Row V) → at t.0 rs ≡ Some t.1 → t.0 ≤ u → u < t.1.end → cover rs u ≡ Some v
      covered t e l h = covers 1 0 t.0 u t.1 rs s e l h ∙ ap Some (one t.1.value v)

      step : (a : Option (Row V)) → IfSome a (λ r. (at r.0 rs ≡ Some r.1) × (r.0 ≤ lo) × (lo ≤ r.1.end)) → (b : Option (Row V)) → IfSome b (λ r. (at r.0 rs ≡ Some r.1) × (r.0 ≤ hi) × (hi ≤ r.1.end)) → lo < hi
          → cond (in_units (start_of lo a) (end_of hi b) u) (Some v) (cover rs u) ≡ cond (in_units lo hi u) (Some v) (cover rs u)
      step None x None y h = refl
      step None x (Some t) y h = (let f = covered t y.0 in let y1 = y.1 in let y2 = y.2 in grind (arith, nat_tests, f, y1, y2))
      step (Some r) x None y h = (let f = covered r x.0 in let x1 = x.1 in let x2 = x.2 in grind (arith, nat_tests, f, x1, x2))
      step (Some r) x (Some t) y h = (let f = covered t y.0 in let y1 = y.1 in let y2 = y.2 in let g = covered r x.0 in let x1 = x.1 in let x2 = x.2 in grind (arith, nat_tests, f, g, x1, x2, y1, y2))

  -- ---- the clauses of the calls, where x and y are the places that a range has
  pub units_stay : (x y lo hi : ℕ) (v : Option V) (rs : List (Row V)) → x ≡ lo → y ≡ hi → x ≡ y → CoverChanges lo hi v rs rs
  units_stay x y lo hi v rs ex ey e u = grind (arith, nat_tests)

  pub units_put : (x y lo hi : ℕ) (v : V) (rs os ns : List (Row V)) → x ≡ lo → y ≡ hi → IsDisjoint rs → rs ≡ os → ns ≡ put x y v rs → CoverChanges lo hi (Some v) os ns
  units_put x y lo hi v rs os ns ex ey s eo en u = rw (en, ← eo, ← ex, ← ey) (units-put x y v rs s u)

  pub units_cut : (x y lo hi : ℕ) (rs os ns : List (Row V)) → x ≡ lo → y ≡ hi → x < y → rs ≡ os → ns ≡ without_units x y rs → CoverChanges lo hi None os ns
  units_cut x y lo hi rs os ns ex ey lt eo en u = rw (en, ← eo, ← ex, ← ey) (cover-without_units x y lt rs u)

  pub units_add : ((x y : V) → x ≡ y) → (x y lo hi : ℕ) (v : V) (rs os ns : List (Row V)) → x ≡ lo → y ≡ hi → IsApart rs → rs ≡ os → ns ≡ add x y v rs → CoverChanges lo hi (Some v) os ns
  units_add one x y lo hi v rs os ns ex ey s eo en u = rw (en, ← eo, ← ex, ← ey) (units-add one x y v rs s u)

  -- ---- rows that are apart are the longest runs of the units that they cover
  cover-end : (c a : ℕ) (p : Part V) (rs : List (Row V)) → IsSpaced 1 c rs → at a rs ≡ Some p → cover rs p.end ≡ None
  cover-end c a p [] s e = refl
  cover-end c a p (r ∷ rs) s e =
      let rest = cover-end (r.1.end + 1) a p rs s.2 in
      let late : (u : ℕ) → u < r.1.end + 1 → cover rs u ≡ None = λ u l. cover-before 1 (r.1.end + 1) u rs l s.2 in
      let here : cond (a == r.0) (Some r.1) (at a rs) ≡ Some p = sym (at-cons a r rs) ∙ e in
      let from : at a rs ≡ Some p → r.1.end + 1 ≤ a = λ f. at-from 1 a (r.1.end + 1) p rs f s.2 in
      let some : at a rs ≡ Some p → a < p.end = λ f. at-some 1 (r.1.end + 1) a p rs s.2 f in
      by here rest (late p.end) from some
    where
      by : cond (a == r.0) (Some r.1) (at a rs) ≡ Some p → (at a rs ≡ Some p → cover rs p.end ≡ None) → (p.end < r.1.end + 1 → cover rs p.end ≡ None)
          → (at a rs ≡ Some p → r.1.end + 1 ≤ a) → (at a rs ≡ Some p → a < p.end) → cover (r ∷ rs) p.end ≡ None
      by here rest late from some = grind (arith, nat_tests, here, s.1)

  cover-edge : (c a u : ℕ) (p : Part V) (rs : List (Row V)) → IsSpaced 1 c rs → at a rs ≡ Some p → u + 1 ≡ a → cover rs u ≡ None
  cover-edge c a u p [] s e h = refl
  cover-edge c a u p (r ∷ rs) s e h =
      let here : cond (a == r.0) (Some r.1) (at a rs) ≡ Some p = sym (at-cons a r rs) ∙ e in
      by here (λ f. cover-edge (r.1.end + 1) a u p rs s.2 f h) (λ l. cover-before 1 (r.1.end + 1) u rs l s.2) (λ f. at-from 1 a (r.1.end + 1) p rs f s.2)
    where
      by : cond (a == r.0) (Some r.1) (at a rs) ≡ Some p → (at a rs ≡ Some p → cover rs u ≡ None) → (u < r.1.end + 1 → cover rs u ≡ None) → (at a rs ≡ Some p → r.1.end + 1 ≤ a) → cover (r ∷ rs) u ≡ None
      by here rest late from = grind (arith, nat_tests, here, s.1)

  pub maximal_run : (a : ℕ) (p : Part V) (rs : List (Row V)) → IsApart rs → at a rs ≡ Some p → IsMaximalRun rs (a, p)
  maximal_run a p rs s e = record {
    within = λ u h. covers 1 0 a u p rs s e (lower u h) (upper u h);
    before = λ u h. cover-edge 0 a u p rs s e h;
    after = cover-end 0 a p rs s e;
  }
    where
      lower : (u : ℕ) → in_units a p.end u ≡ true → a ≤ u
      lower u h = grind (arith, nat_tests)

      upper : (u : ℕ) → in_units a p.end u ≡ true → u < p.end
      upper u h = grind (arith, nat_tests)

  pub add_is : (lo hi a b : ℕ) (v : V) (rs ns : List (Row V)) → lo < hi → a ≡ start_of lo (touching lo rs) → b ≡ end_of hi (touching hi rs) → ns ≡ put a b v rs → ns ≡ add lo hi v rs
  add_is lo hi a b v rs ns lt ea eb en =
      let whole : add lo hi v rs ≡ put (start_of lo (touching lo rs)) (end_of hi (touching hi rs)) v rs = grind (arith, nat_tests) in
      en ∙ (rw (ea, eb) (sym whole))
