-- Rows of a list in order, each by the place where it begins.
use Rattle.std.proofs.Common.{◌≡◌, ℕ, ◌+◌, ◌<◌, ◌≤◌, Bool, true, false, cond, ◌&&◌, inl, inr, List, [], ◌∷◌, Option, Some, None, refl, ap, sym, ◌∙◌, min, max, arith}
use Rattle.std.specs.Prelude.{nat_le, ◌==◌, IfSome}
use Rattle.std.proofs.lemmas.Bool.{cases_lt}
use Rattle.std.proofs.lemmas.Bool.Decides.{nat_tests}
use Rattle.range_base.specs.declared.part.Part.{Part}
use Rattle.range_base.specs.Rows.{Row, cover, IsSpaced}
use Rattle.range_base.specs.Edits.{touching, start_of, end_of}
use Rattle.range_base.specs.Reads.{at}
use Rattle.range_base.proofs.Lookups.{at-cons, at-from}
use Rattle.range_base.proofs.Spacing.{IsEdged}

module _ {V : Type 0} where
  same_end : (p t : Part V) → Some p ≡ Some t → p.end ≡ t.end
  same_end p t e = cc

  -- of two rows the first ends before the other begins
  pub ends_before : (gap c a b : ℕ) (p t : Part V) (rs : List (Row V)) → IsSpaced gap c rs → at a rs ≡ Some p → at b rs ≡ Some t → a < b → p.end + gap ≤ b
  ends_before gap c a b p t [] s ea eb h = cc
  ends_before gap c a b p t (r ∷ rs) s ea eb h = by (at-cons a r rs) (at-cons b r rs) (λ f g. ends_before gap (r.1.end + gap) a b p t rs s.2 f g h) (λ e. at-from gap a (r.1.end + gap) p rs e s.2) (λ e. at-from gap b (r.1.end + gap) t rs e s.2)
    where
      by : at a (r ∷ rs) ≡ cond (a == r.0) (Some r.1) (at a rs) → at b (r ∷ rs) ≡ cond (b == r.0) (Some r.1) (at b rs) → (at a rs ≡ Some p → at b rs ≡ Some t → p.end + gap ≤ b)
          → (at a rs ≡ Some p → r.1.end + gap ≤ a) → (at b rs ≡ Some t → r.1.end + gap ≤ b) → p.end + gap ≤ b
      by ca cb ih fa fb =
          let xa : cond (a == r.0) (Some r.1) (at a rs) ≡ Some p = sym ca ∙ ea in
          let xb : cond (b == r.0) (Some r.1) (at b rs) ≡ Some t = sym cb ∙ eb in
          grind (arith, nat_tests, xa, xb, s.1)

  -- a row covers its units with its value
  pub covers : (gap c a u : ℕ) (p : Part V) (rs : List (Row V)) → IsSpaced gap c rs → at a rs ≡ Some p → a ≤ u → u < p.end → cover rs u ≡ Some p.value
  covers gap c a u p [] s e l h = cc
  covers gap c a u p (r ∷ rs) s e l h = by (sym (at-cons a r rs) ∙ e) (λ f. covers gap (r.1.end + gap) a u p rs s.2 f l h) (λ f. at-from gap a (r.1.end + gap) p rs f s.2)
    where
      by : cond (a == r.0) (Some r.1) (at a rs) ≡ Some p → (at a rs ≡ Some p → cover rs u ≡ Some p.value) → (at a rs ≡ Some p → r.1.end + gap ≤ a) → cover (r ∷ rs) u ≡ Some p.value
      by x ih f = grind (arith, nat_tests, x)

  -- the row that a place touches
  pub touching-row : (gap d c : ℕ) (rs : List (Row V)) → IsSpaced gap d rs → IfSome (touching c rs) (λ r. (at r.0 rs ≡ Some r.1) × (r.0 ≤ c) × (c ≤ r.1.end))
  touching-row gap d c [] s = tt
  touching-row gap d c (r ∷ rs) s = by (nat_le r.0 c && nat_le c r.1.end) refl (touching c rs) (touching-row gap (r.1.end + gap) c rs s.2)
    where
      by : (b : Bool) → (nat_le r.0 c && nat_le c r.1.end) ≡ b → (o : Option (Row V)) → IfSome o (λ t. (at t.0 rs ≡ Some t.1) × (t.0 ≤ c) × (c ≤ t.1.end)) → IfSome (cond b (Some r) o) (λ t. (at t.0 (r ∷ rs) ≡ Some t.1) × (t.0 ≤ c) × (c ≤ t.1.end))
      by true e o w = (at-cons r.0 r rs ∙ grind (arith, nat_tests), grind (arith, nat_tests), grind (arith, nat_tests))
      by false e None w = tt
      by false e (Some t) w =
          let from : r.1.end + gap ≤ t.0 = at-from gap t.0 (r.1.end + gap) t.1 rs w.0 s.2 in
          (at-cons t.0 r rs ∙ (let f = w.0 in grind (arith, nat_tests, s.1, from, f)), w.1, w.2)

  -- a place that touches no row
  pub touching-none : (c a : ℕ) (p : Part V) (rs : List (Row V)) → touching c rs ≡ None → at a rs ≡ Some p → a ≤ c → c ≤ p.end → ⊥
  touching-none c a p [] n e l h = cc
  touching-none c a p (r ∷ rs) n e l h = by (sym (at-cons a r rs) ∙ e) (λ m f. touching-none c a p rs m f l h)
    where
      by : cond (a == r.0) (Some r.1) (at a rs) ≡ Some p → (touching c rs ≡ None → at a rs ≡ Some p → ⊥) → ⊥
      by x ih = grind (arith, nat_tests, x, n)

  -- what holds at each place where a row begins holds of each row
  pub IsEdged-from_at : (gap c lo hi : ℕ) (rs : List (Row V)) → IsSpaced gap c rs
      → ((a : ℕ) (p : Part V) → at a rs ≡ Some p → (a < lo → min p.end lo + gap ≤ lo) × (hi < p.end → hi + gap ≤ max a hi)) → IsEdged gap lo hi rs
  IsEdged-from_at gap c lo hi [] s h = tt
  IsEdged-from_at gap c lo hi (r ∷ rs) s h =
      let here = h r.0 r.1 (at-cons r.0 r rs ∙ (let g : cond (r.0 == r.0) (Some r.1) (at r.0 rs) ≡ Some r.1 = grind (arith, nat_tests) in g)) in
      (here.0, here.1, IsEdged-from_at gap (r.1.end + gap) lo hi rs s.2 (λ a p e. h a p (at-cons a r rs ∙ (let from : r.1.end + gap ≤ a = at-from gap a (r.1.end + gap) p rs e s.2 in let ne = s.1 in grind (arith, nat_tests, e, from, ne)))))

  -- rows apart from the hull of a range and of the rows that it touches
  pub IsEdged-hull : (lo hi : ℕ) → lo < hi → (rs : List (Row V)) → IsSpaced 1 0 rs → IsEdged 1 (start_of lo (touching lo rs)) (end_of hi (touching hi rs)) rs
  IsEdged-hull lo hi h rs s = by (touching lo rs) refl (touching-row 1 0 lo rs s) (touching hi rs) refl (touching-row 1 0 hi rs s)
    where
      by : (a : Option (Row V)) → touching lo rs ≡ a → IfSome a (λ r. (at r.0 rs ≡ Some r.1) × (r.0 ≤ lo) × (lo ≤ r.1.end)) → (b : Option (Row V)) → touching hi rs ≡ b → IfSome b (λ r. (at r.0 rs ≡ Some r.1) × (r.0 ≤ hi) × (hi ≤ r.1.end))
          → IsEdged 1 (start_of lo a) (end_of hi b) rs
      by a ea wa b eb wb = IsEdged-from_at 1 0 (start_of lo a) (end_of hi b) rs s (λ k p e. (left a ea wa k p e, right b eb wb k p e))
        where
          left : (a : Option (Row V)) → touching lo rs ≡ a → IfSome a (λ r. (at r.0 rs ≡ Some r.1) × (r.0 ≤ lo) × (lo ≤ r.1.end)) → (k : ℕ) (p : Part V) → at k rs ≡ Some p → k < start_of lo a → min p.end (start_of lo a) + 1 ≤ start_of lo a
          left None ea wa k p e l = elim (cases_lt p.end lo) [ inl lt ↦ omega arith | inr le ↦ absurd (touching-none lo k p rs ea e (omega arith) le) ]
          left (Some t) ea wa k p e l = let f = ends_before 1 0 k t.0 p t.1 rs s e wa.0 l in omega (arith, f)

          right : (b : Option (Row V)) → touching hi rs ≡ b → IfSome b (λ r. (at r.0 rs ≡ Some r.1) × (r.0 ≤ hi) × (hi ≤ r.1.end)) → (k : ℕ) (p : Part V) → at k rs ≡ Some p → end_of hi b < p.end → end_of hi b + 1 ≤ max k (end_of hi b)
          right None eb wb k p e l = elim (cases_lt hi k) [ inl lt ↦ omega arith | inr le ↦ absurd (touching-none hi k p rs eb e le (omega arith)) ]
          right (Some t) eb wb k p e l = elim (cases_lt t.0 k) [
            | inl lt ↦ (let f = ends_before 1 0 t.0 k t.1 p rs s wb.0 e lt in omega (arith, f))
            | inr le ↦ elim (cases_lt k t.0) [
              | inl lt ↦ (let f = ends_before 1 0 k t.0 p t.1 rs s e wb.0 lt in absurd (omega (arith, f, l, wb.1, wb.2)))
              | inr ge ↦ (let key : k ≡ t.0 = omega arith in let same = same_end p t.1 (sym e ∙ ap (λ (j : ℕ). at j rs) key ∙ wb.0) in absurd (omega (arith, same, l)))
            ]
          ]
