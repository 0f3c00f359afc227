-- Which edits change the rows.
use Rattle.std.proofs.Common.{◌≡◌, ℕ, ◌+◌, ◌-◌, ◌<◌, ◌≤◌, cond, inl, inr, List, [], ◌∷◌, Option, Some, None, refl, ap, sym, ◌∙◌, subst, max, arith}
use Rattle.std.specs.Prelude.{nat_le, ◌==◌, IfSome, IsSome, ⊤}
use Rattle.std.specs.Option.{unwrap_or}
use Rattle.std.proofs.lemmas.Bool.{cases_lt}
use Rattle.std.proofs.lemmas.Bool.Decides.{nat_tests}
use Rattle.std.specs.Ordering.{nat_cmp}
use Rattle.std.specs.BTreeMap.{insert_entry}
use Rattle.range_base.specs.declared.part.Part.{Part}
use Rattle.range_base.specs.Rows.{Row, part, in_units, cover, IsSpaced}
use Rattle.range_base.specs.Edits.{without_units, put}
use Rattle.range_base.specs.Reads.{at, last_up_to, spanning, head, tail, with_row}
use Rattle.range_base.proofs.Spacing.{IsSpaced-put, IsEdged-disjoint, IsOrdered-spaced, IsFree}
use Rattle.range_base.proofs.Lookups.{at-some, last-row, at-without_units, at-insert, same_rows, spanning-row, spanning-inside}
use Rattle.range_base.proofs.Members.{ends_before, covers}
use Rattle.range_base.proofs.UnitLaws.{cover-without_units}

module _ {V : Type 0} where
  -- a row that stands there already
  pub put-same : (lo hi : ℕ) (v : V) → lo < hi → (rs : List (Row V)) → IsSpaced 0 0 rs → at lo rs ≡ Some (part hi v) → put lo hi v rs ≡ rs
  put-same lo hi v h rs s e =
      let whole : put lo hi v rs ≡ insert_entry nat_cmp (without_units lo hi rs) lo (part hi v) = grind (arith, nat_tests) in
      whole ∙ same_rows _ rs (IsOrdered-spaced 0 0 _ (IsSpaced-put 0 lo hi v h (omega arith) rs s (IsEdged-disjoint lo hi rs))) (IsOrdered-spaced 0 0 rs s)
      (λ q. at-insert q lo (part hi v) (without_units lo hi rs) ∙ (rw (at-without_units q 0 lo hi h 0 rs s) (step q (at q rs) refl (spanning lo rs) (λ w. spanning-inside 0 0 lo rs s w) (spanning hi rs) (spanning-row 0 0 hi rs s))))
    where
      not_both : {o : Option (Part V)} {p : Part V} → o ≡ Some p → o ≡ None → ⊥
      not_both a b = cc

      before_hi : (t : Row V) → (at t.0 rs ≡ Some t.1) × (t.0 < hi) × (hi < t.1.end) → ⊥
      before_hi t w = elim (cases_lt t.0 lo) [
        | inl lt ↦ (let f = ends_before 0 0 t.0 lo t.1 (part hi v) rs s w.0 e lt in omega (arith, f, w.2))
        | inr ge ↦ elim (cases_lt lo t.0) [
          | inl lt ↦ (let f = ends_before 0 0 lo t.0 (part hi v) t.1 rs s e w.0 lt in omega (arith, f, w.1))
          | inr le ↦ (let key : t.0 ≡ lo = omega arith in let same : Some t.1 ≡ Some (part hi v) = sym w.0 ∙ ap (λ (j : ℕ). at j rs) key ∙ e in let ends : t.1.end ≡ hi = same_ends t.1 (part hi v) same in omega (arith, ends, w.2))
        ]
      ]
        where
          same_ends : (p t : Part V) → Some p ≡ Some t → p.end ≡ t.end
          same_ends p t e = cc

      step : (q : ℕ) (o : Option (Part V)) → at q rs ≡ o → (a : Option (Row V)) → (IsSome a → at lo rs ≡ None) → (b : Option (Row V)) → IfSome b (λ r. (at r.0 rs ≡ Some r.1) × (r.0 < hi) × (hi < r.1.end))
          → cond (q == lo) (Some (part hi v)) (cond (in_units lo hi q) None (with_row (head lo a) q (with_row (tail hi b) q o))) ≡ o
      step q o eo (Some r) na b nb = absurd (not_both e (na refl))
      step q o eo None na (Some t) nb = absurd (before_hi t nb)
      step q None eo None na None nb = elim (cases_lt q lo) [
        | inl lt ↦ grind (arith, nat_tests)
        | inr ge ↦ elim (cases_lt lo q) [ inl lt ↦ grind (arith, nat_tests) | inr le ↦ (let key : lo ≡ q = omega arith in absurd (not_both e (ap (λ (j : ℕ). at j rs) key ∙ eo))) ]
      ]
      step q (Some p) eo None na None nb = elim (cases_lt q lo) [
        | inl lt ↦ grind (arith, nat_tests)
        | inr ge ↦ elim (cases_lt lo q) [
          | inl lt ↦ (let f = ends_before 0 0 lo q (part hi v) p rs s e eo lt in grind (arith, nat_tests, f))
          | inr le ↦ (let key : lo ≡ q = omega arith in let same : Some (part hi v) ≡ Some p = sym e ∙ ap (λ (j : ℕ). at j rs) key ∙ eo in rw (← same) (grind (arith, nat_tests)))
        ]
      ]

  -- a row that did not stand there
  pub put-differs : (lo hi : ℕ) (v : V) → lo < hi → (rs : List (Row V)) → put lo hi v rs ≡ rs → at lo rs ≡ Some (part hi v)
  put-differs lo hi v h rs e =
      let whole : put lo hi v rs ≡ insert_entry nat_cmp (without_units lo hi rs) lo (part hi v) = grind (arith, nat_tests) in
      let there : cond (lo == lo) (Some (part hi v)) (at lo (without_units lo hi rs)) ≡ Some (part hi v) = grind (arith, nat_tests) in
      ap (at lo) (sym e ∙ whole) ∙ at-insert lo lo (part hi v) (without_units lo hi rs) ∙ there

  -- no row is cut
  pub without_units-free : (lo hi : ℕ) → lo < hi → (c : ℕ) (rs : List (Row V)) → IsSpaced 0 c rs → IsFree 0 lo hi rs → without_units lo hi rs ≡ rs
  without_units-free lo hi h c [] s f = refl
  without_units-free lo hi h c (r ∷ rs) s f =
      let rest = without_units-free lo hi h (r.1.end + 0) rs s.2 f.1 in
      rw rest (elim f.0 [ inl e ↦ grind (arith, nat_tests, e, s.1) | inr e ↦ grind (arith, nat_tests, e, s.1) ])

  -- the last row that begins below hi ends before lo, or there is none
  abbrev pub EndsBefore : ℕ → Option (Row V) → Type 0
  EndsBefore lo None = ⊤
  EndsBefore lo (Some r) = r.1.end ≤ lo

  IsFree-after : (lo hi c : ℕ) (rs : List (Row V)) → hi ≤ c → IsSpaced 0 c rs → IsFree 0 lo hi rs
  IsFree-after lo hi c [] le s = tt
  IsFree-after lo hi c (r ∷ rs) le s = (inr (omega (arith, s.0)), IsFree-after lo hi (r.1.end + 0) rs (omega (arith, s.0, s.1)) s.2)

  pub IsFree-last : (lo hi : ℕ) → lo < hi → (c : ℕ) (rs : List (Row V)) → IsSpaced 0 c rs → EndsBefore lo (last_up_to (hi - 1) rs) → IsFree 0 lo hi rs
  IsFree-last lo hi h c [] s e = tt
  IsFree-last lo hi h c (r ∷ rs) s e = elim (cases_lt r.0 hi) [
    | inr ge ↦ (inr (omega (arith, ge)), IsFree-after lo hi (r.1.end + 0) rs (omega (arith, ge, s.1)) s.2)
    | inl lt ↦
        let first : cond (nat_le r.0 (hi - 1)) (Some (unwrap_or (last_up_to (hi - 1) rs) r)) None ≡ Some (unwrap_or (last_up_to (hi - 1) rs) r) = grind (arith, nat_tests) in
        by (last_up_to (hi - 1) rs) (last-row 0 (r.1.end + 0) (hi - 1) rs s.2) (λ f. IsFree-last lo hi h (r.1.end + 0) rs s.2 f) (subst (EndsBefore lo) first e)
  ]
    where
      by : (o : Option (Row V)) → IfSome o (λ t. (at t.0 rs ≡ Some t.1) × (t.0 ≤ hi - 1) × (r.1.end + 0 ≤ t.0)) → (EndsBefore lo o → IsFree 0 lo hi rs) → EndsBefore lo (Some (unwrap_or o r)) → IsFree 0 lo hi (r ∷ rs)
      by None w f e = (inl (omega (arith, e)), f tt)
      by (Some t) w f e = (inl (let g = w.2 in let some = at-some 0 (r.1.end + 0) t.0 t.1 rs s.2 w.0 in omega (arith, e, g, some)), f e)

  -- a row is cut
  pub without_units-differs : (lo hi : ℕ) → lo < hi → (rs : List (Row V)) → IsSpaced 0 0 rs → (a : ℕ) (p : Part V) → at a rs ≡ Some p → a < hi → lo < p.end → without_units lo hi rs ≡ rs → ⊥
  without_units-differs lo hi h rs s a p e below above same =
      let some = at-some 0 0 a p rs s e in
      let gone = sym (cover-without_units lo hi h rs (max a lo)) ∙ ap (λ (ts : List (Row V)). cover ts (max a lo)) same in
      let here = covers 0 0 a (max a lo) p rs s e (omega arith) (omega arith) in
      grind (arith, nat_tests, gone, here)
