-- The edits by their units.
use Rattle.std.proofs.Common.{◌≡◌, ℕ, ◌+◌, ◌<◌, ◌≤◌, cond, List, [], ◌∷◌, ◌++◌, Some, None, refl, sym, ◌∙◌, arith}
use Rattle.std.proofs.lemmas.Bool.Decides.{nat_tests}
use Rattle.range_base.specs.Rows.{Row, part, in_units, cover, IsSpaced}
use Rattle.range_base.specs.Edits.{run, without_units}
use Rattle.std.proofs.Common.{inl, inr}
use Rattle.std.specs.BTreeMap.{insert_entry}
use Rattle.std.specs.Cmp.{ranks}
use Rattle.std.specs.Ordering.{nat_cmp, MatchOrdering, match_ordering}
use Rattle.std.specs.declared.cmp.Ordering.{Ordering}
use Rattle.std.specs.declared.cmp.Ordering.TheVariants.{Less, Equal, Greater}
use Rattle.std.proofs.lemmas.Bool.{cases_lt}
use Rattle.range_base.proofs.Spacing.{IsFree, IsFree-without_units, IsEdged-disjoint, IsSpaced-without_units}

module _ {V : Type 0} where
  pub cover-run : (lo hi : ℕ) (v : V) (rs : List (Row V)) (u : ℕ) → cover (run lo hi v ++ rs) u ≡ cond (in_units lo hi u) (Some v) (cover rs u)
  cover-run lo hi v rs u = grind (arith, nat_tests)

  pub cover-without_units : (lo hi : ℕ) → lo < hi → (rs : List (Row V)) (u : ℕ) → cover (without_units lo hi rs) u ≡ cond (in_units lo hi u) None (cover rs u)
  cover-without_units lo hi h [] u = grind (arith, nat_tests)
  cover-without_units lo hi h (r ∷ rs) u =
      let rest = cover-without_units lo hi h rs u in
      rw (cover-run, cover-run, rest) (grind (arith, nat_tests))

  pub cover-before : (gap c u : ℕ) (rs : List (Row V)) → u < c → IsSpaced gap c rs → cover rs u ≡ None
  cover-before gap c u [] h s = refl
  cover-before gap c u (r ∷ rs) h s =
      let rest = cover-before gap (r.1.end + gap) u rs (omega (arith, s.0, s.1)) s.2 in
      rw rest (grind (arith, nat_tests, s.0))

  cover-insert : (lo hi u : ℕ) (v : V) → lo < hi → (c : ℕ) (rs : List (Row V)) → IsSpaced 0 c rs → IsFree 0 lo hi rs → cover (insert_entry nat_cmp rs lo (part hi v)) u ≡ cond (in_units lo hi u) (Some v) (cover rs u)
  cover-insert lo hi u v h c [] s f = refl
  cover-insert lo hi u v h c (r ∷ rs) s f = by (cover-insert lo hi u v h (r.1.end + 0) rs s.2 f.1) (nat_cmp lo r.0) (ranks lo r.0)
    where
      by : cover (insert_entry nat_cmp rs lo (part hi v)) u ≡ cond (in_units lo hi u) (Some v) (cover rs u) → (o : Ordering) → MatchOrdering o (lo < r.0) (lo ≡ r.0) (r.0 < lo) → cover (match_ordering o ((lo, part hi v) ∷ r ∷ rs) ((r.0, part hi v) ∷ rs) (r ∷ insert_entry nat_cmp rs lo (part hi v))) u ≡ cond (in_units lo hi u) (Some v) (cover (r ∷ rs) u)
      by e Less m = refl
      by e Equal m = absurd (elim f.0 as (λ _. ⊥) [ inl x ↦ omega (arith, m, x, s.1) | inr x ↦ omega (arith, m, x) ])
      by e Greater m =
          let apart : r.1.end ≤ lo = elim f.0 [ inl x ↦ omega arith | inr x ↦ absurd (omega (arith, m, x)) ] in
          rw e (grind (arith, nat_tests))

  -- putting covers the units of the range with the value, and leaves all others
  pub cover-put : (lo hi u : ℕ) (v : V) → lo < hi → (rs : List (Row V)) → IsSpaced 0 0 rs → cover (insert_entry nat_cmp (without_units lo hi rs) lo (part hi v)) u ≡ cond (in_units lo hi u) (Some v) (cover rs u)
  cover-put lo hi u v h rs s =
      cover-insert lo hi u v h 0 (without_units lo hi rs) (IsSpaced-without_units 0 lo hi (omega arith) 0 rs s) (IsFree-without_units 0 lo hi rs (IsEdged-disjoint lo hi rs))
      ∙ (rw (cover-without_units lo hi h rs u) (grind (arith, nat_tests)))

  -- rows that are apart are told by the units that they cover
  pub same_cover : ((x y : V) → x ≡ y) → (c d : ℕ) (rs ss : List (Row V)) → IsSpaced 1 c rs → IsSpaced 1 d ss → ((u : ℕ) → cover rs u ≡ cover ss u) → rs ≡ ss
  same_cover one c d [] [] s t h = refl
  same_cover one c d [] (r ∷ rs) s t h = absurd (let g = h r.0 in grind (arith, nat_tests, g, t.1))
  same_cover one c d (r ∷ rs) [] s t h = absurd (let g = h r.0 in grind (arith, nat_tests, g, s.1))
  same_cover one c d (r ∷ rs) (q ∷ qs) s t h =
      let late : (u : ℕ) → u < r.1.end + 1 → cover rs u ≡ None = λ u l. cover-before 1 (r.1.end + 1) u rs l s.2 in
      let late2 : (u : ℕ) → u < q.1.end + 1 → cover qs u ≡ None = λ u l. cover-before 1 (q.1.end + 1) u qs l t.2 in
      let lows : r.0 ≡ q.0 = elim (cases_lt r.0 q.0) [
        | inl lt ↦ absurd (let g = h r.0 in let n = late2 r.0 (omega (arith, lt, t.1)) in grind (arith, nat_tests, g, n, s.1))
        | inr ge ↦ elim (cases_lt q.0 r.0) [
          | inl lt ↦ absurd (let g = h q.0 in let n = late q.0 (omega (arith, lt, s.1)) in grind (arith, nat_tests, g, n, t.1))
          | inr le ↦ omega arith
        ]
      ] in
      let highs : r.1.end ≡ q.1.end = elim (cases_lt r.1.end q.1.end) [
        | inl lt ↦ absurd (let g = h r.1.end in let n = late r.1.end (omega arith) in grind (arith, nat_tests, g, n, lows, s.1))
        | inr ge ↦ elim (cases_lt q.1.end r.1.end) [
          | inl lt ↦ absurd (let g = h q.1.end in let n = late2 q.1.end (omega arith) in grind (arith, nat_tests, g, n, lows, t.1))
          | inr le ↦ omega arith
        ]
      ] in
      let rest : (u : ℕ) → cover rs u ≡ cover qs u = λ u. elim (cases_lt u r.1.end) [
        | inl lt ↦ late u (omega arith) ∙ sym (late2 u (omega (arith, highs)))
        | inr ge ↦ (let g = h u in grind (arith, nat_tests, g, highs))
      ] in
      let tails = same_cover one (r.1.end + 1) (q.1.end + 1) rs qs s.2 t.2 rest in
      λ i. (lows i, part (highs i) (one r.1.value q.1.value i)) ∷ tails i
