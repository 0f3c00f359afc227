-- Edits keep rows in order and apart.
use Rattle.std.proofs.Common.{◌≡◌, ℕ, ◌+◌, ◌<◌, ◌≤◌, min, max, Bool, true, false, cond, ◌⊎◌, inl, inr, List, [], ◌∷◌, ◌++◌, refl, arith}
use Rattle.std.specs.Prelude.{nat_lt, ⊤}
use Rattle.std.proofs.lemmas.Bool.Decides.{nat_tests}
use Rattle.std.specs.List.Sorted.{IsStrictlySortedBy}
use Rattle.std.specs.List.{AllByRecursion}
use Rattle.std.specs.Map.{keys_of}
use Rattle.std.specs.Ordering.{nat_cmp, MatchOrdering, match_ordering}
use Rattle.std.specs.declared.cmp.Ordering.{Ordering}
use Rattle.std.specs.declared.cmp.Ordering.TheVariants.{Less, Equal, Greater}
use Rattle.std.specs.Cmp.{ranks}
use Rattle.std.specs.BTreeMap.{insert_entry}
use Rattle.range_base.specs.Rows.{Row, part, IsSpaced}
use Rattle.range_base.specs.Edits.{run, without_units}

module _ {V : Type 0} where
  pub IsSpaced-before : (gap c d : ℕ) (rs : List (Row V)) → c ≤ d → IsSpaced gap d rs → IsSpaced gap c rs
  IsSpaced-before gap c d [] h s = tt
  IsSpaced-before gap c d (r ∷ rs) h s = (omega arith, s.1, s.2)

  pub IsSpaced-run : (gap c d lo hi : ℕ) (v : V) (rs : List (Row V)) → c ≤ d → (lo < hi → c ≤ lo) → (lo < hi → hi + gap ≤ d) → IsSpaced gap d rs → IsSpaced gap c (run lo hi v ++ rs)
  IsSpaced-run gap c d lo hi v rs le from fits s = by (nat_lt lo hi) refl
    where
      by : (b : Bool) → nat_lt lo hi ≡ b → IsSpaced gap c (cond b ((lo, part hi v) ∷ []) [] ++ rs)
      by true e = let below : lo < hi = grind (arith, nat_tests) in (from below, below, IsSpaced-before gap (hi + gap) d rs (fits below) s)
      by false e = IsSpaced-before gap c d rs le s

  pub IsSpaced-without_units : (gap lo hi : ℕ) → lo + gap ≤ hi → (c : ℕ) (rs : List (Row V)) → IsSpaced gap c rs → IsSpaced gap c (without_units lo hi rs)
  IsSpaced-without_units gap lo hi h c [] s = tt
  IsSpaced-without_units gap lo hi h c (r ∷ rs) s =
      let rest = IsSpaced-without_units gap lo hi h (r.1.end + gap) rs s.2 in
      let right : IsSpaced gap (max r.0 (min (r.1.end + gap) hi)) (run (max r.0 hi) r.1.end r.1.value ++ without_units lo hi rs) =
      IsSpaced-run gap _ (r.1.end + gap) (max r.0 hi) r.1.end r.1.value (without_units lo hi rs) (omega (arith, s.0, s.1)) (λ b. omega arith) (λ b. omega arith) rest
      in
      IsSpaced-run gap c (max r.0 (min (r.1.end + gap) hi)) r.0 (min r.1.end lo) r.1.value _ (omega (arith, s.0, s.1)) (λ b. s.0) (λ b. omega (arith, s.1)) right

  keys_after : (gap c k : ℕ) (rs : List (Row V)) → k < c → IsSpaced gap c rs → AllByRecursion (λ y. nat_cmp k y ≡ Less) (keys_of rs)
  keys_after gap c k [] h s = tt
  keys_after gap c k (r ∷ rs) h s = (grind (arith, nat_tests, s.0), keys_after gap (r.1.end + gap) k rs (omega (arith, s.0, s.1)) s.2)

  pub IsOrdered-spaced : (gap c : ℕ) (rs : List (Row V)) → IsSpaced gap c rs → IsStrictlySortedBy nat_cmp (keys_of rs)
  unfolding IsStrictlySortedBy
  IsOrdered-spaced gap c [] s = tt
  IsOrdered-spaced gap c (r ∷ rs) s = (keys_after gap (r.1.end + gap) r.0 rs (omega (arith, s.1)) s.2, IsOrdered-spaced gap (r.1.end + gap) rs s.2)

  -- no row has a unit from lo to hi - 1, nor one nearer than `gap` to them
  abbrev pub IsFree : ℕ → ℕ → ℕ → List (Row V) → Type 0
  IsFree gap lo hi [] = ⊤
  IsFree gap lo hi (r ∷ rs) = ((r.1.end + gap ≤ lo) ⊎ (hi + gap ≤ r.0)) × IsFree gap lo hi rs

  -- what a cut leaves of each row is no nearer than `gap`
  abbrev pub IsEdged : ℕ → ℕ → ℕ → List (Row V) → Type 0
  IsEdged gap lo hi [] = ⊤
  IsEdged gap lo hi (r ∷ rs) = (r.0 < lo → min r.1.end lo + gap ≤ lo) × (hi < r.1.end → hi + gap ≤ max r.0 hi) × IsEdged gap lo hi rs

  pub IsEdged-disjoint : (lo hi : ℕ) (rs : List (Row V)) → IsEdged 0 lo hi rs
  IsEdged-disjoint lo hi [] = tt
  IsEdged-disjoint lo hi (r ∷ rs) = ((λ h. omega arith), (λ h. omega arith), IsEdged-disjoint lo hi rs)

  IsFree-run : (gap lo hi a b : ℕ) (v : V) (rs : List (Row V)) → (a < b → (b + gap ≤ lo) ⊎ (hi + gap ≤ a)) → IsFree gap lo hi rs → IsFree gap lo hi (run a b v ++ rs)
  IsFree-run gap lo hi a b v rs h s = by (nat_lt a b) refl
    where
      by : (t : Bool) → nat_lt a b ≡ t → IsFree gap lo hi (cond t ((a, part b v) ∷ []) [] ++ rs)
      by true e = let below : a < b = grind (arith, nat_tests) in (h below, s)
      by false e = s

  pub IsFree-without_units : (gap lo hi : ℕ) (rs : List (Row V)) → IsEdged gap lo hi rs → IsFree gap lo hi (without_units lo hi rs)
  IsFree-without_units gap lo hi [] s = tt
  IsFree-without_units gap lo hi (r ∷ rs) s =
      IsFree-run gap lo hi r.0 (min r.1.end lo) r.1.value _ (λ b. inl (s.0 (omega arith)))
      (IsFree-run gap lo hi (max r.0 hi) r.1.end r.1.value _ (λ b. inr (s.1 (omega arith))) (IsFree-without_units gap lo hi rs s.2))

  pub IsSpaced-insert : (gap lo hi : ℕ) (v : V) → lo < hi → (c d : ℕ) (rs : List (Row V)) → d ≤ c → d ≤ lo → IsSpaced gap c rs → IsFree gap lo hi rs → IsSpaced gap d (insert_entry nat_cmp rs lo (part hi v))
  IsSpaced-insert gap lo hi v h c d [] le low s f = (low, h, tt)
  IsSpaced-insert gap lo hi v h c d (r ∷ rs) le low s f = by (λ near. IsSpaced-insert gap lo hi v h (r.1.end + gap) (r.1.end + gap) rs (omega arith) near s.2 f.1) (nat_cmp lo r.0) (ranks lo r.0)
    where
      by : (r.1.end + gap ≤ lo → IsSpaced gap (r.1.end + gap) (insert_entry nat_cmp rs lo (part hi v))) → (o : Ordering) → MatchOrdering o (lo < r.0) (lo ≡ r.0) (r.0 < lo) → IsSpaced gap d (match_ordering o ((lo, part hi v) ∷ r ∷ rs) ((r.0, part hi v) ∷ rs) (r ∷ insert_entry nat_cmp rs lo (part hi v)))
      by rest Less m = (low, h, (elim f.0 [ inl e ↦ absurd (omega (arith, m, e, s.1)) | inr e ↦ e ], s.1, s.2))
      by rest Equal m = absurd (elim f.0 as (λ _. ⊥) [ inl e ↦ omega (arith, m, e, s.1) | inr e ↦ omega (arith, m, e) ])
      by rest Greater m =
          let near : r.1.end + gap ≤ lo = elim f.0 [ inl e ↦ e | inr e ↦ absurd (omega (arith, m, e)) ] in
          (omega (arith, le, s.0), s.1, rest near)

  -- the rows after a put, where the cut leaves `gap`
  pub IsSpaced-put : (gap lo hi : ℕ) (v : V) → lo < hi → lo + gap ≤ hi → (rs : List (Row V)) → IsSpaced gap 0 rs → IsEdged gap lo hi rs → IsSpaced gap 0 (insert_entry nat_cmp (without_units lo hi rs) lo (part hi v))
  IsSpaced-put gap lo hi v h le rs s e = IsSpaced-insert gap lo hi v h 0 0 (without_units lo hi rs) (omega arith) (omega arith) (IsSpaced-without_units gap lo hi le 0 rs s) (IsFree-without_units gap lo hi rs e)
