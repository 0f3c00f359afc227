-- Runs found by a rank, and by a number of members.
use Rattle.std.proofs.Common.{◌≡◌, ℕ, zero, suc, ◌+◌, ◌-◌, ◌^◌, ◌<◌, ◌≤◌, Bool, true, false, cond, ◌&&◌, inl, inr, List, [], ◌∷◌, Option, Some, None, length, get_or, refl, ap, ◌∙◌, arith}
use Rattle.std.specs.Prelude.{nat_lt, nat_le, is_some, ⊤}
use Rattle.std.specs.List.Sorted.{IsNonDecreasingBy, IsPartitionPoint}
use Rattle.std.proofs.lemmas.Bool.{cases_lt}
use Rattle.std.proofs.lemmas.Bool.Decides.{nat_tests}
use Rattle.range_base.specs.Rows.{in_units, cover, IsSpaced}
use Rattle.range_base.proofs.UnitLaws.{cover-before}
use Rattle.discrete_set.specs.declared.run.Run.{Run}
use Rattle.discrete_set.specs.Runs.{has, item}
use Rattle.discrete_set.specs.Counted.{rows_of_runs, IsCounted}
use Rattle.discrete_set.proofs.KeptLaws.{IsSpaced-counted}

-- ---- the runs rise
first_from : (from b : ℕ) (rs : List Run) → IsCounted from b rs → (k : ℕ) (d : Run) → k < length rs → from ≤ (get_or rs k d).first
first_from from b [] s k d h = absurd (omega arith)
first_from from b (q ∷ qs) s zero d h = s.0
first_from from b (q ∷ qs) s (suc k) d h = let rest = first_from (q.last + 2) (b + (q.last + 1 - q.first)) qs s.4 k d (omega arith) in omega (arith, rest, s.0, s.1)

before_from : (from b : ℕ) (rs : List Run) → IsCounted from b rs → (k : ℕ) (d : Run) → k < length rs → b ≤ (get_or rs k d).before
before_from from b [] s k d h = absurd (omega arith)
before_from from b (q ∷ qs) s zero d h = let e = s.3 in omega (arith, e)
before_from from b (q ∷ qs) s (suc k) d h = let rest = before_from (q.last + 2) (b + (q.last + 1 - q.first)) qs s.4 k d (omega arith) in omega (arith, rest)

pub firsts_rise : (from b : ℕ) (rs : List Run) → IsCounted from b rs → IsNonDecreasingBy (λ (r : Run). r.first) rs
firsts_rise from b [] s i j d le h = absurd (omega arith)
firsts_rise from b (q ∷ qs) s zero zero d le h = omega arith
firsts_rise from b (q ∷ qs) s zero (suc j) d le h = let rest = first_from (q.last + 2) (b + (q.last + 1 - q.first)) qs s.4 j d (omega arith) in omega (arith, rest, s.1)
firsts_rise from b (q ∷ qs) s (suc i) zero d le h = absurd (omega arith)
firsts_rise from b (q ∷ qs) s (suc i) (suc j) d le h = firsts_rise (q.last + 2) (b + (q.last + 1 - q.first)) qs s.4 i j d (omega arith) (omega arith)

pub befores_rise : (from b : ℕ) (rs : List Run) → IsCounted from b rs → IsNonDecreasingBy (λ (r : Run). r.before) rs
befores_rise from b [] s i j d le h = absurd (omega arith)
befores_rise from b (q ∷ qs) s zero zero d le h = omega arith
befores_rise from b (q ∷ qs) s zero (suc j) d le h = let rest = before_from (q.last + 2) (b + (q.last + 1 - q.first)) qs s.4 j d (omega arith) in let e = s.3 in omega (arith, rest, e)
befores_rise from b (q ∷ qs) s (suc i) zero d le h = absurd (omega arith)
befores_rise from b (q ∷ qs) s (suc i) (suc j) d le h = befores_rise (q.last + 2) (b + (q.last + 1 - q.first)) qs s.4 i j d (omega arith) (omega arith)

-- ---- by a rank
has-none : (from b n : ℕ) (rs : List Run) → IsCounted from b rs → (d : Run) → ((j : ℕ) → j < length rs → n < (get_or rs j d).first) → has (rows_of_runs rs) n ≡ false
has-none from b n [] s d above = refl
has-none from b n (q ∷ qs) s d above =
    let first : n < q.first = above 0 (omega arith) in
    let spaced : IsSpaced 1 q.first (rows_of_runs (q ∷ qs)) = (omega arith, (IsSpaced-counted from b (q ∷ qs) s).1, (IsSpaced-counted from b (q ∷ qs) s).2) in
    ap is_some (cover-before 1 q.first n (rows_of_runs (q ∷ qs)) first spaced)

has-found : (from b n : ℕ) (rs : List Run) → IsCounted from b rs → (d : Run) (k : ℕ) → k < length rs → (get_or rs k d).first ≤ n → ((j : ℕ) → k < j → j < length rs → n < (get_or rs j d).first)
    → has (rows_of_runs rs) n ≡ nat_le n (get_or rs k d).last
has-found from b n [] s d k h below above = absurd (omega arith)
has-found from b n (q ∷ qs) s d zero h below above =
    let rest = has-none (q.last + 2) (b + (q.last + 1 - q.first)) n qs s.4 d (λ j l. above (suc j) (omega arith) (omega arith)) in
    by (in_units q.first (q.last + 1) n) (cover (rows_of_runs qs) n) rest (let same : in_units q.first (q.last + 1) n ≡ nat_le n q.last = grind (arith, nat_tests) in same)
  where
    by : (t : Bool) (o : Option ⊤) → is_some o ≡ false → t ≡ nat_le n q.last → is_some (cond t (Some tt) o) ≡ nat_le n q.last
    by true o e f = f
    by false o e f = e ∙ f
has-found from b n (q ∷ qs) s d (suc k) h below above =
    let rest = has-found (q.last + 2) (b + (q.last + 1 - q.first)) n qs s.4 d k (omega arith) below (λ j l m. above (suc j) (omega arith) (omega arith)) in
    let after = first_from (q.last + 2) (b + (q.last + 1 - q.first)) qs s.4 k d (omega arith) in
    let outside : in_units q.first (q.last + 1) n ≡ false = grind (arith, nat_tests, after) in
    rw outside rest

-- ---- by a number of members
item-before : (from b i : ℕ) (rs : List Run) → IsCounted from b rs → (d : Run) → ((j : ℕ) → j < length rs → b + i < (get_or rs j d).before) → item (rows_of_runs rs) i ≡ None
item-before from b i [] s d above = refl
item-before from b i (q ∷ qs) s d above = absurd (let first : b + i < q.before = above 0 (omega arith) in let e = s.3 in omega (arith, e))

pub item-found : (from b i : ℕ) (rs : List Run) → IsCounted from b rs → (d : Run) (k : ℕ) → k < length rs → (get_or rs k d).before ≤ b + i → ((j : ℕ) → k < j → j < length rs → b + i < (get_or rs j d).before)
    → item (rows_of_runs rs) i ≡ cond (nat_le (b + i - (get_or rs k d).before) ((get_or rs k d).last - (get_or rs k d).first)) (Some ((get_or rs k d).first + (b + i - (get_or rs k d).before))) None
item-found from b i [] s d k h below above = absurd (omega arith)
item-found from b i (q ∷ qs) s d zero h below above =
    let len = q.last + 1 - q.first in
    let e : b + i - q.before ≡ i = (let f = s.3 in omega (arith, f)) in
    rw e (by (nat_le i (q.last - q.first)) (let same : nat_lt i (q.last + 1 - q.first) ≡ nat_le i (q.last - q.first) = (let g = s.1 in grind (arith, nat_tests, g)) in same) refl
    (λ f. item-before (q.last + 2) (b + len) (i - len) qs s.4 d (λ j l. (let past = above (suc j) (omega arith) (omega arith) in let more : len ≤ i = grind (arith, nat_tests, f) in omega (arith, past, more)))))
  where
    by : (t : Bool) → nat_lt i (q.last + 1 - q.first) ≡ t → nat_le i (q.last - q.first) ≡ t → (nat_le i (q.last - q.first) ≡ false → item (rows_of_runs qs) (i - (q.last + 1 - q.first)) ≡ None)
        → cond (nat_lt i (q.last + 1 - q.first)) (Some (q.first + i)) (item (rows_of_runs qs) (i - (q.last + 1 - q.first))) ≡ cond t (Some (q.first + i)) None
    by true x y none = rw x refl
    by false x y none = rw x (none y)
item-found from b i (q ∷ qs) s d (suc k) h below above =
    let len = q.last + 1 - q.first in
    let after = before_from (q.last + 2) (b + len) qs s.4 k d (omega arith) in
    let more : len ≤ i = omega (arith, after, below) in
    let e : b + len + (i - len) ≡ b + i = omega arith in
    let rest = item-found (q.last + 2) (b + len) (i - len) qs s.4 d k (omega arith) (omega (arith, below)) (λ j l m. (let past = above (suc j) (omega arith) (omega arith) in omega (arith, past))) in
    let test : nat_lt i len ≡ false = grind (arith, nat_tests) in
    rw test (rw e at rest)

-- ---- what `partition_point` finds
pub at_rank : (n p : ℕ) (rs : List Run) → IsCounted 0 0 rs → p ≤ length rs → IsPartitionPoint (λ (r : Run). nat_le r.first n ≡ true) (λ (r : Run). nat_le r.first n ≡ false) rs p → (d : Run)
    → has (rows_of_runs rs) n ≡ nat_lt 0 p && nat_le n (get_or rs (p - 1) d).last
at_rank n p rs s le h d = elim (cases_lt 0 p) [
  | inl lt ↦
      let below : (get_or rs (p - 1) d).first ≤ n = (let t = h.0 (p - 1) d (omega arith) (omega arith) in grind (arith, nat_tests, t)) in
      let found = has-found 0 0 n rs s d (p - 1) (omega arith) below (λ j l m. (let t = h.1 j d (omega arith) m in grind (arith, nat_tests, t))) in
      let test : nat_lt 0 p ≡ true = grind (arith, nat_tests) in
      rw test found
  | inr ge ↦
      let none = has-none 0 0 n rs s d (λ j l. (let t = h.1 j d (omega arith) l in grind (arith, nat_tests, t))) in
      let test : nat_lt 0 p ≡ false = grind (arith, nat_tests) in
      rw test none
]

pub item_at : (i p : ℕ) (rs : List Run) → IsCounted 0 0 rs → p ≤ length rs → IsPartitionPoint (λ (r : Run). nat_le r.before i ≡ true) (λ (r : Run). nat_le r.before i ≡ false) rs p → 0 < p → (d : Run)
    → item (rows_of_runs rs) i ≡ cond (nat_le (i - (get_or rs (p - 1) d).before) ((get_or rs (p - 1) d).last - (get_or rs (p - 1) d).first)) (Some ((get_or rs (p - 1) d).first + (i - (get_or rs (p - 1) d).before))) None
item_at i p rs s le h lt d =
    let zero_add : 0 + i ≡ i = omega arith in
    let below : (get_or rs (p - 1) d).before ≤ 0 + i = (let t = h.0 (p - 1) d (omega arith) (omega arith) in grind (arith, nat_tests, t)) in
    let found = item-found 0 0 i rs s d (p - 1) (omega arith) below (λ j l m. (let t = h.1 j d (omega arith) m in grind (arith, nat_tests, t))) in
    rw zero_add at found

pub item_past : (i p : ℕ) (rs : List Run) → IsCounted 0 0 rs → IsPartitionPoint (λ (r : Run). nat_le r.before i ≡ true) (λ (r : Run). nat_le r.before i ≡ false) rs p → p ≡ 0 → (d : Run) → item (rows_of_runs rs) i ≡ None
item_past i p rs s h e d = item-before 0 0 i rs s d (λ j l. (let t = h.1 j d (omega arith) l in grind (arith, nat_tests, t)))

pub before_at : (i p : ℕ) (rs : List Run) → IsPartitionPoint (λ (r : Run). nat_le r.before i ≡ true) (λ (r : Run). nat_le r.before i ≡ false) rs p → 0 < p → (d : Run) → (get_or rs (p - 1) d).before ≤ i
before_at i p rs h lt d = let t = h.0 (p - 1) d (omega arith) (omega arith) in grind (arith, nat_tests, t)

-- a run of the list
pub record IsRun (r : Run) : Type 0 where
  pub in_order : r.first ≤ r.last
  pub bound : r.last < 2 ^ 64

pub run_at : (from b : ℕ) (rs : List Run) → IsCounted from b rs → (k : ℕ) (d : Run) → k < length rs → IsRun (get_or rs k d)
run_at from b [] s k d h = absurd (omega arith)
run_at from b (q ∷ qs) s zero d h = record { in_order = s.1; bound = s.2 }
run_at from b (q ∷ qs) s (suc k) d h = run_at (q.last + 2) (b + (q.last + 1 - q.first)) qs s.4 k d (omega arith)
