-- Runs by their members.
use Rattle.std.proofs.Common.{◌≡◌, ℕ, ◌+◌, ◌^◌, ◌<◌, ◌≤◌, min, max, Bool, true, false, cond, ◌&&◌, inl, inr, List, [], ◌∷◌, ◌++◌, Option, Some, None, append_assoc, refl, ap, sym, ◌∙◌, arith}
use Rattle.std.specs.Prelude.{nat_lt, fold, is_some, ⊤}
use Rattle.std.proofs.lemmas.Bool.{cases_lt}
use Rattle.std.proofs.lemmas.Bool.Decides.{nat_tests}
use Rattle.range_base.specs.Rows.{Row, in_units, cover, IsSpaced, IsApart}
use Rattle.range_base.specs.Edits.{add, put, touching, start_of, end_of}
use Rattle.range_base.proofs.Spacing.{IsSpaced-before, IsSpaced-run, IsSpaced-put}
use Rattle.range_base.proofs.UnitLaws.{cover-run, same_cover}
use Rattle.range_base.proofs.Members.{IsEdged-hull}
use Rattle.range_base.proofs.RowsLemmas.{hull_order}
use Rattle.range_base.proofs.CallLaws.{units-add}
use Rattle.discrete_set.specs.Numbers.{numbers_below, unit_at}
use Rattle.discrete_set.specs.Runs.{has, AreRuns, with_numbers, runs_of, within, common}
use Rattle.discrete_set.proofs.NumberLaws.{in_units-unit_at}

pub one_value : (x y : ⊤) → x ≡ y
one_value x y = refl

-- ---- joining
pub IsApart-add : (lo hi : ℕ) (rs : List (Row ⊤)) → IsApart rs → IsApart (add lo hi tt rs)
IsApart-add lo hi rs s = elim (cases_lt lo hi) [
  | inl lt ↦
      let a = start_of lo (touching lo rs) in
      let b = end_of hi (touching hi rs) in
      let order : a < b = hull_order lo hi lt rs s in
      let whole : add lo hi tt rs ≡ put a b tt rs = grind (arith, nat_tests) in
      let edit = IsSpaced-put 1 a b tt order (omega arith) rs s (IsEdged-hull lo hi lt rs s) in
      rw whole (let test : nat_lt a b ≡ true = grind (arith, nat_tests) in rw test edit)
  | inr le ↦ (let same : add lo hi tt rs ≡ rs = grind (arith, nat_tests) in rw same s)
]

IsApart-fold : (rows acc : List (Row ⊤)) → IsApart acc → IsApart (fold with_numbers acc rows)
IsApart-fold [] acc s = s
IsApart-fold (row ∷ rows) acc s = IsApart-fold rows (with_numbers acc row) (IsApart-add (numbers_below row.0) (numbers_below row.1.end) acc s)

pub IsApart-runs_of : (rows : List (Row ⊤)) → IsApart (runs_of rows)
IsApart-runs_of rows = IsApart-fold rows [] tt

-- the numbers in the rows, and the numbers before
cover-fold : (rows acc : List (Row ⊤)) → IsApart acc → (n : ℕ) → n < 2 ^ 64 → has (fold with_numbers acc rows) n ≡ cond (has acc n) true (is_some (cover rows (unit_at n)))
cover-fold [] acc s n h = elim (has acc n) as (λ b. b ≡ cond b true false) [ true ↦ refl | false ↦ refl ]
cover-fold (row ∷ rows) acc s n h =
    let rest = cover-fold rows (with_numbers acc row) (IsApart-add (numbers_below row.0) (numbers_below row.1.end) acc s) n h in
    let here : cover (with_numbers acc row) n ≡ cond (in_units row.0 row.1.end (unit_at n)) (Some tt) (cover acc n) =
    units-add one_value (numbers_below row.0) (numbers_below row.1.end) tt acc s n ∙ ap (λ b. cond b (Some tt) (cover acc n)) (sym (in_units-unit_at row.0 row.1.end n h))
    in
    rest ∙ (rw here (by (in_units row.0 row.1.end (unit_at n)) (cover acc n)))
  where
    by : (b : Bool) (o : Option ⊤) → cond (is_some (cond b (Some tt) o)) true (is_some (cover rows (unit_at n))) ≡ cond (is_some o) true (is_some (cond b (Some row.1.value) (cover rows (unit_at n))))
    by true None = refl
    by true (Some x) = refl
    by false o = refl

pub has-runs_of : (rows : List (Row ⊤)) (n : ℕ) → n < 2 ^ 64 → has (runs_of rows) n ≡ is_some (cover rows (unit_at n))
has-runs_of rows n h = cover-fold rows [] tt n h

past-fold : (rows acc : List (Row ⊤)) → IsApart acc → (n : ℕ) → 2 ^ 64 ≤ n → cover acc n ≡ None → cover (fold with_numbers acc rows) n ≡ None
past-fold [] acc s n h e = e
past-fold (row ∷ rows) acc s n h e =
    past-fold rows (with_numbers acc row) (IsApart-add (numbers_below row.0) (numbers_below row.1.end) acc s) n h
    (units-add one_value (numbers_below row.0) (numbers_below row.1.end) tt acc s n ∙ (rw e (grind (arith, nat_tests))))

pub AreRuns-runs_of : (rows : List (Row ⊤)) → AreRuns (runs_of rows)
AreRuns-runs_of rows = record { apart = IsApart-runs_of rows; bound = λ n h. past-fold rows [] tt n h refl }

-- ---- windows
pub IsSpaced-within : (lo hi c : ℕ) (rs : List (Row ⊤)) → IsSpaced 1 c rs → IsSpaced 1 (max c lo) (within lo hi rs)
IsSpaced-within lo hi c [] s = tt
IsSpaced-within lo hi c (r ∷ rs) s =
    let rest = IsSpaced-within lo hi (r.1.end + 1) rs s.2 in
    IsSpaced-run 1 (max c lo) (max (r.1.end + 1) lo) (max r.0 lo) (min r.1.end hi) tt (within lo hi rs) (omega (arith, s.0, s.1)) (λ b. omega (arith, s.0)) (λ b. omega arith) rest

pub cover-within : (lo hi : ℕ) (rs : List (Row ⊤)) (n : ℕ) → cover (within lo hi rs) n ≡ cond (in_units lo hi n) (cover rs n) None
cover-within lo hi [] n = grind (arith, nat_tests)
cover-within lo hi (r ∷ rs) n =
    let rest = cover-within lo hi rs n in
    cover-run (max r.0 lo) (min r.1.end hi) tt (within lo hi rs) n ∙ (rw rest (by (in_units lo hi n) (in_units r.0 r.1.end n) (in_units (max r.0 lo) (min r.1.end hi) n) (cover rs n) both))
  where
    both : in_units (max r.0 lo) (min r.1.end hi) n ≡ in_units lo hi n && in_units r.0 r.1.end n
    both = grind (arith, nat_tests)

    by : (a b t : Bool) (o : Option ⊤) → t ≡ a && b → cond t (Some tt) (cond a o None) ≡ cond a (cond b (Some r.1.value) o) None
    by true true t o e = rw e refl
    by true false t o e = rw e refl
    by false b t o e = rw e refl

pub AreRuns-within : (lo hi : ℕ) (rs : List (Row ⊤)) → AreRuns rs → AreRuns (within lo hi rs)
AreRuns-within lo hi rs s = record {
  apart = IsSpaced-before 1 0 (max 0 lo) (within lo hi rs) (omega arith) (IsSpaced-within lo hi 0 rs s.apart);
  bound = λ n h. cover-within lo hi rs n ∙ (rw (s.bound n h) (elim (in_units lo hi n) as (λ b. cond {A = Option ⊤} b None None ≡ None) [ true ↦ refl | false ↦ refl ]));
}

pub has-within : (lo hi : ℕ) (rs : List (Row ⊤)) (n : ℕ) → has (within lo hi rs) n ≡ has rs n && in_units lo hi n
has-within lo hi rs n = ap is_some (cover-within lo hi rs n) ∙ by (in_units lo hi n) (cover rs n)
  where
    by : (b : Bool) (o : Option ⊤) → is_some (cond b o None) ≡ is_some o && b
    by true None = refl
    by true (Some x) = refl
    by false None = refl
    by false (Some x) = refl

-- ---- what two lists have in common
-- a window of a list, and then rows behind the window
IsSpaced-within_then : (lo hi c d : ℕ) (ss tail : List (Row ⊤)) → IsSpaced 1 d ss → c ≤ max d lo → c ≤ hi + 1 → IsSpaced 1 (hi + 1) tail → IsSpaced 1 c (within lo hi ss ++ tail)
IsSpaced-within_then lo hi c d [] tail s le top t = IsSpaced-before 1 c (hi + 1) tail top t
IsSpaced-within_then lo hi c d (r ∷ rs) tail s le top t =
    let next = min (max (r.1.end + 1) lo) (hi + 1) in
    let rest = IsSpaced-within_then lo hi next (r.1.end + 1) rs tail s.2 (omega arith) (omega arith) t in
    rw append_assoc (IsSpaced-run 1 c next (max r.0 lo) (min r.1.end hi) tt (within lo hi rs ++ tail) (omega (arith, s.0, s.1)) (λ b. omega (arith, s.0)) (λ b. omega arith) rest)

cover-append : (rs ss : List (Row ⊤)) (n : ℕ) → cover (rs ++ ss) n ≡ cond (has rs n) (Some tt) (cover ss n)
cover-append [] ss n = refl
cover-append (r ∷ rs) ss n = rw (cover-append rs ss n) (by (in_units r.0 r.1.end n))
  where
    by : (b : Bool) → cond b (Some r.1.value) (cond (has rs n) (Some tt) (cover ss n)) ≡ cond (is_some (cond b (Some r.1.value) (cover rs n))) (Some tt) (cover ss n)
    by true = refl
    by false = refl

pub has-common : (rs ss : List (Row ⊤)) (n : ℕ) → has (common rs ss) n ≡ has rs n && has ss n
has-common [] ss n = refl
has-common (r ∷ rs) ss n =
    let rest = has-common rs ss n in
    ap is_some (cover-append (within r.0 r.1.end ss) (common rs ss) n) ∙ (rw (cover-within r.0 r.1.end ss n) (by (in_units r.0 r.1.end n) (cover ss n) (cover rs n) (cover (common rs ss) n) rest))
  where
    by : (b : Bool) (s t o : Option ⊤) → is_some o ≡ is_some t && is_some s
        → is_some (cond (is_some (cond b s None)) (Some tt) o) ≡ is_some (cond b (Some r.1.value) t) && is_some s
    by true None t o e = e ∙ elim (is_some t) as (λ x. x && false ≡ false) [ true ↦ refl | false ↦ refl ]
    by true (Some x) t o e = refl
    by false s t o e = e

pub IsSpaced-common : (c : ℕ) (rs ss : List (Row ⊤)) → IsSpaced 1 c rs → IsApart ss → IsSpaced 1 c (common rs ss)
IsSpaced-common c [] ss s t = tt
IsSpaced-common c (r ∷ rs) ss s t =
    let rest = IsSpaced-common (r.1.end + 1) rs ss s.2 t in
    IsSpaced-within_then r.0 r.1.end c 0 ss (common rs ss) t (omega (arith, s.0)) (omega (arith, s.0, s.1)) rest

pub AreRuns-common : (rs ss : List (Row ⊤)) → AreRuns rs → AreRuns ss → AreRuns (common rs ss)
AreRuns-common rs ss s t = record {
  apart = IsSpaced-common 0 rs ss s.apart t.apart;
  bound = λ n h. none (cover (common rs ss) n) (has-common rs ss n ∙ (rw (s.bound n h) refl));
}
  where
    none : (o : Option ⊤) → is_some o ≡ false → o ≡ None
    none None e = refl
    none (Some x) e = cc

-- ---- what has the same members is the same
same_option : (x y : Option ⊤) → is_some x ≡ is_some y → x ≡ y
same_option None None e = refl
same_option None (Some y) e = cc
same_option (Some x) None e = cc
same_option (Some x) (Some y) e = refl

pub same_runs : (rs ss : List (Row ⊤)) → AreRuns rs → AreRuns ss → ((n : ℕ) → n < 2 ^ 64 → has rs n ≡ has ss n) → rs ≡ ss
same_runs rs ss s t h = same_cover one_value 0 0 rs ss s.apart t.apart (λ n. elim (cases_lt n (2 ^ 64)) [
  | inl lt ↦ same_option (cover rs n) (cover ss n) (h n lt)
  | inr le ↦ s.bound n le ∙ sym (t.bound n le)
])
