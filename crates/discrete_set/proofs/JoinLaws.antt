-- What stands while ranges are joined, and while two lists of runs are merged.
use Rattle.std.proofs.Common.{◌≡◌, ℕ, ◌+◌, ◌^◌, ◌<◌, ◌≤◌, max, Bool, true, false, cond, List, [], ◌∷◌, Option, Some, None, length, drop, get_or, drop-cons, add-one, subst, refl, ap, sym, ◌∙◌, arith}
use Rattle.std.specs.Prelude.{is_some, ⊤}
use Rattle.elem.specs.declared.spans.Span.{Span}
use Rattle.elem.specs.Places.{place}
use Rattle.range_base.specs.Rows.{in_units, cover, CoverChanges, IsSpaced}
use Rattle.discrete_set.specs.declared.run.Run.{Run}
use Rattle.discrete_set.specs.Numbers.{numbers_below, unit_at}
use Rattle.discrete_set.specs.Runs.{has}
use Rattle.discrete_set.specs.Ranges.{rows_of}
use Rattle.discrete_set.specs.Counted.{rows_of_runs, IsCounted, next_start}
use Rattle.discrete_set.proofs.NumberLaws.{in_units-unit_at, numbers_below_more}

-- the first i ranges are joined
pub record IsJoined (ranges : List Span) (i : ℕ) (runs : List Run) : Type 0 where
  pub counted : IsCounted 0 0 runs
  pub from : ℕ
  pub spaced : IsSpaced 1 from (rows_of (drop i ranges))
  pub after : next_start 0 runs ≤ numbers_below from + 1
  pub members : (n : ℕ) → n < 2 ^ 64 → is_some (cover (rows_of ranges) (unit_at n)) ≡ cond (has (rows_of_runs runs) n) true (is_some (cover (rows_of (drop i ranges)) (unit_at n)))

pub joined_none : (ranges : List Span) → IsSpaced 1 0 (rows_of ranges) → IsJoined ranges 0 []
joined_none ranges s = record { counted = tt; from = 0; spaced = s; after = omega arith; members = λ n h. refl }

-- the next range, and those behind it
split : (ranges : List Span) (i : ℕ) (s : Span) → i < length ranges → s ≡ get_or ranges i s → drop i ranges ≡ s ∷ drop (i + 1) ranges
split ranges i s h e = drop_here ∙ ap (λ x. x ∷ drop (i + 1) ranges) (sym e)
  where
    drop_here : drop i ranges ≡ get_or ranges i s ∷ drop (i + 1) ranges
    drop_here = let lt : i < length ranges = h in rw (add-one, drop-cons ranges i s)

pub joined_before : (ranges : List Span) (i : ℕ) (runs : List Run) (s : Span) → IsJoined ranges i runs → i < length ranges → s ≡ get_or ranges i s → next_start 0 runs ≤ numbers_below (place s.lo) + 1
joined_before ranges i runs s j h e =
    let spaced = subst (λ (xs : List Span). IsSpaced 1 j.from (rows_of xs)) (split ranges i s h e) j.spaced in
    let more = numbers_below_more j.from (place s.lo) spaced.0 in
    omega (arith, more, j.after)

pub joined_more : (ranges : List Span) (i : ℕ) (runs new : List Run) (s : Span) (first end : ℕ) → IsJoined ranges i runs → i < length ranges → s ≡ get_or ranges i s
    → first ≡ numbers_below (place s.lo) → end ≡ numbers_below (place s.hi) → IsCounted 0 0 new → next_start 0 new ≤ max (next_start 0 runs) (end + 1) → CoverChanges first end (Some tt) (rows_of_runs runs) (rows_of_runs new)
    → IsJoined ranges (i + 1) new
joined_more ranges i runs new s first end j h e ef ee counted after units =
    let here = split ranges i s h e in
    let spaced = subst (λ (xs : List Span). IsSpaced 1 j.from (rows_of xs)) here j.spaced in
    let lower = numbers_below_more j.from (place s.hi) (omega (arith, spaced.0, spaced.1)) in
    let upper = numbers_below_more (place s.hi) (place s.hi + 1) (omega arith) in
    record {
      counted = counted;
      from = place s.hi + 1;
      spaced = spaced.2;
      after = (let before = j.after in omega (arith, after, before, lower, upper));
      members = λ n l. j.members n l ∙ ap (λ (xs : List Span). cond (has (rows_of_runs runs) n) true (is_some (cover (rows_of xs) (unit_at n)))) here
          ∙ by (in_units (place s.lo) (place s.hi) (unit_at n)) (cover (rows_of_runs runs) n) (cover (rows_of (drop (i + 1) ranges)) (unit_at n)) (cover (rows_of_runs new) n)
          (units n ∙ (rw (ef, ee) (ap (λ b. cond b (Some tt) (cover (rows_of_runs runs) n)) (sym (in_units-unit_at (place s.lo) (place s.hi) n l)))));
    }
  where
    by : (b : Bool) (o p q : Option ⊤) → q ≡ cond b (Some tt) o → cond (is_some o) true (is_some (cond b (Some tt) p)) ≡ cond (is_some q) true (is_some p)
    by true None p q e = rw e refl
    by true (Some x) p q e = rw e refl
    by false o p q e = rw e refl

pub joined_all : (ranges : List Span) (i : ℕ) (runs : List Run) → IsJoined ranges i runs → drop i ranges ≡ [] → (n : ℕ) → n < 2 ^ 64 → has (rows_of_runs runs) n ≡ is_some (cover (rows_of ranges) (unit_at n))
joined_all ranges i runs j e n h = sym (j.members n h ∙ ap (λ (xs : List Span). cond (has (rows_of_runs runs) n) true (is_some (cover (rows_of xs) (unit_at n)))) e ∙ by (has (rows_of_runs runs) n))
  where
    by : (b : Bool) → cond b true false ≡ b
    by true = refl
    by false = refl
