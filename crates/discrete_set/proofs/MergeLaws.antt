-- What stands while two lists of runs are merged.
use Rattle.std.proofs.Common.{◌≡◌, ℕ, ◌+◌, ◌<◌, ◌≤◌, min, max, Bool, true, false, cond, ◌&&◌, List, [], ◌∷◌, Option, Some, None, length, drop, get_or, drop-cons, add-one, subst, refl, ap, sym, ◌∙◌, arith}
use Rattle.std.specs.Prelude.{is_some, ⊤}
use Rattle.std.proofs.lemmas.Bool.Decides.{nat_tests}
use Rattle.range_base.specs.Rows.{in_units, cover, CoverChanges, IsSpaced}
use Rattle.range_base.proofs.UnitLaws.{cover-before}
use Rattle.discrete_set.specs.declared.run.Run.{Run}
use Rattle.discrete_set.specs.Runs.{has}
use Rattle.discrete_set.specs.Counted.{rows_of_runs, IsCounted, next_start}
use Rattle.discrete_set.proofs.KeptLaws.{IsSpaced-counted}

-- what the first i runs and the first j others have in common was found
pub record IsMerged (runs others : List Run) (i j : ℕ) (found : List Run) : Type 0 where
  pub counted : IsCounted 0 0 found
  pub from : ℕ
  pub from_others : ℕ
  pub spaced : IsSpaced 1 from (rows_of_runs (drop i runs))
  pub spaced_others : IsSpaced 1 from_others (rows_of_runs (drop j others))
  pub after : next_start 0 found ≤ max from from_others
  pub members : (n : ℕ) → has (rows_of_runs runs) n && has (rows_of_runs others) n
      ≡ cond (has (rows_of_runs found) n) true (has (rows_of_runs (drop i runs)) n && has (rows_of_runs (drop j others)) n)

pub merged_none : (runs others : List Run) → IsCounted 0 0 runs → IsCounted 0 0 others → IsMerged runs others 0 0 []
merged_none runs others s t = record {
  counted = tt;
  from = 0;
  from_others = 0;
  spaced = IsSpaced-counted 0 0 runs s;
  spaced_others = IsSpaced-counted 0 0 others t;
  after = omega arith;
  members = λ n. refl;
}

split : (runs : List Run) (i : ℕ) (r d : Run) → i < length runs → r ≡ get_or runs i d → drop i runs ≡ r ∷ drop (i + 1) runs
split runs i r d h e = drop_here ∙ ap (λ x. x ∷ drop (i + 1) runs) (sym e)
  where
    drop_here : drop i runs ≡ get_or runs i d ∷ drop (i + 1) runs
    drop_here = let lt : i < length runs = h in rw (add-one, drop-cons runs i d)

-- the rows that begin with the next run
next_rows : (runs : List Run) (i c : ℕ) (r d : Run) → i < length runs → r ≡ get_or runs i d → IsSpaced 1 c (rows_of_runs (drop i runs)) → IsSpaced 1 c (rows_of_runs (r ∷ drop (i + 1) runs))
next_rows runs i c r d h e s = subst (λ (xs : List Run). IsSpaced 1 c (rows_of_runs xs)) (split runs i r d h e) s

pub merged_before : (runs others : List Run) (i j : ℕ) (found : List Run) (r q d : Run) → IsMerged runs others i j found → i < length runs → j < length others → r ≡ get_or runs i d → q ≡ get_or others j d
    → next_start 0 found ≤ max r.first q.first
merged_before runs others i j found r q d m hi hj er eq =
    let s = next_rows runs i m.from r d hi er m.spaced in
    let t = next_rows others j m.from_others q d hj eq m.spaced_others in
    omega (arith, m.after, s.0, t.0)

-- a number in the run that ends first, or behind it
units_first : (r q : Run) (n : ℕ) (a b o x : Option ⊤) → (n < r.last + 2 → a ≡ None) → (n < q.last + 2 → b ≡ None) → r.last ≤ q.last
    → x ≡ cond (in_units (max r.first q.first) (min r.last q.last + 1) n) (Some tt) o
    → cond (is_some o) true (is_some (cond (in_units r.first (r.last + 1) n) (Some tt) a) && is_some (cond (in_units q.first (q.last + 1) n) (Some tt) b))
    ≡ cond (is_some x) true (is_some a && is_some (cond (in_units q.first (q.last + 1) n) (Some tt) b))
units_first r q n a b o x ha hb le e = grind (arith, nat_tests, e)

units_second : (r q : Run) (n : ℕ) (a b o x : Option ⊤) → (n < r.last + 2 → a ≡ None) → (n < q.last + 2 → b ≡ None) → q.last < r.last
    → x ≡ cond (in_units (max r.first q.first) (min r.last q.last + 1) n) (Some tt) o
    → cond (is_some o) true (is_some (cond (in_units r.first (r.last + 1) n) (Some tt) a) && is_some (cond (in_units q.first (q.last + 1) n) (Some tt) b))
    ≡ cond (is_some x) true (is_some (cond (in_units r.first (r.last + 1) n) (Some tt) a) && is_some b)
units_second r q n a b o x ha hb le e = grind (arith, nat_tests, e)

late : (r : Run) (c n : ℕ) (rest : List Run) → IsSpaced 1 c (rows_of_runs (r ∷ rest)) → n < r.last + 2 → cover (rows_of_runs rest) n ≡ None
late r c n rest s h = cover-before 1 (r.last + 1 + 1) n (rows_of_runs rest) (omega (arith, h)) s.2

pub merged_first : (runs others : List Run) (i j : ℕ) (found new : List Run) (first end : ℕ) (r q d : Run) → IsMerged runs others i j found → i < length runs → j < length others → r ≡ get_or runs i d → q ≡ get_or others j d → r.last ≤ q.last
    → first ≡ max r.first q.first → end ≡ min r.last q.last + 1
    → IsCounted 0 0 new → next_start 0 new ≤ max (next_start 0 found) (end + 1) → CoverChanges first end (Some tt) (rows_of_runs found) (rows_of_runs new)
    → IsMerged runs others (i + 1) j new
merged_first runs others i j found new first end r q d m hi hj er eq le ef ee counted after units =
    let s = next_rows runs i m.from r d hi er m.spaced in
    let t = next_rows others j m.from_others q d hj eq m.spaced_others in
    let here = split runs i r d hi er in
    let there = split others j q d hj eq in
    record {
      counted = counted;
      from = r.last + 1 + 1;
      from_others = m.from_others;
      spaced = s.2;
      spaced_others = m.spaced_others;
      after = (let before = m.after in omega (arith, after, before, s.0, s.1));
      members = λ n. m.members n
          ∙ ap (λ (xs : List Run). cond (has (rows_of_runs found) n) true (has (rows_of_runs xs) n && has (rows_of_runs (drop j others)) n)) here
          ∙ ap (λ (xs : List Run). cond (has (rows_of_runs found) n) true (has (rows_of_runs (r ∷ drop (i + 1) runs)) n && has (rows_of_runs xs) n)) there
          ∙ units_first r q n (cover (rows_of_runs (drop (i + 1) runs)) n) (cover (rows_of_runs (drop (j + 1) others)) n) (cover (rows_of_runs found) n) (cover (rows_of_runs new) n)
          (late r m.from n (drop (i + 1) runs) s) (late q m.from_others n (drop (j + 1) others) t) le (units n ∙ rw (ef, ee) refl)
          ∙ ap (λ (xs : List Run). cond (has (rows_of_runs new) n) true (has (rows_of_runs (drop (i + 1) runs)) n && has (rows_of_runs xs) n)) (sym there);
    }

pub merged_second : (runs others : List Run) (i j : ℕ) (found new : List Run) (first end : ℕ) (r q d : Run) → IsMerged runs others i j found → i < length runs → j < length others → r ≡ get_or runs i d → q ≡ get_or others j d → q.last < r.last
    → first ≡ max r.first q.first → end ≡ min r.last q.last + 1
    → IsCounted 0 0 new → next_start 0 new ≤ max (next_start 0 found) (end + 1) → CoverChanges first end (Some tt) (rows_of_runs found) (rows_of_runs new)
    → IsMerged runs others i (j + 1) new
merged_second runs others i j found new first end r q d m hi hj er eq le ef ee counted after units =
    let s = next_rows runs i m.from r d hi er m.spaced in
    let t = next_rows others j m.from_others q d hj eq m.spaced_others in
    let here = split runs i r d hi er in
    let there = split others j q d hj eq in
    record {
      counted = counted;
      from = m.from;
      from_others = q.last + 1 + 1;
      spaced = m.spaced;
      spaced_others = t.2;
      after = (let before = m.after in omega (arith, after, before, t.0, t.1));
      members = λ n. m.members n
          ∙ ap (λ (xs : List Run). cond (has (rows_of_runs found) n) true (has (rows_of_runs xs) n && has (rows_of_runs (drop j others)) n)) here
          ∙ ap (λ (xs : List Run). cond (has (rows_of_runs found) n) true (has (rows_of_runs (r ∷ drop (i + 1) runs)) n && has (rows_of_runs xs) n)) there
          ∙ units_second r q n (cover (rows_of_runs (drop (i + 1) runs)) n) (cover (rows_of_runs (drop (j + 1) others)) n) (cover (rows_of_runs found) n) (cover (rows_of_runs new) n)
          (late r m.from n (drop (i + 1) runs) s) (late q m.from_others n (drop (j + 1) others) t) le (units n ∙ rw (ef, ee) refl)
          ∙ ap (λ (xs : List Run). cond (has (rows_of_runs new) n) true (has (rows_of_runs xs) n && has (rows_of_runs (drop (j + 1) others)) n)) (sym here);
    }

-- one of the lists is at its end
pub merged_all : (runs others : List Run) (i j : ℕ) (found : List Run) → IsMerged runs others i j found → (has_none : (n : ℕ) → has (rows_of_runs (drop i runs)) n && has (rows_of_runs (drop j others)) n ≡ false)
    → (n : ℕ) → has (rows_of_runs found) n ≡ has (rows_of_runs runs) n && has (rows_of_runs others) n
merged_all runs others i j found m none n = sym (m.members n ∙ (rw (none n) (by (has (rows_of_runs found) n))))
  where
    by : (b : Bool) → cond b true false ≡ b
    by true = refl
    by false = refl
