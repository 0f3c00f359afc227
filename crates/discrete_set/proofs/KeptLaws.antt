-- Runs as they are kept: what their ends and counts say of the members.
use Rattle.std.proofs.Common.{◌≡◌, ℕ, zero, suc, ◌+◌, ◌-◌, ◌^◌, ◌<◌, ◌≤◌, min, Bool, true, false, cond, List, [], ◌∷◌, ◌++◌, Option, Some, None, length, get_or, take, set, slice_get, subst, refl, ap, sym, ◌∙◌, arith}
use Rattle.std.specs.Prelude.{nat_lt, ⊤}
use Rattle.std.proofs.lemmas.Option.{slice_get_within, slice_get_read}
use Rattle.std.proofs.lemmas.Bool.Decides.{nat_tests}
use Rattle.range_base.specs.Rows.{in_units, cover, CoverChanges, IsSpaced}
use Rattle.range_base.proofs.Spacing.{IsSpaced-before}
use Rattle.discrete_set.specs.declared.run.Run.{Run}
use Rattle.discrete_set.specs.Runs.{AreRuns, count_below, item}
use Rattle.discrete_set.specs.Counted.{row_of, rows_of_runs, IsCounted, next_start, total}
use Rattle.discrete_set.proofs.CountLaws.{count_below-empty, count_below-cons}

pub IsSpaced-counted : (from b : ℕ) (rs : List Run) → IsCounted from b rs → IsSpaced 1 from (rows_of_runs rs)
IsSpaced-counted from b [] s = tt
IsSpaced-counted from b (r ∷ rs) s = (s.0, omega (arith, s.1), IsSpaced-before 1 (r.last + 1 + 1) (r.last + 2) (rows_of_runs rs) (omega arith) (IsSpaced-counted (r.last + 2) (b + (r.last + 1 - r.first)) rs s.4))

past : (from b n : ℕ) (rs : List Run) → IsCounted from b rs → 2 ^ 64 ≤ n → cover (rows_of_runs rs) n ≡ None
past from b n [] s h = refl
past from b n (r ∷ rs) s h =
    let rest = past (r.last + 2) (b + (r.last + 1 - r.first)) n rs s.4 h in
    let outside : in_units r.first (r.last + 1) n ≡ false = (let last = s.2 in grind (arith, nat_tests, last)) in
    rw (outside) rest

pub AreRuns-counted : (rs : List Run) → IsCounted 0 0 rs → AreRuns (rows_of_runs rs)
AreRuns-counted rs s = record { apart = IsSpaced-counted 0 0 rs s; bound = λ n h. past 0 0 n rs s h }

-- ---- the sum of the counts
pub total_from : (b : ℕ) (rs : List Run) → b ≤ total b rs
total_from b [] = omega arith
total_from b (r ∷ rs) = let rest = total_from (b + (r.last + 1 - r.first)) rs in omega (arith, rest)

pub total_bound : (from b : ℕ) (rs : List Run) → IsCounted from b rs → b ≤ from → total b rs ≤ next_start from rs
total_bound from b [] s h = h
total_bound from b (r ∷ rs) s h = total_bound (r.last + 2) (b + (r.last + 1 - r.first)) rs s.4 (omega (arith, s.0, s.1))

pub total-count : (top from b : ℕ) (rs : List Run) → 2 ^ 64 ≤ top → IsCounted from b rs → total b rs ≡ b + count_below (rows_of_runs rs) top
total-count top from b [] h s = rw (count_below-empty top) (omega arith)
total-count top from b (r ∷ rs) h s =
    let rest = total-count top (r.last + 2) (b + (r.last + 1 - r.first)) rs h s.4 in
    let cons = count_below-cons from (row_of r) (rows_of_runs rs) (IsSpaced-counted from b (r ∷ rs) s) top in
    omega (arith, rest, cons, s.1, s.2)

pub item-none : (top from b : ℕ) (rs : List Run) → 2 ^ 64 ≤ top → IsCounted from b rs → (i : ℕ) → (item (rows_of_runs rs) i ≡ None → count_below (rows_of_runs rs) top ≤ i) × (count_below (rows_of_runs rs) top ≤ i → item (rows_of_runs rs) i ≡ None)
item-none top from b [] h s i = (λ e. (let none = count_below-empty top in omega (arith, none)), λ le. refl)
item-none top from b (r ∷ rs) h s i =
    let rest = item-none top (r.last + 2) (b + (r.last + 1 - r.first)) rs h s.4 (i - (r.last + 1 - r.first)) in
    let cons = count_below-cons from (row_of r) (rows_of_runs rs) (IsSpaced-counted from b (r ∷ rs) s) top in
    let all : min top (r.last + 1) - r.first ≡ r.last + 1 - r.first = (let last = s.2 in omega (arith, last)) in
    by (nat_lt i (r.last + 1 - r.first)) refl (item (rows_of_runs rs) (i - (r.last + 1 - r.first))) (count_below (rows_of_runs rs) top) rest (count_below (rows_of_runs (r ∷ rs)) top) (cons ∙ (rw all refl))
  where
    by : (t : Bool) → nat_lt i (r.last + 1 - r.first) ≡ t → (o : Option ℕ) (m : ℕ) → (o ≡ None → m ≤ i - (r.last + 1 - r.first)) × (m ≤ i - (r.last + 1 - r.first) → o ≡ None)
        → (w : ℕ) → w ≡ (r.last + 1 - r.first) + m → (cond t (Some (r.first + i)) o ≡ None → w ≤ i) × (w ≤ i → cond t (Some (r.first + i)) o ≡ None)
    by true t o m rest w e = (λ x. cc, λ le. absurd (grind (arith, nat_tests)))
    by false t o m rest w e = (λ x. (let less = rest.0 x in grind (arith, nat_tests)), λ le. rest.1 (grind (arith, nat_tests)))

-- ---- lists that grow at their end
last_at : (rs : List Run) (k : ℕ) (r : Run) → k + 1 ≡ length rs → slice_get rs k ≡ Some r → rs ≡ take k rs ++ r ∷ []
last_at [] k r h e = cc
last_at (q ∷ []) zero r h e = (let same : q ≡ r = cc in ap (λ x. x ∷ []) same)
last_at (q ∷ p ∷ ps) zero r h e = absurd (omega arith)
last_at (q ∷ qs) (suc k) r h e = ap (λ xs. q ∷ xs) (last_at qs k r (omega arith) e)

pub set-last : (rs : List Run) (k : ℕ) (r : Run) → k + 1 ≡ length rs → set rs k r ≡ take k rs ++ r ∷ []
set-last [] k r h = absurd (omega arith)
set-last (q ∷ []) zero r h = refl
set-last (q ∷ p ∷ ps) zero r h = absurd (omega arith)
set-last (q ∷ qs) (suc k) r h = ap (λ xs. q ∷ xs) (set-last qs k r (omega arith))

pub next_start-push : (from : ℕ) (rs : List Run) (r : Run) → next_start from (rs ++ r ∷ []) ≡ r.last + 2
next_start-push from [] r = refl
next_start-push from (q ∷ qs) r = next_start-push (q.last + 2) qs r

pub IsCounted-push : (from b : ℕ) (rs : List Run) (r : Run) → IsCounted from b rs → next_start from rs ≤ r.first → r.first ≤ r.last → r.last < 2 ^ 64 → r.before ≡ total b rs → IsCounted from b (rs ++ r ∷ [])
IsCounted-push from b [] r s h o l e = (h, o, l, e, tt)
IsCounted-push from b (q ∷ qs) r s h o l e = (s.0, s.1, s.2, s.3, IsCounted-push (q.last + 2) (b + (q.last + 1 - q.first)) qs r s.4 h o l e)

-- the parts of what was pushed
pub record IsPushed (from b : ℕ) (rs : List Run) (r : Run) : Type 0 where
  pub front : IsCounted from b rs
  pub after : next_start from rs ≤ r.first
  pub in_order : r.first ≤ r.last
  pub bound : r.last < 2 ^ 64
  pub count : r.before ≡ total b rs

pub pushed : (from b : ℕ) (rs : List Run) (r : Run) → IsCounted from b (rs ++ r ∷ []) → IsPushed from b rs r
pushed from b [] r s = record { front = tt; after = s.0; in_order = s.1; bound = s.2; count = s.3 }
pushed from b (q ∷ qs) r s =
    let rest = pushed (q.last + 2) (b + (q.last + 1 - q.first)) qs r s.4 in
    record { front = (s.0, s.1, s.2, s.3, rest.front); after = rest.after; in_order = rest.in_order; bound = rest.bound; count = rest.count }

-- the last run of a list
pub record IsLast (rs : List Run) (r : Run) : Type 0 where
  pub is : rs ≡ take (length rs - 1) rs ++ r ∷ []
  pub parts : IsPushed 0 0 (take (length rs - 1) rs) r

pub last_is : (rs : List Run) (r : Run) → IsCounted 0 0 rs → slice_get rs (length rs - 1) ≡ Some r → IsLast rs r
last_is rs r s e =
    let some = slice_get_within rs (length rs - 1) r e in
    let split = last_at rs (length rs - 1) r (omega arith) e in
    record { is = split; parts = pushed 0 0 (take (length rs - 1) rs) r (subst (λ (xs : List Run). IsCounted 0 0 xs) split s) }

pub total-push : (b : ℕ) (rs : List Run) (r : Run) → total b (rs ++ r ∷ []) ≡ total b rs + (r.last + 1 - r.first)
total-push b [] r = refl
total-push b (q ∷ qs) r = total-push (b + (q.last + 1 - q.first)) qs r

pub cover-push : (rs : List Run) (r : Run) (n : ℕ) → cover (rows_of_runs (rs ++ r ∷ [])) n ≡ cond (in_units r.first (r.last + 1) n) (Some tt) (cover (rows_of_runs rs) n)
cover-push [] r n = refl
cover-push (q ∷ qs) r n = rw (cover-push qs r n) (by (in_units q.first (q.last + 1) n) (in_units r.first (r.last + 1) n) (cover (rows_of_runs qs) n))
  where
    by : (a b : Bool) (o : Option ⊤) → cond a (Some tt) (cond b (Some tt) o) ≡ cond b (Some tt) (cond a (Some tt) o)
    by true true o = refl
    by true false o = refl
    by false true o = refl
    by false false o = refl

pub next_start-last : (rs : List Run) (r : Run) → IsLast rs r → next_start 0 rs ≡ r.last + 2
next_start-last rs r l = ap (next_start 0) l.is ∙ next_start-push 0 (take (length rs - 1) rs) r

pub total-last : (rs : List Run) (r : Run) → IsLast rs r → total 0 rs ≡ r.before + (r.last + 1 - r.first)
total-last rs r l = ap (total 0) l.is ∙ total-push 0 (take (length rs - 1) rs) r ∙ (let e = l.parts.count in omega (arith, e))

pub last_bound : (rs : List Run) (r : Run) → IsLast rs r → (r.before ≤ r.first) × (r.first ≤ r.last) × (r.last < 2 ^ 64)
last_bound rs r l =
    let parts = l.parts in
    let bound = total_bound 0 0 (take (length rs - 1) rs) parts.front (omega arith) in
    (omega (arith, bound, parts.after, parts.count), parts.in_order, parts.bound)

pub next_start-some : (rs : List Run) → 0 < next_start 0 rs → 0 < length rs
next_start-some [] h = h
next_start-some (r ∷ rs) h = omega arith

-- ---- numbers added at the end of a list
pub units-push : (rs : List Run) (first last before : ℕ) (end : ℕ) → first < end → last ≡ end - 1 → CoverChanges first end (Some tt) (rows_of_runs rs) (rows_of_runs (rs ++ record { first = first; last = last; before = before } ∷ []))
units-push rs first last before end lt e u =
    let top : last + 1 ≡ end = omega arith in
    cover-push rs record { first = first; last = last; before = before } u ∙ ap (λ (m : ℕ). cond (in_units first m u) (Some tt) (cover (rows_of_runs rs) u)) top

pub counted-extended : (rs : List Run) (r q : Run) → IsLast rs r → q.first ≡ r.first → q.before ≡ r.before → next_start 0 rs ≤ q.last + 1 → q.last < 2 ^ 64 → IsCounted 0 0 (take (length rs - 1) rs ++ q ∷ [])
counted-extended rs r q l qf qb h bound =
    let parts = l.parts in
    let start = next_start-last rs r l in
    IsCounted-push 0 0 (take (length rs - 1) rs) q parts.front (omega (arith, parts.after)) (omega (arith, parts.in_order)) bound (qb ∙ parts.count)

pub units-extended : (rs : List Run) (r q : Run) → IsLast rs r → q.first ≡ r.first → next_start 0 rs ≤ q.last + 1
    → CoverChanges (next_start 0 rs - 1) (q.last + 1) (Some tt) (rows_of_runs rs) (rows_of_runs (take (length rs - 1) rs ++ q ∷ []))
units-extended rs r q l qf h u =
    let front = take (length rs - 1) rs in
    let start = next_start-last rs r l in
    let old : cover (rows_of_runs rs) u ≡ cond (in_units r.first (r.last + 1) u) (Some tt) (cover (rows_of_runs front) u) = ap (λ (xs : List Run). cover (rows_of_runs xs) u) l.is ∙ cover-push front r u in
    cover-push front q u ∙ by u (cover (rows_of_runs front) u) (next_start 0 rs) start h ∙ ap (λ (o : Option ⊤). cond (in_units (next_start 0 rs - 1) (q.last + 1) u) (Some tt) o) (sym old)
  where
    by : (u : ℕ) (o : Option ⊤) (n : ℕ) → n ≡ r.last + 2 → n ≤ q.last + 1 → cond (in_units q.first (q.last + 1) u) (Some tt) o ≡ cond (in_units (n - 1) (q.last + 1) u) (Some tt) (cond (in_units r.first (r.last + 1) u) (Some tt) o)
    by u o n e le = let f = l.parts.in_order in grind (arith, nat_tests, f)

pub last_place : (rs : List Run) (n : ℕ) (r : Run) → IsCounted 0 0 rs → n ≡ length rs → 0 < length rs → r ≡ get_or rs (n - 1) r → IsLast rs r
last_place rs n r s e some at =
    let read = slice_get_read rs n (n - 1) r e (omega arith) at in
    last_is rs r s (ap (λ (k : ℕ). slice_get rs (k - 1)) (sym e) ∙ read)

pub set-place : (rs : List Run) (n : ℕ) (q : Run) → n ≡ length rs → 0 < length rs → set rs (n - 1) q ≡ take (length rs - 1) rs ++ q ∷ []
set-place rs n q e some = ap (λ (k : ℕ). set rs (k - 1) q) e ∙ set-last rs (length rs - 1) q (omega arith)

-- the list after a push, and what it says of the numbers
pub counted-pushed : (rs new : List Run) (first last : ℕ) → IsCounted 0 0 rs → next_start 0 rs ≤ first → first ≤ last → last < 2 ^ 64
    → new ≡ rs ++ record { first = first; last = last; before = total 0 rs } ∷ [] → IsCounted 0 0 new
counted-pushed rs new first last s h le bound e = rw e (IsCounted-push 0 0 rs record { first = first; last = last; before = total 0 rs } s h le bound refl)

pub start-pushed : (rs new : List Run) (first last : ℕ) → new ≡ rs ++ record { first = first; last = last; before = total 0 rs } ∷ [] → next_start 0 new ≡ last + 2
start-pushed rs new first last e = rw e (next_start-push 0 rs record { first = first; last = last; before = total 0 rs })

pub units-pushed : (rs new : List Run) (first last end : ℕ) → first < end → last ≡ end - 1 → new ≡ rs ++ record { first = first; last = last; before = total 0 rs } ∷ []
    → CoverChanges first end (Some tt) (rows_of_runs rs) (rows_of_runs new)
units-pushed rs new first last end lt le e = rw e (units-push rs first last (total 0 rs) end lt le)
