-- What the calls of a set answer.
use Rattle.std.proofs.Common.{◌≡◌, ℕ, ℤ, ◌+◌, ◌-◌, ◌^◌, ◌<◌, ◌≤◌, Bool, cond, ◌&&◌, List, [], ◌∷◌, Option, Some, None, FitsSigned, length, slice_get, refl, ap, sym, ◌∙◌, arith}
use Rattle.std.specs.Prelude.{nat_le, is_some, IfSome, IsNone, ⊤}
use Rattle.std.specs.Int.{w64}
use Rattle.std.specs.Option.{option_map}
use Rattle.std.proofs.lemmas.Bool.Decides.{nat_tests}
use Rattle.std.proofs.lemmas.Option.{slice_get_within, get_or_from_slice_get}
use Rattle.elem.specs.declared.elements.Elem.TheVariants.{Int}
use Rattle.elem.specs.declared.cuts.Cut.TheVariants.{Below, Above}
use Rattle.elem.specs.Cuts.{IsCut, IsWholeCut}
use Rattle.elem.specs.declared.spans.Span.{Span}
use Rattle.elem.specs.Spans.{holds}
use Rattle.elem.specs.Places.{place, place_below}
use Rattle.elem.specs.PlaceLaws.{upto-places}
use Rattle.range_base.specs.Rows.{Row, in_units, cover}
use Rattle.discrete_set.specs.declared.run.Run.{Run}
use Rattle.discrete_set.specs.Numbers.{rank, number, numbers_below, unit_at}
use Rattle.discrete_set.specs.Runs.{has, count_below, IsItem, item, runs_of, within, common}
use Rattle.discrete_set.specs.Ranges.{rows_of, is_member}
use Rattle.discrete_set.specs.Counted.{row_of, rows_of_runs, IsCounted, total}
use Rattle.discrete_set.proofs.NumberLaws.{rank-number, rank_bound, place_below-rank, in_units-unit_at}
use Rattle.discrete_set.proofs.RunLaws.{same_runs, has-runs_of, AreRuns-runs_of, has-within, AreRuns-within, has-common, AreRuns-common}
use Rattle.discrete_set.proofs.CountLaws.{item_is, count_below-cons, count_below-empty}
use Rattle.discrete_set.proofs.KeptLaws.{IsSpaced-counted, AreRuns-counted, total-count, total-last, last_is, last_bound, item-none}
use Rattle.discrete_set.proofs.SearchLaws.{item-found}

-- ---- items
pub item_member : (rows : List (Row ⊤)) (rs : List Run) → rows_of_runs rs ≡ rows → IsCounted 0 0 rs → (i : ℕ) (o : Option ℤ) → o ≡ option_map number (item rows i) → IfSome o (λ v. IsItem rows i (rank v))
item_member rows rs e s i o f = rw f (by (item rows i) refl)
  where
    by : (p : Option ℕ) → item rows i ≡ p → IfSome (option_map number p) (λ v. IsItem rows i (rank v))
    by None g = tt
    by (Some n) g = rw (rank-number n) (rw (← e) (item_is 0 (rows_of_runs rs) (IsSpaced-counted 0 0 rs s) i n (ap (λ (xs : List (Row ⊤)). item xs i) e ∙ g)))

none_mapped : (p : Option ℕ) → (IsNone (option_map number p) → p ≡ None) × (p ≡ None → IsNone (option_map number p))
none_mapped None = (λ h. refl, λ h. refl)
none_mapped (Some n) = (λ h. cc, λ h. cc)

pub item_missing : (rows : List (Row ⊤)) (rs : List Run) → rows_of_runs rs ≡ rows → IsCounted 0 0 rs → (i : ℕ) (o : Option ℤ) → o ≡ option_map number (item rows i) → (IsNone o → count_below rows (2 ^ 64) ≤ i) × (count_below rows (2 ^ 64) ≤ i → IsNone o)
item_missing rows rs e s i o f =
    let none = item-none (2 ^ 64) 0 0 rs (omega arith) s i in
    let same = none_mapped (item (rows_of_runs rs) i) in
    rw (f, ← e) (λ h. none.0 (same.0 h), λ h. same.1 (none.1 h))

-- there is no member exactly where there are no runs
some_members : (from b : ℕ) (rs : List Run) → IsCounted from b rs → (count_below (rows_of_runs rs) (2 ^ 64) ≡ 0 → rows_of_runs rs ≡ []) × (rows_of_runs rs ≡ [] → count_below (rows_of_runs rs) (2 ^ 64) ≡ 0)
some_members from b [] s = (λ h. refl, λ h. count_below-empty (2 ^ 64))
some_members from b (r ∷ rs) s = (
  λ h. absurd (let cons = count_below-cons from (row_of r) (rows_of_runs rs) (IsSpaced-counted from b (r ∷ rs) s) (2 ^ 64) in omega (arith, h, cons, s.1, s.2)),
  λ h. cc,
)

pub first_missing : (rows : List (Row ⊤)) (rs : List Run) → rows_of_runs rs ≡ rows → IsCounted 0 0 rs → (o : Option ℤ) → o ≡ option_map number (item rows 0) → (IsNone o → rows ≡ []) × (rows ≡ [] → IsNone o)
first_missing rows rs e s o f =
    let none = item_missing (rows_of_runs rs) rs refl s 0 o (f ∙ ap (λ (xs : List (Row ⊤)). option_map number (item xs 0)) (sym e)) in
    let some = some_members 0 0 rs s in
    rw (← e) (λ h. some.0 (let le = none.0 h in omega (arith, le)), λ h. none.1 (let zero_members = some.1 h in omega (arith, zero_members)))

pub last_missing : (rows : List (Row ⊤)) (rs : List Run) → rows_of_runs rs ≡ rows → IsCounted 0 0 rs → (o : Option ℤ) → o ≡ option_map number (item rows (count_below rows (2 ^ 64) - 1)) → (IsNone o → rows ≡ []) × (rows ≡ [] → IsNone o)
last_missing rows rs e s o f =
    let none = item_missing (rows_of_runs rs) rs refl s (count_below (rows_of_runs rs) (2 ^ 64) - 1) o (f ∙ ap (λ (xs : List (Row ⊤)). option_map number (item xs (count_below xs (2 ^ 64) - 1))) (sym e)) in
    let some = some_members 0 0 rs s in
    rw (← e) (λ h. some.0 (let le = none.0 h in omega (arith, le)), λ h. none.1 (let zero_members = some.1 h in omega (arith, zero_members)))

pub last_item : (rs : List Run) (r : Run) → IsCounted 0 0 rs → slice_get rs (length rs - 1) ≡ Some r → item (rows_of_runs rs) (count_below (rows_of_runs rs) (2 ^ 64) - 1) ≡ Some r.last
last_item rs r s e =
    let last = last_is rs r s e in
    let count = total-count (2 ^ 64) 0 0 rs (omega arith) s in
    let sum = total-last rs r last in
    let parts = last_bound rs r last in
    let at = get_or_from_slice_get rs (length rs - 1) r r e in
    let some = slice_get_within rs (length rs - 1) r e in
    let i = count_below (rows_of_runs rs) (2 ^ 64) - 1 in
    let found = item-found 0 0 i rs s r (length rs - 1) some (rw at (omega (arith, count, sum, parts.1))) (λ j l m. absurd (omega arith)) in
    let found_at : item (rows_of_runs rs) i ≡ cond (nat_le (0 + i - r.before) (r.last - r.first)) (Some (r.first + (0 + i - r.before))) None = rw at at found in
    let skipped : 0 + i - r.before ≡ r.last - r.first = omega (arith, count, sum, parts.1) in
    found_at ∙ (rw skipped (let order = parts.1 in grind (arith, nat_tests, order)))

pub size_is : (rows : List (Row ⊤)) (rs : List Run) (m : ℕ) → rows_of_runs rs ≡ rows → IsCounted 0 0 rs → m ≡ total 0 rs → m ≡ count_below rows (2 ^ 64)
size_is rows rs m e s f = f ∙ total-count (2 ^ 64) 0 0 rs (omega arith) s ∙ rw e (omega arith)

-- ---- sets that are made
pub of_runs : (ranges : List Span) (rs : List Run) → IsCounted 0 0 rs → ((n : ℕ) → n < 2 ^ 64 → has (rows_of_runs rs) n ≡ is_some (cover (rows_of ranges) (unit_at n))) → rows_of_runs rs ≡ runs_of (rows_of ranges)
of_runs ranges rs s h = same_runs (rows_of_runs rs) (runs_of (rows_of ranges)) (AreRuns-counted rs s) (AreRuns-runs_of (rows_of ranges)) (λ n l. h n l ∙ sym (has-runs_of (rows_of ranges) n l))

pub of_members : (ranges : List Span) (rs : List Run) → ((n : ℕ) → n < 2 ^ 64 → has (rows_of_runs rs) n ≡ is_some (cover (rows_of ranges) (unit_at n))) → (v : ℤ) → FitsSigned w64 v → has (rows_of_runs rs) (rank v) ≡ is_member ranges v
of_members ranges rs h v f = h (rank v) (rank_bound v f) ∙ ap (λ (u : ℕ). is_some (cover (rows_of ranges) u)) (sym (place_below-rank v f))

pub within_runs : (rows : List (Row ⊤)) (rs found : List Run) (lo hi : ℕ) → rows_of_runs rs ≡ rows → IsCounted 0 0 rs → IsCounted 0 0 found → ((n : ℕ) → has (rows_of_runs found) n ≡ has (rows_of_runs rs) n && in_units lo hi n)
    → rows_of_runs found ≡ within lo hi rows
within_runs rows rs found lo hi e s t h = rw (← e) (same_runs (rows_of_runs found) (within lo hi (rows_of_runs rs)) (AreRuns-counted found t) (AreRuns-within lo hi (rows_of_runs rs) (AreRuns-counted rs s)) (λ n l. h n ∙ sym (has-within lo hi (rows_of_runs rs) n)))

holds-places : (r : Span) (v : ℤ) → IsWholeCut r.lo → IsWholeCut r.hi → IsCut r.lo → IsCut r.hi → FitsSigned w64 v → holds r (Int v) ≡ in_units (place r.lo) (place r.hi) (place_below v)
holds-places r v wl wh cl ch f = rw (upto-places r.lo (Below (Int v)) wl tt cl f, upto-places (Above (Int v)) r.hi tt wh f ch) (by (place r.lo) (place r.hi) (place_below v))
  where
    by : (lo hi u : ℕ) → nat_le lo u && nat_le (u + 1) hi ≡ in_units lo hi u
    by lo hi u = grind (arith, nat_tests)

pub within_members : (rows : List (Row ⊤)) (rs found : List Run) (r : Span) → rows_of_runs rs ≡ rows → IsWholeCut r.lo → IsWholeCut r.hi → IsCut r.lo → IsCut r.hi
    → ((n : ℕ) → has (rows_of_runs found) n ≡ has (rows_of_runs rs) n && in_units (numbers_below (place r.lo)) (numbers_below (place r.hi)) n)
    → (v : ℤ) → FitsSigned w64 v → has (rows_of_runs found) (rank v) ≡ has rows (rank v) && holds r (Int v)
within_members rows rs found r e wl wh cl ch h v f =
    h (rank v) ∙ ap (λ (xs : List (Row ⊤)). has xs (rank v) && in_units (numbers_below (place r.lo)) (numbers_below (place r.hi)) (rank v)) e
    ∙ ap (λ (b : Bool). has rows (rank v) && b) (sym (holds-places r v wl wh cl ch f ∙ ap (in_units (place r.lo) (place r.hi)) (place_below-rank v f) ∙ in_units-unit_at (place r.lo) (place r.hi) (rank v) (rank_bound v f)))

pub common_runs : (rows others : List (Row ⊤)) (rs ss found : List Run) → rows_of_runs rs ≡ rows → rows_of_runs ss ≡ others → IsCounted 0 0 rs → IsCounted 0 0 ss → IsCounted 0 0 found
    → ((n : ℕ) → has (rows_of_runs found) n ≡ has (rows_of_runs rs) n && has (rows_of_runs ss) n) → rows_of_runs found ≡ common rows others
common_runs rows others rs ss found e f s t u h =
    rw (← e, ← f) (same_runs (rows_of_runs found) (common (rows_of_runs rs) (rows_of_runs ss)) (AreRuns-counted found u) (AreRuns-common (rows_of_runs rs) (rows_of_runs ss) (AreRuns-counted rs s) (AreRuns-counted ss t)) (λ n l. h n ∙ sym (has-common (rows_of_runs rs) (rows_of_runs ss) n)))

pub window_is : (rs given found : List Run) (first lo end hi : ℕ) → given ≡ rs → first ≡ lo → end ≡ hi → ((n : ℕ) → has (rows_of_runs found) n ≡ has (rows_of_runs given) n && in_units first end n) → (n : ℕ) → has (rows_of_runs found) n ≡ has (rows_of_runs rs) n && in_units lo hi n
window_is rs given found first lo end hi e f g h n = h n ∙ rw (e, f, g) refl

pub common_is : (rs given ss taken found : List Run) → given ≡ rs → taken ≡ ss → ((n : ℕ) → has (rows_of_runs found) n ≡ has (rows_of_runs given) n && has (rows_of_runs taken) n) → (n : ℕ) → has (rows_of_runs found) n ≡ has (rows_of_runs rs) n && has (rows_of_runs ss) n
common_is rs given ss taken found e f h n = h n ∙ rw (e, f) refl
