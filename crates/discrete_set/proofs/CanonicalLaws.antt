-- Ranges with the same numbers have the same canonical list, and no others have it.
use Rattle.std.proofs.Common.{◌≡◌, ℕ, ℤ, ◌^◌, ◌<◌, Bool, true, false, cond, List, [], ◌∷◌, map, FitsSigned, refl, ap, sym, ◌∙◌, arith}
use Rattle.std.specs.Prelude.{nat_eq, is_some, ⊤}
use Rattle.std.specs.Int.{w64}
use Rattle.std.proofs.lemmas.Bool.Decides.{nat_tests}
use Rattle.elem.specs.declared.elements.Elem.TheVariants.{Int}
use Rattle.elem.specs.declared.cuts.Cut.TheVariants.{Below, End}
use Rattle.elem.specs.declared.spans.Span.{Span}
use Rattle.range_base.specs.Rows.{Row, part, cover}
use Rattle.discrete_set.specs.Numbers.{rank, number}
use Rattle.discrete_set.specs.Runs.{has, runs_of}
use Rattle.discrete_set.specs.Ranges.{rows_of, is_member, HaveSameMembers, canonical, canonical_list}
use Rattle.discrete_set.proofs.NumberLaws.{number_apart, number_fits, rank-number, rank_bound, place_below-rank}
use Rattle.discrete_set.proofs.RunLaws.{same_runs, has-runs_of, AreRuns-runs_of}

same_below : (m n : ℤ) → Below (Int m) ≡ Below (Int n) → m ≡ n
same_below m n e = cc

upper_apart : (m n : ℕ) → cond (nat_eq m (2 ^ 64)) End (Below (Int (number m))) ≡ cond (nat_eq n (2 ^ 64)) End (Below (Int (number n))) → m ≡ n
upper_apart m n e = by (nat_eq m (2 ^ 64)) (nat_eq n (2 ^ 64)) refl refl e
  where
    by : (s t : Bool) → nat_eq m (2 ^ 64) ≡ s → nat_eq n (2 ^ 64) ≡ t → cond s End (Below (Int (number m))) ≡ cond t End (Below (Int (number n))) → m ≡ n
    by true true x y e = grind (arith, nat_tests)
    by true false x y e = cc
    by false true x y e = cc
    by false false x y e = number_apart m n (same_below (number m) (number n) e)

canonical_apart : (a b : Row ⊤) → canonical a ≡ canonical b → a ≡ b
canonical_apart a b e =
    let lo = number_apart a.0 b.0 (same_below (number a.0) (number b.0) (ap (λ (s : Span). s.lo) e)) in
    let hi = upper_apart a.1.end b.1.end (ap (λ (s : Span). s.hi) e) in
    λ i. (lo i, part (hi i) tt)

head_same : (x y : Span) (xs ys : List Span) → x ∷ xs ≡ y ∷ ys → (x ≡ y) × (xs ≡ ys)
head_same x y xs ys e = (cc, cc)

list_apart : (rs ss : List (Row ⊤)) → map canonical rs ≡ map canonical ss → rs ≡ ss
list_apart [] [] e = refl
list_apart [] (s ∷ ss) e = cc
list_apart (r ∷ rs) [] e = cc
list_apart (r ∷ rs) (s ∷ ss) e =
    let parts = head_same (canonical r) (canonical s) (map canonical rs) (map canonical ss) e in
    let head = canonical_apart r s parts.0 in
    let tail = list_apart rs ss parts.1 in
    λ i. head i ∷ tail i

member-runs_of : (spans : List Span) (v : ℤ) → FitsSigned w64 v → is_member spans v ≡ has (runs_of (rows_of spans)) (rank v)
member-runs_of spans v f = ap (λ (u : ℕ). is_some (cover (rows_of spans) u)) (place_below-rank v f) ∙ sym (has-runs_of (rows_of spans) (rank v) (rank_bound v f))

pub same_members : (spans others : List Span) → canonical_list spans ≡ canonical_list others → HaveSameMembers spans others
same_members spans others e v f =
    let runs = list_apart (runs_of (rows_of spans)) (runs_of (rows_of others)) e in
    member-runs_of spans v f ∙ ap (λ (xs : List (Row ⊤)). has xs (rank v)) runs ∙ sym (member-runs_of others v f)

pub same_canonical : (spans others : List Span) → HaveSameMembers spans others → canonical_list spans ≡ canonical_list others
same_canonical spans others h = ap (map canonical) (same_runs (runs_of (rows_of spans)) (runs_of (rows_of others)) (AreRuns-runs_of (rows_of spans)) (AreRuns-runs_of (rows_of others)) (λ n l. at n l))
  where
    at : (n : ℕ) → n < 2 ^ 64 → has (runs_of (rows_of spans)) n ≡ has (runs_of (rows_of others)) n
    at n l =
        let fits = number_fits n l in
        let same : has (runs_of (rows_of spans)) (rank (number n)) ≡ has (runs_of (rows_of others)) (rank (number n)) = sym (member-runs_of spans (number n) fits) ∙ h (number n) fits ∙ member-runs_of others (number n) fits in
        rw (rank-number n) at same
