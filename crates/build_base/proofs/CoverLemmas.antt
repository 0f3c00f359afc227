-- Ranges one after another, whose units rows cover.
use Rattle.std.proofs.Common.{◌≡◌, ℕ, ◌+◌, ◌<◌, Bool, true, false, cond, ◌&&◌, ◌||◌, nat_lt, List, [], ◌∷◌, ◌++◌, length, take, drop, get_or, Option, Some, None, refl, sym, ap, subst, ◌∙◌, inl, inr, arith}
use Rattle.std.specs.Prelude.{IfSome, is_some}
use Rattle.std.specs.List.{All, list_any}
use Rattle.std.proofs.lemmas.Bool.{cases_lt}
use Rattle.std.proofs.lemmas.Bool.Decides.{nat_tests}
use Rattle.std.proofs.lemmas.List.{take_more, take-append-drop}
use Rattle.std.proofs.lemmas.List.Elements.{All-push, All-head, All-tail}
use Rattle.std.proofs.lemmas.List.Folds.{list_any-append}
use Rattle.elem.specs.declared.spans.Span.{Span}
use Rattle.elem.specs.PlaceLaws.{cut_before-places}
use Rattle.elem.specs.Places.{place}
use Rattle.range_base.specs.Rows.{Row as RangeRow, cover, in_units, CoverChanges}
use Rattle.build_base.specs.declared.row.Row.{Row}
use Rattle.build_base.specs.Kept.{has_twice}
use Rattle.build_base.specs.Ranges.{overlap, span_of, spans_overlap}
use Rattle.build_base.specs.Units.{AreCovered, CoversMore, IsFreeOf, IsLong, IsLongRow, in_row, in_span}
use Rattle.build_base.proofs.MeetLemmas.{both_false, in_order}

-- ---- lists with one more item
module _ {R : Type 0} (alike : R → R → Bool) where
  has_twice-push : (rows : List R) (r : R) → has_twice alike (rows ++ r ∷ []) ≡ (has_twice alike rows || list_any (λ x. alike x r) rows)
  has_twice-push [] r = refl
  has_twice-push (row ∷ rows) r = ap (λ b. list_any (alike row) (rows ++ r ∷ []) || b) (has_twice-push rows r) ∙ ap (λ b. b || (has_twice alike rows || list_any (λ x. alike x r) rows)) (list_any-append (alike row) rows (r ∷ []))
      ∙ by (list_any (alike row) rows) (alike row r) (has_twice alike rows) (list_any (λ x. alike x r) rows)
    where
      by : (a b c d : Bool) → ((a || (b || false)) || (c || d)) ≡ ((a || c) || (b || d))
      by true b c d = refl
      by false true true d = refl
      by false true false d = refl
      by false false c d = refl

  has_twice-append : (rows more : List R) → has_twice alike rows ≡ true → has_twice alike (rows ++ more) ≡ true
  has_twice-append [] more h = cc
  has_twice-append (row ∷ rows) more h = ap (λ b. b || has_twice alike (rows ++ more)) (list_any-append (alike row) rows more) ∙ by (list_any (alike row) rows) (list_any (alike row) more) (has_twice alike rows) (has_twice alike (rows ++ more)) h (has_twice-append rows more)
    where
      by : (a b c d : Bool) → a || c ≡ true → (c ≡ true → d ≡ true) → ((a || b) || d) ≡ true
      by true b c d h f = refl
      by false true c d h f = refl
      by false false c d h f = f h

-- ---- two ranges
spans_overlap-places : (s t : Span) → IsLong s → IsLong t → spans_overlap (Some s) (Some t) ≡ (nat_lt (place s.lo) (place t.hi) && nat_lt (place t.lo) (place s.hi))
spans_overlap-places s t f g = rw (cut_before-places s.lo t.hi f.whole.lo g.whole.hi f.lo g.hi, cut_before-places t.lo s.hi g.whole.lo f.whole.hi g.lo f.hi) refl

-- ranges that do not overlap have no unit in common
apart_units : (o q : Option Span) → IfSome o IsLong → IfSome q IsLong → spans_overlap o q ≡ false → (u : ℕ) → in_span u q ≡ true → in_span u o ≡ false
apart_units None q f g h u t = refl
apart_units (Some s) None f g h u t = cc
apart_units (Some s) (Some p) f g h u t = let test : nat_lt (place s.lo) (place p.hi) && nat_lt (place p.lo) (place s.hi) ≡ false = sym (spans_overlap-places s p f g) ∙ h in grind (arith, nat_tests, test, t)

-- ranges that have no unit in common do not overlap
units_apart : (o q : Option Span) → IfSome o IsLong → IfSome q IsLong → ((u : ℕ) → in_span u q ≡ true → in_span u o ≡ false) → spans_overlap o q ≡ false
units_apart None q f g h = refl
units_apart (Some s) None f g h = refl
units_apart (Some s) (Some p) f g h = spans_overlap-places s p f g ∙ by (place s.lo) (place s.hi) (place p.lo) (place p.hi) (in_order s f) (in_order p g) h
  where
    by : (a b c d : ℕ) → a < b → c < d → ((u : ℕ) → in_units c d u ≡ true → in_units a b u ≡ false) → nat_lt a d && nat_lt c b ≡ false
    by a b c d l m h = elim (cases_lt a c) [
      | inl lt ↦ (let t = h c (let e : in_units c d c ≡ true = grind (arith, nat_tests) in e) in grind (arith, nat_tests, t))
      | inr ge ↦ elim (cases_lt a d) [
        | inl less ↦ (let t = h a (let e : in_units c d a ≡ true = grind (arith, nat_tests) in e) in grind (arith, nat_tests, t))
        | inr le ↦ grind (arith, nat_tests)
      ]
    ]

neither : (a b : Bool) → a ≡ false → b ≡ false → a || b ≡ false
neither a b h k = rw (h, k) refl

-- ---- a range and those before it
apart_from_all : (items : List Row) (row : Row) → All IsLongRow items → IsLongRow row → list_any (λ x. overlap x row) items ≡ false → (u : ℕ) → in_row u row ≡ true → list_any (in_row u) items ≡ false
apart_from_all [] row f g h u t = refl
apart_from_all (x ∷ items) row f g h u t =
    let two = both_false (overlap x row) (list_any (λ x. overlap x row) items) h in
    neither (in_row u x) (list_any (in_row u) items) (apart_units (span_of x) (span_of row) (All-head IsLongRow x items f) g two.0 u t) (apart_from_all items row (All-tail IsLongRow x items f) g two.1 u t)

none_in_common : (items : List Row) (row : Row) → All IsLongRow items → IsLongRow row → ((u : ℕ) → in_row u row ≡ true → list_any (in_row u) items ≡ false) → list_any (λ x. overlap x row) items ≡ false
none_in_common [] row f g h = refl
none_in_common (x ∷ items) row f g h =
    neither (overlap x row) (list_any (λ x. overlap x row) items)
    (units_apart (span_of x) (span_of row) (All-head IsLongRow x items f) g (λ u t. (both_false (in_row u x) (list_any (in_row u) items) (h u t)).0))
    (none_in_common items row (All-tail IsLongRow x items f) g (λ u t. (both_false (in_row u x) (list_any (in_row u) items) (h u t)).1))

-- ---- the step of a loop
module _ {V : Type 0} where
  is_none : (o : Option V) → is_some o ≡ false → o ≡ None
  is_none None h = refl
  is_none (Some v) h = cc

  pub covers_more : (row : Row) (s : Span) (v : V) (old new : List (RangeRow V)) → span_of row ≡ Some s → CoverChanges (place s.lo) (place s.hi) (Some v) old new → CoversMore row old new
  covers_more row s v old new e h u = ap is_some (h u) ∙ by (in_units (place s.lo) (place s.hi) u) (cover old u) ∙ ap (λ b. b || is_some (cover old u)) (sym (ap (in_span u) e))
    where
      by : (a : Bool) (o : Option V) → is_some (cond a (Some v) o) ≡ (a || is_some o)
      by true o = refl
      by false o = refl

  module _ (items : List Row) (i : ℕ) (row : Row) (h : i < length items) (e : row ≡ get_or items i row) (long : IsLongRow row) (old : List (RangeRow V)) (so_far : AreCovered (take i items) old) where
    next : take (i + 1) items ≡ take i items ++ row ∷ []
    next = take_more items i row h ∙ ap (λ x. take i items ++ x ∷ []) (sym e)

    pub covered_more : (new : List (RangeRow V)) → IsFreeOf row old → CoversMore row old new → AreCovered (take (i + 1) items) new
    covered_more new free more = subst (λ (l : List Row). AreCovered l new) (sym next) (record {
      apart = has_twice-push overlap (take i items) row ∙ neither (has_twice overlap (take i items)) (list_any (λ x. overlap x row) (take i items)) so_far.apart (none_in_common (take i items) row so_far.long long (λ u t. sym (so_far.units u) ∙ ap is_some (free u t)));
      long = All-push IsLongRow (take i items) row so_far.long long;
      units = λ u. more u ∙ ap (λ b. in_row u row || b) (so_far.units u) ∙ by (in_row u row) (list_any (in_row u) (take i items)) ∙ sym (list_any-append (in_row u) (take i items) (row ∷ []));
    })
      where
        by : (a b : Bool) → (a || b) ≡ (b || (a || false))
        by true true = refl
        by true false = refl
        by false true = refl
        by false false = refl

    pub overlap_found : (IsFreeOf row old → ⊥) → has_twice overlap items ≡ true
    overlap_found met = subst (λ (l : List Row). has_twice overlap l ≡ true) (take-append-drop (i + 1) items) (has_twice-append overlap (take (i + 1) items) (drop (i + 1) items) (ap (has_twice overlap) next ∙ has_twice-push overlap (take i items) row ∙ by (has_twice overlap (take i items)) (list_any (λ x. overlap x row) (take i items)) refl))
      where
        by : (a b : Bool) → list_any (λ x. overlap x row) (take i items) ≡ b → (a || b) ≡ true
        by true b q = refl
        by false true q = refl
        by false false q = absurd (met (λ u t. is_none (cover old u) (so_far.units u ∙ apart_from_all (take i items) row so_far.long long q u t)))

pub none_covered : {V : Type 0} → AreCovered {V = V} [] []
none_covered = record { apart = refl; long = λ k d l. absurd (omega arith); units = λ u. refl }
