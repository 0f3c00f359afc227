-- Items and their counts, where one more is added.
use Rattle.std.proofs.Common.{◌≡◌, ℕ, zero, suc, ◌+◌, ◌<◌, ◌≤◌, Bool, true, false, cond, unwrap_or, nat_lt, List, [], ◌∷◌, ◌++◌, length, get_or, Option, Some, refl, sym, ap, ◌∙◌, arith}
use Rattle.std.specs.Map.{count_at}
use Rattle.std.proofs.lemmas.Bool.Decides.{nat_tests}
use Rattle.std.proofs.lemmas.List.Sums.{sum_by_push}
use Rattle.elem.specs.declared.elements.Elem.{Elem}
use Rattle.elem.specs.declared.build_kinds.BuildKind.{BuildKind}
use Rattle.elem.specs.declared.build_kinds.BuildKind.TheVariants as kind
use Rattle.elem.specs.declared.spans.Span.{Span}
use Rattle.elem.specs.CutLaws.{cut_before_strict, same_cut-Decides}
use Rattle.elem.specs.Cuts.{same_cut}
use Rattle.elem.specs.Elements.{same}
use Rattle.elem.specs.ElementLaws.{same-Decides}
use Rattle.elem.specs.OrderLaws.{natural_before_strict}
use Rattle.elem.specs.Spans.{IsWhole}
use Rattle.build_base.specs.declared.row.Row.{Row}
use Rattle.build_base.specs.declared.row.Row.TheVariants.{Counted, Range, RangeValue}
use Rattle.build_base.specs.Rows.{Fits}
use Rattle.build_base.specs.Units.{IsFilledRow, has_length}
use Rattle.build_base.specs.Built.{AllFit, most, count_in, count_of, refuses_item}

pub fits_at : (k : BuildKind) (items : List Row) (i : ℕ) (d : Row) → AllFit k items → i < length items → Fits k (get_or items i d)
fits_at k [] i d a h = absurd (omega arith)
fits_at k (row ∷ items) zero d a h = a.0
fits_at k (row ∷ items) (suc i) d a h = fits_at k items i d a.1 (omega arith)

pub fits-push : (k : BuildKind) (items : List Row) (row : Row) → AllFit k items → Fits k row → AllFit k (items ++ row ∷ [])
fits-push k [] row a f = (f, tt)
fits-push k (item ∷ items) row a f = (a.0, fits-push k items row a.1 f)

pub counted_more : (old new : Elem → Option ℕ) (x : Elem) (n before : ℕ) → before ≡ count_at old x → ((q : Elem) → new q ≡ cond (same x q) (Some (before + n)) (old q)) → (q : Elem) → count_at new q ≡ count_at old q + count_in q (Counted x n)
counted_more old new x n before b h q = ap (λ o. unwrap_or o 0) (h q) ∙ by (same x q) refl
  where
    by : (t : Bool) → same x q ≡ t → unwrap_or (cond t (Some (before + n)) (old q)) 0 ≡ count_at old q + cond t n 0
    by true e = ap (λ m. m + n) (b ∙ ap (count_at old) ((same-Decides x q).0 e))
    by false e = omega arith

pub room_for : (items : List Row) (row : Row) → refuses_item items row ≡ false → (x : Elem) (n : ℕ) → row ≡ Counted x n → count_of items x + n ≤ most
room_for items row h x n e = let t : nat_lt most (count_of items x + n) ≡ false = sym (ap (refuses_item items) e) ∙ h in grind (arith, nat_tests, t)

pub count_of-push : (items : List Row) (row : Row) (x : Elem) → count_of (items ++ row ∷ []) x ≡ count_of items x + count_in x row
count_of-push items row x = sum_by_push (count_in x) items row

whole_range : (k : BuildKind) (s : Span) → Fits k (Range s) → IsWhole s
whole_range kind.RangeSet s f = f
whole_range k s f = absurd f

whole_entry : (k : BuildKind) (s : Span) (v : Elem) → Fits k (RangeValue s v) → IsWhole s
whole_entry kind.RangeMap s v f = f
whole_entry k s v f = absurd f

filled : (s : Span) → IsWhole s → same_cut s.lo s.hi ≡ false → has_length s ≡ true
filled s w e = (cut_before_strict natural_before_strict).exactly_one s.lo s.hi (λ q. (let t = (same_cut-Decides s.lo s.hi).1 q in cc)) ∙ w.in_order

-- a range that is not refused is not empty
pub filled_row : (k : BuildKind) (items : List Row) (row : Row) → Fits k row → refuses_item items row ≡ false → IsFilledRow row
filled_row k items (Range s) f h = filled s (whole_range k s f) h
filled_row k items (RangeValue s v) f h = filled s (whole_entry k s v f) h
filled_row k items row f h = tt
