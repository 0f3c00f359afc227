-- What all rows of the table of words have, each word's action has.
use Rattle.std.proofs.Common.{◌≡◌, ℕ, Bool, true, false, ◌&&◌, ◌==◌, nat_eq, cond, List, [], ◌∷◌, Option, None, Some, refl, sym, ◌∙◌, ap}
use Rattle.std.specs.List.{list_all}
use Rattle.std.specs.Cmp.Lexicographic.{pointwise}
use Rattle.elem.specs.declared.build_kinds.BuildKind.TheVariants as build
use Rattle.vocabulary.specs.declared.calls.Call.{Call}
use Rattle.vocabulary.specs.declared.calls.Call.TheVariants as call
use Rattle.vocabulary.specs.declared.calls.CallForm.{CallForm}
use Rattle.vocabulary.specs.declared.calls.CallForm.TheVariants as form
use Rattle.vocabulary.specs.declared.shapes.RowSort.TheVariants as rows
use Rattle.vocabulary.specs.declared.shapes.Shape.{Shape}
use Rattle.vocabulary.specs.declared.shapes.Shape.TheVariants as shape
use Rattle.vocabulary.specs.declared.words.Action.{Action}
use Rattle.vocabulary.specs.declared.words.Action.TheVariants as action
use Rattle.vocabulary.specs.declared.words.Table.{Table}
use Rattle.vocabulary.specs.Fits.{fits, fits_ask, fits_counted, fits_element, fits_pair, fits_span, fits_span_value, fits_triple, is_builder}
use Rattle.vocabulary.specs.Known.{form_of_call}
use Rattle.vocabulary.specs.Shapes.{is_list, sort_of}
use Rattle.vocabulary.specs.Words.{Row, chosen, count_of, first_of, in_tables, rows_of, signature, tables_of}
use Rattle.vocabulary.specs.WordLaws.{CallsFit}

abbrev all_rows : (Action → Bool) → List Row → Bool
all_rows p rows = list_all (λ (row : Row). p row.1) rows

chosen_passes : (p : Action → Bool) (word : List ℕ) (count : ℕ) (rows : List Row) (a : Action) → all_rows p rows ≡ true → chosen word count rows ≡ Some a → p a ≡ true
unfolding chosen
chosen_passes p word count [] a all e = absurd (cc)
chosen_passes p word count (row ∷ rows) a all e = by (pointwise nat_eq row.0 word && count_of row.1 == count) e (p row.1) refl all (chosen_passes p word count rows a)
  where
    by : (b : Bool) → cond b (Some row.1) (chosen word count rows) ≡ Some a → (q : Bool) → p row.1 ≡ q → (q && all_rows p rows) ≡ true → (all_rows p rows ≡ true → chosen word count rows ≡ Some a → p a ≡ true) → p a ≡ true
    by true e true is all more = let same : row.1 ≡ a = cc in sym (ap p same) ∙ is
    by false e true is all more = more all e
    by b e false is all more = absurd (cc)

tables_pass : (p : Action → Bool) (word : List ℕ) (count : ℕ) (parts : List Table) (a : Action) → list_all (λ part. all_rows p (rows_of part)) parts ≡ true → in_tables word count parts ≡ Some a → p a ≡ true
tables_pass p word count [] a all e = absurd (cc)
tables_pass p word count (part ∷ parts) a all e = by (chosen word count (rows_of part)) refl e (all_rows p (rows_of part)) refl all (tables_pass p word count parts a)
  where
    by : (found : Option Action) → chosen word count (rows_of part) ≡ found → first_of found (in_tables word count parts) ≡ Some a → (q : Bool) → all_rows p (rows_of part) ≡ q → (q && list_all (λ part. all_rows p (rows_of part)) parts) ≡ true → (list_all (λ part. all_rows p (rows_of part)) parts ≡ true → in_tables word count parts ≡ Some a → p a ≡ true) → p a ≡ true
    by None is e true rows all more = more all e
    by (Some x) is e true rows all more = chosen_passes p word count (rows_of part) a rows (is ∙ e)
    by found is e false rows all more = absurd (cc)

-- whether views of a shape have the calls of a form
abbrev has_calls : Shape → CallForm → Bool
has_calls on (form.Ask word) = fits_ask on word
has_calls on (form.Element word) = fits_element on word
has_calls on (form.Index word) = is_list on
has_calls on (form.Indexed word) = is_list on
has_calls on (form.Counted word) = fits_counted on word
has_calls on (form.Pair word) = fits_pair on word
has_calls on (form.Triple word) = fits_triple on word
has_calls on (form.Span word) = fits_span on word
has_calls on (form.SpanValue word) = fits_span_value on word
has_calls on (form.Build word) = is_builder on
has_calls on (form.Other word) = true
has_calls on (form.Values word) = true

-- whether views of a shape have the calls that an action is
abbrev has_call : Shape → Action → Bool
has_call on (action.Call form) = has_calls on form
has_call on other = true

all_have : (on : Shape) → list_all (λ part. all_rows (has_call on) (rows_of part)) (tables_of (sort_of on)) ≡ true
unfolding rows_of
all_have shape.List = refl
all_have (shape.Set false) = refl
all_have (shape.Set true) = refl
all_have shape.Coll = refl
all_have (shape.Rows rows.Entry) = refl
all_have (shape.Rows rows.MultiEntry) = refl
all_have (shape.Rows rows.Group) = refl
all_have (shape.Rows rows.Counted) = refl
all_have (shape.Rows rows.Cell) = refl
all_have (shape.Rows rows.Range) = refl
all_have (shape.Rows rows.RangeEntry) = refl
all_have (shape.Rows (rows.Pair directed)) = refl
all_have (shape.Map false) = refl
all_have (shape.Map true) = refl
all_have (shape.Groups of) = refl
all_have (shape.Bag false) = refl
all_have (shape.Bag true) = refl
all_have shape.BiMap = refl
all_have (shape.Multimap values sorted) = refl
all_have (shape.Table mirrored sorted) = refl
all_have shape.Pieces = refl
all_have shape.RangeSet = refl
all_have shape.RangeMap = refl
all_have (shape.Graph directed) = refl
all_have (shape.Builder build.List) = refl
all_have (shape.Builder build.Set) = refl
all_have (shape.Builder build.Multiset) = refl
all_have (shape.Builder build.Map) = refl
all_have (shape.Builder build.BiMap) = refl
all_have (shape.Builder build.ListMultimap) = refl
all_have (shape.Builder build.SetMultimap) = refl
all_have (shape.Builder build.Table) = refl
all_have (shape.Builder build.RangeSet) = refl
all_have (shape.Builder build.RangeMap) = refl

had_fits : (on : Shape) (it : Call) → has_call on (action.Call (form_of_call it)) ≡ true → fits on it ≡ true
had_fits on (call.Ask word) e = e
had_fits on (call.Element word x) e = e
had_fits on (call.Index word i) e = e
had_fits on (call.Indexed word i x) e = e
had_fits on (call.Counted word x n) e = e
had_fits on (call.Pair word k v) e = e
had_fits on (call.Triple word x y z) e = e
had_fits on (call.Span word s) e = e
had_fits on (call.SpanValue word s v) e = e
had_fits on (call.Build word item) e = e

pub calls_fit : CallsFit
unfolding signature
calls_fit on word count it e = had_fits on it (tables_pass (has_call on) word count (tables_of (sort_of on)) (action.Call (form_of_call it)) (all_have on) e)
