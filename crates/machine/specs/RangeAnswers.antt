-- What calls on ranges answer, by the ranges that are shown.
use Rattle.std.specs.Prelude.{List}
use Rattle.elem.specs.declared.elements.Elem.{Elem}
use Rattle.elem.specs.declared.spans.Span.{Span}
use Rattle.elem.specs.Places.{place}
use Rattle.range_views.specs.Answers as ranges
use Rattle.vocabulary.specs.declared.answers.Answer.{Answer}
use Rattle.vocabulary.specs.declared.answers.Answer.TheVariants as answer
use Rattle.vocabulary.specs.declared.calls.OnSpan.{OnSpan}
use Rattle.vocabulary.specs.declared.calls.OnSpan.TheVariants.{Encloses, Intersects, AddSpan, RemoveSpan, ContainsSpan, DropSpan}
use Rattle.vocabulary.specs.declared.calls.OnSpanValue.{OnSpanValue}
use Rattle.vocabulary.specs.declared.calls.OnSpanValue.TheVariants.{PutSpan, PutCoalescing, ContainsSpanValue, DropSpanValue}
use Rattle.vocabulary.specs.declared.items.Item.{Item}
use Rattle.vocabulary.specs.declared.items.Item.TheVariants.{Range, RangeEntry}
use Rattle.machine.specs.RangeViews.{set_rows}
use Rattle.machine.specs.Shown.{is_shown}

abbrev pub span_answer : OnSpan → Span → List Item → Answer
span_answer Encloses s items = answer.Truth (ranges.encloses (place s.lo) (place s.hi) (set_rows items))
span_answer Intersects s items = answer.Truth (ranges.intersects (place s.lo) (place s.hi) (set_rows items))
span_answer AddSpan s items = answer.Done
span_answer RemoveSpan s items = answer.Done
span_answer ContainsSpan s items = answer.Truth (is_shown items (Range s))
span_answer DropSpan s items = answer.Truth (is_shown items (Range s))

abbrev pub span_value_answer : OnSpanValue → Span → Elem → List Item → Answer
span_value_answer PutSpan s v items = answer.Done
span_value_answer PutCoalescing s v items = answer.Done
span_value_answer ContainsSpanValue s v items = answer.Truth (is_shown items (RangeEntry s v))
span_value_answer DropSpanValue s v items = answer.Truth (is_shown items (RangeEntry s v))
