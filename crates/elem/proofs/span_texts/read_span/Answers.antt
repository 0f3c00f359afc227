use Rattle.std.proofs.Common.{ap, ◌∙◌}
use Rattle.elem.specs.SpanTexts.{checked}
use Rattle.elem.proofs.SpanReading.{span_found, span_only, span_none, span_invalid}
use Rattle.elem.proofs.span_texts.read_span.Goals as goal

pub returns-clause-found : goal.returns-clause-found
returns-clause-found c = span_found c.args.text.now c.checked.result (c.checked.ensures ∙ ap checked c.parse_span.ensures)

pub returns-clause-only : goal.returns-clause-only
returns-clause-only c = span_only c.args.text.now c.checked.result (c.checked.ensures ∙ ap checked c.parse_span.ensures)

pub returns-clause-not_grammar : goal.returns-clause-not_grammar
returns-clause-not_grammar c = span_none c.args.text.now c.checked.result (c.checked.ensures ∙ ap checked c.parse_span.ensures)

pub returns-clause-invalid : goal.returns-clause-invalid
returns-clause-invalid c = span_invalid c.args.text.now c.checked.result (c.checked.ensures ∙ ap checked c.parse_span.ensures)
