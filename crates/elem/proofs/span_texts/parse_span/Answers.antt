use Rattle.std.proofs.Common.{sym, ◌∙◌, ap}
use Rattle.elem.specs.SpanTexts.{extent, span_of}
use Rattle.elem.proofs.SpanLaws.{long_text, filled_text, open_text}
use Rattle.elem.proofs.span_texts.parse_span.Goals as goal

pub returns-in_err-found : goal.returns-in_err-found
returns-in_err-found c = c.from_residual.ensures ∙ sym (long_text c.args.text.now c.in_err-found.ensures.only)

pub returns-then-eq : goal.returns-then-eq
returns-then-eq c =
    c.span_of.ensures ∙ ap span_of c.as_slice-tokens.ensures.value
    ∙ sym (filled_text c.args.text.now c.in_ok-found.found.items c.extent.result c.in_ok-found.ensures.found (c.extent.ensures ∙ ap extent c.as_slice-tokens.ensures.value) (sym c.if-eq.ensures))

pub returns-else-eq : goal.returns-else-eq
returns-else-eq c = sym (open_text c.args.text.now c.in_ok-found.found.items c.extent.result c.in_ok-found.ensures.found (c.extent.ensures ∙ ap extent c.as_slice-tokens.ensures.value) (sym c.if-eq.ensures))
