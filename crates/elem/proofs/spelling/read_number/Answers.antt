use Rattle.std.proofs.Common.{sym, ◌∙◌}
use Rattle.elem.proofs.Numbers.{no_number, spelled_parses, spelled_utf8, not_text, was_text, was_ok, not_ok, prints_back, prints_other}
use Rattle.elem.proofs.spelling.read_number.Goals as goal

pub returns-in_err-ok-clause-exact : goal.returns-in_err-ok-clause-exact
returns-in_err-ok-clause-exact c = c.from_residual.ensures ∙ sym (no_number c.args.text.now (λ n f e. not_text c.from_utf8.result _ _ _ c.in_err-ok.ensures.value c.from_utf8.ensures.cases (spelled_utf8 _ n f e)))

pub returns-in_err-ok-clause-none : goal.returns-in_err-ok-clause-none
returns-in_err-ok-clause-none c = rw c.from_residual.ensures (λ n f e. not_text c.from_utf8.result _ _ _ c.in_err-ok.ensures.value c.from_utf8.ensures.cases (spelled_utf8 _ n f e))

pub returns-in_err-number-clause-exact : goal.returns-in_err-number-clause-exact
returns-in_err-number-clause-exact c =
    let text = was_text c.from_utf8.result c.in_ok-ok.field-0 _ _ c.in_ok-ok.ensures.value c.from_utf8.ensures.cases in
    c.from_residual-in_err-number.ensures ∙ sym (no_number c.args.text.now (λ n f e. not_ok c.parse.result n c.in_err-number.ensures.value (spelled_parses _ _ c.parse.ensures.value.0 n f (text.0 ∙ e))))

pub returns-in_err-number-clause-none : goal.returns-in_err-number-clause-none
returns-in_err-number-clause-none c =
    let text = was_text c.from_utf8.result c.in_ok-ok.field-0 _ _ c.in_ok-ok.ensures.value c.from_utf8.ensures.cases in
    rw c.from_residual-in_err-number.ensures (λ n f e. not_ok c.parse.result n c.in_err-number.ensures.value (spelled_parses _ _ c.parse.ensures.value.0 n f (text.0 ∙ e)))

pub returns-then-eq-clause-exact : goal.returns-then-eq-clause-exact
returns-then-eq-clause-exact c =
    let text = was_text c.from_utf8.result c.in_ok-ok.field-0 _ _ c.in_ok-ok.ensures.value c.from_utf8.ensures.cases in
    let parsed = was_ok c.parse.result _ c.in_ok-number.ensures.value in
    sym (prints_back c.args.text.now c.in_ok-ok.field-0.now c.as_bytes.result.now c.parse.result _ text.0 c.parse.ensures.value.0 parsed (c.as_bytes.ensures.value ∙ c.format.ensures.text) (sym c.if-eq.ensures))

pub returns-else-eq-clause-exact : goal.returns-else-eq-clause-exact
returns-else-eq-clause-exact c =
    let text = was_text c.from_utf8.result c.in_ok-ok.field-0 _ _ c.in_ok-ok.ensures.value c.from_utf8.ensures.cases in
    let parsed = was_ok c.parse.result _ c.in_ok-number.ensures.value in
    sym (no_number c.args.text.now (prints_other c.args.text.now c.in_ok-ok.field-0.now c.as_bytes.result.now c.parse.result _ text.0 c.parse.ensures.value.0 parsed (c.as_bytes.ensures.value ∙ c.format.ensures.text) (sym c.if-eq.ensures)))

pub returns-else-eq-clause-none : goal.returns-else-eq-clause-none
returns-else-eq-clause-none c =
    let text = was_text c.from_utf8.result c.in_ok-ok.field-0 _ _ c.in_ok-ok.ensures.value c.from_utf8.ensures.cases in
    let parsed = was_ok c.parse.result _ c.in_ok-number.ensures.value in
    (prints_other c.args.text.now c.in_ok-ok.field-0.now c.as_bytes.result.now c.parse.result _ text.0 c.parse.ensures.value.0 parsed (c.as_bytes.ensures.value ∙ c.format.ensures.text) (sym c.if-eq.ensures))
