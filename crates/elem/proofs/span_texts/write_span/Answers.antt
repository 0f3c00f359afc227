use Rattle.std.proofs.Common.{◌≡◌, ℕ, List, [], ◌∷◌, ◌++◌, ap, ◌∙◌, append_assoc}
use Rattle.elem.specs.SpanTexts.{span_spelling, low_text, high_text}
use Rattle.elem.proofs.SpanSpelling.{spelled_again}
use Rattle.elem.proofs.span_texts.write_span.Goals as goal

pub returns-clause-read_back : goal.returns-clause-read_back
returns-clause-read_back c =
    let text : c.put_high.new.text.items ≡ span_spelling c.args.s.now =
    c.put_high.ensures.text ∙ ap (λ (t : List ℕ). t ++ high_text c.args.s.now.hi) (c.put.ensures ∙ ap (λ (t : List ℕ). t ++ (46 ∷ 46 ∷ [])) c.put_low.ensures.text)
    ∙ append_assoc (low_text c.args.s.now.lo) (46 ∷ 46 ∷ []) (high_text c.args.s.now.hi) in
    spelled_again c.args.s.now c.put_high.new.text.items text c.put_low.ensures.known c.put_high.ensures.known
