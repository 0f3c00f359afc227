use Rattle.std.proofs.Common.{◌≡◌, ◌++◌, take, refl, ap, ◌∙◌}
use Rattle.elem.specs.Spelling.{spelling}
use Rattle.elem.specs.declared.elements.Elem.TheVariants.{Text}
use Rattle.fn_lang.proofs.LeafLaws.{cut_found, cut_not_none}
use Rattle.fn_lang.proofs.leaves.prefixed.Goals as goal

pub returns-in-Some : goal.returns-in-Some
returns-in-Some c =
    let text : c.cut.result.now ≡ take 24 (c.args.front.now ++ spelling c.args.y.now) = c.cut.ensures ∙ ap (take 24) (c.as_slice-2.ensures.value ∙ c.joined-text.ensures ∙ rw (c.bytes.ensures.value, c.as_slice.ensures.value, c.write_elem-behind.ensures) refl) in
    ap Text (cut_found c.args.front.now c.args.y.now c.cut.result.now c.in-Some.word c.bytes.ensures.word c.known.ensures text c.in-Some.ensures)

pub returns-in-None : goal.returns-in-None
returns-in-None c =
    let text : c.cut.result.now ≡ take 24 (c.args.front.now ++ spelling c.args.y.now) = c.cut.ensures ∙ ap (take 24) (c.as_slice-2.ensures.value ∙ c.joined-text.ensures ∙ rw (c.bytes.ensures.value, c.as_slice.ensures.value, c.write_elem-behind.ensures) refl) in
    absurd (cut_not_none c.args.front.now c.args.y.now c.cut.result.now c.bytes.ensures.word c.known.ensures text c.in-None.ensures)
