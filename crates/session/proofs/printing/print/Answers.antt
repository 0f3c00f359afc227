use Rattle.std.proofs.Common.{◌++◌, ◌∷◌, [], sym, ◌∙◌, ap}
use Rattle.session.specs.KnownShapes.{is_known_shape}
use Rattle.session.proofs.KnownLemmas.{plainly}
use Rattle.vocabulary.specs.declared.shapes.Shape.{Shape}
use Rattle.machine.specs.Texts as text
use Rattle.base_store.specs.Stored.{view_in}
use Rattle.machine.specs.Views.{shown}
use Rattle.session.proofs.PrintLemmas.{text_in_parts}
use Rattle.session.proofs.ReplyLemmas.{goes_more, said_of, said_text}
use Rattle.session.proofs.printing.print.Goals as goal

pub returns-clause-said : goal.returns-clause-said
returns-clause-said g c =
    let w = c.args.store.now.world in
    let v = view_in c.args.store.now c.args.n in
    let items = shown w v in
    let shape = ap is_known_shape (sym c.known_shape-shape.ensures.shape) ∙ c.known_shape-shape.ensures.known in
    said_text (text_in_parts c.known_shape-shape.result items c.items_fit.ensures ∙ ap (λ (of : Shape). text.view_text of items ++ 10 ∷ []) c.known_shape-shape.ensures.shape ∙ ap (λ ts. ts ++ 10 ∷ []) (sym (plainly w v shape)))
    (said_of
    (goes_more (rw c.begin.ensures at rw c.opening.ensures at c.write.ensures)
    (goes_more c.write_items.ensures
    (goes_more (rw c.closing.ensures at c.write-2.ensures) c.end.ensures.goes)))
    c.end.ensures.flushed c.end.ensures.result)
