use Rattle.std.proofs.Common.{Bool, Ok, IfOk, sym, ◌∙◌, ap, subst}
use Rattle.script_text.specs.declared.lines.Part.{Part as Placed}
use Rattle.std.specs.Prelude.{List, Result}
use Rattle.script_text.specs.Parts.{part_in}
use Rattle.session.specs.declared.typing.Typed.{Typed}
use Rattle.session.specs.Environment.{named}
use Rattle.session.specs.Following.{IsTyped, asked, meant_in, parts_in}
use Rattle.session.specs.Targets.{shape_of}
use Rattle.vocabulary.specs.declared.lines.Fault.{Fault}
use Rattle.machine.specs.Languages.{known}
use Rattle.machine.specs.Meanings.{typed_word}
use Rattle.machine.specs.Parts.{text_at}
use Rattle.machine.specs.Typing.{typed_words}
use Rattle.session.proofs.FollowLemmas.{behind, empty_is, first_behind}
use Rattle.session.proofs.TypingLemmas.{shape_behind}
use Rattle.session.proofs.typing.type_words.Goals as goal

pub loop-rest-preserved : goal.loop-rest-preserved
loop-rest-preserved c =
    let s = c.args.store.now in
    let names = named s.nodes c.args.names.now.entries in
    let line = c.args.line.now in
    let part = part_in line c.part-item.result in
    let more = parts_in line (behind c.loop-rest.rest.now) in
    let text = text_at part.args 0 in
    let word = c.in-Ok.is ∙ ap (λ (x : Typed). Ok x) c.in-Step.is in
    c.loop-rest.invariant
    ∙ ap (λ (ps : List Placed). shape_of (typed_words known s.world names c.args.purpose c.loop-rest.on (parts_in line ps))) (first_behind c.loop-rest.rest.now c.part-item.result c.in-len1-up.len_at_least c.part-item.is)
    ∙ shape_behind s.world names c.args.purpose c.loop-rest.on c.in-Step.next part more (asked c.in-Step.field-0 text) (subst (λ (x : Result Typed Fault). IfOk x (λ it. IsTyped s c.loop-rest.on text it)) word c.type_word-typed.ensures.typed).1
    (ap (λ (last : Bool). typed_word known s.world names c.args.purpose last c.loop-rest.on part) (sym (c.is_empty.ensures ∙ empty_is line (behind c.loop-rest.rest.now))) ∙ sym c.type_word-typed.ensures.meaning ∙ ap (meant_in s text) word)
