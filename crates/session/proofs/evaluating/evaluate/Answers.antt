use Rattle.std.proofs.Common.{None, ◌∙◌, ap, sym, refl, Ok}
use Rattle.base_store.specs.Stored.{view_in}
use Rattle.session.specs.declared.typing.Typed.{Typed}
use Rattle.session.specs.declared.typing.Typed.TheVariants as typed
use Rattle.session.specs.Bounds.{most_for}
use Rattle.session.specs.Following.{parts_in, target_in}
use Rattle.vocabulary.specs.declared.lines.Purpose.TheVariants as purpose
use Rattle.machine.specs.Meanings.{calls, calls_with}
use Rattle.session.proofs.BoundLemmas.{asks_nothing, same_bound}
use Rattle.session.proofs.EvalLemmas.{came_fault}
use Rattle.session.proofs.OneWord.{call_led, came_ended, fault_led, one_part}
use Rattle.session.proofs.evaluating.evaluate.Goals as goal

pub returns-in-Call-clause-came : goal.returns-in-Call-clause-came
returns-in-Call-clause-came g c =
    let s = c.args.store.now in
    let lone = one_part c.args.line.now c.args.parts.now c.part-item.result c.in-len1.len_at_least c.in-len1.len_below c.part-item.is in
    let ending = calls (Ok c.in-Call.call) in
    came_ended s c.call_on.new.store (view_in s c.args.head) ending (target_in s s.handles c.args.names.now.entries purpose.Reply c.args.head (parts_in c.args.line.now c.args.parts.now))
    (call_led c.args.names.now.entries s c.args.head c.args.line.now c.args.parts.now c.part-item.result c.known_shape.result c.type_word-typed.result lone c.known_shape.ensures.shape c.type_word-typed.ensures.meaning
    (typed.Call c.in-Call.call) ending (c.in-Ok.is ∙ ap (λ (x : Typed). Ok x) c.in-Call.is) refl)
    c.call_on.ensures.came

pub returns-in-With-clause-came : goal.returns-in-With-clause-came
returns-in-With-clause-came g c =
    let s = c.args.store.now in
    let lone = one_part c.args.line.now c.args.parts.now c.part-item.result c.in-len1.len_at_least c.in-len1.len_below c.part-item.is in
    let ending = calls_with c.in-With.word (view_in s c.in-With.other) in
    came_ended s c.call_with_on.new.store (view_in s c.args.head) ending (target_in s s.handles c.args.names.now.entries purpose.Reply c.args.head (parts_in c.args.line.now c.args.parts.now))
    (call_led c.args.names.now.entries s c.args.head c.args.line.now c.args.parts.now c.part-item.result c.known_shape.result c.type_word-typed.result lone c.known_shape.ensures.shape c.type_word-typed.ensures.meaning
    (typed.With c.in-With.word c.in-With.other) ending (c.in-Ok.is ∙ ap (λ (x : Typed). Ok x) c.in-With.is) refl)
    c.call_with_on.ensures

pub returns-in-Err-clause-came : goal.returns-in-Err-clause-came
returns-in-Err-clause-came g c =
    let s = c.args.store.now in
    let lone = one_part c.args.line.now c.args.parts.now c.part-item.result c.in-len1.len_at_least c.in-len1.len_below c.part-item.is in
    came_fault s (target_in s s.handles c.args.names.now.entries purpose.Reply c.args.head (parts_in c.args.line.now c.args.parts.now)) c.in-Err.fault
    (fault_led c.args.names.now.entries s c.args.head c.args.line.now c.args.parts.now c.part-item.result c.known_shape.result c.type_word-typed.result lone c.known_shape.ensures.shape c.type_word-typed.ensures.meaning c.in-Err.fault c.in-Err.is)
    c.say_fault.ensures

pub returns-in-Call-clause-asked : goal.returns-in-Call-clause-asked
returns-in-Call-clause-asked g c =
    let s = c.args.store.now in
    let lone = one_part c.args.line.now c.args.parts.now c.part-item.result c.in-len1.len_at_least c.in-len1.len_below c.part-item.is in
    same_bound _ _ c.args.steps.now c.call_on.new.steps
    (ap (most_for s.world)
    (sym
    (call_led c.args.names.now.entries s c.args.head c.args.line.now c.args.parts.now c.part-item.result c.known_shape.result c.type_word-typed.result lone c.known_shape.ensures.shape c.type_word-typed.ensures.meaning
    (typed.Call c.in-Call.call) (calls (Ok c.in-Call.call)) (c.in-Ok.is ∙ ap (λ (x : Typed). Ok x) c.in-Call.is) refl)))
    c.call_on.ensures.asked

pub returns-in-With-clause-asked : goal.returns-in-With-clause-asked
returns-in-With-clause-asked g c =
    let s = c.args.store.now in
    let lone = one_part c.args.line.now c.args.parts.now c.part-item.result c.in-len1.len_at_least c.in-len1.len_below c.part-item.is in
    same_bound None _ c.args.steps.now c.call_with_on.new.steps
    (ap (most_for s.world)
    (sym
    (call_led c.args.names.now.entries s c.args.head c.args.line.now c.args.parts.now c.part-item.result c.known_shape.result c.type_word-typed.result lone c.known_shape.ensures.shape c.type_word-typed.ensures.meaning
    (typed.With c.in-With.word c.in-With.other) (calls_with c.in-With.word (view_in s c.in-With.other)) (c.in-Ok.is ∙ ap (λ (x : Typed). Ok x) c.in-With.is) refl)))
    tt

pub returns-in-Err-clause-asked : goal.returns-in-Err-clause-asked
returns-in-Err-clause-asked g c =
    let s = c.args.store.now in
    asks_nothing (most_for s.world (target_in s s.handles c.args.names.now.entries purpose.Reply c.args.head (parts_in c.args.line.now c.args.parts.now))) c.args.steps.now
