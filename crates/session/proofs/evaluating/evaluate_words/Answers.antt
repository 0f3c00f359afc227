use Rattle.std.proofs.Common.{Ok, ◌∙◌, ap, sym}
use Rattle.base_store.specs.Stored.{view_in}
use Rattle.vocabulary.specs.declared.lines.Purpose.TheVariants as purpose
use Rattle.session.specs.Environment.{named}
use Rattle.session.specs.Bounds.{most_for}
use Rattle.session.specs.Following.{end_in, parts_in, target_in}
use Rattle.session.specs.KnownShapes.{is_known_shape}
use Rattle.session.specs.Targets.{shape_of}
use Rattle.machine.specs.Languages.{known}
use Rattle.machine.specs.Typing.{typed_words}
use Rattle.machine.specs.Bases.{World}
use Rattle.session.proofs.BoundLemmas.{asks_nothing, same_bound}
use Rattle.session.proofs.EvalLemmas.{came_back, came_fault, fault_reached, no_fault}
use Rattle.session.proofs.evaluating.evaluate_words.Goals as goal

pub returns-in-Err-clause-came : goal.returns-in-Err-clause-came
returns-in-Err-clause-came g c =
    let s = c.args.store.now in
    let names = c.args.names.now.entries in
    let parts = parts_in c.args.line.now c.args.parts.now in
    let fault = c.in-Err.ensures ∙ ap (λ of. shape_of (typed_words known s.world (named s.nodes names) purpose.Reply of parts)) c.known_shape.ensures.shape in
    came_fault s (target_in s s.handles names purpose.Reply c.args.head parts) c.in-Err.fault (fault_reached s.world s.handles (view_in s c.args.head) _ c.in-Err.fault fault) c.say_fault.ensures

pub follow-end-requires-clause-typed : goal.follow-end-requires-clause-typed
follow-end-requires-clause-typed g c =
    let s = c.args.store.now in
    no_fault _ _ (c.in_default.ensures ∙ ap (λ of. shape_of (typed_words known s.world (named s.nodes c.args.names.now.entries) purpose.Reply of (parts_in c.args.line.now c.args.parts.now))) c.known_shape.ensures.shape)

pub returns-clause-came : goal.returns-clause-came
returns-clause-came g c =
    let s = c.args.store.now in
    came_back s c.follow-end.new.store c.conclude-result.new.store _ (target_in s s.handles c.args.names.now.entries purpose.Reply c.args.head (parts_in c.args.line.now c.args.parts.now)) c.follow-end.result
    c.requires.still c.follow-end.ensures.world c.follow-end.ensures.front c.follow-end.ensures.led c.conclude-result.ensures.came c.drop_temporary.ensures

pub returns-in-Err-clause-known : goal.returns-in-Err-clause-known
returns-in-Err-clause-known g c = ap is_known_shape (sym c.known_shape.ensures.shape) ∙ c.known_shape.ensures.known

pub returns-clause-known : goal.returns-clause-known
returns-clause-known g c = ap is_known_shape (sym c.known_shape.ensures.shape) ∙ c.known_shape.ensures.known

pub returns-in-Err-clause-asked : goal.returns-in-Err-clause-asked
returns-in-Err-clause-asked g c =
    let s = c.args.store.now in
    asks_nothing (most_for s.world (target_in s s.handles c.args.names.now.entries purpose.Reply c.args.head (parts_in c.args.line.now c.args.parts.now))) c.args.steps.now

pub returns-clause-asked : goal.returns-clause-asked
returns-clause-asked g c =
    let s = c.args.store.now in
    let led = c.follow-end.new.store in
    same_bound _ _ c.args.steps.now c.conclude-result.new.steps
    (ap (λ (w : World). most_for w (Ok (end_in led c.follow-end.result))) c.follow-end.ensures.world ∙ ap (most_for s.world) (sym c.follow-end.ensures.led)) c.conclude-result.ensures.asked
