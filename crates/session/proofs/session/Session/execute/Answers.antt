use Rattle.std.proofs.Common.{false, None, refl, ap, ◌∙◌}
use Rattle.std.specs.Prelude.{codes}
use Rattle.script_text.specs.Lines.{placed_line}
use Rattle.script_text.specs.Names.{kind_text}
use Rattle.session.specs.Bounds.{most_asked, most_for_words}
use Rattle.session.specs.Following.{parts_in}
use Rattle.machine.specs.Languages.{known, only_if}
use Rattle.machine.specs.Lines.{eval_of}
use Rattle.machine.specs.Naming.{it_of, let_of, new_of}
use Rattle.machine.specs.Outcomes.{says}
use Rattle.machine.specs.State.{State, named as bound_to}
use Rattle.vocabulary.specs.Known.{is_known_kind}
use Rattle.vocabulary.specs.Kinds.{kind_named}
use Rattle.session.proofs.BoundLemmas.{asks_nothing, line_bound, same_bound}
use Rattle.session.proofs.NameLemmas.{executed_said}
use Rattle.session.proofs.SessionLemmas.{executed_blank, executed_from, on_blank, on_long, on_syntax, on_it, on_new, on_let, on_eval, short_let, short_it, short_eval}
use Rattle.session.proofs.session.Session.execute.Goals as goal

pub returns-in-Blank-clause-executed : goal.returns-in-Blank-clause-executed
returns-in-Blank-clause-executed g c =
    executed_from c.args.self.now _ _ (λ state. record { reply = None; after = state; memory = false }) _ refl (on_blank c.args.self.now c.args.line.now c.read_line.new.parts.items (placed_line c.args.line.now) c.in-Blank.ensures.placed) (executed_blank c.args.self.now _ _ _ c.self.view_is)

pub returns-in-Long-clause-executed : goal.returns-in-Long-clause-executed
returns-in-Long-clause-executed g c =
    executed_from _ c.args.self.now _ (λ state. says state (codes "?long")) _ c.self.view_is (on_long c.args.self.now c.args.line.now c.read_line.new.parts.items (placed_line c.args.line.now) c.in-Long.ensures.placed) (executed_said _ _ _ _ _ _ (codes "?long") c.say.ensures)

pub returns-in-Syntax-clause-executed : goal.returns-in-Syntax-clause-executed
returns-in-Syntax-clause-executed g c =
    executed_from _ c.args.self.now _ (λ state. says state (codes "?syntax")) _ c.self.view_is (on_syntax c.args.self.now c.args.line.now c.read_line.new.parts.items (placed_line c.args.line.now) c.in-Syntax.ensures.placed) (executed_said _ _ _ _ _ _ (codes "?syntax") c.say-in-Syntax.ensures)

pub returns-in-It-clause-executed : goal.returns-in-It-clause-executed
returns-in-It-clause-executed g c =
    executed_from _ c.args.self.now _ (λ state. it_of known state c.in-It.name (bound_to state.names c.in-It.head) (parts_in c.args.line.now c.as_slice-parts-in-It.result.now)) _ c.self.view_is
    (ap (λ ps. it_of known c.args.self.now c.in-It.name (bound_to c.args.self.now.names c.in-It.head) (parts_in c.args.line.now ps)) c.as_slice-parts-in-It.ensures.value
    ∙ on_it c.args.self.now c.args.line.now c.in-It.name c.in-It.head c.read_line.new.parts.items (placed_line c.args.line.now) c.in-It.ensures.placed) c.iterate.ensures

pub iterate-requires : goal.iterate-requires
iterate-requires g c = short_it c.in-It.name c.in-It.head c.args.line.now c.read_line.new.parts.items c.in-It.ensures.placed

pub returns-in-New-clause-executed : goal.returns-in-New-clause-executed
returns-in-New-clause-executed g c =
    executed_from _ c.args.self.now _ (λ state. new_of state c.in-New.name (only_if is_known_kind (kind_named (kind_text c.in-New.kind)))) _ c.self.view_is
    (on_new c.args.self.now c.args.line.now c.in-New.name c.in-New.kind c.read_line.new.parts.items (placed_line c.args.line.now) c.in-New.ensures.placed) c.make.ensures

pub returns-in-Let-clause-executed : goal.returns-in-Let-clause-executed
returns-in-Let-clause-executed g c =
    executed_from _ c.args.self.now _ (λ state. let_of known state c.in-Let.name (bound_to state.names c.in-Let.head) (parts_in c.args.line.now c.as_slice-parts.result.now)) _ c.self.view_is
    (ap (λ ps. let_of known c.args.self.now c.in-Let.name (bound_to c.args.self.now.names c.in-Let.head) (parts_in c.args.line.now ps)) c.as_slice-parts.ensures.value
    ∙ on_let c.args.self.now c.args.line.now c.in-Let.name c.in-Let.head c.read_line.new.parts.items (placed_line c.args.line.now) c.in-Let.ensures.placed) c.bind.ensures

pub returns-in-Eval-clause-executed : goal.returns-in-Eval-clause-executed
returns-in-Eval-clause-executed g c =
    executed_from _ c.args.self.now _ (λ state. eval_of known state c.in-Eval.head (bound_to state.names c.in-Eval.head) (parts_in c.args.line.now c.as_slice-parts-in-Eval.result.now)) _ c.self.view_is
    (ap (λ ps. eval_of known c.args.self.now c.in-Eval.head (bound_to c.args.self.now.names c.in-Eval.head) (parts_in c.args.line.now ps)) c.as_slice-parts-in-Eval.ensures.value
    ∙ on_eval c.args.self.now c.args.line.now c.in-Eval.head c.read_line.new.parts.items (placed_line c.args.line.now) c.in-Eval.ensures.placed) c.eval.ensures.executed

pub bind-requires : goal.bind-requires
bind-requires g c = short_let c.in-Let.name c.in-Let.head c.args.line.now c.read_line.new.parts.items c.in-Let.ensures.placed

pub eval-requires-clause-short : goal.eval-requires-clause-short
eval-requires-clause-short g c = short_eval c.in-Eval.head c.args.line.now c.read_line.new.parts.items c.in-Eval.ensures.placed

pub returns-in-Blank-clause-asked : goal.returns-in-Blank-clause-asked
returns-in-Blank-clause-asked g c = asks_nothing (most_asked c.args.self.now c.args.line.now) c.args.steps.now

pub returns-in-Long-clause-asked : goal.returns-in-Long-clause-asked
returns-in-Long-clause-asked g c = asks_nothing (most_asked c.args.self.now c.args.line.now) c.args.steps.now

pub returns-in-Syntax-clause-asked : goal.returns-in-Syntax-clause-asked
returns-in-Syntax-clause-asked g c = asks_nothing (most_asked c.args.self.now c.args.line.now) c.args.steps.now

pub returns-in-It-clause-asked : goal.returns-in-It-clause-asked
returns-in-It-clause-asked g c = asks_nothing (most_asked c.args.self.now c.args.line.now) c.args.steps.now

pub returns-in-New-clause-asked : goal.returns-in-New-clause-asked
returns-in-New-clause-asked g c = asks_nothing (most_asked c.args.self.now c.args.line.now) c.args.steps.now

pub returns-in-Let-clause-asked : goal.returns-in-Let-clause-asked
returns-in-Let-clause-asked g c = asks_nothing (most_asked c.args.self.now c.args.line.now) c.args.steps.now

pub returns-in-Eval-clause-asked : goal.returns-in-Eval-clause-asked
returns-in-Eval-clause-asked g c =
    let state = c.args.self.now in
    let line = c.args.line.now in
    same_bound _ _ c.args.steps.now c.eval.new.steps
    (ap (λ (x : State). most_for_words x (bound_to x.names c.in-Eval.head) (parts_in line c.as_slice-parts-in-Eval.result.now)) c.self.view_is
    ∙ ap (λ ps. most_for_words state (bound_to state.names c.in-Eval.head) (parts_in line ps)) c.as_slice-parts-in-Eval.ensures.value
    ∙ line_bound state line c.in-Eval.head c.read_line.new.parts.items (placed_line line) c.in-Eval.ensures.placed)
    c.eval.ensures.asked
