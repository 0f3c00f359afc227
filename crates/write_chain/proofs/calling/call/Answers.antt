use Rattle.std.proofs.Common.{sym, ap, ◌∙◌, subst}
use Rattle.base_store.specs.Stored.{view_in}
use Rattle.machine.specs.Answers.{answer_of}
use Rattle.machine.specs.CallEdits.{edit_of}
use Rattle.machine.specs.Memory.{wants_memory}
use Rattle.machine.specs.Views.{shape_at, shown}
use Rattle.write_chain.specs.Calls.{Came, known_refusal}
use Rattle.write_chain.proofs.ChangeLemmas.{came_changes}
use Rattle.write_chain.proofs.KnownCalls.{known_answer, stands}
use Rattle.write_chain.proofs.calling.call.Goals as goal
use Rattle.view_steps.proofs.ChangeLemmas.{up}

pub returns-then-lacks-clause-changes : goal.returns-then-lacks-clause-changes
returns-then-lacks-clause-changes g c = λ most h. up most c.args.store.now.world h

pub returns-clause-came : goal.returns-clause-came
returns-clause-came g c =
    let s = c.args.store.now in
    let v = view_in s c.args.n in
    subst (Came c.carry_out.result s c.carry_out.new.store) (sym (known_answer s.world v c.args.call.now (stands s.world v c.base_of-base.result c.base_of-base.ensures.base c.base_of-base.ensures.known c.base_of-base.ensures.kind c.base_of-base.ensures.made) c.requires.known)) c.carry_out.ensures.came

pub returns-clause-memory : goal.returns-clause-memory
returns-clause-memory g c = λ e.
    let s = c.args.store.now in
    let v = view_in s c.args.n in
    let it = c.args.call.now in
    ap (wants_memory s.world v it) (known_answer s.world v it (stands s.world v c.base_of-base.result c.base_of-base.ensures.base c.base_of-base.ensures.known c.base_of-base.ensures.kind c.base_of-base.ensures.made) c.requires.known) ∙ c.carry_out.ensures.memory e

pub returns-clause-changes : goal.returns-clause-changes
returns-clause-changes g c =
    let s = c.args.store.now in
    let v = view_in s c.args.n in
    let it = c.args.call.now in
    came_changes c.carry_out.result s c.carry_out.new.store (known_refusal s.world v it) v (answer_of (shape_at s.world v) it (shown s.world v)) (edit_of s.world v it) c.carry_out.ensures.came
