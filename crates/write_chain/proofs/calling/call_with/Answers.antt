use Rattle.std.proofs.Common.{sym, subst}
use Rattle.base_store.specs.Stored.{view_in}
use Rattle.machine.specs.Answers.{answer_with}
use Rattle.machine.specs.CallEdits.{edit_with}
use Rattle.machine.specs.Views.{shape_at, shown}
use Rattle.write_chain.specs.Calls.{Came, known_refusal_with}
use Rattle.write_chain.proofs.ChangeLemmas.{came_changes}
use Rattle.write_chain.proofs.KnownCalls.{known_answer_with, stands}
use Rattle.write_chain.proofs.calling.call_with.Goals as goal
use Rattle.view_steps.proofs.ChangeLemmas.{up}

pub returns-then-lacks-clause-changes : goal.returns-then-lacks-clause-changes
returns-then-lacks-clause-changes g c = λ most h. up most c.args.store.now.world h

pub returns-clause-came : goal.returns-clause-came
returns-clause-came g c =
    let s = c.args.store.now in
    let v = view_in s c.args.n in
    let other = view_in s c.args.other in
    subst (Came c.carry_out_with.result s c.carry_out_with.new.store) (sym (known_answer_with s.world v c.args.word other (stands s.world v c.base_of-base.result c.base_of-base.ensures.base c.base_of-base.ensures.known c.base_of-base.ensures.kind c.base_of-base.ensures.made) c.requires.known c.base_of-other.ensures.known)) c.carry_out_with.ensures.came

pub returns-clause-changes : goal.returns-clause-changes
returns-clause-changes g c =
    let s = c.args.store.now in
    let v = view_in s c.args.n in
    let other = view_in s c.args.other in
    let word = c.args.word in
    came_changes c.carry_out_with.result s c.carry_out_with.new.store (known_refusal_with s.world v word other) v (answer_with (shape_at s.world v) word (shown s.world v) (shown s.world other)) (edit_with s.world v word (shown s.world other))
    c.carry_out_with.ensures.came
