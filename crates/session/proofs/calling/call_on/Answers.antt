use Rattle.std.proofs.Common.{ℕ, ◌<◌, length, Ok, subst}
use Rattle.base_store.specs.Stored.{view_in}
use Rattle.machine.specs.Answering.{answered}
use Rattle.machine.specs.Calling.{ended}
use Rattle.machine.specs.Meanings.{calls}
use Rattle.machine.specs.Memory.{wants_memory}
use Rattle.session.specs.Coming.{seen_as}
use Rattle.session.proofs.BoundLemmas.{call_bound}
use Rattle.session.proofs.CallLemmas.{came_told, replied_known}
use Rattle.session.proofs.CallSpots.{call_later}
use Rattle.session.proofs.KnownLemmas.{call_answers}
use Rattle.write_chain.proofs.KnownCalls.{stands}
use Rattle.session.proofs.calling.call_on.Goals as goal

pub tell-requires : goal.tell-requires
tell-requires g c = let s = c.args.store.now in call_answers c.call-answer.result s c.call-answer.new.store s.world (view_in s c.args.n) c.args.call.now c.requires.known c.call-answer.ensures.came

pub returns-clause-came : goal.returns-clause-came
returns-clause-came g c =
    let s = c.args.store.now in
    let view = view_in s c.args.n in
    let done = answered s.world view c.args.call.now in
    let under = c.base_of-base.ensures in
    let later = call_later c.call-answer.result s c.call-answer.new.store view c.args.call.now (stands s.world view c.base_of-base.result under.base under.known under.kind under.made) (subst (λ (b : ℕ). b < length s.world) under.base under.within) c.requires.known c.requires.fits c.call-answer.ensures.came in
    came_told c.call-answer.result s c.call-answer.new.store (λ state. ended state (calls (Ok c.args.call.now)) view) (wants_memory s.world view c.args.call.now done) done
    c.call-answer.ensures.came c.call-answer.ensures.changes later (λ names. replied_known (seen_as s names) view (wants_memory s.world view c.args.call.now done) done c.base_of-base.ensures.known) c.call-answer.ensures.memory c.tell.ensures

pub returns-clause-asked : goal.returns-clause-asked
returns-clause-asked g c =
    let s = c.args.store.now in
    let h = c.call-answer.ensures in
    call_bound s.world (view_in s c.args.n) c.args.call.now c.args.steps.now c.call-answer.new.steps h.looks_up h.at_once h.removes_at_once h.steps h.forced
