use Rattle.std.proofs.Common.{ℕ, ◌<◌, length, subst}
use Rattle.base_store.specs.Stored.{view_in}
use Rattle.machine.specs.Answering.{answered_with}
use Rattle.machine.specs.Calling.{ended}
use Rattle.machine.specs.Meanings.{calls_with}
use Rattle.machine.specs.Memory.{wants_memory_with}
use Rattle.session.specs.Coming.{seen_as}
use Rattle.session.proofs.CallLemmas.{came_told, replied_known}
use Rattle.session.proofs.CallSpots.{with_later}
use Rattle.session.proofs.KnownLemmas.{other_answers}
use Rattle.write_chain.proofs.KnownCalls.{stands}
use Rattle.session.proofs.calling.call_with_on.Goals as goal

pub tell-requires : goal.tell-requires
tell-requires g c = let s = c.args.store.now in other_answers c.call_with-answer.result s c.call_with-answer.new.store s.world (view_in s c.args.n) c.args.word (view_in s c.args.other) c.call_with-answer.ensures.came

pub returns : goal.returns
returns g c =
    let s = c.args.store.now in
    let view = view_in s c.args.n in
    let other = view_in s c.args.other in
    let word = c.args.word in
    let done = answered_with s.world view word other in
    let under = c.base_of-base.ensures in
    let later = with_later c.call_with-answer.result s c.call_with-answer.new.store view word other (stands s.world view c.base_of-base.result under.base under.known under.kind under.made) (subst (λ (b : ℕ). b < length s.world) under.base under.within) c.requires.known c.base_of-other_base.ensures.known c.call_with-answer.ensures.came in
    came_told c.call_with-answer.result s c.call_with-answer.new.store (λ state. ended state (calls_with word other) view) (wants_memory_with s.world view word) done
    c.call_with-answer.ensures.came c.call_with-answer.ensures.changes later (λ names. replied_known (seen_as s names) view (wants_memory_with s.world view word) done c.base_of-base.ensures.known) c.call_with-answer.ensures.memory c.tell.ensures
