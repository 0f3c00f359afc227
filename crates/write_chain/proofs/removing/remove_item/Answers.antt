use Rattle.std.proofs.Common.{ap, arith, subst, true, false}
use Rattle.std.specs.Prelude.{Ok}
use Rattle.base_store.specs.Stored.{view_in}
use Rattle.vocabulary.specs.declared.answers.Answer.{Answer}
use Rattle.vocabulary.specs.declared.answers.Answer.TheVariants.{Truth}
use Rattle.machine.specs.CallEdits.{first_hit}
use Rattle.vocabulary.specs.Items.{same_item}
use Rattle.machine.specs.Views.{candidates}
use Rattle.view_steps.specs.KnownViews.{number_under}
use Rattle.write_chain.specs.Calls.{Came, removed}
use Rattle.write_chain.proofs.HitLemmas.{one_shown}
use Rattle.write_chain.proofs.KnownCalls.{stands}
use Rattle.write_chain.proofs.RemoveLemmas.{gone_came, none_hit, row_gone, spot_there}
use Rattle.write_chain.proofs.removing.remove_item.Goals as goal
use Rattle.view_steps.proofs.HitLemmas.{none_shown}
use Rattle.view_steps.proofs.ChangeLemmas.{room}

pub remove_row-requires-clause-change : goal.remove_row-requires-clause-change
remove_row-requires-clause-change g c = room _ _ c.requires.change

pub remove_row-requires-clause-spot : goal.remove_row-requires-clause-spot
remove_row-requires-clause-spot g c =
    let s = c.args.store.now in
    let v = view_in s c.args.n in
    spot_there s.world v c.in-Some.place c.base_of-b.result (first_hit (same_item c.args.item.now) (candidates s.world v)) c.base_of-b.ensures.base c.in-Some.ensures.some

pub returns-in-Some-clause-came : goal.returns-in-Some-clause-came
returns-in-Some-clause-came g c =
    let s = c.args.store.now in
    let v = view_in s c.args.n in
    let passes = same_item c.args.item.now in
    let gone = first_hit passes (candidates s.world v) in
    let now = c.remove_row.new.self in
    subst (λ (a : Answer). Came (Ok (Truth true)) s now (removed s.world v gone a)) (ap Truth (one_shown s.world v passes c.in-Some.place c.in-Some.ensures.some))
    (gone_came s now v gone (Truth true) (row_gone s now v c.in-Some.place c.base_of-b.result gone c.base_of-b.ensures.base c.in-Some.ensures.some c.remove_row.ensures.after) c.remove_row.ensures.few)

pub returns-in-None-clause-came : goal.returns-in-None-clause-came
returns-in-None-clause-came g c =
    let s = c.args.store.now in
    let v = view_in s c.args.n in
    let passes = same_item c.args.item.now in
    let gone = first_hit passes (candidates s.world v) in
    subst (λ (a : Answer). Came (Ok (Truth false)) s s (removed s.world v gone a)) (ap Truth (none_shown s.world v passes c.base_of-b.ensures.known c.in-None.ensures.none))
    (gone_came s s v gone (Truth false) (none_hit s (number_under v) gone (stands s.world v c.base_of-b.result c.base_of-b.ensures.base c.base_of-b.ensures.known c.base_of-b.ensures.kind c.base_of-b.ensures.made).kind c.in-None.ensures.none) (omega (arith, c.rows_left-left.ensures)))
