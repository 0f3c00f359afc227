use Rattle.std.proofs.Common.{ap, arith, subst, Some, None}
use Rattle.std.specs.Prelude.{Ok}
use Rattle.base_store.specs.Stored.{view_in}
use Rattle.vocabulary.specs.declared.answers.Answer.{Answer}
use Rattle.vocabulary.specs.declared.answers.Answer.TheVariants.{Optional}
use Rattle.machine.specs.CallEdits.{first_hit}
use Rattle.machine.specs.Shown.{has_key}
use Rattle.machine.specs.Views.{candidates}
use Rattle.view_steps.specs.KnownViews.{number_under}
use Rattle.write_chain.specs.Calls.{Came, removed}
use Rattle.write_chain.proofs.KnownCalls.{stands}
use Rattle.write_chain.proofs.RemoveLemmas.{gone_came, none_hit, row_gone, spot_there}
use Rattle.write_chain.proofs.removing.remove_key.Goals as goal
use Rattle.view_steps.proofs.ChangeLemmas.{room}

pub remove_row-requires-clause-change : goal.remove_row-requires-clause-change
remove_row-requires-clause-change g c = room _ _ c.requires.change

pub remove_row-requires-clause-spot : goal.remove_row-requires-clause-spot
remove_row-requires-clause-spot g c =
    let s = c.args.store.now in
    let v = view_in s c.args.n in
    spot_there s.world v c.in-Some.found.0 c.base_of-b.result (first_hit (has_key c.args.k.now) (candidates s.world v)) c.base_of-b.ensures.base c.in-Some.ensures.some

pub returns-in-Some-clause-came : goal.returns-in-Some-clause-came
returns-in-Some-clause-came g c =
    let s = c.args.store.now in
    let v = view_in s c.args.n in
    let gone = first_hit (has_key c.args.k.now) (candidates s.world v) in
    let now = c.remove_row.new.self in
    let found = c.in-Some.found in
    subst (λ (a : Answer). Came (Ok (Optional (Some found.1))) s now (removed s.world v gone a)) (ap Optional c.in-Some.ensures.value)
    (gone_came s now v gone (Optional (Some found.1)) (row_gone s now v found.0 c.base_of-b.result gone c.base_of-b.ensures.base c.in-Some.ensures.some c.remove_row.ensures.after) c.remove_row.ensures.few)

pub returns-in-None-clause-came : goal.returns-in-None-clause-came
returns-in-None-clause-came g c =
    let s = c.args.store.now in
    let v = view_in s c.args.n in
    let gone = first_hit (has_key c.args.k.now) (candidates s.world v) in
    subst (λ (a : Answer). Came (Ok (Optional None)) s s (removed s.world v gone a)) (ap Optional c.in-None.ensures.value)
    (gone_came s s v gone (Optional None) (none_hit s (number_under v) gone (stands s.world v c.base_of-b.result c.base_of-b.ensures.base c.base_of-b.ensures.known c.base_of-b.ensures.kind c.base_of-b.ensures.made).kind c.in-None.ensures.none) (omega (arith, c.rows_left-left.ensures)))
