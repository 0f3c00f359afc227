use Rattle.std.proofs.Common.{ℕ, sym, subst}
use Rattle.base_store.specs.Stored.{view_in}
use Rattle.machine.specs.Bases.{base_at}
use Rattle.view_steps.specs.KnownViews.{number_under}
use Rattle.vocabulary.specs.Kinds.{shape_of_kind}
use Rattle.base_rows.specs.BaseRows.{IsRowOf}
use Rattle.write_chain.proofs.AddLemmas.{force_placed, force_stopped}
use Rattle.write_chain.proofs.ShapeLemmas.{lifted_fits}
use Rattle.write_chain.proofs.adding.force_one.Goals as goal
use Rattle.view_steps.proofs.ChangeLemmas.{room}

pub force_row-requires-clause-change : goal.force_row-requires-clause-change
force_row-requires-clause-change g c = room _ _ c.requires.change

pub force_row-requires-clause-fits : goal.force_row-requires-clause-fits
force_row-requires-clause-fits g c =
    let s = c.args.store.now in
    let v = view_in s c.args.n in
    let b = c.base_of-b in
    subst (λ (n : ℕ). IsRowOf (base_at s.world n).kind c.in-Some.row) (sym b.ensures.base)
    (lifted_fits v (shape_of_kind (base_at s.world (number_under v)).kind) c.args.item.now c.in-Some.row b.ensures.known c.in-Some.ensures c.requires.fits)

pub returns-in-Ok-clause-came : goal.returns-in-Ok-clause-came
returns-in-Ok-clause-came g c =
    let s = c.args.store.now in
    let b = c.base_of-b in
    force_placed s c.force_row.new.self (view_in s c.args.n) c.args.item.now c.in-Some.row c.own_spot-spot.result c.args.answer b.result b.ensures.base c.own_spot-spot.ensures c.in-Some.ensures c.in-Ok.ensures.taken c.in-Ok.ensures.ok c.in-Ok.ensures.few

pub returns-in-Err-clause-came : goal.returns-in-Err-clause-came
returns-in-Err-clause-came g c =
    let s = c.args.store.now in
    let b = c.base_of-b in
    force_stopped s c.force_row.new.self (view_in s c.args.n) c.args.item.now c.in-Some.row c.own_spot-spot.result c.args.answer b.result c.in-Err.why b.ensures.base c.own_spot-spot.ensures c.in-Some.ensures c.in-Err.ensures.err c.in-Err.ensures.cause
