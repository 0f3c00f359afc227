use Rattle.std.proofs.Common.{true, refl}
use Rattle.base_store.specs.Stored.{view_in}
use Rattle.write_chain.proofs.AddLemmas.{many_placed, many_stopped}
use Rattle.write_chain.proofs.KnownCalls.{stands}
use Rattle.write_chain.proofs.adding.add_many.Goals as goal
use Rattle.view_steps.proofs.ChangeLemmas.{room}

pub place_rows-requires-clause-change : goal.place_rows-requires-clause-change
place_rows-requires-clause-change g c = room _ _ c.requires.change

pub returns-in-Ok : goal.returns-in-Ok
returns-in-Ok g c =
    let s = c.args.store.now in
    let v = view_in s c.args.n in
    let b = c.base_of-b in
    many_placed s c.place_rows.new.self v c.args.items.now c.args.spot c.args.answer true b.result (stands s.world v b.result b.ensures.base b.ensures.known b.ensures.kind b.ensures.made) c.requires.other c.if-not-all_lift.ensures refl b.ensures.base c.in-Ok.ensures.ok c.in-Ok.ensures.few

pub returns-in-Err : goal.returns-in-Err
returns-in-Err g c =
    let s = c.args.store.now in
    let v = view_in s c.args.n in
    let b = c.base_of-b in
    many_stopped s c.place_rows.new.self v c.args.items.now c.args.spot c.args.answer true b.result c.in-Err.why (stands s.world v b.result b.ensures.base b.ensures.known b.ensures.kind b.ensures.made) c.requires.other c.if-not-all_lift.ensures refl b.ensures.base c.in-Err.ensures.err c.in-Err.ensures.cause
