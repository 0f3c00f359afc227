use Rattle.std.specs.Prelude.{Ok}
use Rattle.base_store.specs.Stored.{view_in}
use Rattle.machine.specs.Views.{candidates, shown}
use Rattle.write_chain.proofs.OtherLemmas.{removed_same}
use Rattle.write_chain.proofs.others.remove_others.Goals as goal

pub returns-in-Ok : goal.returns-in-Ok
returns-in-Ok g c =
    let s = c.args.store.now in
    let v = view_in s c.args.n in
    let other = view_in s c.args.other in
    removed_same (Ok c.remove_among.result) s c.remove_among.new.store v other c.base_of-b.result c.in-Ok.members c.args.out (candidates s.world v) (shown s.world v)
    (record { base = c.base_of-b.ensures.base; known = c.base_of-b.ensures.known; kind = c.base_of-b.ensures.kind; made = c.base_of-b.ensures.made; rows_fit = c.rows_fit.ensures }) c.requires.elements c.in-Ok.ensures.members c.remove_among.ensures
