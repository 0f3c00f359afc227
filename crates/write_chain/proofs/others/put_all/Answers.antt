use Rattle.std.proofs.Common.{◌∙◌}
use Rattle.base_store.specs.Stored.{view_in}
use Rattle.write_chain.proofs.KnownCalls.{stands}
use Rattle.machine.specs.Views.{shape_at}
use Rattle.write_chain.proofs.OtherLemmas.{entries_fit}
use Rattle.write_chain.proofs.ShapeLemmas.{plain_base, plain_map}
use Rattle.write_chain.proofs.others.put_all.Goals as goal

pub add_many-requires-clause-fits : goal.add_many-requires-clause-fits
add_many-requires-clause-fits g c =
    let s = c.args.store.now in
    let v = view_in s c.args.n in
    entries_fit s.world v (view_in s c.args.other) c.base_of-b.result c.deref-rows.result.now (record { base = c.base_of-b.ensures.base; known = c.base_of-b.ensures.known; kind = c.base_of-b.ensures.kind; made = c.base_of-b.ensures.made; rows_fit = c.rows_fit.ensures })
    (stands s.world v c.base_of-base.result c.base_of-base.ensures.base c.base_of-base.ensures.known c.base_of-base.ensures.kind c.base_of-base.ensures.made)
    (c.deref-rows.ensures.value ∙ c.in-Ok.ensures.items) c.requires.adds (plain_map (shape_at s.world v) c.requires.map) c.requires.others

pub add_many-requires-clause-other : goal.add_many-requires-clause-other
add_many-requires-clause-other g c =
    let s = c.args.store.now in
    plain_base s.world (view_in s c.args.n) c.base_of-base.ensures.known c.requires.adds c.requires.map
