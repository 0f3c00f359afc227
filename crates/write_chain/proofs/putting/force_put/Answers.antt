use Rattle.std.proofs.Common.{◌≡◌, ◌∙◌, true, sym, subst}
use Rattle.base_store.specs.Stored.{view_in}
use Rattle.machine.specs.Memory.{adds_rows}
use Rattle.machine.specs.Views.{shape_at}
use Rattle.vocabulary.specs.Shapes.{is_bimap}
use Rattle.write_chain.specs.Calls.{Came, answered_known}
use Rattle.vocabulary.specs.declared.calls.Call.TheVariants.{Pair}
use Rattle.vocabulary.specs.declared.calls.OnPair.TheVariants.{ForcePut}
use Rattle.write_chain.proofs.AddLemmas.{bimap_wants}
use Rattle.write_chain.proofs.KnownCalls.{Stands, force_given, stands}
use Rattle.write_chain.proofs.ShapeLemmas.{base_alike, bimap_map, entry_fits, map_keyed}
use Rattle.write_chain.proofs.putting.force_put.Goals as goal

pub map_get-bound-requires-clause-keyed : goal.map_get-bound-requires-clause-keyed
map_get-bound-requires-clause-keyed g c =
    let s = c.args.store.now in
    let of = shape_at s.world (view_in s c.args.n) in
    map_keyed of (bimap_map of c.requires.bimap)

pub force_one-requires-clause-bimap : goal.force_one-requires-clause-bimap
force_one-requires-clause-bimap g c =
    let s = c.args.store.now in
    base_alike s.world (view_in s c.args.n) c.base_of-base.ensures.known c.requires.adds ∙ c.requires.bimap

pub force_one-requires-clause-fits : goal.force_one-requires-clause-fits
force_one-requires-clause-fits g c =
    let s = c.args.store.now in
    let v = view_in s c.args.n in
    let it : Stands s.world v = (stands s.world v c.base_of-base.result c.base_of-base.ensures.base c.base_of-base.ensures.known c.base_of-base.ensures.kind c.base_of-base.ensures.made) in
    entry_fits s.world v c.args.k.now c.args.w.now it.known it.kind c.requires.adds (bimap_map (shape_at s.world v) c.requires.bimap)

pub returns-clause-came : goal.returns-clause-came
returns-clause-came g c =
    let s = c.args.store.now in
    let v = view_in s c.args.n in
    subst (Came c.force_one.result s c.force_one.new.store) (sym (force_given s.world v c.args.k.now c.args.w.now c.map_get-bound.result c.requires.adds c.map_get-bound.ensures.value)) c.force_one.ensures.came

pub returns-clause-memory : goal.returns-clause-memory
returns-clause-memory g c = λ e.
    let s = c.args.store.now in
    let v = view_in s c.args.n in
    bimap_wants (adds_rows s.world (answered_known s.world v (Pair ForcePut c.args.k.now c.args.w.now))) (is_bimap (shape_at s.world v)) c.requires.bimap
