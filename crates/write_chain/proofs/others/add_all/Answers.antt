use Rattle.std.proofs.Common.{ap, sym, ◌∙◌, subst}
use Rattle.base_store.specs.Stored.{view_in}
use Rattle.vocabulary.specs.declared.answers.Answer.TheVariants.{Truth}
use Rattle.view_steps.specs.Indexes.{end_of_view}
use Rattle.machine.specs.Answers.{adds_something}
use Rattle.machine.specs.Views.{shape_at, shown}
use Rattle.write_chain.specs.Calls.{Came}
use Rattle.write_chain.proofs.KnownCalls.{last_placed, stands}
use Rattle.write_chain.proofs.OtherLemmas.{added_same, elements_fit}
use Rattle.write_chain.proofs.ShapeLemmas.{elements_base}
use Rattle.write_chain.proofs.others.add_all.Goals as goal

pub add_many-requires-clause-fits : goal.add_many-requires-clause-fits
add_many-requires-clause-fits g c =
    let s = c.args.store.now in
    let v = view_in s c.args.n in
    elements_fit s.world v (view_in s c.args.other) c.base_of-b.result c.deref-rows.result.now (record { base = c.base_of-b.ensures.base; known = c.base_of-b.ensures.known; kind = c.base_of-b.ensures.kind; made = c.base_of-b.ensures.made; rows_fit = c.rows_fit.ensures })
    (stands s.world v c.base_of-base.result c.base_of-base.ensures.base c.base_of-base.ensures.known c.base_of-base.ensures.kind c.base_of-base.ensures.made)
    (c.deref-rows.ensures.value ∙ c.in-Ok.ensures.items) c.requires.adds c.requires.elements c.requires.others

pub add_many-requires-clause-other : goal.add_many-requires-clause-other
add_many-requires-clause-other g c =
    let s = c.args.store.now in
    elements_base s.world (view_in s c.args.n) c.base_of-base.ensures.known c.requires.adds c.requires.elements

pub returns-in-Ok : goal.returns-in-Ok
returns-in-Ok g c =
    let s = c.args.store.now in
    let v = view_in s c.args.n in
    let others = shown s.world (view_in s c.args.other) in
    let told = Truth (adds_something (shape_at s.world v) (shown s.world v) others) in
    subst (Came c.add_many.result s c.add_many.new.store) (sym (last_placed s.world v others told (stands s.world v c.base_of-base.result c.base_of-base.ensures.base c.base_of-base.ensures.known c.base_of-base.ensures.kind c.base_of-base.ensures.made) c.requires.adds (elements_base s.world v c.base_of-base.ensures.known c.requires.adds c.requires.elements)))
    (added_same c.add_many.result s c.add_many.new.store v c.deref-rows.result.now others c.end_spot-spot.result (end_of_view s.world v) (Truth c.adds_something-new.result) told
    (c.deref-rows.ensures.value ∙ c.in-Ok.ensures.items) c.end_spot-spot.ensures.spot (ap Truth c.adds_something-new.ensures) c.add_many.ensures)
