use Rattle.std.proofs.Common.{sym, ◌∙◌}
use Rattle.base_store.specs.Stored.{view_in}
use Rattle.machine.specs.Views.{candidates}
use Rattle.read_chain.proofs.KeyPlaceLemmas.{key_hit}
use Rattle.view_steps.proofs.HitLemmas.{no_key_hit, key_missed}
use Rattle.read_chain.proofs.key_places.place_at_key.Goals as goal

pub returns-then-is_hit-clause-some : goal.returns-then-is_hit-clause-some
returns-then-is_hit-clause-some g c =
    let s = c.args.store.now in
    rw (c.at_spot.ensures) (key_hit s.world (view_in s c.args.n) (g.T.RowTest.passes c.args.test.now) c.args.k.now c.in-Some.there.spot c.in-Some.there.found c.in-Some.ensures.spot c.requires.narrow c.in-Some.ensures.found (sym c.is_hit.ensures ∙ c.if-is_hit.true))

pub returns-else-is_hit-clause-none : goal.returns-else-is_hit-clause-none
returns-else-is_hit-clause-none g c =
    let s = c.args.store.now in
    key_missed (g.T.RowTest.passes c.args.test.now) c.args.k.now c.in-Some.there.found (candidates s.world (view_in s c.args.n)) c.requires.narrow c.in-Some.ensures.found (sym c.is_hit.ensures ∙ c.if-is_hit.false)

pub returns-in-None-clause-none : goal.returns-in-None-clause-none
returns-in-None-clause-none g c =
    let s = c.args.store.now in
    no_key_hit (g.T.RowTest.passes c.args.test.now) c.args.k.now (candidates s.world (view_in s c.args.n)) c.requires.narrow c.in-None.ensures.found
