use Rattle.std.proofs.Common.{ℕ, sym, ◌∙◌, ap, subst, Bool, Option}
use Rattle.std.specs.Prelude.{drop, find}
use Rattle.base_store.specs.Stored.{view_in}
use Rattle.vocabulary.specs.declared.items.Item.{Item}
use Rattle.view_laws.specs.declared.places.RowSpot.{RowSpot}
use Rattle.machine.specs.CallEdits.{is_hit}
use Rattle.machine.specs.Views.{candidates}
use Rattle.read_chain.proofs.FindLemmas.{HitStands, found_from, walk_hit}
use Rattle.read_chain.proofs.finding.find_place.Goals as goal
use Rattle.view_steps.proofs.HitLemmas.{hit_later, no_hit}

pub returns-in-Some-last-clause-some : goal.returns-in-Some-last-clause-some
returns-in-Some-last-clause-some g c =
    let s = c.args.store.now in
    let passes : Item → Bool = g.T.RowTest.passes c.args.test.now in
    let laws = c.is_lawful.ensures in
    let walk = c.loop-found.invariant in
    let hit : HitStands s.world (view_in s c.args.n) passes c.pass.new.self.last = walk_hit s c.args.n passes c.loop-found.walk c.pass.new.self c.in-Some.found _ c.base_of-base.ensures.known laws.by_row laws.formed laws.tell walk.node walk.front
    c.in-Some.ensures.node c.in-Some.ensures.back c.in-Some.ensures.passed c.in-Some.ensures.walk c.in-Some.ensures.found (sym c.is_hit.ensures ∙ c.if-is_hit.true) walk.rest in
    rw (c.at_spot.ensures) (subst (λ (o : Option RowSpot). HitStands s.world (view_in s c.args.n) passes o) (sym c.in-Some-last.ensures) hit).1

pub returns-in-None-clause-none : goal.returns-in-None-clause-none
returns-in-None-clause-none g c =
    let s = c.args.store.now in
    let passes : Item → Bool = g.T.RowTest.passes c.args.test.now in
    let laws = c.is_lawful.ensures in
    let walk = c.loop-found.invariant in
    let hit : HitStands s.world (view_in s c.args.n) passes c.pass.new.self.last = walk_hit s c.args.n passes c.loop-found.walk c.pass.new.self c.in-Some.found _ c.base_of-base.ensures.known laws.by_row laws.formed laws.tell walk.node walk.front
    c.in-Some.ensures.node c.in-Some.ensures.back c.in-Some.ensures.passed c.in-Some.ensures.walk c.in-Some.ensures.found (sym c.is_hit.ensures ∙ c.if-is_hit.true) walk.rest in
    absurd (subst (λ (o : Option RowSpot). HitStands s.world (view_in s c.args.n) passes o) (sym c.in-None.ensures) hit).0

pub loop-found-preserved : goal.loop-found-preserved
loop-found-preserved g c =
    let s = c.args.store.now in
    let old = c.loop-found.walk in
    let passes : Item → Bool = g.T.RowTest.passes c.args.test.now in
    let cs = candidates s.world (view_in s c.args.n) in
    let found = found_from s c.args.n old _ c.loop-found.invariant.node c.loop-found.invariant.front c.in-Some.ensures.found in
    record {
      walk = c.in-Some.ensures.walk;
      node = c.in-Some.ensures.node ∙ c.loop-found.invariant.node;
      front = c.in-Some.ensures.back ∙ c.loop-found.invariant.front;
      rest = ap (λ (i : ℕ). find (is_hit passes) (drop i cs)) c.in-Some.ensures.passed
          ∙ hit_later passes cs old.passed c.in-Some.found _ found (sym c.is_hit.ensures ∙ c.if-is_hit.false)
          ∙ c.loop-found.invariant.rest;
    }

pub returns-clause-none : goal.returns-clause-none
returns-clause-none g c =
    let s = c.args.store.now in
    let old = c.loop-found.walk in
    no_hit (g.T.RowTest.passes c.args.test.now) (candidates s.world (view_in s c.args.n)) old.passed
    (found_from s c.args.n old _ c.loop-found.invariant.node c.loop-found.invariant.front c.in_default.ensures.found.0) c.loop-found.invariant.rest
