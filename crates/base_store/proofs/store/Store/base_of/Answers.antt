use Rattle.std.proofs.Common.{◌<◌, length, arith, ap}
use Rattle.view_steps.specs.KnownViews.{number_under}
use Rattle.base_store.specs.declared.store.facts.Facts.{Facts}
use Rattle.base_store.specs.Stored.{Stored, view_in}
use Rattle.base_store.proofs.BuiltLemmas.{base_within}
use Rattle.base_store.proofs.store.Store.base_of.Goals as goal

pub returns-clause-within : goal.returns-clause-within
returns-clause-within c =
    let s : Stored = c.args.self.now in
    let low : number_under (view_in s c.args.n) < length s.world = rw (← c.self.view_is) (base_within _ c.args.n c.self.invariant.built (rw (← c.self.view_is) at c.requires)) in
    omega (arith, ap (λ (f : Facts). f.base) c.facts.ensures, c.at.ensures, low)

pub returns-clause-made : goal.returns-clause-made
returns-clause-made c = rw (← c.self.view_is) (c.self.invariant.built.made c.args.n (rw (← c.self.view_is) at c.requires))

pub returns-clause-keys : goal.returns-clause-keys
returns-clause-keys c = rw (← c.self.view_is) (c.self.invariant.built.keys c.at.result)
