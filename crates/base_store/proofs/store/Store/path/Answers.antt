use Rattle.std.proofs.Common.{◌≤◌, arith, ap}
use Rattle.machine.specs.Views.{path}
use Rattle.base_store.specs.declared.store.facts.Facts.{Facts}
use Rattle.base_store.specs.Stored.{Stored, view_in}
use Rattle.base_store.proofs.BuiltLemmas.{path_below}
use Rattle.base_store.proofs.store.Store.path.Goals as goal

pub returns-clause-within : goal.returns-clause-within
returns-clause-within c =
    let s : Stored = c.args.self.now in
    let low : path (view_in s c.args.n) ≤ c.args.n = rw (← c.self.view_is) (path_below _ c.args.n c.self.invariant.built (rw (← c.self.view_is) at c.requires)) in
    omega (arith, ap (λ (f : Facts). f.path) c.facts.ensures, low)
