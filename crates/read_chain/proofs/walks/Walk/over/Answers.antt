use Rattle.base_store.specs.Stored.{view_in}
use Rattle.machine.specs.Views.{candidates}
use Rattle.read_chain.proofs.WalkLemmas.{all_to_come}
use Rattle.read_chain.proofs.walks.Walk.over.Goals as goal

pub returns-clause-items : goal.returns-clause-items
returns-clause-items c =
    let s = c.args.store.now in
    rw (c.starting.ensures.node, c.starting.ensures.back, c.starting.ensures.passed) (all_to_come c.args.back (candidates s.world (view_in s c.args.node)))
