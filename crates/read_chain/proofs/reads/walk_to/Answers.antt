use Rattle.std.proofs.Common.{ap, arith, length}
use Rattle.base_store.specs.Stored.{view_in}
use Rattle.read_chain.proofs.UnderLemmas.{few_items}
use Rattle.read_chain.proofs.reads.walk_to.Goals as goal

pub overflow_add-passed : goal.overflow_add-passed
overflow_add-passed g c =
    let s = c.args.store.now in
    omega (arith, few_items s.world (view_in s c.args.n) c.base_of.result c.base_of.ensures.known c.base_of.ensures.base, ap length c.in-Some.ensures.item, c.len-rows.ensures.len, c.len-rows.ensures.few, c.loop-shown.invariant.counted)
