use Rattle.base_store.proofs.EachLemmas.{each_below}
use Rattle.base_store.proofs.store.Store.passes_down.Goals as goal

pub returns-clause-each : goal.returns-clause-each
returns-clause-each c = λ e. each_below c.facts-below.result.now.shape c.order_on-order.result c.args.step.now c.args.lane.now c.pass_down.new.lane c.requires.known c.requires.each (c.pass_down.ensures.some e)
