use Rattle.std.proofs.Common.{◌∙◌}
use Rattle.view_laws.specs.Narrowing.{asks_moved}
use Rattle.view_laws.proofs.narrowing.cut_asks.Goals as goal

pub returns : goal.returns
returns c = c.asks_moved.ensures ∙ (λ i. asks_moved (c.source_of-first.ensures i) (c.source_of-second.ensures i) c.args.lane.now (c.asked_by-start.ensures i))
