use Rattle.std.proofs.Common.{sym, ap, ◌∙◌}
use Rattle.network_base.specs.Shown.{passes}
use Rattle.network_base.proofs.walking.passes.Goals as goal

pub returns-in-EdgesConnecting : goal.returns-in-EdgesConnecting
returns-in-EdgesConnecting c = c.are_joined.ensures c.args.e.now.2 ∙ sym (ap (λ s. passes c.args.directed c.args.edges.now s c.args.e.now) c.in-EdgesConnecting.is)
