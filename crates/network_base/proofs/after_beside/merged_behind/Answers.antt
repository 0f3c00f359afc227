use Rattle.std.proofs.Common.{◌+◌}
use Rattle.network_base.proofs.after_beside.merged_behind.Goals as goal

pub nth_merged-requires-clause-begun : goal.nth_merged-requires-clause-begun
nth_merged-requires-clause-begun c = let k = c.requires.place in (k.0 + 1, c.is_behind.ensures c.if-not-is_behind.false k.0 k.1, c.is_behind-2.ensures c.if-not-is_behind-2.false k.0 k.1)

pub returns : goal.returns
returns c k is = c.nth_merged.ensures (k + 1) (c.is_behind.ensures c.if-not-is_behind.false k is) (c.is_behind-2.ensures c.if-not-is_behind-2.false k is)
