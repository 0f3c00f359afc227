use Rattle.network_base.proofs.Nearing.{begin_place, begin_nearing}
use Rattle.network_base.proofs.after_beside.begin.Goals as goal

pub advance-requires : goal.advance-requires
advance-requires c t = let k = c.requires in begin_place c.args.edges.now k.0 c.args.end.now c.args.start.now k.1 t

pub returns : goal.returns
returns c k is = begin_nearing c.args.edges.now k c.args.end.now c.args.start.now is c.first_at.result c.advance.result c.first_at.ensures c.advance.ensures
