use Rattle.view_laws.proofs.EachLemmas as each
use Rattle.view_laws.proofs.down_laws.each_down.Goals as goal

pub returns : goal.returns
returns c = each.each_down
