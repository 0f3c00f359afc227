use Rattle.view_laws.proofs.LookLemmas.{groups-there}
use Rattle.view_laws.proofs.look_laws.groups_there.Goals as goal

pub returns : goal.returns
returns c = groups-there
