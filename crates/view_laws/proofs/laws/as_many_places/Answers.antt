use Rattle.view_laws.proofs.ViewStands.{as_many}
use Rattle.view_laws.proofs.laws.as_many_places.Goals as goal

pub returns : goal.returns
returns c = as_many
