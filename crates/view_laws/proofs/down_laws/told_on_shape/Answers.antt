use Rattle.view_laws.proofs.TellTable.{told_on_shape}
use Rattle.view_laws.proofs.down_laws.told_on_shape.Goals as goal

pub returns : goal.returns
returns c = told_on_shape
