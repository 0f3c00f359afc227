use Rattle.view_laws.proofs.LiftLemmas.{lift_law}
use Rattle.view_laws.proofs.row_laws.lifted_is_shown.Goals as goal

pub returns : goal.returns
returns c = lift_law
