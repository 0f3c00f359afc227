use Rattle.view_laws.proofs.LiftTable as table
use Rattle.view_laws.proofs.row_laws.lift_undone.Goals as goal

pub returns : goal.returns
returns c = table.lift_undone
