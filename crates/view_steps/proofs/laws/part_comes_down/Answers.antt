use Rattle.view_steps.proofs.ComingDown.{part_comes_down}
use Rattle.view_steps.proofs.laws.part_comes_down.Goals as goal

pub returns : goal.returns
returns c = part_comes_down
