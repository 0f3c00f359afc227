use Rattle.view_steps.proofs.ComingDown.{walk_comes_down}
use Rattle.view_steps.proofs.laws.walk_comes_down.Goals as goal

pub returns : goal.returns
returns c = walk_comes_down
