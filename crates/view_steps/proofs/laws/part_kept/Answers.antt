use Rattle.view_steps.proofs.ComingDown.{part_kept}
use Rattle.view_steps.proofs.laws.part_kept.Goals as goal

pub returns : goal.returns
returns c = part_kept
