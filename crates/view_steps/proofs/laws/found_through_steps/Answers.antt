use Rattle.view_steps.proofs.FormedLemmas.{found_by_steps}
use Rattle.view_steps.proofs.laws.found_through_steps.Goals as goal

pub returns : goal.returns
returns c = found_by_steps
