use Rattle.view_steps.proofs.FormedLemmas.{known_formed}
use Rattle.view_steps.proofs.laws.known_is_formed.Goals as goal

pub returns : goal.returns
returns c = known_formed
