use Rattle.view_steps.proofs.MadeLemmas.{view_stays}
use Rattle.view_steps.proofs.laws.made_follows.Goals as goal

pub returns : goal.returns
returns c = view_stays
