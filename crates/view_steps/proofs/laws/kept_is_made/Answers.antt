use Rattle.view_steps.proofs.MadeLemmas.{kept_made}
use Rattle.view_steps.proofs.laws.kept_is_made.Goals as goal

pub returns : goal.returns
returns c = kept_made
