use Rattle.view_laws.proofs.LookLemmas.{shows-over}
use Rattle.view_laws.proofs.look_laws.shows_over.Goals as goal

pub returns : goal.returns
returns c = shows-over
