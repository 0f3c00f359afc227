use Rattle.view_laws.proofs.TestLemmas.{shows-hidden}
use Rattle.view_laws.proofs.look_laws.shows_hidden.Goals as goal

pub returns : goal.returns
returns c = shows-hidden
