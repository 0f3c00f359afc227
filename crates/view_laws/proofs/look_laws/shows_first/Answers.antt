use Rattle.view_laws.proofs.TestLemmas.{shows-first}
use Rattle.view_laws.proofs.look_laws.shows_first.Goals as goal

pub returns : goal.returns
returns c = shows-first
