use Rattle.view_laws.proofs.TestLemmas.{shows-both}
use Rattle.view_laws.proofs.look_laws.shows_both.Goals as goal

pub returns : goal.returns
returns c = shows-both
