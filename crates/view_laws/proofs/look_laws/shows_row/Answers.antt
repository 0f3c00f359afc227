use Rattle.view_laws.proofs.TestLemmas.{shows-row}
use Rattle.view_laws.proofs.look_laws.shows_row.Goals as goal

pub returns : goal.returns
returns c = shows-row
