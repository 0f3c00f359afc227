use Rattle.view_steps.proofs.KnownLemmas.{known_by_row}
use Rattle.view_steps.proofs.laws.known_by_row.Goals as goal

pub returns : goal.returns
returns c = known_by_row
