use Rattle.view_laws.proofs.RowLemmas.{found_law}
use Rattle.view_laws.proofs.row_laws.found_of_rows.Goals as goal

pub returns : goal.returns
returns c = found_law
