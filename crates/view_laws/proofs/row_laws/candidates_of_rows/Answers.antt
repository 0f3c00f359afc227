use Rattle.view_laws.proofs.RowLemmas.{row_law}
use Rattle.view_laws.proofs.row_laws.candidates_of_rows.Goals as goal

pub returns : goal.returns
returns c = row_law
