use Rattle.view_laws.proofs.RowLemmas.{shown_law}
use Rattle.view_laws.proofs.row_laws.shown_of_rows.Goals as goal

pub returns : goal.returns
returns c = shown_law
