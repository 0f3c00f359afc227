use Rattle.view_steps.proofs.IndexLemmas.{gap_index_law}
use Rattle.view_steps.proofs.row_laws.gap_index.Goals as goal

pub returns : goal.returns
returns c = gap_index_law
