use Rattle.view_steps.proofs.IndexLemmas.{item_index_law}
use Rattle.view_steps.proofs.row_laws.item_index.Goals as goal

pub returns : goal.returns
returns c = item_index_law
