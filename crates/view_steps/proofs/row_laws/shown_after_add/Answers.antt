use Rattle.view_steps.proofs.EditLemmas.{add_law}
use Rattle.view_steps.proofs.row_laws.shown_after_add.Goals as goal

pub returns : goal.returns
returns c = add_law
