use Rattle.view_steps.proofs.EditLemmas.{drop_law}
use Rattle.view_steps.proofs.row_laws.shown_after_drop.Goals as goal

pub returns : goal.returns
returns c = drop_law
