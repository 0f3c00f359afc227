use Rattle.view_steps.proofs.EditLemmas.{one_candidate_law}
use Rattle.view_steps.proofs.row_laws.one_candidate.Goals as goal

pub returns : goal.returns
returns c = one_candidate_law
