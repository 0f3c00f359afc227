use Rattle.view_laws.proofs.JoinLemmas.{leaf_in_view}
use Rattle.view_laws.proofs.laws.leaves_in_view.Goals as goal

pub returns : goal.returns
returns c = leaf_in_view
