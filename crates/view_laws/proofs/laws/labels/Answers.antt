use Rattle.view_laws.proofs.ViewStands.{view_labels}
use Rattle.view_laws.proofs.laws.labels.Goals as goal

pub returns : goal.returns
returns c = view_labels
