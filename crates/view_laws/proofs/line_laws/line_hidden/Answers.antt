use Rattle.view_laws.proofs.JoinLines.{line-hidden}
use Rattle.view_laws.proofs.line_laws.line_hidden.Goals as goal

pub returns : goal.returns
returns c = line-hidden
