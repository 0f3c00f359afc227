use Rattle.view_laws.proofs.JoinLines.{line-joined}
use Rattle.view_laws.proofs.line_laws.line_joined.Goals as goal

pub returns : goal.returns
returns c = line-joined
