use Rattle.view_laws.proofs.JoinLines.{whole-line}
use Rattle.view_laws.proofs.line_laws.whole_line.Goals as goal

pub returns : goal.returns
returns c = whole-line
