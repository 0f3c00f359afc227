use Rattle.view_laws.proofs.LineLemmas.{line-over}
use Rattle.view_laws.proofs.line_laws.line_over.Goals as goal

pub returns : goal.returns
returns c = line-over
