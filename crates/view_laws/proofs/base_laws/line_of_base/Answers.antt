use Rattle.view_laws.proofs.BaseLineLemmas as lines
use Rattle.view_laws.proofs.base_laws.line_of_base.Goals as goal

pub returns : goal.returns
returns c = lines.line_of_base
