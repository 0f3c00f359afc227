use Rattle.view_laws.proofs.DownLemmas as down
use Rattle.view_laws.proofs.down_laws.line_down.Goals as goal

pub returns : goal.returns
returns c = down.line_down
