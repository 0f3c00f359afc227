use Rattle.view_laws.proofs.JoinLines.{found-in-lane}
use Rattle.view_laws.proofs.line_laws.found_in_lane.Goals as goal

pub returns : goal.returns
returns c = found-in-lane
