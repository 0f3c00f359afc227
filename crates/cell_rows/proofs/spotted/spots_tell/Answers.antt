use Rattle.cell_rows.proofs.Apart.{spots_tell}
use Rattle.cell_rows.proofs.spotted.spots_tell.Goals as goal

pub returns : goal.returns
returns c = spots_tell
