use Rattle.base_rows.proofs.SpotsTold.{spots_tell}
use Rattle.base_rows.proofs.spotted.spots_tell.Goals as goal

pub returns : goal.returns
returns c = spots_tell
