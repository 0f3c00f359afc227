use Rattle.std.proofs.Common.{refl}
use Rattle.cell_rows.proofs.tests.lane_in.Goals as goal

pub returns-in-None : goal.returns-in-None
returns-in-None c = λ kind. record { rows = tt; columns = tt; each = refl }

pub returns-in-Some-First : goal.returns-in-Some-First
returns-in-Some-First c = λ kind. record { rows = tt; columns = tt; each = refl }

pub returns-in-Some-Second : goal.returns-in-Some-Second
returns-in-Some-Second c = λ kind. record { rows = tt; columns = tt; each = refl }
