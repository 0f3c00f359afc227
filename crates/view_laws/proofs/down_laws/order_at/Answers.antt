use Rattle.view_laws.proofs.OrderTable as table
use Rattle.view_laws.proofs.down_laws.order_at.Goals as goal

pub returns : goal.returns
returns c = table.order_at
