use Rattle.cursor_seat.proofs.EditLemmas.{edit_leaves}
use Rattle.cursor_seat.proofs.laws.edit_leaves.Goals as goal

pub returns : goal.returns
returns c = edit_leaves
