use Rattle.std.proofs.Common.{◌∙◌}
use Rattle.base_store.specs.Stored.{view_in}
use Rattle.view_steps.proofs.FormedLemmas.{found_by_steps as found_through_form}
use Rattle.cursor_seat.proofs.passing.found_of_row.Goals as goal

pub returns : goal.returns
returns c = c.raise_all.ensures ∙ found_through_form (view_in c.args.store.now c.args.n) c.args.row.now c.base_of-base.ensures.known
