use Rattle.view_laws.proofs.RowPlaceLemmas as rows
use Rattle.view_laws.proofs.row_place_laws.row_at_place.Goals as goal

pub returns : goal.returns
returns c = rows.row_at_place
