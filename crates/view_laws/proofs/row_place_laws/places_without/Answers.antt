use Rattle.view_laws.proofs.RowChangeLemmas as change
use Rattle.view_laws.proofs.row_place_laws.places_without.Goals as goal

pub returns : goal.returns
returns c = change.places_without
