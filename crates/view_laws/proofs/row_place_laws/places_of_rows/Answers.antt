use Rattle.view_laws.proofs.FormPlaces as form
use Rattle.view_laws.proofs.row_place_laws.places_of_rows.Goals as goal

pub returns : goal.returns
returns c = form.places_of_rows
