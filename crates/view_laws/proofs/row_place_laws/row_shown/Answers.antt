use Rattle.view_laws.proofs.FormPlaces as form
use Rattle.view_laws.proofs.row_place_laws.row_shown.Goals as goal

pub returns : goal.returns
returns c = form.row_shown
