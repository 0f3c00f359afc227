use Rattle.view_laws.proofs.FormLemmas as form
use Rattle.view_laws.proofs.form_laws.show_fits.Goals as goal

pub returns : goal.returns
returns c = form.show_fits
