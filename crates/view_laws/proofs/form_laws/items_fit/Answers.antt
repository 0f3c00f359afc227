use Rattle.view_laws.proofs.FormLemmas as form
use Rattle.view_laws.proofs.form_laws.items_fit.Goals as goal

pub returns : goal.returns
returns c = form.items_fit
