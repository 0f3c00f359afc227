use Rattle.view_laws.proofs.SearchLemmas as search
use Rattle.view_laws.proofs.search_laws.element_shown.Goals as goal

pub returns : goal.returns
returns c = search.element_shown
