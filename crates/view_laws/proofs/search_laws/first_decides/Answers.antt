use Rattle.view_laws.proofs.SearchLemmas as search
use Rattle.view_laws.proofs.search_laws.first_decides.Goals as goal

pub returns : goal.returns
returns c = search.first_decides
