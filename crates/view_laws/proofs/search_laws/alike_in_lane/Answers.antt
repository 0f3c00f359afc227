use Rattle.view_laws.proofs.SearchLemmas as search
use Rattle.view_laws.proofs.search_laws.alike_in_lane.Goals as goal

pub returns : goal.returns
returns c = search.alike_in_lane
