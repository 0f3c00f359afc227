use Rattle.view_laws.proofs.SearchLemmas as search
use Rattle.view_laws.proofs.search_laws.one_in_lane.Goals as goal

pub returns : goal.returns
returns c = search.one_in_lane
