use Rattle.view_laws.proofs.RowPlaceLemmas as rows
use Rattle.view_laws.proofs.row_place_laws.few_candidates.Goals as goal

pub returns : goal.returns
returns c = rows.few_candidates
