use Rattle.base_rows.proofs.FitLemmas.{all_fit}
use Rattle.base_rows.proofs.base_rows.BaseRows.rows_fit.Goals as goal

pub returns : goal.returns
returns c = all_fit c.args.self.now
