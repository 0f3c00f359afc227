use Rattle.std.specs.Prelude.{not}
use Rattle.base_rows.proofs.PairLemmas.{gone_turned}
use Rattle.base_rows.proofs.base_rows.dropping.pairs.drop_values.Goals as goal

pub returns : goal.returns
returns g c = gone_turned (λ row. not (g.T.RowTest.passes c.args.test.now row)) c.args.rows.now c.drop_keys.new.rows c.drop_keys.ensures.rows
