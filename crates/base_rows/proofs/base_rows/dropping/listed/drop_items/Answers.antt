use Rattle.base_rows.proofs.ListRowLemmas.{items_kept}
use Rattle.base_rows.proofs.base_rows.dropping.listed.drop_items.Goals as goal

pub returns : goal.returns
returns g c = items_kept (g.T.RowTest.passes c.args.test.now) c.args.rows.now c.keep_front-kept.new.rows c.remove_run.new.rows c.keep_front-kept.result c.len-size.result c.keep_front-kept.ensures.kept c.len-size.ensures c.remove_run.ensures
