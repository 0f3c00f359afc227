use Rattle.base_rows.proofs.DropLemmas.{gone_key}
use Rattle.base_rows.proofs.SpotsTold.{at_key}
use Rattle.base_rows.specs.Journals.{items_by}
use Rattle.base_rows.proofs.base_rows.dropping.keyed.remove_key.Goals as goal

pub returns-in-Key-clause-rows : goal.returns-in-Key-clause-rows
returns-in-Key-clause-rows g c = λ numbers at. gone_key g.V.RowValue.row_of g.met.V.RowValue.key_kept (g.K.FoundRows.rows c.args.rows.now) (g.K.FoundRows.rows c.drop_found.new.self) c.in-Key.k c.args.at.now numbers c.count-count.ensures.distinct c.in-Key.is c.drop_found.ensures.rows at

pub returns-in_default : goal.returns-in_default
returns-in_default g c =
    let key = at_key (items_by g.V.RowValue.row_of (g.K.FoundRows.rows c.args.rows.now)) c.requires.0 c.args.at.now c.requires.1 in
    absurd (c.in_default.not-Key key.0 key.1)
