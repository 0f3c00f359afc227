use Rattle.std.proofs.Common.{sym, ◌∙◌}
use Rattle.elem.specs.declared.elements.Elem.{Elem}
use Rattle.base_rows.proofs.DropLemmas.{dropped, next_key, value_here}
use Rattle.base_rows.proofs.KeyDrops.{of_value}
use Rattle.base_rows.proofs.base_rows.dropping.keyed.drop_row.Goals as goal

pub returns-clause-next : goal.returns-clause-next
returns-clause-next g c = λ front rest v e. c.key_in-next.ensures ∙ c.next_row.ensures.key ∙ next_key (g.K.FoundRows.rows c.args.rows.now) front rest c.args.k.now v c.count-count.ensures.distinct e

pub returns-clause-rows : goal.returns-clause-rows
returns-clause-rows g c = λ front rest v e.
    let rows = g.K.FoundRows.rows c.args.rows.now in
    let k = c.args.k.now in
    let distinct = c.count-count.ensures.distinct in
    let value = value_here rows front rest k v distinct e in
    dropped rows (g.K.FoundRows.rows c.drop_key.new.rows) front rest k v v (λ w. g.T.RowTest.passes c.args.test.now (g.V.RowValue.row_of k w)) distinct (sym value)
    (c.drop_key.ensures.rows ∙ of_value k (λ (row : Elem × g.row.V.Denot). g.T.RowTest.passes c.args.test.now (g.V.RowValue.row_of row.0 row.1)) rows v distinct value) e
