use Rattle.std.proofs.Common.{Bool, cond, sym, ap, ◌∙◌}
use Rattle.elem.specs.declared.elements.Elem.{Elem}
use Rattle.elem.specs.Keyed.{without}
use Rattle.base_rows.proofs.KeyDrops.{of_value, no_key}
use Rattle.base_rows.proofs.base_rows.dropping.keyed.drop_key.Goals as goal

pub returns-then-test-clause-rows : goal.returns-then-test-clause-rows
returns-then-test-clause-rows g c =
    let rows = g.K.FoundRows.rows c.args.rows.now in
    let test = λ (row : Elem × g.row.V.Denot). g.T.RowTest.passes c.args.test.now (g.V.RowValue.row_of row.0 row.1) in
    let passes = ap (g.T.RowTest.passes c.args.test.now) (sym c.row.ensures) ∙ sym c.test.ensures ∙ c.if-test.true in
    c.drop_found.ensures.rows
    ∙ sym (ap (λ (b : Bool). cond b (without rows c.args.k.now) rows) passes)
    ∙ sym (of_value c.args.k.now test rows c.in-Some.v c.count-count.ensures.distinct (sym c.find.ensures.value ∙ c.in-Some.is))

pub returns-else-test-clause-rows : goal.returns-else-test-clause-rows
returns-else-test-clause-rows g c =
    let rows = g.K.FoundRows.rows c.args.rows.now in
    let test = λ (row : Elem × g.row.V.Denot). g.T.RowTest.passes c.args.test.now (g.V.RowValue.row_of row.0 row.1) in
    let stays = ap (g.T.RowTest.passes c.args.test.now) (sym c.row.ensures) ∙ sym c.test.ensures ∙ c.if-test.false in
    sym (ap (λ (b : Bool). cond b (without rows c.args.k.now) rows) stays)
    ∙ sym (of_value c.args.k.now test rows c.in-Some.v c.count-count.ensures.distinct (sym c.find.ensures.value ∙ c.in-Some.is))

pub returns-in_default-clause-rows : goal.returns-in_default-clause-rows
returns-in_default-clause-rows g c =
    let test = λ (row : Elem × g.row.V.Denot). g.T.RowTest.passes c.args.test.now (g.V.RowValue.row_of row.0 row.1) in
    sym (no_key c.args.k.now test (g.K.FoundRows.rows c.args.rows.now) (sym c.find.ensures.value ∙ c.in_default.is))
