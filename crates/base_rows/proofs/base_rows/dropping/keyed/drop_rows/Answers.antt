use Rattle.std.proofs.Common.{◌≡◌, ◌+◌, suc, List, ◌++◌, take, drop, sym, ap, ◌∙◌, arith}
use Rattle.elem.specs.declared.elements.Elem.{Elem}
use Rattle.base_rows.proofs.DropLemmas.{first_row, behind_row, kept, here_present, filtered_more, filtered_end, filtered_all, kept_items}
use Rattle.base_rows.proofs.base_rows.dropping.keyed.drop_rows.Goals as goal

pub returns-in_default : goal.returns-in_default
returns-in_default g c =
    kept_items g.V.RowValue.row_of (g.T.RowTest.passes c.args.test.now) (g.K.FoundRows.rows c.loop-row.rows) (g.K.FoundRows.rows c.args.rows.now)
    (filtered_end _ (g.K.FoundRows.rows c.loop-row.rows) (g.K.FoundRows.rows c.args.rows.now) c.loop-row._row c.loop-row.invariant.rows (sym c.in_default.is ∙ c.loop-row.invariant.next))

pub drop_row-at-requires : goal.drop_row-at-requires
drop_row-at-requires g c =
    here_present (λ row. g.T.RowTest.passes c.args.test.now (g.V.RowValue.row_of row.0 row.1)) (g.K.FoundRows.rows c.loop-row.rows) (g.K.FoundRows.rows c.args.rows.now) c.loop-row._row c.in-Some.k c.loop-row.invariant.rows (sym c.in-Some.is ∙ c.loop-row.invariant.next)

pub loop-row-preserved : goal.loop-row-preserved
loop-row-preserved g c =
    let old = g.K.FoundRows.rows c.args.rows.now in
    let i = c.loop-row._row in
    let test = λ (row : Elem × g.row.V.Denot). g.T.RowTest.passes c.args.test.now (g.V.RowValue.row_of row.0 row.1) in
    let row = first_row (drop i old) c.in-Some.k (sym c.in-Some.is ∙ c.loop-row.invariant.next) in
    let front = kept test (take i old) in
    let now = c.loop-row.invariant.rows ∙ ap (λ (rest : List (Elem × g.row.V.Denot)). front ++ rest) row.2 in
    let next : i + 1 ≡ suc i = omega arith in
    record {
      rows = filtered_more test old (g.K.FoundRows.rows c.drop_row-at.new.rows) i (i + 1) (c.in-Some.k, row.0) row.1 next row.2 (c.drop_row-at.ensures.rows front row.1 row.0 now);
      next = c.drop_row-at.ensures.next front row.1 row.0 now ∙ behind_row i (i + 1) old (c.in-Some.k, row.0) row.1 next row.2;
    }

pub returns : goal.returns
returns g c =
    kept_items g.V.RowValue.row_of (g.T.RowTest.passes c.args.test.now) (g.K.FoundRows.rows c.loop-row.rows) (g.K.FoundRows.rows c.args.rows.now)
    (filtered_all _ (g.K.FoundRows.rows c.loop-row.rows) (g.K.FoundRows.rows c.args.rows.now) c.loop-row._row c.loop-row.invariant.rows (omega (arith, c.count-count.ensures.len)))
