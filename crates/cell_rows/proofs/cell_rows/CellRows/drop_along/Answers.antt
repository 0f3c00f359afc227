use Rattle.std.proofs.Common.{◌≡◌, ◌+◌, false, suc, refl, sym, ◌∙◌, subst, arith}
use Rattle.std.proofs.lemmas.Option.{slice_get_within}
use Rattle.vocabulary.specs.declared.kinds.Kind.{Kind}
use Rattle.view_laws.specs.Spots.{same_spot}
use Rattle.cell_rows.specs.CellRows.{rows_of}
use Rattle.cell_rows.specs.CellSpots.{cell_line, cell_spot}
use Rattle.cell_rows.specs.Serving.{ServesCells}
use Rattle.cell_rows.proofs.DropLemmas.{among_more, gone_at_end, gone_more, gone_of_all, is_among, next_there, none_gone, stands_there}
use Rattle.std.specs.Prelude.{take}
use Rattle.cell_rows.proofs.cell_rows.CellRows.drop_along.Goals as goal

pub loop-row-init : goal.loop-row-init
loop-row-init g c = record {
  kind = refl;
  rows = none_gone (g.T.RowTest.passes c.args.test.now) (rows_of c.args.self.now);
  next = c.next_spot-at.ensures.next;
  within = omega arith;
  steps = omega (arith, c.next_spot-at.ensures.step);
}

pub next_spot-next-requires : goal.next_spot-next-requires
next_spot-next-requires g c = record {
  serves = subst (λ (kind : Kind). ServesCells kind c.args.lane.now) (sym c.loop-row.invariant.kind) c.requires;
  from = stands_there c.args.lane.now (g.T.RowTest.passes c.args.test.now) (rows_of c.args.self.now) c.len-count.ensures.spots c.loop-row._row (rows_of c.loop-row.self) c.loop-row.invariant.rows c.in-Some.spot (c.loop-row.invariant.next ∙ c.in-Some.is);
}

pub loop-row-preserved : goal.loop-row-preserved
loop-row-preserved g c =
    let passes = g.T.RowTest.passes c.args.test.now in
    let old = rows_of c.args.self.now in
    let line = cell_line old c.args.lane.now false in
    let i = c.loop-row._row in
    let s = c.in-Some.spot in
    let at = c.loop-row.invariant.next ∙ c.in-Some.is in
    let next : i + 1 ≡ suc i = omega arith in
    record {
      kind = c.drop_at.ensures.kind ∙ c.loop-row.invariant.kind;
      rows = gone_more passes (is_among (take i line)) (λ row. same_spot s (cell_spot row)) (is_among (take (i + 1) line)) old (rows_of c.loop-row.self) (rows_of c.drop_at.new.self) (λ row. among_more line i (i + 1) s row next at) c.loop-row.invariant.rows c.drop_at.ensures.rows;
      next = next_there c.args.lane.now passes old c.len-count.ensures.spots i (rows_of c.loop-row.self) c.loop-row.invariant.rows s at c.next_spot-next.result (i + 1) refl c.next_spot-next.ensures.next;
      within = omega (arith, slice_get_within line i s at);
      steps = omega (arith, c.loop-row.invariant.steps, c.next_spot-next.ensures.step, c.drop_at.ensures.steps);
    }

pub returns-in_default : goal.returns-in_default
returns-in_default g c = record {
  kind = c.loop-row.invariant.kind;
  rows = gone_at_end c.args.lane.now (g.T.RowTest.passes c.args.test.now) (rows_of c.args.self.now) c.len-count.ensures.spots c.loop-row._row (rows_of c.loop-row.self) c.loop-row.invariant.rows (c.loop-row.invariant.next ∙ c.in_default.is);
  steps = omega (arith, c.loop-row.invariant.steps, c.loop-row.invariant.within);
}

pub returns : goal.returns
returns g c = record {
  kind = c.loop-row.invariant.kind;
  rows = gone_of_all c.args.lane.now (g.T.RowTest.passes c.args.test.now) (rows_of c.args.self.now) c.len-count.ensures.spots c.loop-row._row (rows_of c.loop-row.self) c.loop-row.invariant.rows (omega (arith, c.len-count.ensures.len));
  steps = omega (arith, c.loop-row.invariant.steps, c.loop-row.invariant.within);
}
