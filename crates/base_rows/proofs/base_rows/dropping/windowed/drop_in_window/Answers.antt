use Rattle.std.proofs.Common.{sym, ◌∙◌}
use Rattle.elem.specs.declared.elements.Elem.{Elem}
use Rattle.base_rows.proofs.DropLemmas.{kept_items}
use Rattle.base_rows.proofs.WindowDrops.{none_gone, rest_after, first_gone, fewer_in_rest, all_gone_in}
use Rattle.base_rows.proofs.base_rows.dropping.windowed.drop_in_window.Goals as goal

pub loop-k-init : goal.loop-k-init
loop-k-init g c =
    let w = c.args.window.now in
    record {
      window = c.requires.window;
      rows = none_gone g.met.C.Compare.strict (λ (row : Elem × g.row.V.Denot). g.T.RowTest.passes c.args.test.now (g.V.RowValue.row_of row.0 row.1)) w.lo w.hi c.args.rows.now
          (λ row passes. c.requires.reach row.0 row.1 passes);
    }

pub loop-k-preserved : goal.loop-k-preserved
loop-k-preserved g c =
    let rest = c.loop-k.rest in
    let first = sym c.in-Some.is ∙ c.first_in.ensures.key in
    record {
      window = rest_after g.met.C.Compare.strict rest.lo rest.hi c.in-Some.k c.loop-k.rows first;
      rows = first_gone g.met.C.Compare.strict (λ (row : Elem × g.row.V.Denot). g.T.RowTest.passes c.args.test.now (g.V.RowValue.row_of row.0 row.1)) rest.lo rest.hi c.in-Some.k c.args.rows.now c.loop-k.rows c.drop_key.new.rows
          c.len-len.ensures.order c.loop-k.invariant.rows first c.drop_key.ensures.rows;
    }

pub loop-k-smaller : goal.loop-k-smaller
loop-k-smaller g c =
    let rest = c.loop-k.rest in
    fewer_in_rest g.met.C.Compare.strict (λ (row : Elem × g.row.V.Denot). g.T.RowTest.passes c.args.test.now (g.V.RowValue.row_of row.0 row.1)) rest.lo rest.hi c.in-Some.k c.args.rows.now c.loop-k.rows c.loop-k.invariant.rows
    (sym c.in-Some.is ∙ c.first_in.ensures.key)

pub returns : goal.returns
returns g c =
    let rest = c.loop-k.rest in
    kept_items g.V.RowValue.row_of (g.T.RowTest.passes c.args.test.now) c.loop-k.rows c.args.rows.now
    (all_gone_in g.met.C.Compare.strict (λ (row : Elem × g.row.V.Denot). g.T.RowTest.passes c.args.test.now (g.V.RowValue.row_of row.0 row.1)) rest.lo rest.hi c.args.rows.now c.loop-k.rows c.loop-k.invariant.rows
    (sym c.in_default.is ∙ c.first_in.ensures.key))
