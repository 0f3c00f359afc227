use Rattle.std.proofs.Common.{◌≡◌, ◌+◌, suc, refl, sym, ap, ◌∙◌, subst, arith}
use Rattle.std.specs.Map.{keys_of}
use Rattle.view_laws.specs.declared.lanes.Lane.{Lane}
use Rattle.view_laws.specs.Lanes.{takes}
use Rattle.cell_rows.specs.CellRows.{kind_of, rows_of}
use Rattle.cell_rows.specs.Reaches.{but}
use Rattle.cell_rows.specs.Serving.{ServesCells}
use Rattle.cell_rows.proofs.DropLemmas.{none_gone}
use Rattle.cell_rows.proofs.KeyLemmas.{after_at, first_at, present_at}
use Rattle.cell_rows.proofs.LineDrops.{line_gone, lines_at_end, lines_of_all, serves_line}
use Rattle.cell_rows.proofs.cell_rows.CellRows.drop_lines.Goals as goal

pub loop-part-init : goal.loop-part-init
loop-part-init g c = record { kind = refl; rows = none_gone (g.T.RowTest.passes c.args.test.now) (rows_of c.args.self.now); next = c.first-at.ensures ∙ sym (first_at c.args.parts.now) }

pub drop_along-requires : goal.drop_along-requires
drop_along-requires g c = subst (λ (lane : Lane). ServesCells (kind_of c.loop-part.self) lane) (sym c.lane_of-lane.ensures) (serves_line (kind_of c.loop-part.self) c.args.side c.in-Some.k)

pub after-at-requires : goal.after-at-requires
after-at-requires g c = present_at c.args.parts.now c.loop-part._part c.in-Some.k (sym c.loop-part.invariant.next ∙ c.in-Some.is)

pub loop-part-preserved : goal.loop-part-preserved
loop-part-preserved g c =
    let passes = g.T.RowTest.passes c.args.test.now in
    let parts = c.args.parts.now in
    let i = c.loop-part._part in
    let k = c.in-Some.k in
    let at = sym c.loop-part.invariant.next ∙ c.in-Some.is in
    let next : i + 1 ≡ suc i = omega arith in
    record {
      kind = c.drop_along.ensures.kind ∙ c.loop-part.invariant.kind;
      rows = line_gone passes c.args.side (keys_of parts) i (i + 1) k (rows_of c.args.self.now) (rows_of c.loop-part.self) (rows_of c.drop_along.new.self) next at c.loop-part.invariant.rows
          (c.drop_along.ensures.rows ∙ ap (λ (lane : Lane). but passes (takes lane) (rows_of c.loop-part.self)) c.lane_of-lane.ensures);
      next = c.after-at.ensures ∙ sym (after_at parts k i c.len-count.ensures.distinct at);
    }

pub returns-in_default-clause-rows : goal.returns-in_default-clause-rows
returns-in_default-clause-rows g c =
    lines_at_end c.args.self.now (g.T.RowTest.passes c.args.test.now) c.args.side c.args.parts.now c.requires c.loop-part._part (rows_of c.loop-part.self) c.loop-part.invariant.rows (sym c.loop-part.invariant.next ∙ c.in_default.is)

pub returns-clause-rows : goal.returns-clause-rows
returns-clause-rows g c =
    lines_of_all c.args.self.now (g.T.RowTest.passes c.args.test.now) c.args.side c.args.parts.now c.requires c.loop-part._part (rows_of c.loop-part.self) c.loop-part.invariant.rows (omega (arith, c.len-count.ensures.len))
