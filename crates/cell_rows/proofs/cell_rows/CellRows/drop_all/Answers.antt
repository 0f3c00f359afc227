use Rattle.std.proofs.Common.{◌∙◌, subst}
use Rattle.view_laws.specs.Lanes.{takes}
use Rattle.cell_rows.specs.declared.reach.Reach.{Reach}
use Rattle.cell_rows.specs.CellRows.{kind_of, rows_of}
use Rattle.cell_rows.specs.Reaches.{Reaches}
use Rattle.cell_rows.proofs.DropLemmas.{all_gone, none_stay}
use Rattle.cell_rows.proofs.LineDrops.{reach_covers}
use Rattle.cell_rows.proofs.cell_rows.CellRows.drop_all.Goals as goal

pub returns-in-Whole-clause-rows : goal.returns-in-Whole-clause-rows
returns-in-Whole-clause-rows g c =
    let passes = g.T.RowTest.passes c.args.test.now in
    c.clear.ensures.rows ∙ none_stay passes (rows_of c.args.self.now) (subst (λ (reach : Reach). Reaches (kind_of c.args.self.now) reach passes) c.in-Whole.is c.requires)

pub drop_along-requires : goal.drop_along-requires
drop_along-requires g c = (subst (λ (reach : Reach). Reaches (kind_of c.args.self.now) reach (g.T.RowTest.passes c.args.test.now)) c.in-Along.is c.requires).0

pub returns-in-Along-clause-rows : goal.returns-in-Along-clause-rows
returns-in-Along-clause-rows g c =
    let passes = g.T.RowTest.passes c.args.test.now in
    let own = subst (λ (reach : Reach). Reaches (kind_of c.args.self.now) reach passes) c.in-Along.is c.requires in
    all_gone passes (takes c.in-Along.lane.now) (rows_of c.args.self.now) (rows_of c.drop_along.new.self) (reach_covers c.args.self.now passes (takes c.in-Along.lane.now) own.1) c.drop_along.ensures.rows

pub drop_lines-requires : goal.drop_lines-requires
drop_lines-requires g c = subst (λ (reach : Reach). Reaches (kind_of c.args.self.now) reach (g.T.RowTest.passes c.args.test.now)) c.in-At.is c.requires
