use Rattle.std.proofs.Common.{◌∙◌, subst}
use Rattle.base_rows.specs.declared.reach.Reach.{Reach}
use Rattle.base_rows.specs.BaseRows.{kind_of, rows_of}
use Rattle.base_rows.specs.Reaches.{Reaches}
use Rattle.base_rows.proofs.KeyDrops.{none_stay}
use Rattle.base_rows.proofs.base_rows.BaseRows.drop_all.Goals as goal

pub returns-in-Whole-clause-rows : goal.returns-in-Whole-clause-rows
returns-in-Whole-clause-rows g c =
    c.clear.ensures.rows
    ∙ none_stay (g.T.RowTest.passes c.args.test.now) (rows_of c.args.self.now) (subst (λ (reach : Reach). Reaches (kind_of c.args.self.now) reach (g.T.RowTest.passes c.args.test.now)) c.in-Whole.is c.requires)
