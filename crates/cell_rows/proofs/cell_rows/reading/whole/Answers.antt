use Rattle.std.proofs.Common.{Option, subst}
use Rattle.elem.specs.declared.elements.Elem.{Elem}
use Rattle.vocabulary.specs.declared.items.Side.{Side}
use Rattle.vocabulary.specs.declared.items.Side.TheVariants.{Second}
use Rattle.cell_rows.specs.Threads.{along, IsOneOf}
use Rattle.cell_rows.proofs.ThreadCells.{column_value}
use Rattle.cell_rows.proofs.cell_rows.reading.whole.Goals as goal

pub returns-in-Second-Some-clause-cell : goal.returns-in-Second-Some-clause-cell
returns-in-Second-Some-clause-cell c = λ cells one.
    column_value cells c.in-Second-Some.r c.args.k.now c.in-Second-Some.v
    (subst (λ (entry : Option (Elem × Elem)). IsOneOf (along Second c.args.k.now cells) entry) c.in-Second-Some.is-1 (subst (λ (side : Side). IsOneOf (along side c.args.k.now cells) c.args.entry) c.in-Second-Some.is-0 one))
