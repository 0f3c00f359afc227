use Rattle.std.proofs.Common.{◌≡◌, false, sym, ap, ◌∙◌, subst}
use Rattle.std.specs.Prelude.{is_some}
use Rattle.elem.specs.Keyed.{value_at}
use Rattle.plain_base.specs.TwoKeys.{has_both}
use Rattle.plain_base.proofs.SortedCuts.{none_of}
use Rattle.table_base.specs.Cells.{value_in}
use Rattle.table_base.specs.TreeCells.{AreTurned}
use Rattle.plain_base.proofs.Results.{on_err_of, on_ok_of}
use Rattle.table_base.proofs.TurnedCells.{row_of, with_is, never_there, turned_put, turned_with, turned_back}
use Rattle.table_base.proofs.tree_cells.TreeCells.put.Goals as goal

pub invariant_of-self : goal.invariant_of-self
invariant_of-self g c = subst (λ cells. AreTurned cells c.self.inside.columns) (sym c.replace-before.ensures.rows) (turned_with c.self.inside.rows c.self.inside.columns c.args.r c.args.c c.args.v c.self.invariant)

pub returns-then-is_some-clause-before : goal.returns-then-is_some-clause-before
returns-then-is_some-clause-before g c = sym c.replace-before.ensures.value ∙ ap (λ l. value_at l c.args.c) (row_of c.self.inside.rows c.args.self.now c.args.r c.self.view_is)

pub returns-then-is_some-clause-ok : goal.returns-then-is_some-clause-ok
returns-then-is_some-clause-ok g c = c.replace-before.ensures.rows ∙ with_is c.args.r c.args.c c.args.v c.self.inside.rows c.args.self.now c.self.view_is

pub returns-in_err-insert-clause-in_place : goal.returns-in_err-insert-clause-in_place
returns-in_err-insert-clause-in_place g c =
    let found = c.get.ensures ∙ ap (λ l. value_at l c.args.c) (row_of c.self.inside.rows c.args.self.now c.args.r c.self.view_is) in
    let no = ap is_some (sym found) ∙ sym c.is_some.ensures ∙ c.if-is_some.false in
    λ p. never_there (value_in c.args.r c.args.c c.args.self.now) no p

pub invariant_of-self-then-is_err : goal.invariant_of-self-then-is_err
invariant_of-self-then-is_err g c =
    let rows = c.self.inside.rows in
    let columns = c.self.inside.columns in
    let r = c.args.r in
    let x = c.args.c in
    let none : has_both r x rows ≡ false = ap is_some (sym c.get.ensures) ∙ sym c.is_some.ensures ∙ c.if-is_some.false in
    let kept = on_err_of c.insert-2.result (sym c.is_err.ensures.value ∙ c.if-is_err.true) c.insert-2.ensures.err in
    subst (λ cells. AreTurned cells c.remove.new.self) (sym kept)
    (subst (AreTurned rows) (sym c.remove.ensures.rows) (turned_back rows columns c.insert.new.self r x c.self.invariant c.in_ok-insert.ensures.ok none))

pub returns-then-is_err-clause-in_place : goal.returns-then-is_err-clause-in_place
returns-then-is_err-clause-in_place g c =
    let found = c.get.ensures ∙ ap (λ l. value_at l c.args.c) (row_of c.self.inside.rows c.args.self.now c.args.r c.self.view_is) in
    let no = ap is_some (sym found) ∙ sym c.is_some.ensures ∙ c.if-is_some.false in
    λ p. never_there (value_in c.args.r c.args.c c.args.self.now) no p

pub invariant_of-self-else-is_err : goal.invariant_of-self-else-is_err
invariant_of-self-else-is_err g c =
    let rows = c.self.inside.rows in
    let columns = c.self.inside.columns in
    let r = c.args.r in
    let x = c.args.c in
    let put = on_ok_of c.insert-2.result (sym c.is_err.ensures.value ∙ c.if-is_err.false) c.insert-2.ensures.ok in
    turned_put rows c.insert-2.new.self columns c.insert.new.self r x c.args.v c.self.invariant put c.in_ok-insert.ensures.ok

pub returns-clause-before : goal.returns-clause-before
returns-clause-before g c =
    let found = c.get.ensures ∙ ap (λ l. value_at l c.args.c) (row_of c.self.inside.rows c.args.self.now c.args.r c.self.view_is) in
    let no = ap is_some (sym found) ∙ sym c.is_some.ensures ∙ c.if-is_some.false in
    sym (none_of (value_in c.args.r c.args.c c.args.self.now) no)
