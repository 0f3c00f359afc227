use Rattle.std.proofs.Common.{◌∙◌, sym, ap}
use Rattle.table_base.specs.declared.sides.Side.TheVariants.{Row}
use Rattle.table_base.specs.Cells.{Table, value_in, put_at}
use Rattle.table_base.proofs.HeldCells.{held, is_table, was_grouped, shows, absent_held, node_held, value_held}
use Rattle.table_base.proofs.Results.{never_none}
use Rattle.table_base.proofs.GroupedCells.{grouped_value}
use Rattle.table_base.proofs.HeldSteps.{written_held}
use Rattle.table_base.proofs.linked_cells.LinkedCells.put.Goals as goal

pub index-requires : goal.index-requires
index-requires g c = node_held (held c.self.invariant.indexed (ap (λ (t : Table). t.cells) c.self.view_is)) Row c.args.r c.args.c c.in-Some.place (sym c.place_of.ensures ∙ c.in-Some.is)

pub invariant_of-self : goal.invariant_of-self
invariant_of-self g c =
    let h = held c.self.invariant.indexed (ap (λ (t : Table). t.cells) c.self.view_is) in
    is_table c.self.inside.loose (written_held h c.args.r c.args.c c.in-Some.place (sym c.place_of.ensures ∙ c.in-Some.is) c.index.result.now c.index.ensures c.write_value.new.nodes c.args.v c.write_value.ensures.nodes c.write_value.ensures.len) (λ e. grouped_value c.args.r c.args.c c.args.v c.args.self.now.cells (was_grouped c.self.inside.loose (ap (λ (t : Table). t.cells) c.self.view_is) c.self.invariant.grouped e))

pub returns-in-Some-clause-before : goal.returns-in-Some-clause-before
returns-in-Some-clause-before g c =
    let h = held c.self.invariant.indexed (ap (λ (t : Table). t.cells) c.self.view_is) in
    sym (value_held h Row c.args.r c.args.c c.in-Some.place (sym c.place_of.ensures ∙ c.in-Some.is) c.index.result.now c.index.ensures)

pub returns-in-Some-clause-ok : goal.returns-in-Some-clause-ok
returns-in-Some-clause-ok g c =
    let h = held c.self.invariant.indexed (ap (λ (t : Table). t.cells) c.self.view_is) in
    let e = sym c.place_of.ensures ∙ c.in-Some.is in
    shows (written_held h c.args.r c.args.c c.in-Some.place e c.index.result.now c.index.ensures c.write_value.new.nodes c.args.v c.write_value.ensures.nodes c.write_value.ensures.len)
    ∙ sym (ap (λ o. put_at o c.args.r c.args.c c.args.v c.args.self.now) (value_held h Row c.args.r c.args.c c.in-Some.place e c.index.result.now c.index.ensures))

pub add-requires : goal.add-requires
add-requires g c = absent_held (held c.self.invariant.indexed (ap (λ (t : Table). t.cells) c.self.view_is)) Row c.args.r c.args.c (sym c.place_of.ensures ∙ c.in_default.is)

pub returns-in_err-add-clause-in_place : goal.returns-in_err-add-clause-in_place
returns-in_err-add-clause-in_place g c s =
    let none = absent_held (held c.self.invariant.indexed (ap (λ (t : Table). t.cells) c.self.view_is)) Row c.args.r c.args.c (sym c.place_of.ensures ∙ c.in_default.is) in
    absurd (never_none (value_in c.args.r c.args.c c.args.self.now.cells) s none)

pub returns-clause-before : goal.returns-clause-before
returns-clause-before g c = sym (absent_held (held c.self.invariant.indexed (ap (λ (t : Table). t.cells) c.self.view_is)) Row c.args.r c.args.c (sym c.place_of.ensures ∙ c.in_default.is))

pub returns-clause-ok : goal.returns-clause-ok
returns-clause-ok g c =
    let none = absent_held (held c.self.invariant.indexed (ap (λ (t : Table). t.cells) c.self.view_is)) Row c.args.r c.args.c (sym c.place_of.ensures ∙ c.in_default.is) in
    c.in_ok-add.ensures.ok ∙ sym (ap (λ o. put_at o c.args.r c.args.c c.args.v c.args.self.now) none)
