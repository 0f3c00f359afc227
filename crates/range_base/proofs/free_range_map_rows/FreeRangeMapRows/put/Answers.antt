use Rattle.std.proofs.Common.{◌<◌, refl, sym, ◌∙◌, arith}
use Rattle.range_base.proofs.RowsLemmas.{IsMapRows-put, put_again, put_changed}
use Rattle.range_base.proofs.CallLaws.{units_put}
use Rattle.range_base.proofs.free_range_map_rows.FreeRangeMapRows.put.Goals as goal

pub returns-then-is_row-clause-ok : goal.returns-then-is_row-clause-ok
returns-then-is_row-clause-ok c =
    let lt : c.places-lo.result.0 < c.places-lo.result.1 = omega arith in
    rw (← c.places-lo.ensures.lo, ← c.places-lo.ensures.hi)
    (put_again c.places-lo.result.0 c.places-lo.result.1 c.args.v lt c.self.inside.rows.entries c.args.self.now c.self.invariant.disjoint c.self.view_is (c.is_row.ensures.0 c.if-is_row.true))

pub invariant_of-self-2 : goal.invariant_of-self-2
invariant_of-self-2 c =
    let lt : c.places-lo.result.0 < c.places-lo.result.1 = omega arith in
    IsMapRows-put c.places-lo.result.0 c.places-lo.result.1 c.args.v lt c.places-lo.ensures.lo_place c.places-lo.ensures.hi_place c.self.inside.rows.entries c.put_rows.new.rows.entries c.self.invariant c.in_ok-put_rows.ensures.ok

pub returns-clause-changed : goal.returns-clause-changed
returns-clause-changed c =
    let lt : c.places-lo.result.0 < c.places-lo.result.1 = omega arith in
    put_changed c.places-lo.result.0 c.places-lo.result.1 c.args.v lt c.self.inside.rows.entries c.args.self.now c.put_rows.new.rows.entries c.is_row.result c.if-is_row.false c.is_row.ensures c.self.view_is c.in_ok-put_rows.ensures.ok

pub returns-then-is_row-clause-units : goal.returns-then-is_row-clause-units
returns-then-is_row-clause-units c =
    let lt : c.places-lo.result.0 < c.places-lo.result.1 = omega arith in
    units_put c.places-lo.result.0 c.places-lo.result.1 _ _ c.args.v c.self.inside.rows.entries c.args.self.now c.args.self.now c.places-lo.ensures.lo c.places-lo.ensures.hi c.self.invariant.disjoint c.self.view_is
    (sym c.self.view_is ∙ put_again c.places-lo.result.0 c.places-lo.result.1 c.args.v lt c.self.inside.rows.entries c.self.inside.rows.entries c.self.invariant.disjoint refl (c.is_row.ensures.0 c.if-is_row.true))

pub returns-clause-units : goal.returns-clause-units
returns-clause-units c =
    units_put c.places-lo.result.0 c.places-lo.result.1 _ _ c.args.v c.self.inside.rows.entries c.args.self.now _ c.places-lo.ensures.lo c.places-lo.ensures.hi c.self.invariant.disjoint c.self.view_is c.in_ok-put_rows.ensures.ok
