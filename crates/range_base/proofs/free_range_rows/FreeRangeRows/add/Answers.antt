use Rattle.std.proofs.Common.{◌<◌, refl, sym, ◌∙◌, arith}
use Rattle.range_base.proofs.RowsLemmas.{IsSetRows-add, IsDisjoint-apart, hull_order, add_again, put_changed}
use Rattle.range_base.proofs.CallLaws.{units_add, add_is}
use Rattle.range_base.proofs.free_range_rows.FreeRangeRows.add.Goals as goal

pub returns-then-is_row-clause-ok : goal.returns-then-is_row-clause-ok
returns-then-is_row-clause-ok c =
    let lt : c.places-lo.result.0 < c.places-lo.result.1 = omega arith in
    let row = c.is_row.ensures.0 c.if-is_row.true in
    rw (← c.places-lo.ensures.lo, ← c.places-lo.ensures.hi)
    (add_again c.places-lo.result.0 c.places-lo.result.1 tt lt c.self.inside.rows.entries c.args.self.now c.self.invariant.apart c.self.view_is
    (rw (← c.start_at-start.ensures, ← c.end_at-end.ensures) row))

pub put_rows-requires-clause-order : goal.put_rows-requires-clause-order
put_rows-requires-clause-order c =
    let lt : c.places-lo.result.0 < c.places-lo.result.1 = omega arith in
    rw (c.start_at-start.ensures, c.end_at-end.ensures) (hull_order c.places-lo.result.0 c.places-lo.result.1 lt c.self.inside.rows.entries c.self.invariant.apart)

pub put_rows-requires-clause-disjoint : goal.put_rows-requires-clause-disjoint
put_rows-requires-clause-disjoint c = IsDisjoint-apart c.self.inside.rows.entries c.self.invariant.apart

pub invariant_of-self-2 : goal.invariant_of-self-2
invariant_of-self-2 c =
    let lt : c.places-lo.result.0 < c.places-lo.result.1 = omega arith in
    IsSetRows-add c.places-lo.result.0 c.places-lo.result.1 tt lt c.places-lo.ensures.lo_place c.places-lo.ensures.hi_place c.self.inside.rows.entries c.put_rows.new.rows.entries c.self.invariant
    (rw (← c.start_at-start.ensures, ← c.end_at-end.ensures) c.in_ok-put_rows.ensures.ok)

pub returns-clause-changed : goal.returns-clause-changed
returns-clause-changed c =
    let lt : c.places-lo.result.0 < c.places-lo.result.1 = omega arith in
    let order : c.start_at-start.result < c.end_at-end.result = rw (c.start_at-start.ensures, c.end_at-end.ensures) (hull_order c.places-lo.result.0 c.places-lo.result.1 lt c.self.inside.rows.entries c.self.invariant.apart) in
    put_changed c.start_at-start.result c.end_at-end.result tt order c.self.inside.rows.entries c.args.self.now c.put_rows.new.rows.entries c.is_row.result c.if-is_row.false c.is_row.ensures c.self.view_is c.in_ok-put_rows.ensures.ok

pub returns-then-is_row-clause-units : goal.returns-then-is_row-clause-units
returns-then-is_row-clause-units c =
    let lt : c.places-lo.result.0 < c.places-lo.result.1 = omega arith in
    let row = c.is_row.ensures.0 c.if-is_row.true in
    units_add (λ x y. refl) c.places-lo.result.0 c.places-lo.result.1 _ _ tt c.self.inside.rows.entries c.args.self.now c.args.self.now c.places-lo.ensures.lo c.places-lo.ensures.hi c.self.invariant.apart c.self.view_is
    (sym c.self.view_is ∙ add_again c.places-lo.result.0 c.places-lo.result.1 tt lt c.self.inside.rows.entries c.self.inside.rows.entries c.self.invariant.apart refl (rw (← c.start_at-start.ensures, ← c.end_at-end.ensures) row))

pub returns-clause-units : goal.returns-clause-units
returns-clause-units c =
    let lt : c.places-lo.result.0 < c.places-lo.result.1 = omega arith in
    units_add (λ x y. refl) c.places-lo.result.0 c.places-lo.result.1 _ _ tt c.self.inside.rows.entries c.args.self.now _ c.places-lo.ensures.lo c.places-lo.ensures.hi c.self.invariant.apart c.self.view_is
    (add_is c.places-lo.result.0 c.places-lo.result.1 _ _ tt c.self.inside.rows.entries _ lt c.start_at-start.ensures c.end_at-end.ensures c.in_ok-put_rows.ensures.ok)
