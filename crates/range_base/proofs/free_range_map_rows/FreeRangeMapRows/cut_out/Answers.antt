use Rattle.std.proofs.Common.{rules, ◌≡◌, ◌<◌, false, sym, ◌∙◌, arith}
use Rattle.range_base.proofs.RowsLemmas.{IsMapRows-without_units}
use Rattle.range_base.proofs.CallLaws.{units_stay, units_cut}
use Rattle.range_base.proofs.free_range_map_rows.FreeRangeMapRows.cut_out.Goals as goal
use Rattle.range_base.proofs.free_range_map_rows.FreeRangeMapRows.cut_out.Goals.{then-lo-hi-via-then-lo-hi, then-lo-hi-via-else-lo-hi+then-not-overlaps}

pub invariant_of-self-2 : goal.invariant_of-self-2
invariant_of-self-2 c =
    let lt : c.places-lo.result.0 < c.places-lo.result.1 = omega arith in
    IsMapRows-without_units c.places-lo.result.0 c.places-lo.result.1 lt c.places-lo.ensures.lo_place c.places-lo.ensures.hi_place c.self.inside.rows.entries c.cut_rows.new.rows.entries c.self.invariant c.in_ok-cut_rows.ensures.ok

pub returns-then-lo-hi-clause-units : goal.returns-then-lo-hi-clause-units
returns-then-lo-hi-clause-units c = elim c.then-lo-hi.branch [
  | then-lo-hi-via-then-lo-hi w ↦ units_stay c.places-lo.result.0 c.places-lo.result.1 _ _ _ c.args.self.now c.places-lo.ensures.lo c.places-lo.ensures.hi (omega arith)
  | then-lo-hi-via-else-lo-hi+then-not-overlaps w ↦
      let lt : c.places-lo.result.0 < c.places-lo.result.1 = omega arith in
      let none : w.overlaps.result ≡ false = search rules in
      units_cut c.places-lo.result.0 c.places-lo.result.1 _ _ c.self.inside.rows.entries c.args.self.now c.args.self.now c.places-lo.ensures.lo c.places-lo.ensures.hi lt c.self.view_is (sym c.self.view_is ∙ sym (w.overlaps.ensures.0 none))
]

pub returns-clause-units : goal.returns-clause-units
returns-clause-units c =
    let lt : c.places-lo.result.0 < c.places-lo.result.1 = omega arith in
    units_cut c.places-lo.result.0 c.places-lo.result.1 _ _ c.self.inside.rows.entries c.args.self.now _ c.places-lo.ensures.lo c.places-lo.ensures.hi lt c.self.view_is c.in_ok-cut_rows.ensures.ok
