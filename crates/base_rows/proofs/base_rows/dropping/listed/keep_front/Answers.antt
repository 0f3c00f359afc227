use Rattle.std.proofs.Common.{◌<◌, ◌≤◌, length, sym, ◌∙◌, arith}
use Rattle.std.proofs.lemmas.List.Filters.{FiltersInPlace-more_no, FiltersInPlace-more_set}
use Rattle.base_rows.proofs.ListRowLemmas.{read_at, past_end}
use Rattle.base_rows.proofs.base_rows.dropping.listed.keep_front.Goals as goal
use Rattle.base_rows.proofs.base_rows.dropping.listed.keep_front.Goals.{in-Some+then-stays, in-Some+else-stays, in_default}

pub loop-i-preserved : goal.loop-i-preserved
loop-i-preserved g c =
    let within : c.loop-i.i < length c.loop-i.rows = omega (arith, c.loop-i.invariant.long, c.len-size.ensures) in
    elim c.match-at.branch [
      | in-Some+then-stays w ↦ rw (w.rows-is, w.set_at.ensures.items, w.kept-is) (FiltersInPlace-more_set c.loop-i.invariant within (sym w.stays.ensures ∙ w.if-stays.true) (read_at c.loop-i.rows c.loop-i.i w.in-Some.x (sym c.at.ensures.item ∙ w.in-Some.is)))
      | in-Some+else-stays w ↦ rw (w.rows-is, w.kept-is) (FiltersInPlace-more_no c.loop-i.invariant within (sym w.stays.ensures ∙ w.if-stays.false) (read_at c.loop-i.rows c.loop-i.i w.in-Some.x (sym c.at.ensures.item ∙ w.in-Some.is)))
      | in_default w ↦ let past : length c.loop-i.rows ≤ c.loop-i.i = past_end c.loop-i.rows c.loop-i.i (sym c.at.ensures.item ∙ w.in_default.is) in absurd (omega arith)
    ]
