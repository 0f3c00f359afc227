use Rattle.range_base.proofs.tests.ranges_that_touch_are_one_row.Given as goal

abbrev pub ghosts-ranges : goal.ghosts-ranges
ghosts-ranges g a = record { name = a.blank.name; parts = a.blank.parts }
