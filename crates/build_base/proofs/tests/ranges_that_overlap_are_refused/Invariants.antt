use Rattle.build_base.proofs.tests.ranges_that_overlap_are_refused.Given as goal

abbrev pub ghosts-overlap_in_set : goal.ghosts-overlap_in_set
ghosts-overlap_in_set g a = record { name = a.blank.name; parts = a.blank.parts }
