use Rattle.discrete_set.proofs.tests.ranges_that_meet_at_no_number_are_one_run.Given as goal

abbrev pub ghosts-few : goal.ghosts-few
ghosts-few g a = record { name = a.blank.name; parts = a.blank.parts }
