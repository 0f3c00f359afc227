use Rattle.build_base.proofs.tests.entries_that_overlap_are_refused.Given as goal

abbrev pub ghosts-overlap_in_map : goal.ghosts-overlap_in_map
ghosts-overlap_in_map g a = record { name = a.blank.name; parts = a.blank.parts }
