use Rattle.range_base.proofs.tests.a_put_cuts_the_overlap_away.Given as goal

abbrev pub ghosts-valued : goal.ghosts-valued
ghosts-valued g a = record { name = a.blank.name; parts = a.blank.parts }
