use Rattle.discrete_set.proofs.tests.a_set_without_members_has_no_ends.Given as goal

abbrev pub ghosts-none : goal.ghosts-none
ghosts-none g a = record { name = a.blank.name; parts = a.blank.parts }
