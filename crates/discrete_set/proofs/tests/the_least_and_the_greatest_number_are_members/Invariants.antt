use Rattle.discrete_set.proofs.tests.the_least_and_the_greatest_number_are_members.Given as goal

abbrev pub ghosts-many : goal.ghosts-many
ghosts-many g a = record { name = a.blank.name; parts = a.blank.parts }
