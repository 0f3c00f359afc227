use Rattle.linked_base.proofs.tests.ends_and_numbers.Given as goal

abbrev pub ghosts-ends : goal.ghosts-ends
ghosts-ends g a = record { name = a.blank.name; parts = a.blank.parts }
