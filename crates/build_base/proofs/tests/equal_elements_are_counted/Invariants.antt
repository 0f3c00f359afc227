use Rattle.build_base.proofs.tests.equal_elements_are_counted.Given as goal

abbrev pub ghosts-counts : goal.ghosts-counts
ghosts-counts g a = record { name = a.blank.name; parts = a.blank.parts }
