use Rattle.bimap_base.proofs.tests.a_pair_keeps_its_place.Given as goal

abbrev pub ghosts-bound : goal.ghosts-bound
ghosts-bound g a = record { name = a.blank.name; parts = a.blank.parts }
