use Rattle.bimap_base.proofs.tests.pairs_go_from_either_side.Given as goal

abbrev pub ghosts-fewer : goal.ghosts-fewer
ghosts-fewer g a = record { name = a.blank.name; parts = a.blank.parts }
