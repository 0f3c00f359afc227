use Rattle.mm_base.proofs.tests.pairs_and_keys_go.Given as goal

abbrev pub ghosts-fewer : goal.ghosts-fewer
ghosts-fewer g a = record { name = a.blank.name; parts = a.blank.parts }
