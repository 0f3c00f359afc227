use Rattle.bimap_base.proofs.tests.pairs_come_with_their_values.Given as goal

abbrev pub ghosts-walked : goal.ghosts-walked
ghosts-walked g a = record { name = a.blank.name; parts = a.blank.parts }
