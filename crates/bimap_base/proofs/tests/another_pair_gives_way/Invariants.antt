use Rattle.bimap_base.proofs.tests.another_pair_gives_way.Given as goal

abbrev pub ghosts-forced : goal.ghosts-forced
ghosts-forced g a = record { name = a.blank.name; parts = a.blank.parts }
