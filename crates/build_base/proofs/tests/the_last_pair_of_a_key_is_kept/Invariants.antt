use Rattle.build_base.proofs.tests.the_last_pair_of_a_key_is_kept.Given as goal

abbrev pub ghosts-last_pairs : goal.ghosts-last_pairs
ghosts-last_pairs g a = record { name = a.blank.name; parts = a.blank.parts }
