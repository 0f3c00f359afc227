use Rattle.tree_mm_base.proofs.tests.pairs_and_keys_are_walked.Given as goal

abbrev pub ghosts-walked : goal.ghosts-walked
ghosts-walked g a = record { name = a.blank.name; parts = a.blank.parts }
