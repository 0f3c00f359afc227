use Rattle.tree_mm_base.proofs.tests.pairs_go_by_key_and_value.Given as goal

abbrev pub ghosts-told : goal.ghosts-told
ghosts-told g a = record { name = a.blank.name; parts = a.blank.parts }
