use Rattle.table_base.proofs.tree_cells_tests.sorted_cells_are_put_and_go.Given as goal

abbrev pub ghosts-told : goal.ghosts-told
ghosts-told g a = record { name = a.blank.name; parts = a.blank.parts }
