use Rattle.table_base.proofs.tree_cells_tests.sorted_cells_come_with_their_values.Given as goal

abbrev pub ghosts-whole : goal.ghosts-whole
ghosts-whole g a = record { name = a.blank.name; parts = a.blank.parts }
