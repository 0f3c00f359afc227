use Rattle.table_base.proofs.tree_cells_tests.sorted_entries_come_with_their_values.Given as goal

abbrev pub ghosts-entries : goal.ghosts-entries
ghosts-entries g a = record { name = a.blank.name; parts = a.blank.parts }
