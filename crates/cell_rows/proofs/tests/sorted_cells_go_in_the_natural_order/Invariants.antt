use Rattle.cell_rows.proofs.tests.sorted_cells_go_in_the_natural_order.Given as goal

abbrev pub ghosts-told : goal.ghosts-told
ghosts-told g a = record { name = a.blank.name; parts = a.blank.parts }
