use Rattle.cell_rows.proofs.tests.linked_cells_go_in_the_order_of_their_rows.Given as goal

abbrev pub ghosts-told : goal.ghosts-told
ghosts-told g a = record { name = a.blank.name; parts = a.blank.parts }
