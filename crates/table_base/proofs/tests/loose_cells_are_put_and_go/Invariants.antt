use Rattle.table_base.proofs.tests.loose_cells_are_put_and_go.Given as goal

abbrev pub ghosts-loose : goal.ghosts-loose
ghosts-loose g a = record { name = a.blank.name; parts = a.blank.parts }
