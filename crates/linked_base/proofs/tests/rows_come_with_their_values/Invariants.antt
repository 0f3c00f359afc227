use Rattle.linked_base.proofs.tests.rows_come_with_their_values.Given as goal

abbrev pub ghosts-whole_rows : goal.ghosts-whole_rows
ghosts-whole_rows g a = record { name = a.blank.name; parts = a.blank.parts }
