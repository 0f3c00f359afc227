use Rattle.linked_base.proofs.tests.rows_keep_their_places.Given as goal

abbrev pub ghosts-changed : goal.ghosts-changed
ghosts-changed g a = record { name = a.blank.name; parts = a.blank.parts }
