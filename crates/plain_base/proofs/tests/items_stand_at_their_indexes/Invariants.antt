use Rattle.plain_base.proofs.tests.items_stand_at_their_indexes.Given as goal

abbrev pub ghosts-items : goal.ghosts-items
ghosts-items g a = record { name = a.blank.name; parts = a.blank.parts }
