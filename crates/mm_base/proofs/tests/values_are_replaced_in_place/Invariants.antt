use Rattle.mm_base.proofs.tests.values_are_replaced_in_place.Given as goal

abbrev pub ghosts-flat : goal.ghosts-flat
ghosts-flat g a = record { name = a.blank.name; parts = a.blank.parts }
