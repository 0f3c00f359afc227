use Rattle.mm_base.proofs.tests.groups_stand_together.Given as goal

abbrev pub ghosts-grouped : goal.ghosts-grouped
ghosts-grouped g a = record { name = a.blank.name; parts = a.blank.parts }
