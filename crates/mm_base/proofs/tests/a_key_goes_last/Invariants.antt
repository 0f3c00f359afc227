use Rattle.mm_base.proofs.tests.a_key_goes_last.Given as goal

abbrev pub ghosts-moved : goal.ghosts-moved
ghosts-moved g a = record { name = a.blank.name; parts = a.blank.parts }
