use Rattle.mm_base.proofs.tests.a_key_that_comes_back_goes_last.Given as goal

abbrev pub ghosts-linked : goal.ghosts-linked
ghosts-linked g a = record { name = a.blank.name; parts = a.blank.parts }
