use Rattle.network_base.proofs.tests.a_loop_is_refused.Given as goal

abbrev pub ghosts-refused : goal.ghosts-refused
ghosts-refused g a = record { name = a.blank.name; parts = a.blank.parts }
