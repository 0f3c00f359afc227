use Rattle.graph_base.proofs.tests.a_loop_is_refused.Given as goal

abbrev pub ghosts-asked : goal.ghosts-asked
ghosts-asked g a = record { name = a.blank.name; parts = a.blank.parts }
