use Rattle.graph_walk.proofs.tests.a_ring_is_a_cycle.Given as goal

abbrev pub ghosts-cycles : goal.ghosts-cycles
ghosts-cycles g a = record { name = a.blank.name; parts = a.blank.parts }
