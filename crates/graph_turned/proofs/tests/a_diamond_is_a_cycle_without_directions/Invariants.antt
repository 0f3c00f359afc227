use Rattle.graph_turned.proofs.tests.a_diamond_is_a_cycle_without_directions.Given as goal

abbrev pub ghosts-cycles : goal.ghosts-cycles
ghosts-cycles g a = record { name = a.blank.name; parts = a.blank.parts }
