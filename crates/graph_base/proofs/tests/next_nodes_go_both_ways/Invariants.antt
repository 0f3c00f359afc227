use Rattle.graph_base.proofs.tests.next_nodes_go_both_ways.Given as goal

abbrev pub ghosts-turned : goal.ghosts-turned
ghosts-turned g a = record { name = a.blank.name; parts = a.blank.parts }
