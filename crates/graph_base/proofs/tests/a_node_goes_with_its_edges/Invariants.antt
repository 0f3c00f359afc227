use Rattle.graph_base.proofs.tests.a_node_goes_with_its_edges.Given as goal

abbrev pub ghosts-fewer : goal.ghosts-fewer
ghosts-fewer g a = record { name = a.blank.name; parts = a.blank.parts }
