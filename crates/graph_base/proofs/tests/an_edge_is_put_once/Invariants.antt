use Rattle.graph_base.proofs.tests.an_edge_is_put_once.Given as goal

abbrev pub ghosts-undirected : goal.ghosts-undirected
ghosts-undirected g a = record { name = a.blank.name; parts = a.blank.parts }
