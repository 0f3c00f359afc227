use Rattle.graph_walk.proofs.tests.a_diamond_in_three_orders.Given as goal

abbrev pub ghosts-from_one : goal.ghosts-from_one
ghosts-from_one g a = record { name = a.blank.name; parts = a.blank.parts }
