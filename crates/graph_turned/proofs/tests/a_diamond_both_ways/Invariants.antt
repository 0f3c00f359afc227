use Rattle.graph_turned.proofs.tests.a_diamond_both_ways.Given as goal

abbrev pub ghosts-both_ways : goal.ghosts-both_ways
ghosts-both_ways g a = record { name = a.blank.name; parts = a.blank.parts }
