use Rattle.graph_walk.proofs.tests.a_line_both_ways.Given as goal

abbrev pub ghosts-along_line : goal.ghosts-along_line
ghosts-along_line g a = record { name = a.blank.name; parts = a.blank.parts }
