use Rattle.graph_walk.proofs.tests.a_line_is_joined.Given as goal

abbrev pub ghosts-joined_line : goal.ghosts-joined_line
ghosts-joined_line g a = record { name = a.blank.name; parts = a.blank.parts }
