use Rattle.network_base.proofs.tests.parallel_edges_are_read.Given as goal

abbrev pub ghosts-read : goal.ghosts-read
ghosts-read g a = record { name = a.blank.name; parts = a.blank.parts }
