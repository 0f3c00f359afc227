use Rattle.network_base.proofs.tests.parallel_edges_are_put_once.Given as goal

abbrev pub ghosts-put_twice : goal.ghosts-put_twice
ghosts-put_twice g a = record { name = a.blank.name; parts = a.blank.parts }
