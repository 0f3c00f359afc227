use Rattle.network_base.proofs.tests.a_set_is_refused_once_its_node_is_gone.Given as goal

abbrev pub ghosts-kept : goal.ghosts-kept
ghosts-kept g a = record { name = a.blank.name; parts = a.blank.parts }
