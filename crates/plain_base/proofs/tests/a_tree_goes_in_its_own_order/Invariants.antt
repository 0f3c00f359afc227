use Rattle.plain_base.proofs.tests.a_tree_goes_in_its_own_order.Given as goal

abbrev pub ghosts-turned_round : goal.ghosts-turned_round
ghosts-turned_round g a = record { name = a.blank.name; parts = a.blank.parts }
