use Rattle.bag_base.proofs.tests.elements_go_in_an_order_of_their_own.Given as goal

abbrev pub ghosts-sorted : goal.ghosts-sorted
ghosts-sorted g a = record { name = a.blank.name; parts = a.blank.parts }
