use Rattle.bag_base.proofs.tests.new_elements_go_last.Given as goal

abbrev pub ghosts-linked : goal.ghosts-linked
ghosts-linked g a = record { name = a.blank.name; parts = a.blank.parts }
