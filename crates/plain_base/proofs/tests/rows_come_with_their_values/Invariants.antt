use Rattle.plain_base.proofs.tests.rows_come_with_their_values.Given as goal

abbrev pub ghosts-rows_turned_round : goal.ghosts-rows_turned_round
ghosts-rows_turned_round g a = record { name = a.blank.name; parts = a.blank.parts }
