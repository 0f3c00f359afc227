use Rattle.range_base.proofs.tests.a_number_cut_out_parts_a_row.Given as goal

abbrev pub ghosts-complemented : goal.ghosts-complemented
ghosts-complemented g a = record { name = a.blank.name; parts = a.blank.parts }
