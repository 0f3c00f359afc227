use Rattle.range_views.proofs.tests.a_view_reads_and_writes_its_range_set.Given as goal

abbrev pub ghosts-through : goal.ghosts-through
ghosts-through g a = record { name = a.blank.name; parts = a.blank.parts }
