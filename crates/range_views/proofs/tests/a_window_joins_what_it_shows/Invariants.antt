use Rattle.range_views.proofs.tests.a_window_joins_what_it_shows.Given as goal

abbrev pub ghosts-joined : goal.ghosts-joined
ghosts-joined g a = record { name = a.blank.name; parts = a.blank.parts }
