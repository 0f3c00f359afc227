use Rattle.cursor_seat.proofs.passing.+raise_all.Given as goal

abbrev pub decreases-raise_all : goal.decreases-raise_all
decreases-raise_all l = l.n
