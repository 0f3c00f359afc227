use Rattle.read_chain.proofs.reads.+shows_all.Given as goal

abbrev pub decreases-shows_all : goal.decreases-shows_all
decreases-shows_all l = l.n
