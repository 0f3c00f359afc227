use Rattle.read_chain.proofs.indexes.+gap_index.Given as goal

abbrev pub decreases-gap_index : goal.decreases-gap_index
decreases-gap_index l = l.n
