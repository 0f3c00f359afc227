use Rattle.read_chain.proofs.indexes.+item_index.Given as goal

abbrev pub decreases-item_index : goal.decreases-item_index
decreases-item_index l = l.n
