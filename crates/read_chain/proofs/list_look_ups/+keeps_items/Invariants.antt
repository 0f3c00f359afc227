use Rattle.read_chain.proofs.list_look_ups.+keeps_items.Given as goal

abbrev pub decreases-keeps_items : goal.decreases-keeps_items
decreases-keeps_items l = l.n
