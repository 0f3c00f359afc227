use Rattle.linked_base.proofs.HeldRows.{held, still_holds, shows, place_held, node_held, value_held, replaced_held}
use Rattle.linked_base.proofs.free_linked_map.FreeLinkedMap.replace.Goals as goal

pub index-place-requires : goal.index-place-requires
index-place-requires g c = place_held (held c.self.invariant c.self.view_is) c.args.k c.requires

pub index-requires : goal.index-requires
index-requires g c = node_held (held c.self.invariant c.self.view_is) c.args.k c.index-place.result.now c.index-place.ensures

pub invariant_of-self : goal.invariant_of-self
invariant_of-self g c = still_holds (replaced_held c.self.inside.nodes c.write_row.new.nodes c.self.inside.ends c.self.inside.index c.args.k c.args.v c.index-place.result.now (held c.self.invariant c.self.view_is) c.index-place.ensures c.write_row.ensures)

pub returns-clause-value : goal.returns-clause-value
returns-clause-value g c = value_held (held c.self.invariant c.self.view_is) c.args.k c.index-place.result.now c.index.result.now c.index-place.ensures c.index.ensures

pub returns-clause-rows : goal.returns-clause-rows
returns-clause-rows g c = shows (replaced_held c.self.inside.nodes c.write_row.new.nodes c.self.inside.ends c.self.inside.index c.args.k c.args.v c.index-place.result.now (held c.self.invariant c.self.view_is) c.index-place.ensures c.write_row.ensures)
