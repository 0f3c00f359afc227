use Rattle.std.proofs.Common.{sym, ap, ◌∙◌, length}
use Rattle.std.specs.HashMap.{hash_map_len}
use Rattle.linked_base.specs.LinkedMap.{places, row_at}
use Rattle.linked_base.proofs.PlacesLemmas.{length-rows}
use Rattle.linked_base.proofs.LinkedMapLemmas.{all_there}
use Rattle.linked_base.proofs.free_linked_map.FreeLinkedMap.len.Goals as goal

pub returns-clause-len : goal.returns-clause-len
returns-clause-len g c =
    let m = c.self.inside in
    let ps = places m.nodes m.ends (hash_map_len m.index) in
    c.len.ensures.len ∙ c.self.invariant.indexed.count ∙ sym (length-rows (row_at m.nodes) ps (all_there m.nodes m.ends m.index ps c.self.invariant)) ∙ ap length c.self.view_is
