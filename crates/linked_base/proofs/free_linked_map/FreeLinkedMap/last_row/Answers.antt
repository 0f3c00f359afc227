use Rattle.std.proofs.Common.{sym, ap, ◌∙◌, None}
use Rattle.std.specs.Option.{option_map}
use Rattle.std.specs.HashMap.{hash_map_len}
use Rattle.elem.specs.Rows.{last_key}
use Rattle.linked_base.specs.LinkedMap.{places, key_of}
use Rattle.linked_base.proofs.HeldRows.{held}
use Rattle.linked_base.proofs.LinkedMapLemmas.{all_there, last_there, last_key_of}
use Rattle.linked_base.proofs.WholeRows.{key_of_row, value_of_row, last_in}
use Rattle.linked_base.proofs.free_linked_map.FreeLinkedMap.last_row.Goals as goal

pub row_at_place-requires : goal.row_at_place-requires
row_at_place-requires g c p e =
    let m = c.self.inside in
    let ps = places m.nodes m.ends (hash_map_len m.index) in
    last_there m.nodes None ps p (λ f. cc) (all_there m.nodes m.ends m.index ps c.self.invariant) (sym c.self.invariant.thread.last ∙ e)

pub returns-clause-key : goal.returns-clause-key
returns-clause-key g c =
    let m = c.self.inside in
    let ps = places m.nodes m.ends (hash_map_len m.index) in
    ap (option_map (λ row. row.0)) c.row_at_place.ensures ∙ key_of_row m.nodes m.ends.last ∙ ap (key_of m.nodes) c.self.invariant.thread.last ∙ last_key_of m.nodes None ps (all_there m.nodes m.ends m.index ps c.self.invariant) ∙ ap last_key c.self.view_is

pub returns-clause-value : goal.returns-clause-value
returns-clause-value g c =
    let h = held c.self.invariant c.self.view_is in
    value_of_row h c.self.inside.ends.last c.row_at_place.result c.row_at_place.ensures (last_in h)
