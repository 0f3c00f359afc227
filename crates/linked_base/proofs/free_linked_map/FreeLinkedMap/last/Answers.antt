use Rattle.std.proofs.Common.{sym, ap, ◌∙◌, None}
use Rattle.std.specs.HashMap.{hash_map_len}
use Rattle.elem.specs.Rows.{last_key}
use Rattle.linked_base.specs.LinkedMap.{places, key_of}
use Rattle.linked_base.proofs.LinkedMapLemmas.{all_there, last_there, last_key_of}
use Rattle.linked_base.proofs.free_linked_map.FreeLinkedMap.last.Goals as goal

pub key_at-requires : goal.key_at-requires
key_at-requires g c p e =
    let m = c.self.inside in
    let ps = places m.nodes m.ends (hash_map_len m.index) in
    last_there m.nodes None ps p (λ f. cc) (all_there m.nodes m.ends m.index ps c.self.invariant) (sym c.self.invariant.thread.last ∙ e)

pub returns : goal.returns
returns g c =
    let m = c.self.inside in
    let ps = places m.nodes m.ends (hash_map_len m.index) in
    c.key_at.ensures ∙ ap (key_of m.nodes) c.self.invariant.thread.last ∙ last_key_of m.nodes None ps (all_there m.nodes m.ends m.index ps c.self.invariant) ∙ ap last_key c.self.view_is
