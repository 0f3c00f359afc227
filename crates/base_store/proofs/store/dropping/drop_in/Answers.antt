use Rattle.std.proofs.Common.{◌≡◌, true, ap, set, subst}
use Rattle.base_rows.specs.BaseSpots.{HasKeys}
use Rattle.machine.specs.Bases.{Base}
use Rattle.vocabulary.specs.Known.{is_known_kind}
use Rattle.base_store.specs.Nodes.{view_at}
use Rattle.base_store.proofs.store.dropping.drop_in.Goals as goal
use Rattle.view_steps.proofs.RowHits.{dropped}
use Rattle.view_steps.proofs.WorldLemmas.{read_at}

pub returns-clause-after : goal.returns-clause-after
returns-clause-after c d =
    let v = view_at d.args.nodes.now.made d.args.n in
    let at = read_at d.args.slots.now.items d.args.b d.index_mut-slot.result.now d.requires.base d.index_mut-slot.ensures.value in
    let kind = subst (λ (it : Base). is_known_kind it.kind ≡ true) at d.requires.kind in
    let is = dropped d.args.slots.now.items v d.requires.known (c.T.RowTest.passes d.args.test.now) d.args.b d.index_mut-slot.result.now d.drop_all.new.self kind d.requires.base d.requires.under d.index_mut-slot.ensures.value d.drop_all.ensures.after in
    ap (λ (it : Base). set d.args.slots.now.items d.args.b it) is

pub returns-clause-keys : goal.returns-clause-keys
returns-clause-keys c d =
    let v = view_at d.args.nodes.now.made d.args.n in
    let at = read_at d.args.slots.now.items d.args.b d.index_mut-slot.result.now d.requires.base d.index_mut-slot.ensures.value in
    let kind = subst (λ (it : Base). is_known_kind it.kind ≡ true) at d.requires.kind in
    let is = dropped d.args.slots.now.items v d.requires.known (c.T.RowTest.passes d.args.test.now) d.args.b d.index_mut-slot.result.now d.drop_all.new.self kind d.requires.base d.requires.under d.index_mut-slot.ensures.value d.drop_all.ensures.after in
    subst (λ (it : Base). HasKeys it) is d.drop_all.ensures.keys
