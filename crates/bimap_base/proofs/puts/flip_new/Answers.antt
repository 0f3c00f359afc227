use Rattle.std.proofs.Common.{sym, ap, ◌∙◌, subst}
use Rattle.std.specs.HashMap as hash
use Rattle.elem.specs.Elements.{same}
use Rattle.bimap_base.specs.PairRows.{IsTurned, in_place_of}
use Rattle.bimap_base.proofs.TurnedLemmas.{turned_same, one_more, placed_turned}
use Rattle.bimap_base.proofs.PutSteps.{holder_present, flipped_new}
use Rattle.bimap_base.specs.Pairs.{turned}
use Rattle.bimap_base.proofs.puts.flip_new.Goals as goal

pub put_in_place-requires-clause-old : goal.put_in_place-requires-clause-old
put_in_place-requires-clause-old c x e = holder_present c.len-len.ensures.distinct c.requires.turned c.args.k.now c.args.v.now x (sym c.key_of.ensures ∙ e)

pub returns-clause-rows : goal.returns-clause-rows
returns-clause-rows c =
    let k = c.args.k.now in
    let v = c.args.v.now in
    ap turned (c.in_ok-put_in_place.ensures.ok ∙ ap (λ o. in_place_of c.args.rows.now o (k, v)) c.key_of.ensures) ∙ flipped_new c.len-len.ensures.distinct c.requires.turned k v c.requires.key

pub returns-clause-turned : goal.returns-clause-turned
returns-clause-turned c =
    let k = c.args.k.now in
    let v = c.args.v.now in
    let find = hash.get same c.args.keys.now in
    let found = hash.get same c.write_key.new.keys in
    subst (λ rs. IsTurned rs found) (sym (c.in_ok-put_in_place.ensures.ok ∙ ap (λ o. in_place_of c.args.rows.now o (k, v)) c.key_of.ensures))
    (turned_same (in_place_of c.args.rows.now (find v) (k, v)) (one_more find v k) found c.write_key.ensures (placed_turned c.len-len.ensures.distinct c.requires.turned v k))
