use Rattle.std.proofs.Common.{sym, ap, ◌∙◌, cond, Some, subst}
use Rattle.std.specs.Prelude.{IsSome}
use Rattle.std.specs.HashMap as hash
use Rattle.elem.specs.Elements.{same}
use Rattle.elem.specs.Keyed.{value_at, with_value, HasDistinctKeys}
use Rattle.bimap_base.specs.PairRows.{IsTurned}
use Rattle.bimap_base.proofs.PutSteps.{left_value, over_rows, over_turned}
use Rattle.bimap_base.proofs.puts.put_over.Goals as goal

pub replace-old-requires : goal.replace-old-requires
replace-old-requires c =
    let k = c.args.k.now in
    subst IsSome (sym (ap (λ rs. value_at rs k) c.let_go.ensures.rows ∙ left_value c.len-len.ensures.distinct c.requires.turned k c.args.v.now c.requires.new)) c.requires.key

pub returns-clause-rows : goal.returns-clause-rows
returns-clause-rows c =
    let k = c.args.k.now in
    let v = c.args.v.now in
    let left = c.let_go.ensures.rows in
    c.replace-old.ensures.rows ∙ ap (λ rs. with_value rs k v) left
    ∙ over_rows c.len-len.ensures.distinct c.requires.turned k v c.requires.new c.replace-old.result (ap (λ rs. value_at rs k) (sym left) ∙ c.replace-old.ensures.value) (subst HasDistinctKeys left c.let_go.ensures.distinct)

pub returns-clause-turned : goal.returns-clause-turned
returns-clause-turned c =
    let k = c.args.k.now in
    let v = c.args.v.now in
    let left = c.let_go.ensures.rows in
    let found = hash.get same c.write_key.new.keys in
    subst (λ rs. IsTurned rs found) (sym (c.replace-old.ensures.rows ∙ ap (λ rs. with_value rs k v) left))
    (over_turned c.len-len.ensures.distinct c.requires.turned k v c.requires.new c.replace-old.result (ap (λ rs. value_at rs k) (sym left) ∙ c.replace-old.ensures.value) (subst HasDistinctKeys left c.let_go.ensures.distinct) found (λ q. c.write_key.ensures q ∙ ap (cond (same v q) (Some k)) (c.take_key.ensures.keys q)))
