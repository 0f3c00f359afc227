use Rattle.std.proofs.Common.{sym, ap, ◌∙◌, subst}
use Rattle.std.specs.HashMap as hash
use Rattle.elem.specs.Elements.{same}
use Rattle.bimap_base.specs.PairRows.{IsTurned, without_some}
use Rattle.bimap_base.proofs.PutSteps.{new_rows, new_turned}
use Rattle.bimap_base.proofs.puts.put_new.Goals as goal

pub returns-clause-rows : goal.returns-clause-rows
returns-clause-rows c =
    let v = c.args.v.now in
    c.let_go.ensures.rows ∙ ap (without_some (hash.get same c.args.keys.now v)) c.in_ok-insert.ensures.ok ∙ new_rows c.len-len.ensures.distinct c.requires.turned c.args.k.now v c.requires.key

pub returns-clause-turned : goal.returns-clause-turned
returns-clause-turned c =
    let v = c.args.v.now in
    let found = hash.get same c.write_key.new.keys in
    subst (λ rs. IsTurned rs found) (sym (c.let_go.ensures.rows ∙ ap (without_some (hash.get same c.args.keys.now v)) c.in_ok-insert.ensures.ok))
    (new_turned c.len-len.ensures.distinct c.requires.turned c.args.k.now v c.requires.key found c.write_key.ensures)
