use Rattle.std.proofs.Common.{rules, ◌≡◌, ◌<◌, ◌++◌, ◌∷◌, [], Some, length, ◌∙◌, ap}
use Rattle.std.proofs.lemmas.Result.{on_ok_weaker}
use Rattle.std.specs.HashMap as hash
use Rattle.elem.specs.Elements.{same}
use Rattle.build_base.specs.Rows.{first_of}
use Rattle.build_base.proofs.GroupSteps.{row_put}
use Rattle.build_base.proofs.grouped.put_row.Goals as goal

pub returns-in-Some-clause-groups : goal.returns-in-Some-clause-groups
returns-in-Some-clause-groups c =
    let groups = c.args.groups.now.items in
    let found : hash.get same c.args.places.now (first_of c.args.row.now) ≡ Some c.in-Some.place = search rules in
    let within : c.in-Some.place < length groups = search rules in
    on_ok_weaker c.push.result (λ e. row_put _ groups c.in-Some.place c.index_mut.result.now c.push.new.items c.args.row.now _ within found (e ∙ ap (λ v. v.items ++ c.args.row.now ∷ []) c.index_mut.ensures.value)) c.push.ensures.ok
