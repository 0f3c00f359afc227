use Rattle.std.proofs.Common.{◌≡◌, ◌+◌, sym, ◌∙◌, arith}
use Rattle.std.proofs.lemmas.List.{length-map}
use Rattle.base_rows.specs.BaseRows.{items}
use Rattle.base_rows.proofs.DropLemmas.{same_index, index_gone}
use Rattle.vocabulary.specs.declared.items.Item.TheVariants.{One}
use Rattle.base_rows.proofs.base_rows.dropping.listed.remove_index.Goals as goal
use Rattle.base_rows.proofs.SpotsTold.{at_index}

pub remove_at-requires : goal.remove_at-requires
remove_at-requires g c =
    let at = at_index (items c.args.rows.now) 0 c.requires.0 c.args.at.now c.requires.1 in
    let number : c.in-Index.i ≡ 0 + c.requires.0 = same_index c.in-Index.i (0 + c.requires.0) (sym c.in-Index.is ∙ at.0) in
    omega (arith, at.1, length-map c.args.rows.now One)

pub returns-in-Index-clause-rows : goal.returns-in-Index-clause-rows
returns-in-Index-clause-rows g c = λ numbers at. index_gone c.args.rows.now c.remove_at.new.self c.in-Index.i c.args.at.now numbers c.in-Index.is at c.remove_at.ensures.items

pub returns-in_default : goal.returns-in_default
returns-in_default g c =
    let at = at_index (items c.args.rows.now) 0 c.requires.0 c.args.at.now c.requires.1 in
    absurd (c.in_default.not-Index (0 + c.requires.0) at.0)
