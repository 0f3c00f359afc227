use Rattle.std.proofs.Common.{◌+◌, ◌-◌, [], ◌∷◌, ◌++◌, length, take, drop, sym, ◌∙◌, ap, arith}
use Rattle.std.proofs.lemmas.List.{length-drop, take_all}
use Rattle.shelf.proofs.Lines.{all_one, found_cut, front_one}
use Rattle.shelf.proofs.feeding.next_line.Goals as goal

pub returns-in-Some-clause-found : goal.returns-in-Some-clause-found
returns-in-Some-clause-found c =
    let text = c.args.text.now in
    let at = c.in-Some.at in
    let found = c.in-Some.ensures in
    let rest = take_all (length text - (at + 1)) (drop (at + 1) text) (omega (arith, length-drop (at + 1) text)) in
    (found_cut text at found.0.high found.1 ∙ ap (λ more. (take at text ++ 10 ∷ []) ++ more) (sym rest), front_one text at found.0.before)

pub returns-in-None-clause-last : goal.returns-in-None-clause-last
returns-in-None-clause-last c = all_one c.args.text.now c.in-None.ensures
