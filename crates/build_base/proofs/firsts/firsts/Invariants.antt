use Rattle.std.proofs.Common.{◌≡◌, take}
use Rattle.std.specs.List.{list_any}
use Rattle.std.specs.HashSet.{contains}
use Rattle.elem.specs.declared.elements.Elem.{Elem}
use Rattle.build_base.specs.Rows.{alike, key_of, same_key}
use Rattle.build_base.specs.Kept.{firsts}
use Rattle.build_base.proofs.firsts.firsts.Given as goal

abbrev pub invariant-loop-row : goal.invariant-loop-row
invariant-loop-row l =
    (l.kept.items ≡ firsts (alike l.part) (take l.row-index l.rows))
    × ((q : Elem × Elem) → contains same_key l.seen q ≡ list_any (λ r. same_key (key_of l.part r) q) (take l.row-index l.rows))
