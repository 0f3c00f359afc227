use Rattle.std.proofs.Common.{◌≡◌, map, take}
use Rattle.std.specs.HashMap as hash
use Rattle.elem.specs.declared.elements.Elem.{Elem}
use Rattle.elem.specs.Elements.{same}
use Rattle.build_base.specs.declared.part.Part.TheVariants.{First}
use Rattle.build_base.specs.Rows.{alike, first_of}
use Rattle.build_base.specs.Kept.{firsts, groups_of, place_of}
use Rattle.build_base.proofs.grouped.groups.Given as goal

abbrev pub invariant-loop-row : goal.invariant-loop-row
invariant-loop-row l =
    (map (λ group. group.items) l.groups.items ≡ groups_of (alike First) (take l.row-index l.rows))
    × ((q : Elem) → hash.get same l.places q ≡ place_of (λ head. same (first_of head) q) (firsts (alike First) (take l.row-index l.rows)))
