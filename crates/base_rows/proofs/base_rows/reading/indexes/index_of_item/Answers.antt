use Rattle.std.proofs.Common.{◌≡◌, ℕ, ◌+◌, cond, not, List, [], ◌∷◌, refl, ap, sym, ◌∙◌, Some, None}
use Rattle.std.specs.Prelude.{nat_lt}
use Rattle.std.specs.List.{position_or_len}
use Rattle.std.proofs.lemmas.List.{length-map}
use Rattle.elem.specs.declared.elements.Elem.{Elem}
use Rattle.elem.specs.Elements.{same}
use Rattle.base_rows.specs.BaseRows.{items}
use Rattle.vocabulary.specs.Items.{same_item}
use Rattle.vocabulary.specs.declared.items.Item.TheVariants.{One}
use Rattle.base_rows.proofs.base_rows.reading.indexes.index_of_item.Goals as goal

-- an element stands among the rows of a list where it stands in the list
place_in_items : (x : Elem) (xs : List Elem) → position_or_len (same_item (One x)) (items xs) ≡ position_or_len (same x) xs
place_in_items x [] = refl
place_in_items x (y ∷ ys) = ap (λ (n : ℕ). cond (not (same x y)) (1 + n) 0) (place_in_items x ys)

pub returns-clause-index : goal.returns-clause-index
returns-clause-index g c =
    let xs = c.args.rows.now in
    let at = place_in_items c.args.x.now xs in
    c.find.ensures.index ∙ (λ i. cond (nat_lt (sym at i) (sym (length-map xs One) i)) (Some (sym at i)) None)
