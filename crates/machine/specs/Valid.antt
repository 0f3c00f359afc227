-- What holds of the rows of each base.
use Rattle.std.specs.Prelude.{Bool, true, false, not, ◌&&◌, ◌||◌, nat_le, if◌then◌else◌, List, [], ◌∷◌, length, filter}
use Rattle.std.specs.List.{list_all}
use Rattle.elem.specs.declared.elements.Elem.{Elem}
use Rattle.elem.specs.Elements.{same}
use Rattle.vocabulary.specs.declared.items.Item.{Item}
use Rattle.vocabulary.specs.declared.kinds.Kind.{Kind}
use Rattle.machine.specs.Bases.{Base}
use Rattle.machine.specs.Edits.{has_row}
use Rattle.machine.specs.KeyOrders.{is_among}
use Rattle.machine.specs.Placing.{precedes, replaces}
use Rattle.vocabulary.specs.Items.{key_of, same_item, value_of}
use Rattle.vocabulary.specs.Kinds.{groups_rows, keeps_keys, shape_of_kind}
use Rattle.vocabulary.specs.Limits.{most_count}
use Rattle.vocabulary.specs.Shapes.{is_bag, is_bimap}

-- whether a test holds of each row and each later one
abbrev pub of_all_later : {X : Type 0} → (X → X → Bool) → List X → Bool
of_all_later test [] = true
of_all_later test (row ∷ rows) = list_all (test row) rows && of_all_later test rows

-- no row could take the place of another
abbrev pub are_distinct : Kind → List Item → Bool
are_distinct kind rows = of_all_later (λ row later. not (replaces kind later row)) rows

-- no row stands behind one that it precedes
abbrev pub are_in_order : Kind → List Item → Bool
are_in_order kind rows = of_all_later (λ row later. not (precedes kind later row)) rows

abbrev pub values_differ : List Item → Bool
values_differ rows = of_all_later (λ row later. not (same (value_of row) (value_of later))) rows

-- a key that comes again after a row comes right after it
abbrev pub begins_with : Elem → List Item → Bool
begins_with k [] = false
begins_with k (row ∷ rows) = same k (key_of row)

abbrev pub are_together : List Item → Bool
are_together [] = true
are_together (row ∷ rows) = (not (has_row rows (key_of row)) || begins_with (key_of row) rows) && are_together rows

-- no element stands there too often
abbrev pub are_few : List Item → Bool
are_few rows = list_all (λ row. nat_le (length (filter (same_item row) rows)) most_count) rows

-- the keys are those of the rows, each once
abbrev pub are_keys_of : List Item → List Elem → Bool
are_keys_of rows keys = list_all (has_row rows) keys && list_all (λ row. is_among keys (key_of row)) rows && of_all_later (λ k later. not (same k later)) keys

abbrev pub is_empty_list : {X : Type 0} → List X → Bool
is_empty_list [] = true
is_empty_list (x ∷ xs) = false

-- the rows of a frozen table need not stand together
abbrev pub is_valid : Base → Bool
is_valid it =
    are_distinct it.kind it.rows && are_in_order it.kind it.rows && (not (groups_rows it.kind) || it.frozen || are_together it.rows)
    && (not (is_bimap (shape_of_kind it.kind)) || values_differ it.rows) && (not (is_bag (shape_of_kind it.kind)) || are_few it.rows)
    && (if keeps_keys it.kind then are_keys_of it.rows it.keys else is_empty_list it.keys)
