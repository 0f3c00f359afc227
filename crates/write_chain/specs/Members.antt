-- Elements that were read from a view, and the items that are among them.
use Rattle.std.specs.Prelude.{Bool, false, not, if◌then◌else◌, List, is_some}
use Rattle.elem.specs.declared.elements.Elem.{Elem}
use Rattle.elem.specs.Keyed.{value_at}
use Rattle.vocabulary.specs.declared.items.Item.{Item}
use Rattle.vocabulary.specs.declared.items.Item.TheVariants.{One}
use Rattle.write_chain.specs.declared.members.Among.{Among}

-- rows that have keys and no values
abbrev pub Members : Type 0
Members = List (Elem × Unit {0})

abbrev pub is_member : Members → Elem → Bool
is_member rows x = is_some (value_at rows x)

-- whether an item is one of the elements
abbrev pub is_among : Members → Item → Bool
is_among rows (One x) = is_member rows x
is_among rows other = false

-- the items that are among them, or those that are not
abbrev pub among_passes : Among → Item → Bool
among_passes test item = if test.out then not (is_among test.members item) else is_among test.members item
