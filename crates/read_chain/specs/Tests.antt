-- Tests of items.
use Rattle.std.specs.Prelude.{Bool, true}
use Rattle.read_chain.specs.declared.finding.ItemTest.{ItemTest}
use Rattle.read_chain.specs.declared.finding.ItemTest.TheVariants.{Any, Same, OfKey, OfValue}
use Rattle.vocabulary.specs.declared.items.Item.{Item}
use Rattle.machine.specs.Shown.{has_key, has_value}
use Rattle.vocabulary.specs.Items.{same_item}

abbrev pub item_passes : ItemTest → Item → Bool
item_passes Any item = true
item_passes (Same other) item = same_item other item
item_passes (OfKey k) item = has_key k item
item_passes (OfValue v) item = has_value v item
