-- The table of kinds: a known kind has a known shape, and its rows go by that shape alone.
use Rattle.std.proofs.Common.{◌≡◌, true, false, ◌&&◌, ◌||◌, List, refl}
use Rattle.elem.specs.Elements.{same}
use Rattle.vocabulary.specs.declared.edits.Spot.{Spot}
use Rattle.vocabulary.specs.declared.items.Item.{Item}
use Rattle.vocabulary.specs.declared.kinds.Kind.{Kind}
use Rattle.vocabulary.specs.declared.kinds.Kind.TheVariants as kind
use Rattle.vocabulary.specs.Fits.{is_entries}
use Rattle.vocabulary.specs.Items.{key_of, second_of}
use Rattle.vocabulary.specs.Kinds.{groups_rows, keeps_keys, order_of_kind, shape_of_kind}
use Rattle.vocabulary.specs.Known.{is_known_kind}
use Rattle.vocabulary.specs.Orders.{before}
use Rattle.vocabulary.specs.Shapes.{is_sorted}
use Rattle.machine.specs.Placing.{precedes, replaces, takes_place, takes_row, takes_row_of}
use Rattle.view_steps.specs.KnownShapes.{is_known_shape}

pub kind_shape : (it : Kind) → is_known_kind it ≡ true → is_known_shape (shape_of_kind it) ≡ true
kind_shape kind.ArrayList h = refl
kind_shape kind.LinkedHashSet h = refl
kind_shape kind.TreeSet h = refl
kind_shape kind.TreeSetReverse h = refl
kind_shape kind.TreeSetLength h = refl
kind_shape kind.LinkedHashMap h = refl
kind_shape kind.TreeMap h = refl
kind_shape kind.TreeMapReverse h = refl
kind_shape kind.TreeMapLength h = refl
kind_shape kind.HashBiMap h = refl
kind_shape _ h = absurd (cc)

-- no known kind is that of the rows of a view
pub no_entries : (it : Kind) → is_known_kind it ≡ true → is_entries (shape_of_kind it) ≡ false
no_entries (kind.Rows sort) h = absurd (cc)
no_entries _ h = refl

-- none keeps keys beside its rows
pub no_keys : (it : Kind) → is_known_kind it ≡ true → keeps_keys it ≡ false
no_keys kind.LinkedHashMultimap h = absurd (cc)
no_keys _ h = refl

-- nor has rows together by their keys, unless it is sorted
pub no_groups : (it : Kind) → is_known_kind it ≡ true → groups_rows it ≡ false
no_groups kind.LinkedHashMultiset h = absurd (cc)
no_groups kind.LinkedArrayListMultimap h = absurd (cc)
no_groups kind.LinkedTable h = absurd (cc)
no_groups _ h = refl

pub takes_by_shape : (it : Kind) → is_known_kind it ≡ true → (spot : Spot) (rows : List Item) (new : Item) → takes_row it spot rows new ≡ takes_row_of (shape_of_kind it) spot rows new
takes_by_shape (kind.ValueGraph directed loops) h spot rows new = absurd (cc)
takes_by_shape (kind.Builder built) h spot rows new = absurd (cc)
takes_by_shape _ h spot rows new = refl

pub replaces_by_shape : (it : Kind) → is_known_kind it ≡ true → (new old : Item) → replaces it new old ≡ takes_place (shape_of_kind it) new old
replaces_by_shape (kind.ValueGraph directed loops) h new old = absurd (cc)
replaces_by_shape _ h new old = refl

-- a row stands before the first that it precedes by key, where the kind is sorted
pub precedes_by_key : (it : Kind) → is_known_kind it ≡ true → (new old : Item)
    → precedes it new old ≡ (is_sorted (shape_of_kind it) && (before (order_of_kind it) (key_of new) (key_of old) || (same (key_of new) (key_of old) && before (order_of_kind it) (second_of new) (second_of old))))
precedes_by_key (kind.ValueGraph directed loops) h new old = absurd (cc)
precedes_by_key _ h new old = refl
