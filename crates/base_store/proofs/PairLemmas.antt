-- The rows of a bimap are pairs, which each of two parts tells apart.
use Rattle.std.proofs.Common.{◌≡◌, ℕ, Bool, true, false, cond, ◌&&◌, not, List, [], ◌∷◌, refl}
use Rattle.std.specs.Prelude.{filter}
use Rattle.elem.specs.Elements.{same}
use Rattle.vocabulary.specs.declared.edits.Spot.{Spot}
use Rattle.vocabulary.specs.declared.edits.Spot.TheVariants.{Own, Swapped, Before, Instead, InKey}
use Rattle.vocabulary.specs.declared.items.Item.{Item}
use Rattle.vocabulary.specs.declared.items.Item.TheVariants.{Entry}
use Rattle.vocabulary.specs.declared.items.Side.{Side}
use Rattle.vocabulary.specs.declared.items.Side.TheVariants.{First, Second}
use Rattle.vocabulary.specs.declared.kinds.Kind.{Kind}
use Rattle.vocabulary.specs.declared.shapes.Shape.{Shape}
use Rattle.vocabulary.specs.declared.shapes.Shape.TheVariants.{BiMap}
use Rattle.vocabulary.specs.Items.{part_of}
use Rattle.vocabulary.specs.Kinds.{shape_of_kind}
use Rattle.vocabulary.specs.Shapes.{is_bimap, is_keyed}
use Rattle.machine.specs.Placing.{has_partner_at}
use Rattle.view_laws.specs.Narrowing.{is_entry, other}
use Rattle.base_rows.specs.BaseRows.{AreRowsOf, IsRowIn, IsRowOf, IsSpotIn}
use Rattle.view_steps.proofs.ValuedRows.{ArePairs}

pub bimap_keyed : (of : Shape) → is_bimap of ≡ true → is_keyed of ≡ true
bimap_keyed BiMap one = refl
bimap_keyed _ one = absurd (cc)

pair_in : (of : Shape) (row : Item) → is_bimap of ≡ true → IsRowIn of row → is_entry row ≡ true
pair_in BiMap (Entry k v) one h = refl
pair_in BiMap _ one h = absurd h
pair_in _ row one h = absurd (cc)

pub pair_of : (kind : Kind) → is_bimap (shape_of_kind kind) ≡ true → (row : Item) → IsRowOf kind row → is_entry row ≡ true
pair_of kind one row h = pair_in (shape_of_kind kind) row one h

pub pairs_of : (kind : Kind) → is_bimap (shape_of_kind kind) ≡ true → (rows : List Item) → AreRowsOf kind rows → ArePairs rows
pairs_of kind one [] h = tt
pairs_of kind one (row ∷ rows) h = (pair_of kind one row h.0, pairs_of kind one rows h.1)

-- rows that stay are rows of the kind
pub rows_stay : (kind : Kind) (p : Item → Bool) (rows : List Item) → AreRowsOf kind rows → AreRowsOf kind (filter p rows)
rows_stay kind p [] h = tt
rows_stay kind p (row ∷ rows) h = by (p row) (rows_stay kind p rows h.1)
  where
    by : (t : Bool) → AreRowsOf kind (filter p rows) → AreRowsOf kind (cond t (row ∷ filter p rows) (filter p rows))
    by true rest = (h.0, rest)
    by false rest = rest

-- a spot of a bimap is one whatever it has
pub spot_of_any : (kind : Kind) → is_bimap (shape_of_kind kind) ≡ true → (spot : Spot) (size n : ℕ) → IsSpotIn kind size spot → IsSpotIn kind n spot
spot_of_any kind one Own size n is = tt
spot_of_any kind one Swapped size n is = is
spot_of_any kind one (Before i) size n is = let keyed = bimap_keyed (shape_of_kind kind) one in absurd (cc is.0)
spot_of_any kind one (Instead i) size n is = let keyed = bimap_keyed (shape_of_kind kind) one in absurd (cc is.0)
spot_of_any kind one (InKey i) size n is = absurd is

-- ---- the parts of a pair

-- the part that tells the place of a pair
abbrev pub own_side : Spot → Side
own_side Swapped = Second
own_side spot = First

-- whether a row has a part of another
abbrev pub shares : Side → Item → Item → Bool
shares side new row = same (part_of side new) (part_of side row)

-- a pair has the partner of a new one where it shares the other part alone
pub partner_shares : (spot : Spot) (new old : Item) → is_entry new ≡ true → is_entry old ≡ true → has_partner_at spot new old ≡ (shares (other (own_side spot)) new old && not (shares (own_side spot) new old))
partner_shares spot (Entry k v) (Entry l w) a b = by spot
  where
    by : (s : Spot) → has_partner_at s (Entry k v) (Entry l w) ≡ (shares (other (own_side s)) (Entry k v) (Entry l w) && not (shares (own_side s) (Entry k v) (Entry l w)))
    by Swapped = refl
    by _ = refl
partner_shares spot (Entry k v) _ a b = absurd (cc)
partner_shares spot _ old a b = absurd (cc)
