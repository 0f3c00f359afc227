-- A pair that is forced into a bimap: which pairs go for it, and how many there are then.
use Rattle.std.proofs.Common.{◌≡◌, ℕ, ◌+◌, ◌<◌, ◌≤◌, Bool, true, false, cond, ◌&&◌, ◌||◌, not, List, [], ◌∷◌, length, refl, ap, sym, ◌∙◌, subst, arith}
use Rattle.std.specs.Prelude.{Some, filter, find, is_some, nat_eq}
use Rattle.std.specs.List.{AllByRecursion, list_any}
use Rattle.vocabulary.specs.declared.edits.Spot.{Spot}
use Rattle.vocabulary.specs.declared.edits.Spot.TheVariants.{Own, Swapped, Before, Instead, InKey}
use Rattle.vocabulary.specs.declared.items.Item.{Item}
use Rattle.vocabulary.specs.declared.items.Side.{Side}
use Rattle.vocabulary.specs.declared.items.Side.TheVariants.{First, Second}
use Rattle.vocabulary.specs.declared.kinds.Kind.{Kind}
use Rattle.vocabulary.specs.declared.kinds.Kind.TheVariants.{HashBiMap}
use Rattle.vocabulary.specs.Items.{part_of}
use Rattle.vocabulary.specs.Kinds.{shape_of_kind}
use Rattle.vocabulary.specs.Known.{is_known_kind}
use Rattle.vocabulary.specs.Limits.{most_rows}
use Rattle.vocabulary.specs.Shapes.{is_bimap}
use Rattle.machine.specs.Bases.{Base, World, base_at}
use Rattle.machine.specs.CallEdits.{forcing_at}
use Rattle.machine.specs.Edits.{edited, takes_edit, without_rows}
use Rattle.machine.specs.Leaves.{stored}
use Rattle.machine.specs.Placing.{has_partner_at, placed_at, takes_row}
use Rattle.machine.specs.RowCounts.{rows_in}
use Rattle.machine.specs.Views.{base}
use Rattle.view_laws.specs.Narrowing.{is_entry, other}
use Rattle.view_steps.specs.KnownViews.{edited_at}
use Rattle.base_rows.specs.Adding.{is_forced_more, is_one_more}
use Rattle.base_rows.specs.BaseRows.{AreRowsOf, IsRowOf, IsSpotIn}
use Rattle.base_rows.specs.BaseSpots.{HasKeys, row_of_part}
use Rattle.view_steps.proofs.ListLemmas.{and-true, both, fewer, or-false}
use Rattle.view_steps.proofs.RowHits.{without_hits}
use Rattle.view_steps.proofs.ValuedRows.{ArePairs}
use Rattle.base_store.proofs.PairLemmas.{bimap_keyed, own_side, pair_of, pairs_of, partner_shares, rows_stay, shares, spot_of_any}
use Rattle.base_store.proofs.RoomLemmas.{none_more_count, not_true, one_more_count, placed_at_count, room_for, too_many}

-- ---- rows that go where they pass one test, but not another

abbrev GoBy : (Item → Bool) → (Item → Bool) → (Item → Bool) → List Item → Type 0
GoBy gone leave stay rows = AllByRecursion (λ (row : Item). gone row ≡ (leave row && not (stay row))) rows

module _ (gone leave stay : Item → Bool) where
  -- where none passes either test, all stay
  none_goes : (rows : List Item) → GoBy gone leave stay rows → is_some (find stay rows) ≡ false → is_some (find leave rows) ≡ false → filter (λ row. not (gone row)) rows ≡ rows
  none_goes [] all none nor = refl
  none_goes (row ∷ rows) all none nor = by (stay row) (leave row) all.0 none nor (none_goes rows all.1)
    where
      by : (s l : Bool) → gone row ≡ (l && not s) → is_some (cond s (Some row) (find stay rows)) ≡ false → is_some (cond l (Some row) (find leave rows)) ≡ false
          → (is_some (find stay rows) ≡ false → is_some (find leave rows) ≡ false → filter (λ r. not (gone r)) rows ≡ rows) → cond (not (gone row)) (row ∷ filter (λ r. not (gone r)) rows) (filter (λ r. not (gone r)) rows) ≡ row ∷ rows
      by true l e a b rest = absurd (cc)
      by false true e a b rest = absurd (cc)
      by false false e a b rest = rw e (ap (λ (rs : List Item). row ∷ rs) (rest a b))

  -- where one passes the first, and none that stays the second, one goes
  one_goes : (rows : List Item) → GoBy gone leave stay rows → is_some (find stay (filter (λ row. not (gone row)) rows)) ≡ false → (is_some (find stay rows) ≡ false → is_some (find leave rows) ≡ true) → length (filter (λ row. not (gone row)) rows) + 1 ≤ length rows
  one_goes [] all none some = absurd (cc (some refl))
  one_goes (row ∷ rows) all none some = by (stay row) (leave row) (gone row) refl all.0 none some (one_goes rows all.1)
    where
      left : List Item
      left = filter (λ r. not (gone r)) rows

      by : (s l g : Bool) → stay row ≡ s → g ≡ (l && not s) → is_some (find stay (cond (not g) (row ∷ left) left)) ≡ false → (is_some (cond s (Some row) (find stay rows)) ≡ false → is_some (cond l (Some row) (find leave rows)) ≡ true)
          → (is_some (find stay left) ≡ false → (is_some (find stay rows) ≡ false → is_some (find leave rows) ≡ true) → length left + 1 ≤ length rows) → length (cond (not g) (row ∷ left) left) + 1 ≤ length (row ∷ rows)
      by s l true at e a b rest = omega (arith, fewer (λ r. not (gone r)) rows)
      by true l false at e a b rest = let h = subst (λ t. is_some (cond t (Some row) (find stay left)) ≡ false) at a in absurd (cc h)
      by false true false at e a b rest = absurd (cc)
      by false false false at e a b rest = let h = subst (λ t. is_some (cond t (Some row) (find stay left)) ≡ false) at a in omega (arith, rest h b)

-- ---- in a bimap

-- whether a pair goes for another, and the pairs that stay
abbrev goes_for : Spot → Item → Item → Bool
goes_for spot new row = has_partner_at spot new row || false

abbrev staying : Spot → Item → List Item → List Item
staying spot new rows = filter (λ row. not (goes_for spot new row)) rows

go_by : (spot : Spot) (new : Item) → is_entry new ≡ true → (rows : List Item) → ArePairs rows → GoBy (goes_for spot new) (shares (other (own_side spot)) new) (shares (own_side spot) new) rows
go_by spot new pair [] all = tt
go_by spot new pair (row ∷ rows) all = (or-false (has_partner_at spot new row) ∙ partner_shares spot new row pair all.0, go_by spot new pair rows all.1)

-- a row is one more by its own part
more_by_own : (kind : Kind) → is_bimap (shape_of_kind kind) ≡ true → (spot : Spot) (n : ℕ) → IsSpotIn kind n spot → (rows : List Item) (new : Item) → is_one_more kind spot rows new ≡ not (is_some (row_of_part (own_side spot) rows (part_of (own_side spot) new)))
more_by_own kind one Own n is rows new = rw (bimap_keyed (shape_of_kind kind) one) refl
more_by_own kind one Swapped n is rows new = refl
more_by_own kind one (Before i) n is rows new = let keyed = bimap_keyed (shape_of_kind kind) one in absurd (cc is.0)
more_by_own kind one (Instead i) n is rows new = let keyed = bimap_keyed (shape_of_kind kind) one in absurd (cc is.0)
more_by_own kind one (InKey i) n is rows new = absurd is

abbrev is_there : Side → List Item → Item → Bool
is_there side rows new = is_some (row_of_part side rows (part_of side new))

-- one that is forced is one more by both
neither : (spot : Spot) (rows : List Item) (new : Item) → is_forced_more rows new ≡ true → (is_there (own_side spot) rows new ≡ false) × (is_there (other (own_side spot)) rows new ≡ false)
neither spot rows new more = by spot
  where
    parts : (not (is_there First rows new) ≡ true) × (not (is_there Second rows new) ≡ true)
    parts = both (not (is_there First rows new)) (not (is_there Second rows new)) more

    by : (s : Spot) → (is_there (own_side s) rows new ≡ false) × (is_there (other (own_side s)) rows new ≡ false)
    by Swapped = (not_true _ parts.1, not_true _ parts.0)
    by _ = (not_true _ parts.0, not_true _ parts.1)

either : (spot : Spot) (rows : List Item) (new : Item) → is_forced_more rows new ≡ false → is_there (own_side spot) rows new ≡ false → is_there (other (own_side spot)) rows new ≡ true
either Swapped rows new less none = last (is_there First rows new) (is_there Second rows new) less none
  where
    last : (a b : Bool) → (not a && not b) ≡ false → b ≡ false → a ≡ true
    last true b h e = refl
    last false true h e = absurd (cc)
    last false false h e = absurd (cc)
either _ rows new less none = first (is_there First rows new) (is_there Second rows new) less none
  where
    first : (a b : Bool) → (not a && not b) ≡ false → a ≡ false → b ≡ true
    first a true h e = refl
    first true false h e = absurd (cc)
    first false false h e = absurd (cc)

-- the pairs that go are those that have a partner of the new one
left_is : (spot : Spot) (new : Item) (it : Base) → without_rows (forcing_at spot it.rows (new ∷ [])).gone 0 it.rows ≡ staying spot new it.rows
left_is spot new it = without_hits (it ∷ []) (base (stored 0)) refl (goes_for spot new)

-- none is left that has one, so the base takes it
no_partner : (spot : Spot) (new : Item) (rows : List Item) → list_any (has_partner_at spot new) (staying spot new rows) ≡ false
no_partner spot new [] = refl
no_partner spot new (row ∷ rows) = by (has_partner_at spot new row) refl (no_partner spot new rows)
  where
    by : (t : Bool) → has_partner_at spot new row ≡ t → list_any (has_partner_at spot new) (staying spot new rows) ≡ false → list_any (has_partner_at spot new) (cond (not (t || false)) (row ∷ staying spot new rows) (staying spot new rows)) ≡ false
    by true e rest = rest
    by false e rest = rw e rest

takes_unbound : (kind : Kind) → is_known_kind kind ≡ true → is_bimap (shape_of_kind kind) ≡ true → (spot : Spot) (rows : List Item) (new : Item) → list_any (has_partner_at spot new) rows ≡ false → takes_row kind spot rows new ≡ true
takes_unbound HashBiMap known one spot rows new none = ap not none
takes_unbound _ known one spot rows new none = absurd (cc)

pub forced_taken : (it : Base) → is_known_kind it.kind ≡ true → is_bimap (shape_of_kind it.kind) ≡ true → (spot : Spot) (new : Item) → takes_edit it (forcing_at spot it.rows (new ∷ [])) ≡ true
forced_taken it known one spot new =
    and-true (takes_row it.kind spot (without_rows (forcing_at spot it.rows (new ∷ [])).gone 0 it.rows) new)
    ∙ ap (λ (rows : List Item). takes_row it.kind spot rows new) (left_is spot new it) ∙ takes_unbound it.kind known one spot (staying spot new it.rows) new (no_partner spot new it.rows)

-- ---- limits

-- the rows of all bases, of which there is one more where a forced pair is
abbrev pub is_full_by_force : ℕ → Base → Item → Bool
is_full_by_force rows it new = nat_eq rows most_rows && is_forced_more it.rows new

module _ (it : Base) (known : is_known_kind it.kind ≡ true) (one : is_bimap (shape_of_kind it.kind) ≡ true) (spot : Spot) (new : Item) (fit : AreRowsOf it.kind it.rows) (fits : IsRowOf it.kind new) (is : IsSpotIn it.kind (length it.rows) spot) where
  rows_forced : (edited it (forcing_at spot it.rows (new ∷ []))).rows ≡ placed_at it.kind spot (staying spot new it.rows) new
  rows_forced = ap (λ (rows : List Item). placed_at it.kind spot rows new) (left_is spot new it)

  went : GoBy (goes_for spot new) (shares (other (own_side spot)) new) (shares (own_side spot) new) it.rows
  went = go_by spot new (pair_of it.kind one new fits) it.rows (pairs_of it.kind one it.rows fit)

  fit_stay : AreRowsOf it.kind (staying spot new it.rows)
  fit_stay = rows_stay it.kind (λ row. not (goes_for spot new row)) it.rows fit

  spot_stay : IsSpotIn it.kind (length (staying spot new it.rows)) spot
  spot_stay = spot_of_any it.kind one spot (length it.rows) (length (staying spot new it.rows)) is

  -- a forced pair that is one more makes one more
  pub forced_more : is_forced_more it.rows new ≡ true → length (edited it (forcing_at spot it.rows (new ∷ []))).rows ≡ length it.rows + 1
  forced_more more =
      let no = neither spot it.rows new more in
      let all : staying spot new it.rows ≡ it.rows = none_goes (goes_for spot new) (shares (other (own_side spot)) new) (shares (own_side spot) new) it.rows went no.0 no.1 in
      let own : is_one_more it.kind spot it.rows new ≡ true = more_by_own it.kind one spot (length it.rows) is it.rows new ∙ ap not no.0 in
      ap length rows_forced ∙ ap (λ (rows : List Item). length (placed_at it.kind spot rows new)) all ∙ one_more_count it.kind known spot it.rows new fit fits is own

  -- and one that is not leaves no more than there were
  none_forced : is_forced_more it.rows new ≡ false → HasKeys (record { kind = it.kind; rows = placed_at it.kind spot (staying spot new it.rows) new; keys = []; change = 0; frozen = false }) → length (placed_at it.kind spot (staying spot new it.rows) new) ≤ length it.rows
  none_forced less keys = by (is_one_more it.kind spot (staying spot new it.rows) new) refl
    where
      by : (t : Bool) → is_one_more it.kind spot (staying spot new it.rows) new ≡ t → length (placed_at it.kind spot (staying spot new it.rows) new) ≤ length it.rows
      by true e =
          let own : is_there (own_side spot) (staying spot new it.rows) new ≡ false = not_true _ (sym (more_by_own it.kind one spot (length it.rows) is (staying spot new it.rows) new) ∙ e) in
          let fewer : length (staying spot new it.rows) + 1 ≤ length it.rows = one_goes (goes_for spot new) (shares (other (own_side spot)) new) (shares (own_side spot) new) it.rows went own (either spot it.rows new less) in
          let count : length (placed_at it.kind spot (staying spot new it.rows) new) ≡ length (staying spot new it.rows) + 1 = one_more_count it.kind known spot (staying spot new it.rows) new fit_stay fits spot_stay e in
          omega arith
      by false e =
          let few : length (staying spot new it.rows) ≤ length it.rows = fewer (λ row. not (goes_for spot new row)) it.rows in
          let count : length (placed_at it.kind spot (staying spot new it.rows) new) ≡ length (staying spot new it.rows) = none_more_count it.kind known spot (staying spot new it.rows) new fit_stay fits spot_stay e keys in
          omega arith

  -- where it is not full for a forced pair, there is room for what it leaves
  pub forced_fits : (rows : ℕ) → rows ≤ most_rows → is_full_by_force rows it new ≡ false → HasKeys (edited it (forcing_at spot it.rows (new ∷ []))) → rows + length (edited it (forcing_at spot it.rows (new ∷ []))).rows ≤ most_rows + length it.rows
  forced_fits rows few free keys =
      let keys' : HasKeys (record { kind = it.kind; rows = placed_at it.kind spot (staying spot new it.rows) new; keys = []; change = 0; frozen = false }) = subst (λ (rs : List Item). HasKeys (record { kind = it.kind; rows = rs; keys = []; change = 0; frozen = false })) rows_forced keys in
      let most : length (staying spot new it.rows) ≤ length it.rows = fewer (λ row. not (goes_for spot new row)) it.rows in
      let high : length (placed_at it.kind spot (staying spot new it.rows) new) ≤ length it.rows + 1 = let h = placed_at_count it.kind spot (staying spot new it.rows) new spot_stay in omega (arith, h.high) in
      let room = room_for rows (length it.rows) (length (placed_at it.kind spot (staying spot new it.rows) new)) (is_forced_more it.rows new) few high (λ less. none_forced less keys') free in
      omega (arith, ap length rows_forced, room)

-- where it is full for a forced pair, there would be one too many
pub forced_too_many : (world : World) (b : ℕ) → is_known_kind (base_at world b).kind ≡ true → is_bimap (shape_of_kind (base_at world b).kind) ≡ true → (spot : Spot) (new : Item) → b < length world → AreRowsOf (base_at world b).kind (base_at world b).rows → IsRowOf (base_at world b).kind new
    → IsSpotIn (base_at world b).kind (length (base_at world b).rows) spot → is_full_by_force (rows_in world) (base_at world b) new ≡ true → most_rows < rows_in (edited_at world b (forcing_at spot (base_at world b).rows (new ∷ [])))
forced_too_many world b known one spot new lt fit fits is full =
    too_many world b known (forcing_at spot (base_at world b).rows (new ∷ [])) (is_forced_more (base_at world b).rows new) lt (forced_more (base_at world b) known one spot new fit fits is) full
