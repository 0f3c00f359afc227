-- How many rows there are once a row came at its spot, and whether there is room for it.
use Rattle.std.proofs.Common.{◌≡◌, ℕ, ◌+◌, ◌<◌, ◌≤◌, Bool, true, false, cond, ◌&&◌, not, List, [], ◌∷◌, length, refl, ap, sym, ◌∙◌, subst, arith}
use Rattle.std.specs.Prelude.{find, nat_eq, is_some}
use Rattle.std.proofs.lemmas.Bool.Decides.{nat_tests}
use Rattle.std.proofs.lemmas.List.{length-set}
use Rattle.std.proofs.lemmas.List.Edits.{length-insert}
use Rattle.elem.specs.Elements.{same}
use Rattle.vocabulary.specs.declared.edits.Spot.{Spot}
use Rattle.vocabulary.specs.declared.edits.Spot.TheVariants.{Own, Swapped, Before, Instead, InKey}
use Rattle.vocabulary.specs.declared.items.Item.{Item}
use Rattle.vocabulary.specs.declared.items.Side.TheVariants.{First, Second}
use Rattle.vocabulary.specs.declared.kinds.Kind.{Kind}
use Rattle.vocabulary.specs.declared.refusals.Refusal.{Refusal}
use Rattle.vocabulary.specs.declared.refusals.Refusal.TheVariants.{IllegalArgument, Limit}
use Rattle.machine.specs.Edits.{Edit, adding, edited, takes_edit}
use Rattle.view_steps.specs.KnownViews.{edited_at}
use Rattle.machine.specs.Placing.{placed, placed_at, takes_row}
use Rattle.vocabulary.specs.Items.{key_of}
use Rattle.vocabulary.specs.Kinds.{shape_of_kind}
use Rattle.vocabulary.specs.Known.{is_known_kind}
use Rattle.base_rows.specs.BaseSpots.{HasKeys}
use Rattle.vocabulary.specs.Shapes.{is_keyed}
use Rattle.machine.specs.RowCounts.{rows_in}
use Rattle.vocabulary.specs.Limits.{most_rows}
use Rattle.view_steps.specs.Limits.{Grows}
use Rattle.machine.specs.Bases.{Base, World, base_at}
use Rattle.base_rows.specs.Adding.{is_one_more}
use Rattle.base_rows.specs.BaseRows.{AreRowsOf, IsRowOf, IsSpotIn}
use Rattle.view_steps.proofs.PlacedRows.{IsUpToOneMore, keyed_new, keyed_old, placed_count, unkeyed}
use Rattle.view_steps.proofs.ValuedRows.{swapped_count, valued_new, valued_old}
use Rattle.view_steps.proofs.ListLemmas.{both}
use Rattle.view_steps.proofs.CallLemmas.{takes_one}
use Rattle.view_steps.proofs.EditedRows.{edited_adding}
use Rattle.view_steps.proofs.CountLemmas.{rows_in-written}
use Rattle.base_store.specs.RowFaults.{IsRowFault}
use Rattle.base_store.proofs.PairLemmas.{bimap_keyed, pair_of, pairs_of}

-- ---- how many rows there are once one came

pub not_true : (b : Bool) → not b ≡ true → b ≡ false
not_true true e = absurd (cc)
not_true false e = refl

pub not_false : (b : Bool) → not b ≡ false → b ≡ true
not_false true e = refl
not_false false e = absurd (cc)

pub placed_at_count : (kind : Kind) (spot : Spot) (rows : List Item) (new : Item) → IsSpotIn kind (length rows) spot → IsUpToOneMore rows (placed_at kind spot rows new)
placed_at_count kind Own rows new is = placed_count kind rows new
placed_at_count kind Swapped rows new is = swapped_count kind rows new
placed_at_count kind (Before i) rows new is = record { low = omega (arith, length-insert rows i new is.1); high = omega (arith, length-insert rows i new is.1) }
placed_at_count kind (Instead i) rows new is = record { low = omega (arith, length-set rows i new); high = omega (arith, length-set rows i new) }
placed_at_count kind (InKey i) rows new is = absurd is

-- ---- whether a row is one more

own_more : (kind : Kind) → is_known_kind kind ≡ true → (rows : List Item) (new : Item) → is_one_more kind Own rows new ≡ true → length (placed kind rows new) ≡ length rows + 1
own_more kind known rows new is = by (is_keyed (shape_of_kind kind)) refl is
  where
    by : (t : Bool) → is_keyed (shape_of_kind kind) ≡ t → cond t (not (is_some (find (λ row. same (key_of new) (key_of row)) rows))) true ≡ true → length (placed kind rows new) ≡ length rows + 1
    by true keyed h = keyed_new kind known rows new keyed (not_true (is_some (find (λ row. same (key_of new) (key_of row)) rows)) h)
    by false list h = unkeyed kind known rows new list

own_same : (kind : Kind) → is_known_kind kind ≡ true → (rows : List Item) (new : Item) → is_one_more kind Own rows new ≡ false → HasKeys (record { kind = kind; rows = placed kind rows new; keys = []; change = 0; frozen = false }) → length (placed kind rows new) ≡ length rows
own_same kind known rows new is keys = by (is_keyed (shape_of_kind kind)) refl is
  where
    by : (t : Bool) → is_keyed (shape_of_kind kind) ≡ t → cond t (not (is_some (find (λ row. same (key_of new) (key_of row)) rows))) true ≡ false → length (placed kind rows new) ≡ length rows
    by true keyed h = keyed_old kind known rows new keyed (not_false (is_some (find (λ row. same (key_of new) (key_of row)) rows)) h) (keys First keyed)
    by false list h = absurd (cc)

module _ (kind : Kind) (known : is_known_kind kind ≡ true) where
  -- a row that is one more makes one more
  pub one_more_count : (spot : Spot) (rows : List Item) (new : Item) → AreRowsOf kind rows → IsRowOf kind new → IsSpotIn kind (length rows) spot → is_one_more kind spot rows new ≡ true → length (placed_at kind spot rows new) ≡ length rows + 1
  one_more_count Own rows new fit fits is more = own_more kind known rows new more
  one_more_count Swapped rows new fit fits is more = valued_new kind known rows new (bimap_keyed (shape_of_kind kind) is) (pairs_of kind is rows fit) (pair_of kind is new fits) (not_true _ more)
  one_more_count (Before i) rows new fit fits is more = length-insert rows i new is.1
  one_more_count (Instead i) rows new fit fits is more = absurd (cc)
  one_more_count (InKey i) rows new fit fits is more = absurd is

  -- and one that is not leaves as many as there were
  pub none_more_count : (spot : Spot) (rows : List Item) (new : Item) → AreRowsOf kind rows → IsRowOf kind new → IsSpotIn kind (length rows) spot → is_one_more kind spot rows new ≡ false → HasKeys (record { kind = kind; rows = placed_at kind spot rows new; keys = []; change = 0; frozen = false })
      → length (placed_at kind spot rows new) ≡ length rows
  none_more_count Own rows new fit fits is none keys = own_same kind known rows new none keys
  none_more_count Swapped rows new fit fits is none keys = valued_old kind known rows new (bimap_keyed (shape_of_kind kind) is) (pairs_of kind is rows fit) (pair_of kind is new fits) (not_false _ none) (keys Second is)
  none_more_count (Before i) rows new fit fits is none keys = absurd (cc)
  none_more_count (Instead i) rows new fit fits is none keys = length-set rows i new
  none_more_count (InKey i) rows new fit fits is none keys = absurd is

-- ---- limits

at_most : (n : ℕ) → nat_eq n most_rows ≡ true → n ≡ most_rows
at_most n h = grind (arith, nat_tests)

not_at_most : (n : ℕ) → nat_eq n most_rows ≡ false → n ≡ most_rows → ⊥
not_at_most n h e = grind (arith, nat_tests)

-- so many rows of all bases leave room for those of one that changed, unless there are most of them and one is more
pub room_for : (rows before after : ℕ) (more : Bool) → rows ≤ most_rows → after ≤ before + 1 → (more ≡ false → after ≤ before) → (nat_eq rows most_rows && more) ≡ false → rows + after ≤ most_rows + before
room_for rows before after more few high same free = by (nat_eq rows most_rows) more refl same free
  where
    by : (full more : Bool) → nat_eq rows most_rows ≡ full → (more ≡ false → after ≤ before) → (full && more) ≡ false → rows + after ≤ most_rows + before
    by true true full same h = absurd (cc)
    by true false full same h = omega (arith, same refl, few)
    by false more full same h = omega (arith, high, few, not_at_most rows full)

-- and where there are most, one more is too many
pub too_many : (world : World) (b : ℕ) → is_known_kind (base_at world b).kind ≡ true → (edit : Edit) (more : Bool) → b < length world → (more ≡ true → length (edited (base_at world b) edit).rows ≡ length (base_at world b).rows + 1) → (nat_eq (rows_in world) most_rows && more) ≡ true
    → most_rows < rows_in (edited_at world b edit)
too_many world b known edit more lt one full =
    let parts = both (nat_eq (rows_in world) most_rows) more full in
    omega (arith, rows_in-written world b (edited (base_at world b) edit) lt known known, one parts.1, at_most (rows_in world) parts.0)

-- ---- one row

-- the rows of all bases, of which there is one more where one row is
abbrev pub is_full_for : ℕ → Base → Spot → Item → Bool
is_full_for rows it spot new = nat_eq rows most_rows && is_one_more it.kind spot it.rows new

module _ (it : Base) (known : is_known_kind it.kind ≡ true) (spot : Spot) (new : Item) (fit : AreRowsOf it.kind it.rows) (fits : IsRowOf it.kind new) (is : IsSpotIn it.kind (length it.rows) spot) where
  pub row_came : (edited it (adding spot (new ∷ []))).rows ≡ placed_at it.kind spot it.rows new
  row_came = ap (λ (x : Base). x.rows) (edited_adding it known spot (new ∷ []))

  -- where it is not full for a row, there is room for what it leaves
  pub row_fits : (rows : ℕ) → rows ≤ most_rows → is_full_for rows it spot new ≡ false → HasKeys (edited it (adding spot (new ∷ []))) → rows + length (edited it (adding spot (new ∷ []))).rows ≤ most_rows + length it.rows
  row_fits rows few free keys =
      let keys' : HasKeys (record { kind = it.kind; rows = placed_at it.kind spot it.rows new; keys = []; change = 0; frozen = false }) = subst (λ (rs : List Item). HasKeys (record { kind = it.kind; rows = rs; keys = []; change = 0; frozen = false })) row_came keys in
      let high : length (placed_at it.kind spot it.rows new) ≤ length it.rows + 1 = (placed_at_count it.kind spot it.rows new is).high in
      let room =
      room_for rows (length it.rows) (length (placed_at it.kind spot it.rows new)) (is_one_more it.kind spot it.rows new) few high
      (λ none. let same : length (placed_at it.kind spot it.rows new) ≡ length it.rows = none_more_count it.kind known spot it.rows new fit fits is none keys' in omega arith) free in
      omega (arith, ap length row_came, room)

  pub row_more : is_one_more it.kind spot it.rows new ≡ true → length (edited it (adding spot (new ∷ []))).rows ≡ length it.rows + 1
  row_more more = ap length row_came ∙ one_more_count it.kind known spot it.rows new fit fits is more

module _ (world : World) (b : ℕ) (known : is_known_kind (base_at world b).kind ≡ true) (spot : Spot) (new : Item) (lt : b < length world) (fit : AreRowsOf (base_at world b).kind (base_at world b).rows) (fits : IsRowOf (base_at world b).kind new) (is : IsSpotIn (base_at world b).kind (length (base_at world b).rows) spot) where
  -- where it is full for a row, there would be one too many
  pub row_too_many : is_full_for (rows_in world) (base_at world b) spot new ≡ true → most_rows < rows_in (edited_at world b (adding spot (new ∷ [])))
  row_too_many full = too_many world b known (adding spot (new ∷ [])) (is_one_more (base_at world b).kind spot (base_at world b).rows new) lt (row_more (base_at world b) known spot new fit fits is) full

  -- where it is not full for a row that is one more, the rows grow
  pub row_grows : rows_in world ≤ most_rows → is_full_for (rows_in world) (base_at world b) spot new ≡ false → is_one_more (base_at world b).kind spot (base_at world b).rows new ≡ true → Grows world (edited_at world b (adding spot (new ∷ [])))
  row_grows few free more =
      let it : Base = base_at world b in
      let one : length (edited it (adding spot (new ∷ []))).rows ≡ length it.rows + 1 = row_more it known spot new fit fits is more in
      let room : rows_in world ≡ most_rows → ⊥ = not_at_most (rows_in world) (not_full (nat_eq (rows_in world) most_rows) (is_one_more it.kind spot it.rows new) more free) in (
        omega (arith, rows_in-written world b (edited it (adding spot (new ∷ []))) lt known known, one),
        omega (arith, rows_in-written world b (edited it (adding spot (new ∷ []))) lt known known, one, few, room),
      )
    where
      not_full : (full more : Bool) → more ≡ true → (full && more) ≡ false → full ≡ false
      not_full true true e h = h
      not_full true false e h = absurd (cc)
      not_full false more e h = refl

-- a row that would be one too many is refused by the base, or for want of room
pub full_fault : (world : World) (b : ℕ) (edit : Edit) (why : Refusal) → most_rows < rows_in (edited_at world b edit) → (takes_edit (base_at world b) edit ≡ false → why ≡ IllegalArgument) → (takes_edit (base_at world b) edit ≡ true → why ≡ Limit) → IsRowFault world b edit why
full_fault world b edit why many refused full = by (takes_edit (base_at world b) edit) refl
  where
    by : (t : Bool) → takes_edit (base_at world b) edit ≡ t → IsRowFault world b edit why
    by true e = subst (IsRowFault world b edit) (sym (full e)) (e, many)
    by false e = subst (IsRowFault world b edit) (sym (refused e)) e

-- a base takes the edit that adds a row unless it has the row's partner bound
pub edit_taken : (it at : Base) (spot : Spot) (new : Item) (bound : Bool) → it ≡ at → bound ≡ not (takes_row at.kind spot at.rows new) → takes_edit it (adding spot (new ∷ [])) ≡ not bound
edit_taken it at spot new bound same is = ap (λ (x : Base). takes_edit x (adding spot (new ∷ []))) same ∙ takes_one at spot new ∙ twice (takes_row at.kind spot at.rows new) ∙ ap not (sym is)
  where
    twice : (b : Bool) → b ≡ not (not b)
    twice true = refl
    twice false = refl
