-- What a write does to a base: rows that go, rows that come, and the change number.
use Rattle.std.specs.Prelude.{ℕ, ◌+◌, Bool, true, not, ◌&&◌, ◌||◌, nat_eq, nat_lt, List, [], ◌∷◌, length, map, filter, fold, slice_set, if◌then◌else◌}
use Rattle.std.specs.List.{list_any}
use Rattle.std.specs.Cmp.Lexicographic.{pointwise}
use Rattle.elem.specs.declared.elements.Elem.{Elem}
use Rattle.elem.specs.Elements.{same}
use Rattle.vocabulary.specs.declared.edits.Spot.{Spot}
use Rattle.vocabulary.specs.declared.items.Item.{Item}
use Rattle.vocabulary.specs.declared.kinds.Kind.{Kind}
use Rattle.machine.specs.Bases.{Base, World, base_at}
use Rattle.machine.specs.KeyOrders.{is_among, with_key}
use Rattle.machine.specs.Placing.{placed_at, takes_row}
use Rattle.machine.specs.RangeRows.{RangeWrite, written_all}
use Rattle.vocabulary.specs.Items.{key_of, same_item}
use Rattle.vocabulary.specs.Kinds.{keeps_keys, shape_of_kind}
use Rattle.vocabulary.specs.Shapes.{is_bimap}

-- a row that comes, with its spot
abbrev pub Coming : Type 0
Coming = Spot × Item

-- the numbers of the rows that go, the keys that keep their place though their rows go, and the rows that come, in order
pub record Edit : Type 0 where
  pub gone : List ℕ
  pub held : List Elem
  pub added : List Coming

abbrev pub removing : List ℕ → Edit
removing gone = record { gone = gone; held = []; added = [] }

-- rows that come to the same spot, one after another
abbrev pub coming : Spot → List Item → List Coming
coming spot rows = map (λ row. (spot, row)) rows

abbrev pub adding_rows : List Coming → Edit
adding_rows added = record { gone = []; held = []; added = added }

abbrev pub adding : Spot → List Item → Edit
adding spot rows = adding_rows (coming spot rows)

-- ---- the rows

abbrev pub goes : List ℕ → ℕ → Bool
goes gone n = list_any (λ g. nat_eq g n) gone

-- the rows that stay, where the first row has the number n
abbrev pub without_rows : List ℕ → ℕ → List Item → List Item
without_rows gone n [] = []
without_rows gone n (row ∷ rows) = if goes gone n then without_rows gone (n + 1) rows else row ∷ without_rows gone (n + 1) rows

-- the rows after one came, and after several, one after another
abbrev pub with_coming : Kind → List Item → Coming → List Item
with_coming kind rows new = placed_at kind new.0 rows new.1

abbrev pub placed_all : Kind → List Item → List Coming → List Item
placed_all kind rows added = fold (with_coming kind) rows added

-- whether a base takes them all
abbrev pub takes_all : Kind → List Item → List Coming → Bool
takes_all kind rows [] = true
takes_all kind rows (new ∷ added) = takes_row kind new.0 rows new.1 && takes_all kind (with_coming kind rows new) added

-- ---- the keys

abbrev pub has_row : List Item → Elem → Bool
has_row rows k = list_any (λ row. same k (key_of row)) rows

-- the keys of a base that keeps them: one without a row goes unless it is held, and a new one comes last
abbrev pub keys_after : Kind → Edit → List Item → List Elem → List Elem
keys_after kind edit left keys =
    if keeps_keys kind then fold with_key (filter (λ k. is_among edit.held k || has_row left k) keys) (map (λ (new : Coming). key_of new.1) edit.added) else keys

-- ---- the base

-- whether the change number rises: where rows went or new ones came, and in a bimap where a pair became another
abbrev pub is_structural : Kind → List Item → List Item → List Item → Bool
is_structural kind rows left after = nat_lt (length left) (length rows) || nat_lt (length left) (length after) || (is_bimap (shape_of_kind kind) && not (pointwise same_item left after))

-- a base with other rows and keys; its change number rises by one where it is to
abbrev pub with_rows : Base → List Item → List Elem → Bool → Base
with_rows it rows keys structural = record { kind = it.kind; rows = rows; keys = keys; change = it.change + (if structural then 1 else 0); frozen = it.frozen }

abbrev pub edited : Base → Edit → Base
edited it edit =
    let left = without_rows edit.gone 0 it.rows in
    let after = placed_all it.kind left edit.added in
    with_rows it after (keys_after it.kind edit left it.keys) (is_structural it.kind it.rows left after)

-- whether a base takes an edit
abbrev pub takes_edit : Base → Edit → Bool
takes_edit it edit = takes_all it.kind (without_rows edit.gone 0 it.rows) edit.added

-- ---- what a call does to a base: an edit of its rows, or writes on its ranges

pub data Change : Type 0 where
  an_edit : Edit → Change
  range_writes : List RangeWrite → Change

-- a base of ranges after writes; its change number rises by one where the rows are not the same then
abbrev pub with_ranges : Base → List Item → Base
with_ranges it after = with_rows it after it.keys (not (pointwise same_item it.rows after))

abbrev pub changed_by : Base → Change → Base
changed_by it (an_edit edit) = edited it edit
changed_by it (range_writes writes) = with_ranges it (written_all it.rows writes)

abbrev pub takes_change : Base → Change → Bool
takes_change it (an_edit edit) = takes_edit it edit
takes_change it (range_writes writes) = true

-- the bases after a change of base b
abbrev pub world_after : World → ℕ → Change → World
world_after world b change = slice_set world b (changed_by (base_at world b) change)
