-- Candidates of a view's walk, and one list function for each family of steps.
use Rattle.vocabulary.specs.declared.items.Item.TheVariants.{Piece}
use Rattle.std.specs.Prelude.{zero, suc, ℕ, ◌+◌, Bool, true, ◌&&◌, nat_lt, List, [], ◌∷◌, map, reverse, length, filter, flat_map, take, ◌-◌, suc, drop, ◌/◌}
use Rattle.elem.specs.declared.elements.Elem.{Elem}
use Rattle.elem.specs.Elements.{same}
use Rattle.vocabulary.specs.declared.items.Item.{Item}
use Rattle.vocabulary.specs.declared.items.Side.{Side}
use Rattle.vocabulary.specs.declared.items.Side.TheVariants.{First}
use Rattle.vocabulary.specs.declared.step_table.Family.{Family}
use Rattle.vocabulary.specs.declared.step_table.Family.TheVariants.{Same, Changed, Turned, Keyed, Hidden, Cut, Grouped, Run, Pieces}
use Rattle.vocabulary.specs.declared.steps.Step.{Step}
use Rattle.vocabulary.specs.declared.sublists.Sublist.{Sublist}
use Rattle.machine.specs.KeyOrders.{AsTheyCome, KeyOrder, arranged, each_once}
use Rattle.vocabulary.specs.Items.{part_of}
use Rattle.vocabulary.specs.Steps.{group_item, item_of, length_of_pieces, passes, run_in, side_of}

-- a candidate of a view's walk: the numbers of the rows that it stands for, its item, and whether it is seen
pub record Candidate : Type 0 where
  pub rows : List ℕ
  pub item : Item
  pub seen : Bool

abbrev pub item_in : Candidate → Item
item_in c = c.item

abbrev pub is_seen : Candidate → Bool
is_seen c = c.seen

-- one candidate for each row, the first of which has the number n
abbrev pub of_rows : ℕ → List Item → List Candidate
of_rows n [] = []
of_rows n (row ∷ rows) = record { rows = n ∷ []; item = row; seen = true } ∷ of_rows (n + 1) rows

abbrev pub with_item : (Item → Item) → Candidate → Candidate
with_item f c = record { rows = c.rows; item = f c.item; seen = c.seen }

-- the candidates with each item changed
abbrev pub changed : (Item → Item) → List Candidate → List Candidate
changed f cs = map (with_item f) cs

abbrev pub seen_if : (Item → Bool) → Candidate → Candidate
seen_if p c = record { rows = c.rows; item = c.item; seen = c.seen && p c.item }

-- the candidates of which those whose items do not pass are hidden
abbrev pub hidden : (Item → Bool) → List Candidate → List Candidate
hidden p cs = map (seen_if p) cs

-- the candidates whose items pass
abbrev pub cut : (Item → Bool) → List Candidate → List Candidate
cut p cs = filter (λ c. p c.item) cs

-- ---- candidates with the same key

-- the keys by a side, hidden candidates included, each once and in an order
abbrev pub keys_in : Side → KeyOrder → List Candidate → List Elem
keys_in side order cs = arranged order (each_once (map (λ (c : Candidate). part_of side c.item) cs))

-- the candidates of a key, and those of them that are seen
abbrev pub of_key : Side → Elem → List Candidate → List Candidate
of_key side k cs = cut (λ item. same k (part_of side item)) cs

abbrev pub members : Side → Elem → List Candidate → List Candidate
members side k cs = filter is_seen (of_key side k cs)

-- the candidates in the order of their keys, those of each in their order
abbrev pub in_key_order : KeyOrder → List Candidate → List Candidate
in_key_order AsTheyCome cs = cs
in_key_order order cs = flat_map (λ k. of_key First k cs) (keys_in First order cs)

-- the group of a key stands for the rows of its members, and is seen where it has one
abbrev pub group : Side → (Elem → ℕ → Item) → List Candidate → Elem → Candidate
group side make cs k =
    let those = members side k cs in
    record { rows = flat_map (λ (c : Candidate). c.rows) those; item = make k (length those); seen = nat_lt 0 (length those) }

-- one candidate for each key
abbrev pub grouped : Side → (Elem → ℕ → Item) → KeyOrder → List Candidate → List Candidate
grouped side make order cs = map (group side make cs) (keys_in side order cs)

-- ---- runs of what is shown

-- the seen candidates from the start of a sublist on, as many as it is long
abbrev pub run_of : Sublist → List Candidate → List Candidate
run_of s cs = take s.len (drop s.start (filter is_seen cs))

-- how many runs of n there are among so many items, the last of which may be shorter
abbrev pub piece_count : ℕ → ℕ → ℕ
piece_count n size = (size + (n - 1)) / n

-- so many pieces, the first of which has the number i; a piece stands for no row
abbrev pub pieces_from : ℕ → ℕ → List Candidate
pieces_from i zero = []
pieces_from i (suc more) = record { rows = []; item = Piece i; seen = true } ∷ pieces_from (i + 1) more

-- ---- the candidates of a step over a view, by the step's family, where keys go in an order
abbrev pub in_family : Family → Step → KeyOrder → List Candidate → List Candidate
in_family Same step order cs = cs
in_family Changed step order cs = changed (item_of step) cs
in_family Turned step order cs = reverse cs
in_family Keyed step order cs = changed (item_of step) (in_key_order order cs)
in_family Hidden step order cs = hidden (passes step) cs
in_family Cut step order cs = changed (item_of step) (cut (passes step) cs)
in_family Grouped step order cs = grouped (side_of step) (group_item step) order cs
in_family Run step order cs = run_of (run_in step) cs
in_family Pieces step order cs = pieces_from 0 (piece_count (length_of_pieces step) (length (filter is_seen cs)))
