-- Places: what a step finds at a place by what is there below it, and in which places its candidates stand, by families.
use Rattle.std.specs.Prelude.{zero, suc, ℕ, ◌+◌, ◌-◌, Bool, true, false, ◌&&◌, nat_lt, if◌then◌else◌, List, [], ◌∷◌, map, filter, reverse, flat_map, take, drop, length, Option, None, Some, option_map}
use Rattle.elem.specs.declared.elements.Elem.{Elem}
use Rattle.elem.specs.Elements.{same}
use Rattle.vocabulary.specs.declared.items.Item.{Item}
use Rattle.vocabulary.specs.declared.items.Item.TheVariants.{Piece}
use Rattle.vocabulary.specs.declared.items.Side.{Side}
use Rattle.vocabulary.specs.declared.items.Side.TheVariants.{First}
use Rattle.vocabulary.specs.declared.step_table.Family.{Family}
use Rattle.vocabulary.specs.declared.step_table.Family.TheVariants.{Same, Changed, Turned, Keyed, Hidden, Cut, Grouped, Run, Pieces}
use Rattle.vocabulary.specs.declared.steps.Step.{Step}
use Rattle.vocabulary.specs.declared.sublists.Sublist.{Sublist}
use Rattle.vocabulary.specs.Items.{no_element, part_of}
use Rattle.vocabulary.specs.Steps.{group_item, item_of, length_of_pieces, passes, run_in, side_of}
use Rattle.machine.specs.Candidates.{Candidate, is_seen, members, piece_count}
use Rattle.machine.specs.KeyOrders.{AsTheyCome, KeyOrder, arranged, each_once}
use Rattle.view_laws.specs.declared.places.Found.{Found}
use Rattle.view_laws.specs.declared.places.Place.{Place}
use Rattle.view_laws.specs.declared.places.RowSpot.{RowSpot}
use Rattle.view_laws.specs.declared.places.RowSpot.TheVariants.{Index}

-- ---- what is found

-- what a candidate shows
abbrev pub found_in : Candidate → Found
found_in c = record { item = c.item; seen = c.seen }

abbrev pub found_row : Item → Found
found_row row = record { item = row; seen = true }

abbrev pub found_changed : (Item → Item) → Found → Found
found_changed f d = record { item = f d.item; seen = d.seen }

abbrev pub found_if : (Item → Bool) → Found → Found
found_if p d = record { item = d.item; seen = d.seen && p d.item }

-- the group of a member: it is seen where one of its members is
abbrev pub found_group : Side → (Elem → ℕ → Item) → List Candidate → Found → Found
found_group side make cs d =
    let size = length (members side (part_of side d.item) cs) in
    record { item = make (part_of side d.item) size; seen = nat_lt 0 size }

abbrev pub makes_groups : Family → Bool
makes_groups Grouped = true
makes_groups other = false

-- what a step has at a place, by what the view below has there and by the candidates of that
abbrev pub found_over : Family → Step → List Candidate → Found → Found
found_over Same step cs d = d
found_over Changed step cs d = found_changed (item_of step) d
found_over Turned step cs d = d
found_over Keyed step cs d = found_changed (item_of step) d
found_over Hidden step cs d = found_if (passes step) d
found_over Cut step cs d = found_changed (item_of step) d
found_over Grouped step cs d = found_group (side_of step) (group_item step) cs d
found_over Run step cs d = d
found_over Pieces step cs d = d

-- one of so many pieces, which stands at its number
abbrev pub piece_at : ℕ → RowSpot → Option Found
piece_at count (Index i) = if nat_lt i count then Some (record { item = Piece i; seen = true }) else None
piece_at count other = None

abbrev pub shown_over : Family → Step → List Candidate → (Place → Option Found) → Place → Option Found
shown_over Pieces step cs at p = piece_at (piece_count (length_of_pieces step) (length (filter is_seen cs))) p.spot
shown_over family step cs at p = option_map (found_over family step cs) (at p)

-- ---- tests of what is found

abbrev pub passes_at : (Item → Bool) → Option Found → Bool
passes_at p None = false
passes_at p (Some d) = p d.item

abbrev pub is_seen_at : Option Found → Bool
is_seen_at None = false
is_seen_at (Some d) = d.seen

abbrev pub part_at : Side → Option Found → Elem
part_at side None = no_element
part_at side (Some d) = part_of side d.item

-- whether the item at a place has a key by a side
abbrev pub has_part_at : Side → (Place → Option Found) → Elem → Place → Bool
has_part_at side at k p = passes_at (λ item. same k (part_of side item)) (at p)

-- ---- places

-- the keys by a side, each once and in an order
abbrev pub keys_at : Side → KeyOrder → (Place → Option Found) → List Place → List Elem
keys_at side order at ps = arranged order (each_once (map (λ p. part_at side (at p)) ps))

abbrev pub first_only : {X : Type 0} → List X → List X
first_only [] = []
first_only (x ∷ xs) = x ∷ []

-- the first place of each key, in an order of the keys
abbrev pub heads : Side → KeyOrder → (Place → Option Found) → List Place → List Place
heads side order at ps = flat_map (λ k. first_only (filter (has_part_at side at k) ps)) (keys_at side order at ps)

-- the places in the order of their keys, those of each in their order
abbrev pub places_by_key : KeyOrder → (Place → Option Found) → List Place → List Place
places_by_key AsTheyCome at ps = ps
places_by_key order at ps = flat_map (λ k. filter (has_part_at First at k) ps) (keys_at First order at ps)

-- the places of a run of what is seen
abbrev pub places_of_run : Sublist → (Place → Option Found) → List Place → List Place
places_of_run s at ps = take s.len (drop s.start (filter (λ p. is_seen_at (at p)) ps))

-- so many pieces, the first of which has the number i
abbrev pub places_of_pieces : ℕ → ℕ → List Place
places_of_pieces i zero = []
places_of_pieces i (suc more) = record { leaf = 0; spot = Index i } ∷ places_of_pieces (i + 1) more

-- the places of a step over a view, by those of the view and what it has there: a group stands where its first member stands
abbrev pub places_over : Family → Step → KeyOrder → (Place → Option Found) → List Place → List Place
places_over Same step order at ps = ps
places_over Changed step order at ps = ps
places_over Turned step order at ps = reverse ps
places_over Keyed step order at ps = places_by_key order at ps
places_over Hidden step order at ps = ps
places_over Cut step order at ps = filter (λ p. passes_at (passes step) (at p)) ps
places_over Grouped step order at ps = heads (side_of step) order at ps
places_over Run step order at ps = places_of_run (run_in step) at ps
places_over Pieces step order at ps = places_of_pieces 0 (piece_count (length_of_pieces step) (length (filter (λ p. is_seen_at (at p)) ps)))

-- ---- places of the second of two views, the first of which stands over n bases

abbrev pub shifted : ℕ → Place → Place
shifted n p = record { leaf = p.leaf + n; spot = p.spot }

abbrev pub unshifted : ℕ → Place → Place
unshifted n p = record { leaf = p.leaf - n; spot = p.spot }
