-- A pair of a bimap whose value tells its place: how many pairs there are once it came.
use Rattle.std.proofs.Common.{◌≡◌, ◌+◌, Bool, true, false, cond, List, [], ◌∷◌, length, map, refl, ap, ◌∙◌, subst, arith}
use Rattle.std.specs.Prelude.{Some, find, is_some}
use Rattle.std.specs.List.{IsDistinct, AllByRecursion}
use Rattle.std.proofs.lemmas.List.{length-map}
use Rattle.elem.specs.declared.elements.Elem.{Elem}
use Rattle.elem.specs.Elements.{same}
use Rattle.vocabulary.specs.declared.edits.Spot.TheVariants.{Swapped}
use Rattle.vocabulary.specs.declared.items.Item.{Item}
use Rattle.vocabulary.specs.declared.items.Item.TheVariants.{Entry}
use Rattle.vocabulary.specs.declared.kinds.Kind.{Kind}
use Rattle.vocabulary.specs.Items.{key_of, second_of, swapped}
use Rattle.vocabulary.specs.Kinds.{shape_of_kind}
use Rattle.vocabulary.specs.Known.{is_known_kind}
use Rattle.vocabulary.specs.Shapes.{is_keyed}
use Rattle.machine.specs.Placing.{follows, placed, placed_at, precedes, replaces, settled}
use Rattle.view_laws.specs.Narrowing.{is_entry}
use Rattle.view_steps.proofs.PlacedRows.{IsUpToOneMore, keyed_new, keyed_old, placed_count}

abbrev pub ArePairs : List Item → Type 0
ArePairs rows = AllByRecursion (λ (row : Item). is_entry row ≡ true) rows

swapped_key : (item : Item) → is_entry item ≡ true → key_of (swapped item) ≡ second_of item
swapped_key (Entry k v) h = refl
swapped_key _ h = absurd (cc)

swapped_second : (item : Item) → is_entry item ≡ true → second_of (swapped item) ≡ key_of item
swapped_second (Entry k v) h = refl
swapped_second _ h = absurd (cc)

swapped_pair : (item : Item) → is_entry item ≡ true → is_entry (swapped item) ≡ true
swapped_pair (Entry k v) h = refl
swapped_pair _ h = absurd (cc)

swapped_pairs : (rows : List Item) → ArePairs rows → ArePairs (map swapped rows)
swapped_pairs [] all = tt
swapped_pairs (row ∷ rows) all = (swapped_pair row all.0, swapped_pairs rows all.1)

settled_pair : (new old : Item) → is_entry new ≡ true → is_entry (settled new old) ≡ true
settled_pair (Entry k v) old h = refl
settled_pair _ old h = absurd (cc)

-- pairs stay pairs as one more comes
pub placed_pairs : (kind : Kind) (rows : List Item) (new : Item) → ArePairs rows → is_entry new ≡ true → ArePairs (placed kind rows new)
placed_pairs kind [] new all h = (h, tt)
placed_pairs kind (row ∷ rows) new all h = by (replaces kind new row) (precedes kind new row) (follows kind new row rows) (placed_pairs kind rows new all.1 h)
  where
    by : (first before behind : Bool) → ArePairs (placed kind rows new) → ArePairs (cond first (settled new row ∷ rows) (cond before (new ∷ row ∷ rows) (cond behind (row ∷ new ∷ rows) (row ∷ placed kind rows new))))
    by true before behind rest = (settled_pair new row h, all.1)
    by false true behind rest = (h, all)
    by false false true rest = (all.0, (h, all.1))
    by false false false rest = (all.0, rest)

-- the values of pairs turned round are their keys
keys_of_values : (rows : List Item) → ArePairs rows → map second_of (map swapped rows) ≡ map key_of rows
keys_of_values [] all = refl
keys_of_values (row ∷ rows) all = (λ i. swapped_second row all.0 i ∷ keys_of_values rows all.1 i)

found_by_value : (x : Elem) (rows : List Item) → ArePairs rows → is_some (find (λ row. same x (key_of row)) (map swapped rows)) ≡ is_some (find (λ row. same x (second_of row)) rows)
found_by_value x [] all = refl
found_by_value x (row ∷ rows) all =
    ap (λ (k : Elem). is_some (cond (same x k) (Some (swapped row)) (find (λ r. same x (key_of r)) (map swapped rows)))) (swapped_key row all.0) ∙ by (same x (second_of row)) (found_by_value x rows all.1)
  where
    by : (t : Bool) → is_some (find (λ r. same x (key_of r)) (map swapped rows)) ≡ is_some (find (λ r. same x (second_of r)) rows)
        → is_some (cond t (Some (swapped row)) (find (λ r. same x (key_of r)) (map swapped rows))) ≡ is_some (cond t (Some row) (find (λ r. same x (second_of r)) rows))
    by true rest = refl
    by false rest = rest

value_found : (rows : List Item) (new : Item) (t : Bool) → ArePairs rows → is_entry new ≡ true → is_some (find (λ row. same (second_of new) (second_of row)) rows) ≡ t → is_some (find (λ row. same (key_of (swapped new)) (key_of row)) (map swapped rows)) ≡ t
value_found rows new t all h is = ap (λ (x : Elem). is_some (find (λ row. same x (key_of row)) (map swapped rows))) (swapped_key new h) ∙ found_by_value (second_of new) rows all ∙ is

pub swapped_count : (kind : Kind) (rows : List Item) (new : Item) → IsUpToOneMore rows (placed_at kind Swapped rows new)
swapped_count kind rows new =
    let there : List Item = placed kind (map swapped rows) (swapped new) in
    let more : IsUpToOneMore (map swapped rows) there = placed_count kind (map swapped rows) (swapped new) in
    let long : length (map swapped there) ≡ length there = length-map there swapped in
    let size : length (map swapped rows) ≡ length rows = length-map rows swapped in
    record { low = omega (arith, more.low, long, size); high = omega (arith, more.high, long, size) }

-- it is one more where no pair has its value, and takes the place of that of the same value
pub valued_new : (kind : Kind) → is_known_kind kind ≡ true → (rows : List Item) (new : Item) → is_keyed (shape_of_kind kind) ≡ true → ArePairs rows → is_entry new ≡ true → is_some (find (λ row. same (second_of new) (second_of row)) rows) ≡ false
    → length (placed_at kind Swapped rows new) ≡ length rows + 1
valued_new kind known rows new keyed all h none =
    length-map (placed kind (map swapped rows) (swapped new)) swapped
    ∙ keyed_new kind known (map swapped rows) (swapped new) keyed (value_found rows new false all h none) ∙ ap (λ n. n + 1) (length-map rows swapped)

pub valued_old : (kind : Kind) → is_known_kind kind ≡ true → (rows : List Item) (new : Item) → is_keyed (shape_of_kind kind) ≡ true → ArePairs rows → is_entry new ≡ true → is_some (find (λ row. same (second_of new) (second_of row)) rows) ≡ true
    → IsDistinct same (map second_of (placed_at kind Swapped rows new)) → length (placed_at kind Swapped rows new) ≡ length rows
valued_old kind known rows new keyed all h some distinct =
    let there : List Item = placed kind (map swapped rows) (swapped new) in
    let pairs : ArePairs there = placed_pairs kind (map swapped rows) (swapped new) (swapped_pairs rows all) (swapped_pair new h) in
    length-map there swapped
    ∙ keyed_old kind known (map swapped rows) (swapped new) keyed (value_found rows new true all h some) (subst (λ (xs : List Elem). IsDistinct same xs) (keys_of_values there pairs) distinct)
    ∙ length-map rows swapped
