-- Rows that come: how many there are then, and where they stand.
use Rattle.std.proofs.Common.{◌≡◌, ◌+◌, ◌≤◌, Bool, true, false, cond, ◌&&◌, ◌||◌, List, [], ◌∷◌, length, map, refl, ap, sym, ◌∙◌, subst, arith, ◌++◌, append_assoc}
use Rattle.std.specs.Prelude.{Some, None, find, is_some}
use Rattle.std.specs.List.{IsDistinct, AllByRecursion}
use Rattle.std.proofs.lemmas.List.{append-nil}
use Rattle.elem.specs.declared.elements.Elem.{Elem}
use Rattle.elem.specs.Elements.{same}
use Rattle.vocabulary.specs.declared.items.Item.{Item}
use Rattle.vocabulary.specs.declared.kinds.Kind.{Kind}
use Rattle.vocabulary.specs.declared.edits.Spot.TheVariants.{Own}
use Rattle.vocabulary.specs.declared.orders.Order.{Order}
use Rattle.vocabulary.specs.declared.shapes.Shape.{Shape}
use Rattle.machine.specs.Placing.{follows, placed, precedes, replaces, settled}
use Rattle.machine.specs.Edits.{coming, placed_all}
use Rattle.vocabulary.specs.Items.{key_of, second_of}
use Rattle.vocabulary.specs.Kinds.{order_of_kind, shape_of_kind}
use Rattle.vocabulary.specs.Known.{is_known_kind}
use Rattle.vocabulary.specs.Orders.{before}
use Rattle.vocabulary.specs.Shapes.{is_keyed, is_list, is_sorted}
use Rattle.view_steps.proofs.KindLemmas.{no_follower, replaces_by_key}
use Rattle.view_steps.proofs.KindTable.{kind_shape, precedes_by_key}
use Rattle.view_steps.proofs.KnownShapes.{list_unkeyed, list_unsorted, sorted_keyed}
use Rattle.view_steps.proofs.ListLemmas.{and-false, never, or-false}

-- as many rows, or one more
pub record IsUpToOneMore (rows more : List Item) : Type 0 where
  pub low : length rows ≤ length more
  pub high : length more ≤ length rows + 1

pub placed_count : (kind : Kind) (rows : List Item) (new : Item) → IsUpToOneMore rows (placed kind rows new)
placed_count kind [] new = record { low = omega arith; high = omega arith }
placed_count kind (row ∷ rows) new =
    let rest : IsUpToOneMore rows (placed kind rows new) = placed_count kind rows new in
    elim (replaces kind new row) as (λ b. IsUpToOneMore (row ∷ rows) (cond b (settled new row ∷ rows) (cond (precedes kind new row) (new ∷ row ∷ rows) (cond (follows kind new row rows) (row ∷ new ∷ rows) (row ∷ placed kind rows new))))) [
      | true ↦ record { low = omega arith; high = omega arith }
      | false ↦ elim (precedes kind new row) as (λ b. IsUpToOneMore (row ∷ rows) (cond b (new ∷ row ∷ rows) (cond (follows kind new row rows) (row ∷ new ∷ rows) (row ∷ placed kind rows new)))) [
        | true ↦ record { low = omega arith; high = omega arith }
        | false ↦ elim (follows kind new row rows) as (λ b. IsUpToOneMore (row ∷ rows) (cond b (row ∷ new ∷ rows) (row ∷ placed kind rows new))) [
          | true ↦ record { low = omega arith; high = omega arith }
          | false ↦ record { low = omega (arith, rest.low); high = omega (arith, rest.high) }
        ]
      ]
    ]

-- a row of a known kind that takes no other's place comes before the first that it precedes, or last
passes_by : (kind : Kind) → is_known_kind kind ≡ true → (row : Item) (rows : List Item) (new : Item) → replaces kind new row ≡ false
    → placed kind (row ∷ rows) new ≡ cond (precedes kind new row) (new ∷ row ∷ rows) (row ∷ placed kind rows new)
passes_by kind known row rows new other =
    ap (λ b. cond b (settled new row ∷ rows) (cond (precedes kind new row) (new ∷ row ∷ rows) (cond (follows kind new row rows) (row ∷ new ∷ rows) (row ∷ placed kind rows new)))) other
    ∙ ap (λ b. cond (precedes kind new row) (new ∷ row ∷ rows) (cond b (row ∷ new ∷ rows) (row ∷ placed kind rows new))) (no_follower kind known new row rows)

takes_its_place : (kind : Kind) (row : Item) (rows : List Item) (new : Item) → replaces kind new row ≡ true → placed kind (row ∷ rows) new ≡ settled new row ∷ rows
takes_its_place kind row rows new same =
    ap (λ b. cond b (settled new row ∷ rows) (cond (precedes kind new row) (new ∷ row ∷ rows) (cond (follows kind new row rows) (row ∷ new ∷ rows) (row ∷ placed kind rows new)))) same

other_key : (kind : Kind) → is_known_kind kind ≡ true → (row new : Item) → same (key_of new) (key_of row) ≡ false → replaces kind new row ≡ false
other_key kind known row new is = replaces_by_key kind known new row ∙ ap (λ b. is_keyed (shape_of_kind kind) && b) is ∙ and-false (is_keyed (shape_of_kind kind))

same_key : (kind : Kind) → is_known_kind kind ≡ true → (row new : Item) → is_keyed (shape_of_kind kind) ≡ true → same (key_of new) (key_of row) ≡ true → replaces kind new row ≡ true
same_key kind known row new keyed is = replaces_by_key kind known new row ∙ rw (keyed, is) refl

true≢false : true ≡ false → ⊥
true≢false e = absurd (cc)

-- what no row of a list has, no search finds
nothing_found : (k : Elem) (rows : List Item) → AllByRecursion (λ y. same k y ≡ false) (map key_of rows) → find (λ row. same k (key_of row)) rows ≡ None
nothing_found k [] all = refl
nothing_found k (row ∷ rows) all = ap (λ b. cond b (Some row) (find (λ r. same k (key_of r)) rows)) all.0 ∙ nothing_found k rows all.1

-- in a base that goes by key a row is one more where no row has its key
pub keyed_new : (kind : Kind) → is_known_kind kind ≡ true → (rows : List Item) (new : Item) → is_keyed (shape_of_kind kind) ≡ true → is_some (find (λ row. same (key_of new) (key_of row)) rows) ≡ false → length (placed kind rows new) ≡ length rows + 1
keyed_new kind known [] new keyed none = refl
keyed_new kind known (row ∷ rows) new keyed none = by (keyed_new kind known rows new keyed) (same (key_of new) (key_of row)) refl none
  where
    by : (is_some (find (λ r. same (key_of new) (key_of r)) rows) ≡ false → length (placed kind rows new) ≡ length rows + 1) → (t : Bool) → same (key_of new) (key_of row) ≡ t → is_some (cond t (Some row) (find (λ r. same (key_of new) (key_of r)) rows)) ≡ false
        → length (placed kind (row ∷ rows) new) ≡ length (row ∷ rows) + 1
    by more true is h = absurd (cc)
    by more false is h =
        let rest : length (placed kind rows new) ≡ length rows + 1 = more h in
        ap length (passes_by kind known row rows new (other_key kind known row new is))
        ∙ elim (precedes kind new row) as (λ b. length (cond b (new ∷ row ∷ rows) (row ∷ placed kind rows new)) ≡ length (row ∷ rows) + 1) [
          | true ↦ omega arith
          | false ↦ omega (arith, rest)
        ]

-- and it takes the place of another where one has, since no key is there twice afterwards
pub keyed_old : (kind : Kind) → is_known_kind kind ≡ true → (rows : List Item) (new : Item) → is_keyed (shape_of_kind kind) ≡ true → is_some (find (λ row. same (key_of new) (key_of row)) rows) ≡ true → IsDistinct same (map key_of (placed kind rows new)) → length (placed kind rows new) ≡ length rows
unfolding IsDistinct
keyed_old kind known [] new keyed some distinct = absurd (cc)
keyed_old kind known (row ∷ rows) new keyed some distinct = by (keyed_old kind known rows new keyed) (same (key_of new) (key_of row)) refl some distinct
  where
    ordered : (is_some (find (λ r. same (key_of new) (key_of r)) (row ∷ rows)) ≡ true) → (IsDistinct same (map key_of (placed kind rows new)) → length (placed kind rows new) ≡ length rows) → (b : Bool)
        → IsDistinct same (map key_of (cond b (new ∷ row ∷ rows) (row ∷ placed kind rows new))) → length (cond b (new ∷ row ∷ rows) (row ∷ placed kind rows new)) ≡ length (row ∷ rows)
    ordered h more true twice =
        let none : find (λ r. same (key_of new) (key_of r)) (row ∷ rows) ≡ None = nothing_found (key_of new) (row ∷ rows) twice.0 in
        absurd (true≢false (sym h ∙ ap is_some none))
    ordered h more false d = omega (arith, more d.1)

    by : (is_some (find (λ r. same (key_of new) (key_of r)) rows) ≡ true → IsDistinct same (map key_of (placed kind rows new)) → length (placed kind rows new) ≡ length rows) → (t : Bool) → same (key_of new) (key_of row) ≡ t
        → is_some (find (λ r. same (key_of new) (key_of r)) (row ∷ rows)) ≡ true → IsDistinct same (map key_of (placed kind (row ∷ rows) new)) → length (placed kind (row ∷ rows) new) ≡ length (row ∷ rows)
    by more true is h d = ap length (takes_its_place kind row rows new (same_key kind known row new keyed is))
    by more false is h d =
        let steps : placed kind (row ∷ rows) new ≡ cond (precedes kind new row) (new ∷ row ∷ rows) (row ∷ placed kind rows new) = passes_by kind known row rows new (other_key kind known row new is) in
        let found : is_some (find (λ r. same (key_of new) (key_of r)) rows) ≡ true = rw is at h in
        ap (λ (rs : List Item). length rs) steps ∙ ordered h (more found) (precedes kind new row) (subst (λ (rs : List Item). IsDistinct same (map key_of rs)) steps d)

-- in a list it always is
pub unkeyed : (kind : Kind) → is_known_kind kind ≡ true → (rows : List Item) (new : Item) → is_keyed (shape_of_kind kind) ≡ false → length (placed kind rows new) ≡ length rows + 1
unkeyed kind known [] new list = refl
unkeyed kind known (row ∷ rows) new list =
    let rest : length (placed kind rows new) ≡ length rows + 1 = unkeyed kind known rows new list in
    let other : replaces kind new row ≡ false = replaces_by_key kind known new row ∙ ap (λ b. b && same (key_of new) (key_of row)) list in
    ap length (passes_by kind known row rows new other)
    ∙ elim (precedes kind new row) as (λ b. length (cond b (new ∷ row ∷ rows) (row ∷ placed kind rows new)) ≡ length (row ∷ rows) + 1) [
      | true ↦ omega arith
      | false ↦ omega (arith, rest)
    ]

-- where a row of a known kind comes is told by its key alone
by_key : (keyed sorted is comes less : Bool) → (sorted ≡ true → keyed ≡ true) → (first second third : List Item) → cond (keyed && is) first (cond (sorted && (comes || (is && less))) second third) ≡ cond (keyed && is) first (cond (sorted && comes) second third)
by_key keyed false is comes less has first second third = refl
by_key true true true comes less has first second third = refl
by_key true true false comes less has first second third = ap (λ b. cond b second third) (or-false comes)
by_key false true is comes less has first second third = absurd (never false refl (has refl))

abbrev pub by_keys : Kind → Item → List Item → Item → List Item
by_keys kind row rows new =
    cond (is_keyed (shape_of_kind kind) && same (key_of new) (key_of row)) (settled new row ∷ rows) (cond (is_sorted (shape_of_kind kind) && before (order_of_kind kind) (key_of new) (key_of row)) (new ∷ row ∷ rows) (row ∷ placed kind rows new))

pub placed_by_key : (kind : Kind) → is_known_kind kind ≡ true → (row : Item) (rows : List Item) (new : Item) → placed kind (row ∷ rows) new ≡ by_keys kind row rows new
placed_by_key kind known row rows new =
    let of : Shape = shape_of_kind kind in
    let order : Order = order_of_kind kind in
    (λ i. cond (replaces_by_key kind known new row i) (settled new row ∷ rows)
    (cond (precedes_by_key kind known new row i) (new ∷ row ∷ rows) (cond (no_follower kind known new row rows i) (row ∷ new ∷ rows) (row ∷ placed kind rows new))))
    ∙ by_key (is_keyed of) (is_sorted of) (same (key_of new) (key_of row)) (before order (key_of new) (key_of row)) (before order (second_of new) (second_of row)) (sorted_keyed of (kind_shape kind known))
    (settled new row ∷ rows) (new ∷ row ∷ rows) (row ∷ placed kind rows new)

-- ---- rows that come to a list

pub placed-last : (kind : Kind) → is_known_kind kind ≡ true → is_list (shape_of_kind kind) ≡ true → (rows : List Item) (item : Item) → placed kind rows item ≡ rows ++ item ∷ []
placed-last kind known list [] item = refl
placed-last kind known list (row ∷ rows) item =
    let of : Shape = shape_of_kind kind in
    placed_by_key kind known row rows item
    ∙ (λ i. cond (list_unkeyed of list i && same (key_of item) (key_of row)) (settled item row ∷ rows)
    (cond (list_unsorted of list i && before (order_of_kind kind) (key_of item) (key_of row)) (item ∷ row ∷ rows) (row ∷ placed kind rows item)))
    ∙ ap (λ (rest : List Item). row ∷ rest) (placed-last kind known list rows item)

pub own_all : (kind : Kind) → is_known_kind kind ≡ true → is_list (shape_of_kind kind) ≡ true → (rows added : List Item) → placed_all kind rows (coming Own added) ≡ rows ++ added
own_all kind known list rows [] = sym (append-nil rows)
own_all kind known list rows (item ∷ added) =
    ap (λ (now : List Item). placed_all kind now (coming Own added)) (placed-last kind known list rows item)
    ∙ own_all kind known list (rows ++ item ∷ []) added ∙ append_assoc rows (item ∷ []) added
