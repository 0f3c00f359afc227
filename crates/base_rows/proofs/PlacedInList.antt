-- Rows that come to a list stand together, and go again.
use Rattle.std.proofs.Common.{◌≡◌, ℕ, suc, ◌+◌, ◌≤◌, List, [], ◌∷◌, ◌++◌, length, take, drop, refl, ap, sym, ◌∙◌, arith, append_assoc, length-append}
use Rattle.std.specs.Prelude.{insert}
use Rattle.std.specs.List.{remove_range}
use Rattle.std.proofs.lemmas.List.{take-append-drop, length-take-le, take_at, drop_at, append-nil}
use Rattle.vocabulary.specs.declared.edits.Spot.TheVariants.{Own, Before}
use Rattle.vocabulary.specs.declared.items.Item.{Item}
use Rattle.vocabulary.specs.declared.kinds.Kind.TheVariants.{ArrayList}
use Rattle.machine.specs.Edits.{coming, placed_all}
use Rattle.machine.specs.Placing.{placed}

pub placed-last : (rows : List Item) (item : Item) → placed ArrayList rows item ≡ rows ++ item ∷ []
placed-last [] item = refl
placed-last (row ∷ rows) item = ap (λ (rest : List Item). row ∷ rest) (placed-last rows item)

-- rows that came to a list stand together at the index of their spot
pub record Stands (i : ℕ) (rows new : List Item) (count : ℕ) : Type 0 where
  pub middle : List Item
  pub counted : length middle ≡ count
  pub whole : new ≡ take i rows ++ (middle ++ drop i rows)

pub own_all : (rows added : List Item) → placed_all ArrayList rows (coming Own added) ≡ rows ++ added
own_all rows [] = sym (append-nil rows)
own_all rows (item ∷ added) = ap (λ (now : List Item). placed_all ArrayList now (coming Own added)) (placed-last rows item) ∙ own_all (rows ++ item ∷ []) added ∙ append_assoc rows (item ∷ []) added

pub before_all : (i : ℕ) (rows added : List Item) → i ≤ length rows → Stands i rows (placed_all ArrayList rows (coming (Before i) added)) (length added)
before_all i rows [] h = record { middle = []; counted = refl; whole = sym (take-append-drop i rows) }
before_all i rows (item ∷ added) h =
    let long : length (take i rows) ≡ i = length-take-le i rows h in
    let more : i ≤ length (insert rows i item) = omega (arith, length-append (take i rows) (item ∷ drop i rows)) in
    let s : Stands i (insert rows i item) (placed_all ArrayList (insert rows i item) (coming (Before i) added)) (length added) = before_all i (insert rows i item) added more in
    let front : take i (insert rows i item) ≡ take i rows = take_at (take i rows) (item ∷ drop i rows) i long in
    let rest : drop i (insert rows i item) ≡ item ∷ drop i rows = drop_at (take i rows) (item ∷ drop i rows) i long in
    record {
      middle = s.middle ++ item ∷ [];
      counted = (let e : length (s.middle ++ item ∷ []) ≡ suc (length added) = omega (arith, length-append s.middle (item ∷ []), s.counted) in e);
      whole = s.whole ∙ (λ j. front j ++ (s.middle ++ rest j)) ∙ ap (λ (l : List Item). take i rows ++ l) (sym (append_assoc s.middle (item ∷ []) (drop i rows)));
    }

pub more_rows : (i : ℕ) (rows new : List Item) (count : ℕ) → Stands i rows new count → length new ≡ length rows + count
more_rows i rows new count s =
    omega (arith, ap length s.whole, length-append (take i rows) (s.middle ++ drop i rows), length-append s.middle (drop i rows), length-append (take i rows) (drop i rows), ap length (take-append-drop i rows), s.counted)

-- the rows that came, and no others, go again
pub taken_back : (i to : ℕ) (rows new : List Item) (count : ℕ) → i ≤ length rows → Stands i rows new count → to ≡ i + count → remove_range new i to ≡ rows
taken_back i to rows new count h s e =
    let long : length (take i rows) ≡ i = length-take-le i rows h in
    let front : take i new ≡ take i rows = ap (take i) s.whole ∙ take_at (take i rows) (s.middle ++ drop i rows) i long in
    let far : length (take i rows ++ s.middle) ≡ to = omega (arith, length-append (take i rows) s.middle, s.counted) in
    let rest : drop to new ≡ drop i rows = ap (drop to) (s.whole ∙ sym (append_assoc (take i rows) s.middle (drop i rows))) ∙ drop_at (take i rows ++ s.middle) (drop i rows) to far in
    (λ j. front j ++ rest j) ∙ take-append-drop i rows
