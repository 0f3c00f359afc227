-- How the list functions of the families pass one another, and the row form of a view.
use Rattle.std.proofs.Common.{◌≡◌, ℕ, ◌+◌, List, [], ◌∷◌, map, reverse, refl, ap, ◌∙◌, Bool, true, false, cond, ◌&&◌, not}
use Rattle.std.specs.Prelude.{filter}
use Rattle.std.proofs.lemmas.List.{reverse-append, map-append, reverse-reverse}
use Rattle.vocabulary.specs.declared.items.Item.{Item}
use Rattle.vocabulary.specs.declared.steps.Step.{Step}
use Rattle.vocabulary.specs.declared.step_table.Family.{Family}
use Rattle.vocabulary.specs.declared.step_table.Family.TheVariants.{Same, Changed, Turned, Keyed, Hidden, Cut, Grouped, Run, Pieces}
use Rattle.vocabulary.specs.Steps.{family_of, item_of, passes}
use Rattle.machine.specs.Bases.{World}
use Rattle.machine.specs.Candidates.{Candidate, changed, cut, hidden, in_family, is_seen, item_in, of_rows, seen_if, with_item}
use Rattle.machine.specs.KeyOrders.{AsTheyCome, ByFirst, Kept, KeyOrder, Sorted}
use Rattle.machine.specs.Leaves.{leaf_at}
use Rattle.machine.specs.Views.{View, base, both, over, base_under, candidates, order_over, shown}
use Rattle.view_laws.specs.Lanes.{turned_if}
use Rattle.view_laws.specs.Places.{found_in}
use Rattle.view_laws.specs.RowForm.{RowForm, candidates_by, form_of, form_over, found_by, found_row_by, goes_by_row, is_by_row, of_leaf, shown_by, shows}
use Rattle.view_laws.proofs.ListLemmas.{and-assoc, both_true, filter-filter, filter-map, filter-reverse}

map-reverse : {X Y : Type 0} (f : X → Y) (xs : List X) → map f (reverse xs) ≡ reverse (map f xs)
map-reverse f [] = refl
map-reverse f (x ∷ xs) = rw (reverse-append (x ∷ []) xs, map-append f (reverse xs) (x ∷ []), map-reverse f xs, reverse-append (f x ∷ []) (map f xs)) refl

changed-changed : (g f : Item → Item) (cs : List Candidate) → changed g (changed f cs) ≡ changed (λ i. g (f i)) cs
changed-changed g f [] = refl
changed-changed g f (c ∷ cs) = ap (λ ds. with_item (λ i. g (f i)) c ∷ ds) (changed-changed g f cs)

hidden-changed : (p : Item → Bool) (f : Item → Item) (cs : List Candidate) → hidden p (changed f cs) ≡ changed f (hidden (λ i. p (f i)) cs)
hidden-changed p f [] = refl
hidden-changed p f (c ∷ cs) = ap (λ ds. seen_if p (with_item f c) ∷ ds) (hidden-changed p f cs)

hidden-hidden : (p q : Item → Bool) (cs : List Candidate) → hidden p (hidden q cs) ≡ hidden (λ i. q i && p i) cs
hidden-hidden p q [] = refl
hidden-hidden p q (c ∷ cs) =
    ap (λ b. record { rows = c.rows; item = c.item; seen = b } ∷ hidden p (hidden q cs)) (and-assoc c.seen (q c.item) (p c.item))
    ∙ ap (λ ds. seen_if (λ i. q i && p i) c ∷ ds) (hidden-hidden p q cs)

cut-changed : (p : Item → Bool) (f : Item → Item) (cs : List Candidate) → cut p (changed f cs) ≡ changed f (cut (λ i. p (f i)) cs)
cut-changed p f cs = filter-map (λ (c : Candidate). p c.item) (with_item f) cs

cut-hidden : (p q : Item → Bool) (cs : List Candidate) → cut p (hidden q cs) ≡ hidden q (cut p cs)
cut-hidden p q cs = filter-map (λ (c : Candidate). p c.item) (seen_if q) cs

cut-cut : (p q : Item → Bool) (cs : List Candidate) → cut p (cut q cs) ≡ cut (λ i. q i && p i) cs
cut-cut p q cs = filter-filter (λ (c : Candidate). p c.item) (λ (c : Candidate). q c.item) cs

pub turned-map : {X Y : Type 0} (f : X → Y) (t : Bool) (xs : List X) → map f (turned_if t xs) ≡ turned_if t (map f xs)
turned-map f true xs = map-reverse f xs
turned-map f false xs = refl

pub turned-filter : {X : Type 0} (p : X → Bool) (t : Bool) (xs : List X) → filter p (turned_if t xs) ≡ turned_if t (filter p xs)
turned-filter p true xs = filter-reverse p xs
turned-filter p false xs = refl

pub turned-round : {X : Type 0} (t : Bool) (xs : List X) → reverse (turned_if t xs) ≡ turned_if (not t) xs
turned-round true xs = reverse-reverse xs
turned-round false xs = refl

-- the law of each family that goes row by row: the step's candidates over a form are those of the form above it
changed_form : (step : Step) (f : RowForm) (rows : List Item) → changed (item_of step) (candidates_by f rows) ≡ candidates_by (form_over Changed step f) rows
changed_form step f rows =
    let kept : List Candidate = hidden f.sees (cut f.takes (of_rows 0 rows)) in
    turned-map (with_item (item_of step)) f.turned (changed f.item kept) ∙ ap (turned_if f.turned) (changed-changed (item_of step) f.item kept)

keyed_form : (order : KeyOrder) (step : Step) (f : RowForm) (rows : List Item) → goes_by_row Keyed order ≡ true → in_family Keyed step order (candidates_by f rows) ≡ candidates_by (form_over Keyed step f) rows
keyed_form AsTheyCome step f rows h = changed_form step f rows
keyed_form ByFirst step f rows h = absurd (cc)
keyed_form (Kept ks) step f rows h = absurd (cc)
keyed_form (Sorted order) step f rows h = absurd (cc)

over_form : (family : Family) (step : Step) (order : KeyOrder) (f : RowForm) (rows : List Item) → goes_by_row family order ≡ true → in_family family step order (candidates_by f rows) ≡ candidates_by (form_over family step f) rows
over_form Same step order f rows h = refl
over_form Changed step order f rows h = changed_form step f rows
over_form Turned step order f rows h = turned-round f.turned (changed f.item (hidden f.sees (cut f.takes (of_rows 0 rows))))
over_form Keyed step order f rows h = keyed_form order step f rows h
over_form Hidden step order f rows h =
    let taken : List Candidate = cut f.takes (of_rows 0 rows) in
    turned-map (seen_if (passes step)) f.turned (changed f.item (hidden f.sees taken))
    ∙ ap (turned_if f.turned) (hidden-changed (passes step) f.item (hidden f.sees taken) ∙ ap (changed f.item) (hidden-hidden (λ i. passes step (f.item i)) f.sees taken))
over_form Cut step order f rows h =
    let all : List Candidate = of_rows 0 rows in
    let p : Item → Bool = λ i. passes step (f.item i) in
    let kept : List Candidate = hidden f.sees (cut f.takes all) in
    ap (changed (item_of step)) (turned-filter (λ (c : Candidate). passes step c.item) f.turned (changed f.item kept))
    ∙ turned-map (with_item (item_of step)) f.turned (cut (passes step) (changed f.item kept))
    ∙ ap (turned_if f.turned)
    (ap (changed (item_of step)) (cut-changed (passes step) f.item kept)
    ∙ changed-changed (item_of step) f.item (cut p kept)
    ∙ ap (changed (λ i. item_of step (f.item i))) (cut-hidden p f.sees (cut f.takes all) ∙ ap (hidden f.sees) (cut-cut p f.takes all)))
over_form Grouped step order f rows h = absurd (cc)
over_form Run step order f rows h = absurd (cc)
over_form Pieces step order f rows h = absurd (cc)

leaf_form : (n : ℕ) (rows : List Item) → of_rows n rows ≡ changed of_leaf.item (hidden of_leaf.sees (cut of_leaf.takes (of_rows n rows)))
leaf_form n [] = refl
leaf_form n (row ∷ rows) = ap (λ cs. record { rows = n ∷ []; item = row; seen = true } ∷ cs) (leaf_form (n + 1) rows)

pub row_law : (world : World) (v : View) → is_by_row world v ≡ true → candidates world v ≡ candidates_by (form_of v) (leaf_at world (base_under v)).rows
row_law world (base l) h = leaf_form 0 (leaf_at world l).rows
row_law world (over step v) h =
    let parts = both_true (goes_by_row (family_of step) (order_over world v step)) (is_by_row world v) h in
    ap (in_family (family_of step) step (order_over world v step)) (row_law world v parts.1)
    ∙ over_form (family_of step) step (order_over world v step) (form_of v) (leaf_at world (base_under v)).rows parts.0
row_law world (both word v u) h = absurd (cc)

-- ---- what the candidates show

rows_found : (f : RowForm) (n : ℕ) (rows : List Item) → map found_in (changed f.item (hidden f.sees (cut f.takes (of_rows n rows)))) ≡ map (found_row_by f) (filter f.takes rows)
rows_found f n [] = refl
rows_found f n (row ∷ rows) =
    elim (f.takes row) as (λ b. map found_in (changed f.item (hidden f.sees (cond b (record { rows = n ∷ []; item = row; seen = true } ∷ cut f.takes (of_rows (n + 1) rows)) (cut f.takes (of_rows (n + 1) rows))))) ≡ map (found_row_by f) (cond b (row ∷ filter f.takes rows) (filter f.takes rows))) [
      | true ↦ ap (λ ds. found_row_by f row ∷ ds) (rows_found f (n + 1) rows)
      | false ↦ rows_found f (n + 1) rows
    ]

pub found_law : (world : World) (v : View) → is_by_row world v ≡ true → map found_in (candidates world v) ≡ found_by (form_of v) (leaf_at world (base_under v)).rows
found_law world v h =
    let f : RowForm = form_of v in
    let rows : List Item = (leaf_at world (base_under v)).rows in
    ap (map found_in) (row_law world v h) ∙ turned-map found_in f.turned (changed f.item (hidden f.sees (cut f.takes (of_rows 0 rows)))) ∙ ap (turned_if f.turned) (rows_found f 0 rows)

-- ---- what is shown

items_seen : (f : RowForm) (n : ℕ) (rows : List Item) → map item_in (filter is_seen (changed f.item (hidden f.sees (cut f.takes (of_rows n rows))))) ≡ map f.item (filter (shows f) rows)
items_seen f n [] = refl
items_seen f n (row ∷ rows) =
    elim (f.takes row) as (λ b. map item_in (filter is_seen (changed f.item (hidden f.sees (cond b (record { rows = n ∷ []; item = row; seen = true } ∷ cut f.takes (of_rows (n + 1) rows)) (cut f.takes (of_rows (n + 1) rows)))))) ≡ map f.item (cond (b && f.sees row) (row ∷ filter (shows f) rows) (filter (shows f) rows))) [
      | true ↦ elim (f.sees row) as (λ b. map item_in (cond b (record { rows = n ∷ []; item = f.item row; seen = b } ∷ filter is_seen (changed f.item (hidden f.sees (cut f.takes (of_rows (n + 1) rows))))) (filter is_seen (changed f.item (hidden f.sees (cut f.takes (of_rows (n + 1) rows)))))) ≡ map f.item (cond b (row ∷ filter (shows f) rows) (filter (shows f) rows))) [
        | true ↦ ap (λ is. f.item row ∷ is) (items_seen f (n + 1) rows)
        | false ↦ items_seen f (n + 1) rows
      ]
      | false ↦ items_seen f (n + 1) rows
    ]

pub shown_law : (world : World) (v : View) → is_by_row world v ≡ true → shown world v ≡ shown_by (form_of v) (leaf_at world (base_under v)).rows
shown_law world v h =
    let f : RowForm = form_of v in
    let rows : List Item = (leaf_at world (base_under v)).rows in
    let cs : List Candidate = changed f.item (hidden f.sees (cut f.takes (of_rows 0 rows))) in
    ap (λ ds. map item_in (filter is_seen ds)) (row_law world v h)
    ∙ ap (map item_in) (turned-filter is_seen f.turned cs)
    ∙ turned-map item_in f.turned (filter is_seen cs)
    ∙ ap (turned_if f.turned) (items_seen f 0 rows)
