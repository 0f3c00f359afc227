-- The rows that a view shows whose items pass a test are those that its row form shows, and whose items pass.
use Rattle.std.proofs.Common.{◌≡◌, ℕ, ◌+◌, ◌<◌, ◌≤◌, Bool, true, false, cond, ◌&&◌, ◌||◌, not, List, [], ◌∷◌, length, reverse, refl, ap, sym, ◌∙◌, subst, arith, get_or}
use Rattle.std.specs.Prelude.{filter, nat_eq, nat_lt, Option, Some, None}
use Rattle.std.specs.List.{list_any, flat_map}
use Rattle.std.proofs.lemmas.Bool.Decides.{nat_tests}
use Rattle.std.proofs.lemmas.List.Folds.{list_any-append}
use Rattle.std.proofs.lemmas.List.Sorted.{list_any-IsPermutation, IsPermutation-reverse}
use Rattle.vocabulary.specs.declared.items.Item.{Item}
use Rattle.view_laws.specs.declared.places.Found.{Found}
use Rattle.vocabulary.specs.declared.step_table.Family.{Family}
use Rattle.vocabulary.specs.declared.step_table.Family.TheVariants.{Same, Changed, Turned, Hidden, Cut}
use Rattle.vocabulary.specs.declared.steps.Step.{Step}
use Rattle.machine.specs.CallEdits.{is_hit, all_hits}
use Rattle.machine.specs.Edits.{edited, goes, removing, with_rows, without_rows}
use Rattle.view_laws.specs.Lanes.{turned_if}
use Rattle.view_laws.specs.RowForm.{RowForm, form_of, form_over, found_row_by}
use Rattle.view_steps.specs.RowHits.{is_row_hit, found_of_row, is_cut_in}
use Rattle.machine.specs.Bases.{World, base_at, Base}
use Rattle.machine.specs.Leaves.{leaf_at}
use Rattle.vocabulary.specs.Known.{is_known_kind}
use Rattle.view_steps.specs.KnownViews.{is_known_view, number_under}
use Rattle.machine.specs.Views.{View, base_under, candidates}
use Rattle.machine.specs.Candidates.{Candidate, of_rows, changed, hidden, cut}
use Rattle.view_steps.specs.Founds.{found_in_family}
use Rattle.vocabulary.specs.Steps.{passes}
use Rattle.view_steps.proofs.FamilyTable.{is_plain}
use Rattle.view_steps.proofs.KnownLemmas.{known_base}
use Rattle.view_steps.proofs.RowLemmas.{row_law}
use Rattle.view_steps.proofs.EditedRows.{edited_removing}
use Rattle.view_steps.proofs.ListLemmas.{and-false, and-true, or-false}
use Rattle.view_steps.proofs.WorldLemmas.{read_at}

-- whether a candidate is hit, and stands for row n
abbrev hits : (Item → Bool) → ℕ → Candidate → Bool
hits p n c = is_hit p c && goes c.rows n

goes_hits : (p : Item → Bool) (n : ℕ) (cs : List Candidate) → goes (all_hits p cs) n ≡ list_any (hits p n) cs
goes_hits p n [] = refl
goes_hits p n (c ∷ cs) =
    elim (is_hit p c) as (λ b. goes (flat_map (λ (d : Candidate). d.rows) (cond b (c ∷ filter (is_hit p) cs) (filter (is_hit p) cs))) n ≡ (b && goes c.rows n || list_any (hits p n) cs)) [
      | true ↦ list_any-append (λ (g : ℕ). nat_eq g n) c.rows (all_hits p cs) ∙ ap (λ t. goes c.rows n || t) (goes_hits p n cs)
      | false ↦ goes_hits p n cs
    ]

goes_turned : (p : Item → Bool) (n : ℕ) (t : Bool) (cs : List Candidate) → goes (all_hits p (turned_if t cs)) n ≡ list_any (hits p n) cs
goes_turned p n true cs = goes_hits p n (reverse cs) ∙ sym (list_any-IsPermutation (hits p n) cs (reverse cs) (IsPermutation-reverse cs))
goes_turned p n false cs = goes_hits p n cs

-- the candidates that a form makes of rows, in the order of the rows
abbrev made : RowForm → ℕ → List Item → List Candidate
made f k rows = changed f.item (hidden f.sees (cut f.takes (of_rows k rows)))

abbrev head : (Item → Bool) → RowForm → ℕ → Item → ℕ → Bool
head p f k row n = is_row_hit p f row && nat_eq k n

-- a row is hit by its own number, and the others are as they were
made_head : (p : Item → Bool) (f : RowForm) (k : ℕ) (row : Item) (rows : List Item) (n : ℕ) → list_any (hits p n) (made f k (row ∷ rows)) ≡ (head p f k row n || list_any (hits p n) (made f (k + 1) rows))
made_head p f k row rows n =
    elim (f.takes row) as (λ b. list_any (hits p n) (changed f.item (hidden f.sees (cond b (record { rows = k ∷ []; item = row; seen = true } ∷ cut f.takes (of_rows (k + 1) rows)) (cut f.takes (of_rows (k + 1) rows)))))
    ≡ (((b && f.sees row) && p (f.item row)) && nat_eq k n || list_any (hits p n) (made f (k + 1) rows))) [
      | true ↦ ap (λ t. ((f.sees row && p (f.item row)) && t) || list_any (hits p n) (made f (k + 1) rows)) (or-false (nat_eq k n))
      | false ↦ refl
    ]

other_number : (k n : ℕ) → k < n → nat_eq k n ≡ false
other_number k n lt = grind (arith, nat_tests)

other_number' : (k n : ℕ) → n < k → nat_eq k n ≡ false
other_number' k n lt = grind (arith, nat_tests)

same_number : (k : ℕ) → nat_eq k k ≡ true
same_number k = grind (arith, nat_tests)

-- rows have no number before the first
made_before : (p : Item → Bool) (f : RowForm) (k : ℕ) (rows : List Item) (n : ℕ) → n < k → list_any (hits p n) (made f k rows) ≡ false
made_before p f k [] n lt = refl
made_before p f k (row ∷ rows) n lt =
    let rest : list_any (hits p n) (made f (k + 1) rows) ≡ false = made_before p f (k + 1) rows n (omega arith) in
    made_head p f k row rows n ∙ ap (λ t. is_row_hit p f row && t || list_any (hits p n) (made f (k + 1) rows)) (other_number' k n lt) ∙ ap (λ t. t || list_any (hits p n) (made f (k + 1) rows)) (and-false (is_row_hit p f row)) ∙ rest

made_at : (p : Item → Bool) (f : RowForm) (k : ℕ) (row : Item) (rows : List Item) → list_any (hits p k) (made f k (row ∷ rows)) ≡ is_row_hit p f row
made_at p f k row rows =
    made_head p f k row rows k
    ∙ ap (λ t. is_row_hit p f row && t || list_any (hits p k) (made f (k + 1) rows)) (same_number k)
    ∙ ap (λ t. t || list_any (hits p k) (made f (k + 1) rows)) (and-true (is_row_hit p f row))
    ∙ ap (λ t. is_row_hit p f row || t) (made_before p f (k + 1) rows k (omega arith))
    ∙ or-false (is_row_hit p f row)

made_after : (p : Item → Bool) (f : RowForm) (k : ℕ) (row : Item) (rows : List Item) (n : ℕ) → k < n → list_any (hits p n) (made f k (row ∷ rows)) ≡ list_any (hits p n) (made f (k + 1) rows)
made_after p f k row rows n lt =
    made_head p f k row rows n
    ∙ ap (λ t. is_row_hit p f row && t || list_any (hits p n) (made f (k + 1) rows)) (other_number k n lt)
    ∙ ap (λ t. t || list_any (hits p n) (made f (k + 1) rows)) (and-false (is_row_hit p f row))

-- numbers that hit rows as a form's candidates do
abbrev HitsAs : (Item → Bool) → RowForm → List ℕ → ℕ → List Item → Type 0
HitsAs p f gone k rows = (n : ℕ) → k ≤ n → goes gone n ≡ list_any (hits p n) (made f k rows)

rows_left : (p : Item → Bool) (f : RowForm) (gone : List ℕ) (k : ℕ) (rows : List Item) → HitsAs p f gone k rows → without_rows gone k rows ≡ filter (λ row. not (is_row_hit p f row)) rows
rows_left p f gone k [] as_made = refl
rows_left p f gone k (row ∷ rows) as_made =
    let rest : without_rows gone (k + 1) rows ≡ filter (λ r. not (is_row_hit p f r)) rows = rows_left p f gone (k + 1) rows (λ n le. as_made n (omega arith) ∙ made_after p f k row rows n (omega arith)) in
    let here : goes gone k ≡ is_row_hit p f row = as_made k (omega arith) ∙ made_at p f k row rows in
    ap (λ b. cond b (without_rows gone (k + 1) rows) (row ∷ without_rows gone (k + 1) rows)) here
    ∙ ap (λ rs. cond (is_row_hit p f row) rs (row ∷ rs)) rest
    ∙ flip (is_row_hit p f row) (filter (λ r. not (is_row_hit p f r)) rows)
  where
    flip : (b : Bool) (rs : List Item) → cond b rs (row ∷ rs) ≡ cond (not b) (row ∷ rs) rs
    flip true rs = refl
    flip false rs = refl

-- the rows that stay once those went that a view shows whose items pass
pub without_hits : (world : World) (v : View) → is_known_view v ≡ true → (p : Item → Bool)
    → without_rows (all_hits p (candidates world v)) 0 (leaf_at world (base_under v)).rows ≡ filter (λ row. not (is_row_hit p (form_of v) row)) (leaf_at world (base_under v)).rows
without_hits world v known p =
    let f : RowForm = form_of v in
    let rows : List Item = (leaf_at world (base_under v)).rows in
    rows_left p f (all_hits p (candidates world v)) 0 rows
    (λ n le. ap (λ (cs : List Candidate). goes (all_hits p cs) n) (row_law world v known) ∙ goes_turned p n f.turned (made f 0 rows))

-- a base without the rows that a form shows as items that pass
abbrev without_shown : (Item → Bool) → RowForm → Base → Base
without_shown p f it = with_rows it (filter (λ row. not (is_row_hit p f row)) it.rows) it.keys (nat_lt (length (filter (λ row. not (is_row_hit p f row)) it.rows)) (length it.rows))

-- the edit that removes those rows
pub edited_hits : (world : World) (v : View) → is_known_view v ≡ true → is_known_kind (base_at world (number_under v)).kind ≡ true → (p : Item → Bool)
    → without_shown p (form_of v) (base_at world (number_under v)) ≡ edited (base_at world (number_under v)) (removing (all_hits p (candidates world v)))
edited_hits world v known kind p =
    let it : Base = base_at world (number_under v) in
    let gone : List ℕ = all_hits p (candidates world v) in
    let left : without_rows gone 0 it.rows ≡ filter (λ row. not (is_row_hit p (form_of v) row)) it.rows =
    subst (λ (at : Base). without_rows gone 0 at.rows ≡ filter (λ row. not (is_row_hit p (form_of v) row)) at.rows) (known_base world v known) (without_hits world v known p) in
    sym (edited_removing it kind gone ∙ ap (λ (rows : List Item). with_rows it rows it.keys (nat_lt (length rows) (length it.rows))) left)

-- a base from which those rows were dropped
pub dropped : (world : World) (v : View) → is_known_view v ≡ true → (p : Item → Bool) (b : ℕ) (at new : Base) → is_known_kind at.kind ≡ true → b < length world → b ≡ number_under v → at ≡ get_or world b at
    → new ≡ with_rows at (filter (λ row. not (is_row_hit p (form_of v) row)) at.rows) at.keys (nat_lt (length (filter (λ row. not (is_row_hit p (form_of v) row)) at.rows)) (length at.rows))
    → new ≡ edited (base_at world b) (removing (all_hits p (candidates world v)))
dropped world v known p b at new kind lt under read is =
    let it : base_at world b ≡ at = read_at world b at lt read in
    let here : base_at world (number_under v) ≡ at = ap (base_at world) (sym under) ∙ it in
    is
    ∙ ap (without_shown p (form_of v)) (sym here)
    ∙ edited_hits world v known (ap (λ (x : Base). is_known_kind x.kind) here ∙ kind) p
    ∙ ap (λ (n : ℕ). edited (base_at world n) (removing (all_hits p (candidates world v)))) (sym under)

-- ---- one row, step by step

-- what a step of a family makes of what the view below it has
abbrev pub through : Family → Step → Option Found → Option Found
through family step None = None
through family step (Some d) = cond (is_cut_in family step d.item) None (Some (found_in_family family step d))

pub found_step : (family : Family) → is_plain family ≡ true → (step : Step) (f : RowForm) (row : Item) → found_of_row (form_over family step f) row ≡ through family step (found_of_row f row)
found_step Same plain step f row = elim (f.takes row) as (λ b. cond b (Some (found_row_by f row)) None ≡ through Same step (cond b (Some (found_row_by f row)) None)) [ true ↦ refl | false ↦ refl ]
found_step Changed plain step f row =
    elim (f.takes row) as (λ b. cond b (Some (found_row_by (form_over Changed step f) row)) None ≡ through Changed step (cond b (Some (found_row_by f row)) None)) [ true ↦ refl | false ↦ refl ]
found_step Turned plain step f row = elim (f.takes row) as (λ b. cond b (Some (found_row_by f row)) None ≡ through Turned step (cond b (Some (found_row_by f row)) None)) [ true ↦ refl | false ↦ refl ]
found_step Hidden plain step f row = elim (f.takes row) as (λ b. cond b (Some (found_row_by (form_over Hidden step f) row)) None ≡ through Hidden step (cond b (Some (found_row_by f row)) None)) [ true ↦ refl | false ↦ refl ]
found_step Cut plain step f row =
    elim (f.takes row) as (λ b. cond (b && passes step (f.item row)) (Some (found_row_by (form_over Cut step f) row)) None ≡ through Cut step (cond b (Some (found_row_by f row)) None)) [
      | true ↦ elim (passes step (f.item row)) as (λ b. cond b (Some (found_row_by (form_over Cut step f) row)) None ≡ cond (not b) None (Some (found_in_family Cut step (found_row_by f row)))) [ true ↦ refl | false ↦ refl ]
      | false ↦ refl
    ]
found_step _ plain step f row = absurd (cc)
