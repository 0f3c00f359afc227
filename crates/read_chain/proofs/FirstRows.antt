-- The index of the first row that passes a test, and the first candidate that is hit.
use Rattle.std.proofs.Common.{◌≡◌, ℕ, suc, ◌+◌, ◌||◌, Bool, true, false, cond, ◌&&◌, not, List, [], ◌∷◌, length, refl, ap, sym, ◌∙◌, arith}
use Rattle.std.specs.Prelude.{is_some, nat_lt, Option, Some, None, option_map, find}
use Rattle.std.specs.List.{list_any, position, position_or_len}
use Rattle.std.proofs.lemmas.Bool.Decides.{nat_tests}
use Rattle.vocabulary.specs.declared.items.Item.{Item}
use Rattle.machine.specs.CallEdits.{first_hit, is_hit, rows_of_first}
use Rattle.machine.specs.Candidates.{Candidate, hidden, of_rows}
use Rattle.view_laws.proofs.ListLemmas.{and-false}

-- the first row, or one that stands behind it
at_first : (p : Item → Bool) (row : Item) (rows : List Item) → position p (row ∷ rows) ≡ cond (p row) (Some 0) (option_map (λ (i : ℕ). 1 + i) (position p rows))
at_first p row rows = by (p row) (position_or_len p rows) (length rows)
  where
    later : (i n : ℕ) (b : Bool) → nat_lt i n ≡ b → nat_lt (1 + i) (suc n) ≡ b → cond (nat_lt (1 + i) (suc n)) (Some (1 + i)) None ≡ option_map (λ (k : ℕ). 1 + k) (cond (nat_lt i n) (Some i) None)
    later i n b e f = (λ j. cond (f j) (Some (1 + i)) None) ∙ by_case b ∙ (λ j. option_map (λ (k : ℕ). 1 + k) (cond (sym e j) (Some i) None))
      where
        by_case : (b : Bool) → cond b (Some (1 + i)) None ≡ option_map (λ (k : ℕ). 1 + k) (cond b (Some i) None)
        by_case true = refl
        by_case false = refl

    one_more : (i n : ℕ) → nat_lt (1 + i) (suc n) ≡ nat_lt i n
    one_more i n = grind (arith, nat_tests)

    by : (t : Bool) (i n : ℕ) → cond (nat_lt (cond (not t) (1 + i) 0) (suc n)) (Some (cond (not t) (1 + i) 0)) None ≡ cond t (Some 0) (option_map (λ (k : ℕ). 1 + k) (cond (nat_lt i n) (Some i) None))
    by true i n = ap (λ b. cond b (Some 0) None) (let e : nat_lt 0 (suc n) ≡ true = grind (arith, nat_tests) in e)
    by false i n = later i n (nat_lt i n) refl (one_more i n)

-- a row that passes is found
pub any_first : (p : Item → Bool) (rows : List Item) → is_some (position p rows) ≡ list_any p rows
any_first p [] = refl
any_first p (row ∷ rows) = ap is_some (at_first p row rows) ∙ by (p row) (position p rows) (any_first p rows)
  where
    by : (t : Bool) (o : Option ℕ) → is_some o ≡ list_any p rows → is_some (cond t (Some 0) (option_map (λ (i : ℕ). 1 + i) o)) ≡ (t || list_any p rows)
    by true o h = refl
    by false None h = h
    by false (Some i) h = h

-- the number of the row that was found, if any, where the first row has the number n
abbrev pub numbers : ℕ → Option ℕ → List ℕ
numbers n None = []
numbers n (Some i) = (n + i) ∷ []

one_later : (n : ℕ) (o : Option ℕ) → numbers (n + 1) o ≡ numbers n (option_map (λ (i : ℕ). 1 + i) o)
one_later n None = refl
one_later n (Some i) = ap (λ (k : ℕ). k ∷ []) (let e : n + 1 + i ≡ n + (1 + i) = omega arith in e)

-- rows that pass are seen all or none: then the first of them is hit, or none
pub first_numbered : (p sees : Item → Bool) (b : Bool) (n : ℕ) (rows : List Item) → ((row : Item) → p row ≡ true → sees row ≡ b) → first_hit p (hidden sees (of_rows n rows)) ≡ cond b (numbers n (position p rows)) []
first_numbered p sees true n [] alike = refl
first_numbered p sees false n [] alike = refl
first_numbered p sees b n (row ∷ rows) alike =
    by (p row) refl b alike (first_numbered p sees b (n + 1) rows alike) ∙ ap (λ (o : Option ℕ). cond b (numbers n o) []) (sym (at_first p row rows))
  where
    one : Candidate
    one = record { rows = n ∷ []; item = row; seen = sees row }

    rest : Option Candidate
    rest = find (is_hit p) (hidden sees (of_rows (n + 1) rows))

    passed : (b : Bool) → rows_of_first rest ≡ cond b (numbers (n + 1) (position p rows)) [] → rows_of_first (cond (b && true) (Some one) rest) ≡ cond b ((n + 0) ∷ []) []
    passed true later = ap (λ (k : ℕ). k ∷ []) (let e : n ≡ n + 0 = omega arith in e)
    passed false later = later

    by : (t : Bool) → p row ≡ t → (b : Bool) → ((r : Item) → p r ≡ true → sees r ≡ b) → rows_of_first rest ≡ cond b (numbers (n + 1) (position p rows)) []
        → rows_of_first (cond (sees row && p row) (Some one) rest) ≡ cond b (numbers n (cond (p row) (Some 0) (option_map (λ (i : ℕ). 1 + i) (position p rows)))) []
    by true e b alike later =
        (λ i. rows_of_first (cond (alike row e i && e i) (Some one) rest)) ∙ passed b later ∙ ap (λ t. cond b (numbers n (cond t (Some 0) (option_map (λ (i : ℕ). 1 + i) (position p rows)))) []) (sym e)
    by false e b alike later =
        (λ i. rows_of_first (cond (sees row && e i) (Some one) rest)) ∙ ap (λ t. rows_of_first (cond t (Some one) rest)) (and-false (sees row)) ∙ later
        ∙ ap (λ (ns : List ℕ). cond b ns []) (one_later n (position p rows))
        ∙ ap (λ t. cond b (numbers n (cond t (Some 0) (option_map (λ (i : ℕ). 1 + i) (position p rows)))) []) (sym e)
