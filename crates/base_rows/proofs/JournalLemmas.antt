-- What is put at a key and taken back leaves the rows as they were, and what is put makes them no fewer.
use Rattle.std.proofs.Common.{◌≡◌, ℕ, ◌≤◌, zero, suc, Bool, true, false, cond, List, [], ◌∷◌, ◌++◌, take, drop, length, get_or, ◌+◌, ◌<◌, Option, Some, None, refl, sym, ap, ◌∙◌, arith, length-append}
use Rattle.std.specs.Prelude.{fold, is_some}
use Rattle.std.proofs.lemmas.List.{take-append-drop, take_more, take_all}
use Rattle.std.proofs.lemmas.Map.{NonePasses, length-set_value}
use Rattle.elem.specs.declared.elements.Elem.{Elem}
use Rattle.elem.specs.Elements.{same}
use Rattle.elem.specs.ElementLaws.{same-Decides}
use Rattle.elem.specs.Keyed.{value_at, with_value, without, AddsRow}
use Rattle.elem.proofs.RowsLemmas.{remove_at}
use Rattle.base_rows.specs.Journals.{with_row, with_item, undone, all_undone}
use Rattle.vocabulary.specs.declared.items.Item.{Item}
use Rattle.vocabulary.specs.Items.{key_of}

pub none_there : {X : Type 0} (o : Option X) → is_some o ≡ false → o ≡ None
none_there None h = refl
none_there (Some x) h = absurd (cc)

module _ {V : Type 0} where
  -- a value that goes to no key changes nothing
  pub with_value-absent : (rows : List (Elem × V)) (k : Elem) (v : V) → value_at rows k ≡ None → with_value rows k v ≡ rows
  with_value-absent [] k v h = refl
  with_value-absent (row ∷ rows) k v h = by (same k row.0) h (with_value-absent rows k v)
    where
      by : (s : Bool) → cond s (Some row.1) (value_at rows k) ≡ None → (value_at rows k ≡ None → with_value rows k v ≡ rows) → cond s ((row.0, v) ∷ rows) (row ∷ with_value rows k v) ≡ row ∷ rows
      by true h ih = cc
      by false h ih = ap (λ (rest : List (Elem × V)). row ∷ rest) (ih h)

  -- a key that gets its old value back
  with_value-back : (rows : List (Elem × V)) (k : Elem) (v w : V) → value_at rows k ≡ Some w → with_value (with_value rows k v) k w ≡ rows
  with_value-back [] k v w h = refl
  with_value-back (row ∷ rows) k v w h = by (same k row.0) refl h (with_value-back rows k v w)
    where
      by : (s : Bool) → same k row.0 ≡ s → cond s (Some row.1) (value_at rows k) ≡ Some w → (value_at rows k ≡ Some w → with_value (with_value rows k v) k w ≡ rows)
          → with_value (cond s ((row.0, v) ∷ rows) (row ∷ with_value rows k v)) k w ≡ row ∷ rows
      by true e h ih = let x : row.1 ≡ w = cc in rw e (ap (λ (y : V). (row.0, y) ∷ rows) (sym x))
      by false e h ih = rw e (ap (λ (rest : List (Elem × V)). row ∷ rest) (ih h))

  none_taken : (rows : List (Elem × V)) (k : Elem) (i : ℕ) → value_at rows k ≡ None → NonePasses (same k) (take i rows)
  none_taken rows k zero h = tt
  none_taken [] k (suc i) h = tt
  none_taken (row ∷ rows) k (suc i) h = by (same k row.0) h (none_taken rows k i)
    where
      by : (s : Bool) → cond s (Some row.1) (value_at rows k) ≡ None → (value_at rows k ≡ None → NonePasses (same k) (take i rows)) → (s ≡ false) × NonePasses (same k) (take i rows)
      by true h ih = absurd (cc)
      by false h ih = (refl, ih h)

  -- a row that came goes
  without-added : (rows new : List (Elem × V)) (k : Elem) (v : V) → value_at rows k ≡ None → AddsRow rows new k v → without new k ≡ rows
  without-added rows new k v h a =
      ap (λ (n : List (Elem × V)). without n k) a.1
      ∙ remove_at (same k) (take a.0 rows) (k, v) (drop a.0 rows) (none_taken rows k a.0 h) ((same-Decides k k).1 refl)
      ∙ take-append-drop a.0 rows

  module _ (inserted : List (Elem × V) → Elem → V → List (Elem × V)) (adds : (old : List (Elem × V)) (k : Elem) (v : V) → AddsRow old (inserted old k v) k v) where
    pub undone-put : (rows : List (Elem × V)) (k : Elem) (v : V) → undone (with_row inserted rows k v) k (value_at rows k) ≡ rows
    undone-put rows k v = by (value_at rows k) refl
      where
        by : (before : Option V) → value_at rows k ≡ before → undone (cond (is_some before) (with_value rows k v) (inserted rows k v)) k before ≡ rows
        by None e = without-added rows (inserted rows k v) k v e (adds rows k v)
        by (Some w) e = with_value-back rows k v w e

    longer : (rows : List (Elem × V)) (k : Elem) (v : V) → length rows ≤ length (inserted rows k v)
    longer rows k v =
        let a : AddsRow rows (inserted rows k v) k v = adds rows k v in
        omega (arith, ap length a.1, length-append (take a.0 rows) ((k, v) ∷ drop a.0 rows), length-append (take a.0 rows) (drop a.0 rows), ap length (take-append-drop a.0 rows))

    no_fewer : (rows : List (Elem × V)) (k : Elem) (v : V) → length rows ≤ length (with_row inserted rows k v)
    no_fewer rows k v = by (is_some (value_at rows k))
      where
        by : (there : Bool) → length rows ≤ length (cond there (with_value rows k v) (inserted rows k v))
        by true = omega (arith, length-set_value (same k) rows v)
        by false = longer rows k v

    pub never_fewer : (value_in : Item → V) (rows : List (Elem × V)) (added : List Item) → length rows ≤ length (fold (with_item inserted value_in) rows added)
    never_fewer value_in rows [] = omega arith
    never_fewer value_in rows (item ∷ added) = omega (arith, no_fewer rows (key_of item) (value_in item), never_fewer value_in (with_item inserted value_in rows item) added)

  -- the last entry of a journal is taken back first
  pub all_undone-push : (rows : List (Elem × V)) (entries : List (Elem × Option V)) (entry : Elem × Option V) → all_undone rows (entries ++ entry ∷ []) ≡ all_undone (undone rows entry.0 entry.1) entries
  all_undone-push rows [] entry = refl
  all_undone-push rows (first ∷ entries) entry = ap (λ (rest : List (Elem × V)). undone rest first.0 first.1) (all_undone-push rows entries entry)

-- a fold over the first items of a list, and then over the others
pub fold_split : {A B : Type 0} (f : B → A → B) (start : B) (n : ℕ) (xs : List A) → fold f start xs ≡ fold f (fold f start (take n xs)) (drop n xs)
fold_split f start zero xs = refl
fold_split f start (suc n) [] = refl
fold_split f start (suc n) (x ∷ xs) = fold_split f (f start x) n xs

fold_push : {A B : Type 0} (f : B → A → B) (start : B) (xs : List A) (x : A) → fold f start (xs ++ x ∷ []) ≡ f (fold f start xs) x
fold_push f start [] x = refl
fold_push f start (y ∷ xs) x = fold_push f (f start y) xs x

-- one more step of a fold
pub fold_next : {A B : Type 0} (f : B → A → B) (start now new : B) (xs : List A) (i : ℕ) (x : A) → now ≡ fold f start (take i xs) → i < length xs → x ≡ get_or xs i x → new ≡ f now x → new ≡ fold f start (take (i + 1) xs)
fold_next f start now new xs i x e within read step =
    step ∙ ap (λ b. f b x) e ∙ sym (fold_push f start (take i xs) x) ∙ ap (λ y. fold f start (take i xs ++ y ∷ [])) read ∙ ap (fold f start) (sym (take_more xs i x within))

pub fold_end : {A B : Type 0} (f : B → A → B) (start now : B) (xs : List A) (i : ℕ) → now ≡ fold f start (take i xs) → length xs ≤ i → now ≡ fold f start xs
fold_end f start now xs i e end = e ∙ ap (fold f start) (take_all i xs end)

-- ---- the steps of putting several rows
module _ {V : Type 0} (inserted : List (Elem × V) → Elem → V → List (Elem × V)) (adds : (old : List (Elem × V)) (k : Elem) (v : V) → AddsRow old (inserted old k v) k v) where
  put_back : (now new : List (Elem × V)) (k : Elem) (v : V) (before : Option V) → new ≡ with_row inserted now k v → before ≡ value_at now k → undone new k before ≡ now
  put_back now new k v before new_is before_is = (λ i. undone (new_is i) k (before_is i)) ∙ undone-put inserted adds now k v

  -- with the entry of what was put, the journal leads back to the same rows
  pub journal_back : (start now new : List (Elem × V)) (k : Elem) (v : V) (before : Option V) (journal longer : List (Elem × Option V)) → new ≡ with_row inserted now k v → before ≡ value_at now k
      → all_undone now journal ≡ start → longer ≡ journal ++ (k, before) ∷ [] → all_undone new longer ≡ start
  journal_back start now new k v before journal longer new_is before_is back long =
      ap (all_undone new) long ∙ all_undone-push new journal (k, before) ∙ ap (λ (rows : List (Elem × V)). all_undone rows journal) (put_back now new k v before new_is before_is) ∙ back

  -- what was put so far, and what one more makes of it, are no fewer than what was there
  pub grown : (value_in : Item → V) (start now new : List (Elem × V)) (added : List Item) (i : ℕ) (k : Elem) (v : V) → now ≡ fold (with_item inserted value_in) start (take i added) → new ≡ with_row inserted now k v → length start ≤ length new
  grown value_in start now new added i k v e new_is = omega (arith, never_fewer inserted adds value_in start (take i added), ap length e, no_fewer inserted adds now k v, ap length new_is)

  -- the rows after some of the items are no more than after all of them
  pub grows : (value_in : Item → V) (start new : List (Elem × V)) (added : List Item) (i : ℕ) → new ≡ fold (with_item inserted value_in) start (take i added) → length new ≤ length (fold (with_item inserted value_in) start added)
  grows value_in start new added i e =
      omega (arith, ap length (fold_split (with_item inserted value_in) start i added), ap length e, never_fewer inserted adds value_in (fold (with_item inserted value_in) start (take i added)) (drop i added))
