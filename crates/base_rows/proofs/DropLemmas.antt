-- What goes from a set or a map, and from a list by its index.
use Rattle.std.proofs.Common.{◌≡◌, ℕ, zero, suc, ◌+◌, Bool, true, false, cond, not, List, [], ◌∷◌, ◌++◌, take, drop, map, length, Some, None, refl, sym, ap, ◌∙◌, subst, arith, append_assoc}
use Rattle.std.specs.Prelude.{filter, slice_get, is_some, IsSome}
use Rattle.std.specs.List.{IsDistinct, AllByRecursion, remove}
use Rattle.std.specs.Map.{keys_of}
use Rattle.std.proofs.lemmas.List.{take-append-drop, append-nil, take_all, drop_all, take-map, drop-map, map-append}
use Rattle.std.proofs.lemmas.List.Elements.{filter-append}
use Rattle.std.proofs.lemmas.Map.{NonePasses}
use Rattle.std.proofs.lemmas.Option.{same_Some}
use Rattle.elem.specs.declared.elements.Elem.{Elem}
use Rattle.elem.specs.Elements.{same}
use Rattle.elem.specs.ElementLaws.{same-Decides, same_equiv}
use Rattle.elem.specs.Keyed.{value_at, without, HasDistinctKeys, IsPresent}
use Rattle.elem.specs.Rows.{first_key, key_after}
use Rattle.elem.proofs.RowsLemmas.{lookup_at, remove_at, key_after_at}
use Rattle.base_rows.specs.BaseRows.{items}
use Rattle.base_rows.specs.BaseSpots.{key_spot, numbered, IsRowAt}
use Rattle.base_rows.specs.Journals.{items_by}
use Rattle.vocabulary.specs.declared.items.Item.{Item}
use Rattle.vocabulary.specs.declared.items.Item.TheVariants.{One}
use Rattle.view_laws.specs.declared.places.RowSpot.{RowSpot}
use Rattle.view_laws.specs.declared.places.RowSpot.TheVariants.{Index, Key}
use Rattle.machine.specs.Edits.{without_rows}
use Rattle.vocabulary.specs.Items.{key_of}
use Rattle.view_laws.proofs.ListLemmas.{filter-map}
use Rattle.base_rows.proofs.KeyLemmas.{itself, later}
use Rattle.base_rows.proofs.OneGone.{without_numbers}
use Rattle.base_rows.proofs.SpotLines.{key_spot_at, spots_of_keys}
use Rattle.base_rows.proofs.SpotsTold.{at_index}

-- ---- one row by its number

abbrev index_or : ℕ → RowSpot → ℕ
index_or d (Index i) = i
index_or d other = d

pub same_index : (i j : ℕ) → Index i ≡ Index j → i ≡ j
same_index i j e = ap (index_or i) e

pub index_gone : (old new : List Elem) (i : ℕ) (s : RowSpot) (numbers : List ℕ) → s ≡ Index i → IsRowAt (numbered 0 (items old)) s numbers → new ≡ remove old i → items new ≡ without_rows numbers 0 (items old)
index_gone old new i s numbers s_is at new_is =
    let stands = at_index (items old) 0 at.number s at.at in
    let number : at.number ≡ i = omega (arith, same_index i (0 + at.number) (sym s_is ∙ stands.0)) in
    let only : numbers ≡ i ∷ [] = at.only ∙ ap (λ m. m ∷ []) number in
    ap items new_is ∙ map-append One (take i old) (drop (suc i) old) ∙ (λ l. sym (take-map One i old) l ++ sym (drop-map One (suc i) old) l) ∙ without_numbers (items old) i numbers only

-- ---- the row of a key

module _ {V : Type 0} where
  all_at : (a : Elem) (front : List (Elem × V)) (k : Elem) (v : V) (rest : List (Elem × V)) → AllByRecursion (λ y. same a y ≡ false) (keys_of (front ++ (k, v) ∷ rest)) → same a k ≡ false
  all_at a [] k v rest h = h.0
  all_at a (row ∷ front) k v rest h = all_at a front k v rest h.1

  none_before : (front : List (Elem × V)) (k : Elem) (v : V) (rest : List (Elem × V)) → HasDistinctKeys (front ++ (k, v) ∷ rest) → NonePasses (same k) front
  unfolding IsDistinct
  none_before [] k v rest d = tt
  none_before (row ∷ front) k v rest d = (same_equiv.symm k row.0 ∙ all_at row.0 front k v rest d.0, none_before front k v rest d.1)

  pub next_key : (old front rest : List (Elem × V)) (k : Elem) (v : V) → HasDistinctKeys old → old ≡ front ++ (k, v) ∷ rest → key_after (same k) old ≡ first_key rest
  next_key old front rest k v d e = let none = none_before front k v rest (subst HasDistinctKeys e d) in ap (key_after (same k)) e ∙ key_after_at (same k) front (k, v) rest none ((same-Decides k k).1 refl)

  pub value_here : (old front rest : List (Elem × V)) (k : Elem) (v : V) → HasDistinctKeys old → old ≡ front ++ (k, v) ∷ rest → value_at old k ≡ Some v
  value_here old front rest k v d e =
      ap (λ (rows : List (Elem × V)). value_at rows k) e ∙ lookup_at (same k) front (k, v) rest (none_before front k v rest (subst HasDistinctKeys e d)) ((same-Decides k k).1 refl)

  pub dropped : (old new front rest : List (Elem × V)) (k : Elem) (v w : V) (test : V → Bool) → HasDistinctKeys old → Some w ≡ value_at old k → new ≡ cond (test w) (without old k) old → old ≡ front ++ (k, v) ∷ rest
      → new ≡ front ++ cond (test v) rest ((k, v) ∷ rest)
  dropped old new front rest k v w test d is new_is e =
      let none : NonePasses (same k) front = none_before front k v rest (subst HasDistinctKeys e d) in
      let here : same k k ≡ true = (same-Decides k k).1 refl in
      let found : Some w ≡ Some v = is ∙ ap (λ (rows : List (Elem × V)). value_at rows k) e ∙ lookup_at (same k) front (k, v) rest none here in
      new_is ∙ ap (λ (x : V). cond (test x) (without old k) old) (same_Some w v found) ∙ by (test v) (ap (λ (rows : List (Elem × V)). without rows k) e ∙ remove_at (same k) front (k, v) rest none here)
    where
      by : (t : Bool) → without old k ≡ front ++ rest → cond t (without old k) old ≡ front ++ cond t rest ((k, v) ∷ rest)
      by true h = h
      by false h = e

  -- ---- all rows, one after another
  pub first_row : (rows : List (Elem × V)) (k : Elem) → Some k ≡ first_key rows → (v : V) × (rest : List (Elem × V)) × (rows ≡ (k, v) ∷ rest)
  first_row [] k e = absurd (cc)
  first_row (row ∷ rows) k e = (row.1, rows, ap (λ (x : Elem). (x, row.1) ∷ rows) (sym (same_Some k row.0 e)))

  pub no_row : (rows : List (Elem × V)) → None ≡ first_key rows → rows ≡ []
  no_row [] e = refl
  no_row (row ∷ rows) e = absurd (cc)

  pub present : (front : List (Elem × V)) (k : Elem) (v : V) (rest : List (Elem × V)) → IsPresent (front ++ (k, v) ∷ rest) k
  present [] k v rest = ap (λ b. is_some (cond b (Some v) (value_at rest k))) ((same-Decides k k).1 refl)
  present (row ∷ front) k v rest = by (same k row.0) (present front k v rest)
    where
      by : (s : Bool) → IsPresent (front ++ (k, v) ∷ rest) k → IsSome (cond s (Some row.1) (value_at (front ++ (k, v) ∷ rest) k))
      by true h = refl
      by false h = h

  pub one_more : (i : ℕ) (old : List (Elem × V)) (row : Elem × V) (rest : List (Elem × V)) → drop i old ≡ row ∷ rest → (take (suc i) old ≡ take i old ++ row ∷ []) × (drop (suc i) old ≡ rest)
  one_more zero old row rest e = (ap (take 1) e, ap (drop 1) e)
  one_more (suc i) [] row rest e = absurd (cc)
  one_more (suc i) (first ∷ old) row rest e = let more = one_more i old row rest e in (ap (λ (l : List (Elem × V)). first ∷ l) more.0, more.1)

  pub behind_row : (i j : ℕ) (old : List (Elem × V)) (row : Elem × V) (rest : List (Elem × V)) → j ≡ suc i → drop i old ≡ row ∷ rest → first_key rest ≡ first_key (drop j old)
  behind_row i j old row rest j_is at = sym (ap (λ n. first_key (drop n old)) j_is ∙ ap first_key (one_more i old row rest at).1)

  module _ (test : Elem × V → Bool) where
    abbrev pub kept : List (Elem × V) → List (Elem × V)
    kept rows = filter (λ row. not (test row)) rows

    -- the rows in front of number i have been filtered, and the others are as they were
    abbrev pub filtered_to : ℕ → List (Elem × V) → List (Elem × V)
    filtered_to i old = kept (take i old) ++ drop i old

    pub here_present : (now old : List (Elem × V)) (i : ℕ) (k : Elem) → now ≡ filtered_to i old → Some k ≡ first_key (drop i old) → IsPresent now k
    here_present now old i k e at =
        let row = first_row (drop i old) k at in
        subst (λ (rows : List (Elem × V)). IsPresent rows k) (sym (e ∙ ap (λ (rest : List (Elem × V)). kept (take i old) ++ rest) row.2)) (present (kept (take i old)) k row.0 row.1)

    pub filtered_more : (old new : List (Elem × V)) (i j : ℕ) (row : Elem × V) (rest : List (Elem × V)) → j ≡ suc i → drop i old ≡ row ∷ rest → new ≡ kept (take i old) ++ cond (test row) rest (row ∷ rest) → new ≡ filtered_to j old
    filtered_more old new i j row rest j_is at new_is =
        let more = one_more i old row rest at in
        new_is ∙ by (test row)
        ∙ sym (ap (λ n. filtered_to n old) j_is ∙ (λ l. kept (more.0 l) ++ more.1 l) ∙ ap (λ (xs : List (Elem × V)). xs ++ rest) (filter-append (λ row. not (test row)) (take i old) (row ∷ [])))
      where
        by : (t : Bool) → kept (take i old) ++ cond t rest (row ∷ rest) ≡ (kept (take i old) ++ cond (not t) (row ∷ []) []) ++ rest
        by true = ap (λ (xs : List (Elem × V)). xs ++ rest) (sym (append-nil (kept (take i old))))
        by false = sym (append_assoc (kept (take i old)) (row ∷ []) rest)

    pub filtered_end : (now old : List (Elem × V)) (i : ℕ) → now ≡ filtered_to i old → None ≡ first_key (drop i old) → now ≡ kept old
    filtered_end now old i e at =
        let behind : drop i old ≡ [] = no_row (drop i old) at in
        let all : take i old ≡ old = sym (append-nil (take i old)) ∙ ap (λ (rest : List (Elem × V)). take i old ++ rest) (sym behind) ∙ take-append-drop i old in
        e ∙ (λ l. kept (all l) ++ behind l) ∙ append-nil (kept old)

    pub filtered_all : (now old : List (Elem × V)) (i : ℕ) → now ≡ filtered_to i old → i ≡ length old → now ≡ kept old
    filtered_all now old i e long =
        e ∙ (λ l. kept (take_all i old (omega arith) l) ++ drop_all i old (omega arith) l) ∙ append-nil (kept old)

  module _ (row_of : Elem → V → Item) where
    pub kept_items : (passes : Item → Bool) (now old : List (Elem × V)) → now ≡ kept (λ row. passes (row_of row.0 row.1)) old → items_by row_of now ≡ filter (λ row. not (passes row)) (items_by row_of old)
    kept_items passes now old e = ap (items_by row_of) e ∙ sym (filter-map (λ row. not (passes row)) (λ (row : Elem × V). row_of row.0 row.1) old)

    -- ---- the row of a key, by its number

    gone : (rows : List (Elem × V)) (k : Elem) (n : ℕ) → HasDistinctKeys rows → slice_get (keys_of rows) n ≡ Some k → items_by row_of (without rows k) ≡ remove (items_by row_of rows) n
    unfolding IsDistinct
    gone [] k n d at = absurd (cc)
    gone (row ∷ rows) k zero d at = ap (λ b. items_by row_of (cond b rows (row ∷ without rows k))) (itself k row.0 (same_Some row.0 k at))
    gone (row ∷ rows) k (suc n) d at =
        ap (λ b. items_by row_of (cond b rows (row ∷ without rows k))) (later row.0 (keys_of rows) n k d.0 at) ∙ ap (λ (rest : List Item). row_of row.0 row.1 ∷ rest) (gone rows k n d.1 at)

    pub gone_key : ((k : Elem) (v : V) → key_of (row_of k v) ≡ k) → (old new : List (Elem × V)) (k : Elem) (s : RowSpot) (numbers : List ℕ) → HasDistinctKeys old → s ≡ Key k → new ≡ without old k
        → IsRowAt (map key_spot (items_by row_of old)) s numbers → items_by row_of new ≡ without_rows numbers 0 (items_by row_of old)
    gone_key key_kept old new k s numbers d s_is new_is at =
        let spot : slice_get (map Key (keys_of old)) at.number ≡ Some (Key k) = ap (λ spots. slice_get spots at.number) (sym (spots_of_keys row_of key_kept old)) ∙ at.at ∙ ap Some s_is in
        ap (items_by row_of) new_is ∙ gone old k at.number d (key_spot_at (keys_of old) at.number k spot) ∙ without_numbers (items_by row_of old) at.number numbers at.only
