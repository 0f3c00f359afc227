-- A pair that is put in a bimap, or forced, goes where the definition of a write has it.
use Rattle.std.proofs.Common.{◌≡◌, ◌≢◌, ℕ, suc, ◌+◌, ◌<◌, Bool, true, false, cond, not, ◌&&◌, ◌||◌, List, [], ◌∷◌, length, map, nat_eq, Option, Some, None, refl, sym, ap, ◌∙◌, subst, arith}
use Rattle.std.specs.Prelude.{filter, nat_lt}
use Rattle.std.specs.Cmp.Lexicographic.{pointwise}
use Rattle.std.specs.List.{AllByRecursion, IsDistinct, list_any}
use Rattle.std.specs.Map.{keys_of}
use Rattle.std.specs.Option.{option_eq}
use Rattle.std.proofs.lemmas.Bool.Decides.{nat_tests}
use Rattle.elem.specs.declared.elements.Elem.{Elem}
use Rattle.elem.specs.Elements.{same}
use Rattle.elem.specs.ElementLaws.{same-Decides, same_equiv}
use Rattle.elem.specs.Keyed.{value_at, HasDistinctKeys}
use Rattle.bimap_base.specs.Pairs.{turned, key_of as key_with, HasDistinctValues, IsBound, stays, freed, with_pair}
use Rattle.bimap_base.proofs.Holders.{names}
use Rattle.bimap_base.proofs.PairCuts.{Pair, cut_turned, cut_value, key_cut, turned_twice}
use Rattle.base_rows.specs.Adding.{is_other}
use Rattle.base_rows.specs.BaseRows.{entries, entry_of, IsRowOf}
use Rattle.vocabulary.specs.declared.edits.Spot.{Spot}
use Rattle.vocabulary.specs.declared.edits.Spot.TheVariants.{Own, Swapped}
use Rattle.vocabulary.specs.declared.items.Item.{Item}
use Rattle.vocabulary.specs.declared.items.Item.TheVariants.{Entry}
use Rattle.vocabulary.specs.declared.kinds.Kind.TheVariants.{HashBiMap}
use Rattle.vocabulary.specs.Items.{key_of, value_of, same_item, swapped}
use Rattle.machine.specs.CallEdits.{all_hits, forcing_at, is_hit, rows_behind}
use Rattle.machine.specs.Candidates.{Candidate, of_rows}
use Rattle.machine.specs.Edits.{goes, is_structural, without_rows}
use Rattle.machine.specs.Placing.{has_partner, has_partner_at, placed, placed_at, takes_row}
use Rattle.view_laws.proofs.ListLemmas.{filter-map}
use Rattle.base_rows.proofs.OneGone.{nat_other, nat_same}

-- a row of a bimap is an entry
pub entry_is : (item : Item) → IsRowOf HashBiMap item → Entry (key_of item) (value_of item) ≡ item
entry_is (Entry k v) fits = refl
entry_is _ fits = absurd fits

pub entries_turned : (rows : List Pair) → map swapped (entries rows) ≡ entries (turned rows)
entries_turned [] = refl
entries_turned (row ∷ rows) = ap (λ (rest : List Item). Entry row.1 row.0 ∷ rest) (entries_turned rows)

-- ---- where it goes

own_placed : (rows : List Pair) (k v : Elem) → entries (with_pair rows k v) ≡ placed HashBiMap (entries rows) (Entry k v)
own_placed [] k v = refl
own_placed (row ∷ rows) k v = by (same k row.0) (own_placed rows k v)
  where
    by : (b : Bool) → entries (with_pair rows k v) ≡ placed HashBiMap (entries rows) (Entry k v)
        → entries (cond b ((k, v) ∷ rows) (row ∷ with_pair rows k v)) ≡ cond b (Entry k v ∷ entries rows) (Entry row.0 row.1 ∷ placed HashBiMap (entries rows) (Entry k v))
    by true ih = refl
    by false ih = ap (λ (rest : List Item). Entry row.0 row.1 ∷ rest) ih

swapped_placed : (rows new : List Pair) (k v : Elem) → turned new ≡ with_pair (turned rows) v k → entries new ≡ placed_at HashBiMap Swapped (entries rows) (Entry k v)
swapped_placed rows new k v e =
    ap entries (sym (turned_twice new)) ∙ sym (entries_turned (turned new)) ∙ ap (map swapped) (ap entries e ∙ own_placed (turned rows) v k ∙ ap (λ old. placed HashBiMap old (Entry v k)) (sym (entries_turned rows)))

-- ---- which pairs have a partner of its own

not_false : (b : Bool) → (b || false) ≡ b
not_false true = refl
not_false false = refl

not_not : (b : Bool) → b ≡ not (not b)
not_not true = refl
not_not false = refl

no_partner : (rows : List Pair) (k v : Elem) → AllByRecursion (λ y. same v y ≡ false) (keys_of (turned rows)) → list_any (has_partner (Entry k v)) (entries rows) ≡ false
no_partner [] k v h = refl
no_partner (row ∷ rows) k v h = rw h.0 (no_partner rows k v h.1)

any_partner : (rows : List Pair) (k v : Elem) → HasDistinctValues rows → list_any (has_partner (Entry k v)) (entries rows) ≡ is_other (key_with rows v) k
unfolding IsDistinct
any_partner [] k v d = refl
any_partner (row ∷ rows) k v d = by (same v row.1) refl (any_partner rows k v d.1)
  where
    by : (b : Bool) → same v row.1 ≡ b → list_any (has_partner (Entry k v)) (entries rows) ≡ is_other (key_with rows v) k
        → ((b && not (same k row.0)) || list_any (has_partner (Entry k v)) (entries rows)) ≡ is_other (cond b (Some row.0) (key_with rows v)) k
    by true e ih =
        ap (λ b. not (same k row.0) || b) (no_partner rows k v (subst (λ x. AllByRecursion (λ y. same x y ≡ false) (keys_of (turned rows))) (sym ((same-Decides v row.1).0 e)) d.0)) ∙ not_false (not (same k row.0))
    by false e ih = ih

bound_other : (rows : List Pair) (k v : Elem) → IsBound rows k v → is_other (key_with rows v) k ≡ true
bound_other rows k v b = ap (λ o. is_other o k) b.1 ∙ by (same k b.0) refl
  where
    by : (t : Bool) → same k b.0 ≡ t → not t ≡ true
    by true e = absurd (b.2 (sym ((same-Decides k b.0).0 e)))
    by false e = refl

free_own : (rows : List Pair) (k v : Elem) → (IsBound rows k v → ⊥) → is_other (key_with rows v) k ≡ false
free_own rows k v free = by (key_with rows v) refl
  where
    other : (x : Elem) → key_with rows v ≡ Some x → (t : Bool) → same k x ≡ t → not t ≡ false
    other x e true t = refl
    other x e false t = absurd (free (x, e, λ q. (let f = sym t ∙ (same-Decides k x).1 (sym q) in cc)))

    by : (o : Option Elem) → key_with rows v ≡ o → is_other o k ≡ false
    by None e = refl
    by (Some x) e = other x e (same k x) refl

-- turned round, a value is a key
turned_values : (rows : List Pair) → HasDistinctKeys rows → HasDistinctValues (turned rows)
turned_values rows keys = subst HasDistinctKeys (sym (turned_twice rows)) keys

swapped_partner : (rows : List Pair) (k v : Elem) → list_any (has_partner_at Swapped (Entry k v)) (entries rows) ≡ list_any (has_partner (Entry v k)) (entries (turned rows))
swapped_partner [] k v = refl
swapped_partner (row ∷ rows) k v = ap (λ b. has_partner (Entry v k) (Entry row.1 row.0) || b) (swapped_partner rows k v)

-- ---- which pairs a force leaves

-- the numbers of rows that pass are those of the rows that go
below : (p : Item → Bool) (n m : ℕ) (rows : List Item) → n < m → goes (all_hits p (of_rows m rows)) n ≡ false
below p n m [] lt = refl
below p n m (row ∷ rows) lt = by (p row) (below p n (m + 1) rows (omega arith))
  where
    by : (b : Bool) → goes (all_hits p (of_rows (m + 1) rows)) n ≡ false
        → goes (rows_behind (cond b (record { rows = m ∷ []; item = row; seen = true } ∷ filter (is_hit p) (of_rows (m + 1) rows)) (filter (is_hit p) (of_rows (m + 1) rows)))) n ≡ false
    by true ih = let other : m ≢ n = λ e. omega arith in ap (λ b. b || goes (all_hits p (of_rows (m + 1) rows)) n) (nat_other m n other) ∙ ih
    by false ih = ih

passed : (g m : ℕ) (gone : List ℕ) (rows : List Item) → g < m → without_rows (g ∷ gone) m rows ≡ without_rows gone m rows
passed g m gone [] lt = refl
passed g m gone (row ∷ rows) lt =
    let other : g ≢ m = λ e. omega arith in
    (λ i. cond (nat_other g m other i || goes gone m) (passed g (m + 1) gone rows (omega arith) i) (row ∷ passed g (m + 1) gone rows (omega arith) i))

gone_hits : (p : Item → Bool) (n : ℕ) (rows : List Item) → without_rows (all_hits p (of_rows n rows)) n rows ≡ filter (λ row. not (p row)) rows
gone_hits p n [] = refl
gone_hits p n (row ∷ rows) = by (p row) (filter (is_hit p) (of_rows (n + 1) rows)) (below p n (n + 1) rows (omega arith)) (gone_hits p (n + 1) rows)
  where
    by : (b : Bool) (hits : List Candidate) → goes (rows_behind hits) n ≡ false → without_rows (rows_behind hits) (n + 1) rows ≡ filter (λ row. not (p row)) rows
        → without_rows (rows_behind (cond b (record { rows = n ∷ []; item = row; seen = true } ∷ hits) hits)) n (row ∷ rows) ≡ cond (not b) (row ∷ filter (λ row. not (p row)) rows) (filter (λ row. not (p row)) rows)
    by true hits under ih =
        let rest : List ℕ = rows_behind hits in
        ap (λ b. cond (b || goes rest n) (without_rows (n ∷ rest) (n + 1) rows) (row ∷ without_rows (n ∷ rest) (n + 1) rows)) (nat_same n n refl)
        ∙ passed n (n + 1) rest rows (omega arith) ∙ ih
    by false hits under ih =
        let rest : List ℕ = rows_behind hits in
        ap (λ b. cond b (without_rows rest (n + 1) rows) (row ∷ without_rows rest (n + 1) rows)) under ∙ ap (λ (xs : List Item). row ∷ xs) ih

-- the rows that a force leaves
abbrev pub left_by : Spot → List Item → Item → List Item
left_by spot rows new = without_rows (forcing_at spot rows (new ∷ [])).gone 0 rows

left_all : (spot : Spot) (rows : List Item) (new : Item) → left_by spot rows new ≡ filter (λ row. not (has_partner_at spot new row)) rows
left_all spot rows new = gone_hits (λ row. has_partner_at spot new row || false) 0 rows ∙ ap (λ (p : Item → Bool). filter p rows) (λ i row. not (not_false (has_partner_at spot new row) i))

none_left : (p : Item → Bool) (rows : List Item) → list_any p (filter (λ row. not (p row)) rows) ≡ false
none_left p [] = refl
none_left p (row ∷ rows) = by (p row) refl (none_left p rows)
  where
    by : (b : Bool) → p row ≡ b → list_any p (filter (λ row. not (p row)) rows) ≡ false → list_any p (cond (not b) (row ∷ filter (λ row. not (p row)) rows) (filter (λ row. not (p row)) rows)) ≡ false
    by true e ih = ih
    by false e ih = ap (λ b. b || list_any p (filter (λ row. not (p row)) rows)) e ∙ ih

-- after which the pair is taken
pub forced_taken : (spot : Spot) (rows : List Item) (new : Item) → takes_row HashBiMap spot (left_by spot rows new) new ≡ true
forced_taken spot rows new = ap not (ap (list_any (has_partner_at spot new)) (left_all spot rows new) ∙ none_left (has_partner_at spot new) rows)

kept : (s t : Bool) → not (s && not t) ≡ (not s || t)
kept true true = refl
kept true false = refl
kept false t = refl

own_left : (rows : List Pair) (k v : Elem) → left_by Own (entries rows) (Entry k v) ≡ entries (freed rows k v)
own_left rows k v =
    left_all Own (entries rows) (Entry k v) ∙ filter-map (λ row. not (has_partner (Entry k v) row)) entry_of rows
    ∙ ap (λ (p : Pair → Bool). entries (filter p rows)) (λ i row. kept (same v row.1) (same k row.0) i)

swapped_left : (rows : List Pair) (k v : Elem) → left_by Swapped (entries rows) (Entry k v) ≡ entries (turned (freed (turned rows) v k))
swapped_left rows k v =
    left_all Swapped (entries rows) (Entry k v) ∙ filter-map (λ row. not (has_partner_at Swapped (Entry k v) row)) entry_of rows
    ∙ ap (λ (p : Pair → Bool). entries (filter p rows)) (λ i row. kept (same k row.0) (same v row.1) i)
    ∙ ap entries (sym (ap turned (filter-map (stays v k) (λ (row : Pair). (row.1, row.0)) rows) ∙ turned_twice (filter (λ (row : Pair). stays v k (row.1, row.0)) rows)))

-- the pair itself stays
freed_value : (rows : List Pair) (k v : Elem) → value_at (freed rows k v) k ≡ value_at rows k
freed_value [] k v = refl
freed_value (row ∷ rows) k v = by (same k row.0) refl (not (same v row.1)) (freed_value rows k v)
  where
    by : (b : Bool) → same k row.0 ≡ b → (s : Bool) → value_at (freed rows k v) k ≡ value_at rows k → value_at (cond (s || b) (row ∷ freed rows k v) (freed rows k v)) k ≡ cond b (Some row.1) (value_at rows k)
    by true e true ih = ap (λ b. cond b (Some row.1) (value_at (freed rows k v) k)) e
    by true e false ih = ap (λ b. cond b (Some row.1) (value_at (freed rows k v) k)) e
    by false e true ih = ap (λ b. cond b (Some row.1) (value_at (freed rows k v) k)) e ∙ ih
    by false e false ih = ih

all_stay : (rows : List Pair) (k v : Elem) → list_any (has_partner (Entry k v)) (entries rows) ≡ false → freed rows k v ≡ rows
all_stay [] k v h = refl
all_stay (row ∷ rows) k v h = by (same v row.1) (same k row.0) h (all_stay rows k v)
  where
    by : (s t : Bool) → ((s && not t) || list_any (has_partner (Entry k v)) (entries rows)) ≡ false → (list_any (has_partner (Entry k v)) (entries rows) ≡ false → freed rows k v ≡ rows)
        → cond (not s || t) (row ∷ freed rows k v) (freed rows k v) ≡ row ∷ rows
    by true true h ih = ap (λ (rest : List Pair). row ∷ rest) (ih h)
    by true false h ih = absurd (cc)
    by false t h ih = ap (λ (rest : List Pair). row ∷ rest) (ih h)

own_stays : (rows : List Pair) (k v : Elem) → HasDistinctKeys rows → HasDistinctValues rows → value_at rows k ≡ Some v → freed rows k v ≡ rows
own_stays rows k v keys values e =
    let c = key_cut rows k v keys values e in
    all_stay rows k v (any_partner rows k v values ∙ ap (λ o. is_other o k) (cut_value (cut_turned rows k v c.0 c.1 c.2)) ∙ ap not (same_equiv.refl k))

-- ---- whether a pair became another

same_rows : (rows : List Pair) → pointwise same_item (entries rows) (entries rows) ≡ true
same_rows [] = refl
same_rows (row ∷ rows) = (λ i. (same_equiv.refl row.0 i && same_equiv.refl row.1 i) && same_rows rows i)

agrees : (rows : List Pair) (k v : Elem) → pointwise same_item (entries rows) (entries (with_pair rows k v)) ≡ option_eq same (value_at rows k) (Some v)
agrees [] k v = refl
agrees (row ∷ rows) k v = by (same k row.0) refl (agrees rows k v)
  where
    and_true : (b : Bool) → (b && true) ≡ b
    and_true true = refl
    and_true false = refl

    by : (b : Bool) → same k row.0 ≡ b → pointwise same_item (entries rows) (entries (with_pair rows k v)) ≡ option_eq same (value_at rows k) (Some v)
        → pointwise same_item (Entry row.0 row.1 ∷ entries rows) (entries (cond b ((k, v) ∷ rows) (row ∷ with_pair rows k v))) ≡ option_eq same (cond b (Some row.1) (value_at rows k)) (Some v)
    by true e ih = (λ i. ((same_equiv.symm row.0 k ∙ e) i && same row.1 v) && same_rows rows i) ∙ and_true (same row.1 v)
    by false e ih = (λ i. (same_equiv.refl row.0 i && same_equiv.refl row.1 i) && ih i)

both_ways : (a b : Bool) → (a && b) ≡ (b && a)
both_ways true true = refl
both_ways true false = refl
both_ways false true = refl
both_ways false false = refl

turned_agree : (xs ys : List Pair) → pointwise same_item (entries xs) (entries ys) ≡ pointwise same_item (entries (turned xs)) (entries (turned ys))
turned_agree [] [] = refl
turned_agree [] (y ∷ ys) = refl
turned_agree (x ∷ xs) [] = refl
turned_agree (x ∷ xs) (y ∷ ys) = (λ i. both_ways (same x.0 y.0) (same x.1 y.1) i && turned_agree xs ys i)

as_long : (xs ys : List Item) → pointwise same_item xs ys ≡ true → length xs ≡ length ys
as_long [] [] h = refl
as_long [] (y ∷ ys) h = absurd (cc)
as_long (x ∷ xs) [] h = absurd (cc)
as_long (x ∷ xs) (y ∷ ys) h = by (same_item x y) (as_long xs ys) h
  where
    by : (b : Bool) → (pointwise same_item xs ys ≡ true → length xs ≡ length ys) → (b && pointwise same_item xs ys) ≡ true → length (x ∷ xs) ≡ length (y ∷ ys)
    by true ih f = ap suc (ih f)
    by false ih f = absurd (cc)

told : (rows left after : List Item) (s : Bool) → pointwise same_item left after ≡ s → (s ≡ true → length left ≡ length rows) → is_structural HashBiMap rows left after ≡ not s
told rows left after true e long =
    let few : nat_lt (length left) (length rows) ≡ false = let f = long refl in grind (arith, nat_tests) in
    let more : nat_lt (length left) (length after) ≡ false = let f = as_long left after e in grind (arith, nat_tests) in
    (λ i. few i || more i || not (e i))
told rows left after false e long = (λ i. nat_lt (length left) (length rows) || nat_lt (length left) (length after) || not (e i)) ∙ by (nat_lt (length left) (length rows)) (nat_lt (length left) (length after))
  where
    by : (a b : Bool) → (a || b || true) ≡ true
    by true b = refl
    by false true = refl
    by false false = refl

-- ---- puts from the side of the key, and of the value

module _ (spot : Spot) (item : Item) (fits : IsRowOf HashBiMap item) (k v : Elem) (k_is : k ≡ key_of item) (v_is : v ≡ value_of item) (rows : List Pair) (keys : HasDistinctKeys rows) (values : HasDistinctValues rows) where
  is_entry : Entry k v ≡ item
  is_entry = (λ i. Entry (k_is i) (v_is i)) ∙ entry_is item fits

  module _ (own : spot ≡ Own) where
    pub own_put : (new : List Pair) → new ≡ with_pair rows k v → entries new ≡ placed_at HashBiMap spot (entries rows) item
    own_put new e = ap entries e ∙ own_placed rows k v ∙ (λ i. placed_at HashBiMap (sym own i) (entries rows) (is_entry i))

    pub own_forced : (new : List Pair) → new ≡ with_pair (freed rows k v) k v → entries new ≡ placed_at HashBiMap spot (left_by spot (entries rows) item) item
    own_forced new e = ap entries e ∙ own_placed (freed rows k v) k v ∙ ap (λ left. placed HashBiMap left (Entry k v)) (sym (own_left rows k v)) ∙ (λ i. placed_at HashBiMap (sym own i) (left_by (sym own i) (entries rows) (is_entry i)) (is_entry i))

    own_partner : list_any (has_partner_at spot item) (entries rows) ≡ is_other (key_with rows v) k
    own_partner = (λ i. list_any (has_partner_at (own i) (sym is_entry i)) (entries rows)) ∙ any_partner rows k v values

    pub own_bound : is_other (key_with rows v) k ≡ not (takes_row HashBiMap spot (entries rows) item)
    own_bound = sym own_partner ∙ not_not (list_any (has_partner_at spot item) (entries rows))

    pub own_refused : IsBound rows k v → takes_row HashBiMap spot (entries rows) item ≡ false
    own_refused b = ap not (own_partner ∙ bound_other rows k v b)

    pub own_taken : (IsBound rows k v → ⊥) → takes_row HashBiMap spot (entries rows) item ≡ true
    own_taken free = ap not (own_partner ∙ free_own rows k v free)

    pub own_told : (new : List Pair) (before : Option Elem) → new ≡ with_pair rows k v → before ≡ value_at rows k → not (option_eq same before (Some v)) ≡ is_structural HashBiMap (entries rows) (entries rows) (entries new)
    own_told new before e is =
        sym (told (entries rows) (entries rows) (entries new) (option_eq same before (Some v)) (ap (λ (rs : List Pair). pointwise same_item (entries rows) (entries rs)) e ∙ agrees rows k v ∙ ap (λ o. option_eq same o (Some v)) (sym is)) (λ t. refl))

    pub own_force_told : (new : List Pair) (before : Option Elem) → new ≡ with_pair (freed rows k v) k v → before ≡ value_at rows k
        → not (option_eq same before (Some v)) ≡ is_structural HashBiMap (entries rows) (left_by spot (entries rows) item) (entries new)
    own_force_told new before e is =
        sym (told (entries rows) (entries (freed rows k v)) (entries new) (option_eq same before (Some v))
        (ap (λ (rs : List Pair). pointwise same_item (entries (freed rows k v)) (entries rs)) e ∙ agrees (freed rows k v) k v ∙ ap (λ o. option_eq same o (Some v)) (freed_value rows k v ∙ sym is))
        (λ t. ap (λ (rs : List Pair). length (entries rs)) (own_stays rows k v keys values (sym is ∙ names before v t))))
        ∙ ap (λ left. is_structural HashBiMap (entries rows) left (entries new)) (sym (own_left rows k v) ∙ (λ i. left_by (sym own i) (entries rows) (is_entry i)))

  module _ (by_value : spot ≡ Swapped) where
    pub swapped_put : (new : List Pair) → turned new ≡ with_pair (turned rows) v k → entries new ≡ placed_at HashBiMap spot (entries rows) item
    swapped_put new e = swapped_placed rows new k v e ∙ (λ i. placed_at HashBiMap (sym by_value i) (entries rows) (is_entry i))

    pub swapped_forced : (new : List Pair) → turned new ≡ with_pair (freed (turned rows) v k) v k → entries new ≡ placed_at HashBiMap spot (left_by spot (entries rows) item) item
    swapped_forced new e =
        swapped_placed (turned (freed (turned rows) v k)) new k v (e ∙ ap (λ rs. with_pair rs v k) (sym (turned_twice (freed (turned rows) v k))))
        ∙ ap (λ left. placed_at HashBiMap Swapped left (Entry k v)) (sym (swapped_left rows k v)) ∙ (λ i. placed_at HashBiMap (sym by_value i) (left_by (sym by_value i) (entries rows) (is_entry i)) (is_entry i))

    swapped_other : list_any (has_partner_at spot item) (entries rows) ≡ is_other (key_with (turned rows) k) v
    swapped_other = (λ i. list_any (has_partner_at (by_value i) (sym is_entry i)) (entries rows)) ∙ swapped_partner rows k v ∙ any_partner (turned rows) v k (turned_values rows keys)

    pub swapped_bound : (of : Option Elem) → of ≡ value_at rows k → is_other of v ≡ not (takes_row HashBiMap spot (entries rows) item)
    swapped_bound of is =
        ap (λ o. is_other o v) (is ∙ ap (λ (rs : List Pair). value_at rs k) (sym (turned_twice rows))) ∙ sym swapped_other ∙ not_not (list_any (has_partner_at spot item) (entries rows))

    pub swapped_refused : IsBound (turned rows) v k → takes_row HashBiMap spot (entries rows) item ≡ false
    swapped_refused b = ap not (swapped_other ∙ bound_other (turned rows) v k b)

    pub swapped_taken : (IsBound (turned rows) v k → ⊥) → takes_row HashBiMap spot (entries rows) item ≡ true
    swapped_taken free = ap not (swapped_other ∙ free_own (turned rows) v k free)

    pub swapped_told : (new : List Pair) (before : Option Elem) → turned new ≡ with_pair (turned rows) v k → before ≡ key_with rows v → not (option_eq same before (Some k)) ≡ is_structural HashBiMap (entries rows) (entries rows) (entries new)
    swapped_told new before e is =
        sym (told (entries rows) (entries rows) (entries new) (option_eq same before (Some k))
        (turned_agree rows new ∙ ap (λ (rs : List Pair). pointwise same_item (entries (turned rows)) (entries rs)) e ∙ agrees (turned rows) v k ∙ ap (λ o. option_eq same o (Some k)) (sym is)) (λ t. refl))

    pub swapped_force_told : (new : List Pair) (before : Option Elem) → turned new ≡ with_pair (freed (turned rows) v k) v k → before ≡ key_with rows v
        → not (option_eq same before (Some k)) ≡ is_structural HashBiMap (entries rows) (left_by spot (entries rows) item) (entries new)
    swapped_force_told new before e is =
        let rest = freed (turned rows) v k in
        sym (told (entries rows) (entries (turned rest)) (entries new) (option_eq same before (Some k))
        (turned_agree (turned rest) new ∙ (λ i. pointwise same_item (entries (turned_twice rest i)) (entries (e i))) ∙ agrees rest v k ∙ ap (λ o. option_eq same o (Some k)) (freed_value (turned rows) v k ∙ sym is))
        (λ t. ap (λ (rs : List Pair). length (entries rs)) (ap turned (own_stays (turned rows) v k values (turned_values rows keys) (sym is ∙ names before k t)) ∙ turned_twice rows)))
        ∙ ap (λ left. is_structural HashBiMap (entries rows) left (entries new)) (sym (swapped_left rows k v) ∙ (λ i. left_by (sym by_value i) (entries rows) (is_entry i)))
