-- Keys beside rows: a pair put, and a key's rows taken away.
use Rattle.std.proofs.Common.{◌≡◌, ℕ, suc, ◌≤◌, ◌<◌, Bool, true, false, cond, not, ◌&&◌, ◌||◌, List, [], ◌∷◌, ◌++◌, length, Option, Some, None, refl, sym, ap, ◌∙◌, subst, arith, slice_get, length-append, append-nil}
use Rattle.std.specs.Prelude.{IsSome, is_some, nat_eq}
use Rattle.std.specs.Option.{option_map}
use Rattle.std.specs.List.{filter, IsDistinct, AllByRecursion}
use Rattle.std.specs.Map.{lookup, remove_entry, keys_of}
use Rattle.std.proofs.lemmas.Map.{none_passes_from_lookup}
use Rattle.std.proofs.lemmas.List.Elements.{filter-append}
use Rattle.elem.specs.declared.elements.Elem.{Elem}
use Rattle.elem.specs.Elements.{same}
use Rattle.elem.specs.ElementLaws.{same-Decides, same_equiv}
use Rattle.elem.specs.Rows.{first_key}
use Rattle.elem.specs.Keyed.{without, HasDistinctKeys}
use Rattle.elem.proofs.RowsLemmas.{remove_at}
use Rattle.mm_base.specs.PairRows.{Row, HasDistinctIds, pair_of, pairs_of_key, without_key, without_id, id_of, rows_of_pair}
use Rattle.mm_base.specs.KeyedRows.{as_rows, contains, has_key, AreKeysOf, HasDistinctPairs, with_key, keys_with_rows}
use Rattle.std.proofs.lemmas.Bool.Decides.{Decides-eqb}
use Rattle.mm_base.specs.LinkedPairs.{AreLinked}
use Rattle.linked_base.proofs.HeadLemmas.{filter_both}
use Rattle.mm_base.proofs.PairRowsLemmas.{its_row, its_cut, its_front, passes}

-- the keys of entries
pub contains_keys : {V : Type 0} (k : Elem) (es : List (Elem × V)) → contains k (keys_of es) ≡ is_some (lookup (same k) es)
contains_keys k [] = refl
contains_keys k (e ∷ es) = elim (same k e.0) as (λ b. cond b true (contains k (keys_of es)) ≡ is_some (cond b (Some e.1) (lookup (same k) es))) [ true ↦ refl | false ↦ contains_keys k es ]

pub keys_last : {V : Type 0} (es : List (Elem × V)) (k : Elem) (v : V) → keys_of (es ++ (k, v) ∷ []) ≡ keys_of es ++ k ∷ []
keys_last [] k v = refl
keys_last (e ∷ es) k v = ap (λ l. e.0 ∷ l) (keys_last es k v)

pub taken_back : {V : Type 0} (es : List (Elem × V)) (k : Elem) (v : V) → lookup (same k) es ≡ None → without (es ++ (k, v) ∷ []) k ≡ es
taken_back es k v e = remove_at (same k) es (k, v) [] (none_passes_from_lookup (same k) es e) (same_equiv.refl k) ∙ append-nil es

pub contains_last : (x k : Elem) (keys : List Elem) → contains x (keys ++ k ∷ []) ≡ (contains x keys || same x k)
contains_last x k [] = elim (same x k) as (λ b. cond b true false ≡ b) [ true ↦ refl | false ↦ refl ]
contains_last x k (y ∷ keys) = elim (same x y) as (λ b. cond b true (contains x (keys ++ k ∷ [])) ≡ (cond b true (contains x keys) || same x k)) [ true ↦ refl | false ↦ contains_last x k keys ]

contains_with : (x k : Elem) (keys : List Elem) → contains x (with_key k keys) ≡ (contains x keys || same x k)
contains_with x k keys = by_case (contains k keys) refl
  where
    absorbed : (b : Bool) → same x k ≡ b → contains k keys ≡ true → contains x keys ≡ (contains x keys || b)
    absorbed true t c = let there : contains x keys ≡ true = ap (λ y. contains y keys) ((same-Decides x k).0 t) ∙ c in there ∙ sym (ap (λ b. b || true) there)
    absorbed false t c = elim (contains x keys) as (λ b. b ≡ (b || false)) [ true ↦ refl | false ↦ refl ]

    by_case : (b : Bool) → contains k keys ≡ b → contains x (cond b keys (keys ++ k ∷ [])) ≡ (contains x keys || same x k)
    by_case true c = absorbed (same x k) refl c
    by_case false c = contains_last x k keys

-- a pair put last
pub has_last : (x : Elem) (rows : List Row) (r : Row) → has_key (rows ++ r ∷ []) x ≡ (has_key rows x || same x r.1.0)
has_last x rows r = ap (λ rs. is_some (first_key rs)) (filter-append (λ (s : Row). same x s.1.0) rows (r ∷ [])) ∙ by_rows (pairs_of_key x rows)
  where
    alone : (b : Bool) → is_some (first_key (cond b (r ∷ []) [])) ≡ b
    alone true = refl
    alone false = refl

    by_rows : (rs : List Row) → is_some (first_key (rs ++ cond (same x r.1.0) (r ∷ []) [])) ≡ (is_some (first_key rs) || same x r.1.0)
    by_rows [] = alone (same x r.1.0)
    by_rows (s ∷ rs) = refl

pub keyed_with : (rows : List Row) (keys more : List Elem) (id : ℕ) (k v : Elem) → AreKeysOf rows keys → more ≡ with_key k keys → IsDistinct same more → AreKeysOf (rows ++ (id, (k, v)) ∷ []) more
keyed_with rows keys more id k v h e d = record {
  exact = λ x. ap (contains x) e ∙ contains_with x k keys ∙ ap (λ b. b || same x k) (h.exact x) ∙ sym (has_last x rows (id, (k, v)));
  distinct = d;
}

nothing : (rows : List Row) → first_key rows ≡ None → rows ≡ []
nothing [] e = refl
nothing (r ∷ rows) e = absurd (cc)

pub pairs_with : (rows : List Row) (id : ℕ) (k v : Elem) → HasDistinctPairs rows → first_key (rows_of_pair k v rows) ≡ None → HasDistinctPairs (rows ++ (id, (k, v)) ∷ [])
pairs_with rows id k v h none x y =
    let whole = ap (filter (λ (r : Row). same y r.1.1)) (filter-append (λ (r : Row). same x r.1.0) rows ((id, (k, v)) ∷ [])) ∙ filter-append (λ (r : Row). same y r.1.1) (pairs_of_key x rows) (cond (same x k) ((id, (k, v)) ∷ []) []) in
    subst (λ l. length l ≤ 1) (sym whole) (by_key (same x k) refl)
  where
    before : length (rows_of_pair x y rows) ≤ 1
    before = h x y

    by_value : (b : Bool) → same y v ≡ b → same x k ≡ true → length (rows_of_pair x y rows ++ cond b ((id, (k, v)) ∷ []) []) ≤ 1
    by_value true t s =
        let empty : rows_of_pair x y rows ≡ [] = (λ i. rows_of_pair ((same-Decides x k).0 s i) ((same-Decides y v).0 t i) rows) ∙ nothing (rows_of_pair k v rows) none in
        subst (λ l. length (l ++ (id, (k, v)) ∷ []) ≤ 1) (sym empty) (omega arith)
    by_value false t s = subst (λ l. length l ≤ 1) (sym (append-nil (rows_of_pair x y rows))) before

    by_key : (b : Bool) → same x k ≡ b → length (rows_of_pair x y rows ++ filter (λ (r : Row). same y r.1.1) (cond b ((id, (k, v)) ∷ []) [])) ≤ 1
    by_key true s = by_value (same y v) refl s
    by_key false s = subst (λ l. length l ≤ 1) (sym (append-nil (rows_of_pair x y rows))) before

-- rows of one key taken away
smaller : (t u : Row → Bool) (rows : List Row) → length (filter t (filter u rows)) ≤ length (filter t rows)
smaller t u [] = omega arith
smaller t u (r ∷ rows) = by_case (u r) (t r) refl (smaller t u rows)
  where
    by_case : (a b : Bool) → t r ≡ b → length (filter t (filter u rows)) ≤ length (filter t rows) → length (filter t (cond a (r ∷ filter u rows) (filter u rows))) ≤ length (cond b (r ∷ filter t rows) (filter t rows))
    by_case true true e s = subst (λ c. length (cond c (r ∷ filter t (filter u rows)) (filter t (filter u rows))) ≤ suc (length (filter t rows))) (sym e) (omega arith)
    by_case true false e s = subst (λ c. length (cond c (r ∷ filter t (filter u rows)) (filter t (filter u rows))) ≤ length (filter t rows)) (sym e) s
    by_case false true e s = omega arith
    by_case false false e s = s

pub one_test : (x y : Elem) (rows : List Row) → filter (λ (r : Row). same y r.1.1 && same x r.1.0) rows ≡ rows_of_pair x y rows
one_test x y rows = filter_both (λ (r : Row). same y r.1.1) (λ (r : Row). same x r.1.0) (λ (r : Row). same y r.1.1 && same x r.1.0) (λ r. refl) rows

pub pairs_filtered : (u : Row → Bool) (rows : List Row) → HasDistinctPairs rows → HasDistinctPairs (filter u rows)
pairs_filtered u rows h x y =
    let t : Row → Bool = λ (r : Row). same y r.1.1 && same x r.1.0 in
    let less = smaller t u rows in
    let a = ap length (one_test x y (filter u rows)) in
    let b = ap length (one_test x y rows) in
    let c = h x y in
    omega arith

-- an id that names a row of the key
module _ (k : Elem) (rows : List Row) (i p : ℕ) (e : id_of k i rows ≡ Some p) (d : HasDistinctIds rows) where
  cut_out : remove_entry (nat_eq p) rows ≡ (its_cut k rows i p e).0 ++ (its_cut k rows i p e).1
  cut_out = ap (remove_entry (nat_eq p)) (its_cut k rows i p e).2 ∙ remove_at (nat_eq p) (its_cut k rows i p e).0 (its_row k rows i p e).0 (its_cut k rows i p e).1 (its_front k rows i p e d) (passes k rows i p e d)

  other_key : (x : Elem) → same k x ≡ false → same x (its_row k rows i p e).0.1.0 ≡ false
  other_key x f = ap (same x) (sym ((same-Decides k (its_row k rows i p e).0.1.0).0 (its_cut k rows i p e).3)) ∙ same_equiv.symm x k ∙ f

  pub others_kept : (x : Elem) → same k x ≡ false → has_key (remove_entry (nat_eq p) rows) x ≡ has_key rows x
  others_kept x f =
      let us = (its_cut k rows i p e).0 in
      let vs = (its_cut k rows i p e).1 in
      let r = (its_row k rows i p e).0 in
      let test : Row → Bool = λ (s : Row). same x s.1.0 in
      ap (λ rs. is_some (first_key rs)) (ap (pairs_of_key x) cut_out ∙ filter-append test us vs ∙ sym (ap (pairs_of_key x) (its_cut k rows i p e).2 ∙ filter-append test us (r ∷ vs) ∙ ap (λ b. filter test us ++ cond b (r ∷ filter test vs) (filter test vs)) (other_key x f)))

  pub pairs_removed : HasDistinctPairs rows → HasDistinctPairs (remove_entry (nat_eq p) rows)
  pairs_removed h x y =
      let us = (its_cut k rows i p e).0 in
      let vs = (its_cut k rows i p e).1 in
      let r = (its_row k rows i p e).0 in
      let t : Row → Bool = λ (r : Row). same y r.1.1 && same x r.1.0 in
      let without_it = ap length (sym (one_test x y (remove_entry (nat_eq p) rows)) ∙ ap (filter t) cut_out ∙ filter-append t us vs) ∙ length-append (filter t us) (filter t vs) in
      let with_it = ap length (sym (one_test x y rows) ∙ ap (filter t) (its_cut k rows i p e).2 ∙ filter-append t us (r ∷ vs)) ∙ length-append (filter t us) (cond (t r) (r ∷ filter t vs) (filter t vs)) in
      let less = longer (t r) r (filter t vs) in
      let c = h x y in
      omega arith
    where
      longer : (b : Bool) (r : Row) (rs : List Row) → length rs ≤ length (cond b (r ∷ rs) rs)
      longer true r rs = omega arith
      longer false r rs = omega arith

-- the first row of a pair is a row of its key
first_index : (test : Row → Bool) (rows : List Row) (p : ℕ) → first_key (filter test rows) ≡ Some p → (i : ℕ) × (option_map (λ (r : Row). r.0) (slice_get rows i) ≡ Some p)
first_index test [] p e = absurd (cc)
first_index test (r ∷ rows) p e = by_case (test r) (first_index test rows p) e
  where
    by_case : (b : Bool) → (first_key (filter test rows) ≡ Some p → (i : ℕ) × (option_map (λ (r : Row). r.0) (slice_get rows i) ≡ Some p)) → first_key (cond b (r ∷ filter test rows) (filter test rows)) ≡ Some p → (i : ℕ) × (option_map (λ (r : Row). r.0) (slice_get (r ∷ rows) i) ≡ Some p)
    by_case true rest f = (0, f)
    by_case false rest f = let s = rest f in (suc s.0, s.1)

pub pair_index : (k v : Elem) (rows : List Row) (p : ℕ) → first_key (rows_of_pair k v rows) ≡ Some p → (i : ℕ) × (id_of k i rows ≡ Some p)
pair_index k v rows p e = first_index (λ (r : Row). same v r.1.1) (pairs_of_key k rows) p e

rows_without : (k x : Elem) → same k x ≡ false → (rows : List Row) → pairs_of_key x (without_key k rows) ≡ pairs_of_key x rows
rows_without k x f [] = refl
rows_without k x f (r ∷ rows) = by_case (same k r.1.0) refl (rows_without k x f rows)
  where
    by_case : (b : Bool) → same k r.1.0 ≡ b → pairs_of_key x (without_key k rows) ≡ pairs_of_key x rows → pairs_of_key x (cond (not b) (r ∷ without_key k rows) (without_key k rows)) ≡ pairs_of_key x (r ∷ rows)
    by_case true t rest =
        let differs : same x r.1.0 ≡ false = ap (same x) (sym ((same-Decides k r.1.0).0 t)) ∙ same_equiv.symm x k ∙ f in
        rest ∙ sym (ap (λ b. cond b (r ∷ pairs_of_key x rows) (pairs_of_key x rows)) differs)
    by_case false t rest = ap (λ l. cond (same x r.1.0) (r ∷ l) l) rest

pub others_without : (k : Elem) (rows : List Row) (x : Elem) → same k x ≡ false → has_key (without_key k rows) x ≡ has_key rows x
others_without k rows x f = ap (λ rs. is_some (first_key rs)) (rows_without k x f rows)

-- the key settled
all_of : (P : Elem → Type 0) (keys : List Elem) → ((k : Elem) → contains k keys ≡ true → P k) → AllByRecursion P keys
all_of P [] h = tt
all_of P (y ∷ keys) h = (h y (ap (λ b. cond b true (contains y keys)) (same_equiv.refl y)), all_of P keys (λ k c. h k (later (same k y) (contains k keys) c)))
  where
    later : (b c : Bool) → c ≡ true → cond b true c ≡ true
    later true c e = refl
    later false c e = e

module _ (old new : List Row) (k : Elem) (others : (x : Elem) → same k x ≡ false → has_key new x ≡ has_key old x) where
  keep_all : has_key new k ≡ true → (keys : List Elem) → AllByRecursion (λ x. has_key old x ≡ true) keys → filter (has_key new) keys ≡ keys
  keep_all t [] a = refl
  keep_all t (y ∷ keys) a = ap (λ b. cond b (y ∷ filter (has_key new) keys) (filter (has_key new) keys)) (here (same k y) refl) ∙ ap (λ l. y ∷ l) (keep_all t keys a.1)
    where
      here : (b : Bool) → same k y ≡ b → has_key new y ≡ true
      here true s = ap (has_key new) (sym ((same-Decides k y).0 s)) ∙ t
      here false s = others y s ∙ a.0

  drop_it : {V : Type 0} → has_key new k ≡ false → (es : List (Elem × V)) → AllByRecursion (λ x. has_key old x ≡ true) (keys_of es) → IsDistinct same (keys_of es) → filter (has_key new) (keys_of es) ≡ keys_of (without es k)
  unfolding IsDistinct
  drop_it t [] a d = refl
  drop_it {V} t (y ∷ es) a d = by_case (same k y.0) refl (drop_it t es a.1 d.1)
    where
      no_more : same k y.0 ≡ true → (fs : List (Elem × V)) → AllByRecursion (λ x. same y.0 x ≡ false) (keys_of fs) → AllByRecursion (λ x. has_key old x ≡ true) (keys_of fs) → filter (has_key new) (keys_of fs) ≡ keys_of fs
      no_more s [] n b = refl
      no_more s (z ∷ fs) n b =
          let differs : same k z.0 ≡ false = ap (λ x. same x z.0) ((same-Decides k y.0).0 s) ∙ n.0 in
          ap (λ c. cond c (z.0 ∷ filter (has_key new) (keys_of fs)) (filter (has_key new) (keys_of fs))) (others z.0 differs ∙ b.0) ∙ ap (λ l. z.0 ∷ l) (no_more s fs n.1 b.1)

      by_case : (b : Bool) → same k y.0 ≡ b → filter (has_key new) (keys_of es) ≡ keys_of (without es k) → cond (has_key new y.0) (y.0 ∷ filter (has_key new) (keys_of es)) (filter (has_key new) (keys_of es)) ≡ keys_of (cond b es (y ∷ without es k))
      by_case true s rest = ap (λ c. cond c (y.0 ∷ filter (has_key new) (keys_of es)) (filter (has_key new) (keys_of es))) (ap (has_key new) (sym ((same-Decides k y.0).0 s)) ∙ t) ∙ no_more s es d.0 a.1
      by_case false s rest = ap (λ c. cond c (y.0 ∷ filter (has_key new) (keys_of es)) (filter (has_key new) (keys_of es))) (others y.0 s ∙ a.0) ∙ ap (λ l. y.0 ∷ l) rest

  module _ {V : Type 0} (es fs : List (Elem × V)) (h : AreKeysOf old (keys_of es)) (e : fs ≡ cond (has_key new k) es (without es k)) where
    all_old : AllByRecursion (λ x. has_key old x ≡ true) (keys_of es)
    all_old = all_of (λ x. has_key old x ≡ true) (keys_of es) (λ x c. sym (h.exact x) ∙ c)

    pub keys_settled : keys_of fs ≡ keys_with_rows new (keys_of es)
    keys_settled = ap keys_of e ∙ by_case (has_key new k) refl
      where
        by_case : (b : Bool) → has_key new k ≡ b → keys_of (cond b es (without es k)) ≡ filter (has_key new) (keys_of es)
        by_case true t = sym (keep_all t (keys_of es) all_old)
        by_case false t = sym (drop_it t es all_old h.distinct)

    contains_filter : (x : Elem) (keys : List Elem) → contains x (filter (has_key new) keys) ≡ (contains x keys && has_key new x)
    contains_filter x [] = refl
    contains_filter x (y ∷ keys) = by_new (has_key new y) refl (contains_filter x keys)
      where
        by_same : (b c : Bool) → has_key new y ≡ c → same x y ≡ b → contains x (filter (has_key new) keys) ≡ (contains x keys && has_key new x) → contains x (cond c (y ∷ filter (has_key new) keys) (filter (has_key new) keys)) ≡ (cond b true (contains x keys) && has_key new x)
        by_same true true n s r = ap (λ z. cond z true (contains x (filter (has_key new) keys))) s ∙ sym (ap (has_key new) ((same-Decides x y).0 s) ∙ n)
        by_same true false n s r = r ∙ ap (λ z. contains x keys && z) gone ∙ none (contains x keys) ∙ sym gone
          where
            gone : has_key new x ≡ false
            gone = ap (has_key new) ((same-Decides x y).0 s) ∙ n

            none : (z : Bool) → (z && false) ≡ false
            none true = refl
            none false = refl
        by_same false true n s r = ap (λ z. cond z true (contains x (filter (has_key new) keys))) s ∙ r
        by_same false false n s r = r

        by_new : (c : Bool) → has_key new y ≡ c → contains x (filter (has_key new) keys) ≡ (contains x keys && has_key new x) → contains x (cond (has_key new y) (y ∷ filter (has_key new) keys) (filter (has_key new) keys)) ≡ (contains x (y ∷ keys) && has_key new x)
        by_new c n r = ap (λ z. contains x (cond z (y ∷ filter (has_key new) keys) (filter (has_key new) keys))) n ∙ by_same (same x y) c n refl r

    -- what has a row now had one before
    pub keyed_settled : ((x : Elem) → has_key new x ≡ true → has_key old x ≡ true) → IsDistinct same (keys_of fs) → AreKeysOf new (keys_of fs)
    keyed_settled had d = record {
      exact = λ x. ap (contains x) keys_settled ∙ contains_filter x (keys_of es) ∙ ap (λ b. b && has_key new x) (h.exact x) ∙ both (has_key old x) (has_key new x) (had x);
      distinct = d;
    }
      where
        both : (a b : Bool) → (b ≡ true → a ≡ true) → (a && b) ≡ b
        both true b f = refl
        both false true f = absurd (let g = f refl in cc)
        both false false f = refl

-- the new rows are the old ones without some of one key
pub record IsLess (k : Elem) (old new : List Row) : Type 0 where
  pub others : (x : Elem) → same k x ≡ false → has_key new x ≡ has_key old x
  pub had : has_key new k ≡ true → has_key old k ≡ true
  pub pairs : HasDistinctPairs old → HasDistinctPairs new

module _ {V : Type 0} (old new : List Row) (k : Elem) (es fs : List (Elem × V)) (l : IsLess k old new) (h : AreLinked old es) (e : fs ≡ cond (has_key new k) es (without es k)) where
  pub less_keys : keys_of fs ≡ keys_with_rows new (keys_of es)
  less_keys = keys_settled old new k l.others es fs h.keyed e

  had_before : (x : Elem) → has_key new x ≡ true → has_key old x ≡ true
  had_before x t = by_case (same k x) refl
    where
      by_case : (b : Bool) → same k x ≡ b → has_key old x ≡ true
      by_case true s = let equal : k ≡ x = (same-Decides k x).0 s in ap (has_key old) (sym equal) ∙ l.had (ap (has_key new) equal ∙ t)
      by_case false s = sym (l.others x s) ∙ t

  pub less_linked : HasDistinctKeys fs → AreLinked new fs
  less_linked d = record { keyed = keyed_settled old new k l.others es fs h.keyed e had_before d; pairs = l.pairs h.pairs }

some_filter : (t u : Row → Bool) (rows : List Row) → is_some (first_key (filter t (filter u rows))) ≡ true → is_some (first_key (filter t rows)) ≡ true
some_filter t u [] e = e
some_filter t u (r ∷ rows) e = by_case (u r) (t r) refl (some_filter t u rows) e
  where
    by_case : (a b : Bool) → t r ≡ b → (is_some (first_key (filter t (filter u rows))) ≡ true → is_some (first_key (filter t rows)) ≡ true) → is_some (first_key (filter t (cond a (r ∷ filter u rows) (filter u rows)))) ≡ true → is_some (first_key (cond b (r ∷ filter t rows) (filter t rows))) ≡ true
    by_case a true f rest g = refl
    by_case true false f rest g = rest (sym (ap (λ c. is_some (first_key (cond c (r ∷ filter t (filter u rows)) (filter t (filter u rows))))) f) ∙ g)
    by_case false false f rest g = rest g

pub less_key : (k : Elem) (rows : List Row) → IsLess k rows (without_key k rows)
less_key k rows = record {
  others = others_without k rows;
  had = some_filter (λ (r : Row). same k r.1.0) (λ (r : Row). not (same k r.1.0)) rows;
  pairs = pairs_filtered (λ (r : Row). not (same k r.1.0)) rows;
}

some_nth : (rs : List Row) (i p : ℕ) → option_map (λ (r : Row). r.0) (slice_get rs i) ≡ Some p → is_some (first_key rs) ≡ true
some_nth [] i p e = absurd (cc)
some_nth (r ∷ rs) i p e = refl

pub less_id : (k : Elem) (rows : List Row) (i p : ℕ) → id_of k i rows ≡ Some p → HasDistinctIds rows → IsLess k rows (remove_entry (nat_eq p) rows)
less_id k rows i p e d = record {
  others = others_kept k rows i p e d;
  had = λ t. some_nth (pairs_of_key k rows) i p e;
  pairs = pairs_removed k rows i p e d;
}

pub less_pair : (k v : Elem) (rows : List Row) → HasDistinctIds rows → IsLess k rows (without_id (first_key (rows_of_pair k v rows)) rows)
less_pair k v rows d = by_case (first_key (rows_of_pair k v rows)) refl
  where
    by_case : (o : Option ℕ) → first_key (rows_of_pair k v rows) ≡ o → IsLess k rows (without_id o rows)
    by_case None e = record { others = λ x f. refl; had = λ t. t; pairs = λ h. h }
    by_case (Some p) e = let i = pair_index k v rows p e in less_id k rows i.0 p i.1 d

-- a live id is that of a row of its key
pub live_index : (k v : Elem) (rows : List Row) (p : ℕ) → pair_of rows p ≡ Some (k, v) → (i : ℕ) × (id_of k i rows ≡ Some p)
live_index k v [] p e = absurd (cc)
live_index k v (r ∷ rows) p e = by_id (nat_eq p r.0) refl (same k r.1.0) refl (live_index k v rows p) e
  where
    by_id : (b : Bool) → nat_eq p r.0 ≡ b → (c : Bool) → same k r.1.0 ≡ c → (pair_of rows p ≡ Some (k, v) → (i : ℕ) × (id_of k i rows ≡ Some p)) → cond b (Some r.1) (pair_of rows p) ≡ Some (k, v)
        → (i : ℕ) × (option_map (λ (s : Row). s.0) (slice_get (cond (same k r.1.0) (r ∷ pairs_of_key k rows) (pairs_of_key k rows)) i) ≡ Some p)
    by_id true n c s rest f =
        let own : r.1 ≡ (k, v) = cc in
        let passes : same k r.1.0 ≡ true = ap (λ (x : Elem × Elem). same k x.0) own ∙ same_equiv.refl k in
        (0, ap (λ b. option_map (λ (s : Row). s.0) (slice_get (cond b (r ∷ pairs_of_key k rows) (pairs_of_key k rows)) 0)) passes ∙ ap Some (sym ((Decides-eqb p r.0).0 n)))
    by_id false n true s rest f = let i = rest f in (suc i.0, ap (λ b. option_map (λ (s : Row). s.0) (slice_get (cond b (r ∷ pairs_of_key k rows) (pairs_of_key k rows)) (suc i.0))) s ∙ i.1)
    by_id false n false s rest f = let i = rest f in (i.0, ap (λ b. option_map (λ (s : Row). s.0) (slice_get (cond b (r ∷ pairs_of_key k rows) (pairs_of_key k rows)) i.0)) s ∙ i.1)

pub not_not : (b : Bool) → not (not b) ≡ b
not_not true = refl
not_not false = refl

pub none_of : {A : Type 0} (o : Option A) → is_some o ≡ false → o ≡ None
none_of None e = refl
none_of (Some a) e = absurd (cc)

pub nothing_linked : {V : Type 0} → AreLinked {V = V} [] []
unfolding IsDistinct
nothing_linked = record { keyed = record { exact = λ k. refl; distinct = tt }; pairs = λ k v. omega arith }

-- the keys of entries with nothing beside them
pub entries_are : (es : List (Elem × Unit {0})) → as_rows (keys_of es) ≡ es
entries_are [] = refl
entries_are (e ∷ es) = ap (λ l. e ∷ l) (entries_are es)

-- a key with a row is there
pub key_present : {V : Type 0} (rows : List Row) (es : List (Elem × V)) (k : Elem) → AreLinked rows es → 0 < length (pairs_of_key k rows) → IsSome (lookup (same k) es)
key_present rows es k h l = by_look_up (lookup (same k) es) (sym (contains_keys k es) ∙ h.keyed.exact k ∙ has_some (pairs_of_key k rows) l)
  where
    has_some : (rs : List Row) → 0 < length rs → is_some (first_key rs) ≡ true
    has_some [] m = absurd (omega arith)
    has_some (r ∷ rs) m = refl

    by_look_up : {A : Type 0} (o : Option A) → is_some o ≡ true → IsSome o
    by_look_up None e = absurd (cc)
    by_look_up (Some a) e = refl
