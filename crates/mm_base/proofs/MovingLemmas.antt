-- Rows that go last, and rows of a key that go in turn.
use Rattle.std.proofs.Common.{◌≡◌, ℕ, ◌+◌, ◌<◌, ◌≤◌, Bool, true, false, cond, not, ◌&&◌, ◌||◌, List, [], ◌∷◌, ◌++◌, length, Some, None, refl, sym, ap, ◌∙◌, subst, arith, length-append, append-nil, append_assoc}
use Rattle.std.specs.Prelude.{IsSome, is_some, nat_eq}
use Rattle.std.specs.List.{filter, IsDistinct, AllByRecursion}
use Rattle.std.specs.Map.{lookup, remove_entry, keys_of}
use Rattle.std.proofs.lemmas.Map.{NonePasses}
use Rattle.std.proofs.lemmas.Bool.Decides.{Decides-eqb}
use Rattle.std.proofs.lemmas.List.Elements.{filter-append}
use Rattle.elem.specs.declared.elements.Elem.{Elem}
use Rattle.elem.specs.Elements.{same}
use Rattle.elem.specs.ElementLaws.{same-Decides, same_equiv}
use Rattle.elem.specs.Rows.{first_key}
use Rattle.elem.specs.Keyed.{without, HasDistinctKeys}
use Rattle.elem.proofs.RowsLemmas.{remove_at}
use Rattle.linked_base.proofs.PlacesLemmas.{some_of}
use Rattle.mm_base.specs.PairRows.{Row, HasDistinctIds, pair_of, pairs_of_key, without_key, count_of, id_of}
use Rattle.mm_base.specs.KeyedRows.{contains}
use Rattle.mm_base.specs.LinkedPairs.{AreLinked}
use Rattle.mm_base.specs.Moving.{as_row, moved_last, key_moved_last, key_last}
use Rattle.mm_base.proofs.PairRowsLemmas.{first_id_of, no_id, none_left}
use Rattle.mm_base.proofs.KeyedRowsLemmas.{keys_last, contains_last, one_test}
use Rattle.mm_base.proofs.ReplacingLemmas.{first_split, none_without, without_split, pair_cut, removed_at_cut}

-- the rows are cut at a row by its id
pub live_cut : (p : ℕ) (rows : List Row) (pair : Elem × Elem) → pair_of rows p ≡ Some pair → (us : List Row) × (vs : List Row) × (rows ≡ us ++ (p, pair) ∷ vs) × NonePasses (nat_eq p) us
live_cut p [] pair e = absurd (cc)
live_cut p (row ∷ rows) pair e = by_case (nat_eq p row.0) refl (live_cut p rows pair) e
  where
    by_case : (b : Bool) → nat_eq p row.0 ≡ b → (pair_of rows p ≡ Some pair → (us : List Row) × (vs : List Row) × (rows ≡ us ++ (p, pair) ∷ vs) × NonePasses (nat_eq p) us) → cond b (Some row.1) (pair_of rows p) ≡ Some pair
        → (us : List Row) × (vs : List Row) × (row ∷ rows ≡ us ++ (p, pair) ∷ vs) × NonePasses (nat_eq p) us
    by_case true t rest f =
        let own : row.1 ≡ pair = cc in
        let id : row.0 ≡ p = sym ((Decides-eqb p row.0).0 t) in
        ([], rows, λ i. (id i, own i) ∷ rows, tt)
    by_case false t rest f = let r = rest f in (row ∷ r.0, r.1, ap (λ l. row ∷ l) r.2, (t, r.3))

pub moved_is : (p : ℕ) (rows : List Row) (pair : Elem × Elem) → pair_of rows p ≡ Some pair → moved_last p rows ≡ remove_entry (nat_eq p) rows ++ (p, pair) ∷ []
moved_is p rows pair e = ap (λ o. remove_entry (nat_eq p) rows ++ as_row p o) e

-- a row that goes last
module _ (p : ℕ) (rows : List Row) (s : IsSome (lookup (nat_eq p) rows)) where
  its_pair : (pair : Elem × Elem) × (pair_of rows p ≡ Some pair)
  its_pair = some_of (pair_of rows p) s

  its_cut : (us : List Row) × (vs : List Row) × (rows ≡ us ++ (p, its_pair.0) ∷ vs) × NonePasses (nat_eq p) us
  its_cut = live_cut p rows its_pair.0 its_pair.1

  moved_cut : moved_last p rows ≡ (its_cut.0 ++ its_cut.1) ++ (p, its_pair.0) ∷ []
  moved_cut = moved_is p rows its_pair.0 its_pair.1 ∙ ap (λ rs. rs ++ (p, its_pair.0) ∷ []) (ap (remove_entry (nat_eq p)) its_cut.2 ∙ remove_at (nat_eq p) its_cut.0 (p, its_pair.0) its_cut.1 its_cut.3 ((Decides-eqb p p).1 refl))

  -- as many rows pass a test
  pub moved_count : (t : Row → Bool) → length (filter t (moved_last p rows)) ≡ length (filter t rows)
  moved_count t =
      let us = its_cut.0 in
      let vs = its_cut.1 in
      let r : Row = (p, its_pair.0) in
      let after = ap (λ rs. length (filter t rs)) moved_cut ∙ ap length (filter-append t (us ++ vs) (r ∷ []) ∙ ap (λ l. l ++ filter t (r ∷ [])) (filter-append t us vs)) ∙ length-append (filter t us ++ filter t vs) (filter t (r ∷ [])) in
      let front = length-append (filter t us) (filter t vs) in
      let before = ap (λ rs. length (filter t rs)) its_cut.2 ∙ ap length (filter-append t us (r ∷ vs)) ∙ length-append (filter t us) (filter t (r ∷ vs)) in
      let one = alone (t r) r (filter t vs) in
      omega arith
    where
      alone : (b : Bool) (r : Row) (xs : List Row) → length (cond b (r ∷ []) []) + length xs ≡ length (cond b (r ∷ xs) xs)
      alone true r xs = omega arith
      alone false r xs = omega arith

some_by_length : (xs ys : List Row) → length xs ≡ length ys → is_some (first_key xs) ≡ is_some (first_key ys)
some_by_length [] [] e = refl
some_by_length [] (y ∷ ys) e = absurd (omega arith)
some_by_length (x ∷ xs) [] e = absurd (omega arith)
some_by_length (x ∷ xs) (y ∷ ys) e = refl

pub moved_linked : {V : Type 0} (p : ℕ) (rows : List Row) (es : List (Elem × V)) → IsSome (lookup (nat_eq p) rows) → AreLinked rows es → AreLinked (moved_last p rows) es
moved_linked p rows es s h = record {
  keyed = record {
    exact = λ x. h.keyed.exact x ∙ some_by_length (pairs_of_key x rows) (pairs_of_key x (moved_last p rows)) (sym (moved_count p rows s (λ (r : Row). same x r.1.0)));
    distinct = h.keyed.distinct;
  };
  pairs = λ x y.
      let one = h.pairs x y in
      let all = moved_count p rows s (λ (r : Row). same y r.1.1 && same x r.1.0) in
      let a = ap length (one_test x y (moved_last p rows)) in
      let b = ap length (one_test x y rows) in
      omega arith;
}

-- a key that goes last
without_filter : {V : Type 0} (k : Elem) (es : List (Elem × V)) → IsDistinct same (keys_of es) → keys_of (without es k) ≡ filter (λ x. not (same k x)) (keys_of es)
unfolding IsDistinct
without_filter k [] d = refl
without_filter {V} k (e ∷ es) d = by_case (same k e.0) refl (without_filter k es d.1)
  where
    kept : (keys : List Elem) → AllByRecursion (λ y. same e.0 y ≡ false) keys → same k e.0 ≡ true → keys ≡ filter (λ x. not (same k x)) keys
    kept [] a t = refl
    kept (y ∷ keys) a t =
        let differs : same k y ≡ false = ap (λ x. same x y) ((same-Decides k e.0).0 t) ∙ a.0 in
        ap (λ l. y ∷ l) (kept keys a.1 t) ∙ sym (ap (λ b. cond (not b) (y ∷ filter (λ x. not (same k x)) keys) (filter (λ x. not (same k x)) keys)) differs)

    by_case : (b : Bool) → same k e.0 ≡ b → keys_of (without es k) ≡ filter (λ x. not (same k x)) (keys_of es) → keys_of (cond b es (e ∷ without es k)) ≡ cond (not b) (e.0 ∷ filter (λ x. not (same k x)) (keys_of es)) (filter (λ x. not (same k x)) (keys_of es))
    by_case true t rest = kept (keys_of es) d.0 t
    by_case false t rest = ap (λ l. e.0 ∷ l) rest

pub contains_beside : (k x : Elem) → same k x ≡ false → (keys : List Elem) → contains x (filter (λ y. not (same k y)) keys) ≡ contains x keys
contains_beside k x f [] = refl
contains_beside k x f (y ∷ keys) = by_case (same k y) refl (contains_beside k x f keys)
  where
    by_case : (b : Bool) → same k y ≡ b → contains x (filter (λ z. not (same k z)) keys) ≡ contains x keys → contains x (cond (not b) (y ∷ filter (λ z. not (same k z)) keys) (filter (λ z. not (same k z)) keys)) ≡ cond (same x y) true (contains x keys)
    by_case true t rest =
        let differs : same x y ≡ false = ap (same x) (sym ((same-Decides k y).0 t)) ∙ same_equiv.symm x k ∙ f in
        rest ∙ sym (ap (λ b. cond b true (contains x keys)) differs)
    by_case false t rest = ap (cond (same x y) true) rest

contains_key_last : (k x : Elem) (keys : List Elem) → contains k keys ≡ true → contains x (key_last k keys) ≡ contains x keys
contains_key_last k x keys c = contains_last x k (filter (λ y. not (same k y)) keys) ∙ by_case (same k x) refl
  where
    by_case : (b : Bool) → same k x ≡ b → (contains x (filter (λ y. not (same k y)) keys) || same x k) ≡ contains x keys
    by_case true t =
        let equal : k ≡ x = (same-Decides k x).0 t in
        let own : same x k ≡ true = same_equiv.symm x k ∙ t in
        ap (λ b. contains x (filter (λ y. not (same k y)) keys) || b) own ∙ always (contains x (filter (λ y. not (same k y)) keys)) ∙ sym (ap (λ y. contains y keys) (sym equal) ∙ c)
      where
        always : (a : Bool) → (a || true) ≡ true
        always true = refl
        always false = refl
    by_case false f = ap (λ b. contains x (filter (λ y. not (same k y)) keys) || b) (same_equiv.symm x k ∙ f) ∙ never (contains x (filter (λ y. not (same k y)) keys)) ∙ contains_beside k x f keys
      where
        never : (a : Bool) → (a || false) ≡ a
        never true = refl
        never false = refl

module _ {V : Type 0} (k : Elem) (v : V) (rows : List Row) (es fs : List (Elem × V)) (h : AreLinked rows es) (e : fs ≡ without es k ++ (k, v) ∷ []) where
  pub keys_moved : keys_of fs ≡ key_last k (keys_of es)
  keys_moved = ap keys_of e ∙ keys_last (without es k) k v ∙ ap (λ l. l ++ k ∷ []) (without_filter k es h.keyed.distinct)

  pub key_moved_linked : 0 < count_of k rows → HasDistinctKeys fs → AreLinked rows fs
  key_moved_linked some d = record {
    keyed = record {
      exact = λ x. ap (contains x) keys_moved ∙ contains_key_last k x (keys_of es) (h.keyed.exact k ∙ has_some (pairs_of_key k rows) some) ∙ h.keyed.exact x;
      distinct = d;
    };
    pairs = h.pairs;
  }
    where
      has_some : (rs : List Row) → 0 < length rs → is_some (first_key rs) ≡ true
      has_some [] m = absurd (omega arith)
      has_some (r ∷ rs) m = refl

-- the first row of a key, where some of the rows in front have it
module _ (k : Elem) (left right : List Row) where
  both_pairs : pairs_of_key k (left ++ right) ≡ pairs_of_key k left ++ pairs_of_key k right
  both_pairs = filter-append (λ (r : Row). same k r.1.0) left right

  pub first_in : (p : ℕ) → id_of k 0 (left ++ right) ≡ Some p → 0 < count_of k left → first_key (pairs_of_key k left) ≡ Some p
  first_in p e l = by_case (pairs_of_key k left) l (sym (first_id_of k (left ++ right) ∙ ap first_key both_pairs) ∙ e)
    where
      by_case : (rs : List Row) → 0 < length rs → first_key (rs ++ pairs_of_key k right) ≡ Some p → first_key rs ≡ Some p
      by_case [] m f = absurd (omega arith)
      by_case (r ∷ rs) m f = f

  pub none_in : id_of k 0 (left ++ right) ≡ None → count_of k left ≡ 0
  none_in e = let none = no_id k (left ++ right) e in let whole = ap length both_pairs ∙ length-append (pairs_of_key k left) (pairs_of_key k right) in omega arith

-- a row of a key, none before it
module _ (k : Elem) (us : List Row) (p : ℕ) (w : Elem) (vs : List Row) (none : pairs_of_key k us ≡ []) where
  abbrev row : Row
  row = (p, (k, w))

  pub pairs_cut : pairs_of_key k (us ++ (p, (k, w)) ∷ vs) ≡ (p, (k, w)) ∷ pairs_of_key k (us ++ vs)
  pairs_cut =
      filter-append (λ (r : Row). same k r.1.0) us (row ∷ vs) ∙ (λ i. none i ++ cond (same_equiv.refl k i) (row ∷ pairs_of_key k vs) (pairs_of_key k vs))
      ∙ ap (λ l. row ∷ l) (sym (filter-append (λ (r : Row). same k r.1.0) us vs ∙ ap (λ l. l ++ pairs_of_key k vs) none))

  pub others_cut : without_key k (us ++ (p, (k, w)) ∷ vs) ≡ without_key k (us ++ vs)
  others_cut = without_split k us p w vs none ∙ sym (filter-append (λ (r : Row). not (same k r.1.0)) us vs ∙ ap (λ l. l ++ without_key k vs) (none_without k us none))

-- the first n rows of a key stand last
pub record IsMoving (k : Elem) (old now : List Row) (n : ℕ) : Type 0 where
  pub base : List Row
  pub moved : List Row
  pub rows : now ≡ base ++ moved
  pub pairs : moved ++ pairs_of_key k base ≡ pairs_of_key k old
  pub others : without_key k base ≡ without_key k old
  pub count : length moved ≡ n

pub moving_starts : (k : Elem) (old : List Row) → IsMoving k old old 0
moving_starts k old = record { base = old; moved = []; rows = sym (append-nil old); pairs = refl; others = refl; count = refl }

module _ (k : Elem) (old now : List Row) (n : ℕ) (h : IsMoving k old now n) where
  pub moving_left : count_of k h.base + n ≡ count_of k old
  moving_left = let whole = ap length h.pairs in let parts = length-append h.moved (pairs_of_key k h.base) in let c = h.count in omega arith

  pub moving_on : (p : ℕ) → id_of k 0 now ≡ Some p → n < count_of k old → HasDistinctIds now → IsMoving k old (moved_last p now) (n + 1)
  moving_on p e l d =
      let left = moving_left in
      let some : 0 < count_of k h.base = omega arith in
      let s = first_split k h.base p (first_in k h.base h.moved p (sym (ap (id_of k 0) h.rows) ∙ e) some) in
      let us = s.0 in
      let w = s.1 in
      let vs = s.2 in
      let whole : now ≡ us ++ (p, (k, w)) ∷ (vs ++ h.moved) = h.rows ∙ ap (λ l. l ++ h.moved) s.3 ∙ append_assoc us ((p, (k, w)) ∷ vs) h.moved in
      let dc = subst HasDistinctIds whole d in
      let own = ap (λ rs. pair_of rs p) whole ∙ pair_cut k us p w (vs ++ h.moved) dc in
      let gone = ap (remove_entry (nat_eq p)) whole ∙ removed_at_cut k us p w (vs ++ h.moved) dc in
      let total = ap length s.3 in
      let c = h.count in
      record {
        base = us ++ vs;
        moved = h.moved ++ (p, (k, w)) ∷ [];
        rows = moved_is p now (k, w) own ∙ ap (λ rs. rs ++ (p, (k, w)) ∷ []) (gone ∙ sym (append_assoc us vs h.moved)) ∙ append_assoc (us ++ vs) h.moved ((p, (k, w)) ∷ []);
        pairs = append_assoc h.moved ((p, (k, w)) ∷ []) (pairs_of_key k (us ++ vs)) ∙ ap (λ l. h.moved ++ l) (sym (ap (pairs_of_key k) s.3 ∙ pairs_cut k us p w vs s.4)) ∙ h.pairs;
        others = sym (ap (without_key k) s.3 ∙ others_cut k us p w vs s.4) ∙ h.others;
        count = let longer = length-append h.moved ((p, (k, w)) ∷ []) in omega arith;
      }

  pub moving_more : id_of k 0 now ≡ None → n < count_of k old → ⊥
  moving_more e l = let none = none_in k h.base h.moved (sym (ap (id_of k 0) h.rows) ∙ e) in let left = moving_left in absurd (omega arith)

  pub moving_done : count_of k old ≤ n → now ≡ key_moved_last k old
  moving_done l =
      let left = moving_left in
      let none : count_of k h.base ≡ 0 = omega arith in
      let empty = nothing (pairs_of_key k h.base) none in
      h.rows ∙ (λ i. (sym (none_left k h.base none) ∙ h.others) i ++ (sym (append-nil h.moved) ∙ ap (λ l. h.moved ++ l) (sym empty) ∙ h.pairs) i)
    where
      nothing : (rs : List Row) → length rs ≡ 0 → rs ≡ []
      nothing [] e = refl
      nothing (r ∷ rs) e = absurd (omega arith)

-- rows of a key in front of others, some of which are gone
pub record IsFewer (k : Elem) (front back now : List Row) (n count : ℕ) : Type 0 where
  pub left : List Row
  pub rows : now ≡ left ++ back
  pub others : without_key k left ≡ without_key k front
  pub count_left : count_of k left + n ≡ count

module _ (k : Elem) (front back now : List Row) (n count : ℕ) (h : IsFewer k front back now n count) where
  pub fewer_on : (p : ℕ) → id_of k 0 now ≡ Some p → n < count → HasDistinctIds now → IsFewer k front back (remove_entry (nat_eq p) now) (n + 1) count
  fewer_on p e l d =
      let c = h.count_left in
      let some : 0 < count_of k h.left = omega arith in
      let s = first_split k h.left p (first_in k h.left back p (sym (ap (id_of k 0) h.rows) ∙ e) some) in
      let us = s.0 in
      let w = s.1 in
      let vs = s.2 in
      let whole : now ≡ us ++ (p, (k, w)) ∷ (vs ++ back) = h.rows ∙ ap (λ l. l ++ back) s.3 ∙ append_assoc us ((p, (k, w)) ∷ vs) back in
      let dc = subst HasDistinctIds whole d in
      let one = ap length (ap (pairs_of_key k) s.3 ∙ pairs_cut k us p w vs s.4) in
      record {
        left = us ++ vs;
        rows = ap (remove_entry (nat_eq p)) whole ∙ removed_at_cut k us p w (vs ++ back) dc ∙ sym (append_assoc us vs back);
        others = sym (ap (without_key k) s.3 ∙ others_cut k us p w vs s.4) ∙ h.others;
        count_left = omega arith;
      }

  pub fewer_more : id_of k 0 now ≡ None → n < count → ⊥
  fewer_more e l = let none = none_in k h.left back (sym (ap (id_of k 0) h.rows) ∙ e) in let c = h.count_left in absurd (omega arith)

  pub fewer_done : count ≤ n → now ≡ without_key k front ++ back
  fewer_done l = let c = h.count_left in let none : count_of k h.left ≡ 0 = omega arith in h.rows ∙ ap (λ l. l ++ back) (sym (none_left k h.left none) ∙ h.others)
