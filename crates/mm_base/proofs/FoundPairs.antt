-- What finds the place of each pair, where a pair comes, goes, or goes last.
use Rattle.std.proofs.Common.{◌≡◌, ℕ, ◌+◌, ◌<◌, ◌≤◌, Bool, true, false, cond, ◌&&◌, List, [], ◌∷◌, ◌++◌, length, map, Option, Some, None, refl, sym, ap, ◌∙◌, subst, arith, length-append, append-nil, append_assoc}
use Rattle.std.specs.Prelude.{IsSome, nat_eq}
use Rattle.std.specs.List.{filter}
use Rattle.std.specs.Map.{lookup, remove_entry}
use Rattle.std.proofs.lemmas.Map.{NonePasses}
use Rattle.std.proofs.lemmas.List.Elements.{filter-append}
use Rattle.std.proofs.lemmas.Bool.Decides.{Decides-eqb}
use Rattle.elem.specs.declared.elements.Elem.{Elem}
use Rattle.elem.specs.Elements.{same}
use Rattle.elem.specs.ElementLaws.{same-Decides, same_equiv}
use Rattle.elem.specs.Rows.{first_key, last_key, last_key_or, key_after}
use Rattle.elem.proofs.RowsLemmas.{remove_at}
use Rattle.mm_base.specs.declared.key_values.KeyValue.{KeyValue}
use Rattle.mm_base.specs.KeyValues.{key_value, same_pair, same_pair-Decides}
use Rattle.mm_base.specs.PairPlaces.{FindsPairs}
use Rattle.mm_base.specs.PairRows.{Row, IsPut, HasDistinctIds, pair_of, rows_beside, pairs_of_key, without_key, count_of, id_of, rows_of_pair}
use Rattle.mm_base.specs.KeyedRows.{HasDistinctPairs}
use Rattle.mm_base.specs.Moving.{moved_last}
use Rattle.mm_base.proofs.PairRowsLemmas.{none_left, first_id_of, live_filter, first_live, later}
use Rattle.mm_base.proofs.ExchangingLemmas.{AllOfKey, all_filter, all_pairs, all_values, none_of_key, live_from}
use Rattle.mm_base.proofs.KeyedRowsLemmas.{one_test}
use Rattle.mm_base.proofs.ReplacingLemmas.{first_split, pair_cut, removed_at_cut, next_cut, length_added}
use Rattle.mm_base.proofs.MovingLemmas.{live_cut, moved_is, pairs_cut, others_cut, first_in, none_in}

-- one test for a key and a value
abbrev pub is_pair : Elem → Elem → Row → Bool
is_pair x y r = same y r.1.1 && same x r.1.0

pub found_by_test : (x y : Elem) (rows : List Row) → first_key (rows_of_pair x y rows) ≡ first_key (filter (is_pair x y) rows)
found_by_test x y rows = ap first_key (sym (one_test x y rows))

pub few_by_test : (x y : Elem) (rows : List Row) → HasDistinctPairs rows → length (filter (is_pair x y) rows) ≤ 1
few_by_test x y rows h = subst (λ rs. length rs ≤ 1) (sym (one_test x y rows)) (h x y)

pub few_pairs : (rows : List Row) → ((x y : Elem) → length (filter (is_pair x y) rows) ≤ 1) → HasDistinctPairs rows
few_pairs rows h x y = subst (λ rs. length rs ≤ 1) (one_test x y rows) (h x y)

both_true : (a b : Bool) → a ≡ true → b ≡ true → (b && a) ≡ true
both_true a b e f = ap (λ c. c && a) f ∙ e

both_false : (a b : Bool) → (a && b) ≡ false → (b && a) ≡ false
both_false true true e = e
both_false true false e = refl
both_false false true e = refl
both_false false false e = refl

-- a row's own pair, and every other
own_test : (k v : Elem) (p : ℕ) → is_pair k v (p, (k, v)) ≡ true
own_test k v p = both_true (same k k) (same v v) (same_equiv.refl k) (same_equiv.refl v)

module _ (k v x y : Elem) (p : ℕ) where
  other_test : same_pair (key_value k v) (key_value x y) ≡ false → is_pair x y (p, (k, v)) ≡ false
  unfolding same_pair
  other_test f = both_false (same x k) (same y v) ((λ i. same_equiv.symm x k i && same_equiv.symm y v i) ∙ f)

same_parts : (k v x y : Elem) → same_pair (key_value k v) (key_value x y) ≡ true → (k ≡ x) × (v ≡ y)
same_parts k v x y t = let e = (same_pair-Decides (key_value k v) (key_value x y)).0 t in (ap (λ (z : KeyValue). z.key) e, ap (λ (z : KeyValue). z.value) e)

no_row : (rows : List Row) → length rows ≤ 0 → rows ≡ []
no_row [] l = refl
no_row (r ∷ rows) l = absurd (omega arith)

first_none : (rows : List Row) → first_key rows ≡ None → rows ≡ []
first_none [] e = refl
first_none (r ∷ rows) e = absurd (cc)

-- a pair that was not there is put last
pub found_last : (rows : List Row) (p : ℕ) (k v : Elem) (find found : KeyValue → Option ℕ) → FindsPairs rows find → first_key (rows_of_pair k v rows) ≡ None → ((q : KeyValue) → found q ≡ cond (same_pair (key_value k v) q) (Some p) (find q)) → FindsPairs (rows ++ (p, (k, v)) ∷ []) found
found_last rows p k v find found h none e x y = e (key_value x y) ∙ by_case (same_pair (key_value k v) (key_value x y)) refl ∙ sym (found_by_test x y (rows ++ (p, (k, v)) ∷ []) ∙ ap first_key (filter-append (is_pair x y) rows ((p, (k, v)) ∷ [])))
  where
    empty : filter (is_pair k v) rows ≡ []
    empty = first_none (filter (is_pair k v) rows) (sym (found_by_test k v rows) ∙ none)

    by_case : (b : Bool) → same_pair (key_value k v) (key_value x y) ≡ b → cond b (Some p) (find (key_value x y)) ≡ first_key (filter (is_pair x y) rows ++ cond (is_pair x y (p, (k, v))) ((p, (k, v)) ∷ []) [])
    by_case true t =
        let s = same_parts k v x y t in
        sym ((λ i. first_key (filter (is_pair (sym s.0 i) (sym s.1 i)) rows ++ cond (is_pair (sym s.0 i) (sym s.1 i) (p, (k, v))) ((p, (k, v)) ∷ []) [])) ∙ (λ i. first_key (empty i ++ cond (own_test k v p i) ((p, (k, v)) ∷ []) [])))
    by_case false f =
        h x y ∙ found_by_test x y rows ∙ sym (ap (λ b. first_key (filter (is_pair x y) rows ++ cond b ((p, (k, v)) ∷ []) [])) (other_test k v x y p f) ∙ ap first_key (append-nil (filter (is_pair x y) rows)))

-- a pair goes
module _ (us : List Row) (p : ℕ) (k v : Elem) (vs : List Row) (d : HasDistinctPairs (us ++ (p, (k, v)) ∷ vs)) where
  abbrev its : Row
  its = (p, (k, v))

  cut_test : (t : Row → Bool) → filter t (us ++ (p, (k, v)) ∷ vs) ≡ filter t us ++ cond (t (p, (k, v))) ((p, (k, v)) ∷ filter t vs) (filter t vs)
  cut_test t = filter-append t us ((p, (k, v)) ∷ vs)

  -- no other row has its pair
  pub alone : (filter (is_pair k v) us ≡ []) × (filter (is_pair k v) vs ≡ [])
  alone =
      let whole = ap length (cut_test (is_pair k v) ∙ ap (λ b. filter (is_pair k v) us ++ cond b (its ∷ filter (is_pair k v) vs) (filter (is_pair k v) vs)) (own_test k v p)) ∙ length-append (filter (is_pair k v) us) (its ∷ filter (is_pair k v) vs) in
      let few = few_by_test k v (us ++ (p, (k, v)) ∷ vs) d in
      (no_row (filter (is_pair k v) us) (omega arith), no_row (filter (is_pair k v) vs) (omega arith))

  others_same : (x y : Elem) → same_pair (key_value k v) (key_value x y) ≡ false → filter (is_pair x y) (us ++ (p, (k, v)) ∷ vs) ≡ filter (is_pair x y) (us ++ vs)
  others_same x y f = cut_test (is_pair x y) ∙ ap (λ b. filter (is_pair x y) us ++ cond b (its ∷ filter (is_pair x y) vs) (filter (is_pair x y) vs)) (other_test k v x y p f) ∙ sym (filter-append (is_pair x y) us vs)

  pub fewer_pairs : HasDistinctPairs (us ++ vs)
  fewer_pairs = few_pairs (us ++ vs) (λ x y.
      let few = few_by_test x y (us ++ (p, (k, v)) ∷ vs) d in
      let whole = ap length (cut_test (is_pair x y)) ∙ length-append (filter (is_pair x y) us) (cond (is_pair x y its) (its ∷ filter (is_pair x y) vs) (filter (is_pair x y) vs)) in
      let less = ap length (filter-append (is_pair x y) us vs) ∙ length-append (filter (is_pair x y) us) (filter (is_pair x y) vs) in
      let more = longer (is_pair x y its) (filter (is_pair x y) vs) in
      omega arith)
    where
      longer : (b : Bool) (rs : List Row) → length rs ≤ length (cond b ((p, (k, v)) ∷ rs) rs)
      longer true rs = omega arith
      longer false rs = omega arith

  pub found_without : (find found : KeyValue → Option ℕ) → FindsPairs (us ++ (p, (k, v)) ∷ vs) find → ((q : KeyValue) → found q ≡ cond (same_pair (key_value k v) q) None (find q)) → FindsPairs (us ++ vs) found
  found_without find found h e x y = e (key_value x y) ∙ by_case (same_pair (key_value k v) (key_value x y)) refl ∙ sym (found_by_test x y (us ++ vs))
    where
      by_case : (b : Bool) → same_pair (key_value k v) (key_value x y) ≡ b → cond b None (find (key_value x y)) ≡ first_key (filter (is_pair x y) (us ++ vs))
      by_case true t =
          let s = same_parts k v x y t in
          sym ((λ i. first_key (filter (is_pair (sym s.0 i) (sym s.1 i)) (us ++ vs))) ∙ ap first_key (filter-append (is_pair k v) us vs ∙ (λ i. alone.0 i ++ alone.1 i)))
      by_case false f = h x y ∙ found_by_test x y (us ++ (p, (k, v)) ∷ vs) ∙ ap first_key (others_same x y f)

  -- it goes last
  found_moved_cut : (find : KeyValue → Option ℕ) → FindsPairs (us ++ (p, (k, v)) ∷ vs) find → FindsPairs ((us ++ vs) ++ (p, (k, v)) ∷ []) find
  found_moved_cut find h x y = h x y ∙ found_by_test x y (us ++ (p, (k, v)) ∷ vs) ∙ by_case (same_pair (key_value k v) (key_value x y)) refl ∙ sym (found_by_test x y ((us ++ vs) ++ (p, (k, v)) ∷ []) ∙ ap first_key (filter-append (is_pair x y) (us ++ vs) (its ∷ [])))
    where
      before : filter (is_pair k v) (us ++ (p, (k, v)) ∷ vs) ≡ its ∷ []
      before = cut_test (is_pair k v) ∙ (λ i. alone.0 i ++ cond (own_test k v p i) (its ∷ alone.1 i) (alone.1 i))

      after : filter (is_pair k v) (us ++ vs) ++ cond (is_pair k v its) (its ∷ []) [] ≡ its ∷ []
      after = ap (λ l. l ++ cond (is_pair k v its) (its ∷ []) []) (filter-append (is_pair k v) us vs ∙ (λ i. alone.0 i ++ alone.1 i)) ∙ ap (λ b. cond b (its ∷ []) []) (own_test k v p)

      by_case : (b : Bool) → same_pair (key_value k v) (key_value x y) ≡ b → first_key (filter (is_pair x y) (us ++ (p, (k, v)) ∷ vs)) ≡ first_key (filter (is_pair x y) (us ++ vs) ++ cond (is_pair x y its) (its ∷ []) [])
      by_case true t =
          let s = same_parts k v x y t in
          (λ i. first_key (filter (is_pair (sym s.0 i) (sym s.1 i)) (us ++ (p, (k, v)) ∷ vs))) ∙ ap first_key (before ∙ sym after) ∙ (λ i. first_key (filter (is_pair (s.0 i) (s.1 i)) (us ++ vs) ++ cond (is_pair (s.0 i) (s.1 i) its) (its ∷ []) []))
      by_case false f =
          ap first_key (others_same x y f ∙ sym (append-nil (filter (is_pair x y) (us ++ vs)))) ∙ sym (ap (λ b. first_key (filter (is_pair x y) (us ++ vs) ++ cond b (its ∷ []) [])) (other_test k v x y p f))

-- by its id
module _ (p : ℕ) (rows : List Row) (pair : Elem × Elem) (own : pair_of rows p ≡ Some pair) (d : HasDistinctPairs rows) (find : KeyValue → Option ℕ) (h : FindsPairs rows find) where
  its_cut : (us : List Row) × (vs : List Row) × (rows ≡ us ++ (p, pair) ∷ vs) × NonePasses (nat_eq p) us
  its_cut = live_cut p rows pair own

  gone : remove_entry (nat_eq p) rows ≡ its_cut.0 ++ its_cut.1
  gone = ap (remove_entry (nat_eq p)) its_cut.2 ∙ remove_at (nat_eq p) its_cut.0 (p, pair) its_cut.1 its_cut.3 ((Decides-eqb p p).1 refl)

  pub found_removed : (found : KeyValue → Option ℕ) → ((q : KeyValue) → found q ≡ cond (same_pair (key_value pair.0 pair.1) q) None (find q)) → FindsPairs (remove_entry (nat_eq p) rows) found
  found_removed found e =
      subst (λ rs. FindsPairs rs found) (sym gone)
      (found_without its_cut.0 p pair.0 pair.1 its_cut.1 (subst HasDistinctPairs its_cut.2 d) find found (subst (λ rs. FindsPairs rs find) its_cut.2 h) e)

  pub found_moved : FindsPairs (moved_last p rows) find
  found_moved =
      subst (λ rs. FindsPairs rs find) (sym (moved_is p rows pair own ∙ ap (λ rs. rs ++ (p, pair) ∷ []) gone))
      (found_moved_cut its_cut.0 p pair.0 pair.1 its_cut.1 (subst HasDistinctPairs its_cut.2 d) find (subst (λ rs. FindsPairs rs find) its_cut.2 h))

-- the last row after a put
last_at : (o : Option ℕ) (rows : List Row) (r : Row) → last_key_or o (rows ++ r ∷ []) ≡ Some r.0
last_at o [] r = refl
last_at o (x ∷ rows) r = last_at (Some x.0) rows r

pub last_put : (k v : Elem) (old new : List Row) (p : IsPut None k v old new) → last_key new ≡ Some p.0
last_put k v old new p = ap last_key p.2 ∙ last_at None old (p.0, (k, v))

-- the first rows of a key go, each with its place
pub record IsForgetting (k : Elem) (front back now : List Row) (n count : ℕ) (find found : KeyValue → Option ℕ) : Type 0 where
  pub left : List Row
  pub rows : now ≡ left ++ back
  pub others : without_key k left ≡ without_key k front
  pub count_left : count_of k left + n ≡ count
  pub finds : HasDistinctPairs front → FindsPairs front find → HasDistinctPairs left × FindsPairs left found

module _ (k : Elem) (front back now : List Row) (n count : ℕ) (find found : KeyValue → Option ℕ) (h : IsForgetting k front back now n count find found) where
  pub forget_on : (p : ℕ) → id_of k 0 now ≡ Some p → n < count → HasDistinctIds now → (pair : Elem × Elem) → pair_of now p ≡ Some pair → (less : KeyValue → Option ℕ) → ((q : KeyValue) → less q ≡ cond (same_pair (key_value k pair.1) q) None (found q))
      → IsForgetting k front back (remove_entry (nat_eq p) now) (n + 1) count find less
  forget_on p e l d pair own less f =
      let c = h.count_left in
      let some : 0 < count_of k h.left = omega arith in
      let s = first_split k h.left p (first_in k h.left back p (sym (ap (id_of k 0) h.rows) ∙ e) some) in
      let us = s.0 in
      let w = s.1 in
      let vs = s.2 in
      let whole : now ≡ us ++ (p, (k, w)) ∷ (vs ++ back) = h.rows ∙ ap (λ l. l ++ back) s.3 ∙ append_assoc us ((p, (k, w)) ∷ vs) back in
      let dc = subst HasDistinctIds whole d in
      let one = ap length (ap (pairs_of_key k) s.3 ∙ pairs_cut k us p w vs s.4) in
      let value : pair.1 ≡ w = second pair k w (sym own ∙ ap (λ rs. pair_of rs p) whole ∙ pair_cut k us p w (vs ++ back) dc) in
      record {
        left = us ++ vs;
        rows = ap (remove_entry (nat_eq p)) whole ∙ removed_at_cut k us p w (vs ++ back) dc ∙ sym (append_assoc us vs back);
        others = sym (ap (without_key k) s.3 ∙ others_cut k us p w vs s.4) ∙ h.others;
        count_left = omega arith;
        finds = λ a b.
            let t = h.finds a b in
            let a₁ = subst HasDistinctPairs s.3 t.0 in
            (fewer_pairs us p k w vs a₁, found_without us p k w vs a₁ found less (subst (λ rs. FindsPairs rs found) s.3 t.1) (λ q. f q ∙ ap (λ y. cond (same_pair (key_value k y) q) None (found q)) value));
      }
    where
      second : (pair : Elem × Elem) (k w : Elem) → ◌≡◌ {A = Option (Elem × Elem)} (Some pair) (Some (k, w)) → pair.1 ≡ w
      second pair k w e = let q : ◌≡◌ {A = Elem × Elem} pair (k, w) = cc in ap (λ (x : Elem × Elem). x.1) q

  pub forget_more : id_of k 0 now ≡ None → n < count → ⊥
  forget_more e l = let none = none_in k h.left back (sym (ap (id_of k 0) h.rows) ∙ e) in let c = h.count_left in absurd (omega arith)

  pub forgotten : count ≤ n → h.left ≡ without_key k front
  forgotten l = let c = h.count_left in let none : count_of k h.left ≡ 0 = omega arith in sym (none_left k h.left none) ∙ h.others

-- the pairs of a key get their places in turn
pub record IsNaming (k : Elem) (front added : List Row) (n : ℕ) (at : Option ℕ) (found : KeyValue → Option ℕ) : Type 0 where
  pub done : List Row
  pub left : List Row
  pub rows : added ≡ done ++ left
  pub here : at ≡ first_key left
  pub count : length done ≡ n
  pub finds : FindsPairs (front ++ done) found

module _ (k : Elem) (front added now : List Row) (cut : now ≡ front ++ added) (all : pairs_of_key k added ≡ added) (d : HasDistinctPairs now) where
  whole : (done left : List Row) → added ≡ done ++ left → now ≡ (front ++ done) ++ left
  whole done left e = cut ∙ ap (λ l. front ++ l) e ∙ sym (append_assoc front done left)

  pub naming_starts : pairs_of_key k front ≡ [] → (at : Option ℕ) → at ≡ id_of k 0 now → (find : KeyValue → Option ℕ) → FindsPairs front find → IsNaming k front added 0 at find
  naming_starts none at e find f = record {
    done = [];
    left = added;
    rows = refl;
    here = e ∙ first_id_of k now ∙ ap (λ rs. first_key (pairs_of_key k rs)) cut ∙ ap first_key (filter-append (λ (r : Row). same k r.1.0) front added ∙ (λ i. none i ++ all i));
    count = refl;
    finds = subst (λ rs. FindsPairs rs find) (sym (append-nil front)) f;
  }

  pub naming_live : (n : ℕ) (at : Option ℕ) (found : KeyValue → Option ℕ) (h : IsNaming k front added n at found) (p : ℕ) → at ≡ Some p → IsSome (lookup (nat_eq p) now)
  naming_live n at found h p e = subst (λ rs. IsSome (lookup (nat_eq p) rs)) (sym (whole h.done h.left h.rows)) (live_from (front ++ h.done) h.left p (sym h.here ∙ e))

  tail_all : (done left : List Row) (r : Row) (rest : List Row) → added ≡ done ++ left → left ≡ r ∷ rest → AllOfKey k (r ∷ rest)
  tail_all done left r rest e f = all_right done (r ∷ rest) (subst (AllOfKey k) (e ∙ ap (λ l. done ++ l) f) (subst (AllOfKey k) all (all_filter k added)))
    where
      all_right : (us vs : List Row) → AllOfKey k (us ++ vs) → AllOfKey k vs
      all_right [] vs a = a
      all_right (u ∷ us) vs a = all_right us vs a.1

  pub naming_on : (n : ℕ) (at : Option ℕ) (found : KeyValue → Option ℕ) (h : IsNaming k front added n at found) (p : ℕ) → at ≡ Some p → HasDistinctIds now → (pair : Elem × Elem) → pair_of now p ≡ Some pair → (next : Option ℕ) → next ≡ key_after (nat_eq p) (rows_beside (pair_of now p) now)
      → (more : KeyValue → Option ℕ) → ((q : KeyValue) → more q ≡ cond (same_pair (key_value k pair.1) q) (Some p) (found q)) → IsNaming k front added (n + 1) next more
  naming_on n at found h p e ids pair own next after more f = by_left h.left refl
    where
      second : (pair : Elem × Elem) (k w : Elem) → ◌≡◌ {A = Option (Elem × Elem)} (Some pair) (Some (k, w)) → pair.1 ≡ w
      second pair k w e = let q : ◌≡◌ {A = Elem × Elem} pair (k, w) = cc in ap (λ (x : Elem × Elem). x.1) q

      by_left : (left : List Row) → h.left ≡ left → IsNaming k front added (n + 1) next more
      by_left [] g = absurd (let both = sym e ∙ h.here ∙ ap first_key g in cc)
      by_left (r ∷ rest) g =
          let id : r.0 ≡ p = let both = sym (ap first_key g) ∙ sym h.here ∙ e in cc in
          let keys = tail_all h.done h.left r rest h.rows g in
          let key : r.1.0 ≡ k = sym ((same-Decides k r.1.0).0 keys.0) in
          let w = r.1.1 in
          let same_row : r ≡ (p, (k, w)) = (λ i. (id i, (key i, w))) in
          let xs = front ++ h.done in
          let at_cut : now ≡ xs ++ (p, (k, w)) ∷ rest = whole h.done h.left h.rows ∙ ap (λ l. xs ++ l) (g ∙ ap (λ x. x ∷ rest) same_row) in
          let dc = subst HasDistinctIds at_cut ids in
          let value : pair.1 ≡ w = second pair k w (sym own ∙ ap (λ rs. pair_of rs p) at_cut ∙ pair_cut k xs p w rest dc) in
          let unnamed = (alone xs p k w rest (subst HasDistinctPairs at_cut d)).0 in
          record {
            done = h.done ++ (p, (k, w)) ∷ [];
            left = rest;
            rows = h.rows ∙ ap (λ l. h.done ++ l) (g ∙ ap (λ x. x ∷ rest) same_row) ∙ sym (append_assoc h.done ((p, (k, w)) ∷ []) rest);
            here = after ∙ ap (λ rs. key_after (nat_eq p) (rows_beside (pair_of rs p) rs)) at_cut ∙ next_cut k xs p w rest dc ∙ ap first_key (all_pairs k rest keys.1);
            count = let longer = length-append h.done ((p, (k, w)) ∷ []) in let c = h.count in omega arith;
            finds = subst (λ rs. FindsPairs rs more) (append_assoc front h.done ((p, (k, w)) ∷ []))
                (found_last xs p k w found more h.finds (found_by_test k w xs ∙ ap first_key unnamed) (λ q. f q ∙ ap (λ y. cond (same_pair (key_value k y) q) (Some p) (found q)) value));
          }

  pub naming_done : (n : ℕ) (at : Option ℕ) (found : KeyValue → Option ℕ) (h : IsNaming k front added n at found) → h.left ≡ [] → FindsPairs now found
  naming_done n at found h e = subst (λ rs. FindsPairs rs found) (sym (whole h.done h.left h.rows ∙ ap (λ l. (front ++ h.done) ++ l) e ∙ append-nil (front ++ h.done))) h.finds

  pub naming_none : (n : ℕ) (at : Option ℕ) (found : KeyValue → Option ℕ) (h : IsNaming k front added n at found) → at ≡ None → FindsPairs now found
  naming_none n at found h e = naming_done n at found h (first_none h.left (sym h.here ∙ e))

  pub naming_all : pairs_of_key k front ≡ [] → (n : ℕ) (at : Option ℕ) (found : KeyValue → Option ℕ) (h : IsNaming k front added n at found) → count_of k now ≤ n → FindsPairs now found
  naming_all none n at found h l =
      let total = ap (count_of k) cut ∙ ap length (filter-append (λ (r : Row). same k r.1.0) front added ∙ (λ i. none i ++ all i)) in
      let parts = ap length h.rows ∙ length-append h.done h.left in
      let c = h.count in
      naming_done n at found h (no_row h.left (omega arith))

-- the row after another is a row
pub after_live : (o : Option (Elem × Elem)) (p : ℕ) (rows : List Row) (q : ℕ) → key_after (nat_eq p) (rows_beside o rows) ≡ Some q → IsSome (lookup (nat_eq q) rows)
after_live None p rows q e = absurd (cc)
after_live (Some pair) p rows q e = live_filter (λ (r : Row). same pair.0 r.1.0) rows q (behind (pairs_of_key pair.0 rows) e)
  where
    behind : (rs : List Row) → key_after (nat_eq p) rs ≡ Some q → IsSome (lookup (nat_eq q) rs)
    behind [] f = absurd (cc)
    behind (r ∷ rs) f = later q r (lookup (nat_eq q) rs) (by_case (nat_eq p r.0) f (behind rs))
      where
        by_case : (b : Bool) → cond b (first_key rs) (key_after (nat_eq p) rs) ≡ Some q → (key_after (nat_eq p) rs ≡ Some q → IsSome (lookup (nat_eq q) rs)) → IsSome (lookup (nat_eq q) rs)
        by_case true g rest = first_live rs q g
        by_case false g rest = rest g

-- the rows of a key after an exchange
pub exchanged_count : (k : Elem) (vs : List Elem) (old added : List Row) → map (λ (r : Row). r.1) added ≡ map (λ v. (k, v)) vs → count_of k (without_key k old ++ added) ≡ length vs
exchanged_count k vs old added e = ap length (filter-append (λ (r : Row). same k r.1.0) (without_key k old) added ∙ (λ i. none_of_key k old i ++ all_pairs k added (all_values k vs added e) i)) ∙ length_added k vs added e
