-- Values written into a key's rows in turn, and rows removed from a place on.
use Rattle.std.proofs.Common.{◌≡◌, ℕ, zero, suc, ◌+◌, ◌<◌, ◌≤◌, Bool, true, false, cond, not, List, [], ◌∷◌, ◌++◌, length, map, take, drop, Option, Some, None, refl, sym, ap, ◌∙◌, subst, arith, length-append, append-nil, append_assoc, add-one, get_or}
use Rattle.std.specs.Prelude.{IsSome, nat_eq}
use Rattle.std.specs.Map.{lookup, remove_entry, set_value}
use Rattle.std.proofs.lemmas.Map.{NonePasses}
use Rattle.std.proofs.lemmas.Bool.Decides.{Decides-eqb}
use Rattle.std.proofs.lemmas.List.Elements.{filter-append}
use Rattle.std.proofs.Math.Seq.{drop-cons, take-suc}
use Rattle.elem.specs.declared.elements.Elem.{Elem}
use Rattle.elem.specs.Elements.{same}
use Rattle.elem.specs.ElementLaws.{same-Decides, same_equiv}
use Rattle.elem.specs.Rows.{first_key, last_key, last_key_or, key_after}
use Rattle.elem.proofs.RowsLemmas.{lookup_at, remove_at, set_value_at, key_after_at}
use Rattle.mm_base.specs.PairRows.{Row, IsPut, HasDistinctIds, pair_of, pairs_of_key, rows_beside, without_key, count_of}
use Rattle.mm_base.specs.Replacing.{overwritten, IsAppended, IsWritten}
use Rattle.mm_base.proofs.PairRowsLemmas.{none_before, none_left, first_live, live_filter, later}

own_id : (q : ℕ) → nat_eq q q ≡ true
own_id q = (Decides-eqb q q).1 refl

pub first_none : (rows : List Row) → first_key rows ≡ None → rows ≡ []
first_none [] e = refl
first_none (row ∷ rows) e = absurd (cc)

-- the rows are cut at the first of a key
pub first_split : (k : Elem) (rows : List Row) (p : ℕ) → first_key (pairs_of_key k rows) ≡ Some p → (us : List Row) × (w : Elem) × (vs : List Row) × (rows ≡ us ++ (p, (k, w)) ∷ vs) × (pairs_of_key k us ≡ [])
first_split k [] p e = absurd (cc)
first_split k (row ∷ rows) p e = by_case (same k row.1.0) refl (first_split k rows p) e
  where
    by_case : (b : Bool) → same k row.1.0 ≡ b → (first_key (pairs_of_key k rows) ≡ Some p → (us : List Row) × (w : Elem) × (vs : List Row) × (rows ≡ us ++ (p, (k, w)) ∷ vs) × (pairs_of_key k us ≡ []))
        → first_key (cond b (row ∷ pairs_of_key k rows) (pairs_of_key k rows)) ≡ Some p → (us : List Row) × (w : Elem) × (vs : List Row) × (row ∷ rows ≡ us ++ (p, (k, w)) ∷ vs) × (pairs_of_key k us ≡ [])
    by_case true t rest f =
        let id : row.0 ≡ p = cc in
        let key : row.1.0 ≡ k = sym ((same-Decides k row.1.0).0 t) in
        ([], row.1.1, rows, λ i. (id i, (key i, row.1.1)) ∷ rows, refl)
    by_case false t rest f =
        let r = rest f in
        (row ∷ r.0, r.1, r.2, ap (λ l. row ∷ l) r.3, ap (λ b. cond b (row ∷ pairs_of_key k r.0) (pairs_of_key k r.0)) t ∙ r.4)

-- rows that have no row of the key
module _ (k : Elem) where
  pub fails : (u : Row) (us : List Row) → pairs_of_key k (u ∷ us) ≡ [] → (same k u.1.0 ≡ false) × (pairs_of_key k us ≡ [])
  fails u us e = by_case (same k u.1.0) refl e
    where
      by_case : (b : Bool) → same k u.1.0 ≡ b → cond b (u ∷ pairs_of_key k us) (pairs_of_key k us) ≡ [] → (same k u.1.0 ≡ false) × (pairs_of_key k us ≡ [])
      by_case true t f = absurd (cc)
      by_case false t f = (t, f)

  pub overwritten_past : (v : Elem) (ws : List Elem) (us rows : List Row) → pairs_of_key k us ≡ [] → overwritten k (v ∷ ws) (us ++ rows) ≡ us ++ overwritten k (v ∷ ws) rows
  overwritten_past v ws [] rows e = refl
  overwritten_past v ws (u ∷ us) rows e =
      let f = fails u us e in
      ap (λ b. cond b ((u.0, (k, v)) ∷ overwritten k ws (us ++ rows)) (u ∷ overwritten k (v ∷ ws) (us ++ rows))) f.0 ∙ ap (λ l. u ∷ l) (overwritten_past v ws us rows f.1)

  pub overwritten_here : (v w : Elem) (ws : List Elem) (p : ℕ) (rows : List Row) → overwritten k (v ∷ ws) ((p, (k, w)) ∷ rows) ≡ (p, (k, v)) ∷ overwritten k ws rows
  overwritten_here v w ws p rows = ap (λ b. cond b ((p, (k, v)) ∷ overwritten k ws rows) ((p, (k, w)) ∷ overwritten k (v ∷ ws) rows)) (same_equiv.refl k)

  pub none_without : (rows : List Row) → pairs_of_key k rows ≡ [] → without_key k rows ≡ rows
  none_without rows e = none_left k rows (ap length e)

  pub overwritten_none : (ws : List Elem) (rows : List Row) → pairs_of_key k rows ≡ [] → overwritten k ws rows ≡ rows
  overwritten_none [] rows e = none_without rows e
  overwritten_none (v ∷ ws) rows e = ap (overwritten k (v ∷ ws)) (sym (append-nil rows)) ∙ overwritten_past v ws rows [] e ∙ append-nil rows

  pub without_split : (us : List Row) (p : ℕ) (w : Elem) (vs : List Row) → pairs_of_key k us ≡ [] → without_key k (us ++ (p, (k, w)) ∷ vs) ≡ us ++ without_key k vs
  without_split us p w vs e =
      filter-append (λ (r : Row). not (same k r.1.0)) us ((p, (k, w)) ∷ vs) ∙ ap (λ b. without_key k us ++ cond (not b) ((p, (k, w)) ∷ without_key k vs) (without_key k vs)) (same_equiv.refl k) ∙ ap (λ l. l ++ without_key k vs) (none_without us e)

  none_filter : (p : ℕ) (xs : List Row) → NonePasses (nat_eq p) xs → NonePasses (nat_eq p) (pairs_of_key k xs)
  none_filter p [] n = tt
  none_filter p (x ∷ xs) n = by_case (same k x.1.0) (none_filter p xs n.1)
    where
      by_case : (b : Bool) → NonePasses (nat_eq p) (pairs_of_key k xs) → NonePasses (nat_eq p) (cond b (x ∷ pairs_of_key k xs) (pairs_of_key k xs))
      by_case true r = (n.0, r)
      by_case false r = r

  -- a row of the key, at a cut of rows with distinct ids
  module _ (xs : List Row) (p : ℕ) (w : Elem) (vs : List Row) (d : HasDistinctIds (xs ++ (p, (k, w)) ∷ vs)) where
    front_none : NonePasses (nat_eq p) xs
    front_none = none_before xs (p, (k, w)) vs d

    pub pair_cut : pair_of (xs ++ (p, (k, w)) ∷ vs) p ≡ Some (k, w)
    pair_cut = lookup_at (nat_eq p) xs (p, (k, w)) vs front_none (own_id p)

    pub next_cut : key_after (nat_eq p) (rows_beside (pair_of (xs ++ (p, (k, w)) ∷ vs) p) (xs ++ (p, (k, w)) ∷ vs)) ≡ first_key (pairs_of_key k vs)
    next_cut =
        ap (λ o. key_after (nat_eq p) (rows_beside o (xs ++ (p, (k, w)) ∷ vs))) pair_cut
        ∙ ap (key_after (nat_eq p)) (filter-append (λ (r : Row). same k r.1.0) xs ((p, (k, w)) ∷ vs) ∙ ap (λ b. pairs_of_key k xs ++ cond b ((p, (k, w)) ∷ pairs_of_key k vs) (pairs_of_key k vs)) (same_equiv.refl k))
        ∙ key_after_at (nat_eq p) (pairs_of_key k xs) (p, (k, w)) (pairs_of_key k vs) (none_filter p xs front_none) (own_id p)

    pub written_cut : (v : Elem) → set_value (nat_eq p) (xs ++ (p, (k, w)) ∷ vs) (k, v) ≡ xs ++ (p, (k, v)) ∷ vs
    written_cut v = set_value_at (nat_eq p) xs (p, (k, w)) vs (k, v) front_none (own_id p)

    pub removed_at_cut : remove_entry (nat_eq p) (xs ++ (p, (k, w)) ∷ vs) ≡ xs ++ vs
    removed_at_cut = remove_at (nat_eq p) xs (p, (k, w)) vs front_none (own_id p)

-- values ws are still to be written
pub record IsWriting (k : Elem) (vs ws : List Elem) (old new : List Row) (at : Option ℕ) : Type 0 where
  pub front : List Row
  pub back : List Row
  pub cut : new ≡ front ++ back
  pub start : at ≡ first_key (pairs_of_key k back)
  pub rows : overwritten k vs old ≡ front ++ overwritten k ws back

-- the rows of the key from `at` on are still to be removed
pub record IsRemoving (k : Elem) (target new : List Row) (at : Option ℕ) : Type 0 where
  pub front : List Row
  pub back : List Row
  pub cut : new ≡ front ++ back
  pub start : at ≡ first_key (pairs_of_key k back)
  pub rows : front ++ without_key k back ≡ target

-- where a row of the key is next
module _ (k : Elem) (new front back : List Row) (at : Option ℕ) (p : ℕ) (cut : new ≡ front ++ back) (start : at ≡ first_key (pairs_of_key k back)) (e : at ≡ Some p) where
  pub its_split : (us : List Row) × (w : Elem) × (vs : List Row) × (back ≡ us ++ (p, (k, w)) ∷ vs) × (pairs_of_key k us ≡ [])
  its_split = first_split k back p (sym start ∙ e)

  pub whole_cut : new ≡ (front ++ its_split.0) ++ (p, (k, its_split.1)) ∷ its_split.2
  whole_cut = cut ∙ ap (λ l. front ++ l) its_split.3 ∙ sym (append_assoc front its_split.0 ((p, (k, its_split.1)) ∷ its_split.2))

  module _ (d : HasDistinctIds new) where
    distinct_cut : HasDistinctIds ((front ++ its_split.0) ++ (p, (k, its_split.1)) ∷ its_split.2)
    distinct_cut = subst HasDistinctIds whole_cut d

    pub its_pair : pair_of new p ≡ Some (k, its_split.1)
    its_pair = ap (λ rs. pair_of rs p) whole_cut ∙ pair_cut k (front ++ its_split.0) p its_split.1 its_split.2 distinct_cut

    pub its_next : key_after (nat_eq p) (rows_beside (pair_of new p) new) ≡ first_key (pairs_of_key k its_split.2)
    its_next = ap (λ rs. key_after (nat_eq p) (rows_beside (pair_of rs p) rs)) whole_cut ∙ next_cut k (front ++ its_split.0) p its_split.1 its_split.2 distinct_cut

    pub its_written : (v : Elem) → set_value (nat_eq p) new (k, v) ≡ (front ++ its_split.0) ++ (p, (k, v)) ∷ its_split.2
    its_written v = ap (λ rs. set_value (nat_eq p) rs (k, v)) whole_cut ∙ written_cut k (front ++ its_split.0) p its_split.1 its_split.2 distinct_cut v

    pub its_removed : remove_entry (nat_eq p) new ≡ (front ++ its_split.0) ++ its_split.2
    its_removed = ap (remove_entry (nat_eq p)) whole_cut ∙ removed_at_cut k (front ++ its_split.0) p its_split.1 its_split.2 distinct_cut

-- one value written
pub wrote : (k : Elem) (vs : List Elem) (v : Elem) (ws : List Elem) (old new : List Row) (at : Option ℕ) (p : ℕ) (h : IsWriting k vs (v ∷ ws) old new at) (e : at ≡ Some p) → HasDistinctIds new
    → (next : Option ℕ) → next ≡ key_after (nat_eq p) (rows_beside (pair_of new p) new) → IsWriting k vs ws old (set_value (nat_eq p) new (k, v)) next
wrote k vs v ws old new at p h e d next f =
    let s = its_split k new h.front h.back at p h.cut h.start e in
    record {
      front = (h.front ++ s.0) ++ (p, (k, v)) ∷ [];
      back = s.2;
      cut = its_written k new h.front h.back at p h.cut h.start e d v ∙ sym (append_assoc (h.front ++ s.0) ((p, (k, v)) ∷ []) s.2);
      start = f ∙ its_next k new h.front h.back at p h.cut h.start e d;
      rows =
          h.rows ∙ ap (λ l. h.front ++ l) (ap (overwritten k (v ∷ ws)) s.3 ∙ overwritten_past k v ws s.0 ((p, (k, s.1)) ∷ s.2) s.4 ∙ ap (λ l. s.0 ++ l) (overwritten_here k v s.1 ws p s.2))
          ∙ sym (append_assoc (h.front ++ s.0) ((p, (k, v)) ∷ []) (overwritten k ws s.2) ∙ append_assoc h.front s.0 ((p, (k, v)) ∷ overwritten k ws s.2));
    }

-- one row removed
pub took : (k : Elem) (target new : List Row) (at : Option ℕ) (p : ℕ) (h : IsRemoving k target new at) (e : at ≡ Some p) → HasDistinctIds new
    → (next : Option ℕ) → next ≡ key_after (nat_eq p) (rows_beside (pair_of new p) new) → IsRemoving k target (remove_entry (nat_eq p) new) next
took k target new at p h e d next f =
    let s = its_split k new h.front h.back at p h.cut h.start e in
    record {
      front = h.front ++ s.0;
      back = s.2;
      cut = its_removed k new h.front h.back at p h.cut h.start e d;
      start = f ∙ its_next k new h.front h.back at p h.cut h.start e d;
      rows = append_assoc h.front s.0 (without_key k s.2) ∙ ap (λ l. h.front ++ l) (sym (ap (without_key k) s.3 ∙ without_split k s.0 p s.1 s.2 s.4)) ∙ h.rows;
    }

pub one_less : (k : Elem) (target new : List Row) (at : Option ℕ) (p : ℕ) (h : IsRemoving k target new at) (e : at ≡ Some p) → HasDistinctIds new → length (remove_entry (nat_eq p) new) + 1 ≡ length new
one_less k target new at p h e d =
    let s = its_split k new h.front h.back at p h.cut h.start e in
    let xs = h.front ++ s.0 in
    let fewer = ap length (its_removed k new h.front h.back at p h.cut h.start e d) ∙ length-append xs s.2 in
    let whole = ap length (whole_cut k new h.front h.back at p h.cut h.start e) ∙ length-append xs ((p, (k, s.1)) ∷ s.2) in
    omega arith

-- nothing is left to remove
pub all_removed : (k : Elem) (target new : List Row) (at : Option ℕ) → IsRemoving k target new at → at ≡ None → new ≡ target
all_removed k target new at h e = h.cut ∙ ap (λ l. h.front ++ l) (sym (none_without k h.back (first_none (pairs_of_key k h.back) (sym h.start ∙ e)))) ∙ h.rows

pub emptied : (k : Elem) (target new : List Row) (at : Option ℕ) → IsRemoving k target new at → length new ≡ 0 → new ≡ target
emptied k target new at h e = all_removed k target new None (record { front = h.front; back = h.back; cut = h.cut; start = sym (ap (λ rs. first_key (pairs_of_key k rs)) (nothing h.back (let both = ap length h.cut ∙ length-append h.front h.back in omega arith))); rows = h.rows }) refl
  where
    nothing : (xs : List Row) → length xs ≡ 0 → xs ≡ []
    nothing [] f = refl
    nothing (x ∷ xs) f = absurd (omega arith)

-- the last row taken away
split_end : (row : Row) (rows : List Row) → (xs : List Row) × (r : Row) × (row ∷ rows ≡ xs ++ r ∷ [])
split_end row [] = ([], row, refl)
split_end row (next ∷ rows) = let s = split_end next rows in (row ∷ s.0, s.1, ap (λ l. row ∷ l) s.2)

last_at_end : (o : Option ℕ) (xs : List Row) (r : Row) → last_key_or o (xs ++ r ∷ []) ≡ Some r.0
last_at_end o [] r = refl
last_at_end o (x ∷ xs) r = last_at_end (Some x.0) xs r

pub fewer_added : (xs left : List Row) (new : List Row) (p n count : ℕ) → last_key (xs ++ left) ≡ Some p → HasDistinctIds (xs ++ left) → new ≡ remove_entry (nat_eq p) (xs ++ left) → length left + n ≡ count → n < count
    → (rest : List Row) × (new ≡ xs ++ rest) × (length rest + (n + 1) ≡ count)
fewer_added xs [] new p n count e d f c l = absurd (omega arith)
fewer_added xs (row ∷ left) new p n count e d f c l =
    let s = split_end row left in
    let whole : xs ++ row ∷ left ≡ (xs ++ s.0) ++ s.1 ∷ [] = ap (λ l. xs ++ l) s.2 ∙ sym (append_assoc xs s.0 (s.1 ∷ [])) in
    let id : s.1.0 ≡ p = let both = sym (last_at_end None (xs ++ s.0) s.1) ∙ sym (ap last_key whole) ∙ e in cc in
    let gone = remove_at (nat_eq p) (xs ++ s.0) s.1 [] (subst (λ x. NonePasses (nat_eq x) (xs ++ s.0)) id (none_before (xs ++ s.0) s.1 [] (subst HasDistinctIds whole d))) (ap (nat_eq p) id ∙ own_id p) in
    let len = ap length s.2 ∙ length-append s.0 (s.1 ∷ []) in
    (s.0, f ∙ ap (remove_entry (nat_eq p)) whole ∙ gone ∙ append-nil (xs ++ s.0), omega arith)

pub some_last : (xs left : List Row) → last_key (xs ++ left) ≡ None → length left ≡ 0
some_last xs [] e = refl
some_last xs (row ∷ left) e = let s = split_end row left in let both = sym (last_at_end None (xs ++ s.0) s.1) ∙ sym (ap last_key (ap (λ l. xs ++ l) s.2 ∙ sym (append_assoc xs s.0 (s.1 ∷ [])))) ∙ e in absurd (cc)

pub no_left : (left : List Row) → length left ≡ 0 → left ≡ []
no_left [] e = refl
no_left (row ∷ left) e = absurd (omega arith)

-- values that are there already, written again
rewritten : (k : Elem) (ws : List Elem) (added : List Row) → map (λ (r : Row). r.1) added ≡ map (λ v. (k, v)) ws → overwritten k ws added ≡ added
rewritten k [] [] e = refl
rewritten k [] (a ∷ added) e = absurd (cc)
rewritten k (w ∷ ws) [] e = absurd (cc)
rewritten k (w ∷ ws) (a ∷ added) e =
    let own : a.1 ≡ (k, w) = cc in
    let rest : map (λ (r : Row). r.1) added ≡ map (λ v. (k, v)) ws = cc in
    let passes : same k a.1.0 ≡ true = ap (λ (c : Elem × Elem). same k c.0) own ∙ same_equiv.refl k in
    ap (λ b. cond b ((a.0, (k, w)) ∷ overwritten k ws added) (a ∷ overwritten k (w ∷ ws) added)) passes ∙ (λ i. (a.0, sym own i) ∷ rewritten k ws added rest i)

overwritten_empty : (k : Elem) (vs : List Elem) → overwritten k vs [] ≡ []
overwritten_empty k [] = refl
overwritten_empty k (v ∷ vs) = refl

no_rows : (added : List Row) → map (λ (r : Row). r.1) added ≡ [] → added ≡ []
no_rows [] e = refl
no_rows (a ∷ added) e = absurd (cc)

drop_nothing : (n : ℕ) → drop n (let none : List Elem = [] in none) ≡ []
drop_nothing zero = refl
drop_nothing (suc n) = refl

pub appended_written : (k : Elem) (vs : List Elem) (old added : List Row) → map (λ (r : Row). r.1) added ≡ map (λ v. (k, v)) (drop (count_of k old) vs) → overwritten k vs (old ++ added) ≡ overwritten k vs old ++ added
appended_written k vs [] added e = rewritten k vs added e ∙ sym (ap (λ l. l ++ added) (overwritten_empty k vs))
appended_written k vs (row ∷ old) added e = by_values vs e (λ ws. appended_written k ws old added)
  where
    by_values : (vs : List Elem) → map (λ (r : Row). r.1) added ≡ map (λ v. (k, v)) (drop (count_of k (row ∷ old)) vs) → ((ws : List Elem) → (map (λ (r : Row). r.1) added ≡ map (λ v. (k, v)) (drop (count_of k old) ws) → overwritten k ws (old ++ added) ≡ overwritten k ws old ++ added)) → overwritten k vs ((row ∷ old) ++ added) ≡ overwritten k vs (row ∷ old) ++ added
    by_values [] e rest =
        let none : added ≡ [] = no_rows added (e ∙ ap (map (λ v. (k, v))) (drop_nothing (count_of k (row ∷ old)))) in
        ap (λ l. without_key k ((row ∷ old) ++ l)) none ∙ ap (without_key k) (append-nil (row ∷ old)) ∙ sym (append-nil (without_key k (row ∷ old))) ∙ ap (λ l. without_key k (row ∷ old) ++ l) (sym none)
    by_values (v ∷ vs) e rest =
        elim (same k row.1.0) as (λ b. map (λ (r : Row). r.1) added ≡ map (λ x. (k, x)) (drop (length (cond b (row ∷ pairs_of_key k old) (pairs_of_key k old))) (v ∷ vs))
        → cond b ((row.0, (k, v)) ∷ overwritten k vs (old ++ added)) (row ∷ overwritten k (v ∷ vs) (old ++ added)) ≡ cond b ((row.0, (k, v)) ∷ overwritten k vs old) (row ∷ overwritten k (v ∷ vs) old) ++ added) [
          | true ↦ λ f. ap (λ l. (row.0, (k, v)) ∷ l) (rest vs f)
          | false ↦ λ f. ap (λ l. row ∷ l) (rest (v ∷ vs) f)
        ] e

-- the end of the values, or of the key's rows
pub values_ended : (k : Elem) (vs : List Elem) (old new : List Row) (at : Option ℕ) (ws : List Elem) → ws ≡ [] → IsWriting k vs ws old new at → IsWritten k vs old new at
values_ended k vs old new at ws e h = record { front = h.front; back = h.back; cut = h.cut; start = h.start; rows = h.rows ∙ ap (λ l. h.front ++ overwritten k l h.back) e }

pub rows_ended : (k : Elem) (vs : List Elem) (old new : List Row) (at : Option ℕ) (ws : List Elem) → at ≡ None → IsWriting k vs ws old new at → IsWritten k vs old new None
rows_ended k vs old new at ws e h =
    let none = first_none (pairs_of_key k h.back) (sym h.start ∙ e) in
    record { front = h.front; back = h.back; cut = h.cut; start = sym e ∙ h.start; rows = h.rows ∙ ap (λ l. h.front ++ l) (overwritten_none k ws h.back none ∙ sym (none_without k h.back none)) }

pub writing_starts : (k : Elem) (vs : List Elem) (old : List Row) (at : Option ℕ) → at ≡ first_key (pairs_of_key k old) → IsWriting k vs vs old old at
writing_starts k vs old at e = record { front = []; back = old; cut = refl; start = e; rows = refl }

-- the value number i of a list
pub drop_value : (vs : List Elem) (i : ℕ) (v : Elem) → i < length vs → v ≡ get_or vs i v → drop i vs ≡ v ∷ drop (i + 1) vs
drop_value vs i v l e = drop-cons vs i v l ∙ (λ j. sym e j ∷ drop (sym (add-one i) j) vs)

pub take_value : (vs : List Elem) (i : ℕ) (v : Elem) → i < length vs → v ≡ get_or vs i v → take (i + 1) vs ≡ take i vs ++ v ∷ []
take_value vs i v l e = ap (λ j. take j vs) (add-one i) ∙ take-suc vs i v l ∙ ap (λ x. take i vs ++ x ∷ []) (sym e)

pub map_append : {A B : Type 0} (f : A → B) (xs ys : List A) → map f (xs ++ ys) ≡ map f xs ++ map f ys
map_append f [] ys = refl
map_append f (x ∷ xs) ys = ap (λ l. f x ∷ l) (map_append f xs ys)

-- one more pair put last
pub appended_one : (k v : Elem) (vs more : List Elem) (old new newer : List Row) (h : IsAppended k vs old new) → IsPut None k v new newer → more ≡ vs ++ v ∷ [] → IsAppended k more old newer
appended_one k v vs more old new newer h p e = (
  h.0 ++ (p.0, (k, v)) ∷ [],
  p.2 ∙ ap (λ l. l ++ (p.0, (k, v)) ∷ []) h.1 ∙ append_assoc old h.0 ((p.0, (k, v)) ∷ []),
  map_append (λ (r : Row). r.1) h.0 ((p.0, (k, v)) ∷ []) ∙ ap (λ l. l ++ (k, v) ∷ []) h.2 ∙ sym (ap (map (λ x. (k, x))) e ∙ map_append (λ x. (k, x)) vs (v ∷ [])),
)

length_mapped : {A B : Type 0} (f : A → B) (xs : List A) → length (map f xs) ≡ length xs
length_mapped f [] = refl
length_mapped f (x ∷ xs) = ap suc (length_mapped f xs)

pub length_added : (k : Elem) (vs : List Elem) (added : List Row) → map (λ (r : Row). r.1) added ≡ map (λ v. (k, v)) vs → length added ≡ length vs
length_added k vs added e = sym (length_mapped (λ (r : Row). r.1) added) ∙ ap length e ∙ length_mapped (λ v. (k, v)) vs

pub drop_all : (vs : List Elem) (n : ℕ) → length vs ≤ n → drop n vs ≡ []
drop_all [] n l = drop_nothing n
drop_all (v ∷ vs) zero l = absurd (omega arith)
drop_all (v ∷ vs) (suc n) l = drop_all vs n (omega arith)

pub take_all : (vs : List Elem) (n : ℕ) → length vs ≤ n → take n vs ≡ vs
take_all [] zero l = refl
take_all [] (suc n) l = refl
take_all (v ∷ vs) zero l = absurd (omega arith)
take_all (v ∷ vs) (suc n) l = ap (λ w. v ∷ w) (take_all vs n (omega arith))

-- the place of a next row is that of a row
pub next_is_live : (k : Elem) (front back rows : List Row) (at : Option ℕ) (p : ℕ) → rows ≡ front ++ back → at ≡ first_key (pairs_of_key k back) → at ≡ Some p → IsSome (lookup (nat_eq p) rows)
next_is_live k front back rows at p cut start e = subst (λ rs. IsSome (lookup (nat_eq p) rs)) (sym cut) (behind front (live_filter (λ (r : Row). same k r.1.0) back p (first_live (pairs_of_key k back) p (sym start ∙ e))))
  where
    behind : (xs : List Row) → IsSome (lookup (nat_eq p) back) → IsSome (lookup (nat_eq p) (xs ++ back))
    behind [] s = s
    behind (x ∷ xs) s = later p x (lookup (nat_eq p) (xs ++ back)) (behind xs s)

pub last_is_live : (o : Option ℕ) (rows : List Row) (p : ℕ) → (o ≡ Some p → ⊥) → last_key_or o rows ≡ Some p → IsSome (lookup (nat_eq p) rows)
last_is_live o [] p n e = absurd (n e)
last_is_live o (row ∷ rows) p n e = by_case (nat_eq p row.0) refl (λ m. last_is_live (Some row.0) rows p m e)
  where
    apart : nat_eq p row.0 ≡ false → Some row.0 ≡ Some p → ⊥
    apart f g = let id : row.0 ≡ p = cc in let both = sym f ∙ ap (nat_eq p) id ∙ own_id p in cc

    by_case : (b : Bool) → nat_eq p row.0 ≡ b → ((Some row.0 ≡ Some p → ⊥) → IsSome (lookup (nat_eq p) rows)) → IsSome (lookup (nat_eq p) (row ∷ rows))
    by_case true t rest = subst (λ b. IsSome (cond b (Some row.1) (lookup (nat_eq p) rows))) (sym t) refl
    by_case false f rest = later p row (lookup (nat_eq p) rows) (rest (apart f))
