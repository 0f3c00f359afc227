-- New rows of a key, placed where its rows begin, and values each once.
use Rattle.std.proofs.Common.{◌≡◌, ℕ, suc, ◌≤◌, Bool, true, false, cond, not, ◌||◌, List, [], ◌∷◌, ◌++◌, length, map, Option, Some, refl, sym, ap, ◌∙◌, subst, arith, append-nil, append_assoc}
use Rattle.std.specs.Prelude.{IsSome, is_some, nat_eq}
use Rattle.std.specs.List.{filter}
use Rattle.std.specs.Map.{lookup, keys_of}
use Rattle.std.proofs.lemmas.Bool.Decides.{Decides-eqb}
use Rattle.std.proofs.lemmas.List.Elements.{filter-append}
use Rattle.elem.specs.declared.elements.Elem.{Elem}
use Rattle.elem.specs.Elements.{same}
use Rattle.elem.specs.ElementLaws.{same-Decides, same_equiv}
use Rattle.elem.specs.Rows.{first_key}
use Rattle.mm_base.specs.PairRows.{Row, IsPut, HasDistinctIds, pairs_of_key, without_key, count_of, rows_from, put_before, rows_of_pair}
use Rattle.elem.specs.Keyed.{without, HasDistinctKeys}
use Rattle.mm_base.specs.KeyedRows.{contains, has_key, with_key, keys_with_rows, AreKeysOf, HasDistinctPairs}
use Rattle.mm_base.specs.LinkedPairs.{AreLinked}
use Rattle.mm_base.specs.GroupedRows.{begins_with}
use Rattle.mm_base.specs.Exchanging.{each_once, IsEdge, IsPlaced}
use Rattle.mm_base.proofs.PairRowsLemmas.{none_before, later}
use Rattle.mm_base.proofs.PairsReads.{put_before_at, rows_from_at}
use Rattle.mm_base.proofs.ReplacingLemmas.{map_append, none_without}
use Rattle.mm_base.proofs.KeyedRowsLemmas.{has_last, keyed_with, keys_settled, keyed_settled, pairs_filtered, others_without}
use Rattle.mm_base.proofs.MovingLemmas.{contains_beside}

-- all rows have the key
abbrev pub AllOfKey : Elem → List Row → Type 0
AllOfKey k [] = Unit {0}
AllOfKey k (row ∷ rows) = (same k row.1.0 ≡ true) × AllOfKey k rows

module _ (k : Elem) where
  pub all_values : (vs : List Elem) (added : List Row) → map (λ (r : Row). r.1) added ≡ map (λ v. (k, v)) vs → AllOfKey k added
  all_values vs [] e = tt
  all_values [] (a ∷ added) e = absurd (cc)
  all_values (v ∷ vs) (a ∷ added) e =
      let own : a.1 ≡ (k, v) = cc in
      let rest : map (λ (r : Row). r.1) added ≡ map (λ v. (k, v)) vs = cc in
      (ap (λ (c : Elem × Elem). same k c.0) own ∙ same_equiv.refl k, all_values vs added rest)

  pub all_filter : (rows : List Row) → AllOfKey k (pairs_of_key k rows)
  all_filter [] = tt
  all_filter (r ∷ rows) = by_case (same k r.1.0) refl (all_filter rows)
    where
      by_case : (b : Bool) → same k r.1.0 ≡ b → AllOfKey k (pairs_of_key k rows) → AllOfKey k (cond b (r ∷ pairs_of_key k rows) (pairs_of_key k rows))
      by_case true t rest = (t, rest)
      by_case false t rest = rest

  pub all_pairs : (rows : List Row) → AllOfKey k rows → pairs_of_key k rows ≡ rows
  all_pairs [] a = refl
  all_pairs (r ∷ rows) a = ap (λ b. cond b (r ∷ pairs_of_key k rows) (pairs_of_key k rows)) a.0 ∙ ap (λ l. r ∷ l) (all_pairs rows a.1)

  pub all_without : (rows : List Row) → AllOfKey k rows → without_key k rows ≡ []
  all_without [] a = refl
  all_without (r ∷ rows) a = ap (λ b. cond (not b) (r ∷ without_key k rows) (without_key k rows)) a.0 ∙ all_without rows a.1

-- rows with distinct ids, cut where those begin of which one is `next`
module _ (next : Option ℕ) (xs : List Row) where
  pub from_cut : (back : List Row) → next ≡ first_key back → HasDistinctIds (xs ++ back) → rows_from next (xs ++ back) ≡ back
  from_cut [] e d = ap (λ o. rows_from o (xs ++ [])) e
  from_cut (b ∷ bs) e d = ap (λ o. rows_from o (xs ++ b ∷ bs)) e ∙ rows_from_at b.0 xs b.1 bs (none_before xs b bs d)

  pub put_cut : (r : Row) (back : List Row) → next ≡ first_key back → HasDistinctIds (xs ++ back) → put_before next r (xs ++ back) ≡ xs ++ r ∷ back
  put_cut r [] e d = ap (λ o. put_before o r (xs ++ [])) e ∙ ap (λ l. l ++ r ∷ []) (append-nil xs)
  put_cut r (b ∷ bs) e d = ap (λ o. put_before o r (xs ++ b ∷ bs)) e ∙ put_before_at b.0 r xs b.1 bs (none_before xs b bs d)

pub live_from : (xs back : List Row) (q : ℕ) → first_key back ≡ Some q → IsSome (lookup (nat_eq q) (xs ++ back))
live_from [] [] q e = absurd (cc)
live_from [] (b ∷ bs) q e =
    let id : b.0 ≡ q = cc in
    subst (λ x. IsSome (cond x (Some b.1) (lookup (nat_eq q) bs))) (sym (ap (nat_eq q) id ∙ (Decides-eqb q q).1 refl)) refl
live_from (x ∷ xs) back q e = later q x (lookup (nat_eq q) (xs ++ back)) (live_from xs back q e)

-- an edge
module _ (k : Elem) (next : Option ℕ) (rows front back : List Row) (g : IsEdge k next rows front back) where
  pub edge_key : next ≡ first_key (pairs_of_key k back)
  edge_key = by_rows back g.start g.begins
    where
      by_rows : (bs : List Row) → next ≡ first_key bs → is_some next ≡ begins_with k bs → next ≡ first_key (pairs_of_key k bs)
      by_rows [] e b = e
      by_rows (r ∷ bs) e b =
          let own : same k r.1.0 ≡ true = sym b ∙ ap is_some e in
          e ∙ sym (ap (λ c. first_key (cond c (r ∷ pairs_of_key k bs) (pairs_of_key k bs))) own)

-- new rows are placed at an edge
module _ (k : Elem) (next : Option ℕ) where
  pub placing_starts : (old front back : List Row) (vs : List Elem) → vs ≡ [] → IsEdge k next old front back → IsPlaced k vs next old old
  placing_starts old front back vs e g = record { front = front; back = back; added = []; edge = g; rows = g.cut; values = sym (ap (map (λ v. (k, v))) e) }

  module _ (vs : List Elem) (old now : List Row) (h : IsPlaced k vs next old now) where
    whole : now ≡ (h.front ++ h.added) ++ h.back
    whole = h.rows ∙ sym (append_assoc h.front h.added h.back)

    pub placed_live : (q : ℕ) → next ≡ Some q → IsSome (lookup (nat_eq q) now)
    placed_live q e = subst (λ rs. IsSome (lookup (nat_eq q) rs)) (sym whole) (live_from (h.front ++ h.added) h.back q (sym h.edge.start ∙ e))

    pub placed_in_key : HasDistinctIds now → next ≡ first_key (pairs_of_key k (rows_from next now))
    placed_in_key d =
        edge_key k next old h.front h.back h.edge
        ∙ sym (ap (λ rs. first_key (pairs_of_key k rs)) (ap (rows_from next) whole ∙ from_cut next (h.front ++ h.added) h.back h.edge.start (subst HasDistinctIds whole d)))

    pub placed_one : (v : Elem) (more : List Elem) (new : List Row) → HasDistinctIds now → IsPut next k v now new → more ≡ vs ++ v ∷ [] → IsPlaced k more next old new
    placed_one v more new d p e =
        let r : Row = (p.0, (k, v)) in
        record {
          front = h.front;
          back = h.back;
          added = h.added ++ r ∷ [];
          edge = h.edge;
          rows =
              p.2 ∙ ap (put_before next r) whole ∙ put_cut next (h.front ++ h.added) r h.back h.edge.start (subst HasDistinctIds whole d) ∙ append_assoc h.front h.added (r ∷ h.back)
              ∙ ap (λ l. h.front ++ l) (sym (append_assoc h.added (r ∷ []) h.back));
          values = map_append (λ (s : Row). s.1) h.added (r ∷ []) ∙ ap (λ l. l ++ (k, v) ∷ []) h.values ∙ sym (ap (map (λ x. (k, x))) e ∙ map_append (λ x. (k, x)) vs (v ∷ []));
        }

    -- and taken away again
    pub placed_count : count_of k (h.front ++ h.added) ≡ length h.added
    placed_count = ap length (filter-append (λ (r : Row). same k r.1.0) h.front h.added ∙ (λ i. h.edge.none i ++ all_pairs k h.added (all_values k vs h.added h.values) i))

    pub placed_back : (new : List Row) → new ≡ without_key k (h.front ++ h.added) ++ h.back → new ≡ old
    placed_back new e =
        e ∙ ap (λ l. l ++ h.back) (filter-append (λ (r : Row). not (same k r.1.0)) h.front h.added ∙ (λ i. none_without k h.front h.edge.none i ++ all_without k h.added (all_values k vs h.added h.values) i) ∙ append-nil h.front)
        ∙ sym h.edge.cut

    pub placed_whole : now ≡ (h.front ++ h.added) ++ h.back
    placed_whole = whole

-- values each once
pub contains_each : (x : Elem) (vs : List Elem) → contains x (each_once vs) ≡ contains x vs
contains_each x [] = refl
contains_each x (v ∷ vs) = by_case (same x v) refl (contains_each x vs)
  where
    by_case : (b : Bool) → same x v ≡ b → contains x (each_once vs) ≡ contains x vs → cond (same x v) true (contains x (filter (λ w. not (same v w)) (each_once vs))) ≡ cond (same x v) true (contains x vs)
    by_case true t rest = ap (λ b. cond b true (contains x (filter (λ w. not (same v w)) (each_once vs)))) t ∙ sym (ap (λ b. cond b true (contains x vs)) t)
    by_case false f rest = ap (cond (same x v) true) (contains_beside v x (same_equiv.symm v x ∙ f) (each_once vs) ∙ rest)

pushed : (x v : Elem) (ws : List Elem) → x ∷ filter (λ w. not (same x w)) (with_key v ws) ≡ with_key v (x ∷ filter (λ w. not (same x w)) ws)
pushed x v ws = by_case (same v x) refl
  where
    test : Elem → Bool
    test w = not (same x w)

    by_there : (b : Bool) → contains v ws ≡ b → same v x ≡ true → filter (λ w. not (same x w)) (cond b ws (ws ++ v ∷ [])) ≡ filter (λ w. not (same x w)) ws
    by_there true c t = refl
    by_there false c t = filter-append (λ w. not (same x w)) ws (v ∷ []) ∙ ap (λ b. filter (λ w. not (same x w)) ws ++ cond (not b) (v ∷ []) []) (same_equiv.symm x v ∙ t) ∙ append-nil (filter (λ w. not (same x w)) ws)

    by_new : (b : Bool) → same v x ≡ false → x ∷ filter (λ w. not (same x w)) (cond b ws (ws ++ v ∷ [])) ≡ cond b (x ∷ filter (λ w. not (same x w)) ws) (x ∷ (filter (λ w. not (same x w)) ws ++ v ∷ []))
    by_new true f = refl
    by_new false f = ap (λ l. x ∷ l) (filter-append (λ w. not (same x w)) ws (v ∷ []) ∙ ap (λ b. filter (λ w. not (same x w)) ws ++ cond (not b) (v ∷ []) []) (same_equiv.symm x v ∙ f))

    by_case : (b : Bool) → same v x ≡ b → x ∷ filter (λ w. not (same x w)) (cond (contains v ws) ws (ws ++ v ∷ [])) ≡ cond (cond (same v x) true (contains v (filter (λ w. not (same x w)) ws))) (x ∷ filter (λ w. not (same x w)) ws) (x ∷ (filter (λ w. not (same x w)) ws ++ v ∷ []))
    by_case true t =
        ap (λ l. x ∷ l) (by_there (contains v ws) refl t)
        ∙ sym (ap (λ b. cond (cond b true (contains v (filter (λ w. not (same x w)) ws))) (x ∷ filter (λ w. not (same x w)) ws) (x ∷ (filter (λ w. not (same x w)) ws ++ v ∷ []))) t)
    by_case false f =
        by_new (contains v ws) f
        ∙ sym (λ i. cond (cond (f i) true (contains_beside x v (same_equiv.symm x v ∙ f) ws i)) (x ∷ filter (λ w. not (same x w)) ws) (x ∷ (filter (λ w. not (same x w)) ws ++ v ∷ [])))

pub each_last : (vs : List Elem) (v : Elem) → each_once (vs ++ v ∷ []) ≡ with_key v (each_once vs)
each_last [] v = refl
each_last (x ∷ vs) v = ap (λ l. x ∷ filter (λ w. not (same x w)) l) (each_last vs v) ∙ pushed x v (each_once vs)

-- no value stands twice
each_few : (y : Elem) (vs : List Elem) → length (filter (λ w. same y w) (each_once vs)) ≤ 1
each_few y [] = omega arith
each_few y (v ∷ vs) = by_case (same y v) refl (each_few y vs)
  where
    gone : same y v ≡ true → (ws : List Elem) → filter (λ w. same y w) (filter (λ w. not (same v w)) ws) ≡ []
    gone t [] = refl
    gone t (w ∷ ws) = by_value (same v w) refl (gone t ws)
      where
        by_value : (b : Bool) → same v w ≡ b → filter (λ w. same y w) (filter (λ w. not (same v w)) ws) ≡ [] → filter (λ w. same y w) (cond (not b) (w ∷ filter (λ w. not (same v w)) ws) (filter (λ w. not (same v w)) ws)) ≡ []
        by_value true e rest = rest
        by_value false e rest =
            let differs : same y w ≡ false = ap (λ x. same x w) ((same-Decides y v).0 t) ∙ e in
            ap (λ b. cond b (w ∷ filter (λ w. same y w) (filter (λ w. not (same v w)) ws)) (filter (λ w. same y w) (filter (λ w. not (same v w)) ws))) differs ∙ rest

    kept : same y v ≡ false → (ws : List Elem) → filter (λ w. same y w) (filter (λ w. not (same v w)) ws) ≡ filter (λ w. same y w) ws
    kept f [] = refl
    kept f (w ∷ ws) = by_value (same v w) refl (kept f ws)
      where
        by_value : (b : Bool) → same v w ≡ b → filter (λ w. same y w) (filter (λ w. not (same v w)) ws) ≡ filter (λ w. same y w) ws
            → filter (λ w. same y w) (cond (not b) (w ∷ filter (λ w. not (same v w)) ws) (filter (λ w. not (same v w)) ws)) ≡ cond (same y w) (w ∷ filter (λ w. same y w) ws) (filter (λ w. same y w) ws)
        by_value true e rest =
            let differs : same y w ≡ false = ap (same y) (sym ((same-Decides v w).0 e)) ∙ f in
            rest ∙ sym (ap (λ b. cond b (w ∷ filter (λ w. same y w) ws) (filter (λ w. same y w) ws)) differs)
        by_value false e rest = ap (λ l. cond (same y w) (w ∷ l) l) rest

    by_case : (b : Bool) → same y v ≡ b → length (filter (λ w. same y w) (each_once vs)) ≤ 1 → length (cond b (v ∷ filter (λ w. same y w) (filter (λ w. not (same v w)) (each_once vs))) (filter (λ w. same y w) (filter (λ w. not (same v w)) (each_once vs)))) ≤ 1
    by_case true t rest = subst (λ l. length (v ∷ l) ≤ 1) (sym (gone t (each_once vs))) (omega arith)
    by_case false f rest = subst (λ l. length l ≤ 1) (sym (kept f (each_once vs))) rest

-- rows of other keys
pub none_other : (k x : Elem) → same k x ≡ false → (rows : List Row) → AllOfKey k rows → pairs_of_key x rows ≡ []
none_other k x f [] a = refl
none_other k x f (r ∷ rows) a =
    let differs : same x r.1.0 ≡ false = ap (same x) (sym ((same-Decides k r.1.0).0 a.0)) ∙ same_equiv.symm x k ∙ f in
    ap (λ b. cond b (r ∷ pairs_of_key x rows) (pairs_of_key x rows)) differs ∙ none_other k x f rows a.1

pub none_of_key : (k : Elem) (rows : List Row) → pairs_of_key k (without_key k rows) ≡ []
none_of_key k [] = refl
none_of_key k (r ∷ rows) = by_case (same k r.1.0) refl (none_of_key k rows)
  where
    by_case : (b : Bool) → same k r.1.0 ≡ b → pairs_of_key k (without_key k rows) ≡ [] → pairs_of_key k (cond (not b) (r ∷ without_key k rows) (without_key k rows)) ≡ []
    by_case true t rest = rest
    by_case false f rest = ap (λ b. cond b (r ∷ pairs_of_key k (without_key k rows)) (pairs_of_key k (without_key k rows))) f ∙ rest

values_kept : (k y : Elem) (ws : List Elem) (added : List Row) → map (λ (r : Row). r.1) added ≡ map (λ v. (k, v)) ws → length (filter (λ (r : Row). same y r.1.1) added) ≡ length (filter (λ w. same y w) ws)
values_kept k y [] [] e = refl
values_kept k y [] (a ∷ added) e = absurd (cc)
values_kept k y (w ∷ ws) [] e = absurd (cc)
values_kept k y (w ∷ ws) (a ∷ added) e =
    let own : a.1 ≡ (k, w) = cc in
    let rest : map (λ (r : Row). r.1) added ≡ map (λ v. (k, v)) ws = cc in
    ap (λ (c : Elem × Elem). length (cond (same y c.1) (a ∷ filter (λ (r : Row). same y r.1.1) added) (filter (λ (r : Row). same y r.1.1) added))) own ∙ same_length (same y w) (values_kept k y ws added rest)
  where
    same_length : (b : Bool) → length (filter (λ (r : Row). same y r.1.1) added) ≡ length (filter (λ v. same y v) ws) → length (cond b (a ∷ filter (λ (r : Row). same y r.1.1) added) (filter (λ (r : Row). same y r.1.1) added)) ≡ length (cond b (w ∷ filter (λ v. same y v) ws) (filter (λ v. same y v) ws))
    same_length true r = ap suc r
    same_length false r = r

-- rows exchanged for others with values each once
module _ (k : Elem) (vs : List Elem) (old added : List Row) (values : map (λ (r : Row). r.1) added ≡ map (λ v. (k, v)) (each_once vs)) where
  all_added : AllOfKey k added
  all_added = all_values k (each_once vs) added values

  pub exchanged_pairs : HasDistinctPairs old → HasDistinctPairs (without_key k old ++ added)
  exchanged_pairs h x y = by_key (same k x) refl
    where
      others : List Row
      others = without_key k old

      whole : rows_of_pair x y (without_key k old ++ added) ≡ rows_of_pair x y (without_key k old) ++ rows_of_pair x y added
      whole = ap (filter (λ (r : Row). same y r.1.1)) (filter-append (λ (r : Row). same x r.1.0) (without_key k old) added) ∙ filter-append (λ (r : Row). same y r.1.1) (pairs_of_key x (without_key k old)) (pairs_of_key x added)

      by_key : (b : Bool) → same k x ≡ b → length (rows_of_pair x y (without_key k old ++ added)) ≤ 1
      by_key true t =
          let own : x ≡ k = sym ((same-Decides k x).0 t) in
          let front : rows_of_pair x y (without_key k old) ≡ [] = ap (λ z. rows_of_pair z y (without_key k old)) own ∙ ap (filter (λ (r : Row). same y r.1.1)) (none_of_key k old) in
          let back : rows_of_pair x y added ≡ filter (λ (r : Row). same y r.1.1) added = ap (λ z. rows_of_pair z y added) own ∙ ap (filter (λ (r : Row). same y r.1.1)) (all_pairs k added all_added) in
          let total = ap length (whole ∙ (λ i. front i ++ back i)) in
          let few = each_few y vs in
          let count = values_kept k y (each_once vs) added values in
          omega arith
      by_key false f =
          let back : rows_of_pair x y added ≡ [] = ap (filter (λ (r : Row). same y r.1.1)) (none_other k x f added all_added) in
          let total = ap length (whole ∙ ap (λ l. rows_of_pair x y (without_key k old) ++ l) back ∙ append-nil (rows_of_pair x y (without_key k old))) in
          let few = pairs_filtered (λ (r : Row). not (same k r.1.0)) old h x y in
          omega arith

  pub exchanged_others : (x : Elem) → same k x ≡ false → has_key (without_key k old ++ added) x ≡ has_key old x
  exchanged_others x f =
      ap (λ rs. is_some (first_key rs)) (filter-append (λ (r : Row). same x r.1.0) (without_key k old) added ∙ ap (λ l. pairs_of_key x (without_key k old) ++ l) (none_other k x f added all_added) ∙ append-nil (pairs_of_key x (without_key k old)))
      ∙ others_without k old x f

-- the keys beside them
module _ {V : Type 0} (old new : List Row) (k : Elem) (es more fs : List (Elem × V)) (h : AreLinked old es) (others : (x : Elem) → same k x ≡ false → has_key new x ≡ has_key old x) (with_it : keys_of more ≡ with_key k (keys_of es)) (distinct : HasDistinctKeys more)
    (settled : fs ≡ cond (has_key new k) more (without more k)) where
  -- rows that have the key
  abbrev fuller : List Row
  fuller = old ++ (0, (k, k)) ∷ []

  fuller_keys : AreKeysOf fuller (keys_of more)
  fuller_keys = keyed_with old (keys_of es) (keys_of more) 0 k k h.keyed with_it distinct

  fuller_others : (x : Elem) → same k x ≡ false → has_key new x ≡ has_key fuller x
  fuller_others x f = others x f ∙ sym (has_last x old (0, (k, k)) ∙ ap (λ b. has_key old x || b) (same_equiv.symm x k ∙ f) ∙ never (has_key old x))
    where
      never : (a : Bool) → (a || false) ≡ a
      never true = refl
      never false = refl

  had : (x : Elem) → has_key new x ≡ true → has_key fuller x ≡ true
  had x t = by_case (same k x) refl
    where
      always : (a : Bool) → (a || true) ≡ true
      always true = refl
      always false = refl

      by_case : (b : Bool) → same k x ≡ b → has_key fuller x ≡ true
      by_case true s = has_last x old (0, (k, k)) ∙ ap (λ b. has_key old x || b) (same_equiv.symm x k ∙ s) ∙ always (has_key old x)
      by_case false f = sym (fuller_others x f) ∙ t

  pub exchanged_keys : keys_of fs ≡ keys_with_rows new (with_key k (keys_of es))
  exchanged_keys = keys_settled fuller new k fuller_others more fs fuller_keys settled ∙ ap (keys_with_rows new) with_it

  pub exchanged_linked : HasDistinctPairs new → HasDistinctKeys fs → AreLinked new fs
  exchanged_linked pairs d = record { keyed = keyed_settled fuller new k fuller_others more fs fuller_keys settled had d; pairs = pairs }

-- a value more, where a test tells whether it is new
module _ (v : Elem) (ws : List Elem) (added : Bool) (e : added ≡ not (contains v ws)) where
  pub new_value : added ≡ true → with_key v ws ≡ ws ++ v ∷ []
  new_value t = by_case (contains v ws) (sym e ∙ t)
    where
      by_case : (b : Bool) → not b ≡ true → cond b ws (ws ++ v ∷ []) ≡ ws ++ v ∷ []
      by_case true f = absurd (cc)
      by_case false f = refl

  pub old_value : added ≡ false → with_key v ws ≡ ws
  old_value t = by_case (contains v ws) (sym e ∙ t)
    where
      by_case : (b : Bool) → not b ≡ false → cond b ws (ws ++ v ∷ []) ≡ ws
      by_case true f = refl
      by_case false f = absurd (cc)
