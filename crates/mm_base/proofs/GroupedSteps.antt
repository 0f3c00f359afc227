-- What each call makes of grouped rows.
use Rattle.std.proofs.Common.{◌≡◌, ℕ, zero, suc, ◌<◌, ◌≤◌, Bool, true, false, cond, not, List, [], ◌∷◌, ◌++◌, length, insert, Option, Some, None, refl, sym, ap, ◌∙◌, subst, arith, slice_get, append-nil, append_assoc}
use Rattle.std.specs.Prelude.{IsSome, is_some, nat_eq}
use Rattle.std.specs.Option.{option_map}
use Rattle.std.specs.Map.{lookup, set_value}
use Rattle.elem.specs.declared.elements.Elem.{Elem}
use Rattle.elem.specs.Elements.{same}
use Rattle.elem.specs.ElementLaws.{same-Decides, same_equiv}
use Rattle.elem.specs.Rows.{first_key, last_key}
use Rattle.elem.proofs.RowsLemmas.{set_value_at}
use Rattle.mm_base.specs.PairRows.{Row, IsPut, HasDistinctIds, pairs_of_key, without_key, count_of, id_of, rows_from, with_pair}
use Rattle.mm_base.specs.KeyedRows.{has_key}
use Rattle.mm_base.specs.GroupedRows.{begins_with, IsGrouped, in_place_of, IsPutInGroup, IsReplacedInGroup, IsSplit}
use Rattle.mm_base.specs.Exchanging.{IsEdge, IsPlaced}
use Rattle.mm_base.proofs.PairRowsLemmas.{first_id_of, live_filter, its_row, its_cut, its_front, passes, id_some}
use Rattle.mm_base.proofs.ReplacingLemmas.{fails, last_is_live}
use Rattle.mm_base.proofs.ExchangingLemmas.{AllOfKey, all_values, all_filter, from_cut, live_from}
use Rattle.mm_base.proofs.GroupedLemmas.{has_cons, GoesOn, grouped_in_place, split, put_in_group, insert_last, nth_insert, all_insert}

-- the place after a key's group
module _ (k : Elem) (rows : List Row) (g : IsGrouped rows) (d : HasDistinctIds rows) (next : Option ℕ) (after : (us vs : List Row) → IsSplit k rows us vs → next ≡ first_key vs) where
  its_split : (us : List Row) × (vs : List Row) × IsSplit k rows us vs
  its_split = split k rows g

  whole : rows ≡ (its_split.0 ++ pairs_of_key k rows) ++ its_split.1
  whole = its_split.2.cut ∙ sym (append_assoc its_split.0 (pairs_of_key k rows) its_split.1)

  start : next ≡ first_key its_split.1
  start = after its_split.0 its_split.1 its_split.2

  pub next_live : (q : ℕ) → next ≡ Some q → IsSome (lookup (nat_eq q) rows)
  next_live q e = subst (λ rs. IsSome (lookup (nat_eq q) rs)) (sym whole) (live_from (its_split.0 ++ pairs_of_key k rows) its_split.1 q (sym start ∙ e))

  pub next_in_key : None ≡ first_key (pairs_of_key k (rows_from next rows))
  next_in_key = sym (ap (λ rs. first_key (pairs_of_key k rs)) (ap (rows_from next) whole ∙ from_cut next (its_split.0 ++ pairs_of_key k rows) its_split.1 start (subst HasDistinctIds whole d)) ∙ ap first_key its_split.2.none_back)

  pub put_after : (v : Elem) (new : List Row) → IsPut next k v rows new → IsPutInGroup (count_of k rows) k v rows new
  put_after v new p =
      let r : Row = (p.0, (k, v)) in
      let pairs = pairs_of_key k rows in (
        p.0,
        p.1,
        p.2 ∙ put_in_group k rows its_split.0 its_split.1 pairs [] next r its_split.2 (sym (append-nil pairs)) start d ∙ ap (λ l. in_place_of k l rows) (sym (insert_last pairs r)),
      )

-- a pair put before another of its key
pub put_before_nth : (k : Elem) (rows : List Row) → IsGrouped rows → HasDistinctIds rows → (i next : ℕ) → id_of k i rows ≡ Some next → (v : Elem) (new : List Row) → IsPut (Some next) k v rows new → IsPutInGroup i k v rows new
put_before_nth k rows g d i next e v new p =
    let s = split k rows g in
    let r = its_row k rows i next e in
    let n = nth_insert (pairs_of_key k rows) i r.0 r.1 in
    let one : Row = (p.0, (k, v)) in (
      p.0,
      p.1,
      p.2 ∙ put_in_group k rows s.0 s.1 n.0 (r.0 ∷ n.1) (Some next) one s.2 n.2 (ap Some (sym r.2)) d ∙ ap (λ l. in_place_of k l rows) (sym (n.3 one)),
    )

pub put_grouped : (k : Elem) (rows : List Row) → IsGrouped rows → (i : ℕ) → i ≤ count_of k rows → (v : Elem) (new : List Row) → IsPutInGroup i k v rows new → IsGrouped new
put_grouped k rows g i l v new p =
    let pairs = pairs_of_key k rows in
    let r : Row = (p.0, (k, v)) in
    subst IsGrouped (sym p.2) (grouped_in_place k (insert pairs i r) (all_insert k pairs i r l (all_filter k rows) (same_equiv.refl k)) rows g)

-- a key without a row number i
pub all_passed : (k : Elem) (rows : List Row) (i : ℕ) → id_of k i rows ≡ None → i ≤ count_of k rows → count_of k rows ≡ i
all_passed k rows i e l = let past = none_nth (pairs_of_key k rows) i (by_case (slice_get (pairs_of_key k rows) i) e) in omega arith
  where
    by_case : (o : Option Row) → option_map (λ (r : Row). r.0) o ≡ None → o ≡ None
    by_case None f = refl
    by_case (Some r) f = absurd (cc)

    none_nth : (rs : List Row) (i : ℕ) → slice_get rs i ≡ None → length rs ≤ i
    none_nth [] i f = omega arith
    none_nth (r ∷ rs) zero f = absurd (cc)
    none_nth (r ∷ rs) (suc i) f = let rest = none_nth rs i f in omega arith

-- another value for a row
module _ (r s : Row) (vs : List Row) (e : s.1.0 ≡ r.1.0) where
  has_same : (us : List Row) (x : Elem) → has_key (us ++ s ∷ vs) x ≡ has_key (us ++ r ∷ vs) x
  has_same [] x = has_cons s vs x ∙ ap (λ y. cond (same x y) true (has_key vs x)) e ∙ sym (has_cons r vs x)
  has_same (u ∷ us) x = has_cons u (us ++ s ∷ vs) x ∙ ap (cond (same x u.1.0) true) (has_same us x) ∙ sym (has_cons u (us ++ r ∷ vs) x)

  begins_same : (us : List Row) (x : Elem) → begins_with x (us ++ s ∷ vs) ≡ begins_with x (us ++ r ∷ vs)
  begins_same [] x = ap (same x) e
  begins_same (u ∷ us) x = refl

  pub grouped_same : (us : List Row) → IsGrouped (us ++ r ∷ vs) → IsGrouped (us ++ s ∷ vs)
  grouped_same [] g = (subst (λ x. GoesOn x vs) (sym e) g.0, g.1)
  grouped_same (u ∷ us) g = (has_same us u.1.0 ∙ g.0 ∙ sym (begins_same us u.1.0), grouped_same us g.1)

pub set_grouped : (k v : Elem) (rows new : List Row) (i : ℕ) → IsGrouped rows → HasDistinctIds rows → i < count_of k rows → new ≡ with_pair (id_of k i rows) (k, v) rows → IsGrouped new
set_grouped k v rows new i g d l e = by_id (id_of k i rows) refl (id_some k rows i l)
  where
    by_id : (o : Option ℕ) → id_of k i rows ≡ o → IsSome o → IsGrouped new
    by_id None f s = absurd (cc)
    by_id (Some q) f s =
        let c = its_cut k rows i q f in
        let r = (its_row k rows i q f).0 in
        let written = e ∙ ap (λ o. with_pair o (k, v) rows) f ∙ ap (λ rs. set_value (nat_eq q) rs (k, v)) c.2 ∙ set_value_at (nat_eq q) c.0 r c.1 (k, v) (its_front k rows i q f d) (passes k rows i q f d) in
        subst IsGrouped (sym written) (grouped_same r (r.0, (k, v)) c.1 ((same-Decides k r.1.0).0 c.3) c.0 (subst IsGrouped c.2 g))

-- the pairs of a key replaced
pub its_edge : (k : Elem) (rows : List Row) → IsGrouped rows → (next : Option ℕ) → next ≡ id_of k 0 rows → (us : List Row) × (back : List Row) × IsEdge k next rows us back
its_edge k rows g next e =
    let s = split k rows g in
    let f = e ∙ first_id_of k rows in
    (s.0, pairs_of_key k rows ++ s.1, record { cut = s.2.cut; start = f ∙ first_same (pairs_of_key k rows) s.1 s.2.absent; begins = ap is_some f ∙ begin_same (pairs_of_key k rows) (all_filter k rows) s.1 s.2.absent; none = s.2.none_front })
  where
    first_same : (rs vs : List Row) → (rs ≡ [] → vs ≡ []) → first_key rs ≡ first_key (rs ++ vs)
    first_same [] vs h = sym (ap first_key (h refl))
    first_same (r ∷ rs) vs h = refl

    begin_same : (rs : List Row) → AllOfKey k rs → (vs : List Row) → (rs ≡ [] → vs ≡ []) → is_some (first_key rs) ≡ begins_with k (rs ++ vs)
    begin_same [] a vs h = sym (ap (begins_with k) (h refl))
    begin_same (r ∷ rs) a vs h = sym a.0

module _ (k : Elem) (new : List Row) where
  past : (us rows : List Row) → pairs_of_key k us ≡ [] → in_place_of k new (us ++ rows) ≡ us ++ in_place_of k new rows
  past [] rows e = refl
  past (u ∷ us) rows e = let f = fails k u us e in ap (λ b. cond b (new ++ without_key k (us ++ rows)) (u ∷ in_place_of k new (us ++ rows))) f.0 ∙ ap (λ l. u ∷ l) (past us rows f.1)

  at_edge : (next : Option ℕ) (back : List Row) → next ≡ first_key back → is_some next ≡ begins_with k back → in_place_of k new back ≡ new ++ without_key k back
  at_edge next [] e b = sym (append-nil new)
  at_edge next (r ∷ back) e b =
      let own : same k r.1.0 ≡ true = sym b ∙ ap is_some e in
      ap (λ c. cond c (new ++ without_key k back) (r ∷ in_place_of k new back)) own ∙ sym (ap (λ c. new ++ cond (not c) (r ∷ without_key k back) (without_key k back)) own)

pub replaced_in_group : (k : Elem) (vs : List Elem) (next : Option ℕ) (rows mid new : List Row) (h : IsPlaced k vs next rows mid) → new ≡ (h.front ++ h.added) ++ without_key k h.back → IsReplacedInGroup k vs rows new
replaced_in_group k vs next rows mid new h e = (
  h.added,
  e ∙ append_assoc h.front h.added (without_key k h.back)
      ∙ sym (ap (in_place_of k h.added) h.edge.cut ∙ past k h.added h.front h.back h.edge.none ∙ ap (λ l. h.front ++ l) (at_edge k h.added next h.back h.edge.start h.edge.begins)),
  h.values,
)

pub replaced_grouped : (k : Elem) (vs : List Elem) (rows new : List Row) → IsGrouped rows → IsReplacedInGroup k vs rows new → IsGrouped new
replaced_grouped k vs rows new g h = subst IsGrouped (sym h.1) (grouped_in_place k h.0 (all_values k vs h.0 h.2) rows g)

-- ends of a key's rows are rows
pub last_live : (k : Elem) (rows : List Row) (p : ℕ) → last_key (pairs_of_key k rows) ≡ Some p → IsSome (lookup (nat_eq p) rows)
last_live k rows p e = live_filter (λ (r : Row). same k r.1.0) rows p (last_is_live None (pairs_of_key k rows) p (λ f. cc) e)

live_left : (us vs : List Row) (p : ℕ) → IsSome (lookup (nat_eq p) us) → IsSome (lookup (nat_eq p) (us ++ vs))
live_left [] vs p s = absurd (cc)
live_left (u ∷ us) vs p s = by_case (nat_eq p u.0) s (live_left us vs p)
  where
    by_case : (b : Bool) → IsSome (cond b (Some u.1) (lookup (nat_eq p) us)) → (IsSome (lookup (nat_eq p) us) → IsSome (lookup (nat_eq p) (us ++ vs))) → IsSome (cond b (Some u.1) (lookup (nat_eq p) (us ++ vs)))
    by_case true t rest = refl
    by_case false t rest = rest t

pub front_live : (k : Elem) (rows us vs : List Row) → IsSplit k rows us vs → (p : ℕ) → last_key us ≡ Some p → IsSome (lookup (nat_eq p) rows)
front_live k rows us vs s p e = subst (λ rs. IsSome (lookup (nat_eq p) rs)) (sym s.cut) (live_left us (pairs_of_key k rows ++ vs) p (last_is_live None us p (λ f. cc) e))
