-- What the links and groups of pairs say of the rows.
use Rattle.std.proofs.Common.{◌≡◌, ◌≢◌, ℕ, suc, ◌≤◌, Bool, true, false, cond, List, [], ◌∷◌, ◌++◌, length, Option, Some, None, refl, sym, ap, ◌∙◌, subst, arith, slice_get, append-nil}
use Rattle.std.specs.Prelude.{IsSome, nat_eq}
use Rattle.std.specs.Option.{option_map}
use Rattle.std.specs.List.{filter, IsDistinct, AllByRecursion}
use Rattle.std.specs.Map.{lookup, set_value, keys_of}
use Rattle.slab.specs.Slab.{Slab, get, slab_len}
use Rattle.elem.specs.declared.elements.Elem.{Elem}
use Rattle.elem.specs.Elements.{same}
use Rattle.elem.specs.Rows.{first_key, last_key, last_key_or, key_after}
use Rattle.linked_base.specs.declared.links.Links.{Links}
use Rattle.linked_base.specs.declared.links.Ends.{Ends}
use Rattle.linked_base.specs.declared.group.Group.{Group}
use Rattle.linked_base.specs.Thread.{Rewrites, head_or, last_or, Avoids, Apart, links_at}
use Rattle.linked_base.specs.Group.{group_or_none, has, of_key}
use Rattle.linked_base.specs.Places.{id_rows}
use Rattle.std.proofs.Common.{inl, inr}
use Rattle.std.proofs.lemmas.Bool.{cases_eq}
use Rattle.elem.proofs.RowsLemmas.{set_value_at}
use Rattle.linked_base.proofs.ThreadLemmas.{thread_walked, thread_cut_at, links_read, apart_without, avoids_cut}
use Rattle.linked_base.proofs.GroupLemmas.{thread_same, same_everywhere, own_cut, group_cut, group_there, length-filter_le, grouped_same}
use Rattle.linked_base.proofs.PlacesLemmas.{There, some_of, there_left, there_right}
use Rattle.std.proofs.lemmas.Map.{NonePasses, lookup-none}
use Rattle.std.proofs.lemmas.Bool.Decides.{Decides-eqb}
use Rattle.linked_base.proofs.IdLemmas.{ids-cons, ids_at, ids_beside, fresh, IsIdCut, cut_id, value_cut, after_cut, rows_cut, first_id, length-ids, filter_ids, none_avoids, there_filter, thread_there, node_of, ids_nth}
use Rattle.mm_base.specs.declared.pair_nodes.PairNode.{PairNode}
use Rattle.mm_base.specs.PairNodes.{all_links, key_links, key, core, key_at, value_at, core_at, ArePairs, places, pairs_now}
use Rattle.mm_base.specs.PairRows.{Row, pairs_of_key, rows_of_pair, put_before, rows_from}

key_of_core : (k : Elem) (x : Option PairNode) (c : Elem × Elem) → option_map core x ≡ Some c → has k (option_map key x) ≡ same k c.0
key_of_core k None c e = absurd (cc)
key_of_core k (Some n) c e = let both : core n ≡ c = cc in ap (λ (d : Elem × Elem). same k d.0) both

value_of_core : (v : Elem) (x : Option PairNode) (c : Elem × Elem) → option_map core x ≡ Some c → has v (option_map (λ (n : PairNode). n.value) x) ≡ same v c.1
value_of_core v None c e = absurd (cc)
value_of_core v (Some n) c e = let both : core n ≡ c = cc in ap (λ (d : Elem × Elem). same v d.1) both

pub own_key : (x : Option PairNode) (c : Elem × Elem) → option_map core x ≡ Some c → option_map key x ≡ Some c.0
own_key None c e = absurd (cc)
own_key (Some n) c e = let both : core n ≡ c = cc in ap (λ (d : Elem × Elem). Some d.0) both

module _ (nodes : Slab PairNode) (all : Ends) (find : Elem → Option Group) (ps : List ℕ) (h : ArePairs nodes all find ps) where
  pub places_are : places nodes all ≡ ps
  places_are = let c = h.count in thread_walked (links_at all_links nodes) all ps (slab_len nodes) (omega arith) h.thread

  pub pairs_are : pairs_now nodes all ≡ id_rows (core_at nodes) ps
  pairs_are = ap (id_rows (core_at nodes)) places_are

  -- as the invariant of the type says it
  pub kept_by_walk : (found : Elem → Option Group) → ((k : Elem) → found k ≡ find k) → ArePairs nodes all found (places nodes all)
  kept_by_walk found e = subst (ArePairs nodes all found) (sym places_are) (record { thread = h.thread; groups = grouped_same (key_at nodes) (key_at nodes) (links_at key_links nodes) (links_at key_links nodes) find found ps (λ p. refl) (λ p. refl) e h.groups; count = h.count })

  pub there : There (core_at nodes) ps
  there = thread_there all_links core nodes all ps h.thread

  pub len_read : slab_len nodes ≡ length (id_rows (core_at nodes) ps)
  len_read = h.count ∙ sym (length-ids (core_at nodes) ps there)

  pub first_read : all.first ≡ first_key (id_rows (core_at nodes) ps)
  first_read = h.thread.first ∙ sym (first_id (core_at nodes) ps there)

  last_ids : (o : Option ℕ) (xs : List ℕ) → There (core_at nodes) xs → last_or o xs ≡ last_key_or o (id_rows (core_at nodes) xs)
  last_ids o [] t = refl
  last_ids o (x ∷ xs) t = let c = some_of (core_at nodes x) t.0 in last_ids (Some x) xs t.1 ∙ sym (ap (last_key_or o) (ids-cons (core_at nodes) x xs c.0 c.1))

  pub last_read : all.last ≡ last_key (id_rows (core_at nodes) ps)
  last_read = h.thread.last ∙ last_ids None ps there

  pub key_rows : (k : Elem) → pairs_of_key k (id_rows (core_at nodes) ps) ≡ id_rows (core_at nodes) (of_key (key_at nodes) k ps)
  key_rows k = filter_ids (core_at nodes) (λ p. has k (key_at nodes p)) (λ (c : Elem × Elem). same k c.0) (λ p c e. key_of_core k (get nodes p) c e) ps there

  pub key_there : (k : Elem) → There (core_at nodes) (of_key (key_at nodes) k ps)
  key_there k = there_filter (core_at nodes) (λ p. has k (key_at nodes p)) ps there

  pub count_read : (k : Elem) → (group_or_none (find k)).count ≡ length (pairs_of_key k (id_rows (core_at nodes) ps))
  count_read k = (h.groups.group k).count ∙ sym (ap length (key_rows k) ∙ length-ids (core_at nodes) (of_key (key_at nodes) k ps) (key_there k))

  pub count_below : (k : Elem) → (group_or_none (find k)).count ≤ slab_len nodes
  count_below k = let a = (h.groups.group k).count in let b = length-filter_le (λ p. has k (key_at nodes p)) ps in let c = h.count in omega arith

  pub nth_read : (k : Elem) (i : ℕ) → slice_get (of_key (key_at nodes) k ps) i ≡ option_map (λ (r : ℕ × (Elem × Elem)). r.0) (slice_get (pairs_of_key k (id_rows (core_at nodes) ps)) i)
  nth_read k i = ids_nth (core_at nodes) (of_key (key_at nodes) k ps) i (key_there k) ∙ ap (λ l. option_map (λ (r : ℕ × (Elem × Elem)). r.0) (slice_get l i)) (sym (key_rows k))

  -- the first row of a key and a value
  pub found_read : (k v : Elem) → head_or None (filter (λ p. has v (value_at nodes p)) (of_key (key_at nodes) k ps)) ≡ first_key (rows_of_pair k v (id_rows (core_at nodes) ps))
  found_read k v =
      let test : ℕ → Bool = λ p. has v (value_at nodes p) in
      sym (ap (λ rs. first_key (filter (λ (r : Row). same v r.1.1) rs)) (key_rows k)
      ∙ ap first_key (filter_ids (core_at nodes) test (λ (c : Elem × Elem). same v c.1) (λ p c e. value_of_core v (get nodes p) c e) (of_key (key_at nodes) k ps) (key_there k))
      ∙ first_id (core_at nodes) (filter test (of_key (key_at nodes) k ps)) (there_filter (core_at nodes) test (of_key (key_at nodes) k ps) (key_there k)))

  module _ (q : ℕ) (s : IsSome (lookup (nat_eq q) (id_rows (core_at nodes) ps))) where
    pub id_cut : (us : List ℕ) × (vs : List ℕ) × (c : Elem × Elem) × IsIdCut (core_at nodes) ps q us vs c
    id_cut = cut_id (core_at nodes) ps q there s

    pub node_read : IsSome (get nodes q)
    node_read = node_of all_links core nodes q id_cut.2 id_cut.3.here

    pub key_read : key_at nodes q ≡ Some id_cut.2.0
    key_read = own_key (get nodes q) id_cut.2 id_cut.3.here

    pub cut_pairs : ArePairs nodes all find (id_cut.0 ++ q ∷ id_cut.1)
    cut_pairs = subst (ArePairs nodes all find) id_cut.3.places h

    module _ (n : PairNode) (g : get nodes q ≡ Some n) where
      pub core_read : id_cut.2 ≡ (n.key, n.value)
      core_read = let both = sym id_cut.3.here ∙ ap (option_map core) g in cc

      pub value_read : lookup (nat_eq q) (id_rows (core_at nodes) ps) ≡ Some (n.key, n.value)
      value_read = value_cut (core_at nodes) ps q id_cut.0 id_cut.1 id_cut.2 id_cut.3 ∙ ap Some core_read

      pub after_read : n.all.next ≡ key_after (nat_eq q) (id_rows (core_at nodes) ps)
      after_read =
          let t = cut_pairs.thread in
          ap (λ (l : Links). l.next) (links_read all_links nodes q n n.all _ g refl (thread_cut_at (links_at all_links nodes) all id_cut.0 q id_cut.1 t).1)
          ∙ sym (after_cut (core_at nodes) ps q id_cut.0 id_cut.1 id_cut.2 id_cut.3 (there_right (core_at nodes) id_cut.0 (q ∷ id_cut.1) (subst (There (core_at nodes)) id_cut.3.places there)).1)

      pub after_in_key_read : n.of_key.next ≡ key_after (nat_eq q) (pairs_of_key n.key (id_rows (core_at nodes) ps))
      after_in_key_read =
          let us = id_cut.0 in
          let vs = id_cut.1 in
          let here : key_at nodes q ≡ Some n.key = ap (option_map key) g in
          let fs = of_key (key_at nodes) n.key us in
          let bs = of_key (key_at nodes) n.key vs in
          let whole = group_cut (key_at nodes) (links_at key_links nodes) find us q vs n.key here cut_pairs.groups in
          let all_there = subst (There (core_at nodes)) id_cut.3.places there in
          let there_us = there_filter (core_at nodes) (λ p. has n.key (key_at nodes p)) us (there_left (core_at nodes) us (q ∷ vs) all_there) in
          let there_vs = there_filter (core_at nodes) (λ p. has n.key (key_at nodes p)) vs (there_right (core_at nodes) us (q ∷ vs) all_there).1 in
          let c : IsIdCut (core_at nodes) (fs ++ q ∷ bs) q fs bs id_cut.2 = record { places = refl; here = id_cut.3.here; before = none_avoids (core_at nodes) q fs there_us (avoids_cut (Some q) fs bs (apart_without fs q bs whole.thread.apart).1).0 } in
          let equal : of_key (key_at nodes) n.key ps ≡ fs ++ q ∷ bs = ap (of_key (key_at nodes) n.key) id_cut.3.places ∙ cut_own n.key us vs here in
          ap (λ (l : Links). l.next) (links_read key_links nodes q n n.of_key _ g refl (thread_cut_at (links_at key_links nodes) (group_or_none (find n.key)).ends fs q bs whole.thread).1)
          ∙ sym (ap (key_after (nat_eq q)) (key_rows n.key ∙ ap (id_rows (core_at nodes)) equal) ∙ after_cut (core_at nodes) (fs ++ q ∷ bs) q fs bs id_cut.2 c there_vs)
        where
          cut_own : (k : Elem) (us vs : List ℕ) → key_at nodes q ≡ Some k → of_key (key_at nodes) k (us ++ q ∷ vs) ≡ of_key (key_at nodes) k us ++ q ∷ of_key (key_at nodes) k vs
          cut_own k us vs here = own_cut (key_at nodes) us q vs k here

    -- the key of a row has a group
    pub group_read : (k : Elem) → key_at nodes q ≡ Some k → IsSome (find k) × (suc 0 ≤ (group_or_none (find k)).count)
    group_read k here =
        let x = group_there (links_at key_links nodes) (find k) (of_key (key_at nodes) k id_cut.0) q (of_key (key_at nodes) k id_cut.1) (group_cut (key_at nodes) (links_at key_links nodes) find id_cut.0 q id_cut.1 k here cut_pairs.groups) in
        (x.0, omega arith)

pub refound : (nodes : Slab PairNode) (all : Ends) (find found : Elem → Option Group) (ps : List ℕ) → ((k : Elem) → found k ≡ find k) → ArePairs nodes all find ps → ArePairs nodes all found ps
refound nodes all find found ps e h = record { thread = h.thread; groups = grouped_same (key_at nodes) (key_at nodes) (links_at key_links nodes) (links_at key_links nodes) find found ps (λ p. refl) (λ p. refl) e h.groups; count = h.count }

-- room made
module _ (n₀ n₁ : Slab PairNode) (all : Ends) (find : Elem → Option Group) (ps : List ℕ) (resized : n₁ ≡ record n₀ { capacity = n₁.capacity }) where
  with_capacity : (c : ℕ) → ArePairs n₀ all find ps → ArePairs (record n₀ { capacity = c }) all find ps
  with_capacity c h = record { thread = h.thread; groups = h.groups; count = h.count }

  pub roomier : ArePairs n₀ all find ps → ArePairs n₁ all find ps
  roomier h = subst (λ s. ArePairs s all find ps) (sym resized) (with_capacity n₁.capacity h)

  pub roomier_rows : id_rows (core_at n₁) ps ≡ id_rows (core_at n₀) ps
  roomier_rows = ap (λ s. id_rows (core_at s) ps) resized

-- where a new pair goes
pub put_before_at : (q : ℕ) (r : Row) (us : List Row) (c : Elem × Elem) (vs : List Row) → NonePasses (nat_eq q) us → put_before (Some q) r (us ++ (q, c) ∷ vs) ≡ us ++ r ∷ (q, c) ∷ vs
put_before_at q r [] c vs n = ap (λ b. cond b (r ∷ (q, c) ∷ vs) ((q, c) ∷ put_before (Some q) r vs)) ((Decides-eqb q q).1 refl)
put_before_at q r (u ∷ us) c vs n = ap (λ b. cond b (r ∷ u ∷ (us ++ (q, c) ∷ vs)) (u ∷ put_before (Some q) r (us ++ (q, c) ∷ vs))) n.0 ∙ ap (λ l. u ∷ l) (put_before_at q r us c vs n.1)

pub rows_from_at : (q : ℕ) (us : List Row) (c : Elem × Elem) (vs : List Row) → NonePasses (nat_eq q) us → rows_from (Some q) (us ++ (q, c) ∷ vs) ≡ (q, c) ∷ vs
rows_from_at q [] c vs n = ap (λ b. cond b ((q, c) ∷ vs) (rows_from (Some q) vs)) ((Decides-eqb q q).1 refl)
rows_from_at q (u ∷ us) c vs n = ap (λ b. cond b (u ∷ (us ++ (q, c) ∷ vs)) (rows_from (Some q) (us ++ (q, c) ∷ vs))) n.0 ∙ rows_from_at q us c vs n.1

module _ (nodes : Slab PairNode) (all : Ends) (find : Elem → Option Group) (ps : List ℕ) (h : ArePairs nodes all find ps) where
  pub absent_read : (q : ℕ) → get nodes q ≡ None → lookup (nat_eq q) (id_rows (core_at nodes) ps) ≡ None
  absent_read q e = lookup-none (nat_eq q) (id_rows (core_at nodes) ps) (none_avoids (core_at nodes) q ps (there nodes all find ps h) (fresh all_links core nodes q None ps None e h.thread.links))

  -- the places are cut where the new pair goes
  pub record IsSpot (k : Elem) (next next_in_key : Option ℕ) (us vs : List ℕ) : Type 0 where
    pub places : ps ≡ us ++ vs
    pub start : next ≡ head_or None vs
    pub in_key : next_in_key ≡ head_or None (of_key (key_at nodes) k vs)
    pub rows : (r : Row) → put_before next r (id_rows (core_at nodes) ps) ≡ id_rows (core_at nodes) us ++ r ∷ id_rows (core_at nodes) vs

  key_from : (k : Elem) (vs : List ℕ) → There (core_at nodes) vs → first_key (pairs_of_key k (id_rows (core_at nodes) vs)) ≡ head_or None (of_key (key_at nodes) k vs)
  key_from k vs t =
      ap first_key (filter_ids (core_at nodes) (λ p. has k (key_at nodes p)) (λ (c : Elem × Elem). same k c.0) (λ p c e. key_of_core k (get nodes p) c e) vs t)
      ∙ first_id (core_at nodes) (of_key (key_at nodes) k vs) (there_filter (core_at nodes) (λ p. has k (key_at nodes p)) vs t)

  pub spot : (k : Elem) (next next_in_key : Option ℕ) → ((q : ℕ) → next ≡ Some q → IsSome (lookup (nat_eq q) (id_rows (core_at nodes) ps))) → next_in_key ≡ first_key (pairs_of_key k (rows_from next (id_rows (core_at nodes) ps)))
      → (us : List ℕ) × (vs : List ℕ) × IsSpot k next next_in_key us vs
  spot k None next_in_key f e = (ps, [], record { places = sym (append-nil ps); start = refl; in_key = e; rows = λ r. refl })
  spot k (Some q) next_in_key f e =
      let s = f q refl in
      let d = id_cut nodes all find ps h q s in
      let c = d.3 in
      let cut = rows_cut (core_at nodes) ps q d.0 d.1 d.2 c in
      let tail : id_rows (core_at nodes) (q ∷ d.1) ≡ (q, d.2) ∷ id_rows (core_at nodes) d.1 = ids-cons (core_at nodes) q d.1 d.2 c.here in
      let from : rows_from (Some q) (id_rows (core_at nodes) ps) ≡ id_rows (core_at nodes) (q ∷ d.1) = ap (rows_from (Some q)) cut ∙ rows_from_at q (id_rows (core_at nodes) d.0) d.2 (id_rows (core_at nodes) d.1) c.before ∙ sym tail in
      let there_vs = there_right (core_at nodes) d.0 (q ∷ d.1) (subst (There (core_at nodes)) c.places (there nodes all find ps h)) in (
        d.0,
        q ∷ d.1,
        record {
          places = c.places;
          start = refl;
          in_key = e ∙ ap (λ rs. first_key (pairs_of_key k rs)) from ∙ key_from k (q ∷ d.1) there_vs;
          rows = λ r. ap (put_before (Some q) r) cut ∙ put_before_at q r (id_rows (core_at nodes) d.0) d.2 (id_rows (core_at nodes) d.1) c.before ∙ ap (λ l. id_rows (core_at nodes) d.0 ++ r ∷ l) (sym tail);
        },
      )

pub key_same : (a b k v : Elem) → ◌≡◌ {A = Option (Elem × Elem)} (Some (a, b)) (Some (k, v)) → a ≡ k
key_same a b k v e = let p : ◌≡◌ {A = Elem × Elem} (a, b) (k, v) = cc in ap (λ (x : Elem × Elem). x.0) p

pub value_same : (a b k v : Elem) → ◌≡◌ {A = Option (Elem × Elem)} (Some (a, b)) (Some (k, v)) → b ≡ v
value_same a b k v e = let p : ◌≡◌ {A = Elem × Elem} (a, b) (k, v) = cc in ap (λ (x : Elem × Elem). x.1) p

-- places that are apart are distinct ids
apart_distinct : (ps : List ℕ) → Apart ps → IsDistinct nat_eq ps
unfolding IsDistinct
apart_distinct [] a = tt
apart_distinct (p ∷ ps) a = (none p ps a.0, apart_distinct ps a.1)
  where
    differs : (p q : ℕ) → Some p ≢ Some q → (b : Bool) → nat_eq p q ≡ b → b ≡ false
    differs p q d true t = absurd (d (ap Some ((Decides-eqb p q).0 t)))
    differs p q d false t = refl

    none : (p : ℕ) (qs : List ℕ) → Avoids (Some p) qs → AllByRecursion (λ y. nat_eq p y ≡ false) qs
    none p [] h = tt
    none p (q ∷ qs) h = (differs p q h.0 (nat_eq p q) refl, none p qs h.1)

ids_are : (core : ℕ → Option (Elem × Elem)) (ps : List ℕ) → There core ps → keys_of (id_rows core ps) ≡ ps
ids_are core [] h = refl
ids_are core (p ∷ ps) h = let c = some_of (core p) h.0 in ap keys_of (ids-cons core p ps c.0 c.1) ∙ ap (λ l. p ∷ l) (ids_are core ps h.1)

pub distinct_read : (nodes : Slab PairNode) (all : Ends) (find : Elem → Option Group) (ps : List ℕ) → ArePairs nodes all find ps → IsDistinct nat_eq (keys_of (id_rows (core_at nodes) ps))
distinct_read nodes all find ps h = subst (IsDistinct nat_eq) (sym (ids_are (core_at nodes) ps (there nodes all find ps h))) (apart_distinct ps h.thread.apart)

-- a value written
module _ (n₀ n₁ : Slab PairNode) (all : Ends) (find : Elem → Option Group) (ps : List ℕ) (h : ArePairs n₀ all find ps) (q : ℕ) (v : Elem) (w : Rewrites (λ (n : PairNode). record n { value = v }) (Some q) n₀ n₁) where
  unwritten : {X : Type 0} (read : PairNode → X) → ((n : PairNode) → read (record n { value = v }) ≡ read n) → (p : ℕ) → option_map read (get n₁ p) ≡ option_map read (get n₀ p)
  unwritten read reads p = elim (cases_eq q p) [
    | inl equal ↦ ap (option_map read) (w.changed p (ap Some equal)) ∙ twice (get n₀ p)
    | inr differs ↦ ap (option_map read) (w.others p (λ e. differs (cc)))
  ]
    where
      twice : (x : Option PairNode) → option_map read (option_map (λ (n : PairNode). record n { value = v }) x) ≡ option_map read x
      twice None = refl
      twice (Some n) = ap Some (reads n)

  pub written : slab_len n₁ ≡ slab_len n₀ → ArePairs n₁ all find ps
  written len = record {
    thread = thread_same (links_at all_links n₀) (links_at all_links n₁) all ps (same_everywhere (links_at all_links n₀) (links_at all_links n₁) (unwritten all_links (λ n. refl)) ps) h.thread;
    groups = grouped_same (key_at n₀) (key_at n₁) (links_at key_links n₀) (links_at key_links n₁) find find ps (unwritten key (λ n. refl)) (unwritten key_links (λ n. refl)) (λ k. refl) h.groups;
    count = len ∙ h.count;
  }

  pub written_rows : (us vs : List ℕ) (c : Elem × Elem) → IsIdCut (core_at n₀) ps q us vs c → id_rows (core_at n₁) ps ≡ set_value (nat_eq q) (id_rows (core_at n₀) ps) (c.0, v)
  written_rows us vs c d =
      let beside = (apart_without us q vs (subst (λ l. Apart l) d.places h.thread.apart)).1 in
      let cut = avoids_cut (Some q) us vs beside in
      let kept = λ (p : ℕ) (e : p ≢ q). ap (option_map core) (w.others p (λ f. e (cc))) in
      let fs = id_rows (core_at n₀) us in
      let bs = id_rows (core_at n₀) vs in
      ap (id_rows (core_at n₁)) d.places ∙ ids_at (core_at n₁) us q vs (c.0, v) (ap (option_map core) (w.changed q refl) ∙ here (get n₀ q) d.here)
      ∙ (λ i. ids_beside (core_at n₀) (core_at n₁) q us kept cut.0 i ++ (q, (c.0, v)) ∷ ids_beside (core_at n₀) (core_at n₁) q vs kept cut.1 i)
      ∙ sym (ap (λ rs. set_value (nat_eq q) rs (c.0, v)) (rows_cut (core_at n₀) ps q us vs c d) ∙ set_value_at (nat_eq q) fs (q, c) bs (c.0, v) d.before ((Decides-eqb q q).1 refl))
    where
      here : (x : Option PairNode) → option_map core x ≡ Some c → option_map core (option_map (λ (n : PairNode). record n { value = v }) x) ≡ Some (c.0, v)
      here None e = absurd (cc)
      here (Some n) e = let both : core n ≡ c = cc in ap (λ (d : Elem × Elem). Some (d.0, v)) both
