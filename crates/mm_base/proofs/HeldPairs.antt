-- What the fields of linked pairs hold, and what each step makes of it.
use Rattle.std.proofs.Common.{◌≡◌, ℕ, suc, ◌≤◌, List, ◌∷◌, ◌++◌, length, Option, Some, None, sym, ap, ◌∙◌, subst, slice_get}
use Rattle.std.specs.Prelude.{IsSome, nat_eq}
use Rattle.std.specs.Option.{option_map}
use Rattle.std.specs.List.{filter, IsDistinct}
use Rattle.std.specs.Map.{lookup, remove_entry, set_value, keys_of}
use Rattle.slab.specs.Slab.{Slab, get, slab_len}
use Rattle.elem.specs.declared.elements.Elem.{Elem}
use Rattle.elem.specs.Rows.{first_key, last_key, key_after}
use Rattle.linked_base.specs.declared.links.Ends.{Ends}
use Rattle.linked_base.specs.declared.group.Group.{Group}
use Rattle.linked_base.specs.Thread.{head_or, IsThread, links_at, Rewrites}
use Rattle.linked_base.specs.Group.{group_or_none, IsGroup, has, of_key}
use Rattle.linked_base.specs.Places.{id_rows}
use Rattle.linked_base.proofs.IdLemmas.{removed_cut}
use Rattle.mm_base.specs.declared.pair_nodes.PairNode.{PairNode}
use Rattle.mm_base.specs.PairNodes.{key_links, key, key_at, value_at, core_at, with_group, ArePairs, places, pairs_now}
use Rattle.mm_base.specs.PairRows.{Row, pairs_of_key, rows_of_pair, put_before, rows_from}
use Rattle.elem.specs.Elements.{same}
use Rattle.mm_base.proofs.PairRowsLemmas.{first_live, live_filter, from_live}
use Rattle.mm_base.proofs.PairsReads.{last_read, found_read, core_read, written, written_rows, pairs_are, kept_by_walk, len_read, first_read, count_read, count_below, nth_read, id_cut, node_read, cut_pairs, value_read, after_read, after_in_key_read, group_read, refound, roomier, roomier_rows, absent_read, spot, key_same, distinct_read}

-- the fields hold these rows, at some places
pub record HoldsPairs (nodes : Slab PairNode) (all : Ends) (find : Elem → Option Group) (rows : List Row) : Type 0 where
  pub at_places : List ℕ
  pub are_pairs : ArePairs nodes all find at_places
  pub rows_equal : id_rows (core_at nodes) at_places ≡ rows

module _ {nodes : Slab PairNode} {all : Ends} (find : Elem → Option Group) {rows : List Row} where
  pub held : ArePairs nodes all find (places nodes all) → pairs_now nodes all ≡ rows → HoldsPairs nodes all find rows
  held h e = record { at_places = places nodes all; are_pairs = h; rows_equal = e }

  module _ (h : HoldsPairs nodes all find rows) where
    pub still_holds : (found : Elem → Option Group) → ((k : Elem) → found k ≡ find k) → ArePairs nodes all found (places nodes all)
    still_holds found e = kept_by_walk nodes all find h.at_places h.are_pairs found e

    pub shows : pairs_now nodes all ≡ rows
    shows = pairs_are nodes all find h.at_places h.are_pairs ∙ h.rows_equal

    pub len_held : slab_len nodes ≡ length rows
    len_held = len_read nodes all find h.at_places h.are_pairs ∙ ap length h.rows_equal

    pub distinct_held : IsDistinct nat_eq (keys_of rows)
    distinct_held = subst (λ rs. IsDistinct nat_eq (keys_of rs)) h.rows_equal (distinct_read nodes all find h.at_places h.are_pairs)

    pub first_held : all.first ≡ first_key rows
    first_held = first_read nodes all find h.at_places h.are_pairs ∙ ap first_key h.rows_equal

    pub last_held : all.last ≡ last_key rows
    last_held = last_read nodes all find h.at_places h.are_pairs ∙ ap last_key h.rows_equal

    -- a key's group
    pub count_held : (k : Elem) → (group_or_none (find k)).count ≡ length (pairs_of_key k rows)
    count_held k = count_read nodes all find h.at_places h.are_pairs k ∙ ap (λ rs. length (pairs_of_key k rs)) h.rows_equal

    pub count_fits : (k : Elem) → (group_or_none (find k)).count ≤ slab_len nodes
    count_fits k = count_below nodes all find h.at_places h.are_pairs k

    pub group_thread : (k : Elem) (g : Group) → g ≡ group_or_none (find k) → IsThread (links_at key_links nodes) g.ends (of_key (key_at nodes) k h.at_places)
    group_thread k g e = subst (λ (x : Group). IsThread (links_at key_links nodes) x.ends (of_key (key_at nodes) k h.at_places)) (sym e) (h.are_pairs.groups.group k).thread

    pub nth_held : (k : Elem) (i : ℕ) → slice_get (of_key (key_at nodes) k h.at_places) i ≡ option_map (λ (r : Row). r.0) (slice_get (pairs_of_key k rows) i)
    nth_held k i = nth_read nodes all find h.at_places h.are_pairs k i ∙ ap (λ rs. option_map (λ (r : Row). r.0) (slice_get (pairs_of_key k rs) i)) h.rows_equal

    pub group_of_key : (k : Elem) (g : Group) → g ≡ group_or_none (find k) → IsGroup (links_at key_links nodes) g (of_key (key_at nodes) k h.at_places)
    group_of_key k g e = subst (λ x. IsGroup (links_at key_links nodes) x (of_key (key_at nodes) k h.at_places)) (sym e) (h.are_pairs.groups.group k)

    pub found_held : (k v : Elem) → head_or None (filter (λ p. has v (value_at nodes p)) (of_key (key_at nodes) k h.at_places)) ≡ first_key (rows_of_pair k v rows)
    found_held k v = found_read nodes all find h.at_places h.are_pairs k v ∙ ap (λ rs. first_key (rows_of_pair k v rs)) h.rows_equal

    -- an id that names no row
    pub new_held : (q : ℕ) → get nodes q ≡ None → lookup (nat_eq q) rows ≡ None
    new_held q e = ap (lookup (nat_eq q)) (sym h.rows_equal) ∙ absent_read nodes all find h.at_places h.are_pairs q e

    -- an id that names a row
    module _ (q : ℕ) (s : IsSome (lookup (nat_eq q) rows)) where
      live : IsSome (lookup (nat_eq q) (id_rows (core_at nodes) h.at_places))
      live = subst (λ rs. IsSome (lookup (nat_eq q) rs)) (sym h.rows_equal) s

      pub node_held : IsSome (get nodes q)
      node_held = node_read nodes all find h.at_places h.are_pairs q live

      module _ (n : PairNode) (g : get nodes q ≡ Some n) where
        pub value_held : lookup (nat_eq q) rows ≡ Some (n.key, n.value)
        value_held = ap (lookup (nat_eq q)) (sym h.rows_equal) ∙ value_read nodes all find h.at_places h.are_pairs q live n g

        pub after_held : n.all.next ≡ key_after (nat_eq q) rows
        after_held = after_read nodes all find h.at_places h.are_pairs q live n g ∙ ap (key_after (nat_eq q)) h.rows_equal

        pub after_in_key_held : (k v : Elem) → lookup (nat_eq q) rows ≡ Some (k, v) → n.of_key.next ≡ key_after (nat_eq q) (pairs_of_key k rows)
        after_in_key_held k v e =
            let equal = key_same n.key n.value k v (sym value_held ∙ e) in
            after_in_key_read nodes all find h.at_places h.are_pairs q live n g ∙ (λ i. key_after (nat_eq q) (pairs_of_key (equal i) (h.rows_equal i)))

        -- its value written
        pub written_held : (n₁ : Slab PairNode) (v : Elem) → Rewrites (λ (m : PairNode). record m { value = v }) (Some q) nodes n₁ → slab_len n₁ ≡ slab_len nodes → HoldsPairs n₁ all find (set_value (nat_eq q) rows (n.key, v))
        written_held n₁ v w len =
            let d = id_cut nodes all find h.at_places h.are_pairs q live in
            record {
              at_places = h.at_places;
              are_pairs = written nodes n₁ all find h.at_places h.are_pairs q v w len;
              rows_equal =
                  written_rows nodes n₁ all find h.at_places h.are_pairs q v w d.0 d.1 d.2 d.3
                  ∙ (λ i. set_value (nat_eq q) (h.rows_equal i) ((core_read nodes all find h.at_places h.are_pairs q live n g i).0, v));
            }

        own : key_at nodes q ≡ Some n.key
        own = ap (option_map key) g

        pub group_held : IsSome (find n.key) × (suc 0 ≤ (group_or_none (find n.key)).count)
        group_held = group_read nodes all find h.at_places h.are_pairs q live n.key own

        -- the pair taken out, where its step does what it says for each list of places
        pub unlinked_held : (n₁ : Slab PairNode) (e₁ : Ends) (g₀ g₁ : Group) → g₀ ≡ group_or_none (find n.key)
            → ((us vs : List ℕ) (f : Elem → Option Group) (k : Elem) → key_at nodes q ≡ Some k → g₀ ≡ group_or_none (f k) → ArePairs nodes all f (us ++ q ∷ vs) → ArePairs n₁ e₁ (with_group k g₁ f) (us ++ vs))
            → ((us vs : List ℕ) (f : Elem → Option Group) → ArePairs nodes all f (us ++ q ∷ vs) → id_rows (core_at n₁) (us ++ vs) ≡ id_rows (core_at nodes) us ++ id_rows (core_at nodes) vs)
            → HoldsPairs n₁ e₁ (with_group n.key g₁ find) (remove_entry (nat_eq q) rows)
        unlinked_held n₁ e₁ g₀ g₁ e pairs same_rows =
            let d = id_cut nodes all find h.at_places h.are_pairs q live in
            let cut = cut_pairs nodes all find h.at_places h.are_pairs q live in
            record {
              at_places = d.0 ++ d.1;
              are_pairs = pairs d.0 d.1 find n.key own e cut;
              rows_equal = same_rows d.0 d.1 find cut ∙ sym (removed_cut (core_at nodes) h.at_places q d.0 d.1 d.2 d.3) ∙ ap (remove_entry (nat_eq q)) h.rows_equal;
            }

    -- a pair put in, where its step does what it says for each list of places
    pub linked_held : (n₁ : Slab PairNode) (e₁ : Ends) (g₀ g₁ : Group) (k v : Elem) (next next_in_key : Option ℕ) (q : ℕ) → g₀ ≡ group_or_none (find k)
        → ((p : ℕ) → next ≡ Some p → IsSome (lookup (nat_eq p) rows)) → next_in_key ≡ first_key (pairs_of_key k (rows_from next rows))
        → ((us vs : List ℕ) (f : Elem → Option Group) → next ≡ head_or None vs → next_in_key ≡ head_or None (of_key (key_at nodes) k vs) → g₀ ≡ group_or_none (f k) → ArePairs nodes all f (us ++ vs) → ArePairs n₁ e₁ (with_group k g₁ f) (us ++ q ∷ vs))
        → ((us vs : List ℕ) (f : Elem → Option Group) → ArePairs nodes all f (us ++ vs) → id_rows (core_at n₁) (us ++ q ∷ vs) ≡ id_rows (core_at nodes) us ++ (q, (k, v)) ∷ id_rows (core_at nodes) vs)
        → HoldsPairs n₁ e₁ (with_group k g₁ find) (put_before next (q, (k, v)) rows)
    linked_held n₁ e₁ g₀ g₁ k v next next_in_key q e live in_key pairs same_rows =
        let there = λ (p : ℕ) (f : next ≡ Some p). subst (λ rs. IsSome (lookup (nat_eq p) rs)) (sym h.rows_equal) (live p f) in
        let d = spot nodes all find h.at_places h.are_pairs k next next_in_key there (in_key ∙ ap (λ rs. first_key (pairs_of_key k (rows_from next rs))) (sym h.rows_equal)) in
        let cut = subst (ArePairs nodes all find) d.2.places h.are_pairs in
        record {
          at_places = d.0 ++ q ∷ d.1;
          are_pairs = pairs d.0 d.1 find d.2.start d.2.in_key e cut;
          rows_equal = same_rows d.0 d.1 find cut ∙ sym (d.2.rows (q, (k, v))) ∙ ap (put_before next (q, (k, v))) h.rows_equal;
        }

    -- the node before which it goes in its key
    pub in_key_held : (k : Elem) (next next_in_key : Option ℕ) → ((p : ℕ) → next ≡ Some p → IsSome (lookup (nat_eq p) rows)) → next_in_key ≡ first_key (pairs_of_key k (rows_from next rows)) → (q : ℕ) → next_in_key ≡ Some q → IsSome (get nodes q)
    in_key_held k next next_in_key _ in_key q e = node_held q (from_live next rows q (live_filter (λ (r : Row). same k r.1.0) (rows_from next rows) q (first_live (pairs_of_key k (rows_from next rows)) q (sym in_key ∙ e))))

-- room made, and groups found as before
pub roomier_held : (n₀ n₁ : Slab PairNode) {all : Ends} (find found : Elem → Option Group) {rows : List Row} → n₁ ≡ record n₀ { capacity = n₁.capacity } → ((k : Elem) → found k ≡ find k) → HoldsPairs n₀ all find rows → HoldsPairs n₁ all found rows
roomier_held n₀ n₁ {all} find found resized e h = record {
  at_places = h.at_places;
  are_pairs = refound n₁ all find found h.at_places e (roomier n₀ n₁ all find h.at_places resized h.are_pairs);
  rows_equal = roomier_rows n₀ n₁ all find h.at_places resized ∙ h.rows_equal;
}
