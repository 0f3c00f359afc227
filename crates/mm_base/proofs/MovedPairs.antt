-- A pair taken out of its threads and put in again, last.
use Rattle.std.proofs.Common.{◌≡◌, ℕ, Bool, true, false, cond, List, [], ◌∷◌, ◌++◌, Option, Some, refl, sym, ap, ◌∙◌, subst, arith, length-append, append-nil}
use Rattle.std.specs.Prelude.{IsSome, nat_eq}
use Rattle.std.specs.Option.{option_map}
use Rattle.std.specs.Map.{lookup, remove_entry}
use Rattle.std.proofs.lemmas.List.Elements.{filter-append}
use Rattle.slab.specs.Slab.{Slab, get, slab_len}
use Rattle.elem.specs.declared.elements.Elem.{Elem}
use Rattle.elem.specs.Elements.{same}
use Rattle.linked_base.specs.declared.links.Links.{Links}
use Rattle.linked_base.specs.declared.links.Ends.{Ends}
use Rattle.linked_base.specs.declared.group.Group.{Group}
use Rattle.linked_base.specs.Thread.{Avoids, IsThread, links_at, KeepsRest}
use Rattle.linked_base.specs.Group.{group_or_none, some_used, IsGroup, has, of_key, AreGrouped}
use Rattle.linked_base.specs.Places.{id_rows}
use Rattle.linked_base.proofs.ThreadLemmas.{apart_without}
use Rattle.linked_base.proofs.GroupLemmas.{thread_same, same_everywhere, group_same, joined, leave_finish, kept}
use Rattle.linked_base.proofs.IdLemmas.{ids-append, ids-cons, removed_cut}
use Rattle.mm_base.specs.declared.pair_nodes.PairNode.{PairNode}
use Rattle.mm_base.specs.PairNodes.{all_links, key_links, key, core, key_at, core_at, with_group, ArePairs}
use Rattle.mm_base.specs.PairRows.{Row}
use Rattle.mm_base.proofs.PairsSteps.{with_all, with_key, group₁}
use Rattle.mm_base.proofs.PairsReads.{id_cut, cut_pairs}
use Rattle.mm_base.proofs.HeldPairs.{HoldsPairs}

-- n₀ before, n₁ out of the thread of all, n₂ out of its key's thread, n₃ last of all, n₄ last of its key
module _ (n₀ n₁ n₂ n₃ n₄ : Slab PairNode) (rest₁ : (p : ℕ) → KeepsRest with_all (get n₀ p) (get n₁ p)) (rest₂ : (p : ℕ) → KeepsRest with_key (get n₁ p) (get n₂ p)) (rest₃ : (p : ℕ) → KeepsRest with_all (get n₂ p) (get n₃ p)) (rest₄ : (p : ℕ) → KeepsRest with_key (get n₃ p) (get n₄ p)) where
  all_kept : {X : Type 0} (read : PairNode → X) → ((n : PairNode) (l : Links) → read (with_all n l) ≡ read n) → ((n : PairNode) (l : Links) → read (with_key n l) ≡ read n) → (p : ℕ) → option_map read (get n₄ p) ≡ option_map read (get n₀ p)
  all_kept read a b p = kept with_key read b (get n₃ p) (get n₄ p) (rest₄ p) ∙ kept with_all read a (get n₂ p) (get n₃ p) (rest₃ p) ∙ kept with_key read b (get n₁ p) (get n₂ p) (rest₂ p) ∙ kept with_all read a (get n₀ p) (get n₁ p) (rest₁ p)

  pub same_ids : (ps : List ℕ) → id_rows (core_at n₄) ps ≡ id_rows (core_at n₀) ps
  same_ids ps = ap (λ f. id_rows f ps) (λ i p. all_kept core (λ n l. refl) (λ n l. refl) p i)

  module _ (e₀ e₁ e₃ : Ends) (g₀ g₂ g₄ : Group) (find : Elem → Option Group) (us : List ℕ) (q : ℕ) (vs : List ℕ) (k : Elem) (h : ArePairs n₀ e₀ find (us ++ q ∷ vs)) (here : key_at n₀ q ≡ Some k) (own : g₀ ≡ group_or_none (find k)) where
    pub moved_beside : Avoids (Some q) (us ++ vs)
    moved_beside = (apart_without us q vs h.thread.apart).1

    keys₁ : (p : ℕ) → links_at key_links n₁ p ≡ links_at key_links n₀ p
    keys₁ p = kept with_all key_links (λ n l. refl) (get n₀ p) (get n₁ p) (rest₁ p)

    pub leaving : IsGroup (links_at key_links n₁) g₀ (of_key (key_at n₀) k us ++ q ∷ of_key (key_at n₀) k vs)
    leaving = group₁ n₀ n₁ n₁ n₁ e₀ e₁ g₀ g₀ find us q vs h rest₁ k here own

    pub thread₂ : IsThread (links_at all_links n₁) e₁ (us ++ vs) → IsThread (links_at all_links n₂) e₁ ((us ++ vs) ++ [])
    thread₂ t =
        subst (IsThread (links_at all_links n₂) e₁) (sym (append-nil (us ++ vs)))
        (thread_same (links_at all_links n₁) (links_at all_links n₂) e₁ (us ++ vs) (same_everywhere (links_at all_links n₁) (links_at all_links n₂) (λ p. kept with_key all_links (λ n l. refl) (get n₁ p) (get n₂ p) (rest₂ p)) (us ++ vs)) t)

    pub away : Avoids (Some q) ((us ++ vs) ++ [])
    away = subst (Avoids (Some q)) (sym (append-nil (us ++ vs))) moved_beside

    module _ (others₂ : (p : ℕ) → Avoids (Some p) (of_key (key_at n₀) k us ++ of_key (key_at n₀) k vs) → get n₂ p ≡ get n₁ p) (shrunk : IsGroup (links_at key_links n₂) g₂ (of_key (key_at n₀) k us ++ of_key (key_at n₀) k vs)) where
      left_groups : AreGrouped (key_at n₀) (links_at key_links n₂) (with_group k g₂ find) (us ++ vs)
      left_groups =
          leave_finish (key_at n₀) (key_at n₀) (links_at key_links n₀) (links_at key_links n₁) (links_at key_links n₂) (links_at key_links n₂) find (with_group k g₂ find) us q vs k g₀ g₂ moved_beside own (λ p d. refl) here (λ x. refl) keys₁
          (λ p a. ap (option_map key_links) (others₂ p a)) shrunk (λ p d. refl) h.groups

      keys₃ : (p : ℕ) → links_at key_links n₃ p ≡ links_at key_links n₂ p
      keys₃ p = kept with_all key_links (λ n l. refl) (get n₂ p) (get n₃ p) (rest₃ p)

      pub joining : IsGroup (links_at key_links n₃) g₂ (of_key (key_at n₀) k (us ++ vs) ++ [])
      joining =
          subst (IsGroup (links_at key_links n₃) g₂) (sym (append-nil (of_key (key_at n₀) k (us ++ vs)) ∙ filter-append (λ p. has k (key_at n₀ p)) us vs))
          (group_same (links_at key_links n₂) (links_at key_links n₃) g₂ (of_key (key_at n₀) k us ++ of_key (key_at n₀) k vs) (same_everywhere (links_at key_links n₂) (links_at key_links n₃) keys₃ (of_key (key_at n₀) k us ++ of_key (key_at n₀) k vs)) shrunk)

      twice : (x : Elem) (b : Bool) → cond b (some_used g₄) (find x) ≡ cond b (some_used g₄) (cond b (some_used g₂) (find x))
      twice x true = refl
      twice x false = refl

      pub moved_pairs : ((p : ℕ) → Avoids (Some p) (of_key (key_at n₀) k (us ++ vs) ++ q ∷ []) → get n₄ p ≡ get n₃ p) → IsGroup (links_at key_links n₄) g₄ (of_key (key_at n₀) k (us ++ vs) ++ q ∷ []) → IsThread (links_at all_links n₃) e₃ ((us ++ vs) ++ q ∷ [])
          → slab_len n₄ ≡ slab_len n₀ → ArePairs n₄ e₃ (with_group k g₄ find) ((us ++ vs) ++ q ∷ [])
      moved_pairs others₄ grown t len = record {
        thread = thread_same (links_at all_links n₃) (links_at all_links n₄) e₃ ((us ++ vs) ++ q ∷ []) (same_everywhere (links_at all_links n₃) (links_at all_links n₄) (λ p. kept with_key all_links (λ n l. refl) (get n₃ p) (get n₄ p) (rest₄ p)) ((us ++ vs) ++ q ∷ [])) t;
        groups =
            joined (key_at n₀) (key_at n₄) (links_at key_links n₂) (links_at key_links n₄) (with_group k g₂ find) (with_group k g₄ find) (us ++ vs) q [] k g₄ away (λ p d. all_kept key (λ n l. refl) (λ n l. refl) p) (λ x. twice x (same k x)) (all_kept key (λ n l. refl) (λ n l. refl) q ∙ here)
            (λ p a. ap (option_map key_links) (others₄ p a) ∙ keys₃ p) grown (subst (AreGrouped (key_at n₀) (links_at key_links n₂) (with_group k g₂ find)) (sym (append-nil (us ++ vs))) left_groups);
        count = let total = h.count in omega (arith, length-append us (q ∷ vs), length-append us vs, length-append (us ++ vs) (q ∷ []));
      }

-- what the fields hold then
module _ {nodes : Slab PairNode} {all : Ends} (find : Elem → Option Group) {rows : List Row} (h : HoldsPairs nodes all find rows) (q : ℕ) (s : IsSome (lookup (nat_eq q) rows)) (n : PairNode) (g : get nodes q ≡ Some n) where
  live : IsSome (lookup (nat_eq q) (id_rows (core_at nodes) h.at_places))
  live = subst (λ rs. IsSome (lookup (nat_eq q) rs)) (sym h.rows_equal) s

  pub moved_held : (n₁ : Slab PairNode) (e₁ : Ends) (g₀ g₁ : Group) → g₀ ≡ group_or_none (find n.key)
      → ((us vs : List ℕ) (f : Elem → Option Group) (k : Elem) → key_at nodes q ≡ Some k → g₀ ≡ group_or_none (f k) → ArePairs nodes all f (us ++ q ∷ vs) → ArePairs n₁ e₁ (with_group k g₁ f) ((us ++ vs) ++ q ∷ []))
      → ((ps : List ℕ) → id_rows (core_at n₁) ps ≡ id_rows (core_at nodes) ps)
      → HoldsPairs n₁ e₁ (with_group n.key g₁ find) (remove_entry (nat_eq q) rows ++ (q, (n.key, n.value)) ∷ [])
  moved_held n₁ e₁ g₀ g₁ e pairs same_rows =
      let d = id_cut nodes all find h.at_places h.are_pairs q live in
      let cut = cut_pairs nodes all find h.at_places h.are_pairs q live in
      let others = removed_cut (core_at nodes) h.at_places q d.0 d.1 d.2 d.3 in
      let own = ap (option_map core) g in
      record {
        at_places = (d.0 ++ d.1) ++ q ∷ [];
        are_pairs = pairs d.0 d.1 find n.key (ap (option_map key) g) e cut;
        rows_equal =
            same_rows ((d.0 ++ d.1) ++ q ∷ []) ∙ ids-append (core_at nodes) (d.0 ++ d.1) (q ∷ [])
            ∙ (λ i. (ids-append (core_at nodes) d.0 d.1 ∙ sym others ∙ ap (remove_entry (nat_eq q)) h.rows_equal) i ++ ids-cons (core_at nodes) q [] (n.key, n.value) own i);
      }
