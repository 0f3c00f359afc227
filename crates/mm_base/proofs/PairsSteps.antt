-- A pair put into its threads, and one taken out.
use Rattle.std.proofs.Common.{◌≡◌, ◌≢◌, ℕ, ◌+◌, List, ◌∷◌, ◌++◌, Option, Some, None, refl, ap, ◌∙◌, arith, length-append}
use Rattle.std.specs.Option.{option_map}
use Rattle.slab.specs.Slab.{Slab, get, slab_len, Updates}
use Rattle.elem.specs.declared.elements.Elem.{Elem}
use Rattle.linked_base.specs.declared.links.Links.{Links}
use Rattle.linked_base.specs.declared.links.Ends.{Ends}
use Rattle.linked_base.specs.declared.group.Group.{Group}
use Rattle.linked_base.specs.Thread.{Avoids, IsThread, links_at, KeepsRest}
use Rattle.linked_base.specs.Group.{group_or_none, IsGroup, of_key}
use Rattle.linked_base.specs.Places.{id_rows}
use Rattle.linked_base.proofs.ThreadLemmas.{apart_without, avoids_cut}
use Rattle.linked_base.proofs.GroupLemmas.{thread_same, same_beside, same_everywhere, join_start, join_finish, leave_start, leave_finish, kept}
use Rattle.linked_base.proofs.IdLemmas.{fresh, ids_at, ids_beside, ids-append}
use Rattle.mm_base.specs.declared.pair_nodes.PairNode.{PairNode}
use Rattle.mm_base.specs.PairNodes.{all_links, key_links, key, core, key_at, core_at, the_node, with_group, ArePairs}

abbrev pub with_all : PairNode → Links → PairNode
with_all n l = record n { all = l }

abbrev pub with_key : PairNode → Links → PairNode
with_key n l = record n { of_key = l }

-- n₀ before, n₁ with the node, n₂ with the node in the thread of all, n₃ with it in its key's thread
module _ (n₀ n₁ n₂ n₃ : Slab PairNode) (e₀ e₂ : Ends) (g₀ g₃ : Group) (find : Elem → Option Group) (us : List ℕ) (q : ℕ) (vs : List ℕ) (k v : Elem)
    (h : ArePairs n₀ e₀ find (us ++ vs)) (vacant : get n₀ q ≡ None) (updates : Updates n₀ n₁ q (Some (the_node k v))) where
  pub put_beside : Avoids (Some q) (us ++ vs)
  put_beside = fresh all_links key n₀ q None (us ++ vs) None vacant h.thread.links

  pub thread₁ : IsThread (links_at all_links n₁) e₀ (us ++ vs)
  thread₁ = thread_same (links_at all_links n₀) (links_at all_links n₁) e₀ (us ++ vs) (same_beside (links_at all_links n₀) (links_at all_links n₁) q (λ p d. ap (option_map all_links) (updates.others p d)) (us ++ vs) put_beside) h.thread

  module _ (rest₂ : (p : ℕ) → KeepsRest with_all (get n₁ p) (get n₂ p)) where
    keys₂ : (p : ℕ) → p ≢ q → links_at key_links n₂ p ≡ links_at key_links n₀ p
    keys₂ p d = kept with_all key_links (λ n l. refl) (get n₁ p) (get n₂ p) (rest₂ p) ∙ ap (option_map key_links) (updates.others p d)

    pub group₂ : g₀ ≡ group_or_none (find k) → IsGroup (links_at key_links n₂) g₀ (of_key (key_at n₀) k us ++ of_key (key_at n₀) k vs)
    group₂ e = join_start (key_at n₀) (key_at n₀) (links_at key_links n₀) (links_at key_links n₂) (links_at key_links n₂) (links_at key_links n₂) find find us q vs k g₀ g₀ put_beside e keys₂ h.groups

    module _ (rest₃ : (p : ℕ) → KeepsRest with_key (get n₂ p) (get n₃ p)) where
      core₃ : (p : ℕ) → core_at n₃ p ≡ core_at n₁ p
      core₃ p = kept with_key core (λ n l. refl) (get n₂ p) (get n₃ p) (rest₃ p) ∙ kept with_all core (λ n l. refl) (get n₁ p) (get n₂ p) (rest₂ p)

      key₃ : (p : ℕ) → key_at n₃ p ≡ key_at n₁ p
      key₃ p = kept with_key key (λ n l. refl) (get n₂ p) (get n₃ p) (rest₃ p) ∙ kept with_all key (λ n l. refl) (get n₁ p) (get n₂ p) (rest₂ p)

      pub put_pairs : g₀ ≡ group_or_none (find k) → IsThread (links_at all_links n₂) e₂ (us ++ q ∷ vs) → ((p : ℕ) → Avoids (Some p) (of_key (key_at n₀) k us ++ q ∷ of_key (key_at n₀) k vs) → get n₃ p ≡ get n₂ p)
          → IsGroup (links_at key_links n₃) g₃ (of_key (key_at n₀) k us ++ q ∷ of_key (key_at n₀) k vs) → slab_len n₃ ≡ slab_len n₀ + 1 → ArePairs n₃ e₂ (with_group k g₃ find) (us ++ q ∷ vs)
      put_pairs e t others grown len = record {
        thread = thread_same (links_at all_links n₂) (links_at all_links n₃) e₂ (us ++ q ∷ vs) (same_everywhere (links_at all_links n₂) (links_at all_links n₃) (λ p. kept with_key all_links (λ n l. refl) (get n₂ p) (get n₃ p) (rest₃ p)) (us ++ q ∷ vs)) t;
        groups =
            join_finish (key_at n₀) (key_at n₃) (links_at key_links n₀) (links_at key_links n₂) (links_at key_links n₃) (links_at key_links n₃) find (with_group k g₃ find) us q vs k g₀ g₃ put_beside e
            (λ p d. key₃ p ∙ ap (option_map key) (updates.others p d)) (key₃ q ∙ ap (option_map key) updates.changed) (λ x. refl) keys₂ (λ p a. ap (option_map key_links) (others p a)) grown (λ p. refl) h.groups;
        count = let total = h.count in omega (arith, length-append us (q ∷ vs), length-append us vs);
      }

      pub put_rows : id_rows (core_at n₃) (us ++ q ∷ vs) ≡ id_rows (core_at n₀) us ++ (q, (k, v)) ∷ id_rows (core_at n₀) vs
      put_rows =
          let cut = avoids_cut (Some q) us vs put_beside in
          let keep = λ (p : ℕ) (d : p ≢ q). core₃ p ∙ ap (option_map core) (updates.others p d) in
          ids_at (core_at n₃) us q vs (k, v) (core₃ q ∙ ap (option_map core) updates.changed)
          ∙ (λ i. ids_beside (core_at n₀) (core_at n₃) q us keep cut.0 i ++ (q, (k, v)) ∷ ids_beside (core_at n₀) (core_at n₃) q vs keep cut.1 i)

-- n₀ before, n₁ with the node out of the thread of all, n₂ out of its key's thread, n₃ without the node
module _ (n₀ n₁ n₂ n₃ : Slab PairNode) (e₀ e₁ : Ends) (g₀ g₂ : Group) (find : Elem → Option Group) (us : List ℕ) (q : ℕ) (vs : List ℕ)
    (h : ArePairs n₀ e₀ find (us ++ q ∷ vs)) (rest₁ : (p : ℕ) → KeepsRest with_all (get n₀ p) (get n₁ p)) where
  take_beside : Avoids (Some q) (us ++ vs)
  take_beside = (apart_without us q vs h.thread.apart).1

  keys₁ : (p : ℕ) → links_at key_links n₁ p ≡ links_at key_links n₀ p
  keys₁ p = kept with_all key_links (λ n l. refl) (get n₀ p) (get n₁ p) (rest₁ p)

  pub group₁ : (k : Elem) → key_at n₀ q ≡ Some k → g₀ ≡ group_or_none (find k) → IsGroup (links_at key_links n₁) g₀ (of_key (key_at n₀) k us ++ q ∷ of_key (key_at n₀) k vs)
  group₁ k here e = leave_start (key_at n₀) (key_at n₀) (links_at key_links n₀) (links_at key_links n₁) (links_at key_links n₁) (links_at key_links n₁) find find us q vs k g₀ g₀ take_beside e here keys₁ h.groups

  module _ (rest₂ : (p : ℕ) → KeepsRest with_key (get n₁ p) (get n₂ p)) (updates : Updates n₂ n₃ q None) where
    beside₃ : {X : Type 0} (read : PairNode → X) → ((n : PairNode) (l : Links) → read (with_all n l) ≡ read n) → ((n : PairNode) (l : Links) → read (with_key n l) ≡ read n) → (p : ℕ) → p ≢ q → option_map read (get n₃ p) ≡ option_map read (get n₀ p)
    beside₃ read a b p d = ap (option_map read) (updates.others p d) ∙ kept with_key read b (get n₁ p) (get n₂ p) (rest₂ p) ∙ kept with_all read a (get n₀ p) (get n₁ p) (rest₁ p)

    pub take_pairs : (k : Elem) → key_at n₀ q ≡ Some k → g₀ ≡ group_or_none (find k) → IsThread (links_at all_links n₁) e₁ (us ++ vs)
        → ((p : ℕ) → Avoids (Some p) (of_key (key_at n₀) k us ++ of_key (key_at n₀) k vs) → get n₂ p ≡ get n₁ p) → IsGroup (links_at key_links n₂) g₂ (of_key (key_at n₀) k us ++ of_key (key_at n₀) k vs)
        → slab_len n₃ + 1 ≡ slab_len n₀ → ArePairs n₃ e₁ (with_group k g₂ find) (us ++ vs)
    take_pairs k here e t others shrunk len = record {
      thread =
          thread_same (links_at all_links n₁) (links_at all_links n₃) e₁ (us ++ vs)
          (same_beside (links_at all_links n₁) (links_at all_links n₃) q (λ p d. ap (option_map all_links) (updates.others p d) ∙ kept with_key all_links (λ n l. refl) (get n₁ p) (get n₂ p) (rest₂ p)) (us ++ vs) take_beside) t;
      groups =
          leave_finish (key_at n₀) (key_at n₃) (links_at key_links n₀) (links_at key_links n₁) (links_at key_links n₂) (links_at key_links n₃) find (with_group k g₂ find) us q vs k g₀ g₂ take_beside e
          (beside₃ key (λ n l. refl) (λ n l. refl)) here (λ x. refl) keys₁ (λ p a. ap (option_map key_links) (others p a)) shrunk (λ p d. ap (option_map key_links) (updates.others p d)) h.groups;
      count = let total = h.count in omega (arith, length-append us (q ∷ vs), length-append us vs);
    }

    pub take_rows : id_rows (core_at n₃) (us ++ vs) ≡ id_rows (core_at n₀) us ++ id_rows (core_at n₀) vs
    take_rows = ids_beside (core_at n₀) (core_at n₃) q (us ++ vs) (beside₃ core (λ n l. refl) (λ n l. refl)) take_beside ∙ ids-append (core_at n₀) us vs
