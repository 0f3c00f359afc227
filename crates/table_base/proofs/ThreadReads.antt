-- A place of a thread read: its neighbours, and those on a walk.
use Rattle.std.proofs.Common.{◌≡◌, ℕ, Bool, List, ◌∷◌, ◌++◌, Option, Some, None, refl, sym, ap, ◌∙◌, subst, append_assoc}
use Rattle.std.specs.Prelude.{IsSome}
use Rattle.std.specs.Option.{option_map}
use Rattle.slab.specs.Slab.{Slab, get}
use Rattle.linked_base.specs.declared.links.Links.{Links}
use Rattle.linked_base.specs.declared.links.Ends.{Ends}
use Rattle.linked_base.specs.Thread.{head_or, last_or, IsThread, links_at}
use Rattle.linked_base.proofs.ThreadLemmas.{thread_cut_at, links_read}
use Rattle.linked_base.proofs.Walks.{WalkedOn, on_split, on_cut, WalkedBack, back_split, back_cut}

module _ {T : Type 0} (links : T → Links) (nodes : Slab T) (ends : Ends) where
  module _ (us : List ℕ) (p : ℕ) (vs : List ℕ) (t : IsThread (links_at links nodes) ends (us ++ p ∷ vs)) where
    read : links_at links nodes p ≡ Some (record { previous = last_or None us; next = head_or None vs })
    read = (thread_cut_at (links_at links nodes) ends us p vs t).1

    pub links_cut : (n : T) → get nodes p ≡ Some n → links n ≡ record { previous = last_or None us; next = head_or None vs }
    links_cut n g = links_read links nodes p n (links n) _ g refl read

    pub node_cut : get nodes p ≡ None → ⊥
    node_cut g = let both = sym read ∙ ap (option_map links) g in cc

    pub node_there : IsSome (get nodes p)
    node_there = by_node (get nodes p) refl
      where
        by_node : (o : Option T) → get nodes p ≡ o → IsSome o
        by_node None g = absurd (node_cut g)
        by_node (Some n) g = refl

  module _ (us vs : List ℕ) (t : IsThread (links_at links nodes) ends (us ++ vs)) (test : ℕ → Bool) (at : Option ℕ) (n p : ℕ) (e : at ≡ Some p) where
    module _ (w : WalkedOn test vs at n) where
      forth : IsThread (links_at links nodes) ends ((us ++ w.passed) ++ p ∷ (on_split test vs at n w p e).0)
      forth = subst (IsThread (links_at links nodes) ends) (ap (λ l. us ++ l) (on_cut test vs at n w p e) ∙ sym (append_assoc us w.passed (p ∷ (on_split test vs at n w p e).0))) t

      pub next_on : (m : T) → get nodes p ≡ Some m → (links m).next ≡ head_or None (on_split test vs at n w p e).0
      next_on m g = ap (λ (l : Links). l.next) (links_cut (us ++ w.passed) p (on_split test vs at n w p e).0 forth m g)

      pub there_on : get nodes p ≡ None → ⊥
      there_on g = node_cut (us ++ w.passed) p (on_split test vs at n w p e).0 forth g

    module _ (w : WalkedBack test us at n) where
      back : IsThread (links_at links nodes) ends ((back_split test us at n w p e).0 ++ p ∷ (w.passed ++ vs))
      back = subst (IsThread (links_at links nodes) ends) (ap (λ l. l ++ vs) (back_cut test us at n w p e) ∙ append_assoc (back_split test us at n w p e).0 (p ∷ w.passed) vs) t

      pub previous_back : (m : T) → get nodes p ≡ Some m → (links m).previous ≡ last_or None (back_split test us at n w p e).0
      previous_back m g = ap (λ (l : Links). l.previous) (links_cut (back_split test us at n w p e).0 p (w.passed ++ vs) back m g)

      pub there_back : get nodes p ≡ None → ⊥
      there_back g = node_cut (back_split test us at n w p e).0 p (w.passed ++ vs) back g
