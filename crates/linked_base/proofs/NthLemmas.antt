-- Places of a thread by their number.
use Rattle.std.proofs.Common.{◌≡◌, ℕ, zero, suc, ◌≤◌, ◌+◌, List, [], ◌∷◌, Option, Some, None, refl, sym, ap, ◌∙◌, arith, add-one, slice_get}
use Rattle.std.specs.Option.{option_map}
use Rattle.slab.specs.Slab.{Slab, get}
use Rattle.linked_base.specs.declared.links.Links.{Links}
use Rattle.linked_base.specs.declared.links.Ends.{Ends}
use Rattle.linked_base.specs.Thread.{head_or, IsRun, IsThread, links_at}

pub head_nth : (ps : List ℕ) → head_or None ps ≡ slice_get ps 0
head_nth [] = refl
head_nth (p ∷ ps) = refl

pub none_later : (ps : List ℕ) (i j : ℕ) → slice_get ps i ≡ None → i ≤ j → slice_get ps j ≡ None
none_later [] i j e l = refl
none_later (p ∷ ps) zero j e l = absurd (cc)
none_later (p ∷ ps) (suc i) zero e l = absurd (omega arith)
none_later (p ∷ ps) (suc i) (suc j) e l = none_later ps i j e (omega arith)

run_nth : (at : ℕ → Option Links) (b : Option ℕ) (ps : List ℕ) (i p : ℕ) → slice_get ps i ≡ Some p → IsRun at b ps None → (l : Links) × (at p ≡ Some l) × (l.next ≡ slice_get ps (suc i))
run_nth at b [] i p e h = absurd (cc)
run_nth at b (q ∷ ps) zero p e h =
    let equal : q ≡ p = cc in
    (record { previous = b; next = head_or None ps }, ap at (sym equal) ∙ h.0, head_nth ps)
run_nth at b (q ∷ ps) (suc i) p e h = run_nth at (Some q) ps i p e h.1

module _ {T : Type 0} (links : T → Links) (s : Slab T) (ends : Ends) (ps : List ℕ) (t : IsThread (links_at links s) ends ps) (i p : ℕ) (o : Option ℕ) (e : o ≡ slice_get ps i) (here : o ≡ Some p) where
  found : (l : Links) × (links_at links s p ≡ Some l) × (l.next ≡ slice_get ps (suc i))
  found = run_nth (links_at links s) None ps i p (sym e ∙ here) t.links

  pub nth_next : (n : T) (l : Links) → get s p ≡ Some n → l ≡ links n → l.next ≡ slice_get ps (i + 1)
  nth_next n l g h =
      let whole = sym (ap (option_map links) g) ∙ found.1 in
      let equal : l ≡ found.0 = cc in
      ap (λ (x : Links). x.next) equal ∙ found.2 ∙ ap (slice_get ps) (sym (add-one i))

  pub nth_there : get s p ≡ None → ⊥
  nth_there g = let whole = sym (ap (option_map links) g) ∙ found.1 in cc
