-- Rows of a linked map by their number.
use Rattle.std.proofs.Common.{◌≡◌, ℕ, zero, suc, List, [], ◌∷◌, Option, Some, None, refl, sym, ap, ◌∙◌, slice_get}
use Rattle.std.specs.Prelude.{IsSome}
use Rattle.std.specs.Option.{option_map}
use Rattle.std.specs.HashMap.{HashMap}
use Rattle.slab.specs.Slab.{Slab, get}
use Rattle.elem.specs.declared.elements.Elem.{Elem}
use Rattle.linked_base.specs.declared.links.Ends.{Ends}
use Rattle.linked_base.specs.declared.row_nodes.Node.{Node}
use Rattle.linked_base.specs.Thread.{IsThread, links_at}
use Rattle.linked_base.specs.Places.{rows_of}
use Rattle.linked_base.specs.LinkedMap.{links, row, row_at}
use Rattle.linked_base.proofs.PlacesLemmas.{There, some_of, rows-cons}
use Rattle.linked_base.proofs.LinkedMapLemmas.{all_there}
use Rattle.linked_base.proofs.HeldRows.{HoldsRows}

module _ {R : Type 0} (at : ℕ → Option R) where
  no_row : (ps : List ℕ) (i : ℕ) → There at ps → slice_get ps i ≡ None → slice_get (rows_of at ps) i ≡ None
  no_row [] i h e = refl
  no_row (p ∷ ps) zero h e = absurd (cc)
  no_row (p ∷ ps) (suc i) h e = let r = some_of (at p) h.0 in ap (λ l. slice_get l (suc i)) (rows-cons at p ps r.0 r.1) ∙ no_row ps i h.1 e

  nth_row : (ps : List ℕ) (i p : ℕ) (r : R) → There at ps → slice_get ps i ≡ Some p → at p ≡ Some r → slice_get (rows_of at ps) i ≡ Some r
  nth_row [] i p r h e here = absurd (cc)
  nth_row (q ∷ ps) zero p r h e here =
      let equal : q ≡ p = cc in
      ap (λ l. slice_get l 0) (rows-cons at q ps r (ap at equal ∙ here))
  nth_row (q ∷ ps) (suc i) p r h e here = let s = some_of (at q) h.0 in ap (λ l. slice_get l (suc i)) (rows-cons at q ps s.0 s.1) ∙ nth_row ps i p r h.1 e here

  nth_there : (ps : List ℕ) (i p : ℕ) → There at ps → slice_get ps i ≡ Some p → (r : R) × (at p ≡ Some r)
  nth_there [] i p h e = absurd (cc)
  nth_there (q ∷ ps) zero p h e =
      let equal : q ≡ p = cc in
      let r = some_of (at q) h.0 in
      (r.0, ap at (sym equal) ∙ r.1)
  nth_there (q ∷ ps) (suc i) p h e = nth_there ps i p h.1 e

has_node : {V : Type 0} (x : Option (Node V)) (r : Elem × V) → option_map row x ≡ Some r → IsSome x
has_node None r e = absurd (cc)
has_node (Some n) r e = refl

-- the place of row number i, as the thread tells it
module _ {V S : Type 0} {nodes : Slab (Node V)} {ends : Ends} {index : HashMap Elem ℕ S} {rows : List (Elem × V)} (h : HoldsRows nodes ends index rows) (i : ℕ) (place : Option ℕ)
    (nth : (ps : List ℕ) → IsThread (links_at links nodes) ends ps → place ≡ slice_get ps i) where
  here : place ≡ slice_get h.at_places i
  here = nth h.at_places h.are_rows.thread

  there : There (row_at nodes) h.at_places
  there = all_there nodes ends index h.at_places h.are_rows

  pub number_absent : place ≡ None → slice_get rows i ≡ None
  number_absent e = ap (λ rs. slice_get rs i) (sym h.rows_equal) ∙ no_row (row_at nodes) h.at_places i there (sym here ∙ e)

  pub number_there : (p : ℕ) → place ≡ Some p → IsSome (get nodes p)
  number_there p e = let r = nth_there (row_at nodes) h.at_places i p there (sym here ∙ e) in has_node (get nodes p) r.0 r.1

  pub number_row : (p : ℕ) (n : Node V) → place ≡ Some p → get nodes p ≡ Some n → slice_get rows i ≡ Some (n.key, n.value)
  number_row p n e g = ap (λ rs. slice_get rs i) (sym h.rows_equal) ∙ nth_row (row_at nodes) h.at_places i p (n.key, n.value) there (sym here ∙ e) (ap (option_map row) g)
