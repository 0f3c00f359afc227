-- The next nodes of a node, by the edges at it.
use Rattle.std.proofs.Common.{◌≡◌, ℕ, ◌≤◌, zero, suc, Bool, true, false, cond, List, [], ◌∷◌, drop, length, Option, Some, None, refl, sym, ap, ◌∙◌, slice_get}
use Rattle.std.specs.Prelude.{◌||◌, ◌&&◌}
use Rattle.std.specs.List.{filter, filter_map, cons_option}
use Rattle.std.proofs.lemmas.List.{drop_all}
use Rattle.elem.specs.declared.elements.Elem.{Elem}
use Rattle.elem.specs.Elements.{same}
use Rattle.elem.specs.ElementLaws.{same-Decides}
use Rattle.mm_base.specs.KeyedRows.{contains}
use Rattle.graph_base.specs.Edges.{Edge, joins, edge_joining, is_at, incident}
use Rattle.graph_base.specs.Nexts.{end_from, from_of, to_of, nexts, behind}

abbrev passes : Elem → Option Elem → Bool
passes b None = false
passes b (Some x) = same b x

neither : (b c : Bool) → (b || c) ≡ false → (b ≡ false) × (c ≡ false)
neither true c h = absurd (cc)
neither false c h = (refl, h)

-- an edge that is not at a node leads nowhere from it
not_at : (d t : Bool) (a : Elem) (e : Edge) → is_at a e ≡ false → end_from d t a e ≡ None
not_at d t a e h = by_case d t (neither (same a e.0) (same a e.1) h)
  where
    by_case : (d t : Bool) → (same a e.0 ≡ false) × (same a e.1 ≡ false) → end_from d t a e ≡ None
    by_case true true n = ap (λ b. cond b (Some e.0) None) n.1
    by_case true false n = ap (λ b. cond b (Some e.1) None) n.0
    by_case false t n = ap (λ b. cond b (Some e.1) (cond (same a e.1) (Some e.0) None)) n.0 ∙ ap (λ b. cond b (Some e.0) None) n.1

module _ (a b : Elem) (e : Edge) where
  -- an edge that is walked one way
  one_way : (z : Elem) (x y : Bool) → same b z ≡ y → ((x && y) || false) ≡ passes b (cond x (Some z) None)
  one_way z true true h = sym h
  one_way z true false h = sym h
  one_way z false y h = refl

  turned_way : (x y : Bool) → same b e.0 ≡ x → ((x && y) || false) ≡ passes b (cond y (Some e.0) None)
  turned_way true true h = sym h
  turned_way false true h = sym h
  turned_way true false h = refl
  turned_way false false h = refl

  either_way : (p q x y : Bool) → same a e.0 ≡ p → same b e.1 ≡ q → same b e.0 ≡ x → same a e.1 ≡ y → ((p && q) || (x && y)) ≡ passes b (cond p (Some e.1) (cond y (Some e.0) None))
  either_way true true x y h i j k = sym i
  either_way true false true true h i j k =
      let one : a ≡ e.0 = (same-Decides a e.0).0 h in
      let two : b ≡ e.0 = (same-Decides b e.0).0 j in
      let three : a ≡ e.1 = (same-Decides a e.1).0 k in
      let both : same b e.1 ≡ true = (same-Decides b e.1).1 (two ∙ sym one ∙ three) in
      absurd (cc)
  either_way true false true false h i j k = sym i
  either_way true false false y h i j k = sym i
  either_way false q true true h i j k = sym j
  either_way false q false true h i j k = sym j
  either_way false q true false h i j k = refl
  either_way false q false false h i j k = refl

  -- an edge leads from a to b where it joins them so
  joins_so : (d t : Bool) → joins d (from_of d t a b) (to_of d t a b) e ≡ passes b (end_from d t a e)
  joins_so true true = turned_way (same b e.0) (same a e.1) refl
  joins_so true false = one_way e.1 (same a e.0) (same b e.1) refl
  joins_so false t = either_way (same a e.0) (same b e.1) (same b e.0) (same a e.1) refl refl refl refl

module _ (d t : Bool) (a : Elem) where
  -- the next nodes come from the edges at the node
  pub nexts_incident : (edges : List Edge) → filter_map (end_from d t a) (incident a edges) ≡ nexts d t a edges
  nexts_incident [] = refl
  nexts_incident (e ∷ es) = by_case (is_at a e) refl (nexts_incident es)
    where
      by_case : (b : Bool) → is_at a e ≡ b → filter_map (end_from d t a) (incident a es) ≡ nexts d t a es → filter_map (end_from d t a) (cond b (e ∷ incident a es) (incident a es)) ≡ cons_option (end_from d t a e) (nexts d t a es)
      by_case true h r = ap (cons_option (end_from d t a e)) r
      by_case false h r = r ∙ ap (λ o. cons_option o (nexts d t a es)) (sym (not_at d t a e h))

  module _ (b : Elem) where
    -- the edges that lead to b
    abbrev leading : List Edge → List Edge
    leading edges = filter (λ e. passes b (end_from d t a e)) edges

    joining_incident : (edges : List Edge) → leading (incident a edges) ≡ leading edges
    joining_incident [] = refl
    joining_incident (e ∷ es) = by_case (is_at a e) refl (joining_incident es)
      where
        by_case : (c : Bool) → is_at a e ≡ c → leading (incident a es) ≡ leading es
            → leading (cond c (e ∷ incident a es) (incident a es)) ≡ cond (passes b (end_from d t a e)) (e ∷ leading es) (leading es)
        by_case true h r = ap (λ xs. cond (passes b (end_from d t a e)) (e ∷ xs) xs) r
        by_case false h r = r ∙ ap (λ o. cond (passes b o) (e ∷ leading es) (leading es)) (sym (not_at d t a e h))

    joining_at_node : (edges : List Edge) → edge_joining d (from_of d t a b) (to_of d t a b) edges ≡ slice_get (leading (incident a edges)) 0
    joining_at_node edges = (λ i. slice_get (filter (λ e. joins_so a b e d t i) edges) 0) ∙ ap (λ xs. slice_get xs 0) (sym (joining_incident edges))

    -- a place of an edge, behind which the next node stands behind b
    abbrev IsBefore : List Edge → Edge → Type 0
    IsBefore xs e = (k : ℕ) × (slice_get xs k ≡ Some e) × (behind b (filter_map (end_from d t a) xs) ≡ slice_get (filter_map (end_from d t a) (drop (suc k) xs)) 0)

    first_before : (xs : List Edge) (e : Edge) → slice_get (leading xs) 0 ≡ Some e → IsBefore xs e
    first_before [] e h = absurd (cc)
    first_before (u ∷ us) e h = by_case (end_from d t a u) refl h (first_before us e)
      where
        skipped : (o : Option Elem) → end_from d t a u ≡ o → passes b o ≡ false → IsBefore us e → IsBefore (u ∷ us) e
        skipped None p q r = (suc r.0, r.1, ap (λ o. behind b (cons_option o (filter_map (end_from d t a) us))) p ∙ r.2)
        skipped (Some y) p q r = (suc r.0, r.1, ap (λ o. behind b (cons_option o (filter_map (end_from d t a) us))) p ∙ ap (λ c. cond c (slice_get (filter_map (end_from d t a) us) 0) (behind b (filter_map (end_from d t a) us))) q ∙ r.2)

        by_same : (y : Elem) → end_from d t a u ≡ Some y → (c : Bool) → same b y ≡ c → slice_get (cond c (u ∷ leading us) (leading us)) 0 ≡ Some e → (slice_get (leading us) 0 ≡ Some e → IsBefore us e) → IsBefore (u ∷ us) e
        by_same y p true q k r = (zero, k, ap (λ o. behind b (cons_option o (filter_map (end_from d t a) us))) p ∙ ap (λ c. cond c (slice_get (filter_map (end_from d t a) us) 0) (behind b (filter_map (end_from d t a) us))) q)
        by_same y p false q k r = skipped (Some y) p q (r k)

        by_case : (o : Option Elem) → end_from d t a u ≡ o → slice_get (cond (passes b o) (u ∷ leading us) (leading us)) 0 ≡ Some e → (slice_get (leading us) 0 ≡ Some e → IsBefore us e) → IsBefore (u ∷ us) e
        by_case None p k r = skipped None p refl (r k)
        by_case (Some y) p k r = by_same y p (same b y) refl k r

    none_behind : (xs : List Edge) → slice_get (leading xs) 0 ≡ None → behind b (filter_map (end_from d t a) xs) ≡ None
    none_behind [] h = refl
    none_behind (u ∷ us) h = by_case (end_from d t a u) h (none_behind us)
      where
        by_same : (y : Elem) (c : Bool) → same b y ≡ c → slice_get (cond c (u ∷ leading us) (leading us)) 0 ≡ None → (slice_get (leading us) 0 ≡ None → behind b (filter_map (end_from d t a) us) ≡ None)
            → cond c (slice_get (filter_map (end_from d t a) us) 0) (behind b (filter_map (end_from d t a) us)) ≡ None
        by_same y true q k r = absurd (cc)
        by_same y false q k r = r k

        by_case : (o : Option Elem) → slice_get (cond (passes b o) (u ∷ leading us) (leading us)) 0 ≡ None → (slice_get (leading us) 0 ≡ None → behind b (filter_map (end_from d t a) us) ≡ None) → behind b (cons_option o (filter_map (end_from d t a) us)) ≡ None
        by_case None k r = r k
        by_case (Some y) k r = by_same y (same b y) refl k r

    module _ (edges : List Edge) where
      pub edge_before : (e : Edge) → edge_joining d (from_of d t a b) (to_of d t a b) edges ≡ Some e → IsBefore (incident a edges) e
      edge_before e h = first_before (incident a edges) e (sym (joining_at_node edges) ∙ h)

      pub not_next : edge_joining d (from_of d t a b) (to_of d t a b) edges ≡ None → behind b (nexts d t a edges) ≡ None
      not_next h = ap (behind b) (sym (nexts_incident edges)) ∙ none_behind (incident a edges) (sym (joining_at_node edges) ∙ h)

-- a list from a place on
pub from_place : {X : Type 0} (xs : List X) (k : ℕ) (x : X) → slice_get xs k ≡ Some x → drop k xs ≡ x ∷ drop (suc k) xs
from_place [] k x h = absurd (cc)
from_place (y ∷ ys) zero x h = let equal : y ≡ x = cc in ap (λ z. z ∷ ys) equal
from_place (y ∷ ys) (suc k) x h = from_place ys k x h

pub past_place : {X : Type 0} (xs : List X) (k : ℕ) → slice_get xs k ≡ None → drop k xs ≡ []
past_place [] zero h = refl
past_place [] (suc k) h = refl
past_place (y ∷ ys) zero h = absurd (cc)
past_place (y ∷ ys) (suc k) h = past_place ys k h

-- where the elements of a list lead, from a place on
module _ {X : Type 0} (f : X → Option Elem) (xs : List X) where
  abbrev pub first_from : ℕ → Option Elem
  first_from n = slice_get (filter_map f (drop n xs)) 0

  pub none_from : (n : ℕ) → slice_get xs n ≡ None → first_from n ≡ None
  none_from n h = ap (λ ys. slice_get (filter_map f ys) 0) (past_place xs n h)

  pub end_of_all : (n : ℕ) → length xs ≤ n → first_from n ≡ None
  end_of_all n h = ap (λ ys. slice_get (filter_map f ys) 0) (drop_all n xs h)

  pub found_at : (n : ℕ) (x : X) (b : Elem) → slice_get xs n ≡ Some x → f x ≡ Some b → first_from n ≡ Some b
  found_at n x b h e = ap (λ ys. slice_get (filter_map f ys) 0) (from_place xs n x h) ∙ ap (λ o. slice_get (cons_option o (filter_map f (drop (suc n) xs))) 0) e

  pub passed_on : (n : ℕ) (x : X) → slice_get xs n ≡ Some x → f x ≡ None → first_from (suc n) ≡ first_from n
  passed_on n x h e = sym (ap (λ ys. slice_get (filter_map f ys) 0) (from_place xs n x h) ∙ ap (λ o. slice_get (cons_option o (filter_map f (drop (suc n) xs))) 0) e)

-- the first node is there
pub first_there : (xs : List Elem) (x : Elem) → slice_get xs 0 ≡ Some x → contains x xs ≡ true
first_there [] x h = absurd (cc)
first_there (y ∷ ys) x h = let equal : x ≡ y = cc in ap (λ b. cond b true (contains x ys)) ((same-Decides x y).1 equal)
