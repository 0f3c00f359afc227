-- A cycle is closed only where there is one.
use Rattle.std.proofs.Common.{◌≡◌, ◌⊎◌, inl, inr, Bool, true, false, List, [], ◌∷◌, ◌++◌, refl, ap, sym, ◌∙◌, arith}
use Rattle.std.specs.List.{IsDistinct}
use Rattle.std.proofs.lemmas.Bool.{cases_Bool, both_ways}
use Rattle.std.proofs.lemmas.Map.Keys.{IsDistinct-push, IsDistinct-head, IsDistinct-tail}
use Rattle.elem.specs.declared.elements.Elem.{Elem}
use Rattle.elem.specs.Elements.{same}
use Rattle.elem.specs.ElementLaws.{same_equiv}
use Rattle.graph_walk.specs.Graphs.{Graph, is_in, nexts, same_link}
use Rattle.graph_walk.specs.Found.{with_new}
use Rattle.graph_walk.specs.Paths.{Leads}
use Rattle.graph_walk.specs.Cycles.{links, HasCycle}
use Rattle.graph_walk.specs.Late.{Closes, ClosesSome}
use Rattle.graph_walk.proofs.PlaceLemmas.{same-is, in_tail, front_or_last}
use Rattle.graph_walk.proofs.PathLemmas.{leads_on}
use Rattle.graph_walk.proofs.StackedLemmas.{head_in, head_or_tail, none_in, IsStack, IsSettled, AreSettled}
use Rattle.graph_walk.proofs.LinkLemmas.{distinct_links, closing}

-- an element that is not in a list is none of its elements
other : (x c : Elem) (xs : List Elem) → is_in x xs ≡ false → is_in c xs ≡ true → same x c ≡ false
other x c xs o i = by_case (same x c) refl
  where
    by_case : (b : Bool) → same x c ≡ b → b ≡ false
    by_case true e = absurd (both_ways _ o (ap (λ z. is_in z xs) (same-is x c e) ∙ i))
    by_case false e = refl

module _ (next : Elem → List Elem) where
  -- a path from a node on the stack down to the lowest, of distinct nodes
  record IsDown (x y : Elem) (s : List Elem) : Type 0 where
    path : List Elem
    leads : Leads next y path x
    distinct : IsDistinct same (y ∷ path)
    within : (w : Elem) → is_in w (y ∷ path) ≡ true → is_in w (x ∷ s) ≡ true

  stay : (x : Elem) (s : List Elem) (y : Elem) → y ≡ x → IsDown x y s
  unfolding IsDistinct
  stay x s y e = record {
    path = [];
    leads = e;
    distinct = (tt, tt);
    within = λ w i. elim (head_or_tail w y [] i) [ inl q ↦ head_in w x s (q ∙ e) | inr n ↦ absurd (both_ways _ refl n) ];
  }

  onward : (x p y : Elem) (s : List Elem) → is_in x (next p) ≡ true → is_in x (p ∷ s) ≡ false → IsDown p y s → IsDown x y (p ∷ s)
  onward x p y s n o d = record {
    path = d.path ++ x ∷ [];
    leads = leads_on next y d.path p x d.leads n;
    distinct = IsDistinct-push same_equiv (y ∷ d.path) x d.distinct (new (cases_Bool (is_in x (y ∷ d.path))));
    within = λ w i. elim (front_or_last w x (y ∷ d.path) i) [ inl j ↦ in_tail w x (p ∷ s) (d.within w j) | inr e ↦ head_in w x (p ∷ s) e ];
  }
    where
      new : (is_in x (y ∷ d.path) ≡ true) ⊎ (is_in x (y ∷ d.path) ≡ false) → is_in x (y ∷ d.path) ≡ false
      new (inl i) = absurd (both_ways _ o (d.within x i))
      new (inr r) = r

  down : (x : Elem) (s : List Elem) → IsStack next x s → IsDistinct same (x ∷ s) → (y : Elem) → is_in y (x ∷ s) ≡ true → IsDown x y s
  down x [] h d y i = elim (head_or_tail y x [] i) [ inl e ↦ stay x [] y e | inr n ↦ absurd (both_ways _ refl n) ]
  down x (p ∷ s) h d y i = by_case (head_or_tail y x (p ∷ s) i) (down p s h.1 (IsDistinct-tail same x (p ∷ s) d) y)
    where
      by_case : (y ≡ x) ⊎ (is_in y (p ∷ s) ≡ true) → (is_in y (p ∷ s) ≡ true → IsDown p y s) → IsDown x y (p ∷ s)
      by_case (inl e) rest = stay x (p ∷ s) y e
      by_case (inr j) rest = onward x p y s h.0 (none_in x (p ∷ s) (IsDistinct-head same x (p ∷ s) d)) (rest j)

  -- the same where the node is not the one above the lowest: then the path begins elsewhere than at the lowest
  far : (x p : Elem) (s : List Elem) → IsStack next x (p ∷ s) → IsDistinct same (x ∷ p ∷ s) → (y : Elem) → is_in y s ≡ true
      → (c : Elem) × (path : List Elem) × Leads next y (c ∷ path) x × IsDistinct same (y ∷ c ∷ path) × (same x c ≡ false)
  unfolding onward
  far x p s h d y i = by_case near.path near.leads near.distinct near.within
    where
      out : is_in x (p ∷ s) ≡ false
      out = none_in x (p ∷ s) (IsDistinct-head same x (p ∷ s) d)

      near : IsDown p y s
      near = down p s h.1 (IsDistinct-tail same x (p ∷ s) d) y (in_tail y p s i)

      by_case : (path : List Elem) → Leads next y path p → IsDistinct same (y ∷ path) → ((w : Elem) → is_in w (y ∷ path) ≡ true → is_in w (p ∷ s) ≡ true)
          → (c : Elem) × (rest : List Elem) × Leads next y (c ∷ rest) x × IsDistinct same (y ∷ c ∷ rest) × (same x c ≡ false)
      by_case [] l t w = absurd (both_ways _ (none_in p s (IsDistinct-head same p s (IsDistinct-tail same x (p ∷ s) d))) (ap (λ z. is_in z s) (sym l) ∙ i))
      by_case (c ∷ path) l t w =
          let longer = onward x p y s h.0 out (record { path = c ∷ path; leads = l; distinct = t; within = w }) in
          (c, path ++ x ∷ [], longer.leads, longer.distinct, other x c (p ∷ s) out (w c (in_tail c y (c ∷ path) (head_in c c path refl))))

module _ (g : Graph) where
  -- a cycle from x to y and back
  abbrev back : (x y : Elem) (path : List Elem) → is_in y (nexts g x) ≡ true → Leads (nexts g) y path x → (g.directed ≡ false → IsDistinct (same_link false) ((x, y) ∷ links y path)) → HasCycle g
  back x y path n l once = (x, y ∷ path, record { some = omega arith; leads = (n, l); once = once })

  looped : (x y : Elem) → is_in y (nexts g x) ≡ true → y ≡ x → HasCycle g
  unfolding IsDistinct
  looped x y n e = back x y [] n e (λ d. (tt, tt))

  far_back : (x p : Elem) (s : List Elem) → IsStack (nexts g) x (p ∷ s) → IsDistinct same (x ∷ p ∷ s) → (y : Elem) → is_in y s ≡ true → is_in y (nexts g x) ≡ true → HasCycle g
  unfolding IsDistinct
  far_back x p s h d y i n =
      let f = far (nexts g) x p s h d y i in
      let out = none_in x (p ∷ s) d.0 in
      back x y (f.0 ∷ f.1) n f.2 (λ u. (closing x y f.0 f.1 (none_in y (f.0 ∷ f.1) f.3.0) (other x y (p ∷ s) out (in_tail y p s i)) f.4, distinct_links y (f.0 ∷ f.1) f.3))

  two_back : (x : Elem) (s : List Elem) → IsStack (nexts g) x s → IsDistinct same (x ∷ s) → (y z : Elem) → is_in y (nexts g x) ≡ true → is_in z (nexts g x) ≡ true → same y z ≡ false → is_in y s ≡ true → is_in z s ≡ true → HasCycle g
  two_back x [] h d y z n m a i j = absurd (both_ways _ refl i)
  two_back x (p ∷ s) h d y z n m a i j = by_case (head_or_tail y p s i) (head_or_tail z p s j)
    where
      by_case : (y ≡ p) ⊎ (is_in y s ≡ true) → (z ≡ p) ⊎ (is_in z s ≡ true) → HasCycle g
      by_case (inr u) v = far_back x p s h d y u n
      by_case (inl u) (inr v) = far_back x p s h d z v m
      by_case (inl u) (inl v) = absurd (both_ways _ a (ap (λ w. same w z) (u ∙ sym v) ∙ same_equiv.refl z))

  closed_at : (directed : Bool) → g.directed ≡ directed → (before : List Elem) (x : Elem) → IsSettled (nexts g) before x → Closes (nexts g) directed before x → HasCycle g
  closed_at true e before x s (y, t) =
      let d = down (nexts g) x s.stack s.stands s.distinct y (s.late y t) in
      back x y d.path t.next d.leads (λ u. absurd (both_ways _ u e))
  closed_at false e before x s (y, z, t, u, inl q) = looped x y t.next q
  closed_at false e before x s (y, z, t, u, inr a) = elim (head_or_tail y x s.stack (s.late y t)) [
    | inl q ↦ looped x y t.next q
    | inr i ↦ elim (head_or_tail z x s.stack (s.late z u)) [ inl q ↦ looped x z u.next q | inr j ↦ two_back x s.stack s.stands s.distinct y z t.next u.next a i j ]
  ]

  pub closed_cycle : (directed : Bool) → g.directed ≡ directed → (before xs : List Elem) → AreSettled (nexts g) before xs → ClosesSome (nexts g) directed before xs → HasCycle g
  closed_cycle directed e before [] s h = absurd h
  closed_cycle directed e before (x ∷ xs) s (inl h) = closed_at directed e before x s.0 h
  closed_cycle directed e before (x ∷ xs) s (inr h) = closed_cycle directed e (with_new x before) xs s.1 h
