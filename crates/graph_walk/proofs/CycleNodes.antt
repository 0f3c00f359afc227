-- A cycle is closed at the first of its nodes in any order.
use Rattle.std.proofs.Common.{◌≡◌, ◌⊎◌, inl, inr, ◌<◌, Bool, true, false, cond, ◌||◌, List, [], ◌∷◌, Option, Some, None, length, refl, ap, sym, ◌∙◌, subst, arith}
use Rattle.std.specs.List.{IsDistinct, AllByRecursion, filter_map, cons_option}
use Rattle.std.proofs.lemmas.Bool.{cases_Bool, both_ways}
use Rattle.elem.specs.declared.elements.Elem.{Elem}
use Rattle.elem.specs.Elements.{same}
use Rattle.elem.specs.ElementLaws.{same-Decides}
use Rattle.graph_walk.specs.Graphs.{Graph, Link, IsValid, is_in, end_from, nexts, same_link}
use Rattle.graph_walk.specs.Found.{with_new}
use Rattle.graph_walk.specs.Paths.{Leads}
use Rattle.graph_walk.specs.Cycles.{links, IsCycle, HasCycle}
use Rattle.graph_walk.specs.Late.{IsLate, Closes, ClosesSome}
use Rattle.graph_walk.proofs.PlaceLemmas.{same-is, in_tail}
use Rattle.graph_walk.proofs.FoundLemmas.{is_in-new}
use Rattle.graph_walk.proofs.NextsLemmas.{GoesFrom, goes_from, nexts_nodes}
use Rattle.graph_walk.proofs.StackedLemmas.{head_in, head_or_tail, not_in}
use Rattle.graph_walk.proofs.LinkLemmas.{apart_ends, apart_turned}

there_or_new : (z x : Elem) (xs : List Elem) → is_in z (with_new x xs) ≡ true → (is_in z xs ≡ true) ⊎ (z ≡ x)
there_or_new z x xs i = by_case (is_in z xs) (same z x) refl refl (sym (is_in-new z x xs) ∙ i)
  where
    by_case : (b s : Bool) → is_in z xs ≡ b → same z x ≡ s → (b || s) ≡ true → (is_in z xs ≡ true) ⊎ (z ≡ x)
    by_case true s e f h = inl e
    by_case false true e f h = inr (same-is z x f)
    by_case false false e f h = absurd (both_ways _ refl h)

-- without directions an edge leads back
leads_back : (w x : Elem) (e : Link) → GoesFrom false w e x → end_from false x e ≡ Some w
leads_back w x e (inl h) = by_case (same x e.0) refl
  where
    by_case : (b : Bool) → same x e.0 ≡ b → cond b (Some e.1) (cond (same x e.1) (Some e.0) None) ≡ Some w
    by_case true p = ap (λ z. Some z) (sym h.1 ∙ same-is x e.0 p ∙ sym h.0)
    by_case false p = ap (λ b. cond b (Some e.0) None) ((same-Decides x e.1).1 h.1) ∙ ap (λ z. Some z) (sym h.0)
leads_back w x e (inr h) = ap (λ b. cond b (Some e.1) (cond (same x e.1) (Some e.0) None)) ((same-Decides x e.0).1 h.2) ∙ ap (λ z. Some z) (sym h.1)

back_along : (w x : Elem) (es : List Link) → is_in x (filter_map (end_from false w) es) ≡ true → is_in w (filter_map (end_from false x) es) ≡ true
back_along w x [] i = absurd (both_ways _ refl i)
back_along w x (e ∷ es) i = by_case (end_from false w e) refl i (back_along w x es)
  where
    skipped : (o : Option Elem) → is_in w (filter_map (end_from false x) es) ≡ true → is_in w (cons_option o (filter_map (end_from false x) es)) ≡ true
    skipped None h = h
    skipped (Some z) h = in_tail w z (filter_map (end_from false x) es) h

    by_case : (o : Option Elem) → end_from false w e ≡ o → is_in x (cons_option o (filter_map (end_from false w) es)) ≡ true → (is_in x (filter_map (end_from false w) es) ≡ true → is_in w (filter_map (end_from false x) es) ≡ true) → is_in w (cons_option (end_from false x e) (filter_map (end_from false x) es)) ≡ true
    by_case None p j rest = skipped (end_from false x e) (rest j)
    by_case (Some y) p j rest = elim (head_or_tail x y (filter_map (end_from false w) es) j) [
      | inl q ↦ subst (λ o. is_in w (cons_option o (filter_map (end_from false x) es)) ≡ true) (sym (leads_back w x e (subst (GoesFrom false w e) (sym q) (goes_from false w e y p)))) (head_in w w (filter_map (end_from false x) es) refl)
      | inr k ↦ skipped (end_from false x e) (rest k)
    ]

next_back : (g : Graph) (w x : Elem) → g.directed ≡ false → is_in x (nexts g w) ≡ true → is_in w (nexts g x) ≡ true
next_back g w x e i = subst (λ d. is_in w (filter_map (end_from d x) g.edges) ≡ true) (sym e) (back_along w x g.edges (subst (λ d. is_in x (filter_map (end_from d w) g.edges) ≡ true) e i))

module _ (next : Elem → List Elem) where
  -- a node is the end of a path, or has a next node on it
  next_on : (a : Elem) (path : List Elem) (b : Elem) → Leads next a path b → (x : Elem) → is_in x path ≡ true → (x ≡ b) ⊎ ((z : Elem) × (is_in z (next x) ≡ true) × (is_in z path ≡ true))
  next_on a [] b l x i = absurd (both_ways _ refl i)
  next_on a (c ∷ path) b l x i = by_case (head_or_tail x c path i) (next_on c path b l.1 x)
    where
      here : (rest : List Elem) → Leads next c rest b → x ≡ c → (x ≡ b) ⊎ ((z : Elem) × (is_in z (next x) ≡ true) × (is_in z (c ∷ rest) ≡ true))
      here [] k q = inl (q ∙ k)
      here (z ∷ rest) k q = inr (z, ap (λ u. is_in z (next u)) q ∙ k.0, in_tail z c (z ∷ rest) (head_in z z rest refl))

      by_case : (x ≡ c) ⊎ (is_in x path ≡ true) → (is_in x path ≡ true → (x ≡ b) ⊎ ((z : Elem) × (is_in z (next x) ≡ true) × (is_in z path ≡ true))) → (x ≡ b) ⊎ ((z : Elem) × (is_in z (next x) ≡ true) × (is_in z (c ∷ path) ≡ true))
      by_case (inl q) rest = here path l.1 q
      by_case (inr k) rest = elim (rest k) [ inl e ↦ inl e | inr h ↦ inr (h.0, h.1, in_tail h.0 c path h.2) ]

  last_in : (a c : Elem) (path : List Elem) (b : Elem) → Leads next a (c ∷ path) b → is_in b (c ∷ path) ≡ true
  last_in a c [] b l = head_in b c [] (sym l.1)
  last_in a c (d ∷ path) b l = in_tail b c (d ∷ path) (last_in c d path b l.1)

  -- a path comes to x from a node and goes on to another, or round a loop
  record Turns (x : Elem) (nodes : List Elem) : Type 0 where
    from : Elem
    to : Elem
    enters : is_in x (next from) ≡ true
    leaves : is_in to (next x) ≡ true
    from_there : is_in from nodes ≡ true
    to_there : is_in to nodes ≡ true
    apart : (to ≡ x) ⊎ (same from to ≡ false)

  -- a path comes to x at its end
  record Ends (a : Elem) (path : List Elem) (x b : Elem) : Type 0 where
    is_end : x ≡ b
    from : Elem
    enters : is_in x (next from) ≡ true
    from_there : is_in from (a ∷ path) ≡ true
    among : (e : Link) → AllByRecursion (λ f. same_link false e f ≡ false) (links a path) → same_link false e (from, x) ≡ false

  around : (a : Elem) (path : List Elem) (b : Elem) → Leads next a path b → IsDistinct (same_link false) (links a path) → (x : Elem) → is_in x path ≡ true → Turns x (a ∷ path) ⊎ Ends a path x b
  unfolding IsDistinct
  around a [] b l d x i = absurd (both_ways _ refl i)
  around a (c ∷ path) b l d x i = by_case (head_or_tail x c path i) (around c path b l.1 d.1 x)
    where
      entered : x ≡ c → is_in x (next a) ≡ true
      entered q = ap (λ u. is_in u (next a)) q ∙ l.0

      here : (rest : List Elem) → Leads next c rest b → AllByRecursion (λ f. same_link false (a, c) f ≡ false) (links c rest) → x ≡ c → Turns x (a ∷ c ∷ rest) ⊎ Ends a (c ∷ rest) x b
      here [] k h q = inr (record { is_end = q ∙ k; from = a; enters = entered q; from_there = head_in a a (c ∷ []) refl; among = λ e t. ap (λ u. same_link false e (a, u)) q ∙ t.0 })
      here (z ∷ rest) k h q = inl (record {
        from = a;
        to = z;
        enters = entered q;
        leaves = ap (λ u. is_in z (next u)) q ∙ k.0;
        from_there = head_in a a (c ∷ z ∷ rest) refl;
        to_there = in_tail z a (c ∷ z ∷ rest) (in_tail z c (z ∷ rest) (head_in z z rest refl));
        apart = inr (apart_ends a c z h.0);
      })

      by_case : (x ≡ c) ⊎ (is_in x path ≡ true) → (is_in x path ≡ true → Turns x (c ∷ path) ⊎ Ends c path x b) → Turns x (a ∷ c ∷ path) ⊎ Ends a (c ∷ path) x b
      by_case (inl q) rest = here path l.1 d.0 q
      by_case (inr k) rest = elim (rest k) [
        | inl t ↦ inl (record { from = t.from; to = t.to; enters = t.enters; leaves = t.leaves; from_there = in_tail t.from a (c ∷ path) t.from_there; to_there = in_tail t.to a (c ∷ path) t.to_there; apart = t.apart })
        | inr e ↦ inr (record { is_end = e.is_end; from = e.from; enters = e.enters; from_there = in_tail e.from a (c ∷ path) e.from_there; among = λ f t. e.among f t.1 })
      ]

  -- each node of a closed path has a next node on it
  closed_next : (a : Elem) (path : List Elem) → 0 < length path → Leads next a path a → (x : Elem) → is_in x path ≡ true → (z : Elem) × (is_in z (next x) ≡ true) × (is_in z path ≡ true)
  closed_next a [] s l x i = absurd (omega arith)
  closed_next a (c ∷ path) s l x i = elim (next_on a (c ∷ path) a l x i) [ inl e ↦ (c, ap (λ u. is_in c (next u)) e ∙ l.0, head_in c c path refl) | inr h ↦ h ]

  -- a closed path that uses no edge twice turns at each of its nodes
  closed_turns : (a : Elem) (path : List Elem) → 0 < length path → Leads next a path a → IsDistinct (same_link false) (links a path) → (x : Elem) → is_in x path ≡ true → Turns x path
  unfolding IsDistinct
  closed_turns a [] s l d x i = absurd (omega arith)
  closed_turns a (c ∷ path) s l d x i = by_case (head_or_tail x c path i)
    where
      inside : (z : Elem) → is_in z (a ∷ c ∷ path) ≡ true → is_in z (c ∷ path) ≡ true
      inside z j = elim (head_or_tail z a (c ∷ path) j) [ inl q ↦ ap (λ u. is_in u (c ∷ path)) q ∙ last_in a c path a l | inr k ↦ k ]

      here : (rest : List Elem) → Leads next c rest a → AllByRecursion (λ f. same_link false (a, c) f ≡ false) (links c rest) → ((z : Elem) → is_in z (a ∷ c ∷ rest) ≡ true → is_in z (c ∷ rest) ≡ true) → x ≡ c → Turns x (c ∷ rest)
      here [] k h all q = record {
        from = a;
        to = c;
        enters = ap (λ u. is_in u (next a)) q ∙ l.0;
        leaves = ap (λ u. is_in c (next u)) (q ∙ k) ∙ l.0;
        from_there = all a (head_in a a (c ∷ []) refl);
        to_there = head_in c c [] refl;
        apart = inl (sym q);
      }
      here (z ∷ rest) k h all q = record {
        from = a;
        to = z;
        enters = ap (λ u. is_in u (next a)) q ∙ l.0;
        leaves = ap (λ u. is_in z (next u)) q ∙ k.0;
        from_there = all a (head_in a a (c ∷ z ∷ rest) refl);
        to_there = in_tail z c (z ∷ rest) (head_in z z rest refl);
        apart = inr (apart_ends a c z h.0);
      }

      by_case : (x ≡ c) ⊎ (is_in x path ≡ true) → Turns x (c ∷ path)
      by_case (inl q) = here path l.1 d.0 inside q
      by_case (inr k) = elim (around c path a l.1 d.1 x k) [
        | inl t ↦ t
        | inr e ↦ record {
          from = e.from;
          to = c;
          enters = e.enters;
          leaves = ap (λ u. is_in c (next u)) e.is_end ∙ l.0;
          from_there = e.from_there;
          to_there = head_in c c path refl;
          apart = inr (apart_turned e.from x c (ap (λ u. same_link false (u, c) (e.from, x)) e.is_end ∙ e.among (a, c) d.0));
        }
      ]

module _ (g : Graph) (a : Elem) (path : List Elem) (cycle : IsCycle g a path) where
  closes_at : (directed : Bool) → g.directed ≡ directed → (before : List Elem) (x : Elem) → ((y : Elem) → is_in y path ≡ true → is_in y before ≡ false) → is_in x path ≡ true → Closes (nexts g) directed before x
  closes_at true e before x new i =
      let z = closed_next (nexts g) a path cycle.some cycle.leads x i in
      (z.0, record { next = z.1; behind = new z.0 z.2 })
  closes_at false e before x new i =
      let t = closed_turns (nexts g) a path cycle.some cycle.leads (cycle.once e) x i in
      let to : IsLate (nexts g) before x t.to = record { next = t.leaves; behind = new t.to t.to_there } in
      let from : IsLate (nexts g) before x t.from = record { next = next_back g t.from x e t.enters; behind = new t.from t.from_there } in
      elim t.apart [ inl q ↦ (t.to, t.to, to, to, inl q) | inr o ↦ (t.from, t.to, from, to, inr o) ]

  closes_somewhere : (directed : Bool) → g.directed ≡ directed → (before xs : List Elem) → ((y : Elem) → is_in y path ≡ true → is_in y before ≡ false) → ((y : Elem) → is_in y path ≡ true → is_in y xs ≡ true) → (y : Elem) → is_in y path ≡ true → ClosesSome (nexts g) directed before xs
  closes_somewhere directed e before [] new all y i = absurd (both_ways _ refl (all y i))
  closes_somewhere directed e before (x ∷ xs) new all y i = by_case (cases_Bool (is_in x path)) (closes_somewhere directed e (with_new x before) xs)
    where
      off : (z : Elem) → is_in x path ≡ false → is_in z path ≡ true → z ≡ x → ⊥
      off z o j q = both_ways _ o (ap (λ u. is_in u path) (sym q) ∙ j)

      by_case : (is_in x path ≡ true) ⊎ (is_in x path ≡ false) → (((z : Elem) → is_in z path ≡ true → is_in z (with_new x before) ≡ false) → ((z : Elem) → is_in z path ≡ true → is_in z xs ≡ true) → (z : Elem) → is_in z path ≡ true → ClosesSome (nexts g) directed (with_new x before) xs) → Closes (nexts g) directed before x ⊎ ClosesSome (nexts g) directed (with_new x before) xs
      by_case (inl j) rest = inl (closes_at directed e before x new j)
      by_case (inr o) rest = inr (rest (λ z j. not_in z (with_new x before) (λ k. elim (there_or_new z x before k) [ inl p ↦ both_ways _ (new z j) p | inr q ↦ off z o j q ])) (λ z j. elim (head_or_tail z x xs (all z j)) [ inl q ↦ absurd (off z o j q) | inr k ↦ k ]) y i)

-- a node of a path is a next node of some node
entered : (next : Elem → List Elem) (a : Elem) (path : List Elem) (b : Elem) → Leads next a path b → (x : Elem) → is_in x path ≡ true → (w : Elem) × (is_in x (next w) ≡ true)
entered next a [] b l x i = absurd (both_ways _ refl i)
entered next a (c ∷ path) b l x i = by_case (head_or_tail x c path i) (entered next c path b l.1 x)
  where
    by_case : (x ≡ c) ⊎ (is_in x path ≡ true) → (is_in x path ≡ true → (w : Elem) × (is_in x (next w) ≡ true)) → (w : Elem) × (is_in x (next w) ≡ true)
    by_case (inl e) rest = (a, ap (λ z. is_in z (next a)) e ∙ l.0)
    by_case (inr k) rest = rest k

-- where a list has all nodes, each cycle is closed at one of them
pub cycle_closed : (g : Graph) → IsValid g → (xs : List Elem) → ((y : Elem) → is_in y g.nodes ≡ true → is_in y xs ≡ true) → HasCycle g → ClosesSome (nexts g) g.directed [] xs
cycle_closed g valid xs all (a, path, cycle) = begun path cycle
  where
    is_node : (p : List Elem) → IsCycle g a p → (y : Elem) → is_in y p ≡ true → is_in y g.nodes ≡ true
    is_node p c y i = let w = entered (nexts g) a p a c.leads y i in nexts_nodes g valid w.0 y w.1

    begun : (p : List Elem) → IsCycle g a p → ClosesSome (nexts g) g.directed [] xs
    begun [] c = let none : 0 < 0 = c.some in absurd (omega arith)
    begun (b ∷ p) c = closes_somewhere g a (b ∷ p) c g.directed refl [] xs (λ y i. refl) (λ y i. all y (is_node (b ∷ p) c y i)) b (head_in b b p refl)
