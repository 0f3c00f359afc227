-- Where the next nodes of all found nodes have been found, the list is breadth first.
use Rattle.std.proofs.Common.{◌≡◌, ◌⊎◌, inl, inr, ℕ, ◌+◌, ◌<◌, ◌≤◌, suc, true, List, [], length, get_or, ap, sym, ◌∙◌, subst, arith}
use Rattle.std.proofs.lemmas.Bool.{cases_lt, cases_eq}
use Rattle.elem.specs.declared.elements.Elem.{Elem}
use Rattle.graph_walk.specs.Graphs.{is_in}
use Rattle.graph_walk.specs.Places.{place}
use Rattle.graph_walk.specs.Paths.{Leads, IsReached, IsDistance}
use Rattle.graph_walk.specs.BreadthFirst.{IsParent, IsBreadthFirst}
use Rattle.graph_walk.proofs.PlaceLemmas.{first_place-at, first_place-passes, is_in-place, at-place, at-is_in, place-at, one_place}
use Rattle.graph_walk.proofs.PathLemmas.{IsWithin, within_on, along, along_edges}
use Rattle.graph_walk.proofs.GrownLemmas.{IsGrown, finder}

module _ (nexts : Elem → List Elem) (a : Elem) (xs : List Elem) (h : IsGrown nexts a (length xs) xs) where
  next_found : (x y : Elem) → is_in x xs ≡ true → is_in y (nexts x) ≡ true → is_in y xs ≡ true
  next_found x y i k = h.closed (place x xs) y (is_in-place x xs i) (ap (λ z. is_in y (nexts z)) (at-place x xs a i) ∙ k)

  all_found : (x : Elem) → IsReached nexts a x → is_in x xs ≡ true
  all_found x r = along nexts (λ z. is_in z xs ≡ true) next_found a r.0 x h.begun r.1

  -- a node no later than a next node's finder
  finder_before : (x y : Elem) → is_in x xs ≡ true → is_in y (nexts x) ≡ true → finder nexts y xs ≤ place x xs
  finder_before x y i k = first_place-at (λ p. is_in y (nexts p)) xs (place x xs) a (is_in-place x xs i) (ap (λ z. is_in y (nexts z)) (at-place x xs a i) ∙ k)

  abbrev finder_of : Elem → Elem
  finder_of x = get_or xs (finder nexts x xs) a

  is_found_by : (x : Elem) → is_in x xs ≡ true → 0 < place x xs → is_in x (nexts (finder_of x)) ≡ true
  is_found_by x i k = first_place-passes (λ p. is_in x (nexts p)) xs a (h.found x i k)

  finder_in : (x : Elem) → is_in x xs ≡ true → 0 < place x xs → is_in (finder_of x) xs ≡ true
  finder_in x i k = at-is_in xs (finder nexts x xs) a (h.found x i k)

  finder_place : (x : Elem) → is_in x xs ≡ true → 0 < place x xs → place (finder_of x) xs ≤ finder nexts x xs
  finder_place x i k = place-at xs (finder nexts x xs) a (h.found x i k)

  -- what stands no later is no farther
  abbrev IsAhead : Elem → ℕ → Type 0
  IsAhead y n = (is_in y xs ≡ true) × ((x : Elem) → is_in x xs ≡ true → place x xs ≤ place y xs → IsWithin nexts a x n)

  is_start : (x : Elem) → is_in x xs ≡ true → place x xs ≡ 0 → a ≡ x
  is_start x i e = one_place a x xs h.begun i (h.at_front ∙ sym e)

  ahead_start : IsAhead a 0
  ahead_start = (h.begun, λ x i k. let e = h.at_front in ([], is_start x i (omega arith), omega arith))

  ahead_next : (x y : Elem) (n : ℕ) → IsAhead x n → is_in y (nexts x) ≡ true → IsAhead y (suc n)
  ahead_next x y n w k = (next_found x y w.0 k, λ z i m. by_case z i m (cases_lt 0 (place z xs)))
    where
      finders : (z : Elem) → is_in z xs ≡ true → place z xs ≤ place y xs → 0 < place z xs → finder nexts z xs ≤ finder nexts y xs
      finders z i m l = elim (cases_eq (place z xs) (place y xs)) [
        | inl e ↦ let s : z ≡ y = one_place z y xs i (next_found x y w.0 k) e in subst (λ u. finder nexts z xs ≤ finder nexts u xs) s (omega arith)
        | inr ne ↦ h.ordered z y i (next_found x y w.0 k) l (omega arith)
      ]

      by_case : (z : Elem) → is_in z xs ≡ true → place z xs ≤ place y xs → (0 < place z xs) ⊎ (place z xs ≤ 0) → IsWithin nexts a z (suc n)
      by_case z i m (inl l) =
          let f : finder nexts z xs ≤ finder nexts y xs = finders z i m l in
          let g : finder nexts y xs ≤ place x xs = finder_before x y w.0 k in
          let e : place (finder_of z) xs ≤ finder nexts z xs = finder_place z i l in
          within_on nexts a (finder_of z) z n (w.1 (finder_of z) (finder_in z i l) (omega arith)) (is_found_by z i l)
      by_case z i m (inr l) = ([], is_start z i (omega arith), omega arith)

  ahead : (y : Elem) (path : List Elem) → Leads nexts a path y → IsAhead y (length path)
  ahead y path l = let e : 0 + length path ≡ length path = omega arith in subst (λ n. IsAhead y n) e (along_edges nexts IsAhead ahead_next a 0 path y ahead_start l)

  -- what stands no later has a path no longer
  no_longer : (x y : Elem) (k l : ℕ) → IsDistance nexts a x k → IsDistance nexts a y l → place x xs ≤ place y xs → k ≤ l
  no_longer x y k l d e m =
      let w : IsWithin nexts a x (length e.path) = (ahead y e.path e.leads).1 x (all_found x (d.path, d.leads)) m in
      let s : k ≤ length w.0 = d.shortest w.0 w.1 in
      let t : length w.0 ≤ length e.path = w.2 in
      let u : length e.path ≡ l = e.edges in
      omega arith

  is_nearer : (x y : Elem) (k l : ℕ) → IsDistance nexts a x k → IsDistance nexts a y l → k < l → place x xs < place y xs
  is_nearer x y k l d e m = elim (cases_lt (place x xs) (place y xs)) [ inl p ↦ p | inr p ↦ let q : l ≤ k = no_longer y x l k e d p in absurd (omega arith) ]

  module _ (p x : Elem) (parent : IsParent nexts a xs p x) where
    parent_in : is_in p xs ≡ true
    parent_in = all_found p (parent.nearer.path, parent.nearer.leads)

    child_in : is_in x xs ≡ true
    child_in = all_found x (parent.farther.path, parent.farther.leads)

    child_behind : 0 < place x xs
    child_behind = elim (cases_lt 0 (place x xs)) [
      | inl l ↦ l
      | inr l ↦ let none : suc parent.distance ≤ 0 = parent.farther.shortest [] (is_start x child_in (omega arith)) in absurd (omega arith)
    ]

    -- the finder is as near as the parent
    finder_near : IsDistance nexts a (finder_of x) parent.distance
    finder_near =
        let late : finder nexts x xs ≤ place p xs = finder_before p x parent_in parent.next in
        let early : place (finder_of x) xs ≤ finder nexts x xs = finder_place x child_in child_behind in
        let w : IsWithin nexts a (finder_of x) (length parent.nearer.path) = (ahead p parent.nearer.path parent.nearer.leads).1 (finder_of x) (finder_in x child_in child_behind) (omega arith) in
        let far : (path : List Elem) → Leads nexts a path (finder_of x) → parent.distance ≤ length path = λ path l.
        let v : IsWithin nexts a x (suc (length path)) = within_on nexts a (finder_of x) x (length path) (path, l, omega arith) (is_found_by x child_in child_behind) in
        let s : suc parent.distance ≤ length v.0 = parent.farther.shortest v.0 v.1 in
        let t : length v.0 ≤ suc (length path) = v.2 in
        omega arith in
        let s : parent.distance ≤ length w.0 = far w.0 w.1 in
        let t : length w.0 ≤ length parent.nearer.path = w.2 in
        let u : length parent.nearer.path ≡ parent.distance = parent.nearer.edges in
        record { path = w.0; leads = w.1; edges = omega arith; shortest = far }

    pub parent-finder : finder nexts x xs ≡ place p xs
    parent-finder =
        let late : finder nexts x xs ≤ place p xs = finder_before p x parent_in parent.next in
        let early : place (finder_of x) xs ≤ finder nexts x xs = finder_place x child_in child_behind in
        let first : place p xs ≤ place (finder_of x) xs = parent.first (finder_of x) finder_near (is_found_by x child_in child_behind) in
        omega arith

  by_parents : (x y p q : Elem) → IsParent nexts a xs p x → IsParent nexts a xs q y → place p xs < place q xs → place x xs < place y xs
  by_parents x y p q s t l =
      let e : finder nexts x xs ≡ place p xs = parent-finder p x s in
      let f : finder nexts y xs ≡ place q xs = parent-finder q y t in
      elim (cases_lt (place x xs) (place y xs)) [
        | inl m ↦ m
        | inr m ↦ elim (cases_eq (place y xs) (place x xs)) [
          | inl z ↦ let one : y ≡ x = one_place y x xs (child_in q y t) (child_in p x s) z in let both : finder nexts y xs ≡ finder nexts x xs = ap (λ u. finder nexts u xs) one in absurd (omega arith)
          | inr z ↦ let o : finder nexts y xs ≤ finder nexts x xs = h.ordered y x (child_in q y t) (child_in p x s) (child_behind q y t) (omega arith) in absurd (omega arith)
        ]
      ]

  by_siblings : (x y p : Elem) → IsParent nexts a xs p x → IsParent nexts a xs p y → place x (nexts p) < place y (nexts p) → place x xs < place y xs
  by_siblings x y p s t l =
      let e : finder nexts x xs ≡ place p xs = parent-finder p x s in
      let f : finder nexts y xs ≡ place p xs = parent-finder p y t in
      elim (cases_lt (place x xs) (place y xs)) [
        | inl m ↦ m
        | inr m ↦ elim (cases_eq (place y xs) (place x xs)) [
          | inl z ↦ let one : y ≡ x = one_place y x xs (child_in p y t) (child_in p x s) z in let both : place y (nexts p) ≡ place x (nexts p) = ap (λ u. place u (nexts p)) one in absurd (omega arith)
          | inr z ↦ let o : place y (nexts p) < place x (nexts p) = h.beside y x p (child_in p y t) (child_in p x s) (parent_in p x s) (child_behind p y t) (omega arith) f e in absurd (omega arith)
        ]
      ]

  pub breadth_first : IsBreadthFirst nexts a xs
  breadth_first = record {
    reached = record { exact = λ x. (h.reached x, all_found x); distinct = h.distinct };
    nearer = is_nearer;
    parents = by_parents;
    siblings = by_siblings;
  }
