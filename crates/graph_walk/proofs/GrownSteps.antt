-- Finding the next nodes of one node more.
use Rattle.std.proofs.Common.{◌≡◌, ◌⊎◌, inl, inr, ℕ, ◌+◌, ◌<◌, ◌≤◌, Bool, true, false, cond, ◌||◌, List, [], ◌∷◌, ◌++◌, length, get_or, refl, ap, sym, ◌∙◌, subst, arith, length-append, take}
use Rattle.std.specs.List.{IsDistinct, sum_by}
use Rattle.std.proofs.lemmas.Bool.{cases_lt, cases_Bool, both_ways}
use Rattle.std.proofs.lemmas.List.{get_or_append_left, take-append-le}
use Rattle.std.proofs.lemmas.List.Sums.{sum_by_more}
use Rattle.elem.specs.declared.elements.Elem.{Elem}
use Rattle.elem.specs.Elements.{same}
use Rattle.elem.specs.ElementLaws.{same_equiv}
use Rattle.graph_walk.specs.Graphs.{is_in}
use Rattle.graph_walk.specs.Places.{place}
use Rattle.graph_walk.specs.Paths.{IsReached, calls}
use Rattle.graph_walk.specs.Found.{with_all}
use Rattle.graph_walk.proofs.PlaceLemmas.{first_place-at, first_place-passes, first_place-left, is_in-place, at-place, at-is_in}
use Rattle.graph_walk.proofs.FoundLemmas.{is_in-all, all_distinct, front_stays, place-old, place-new, new_order}
use Rattle.graph_walk.proofs.PathLemmas.{reached_on}
use Rattle.graph_walk.proofs.GrownLemmas.{IsGrown, finder}

module _ (nexts : Elem → List Elem) (a : Elem) where
  pub grown_start : IsGrown nexts a 0 (a ∷ [])
  unfolding IsDistinct
  grown_start =
      let here : same a a ≡ true = same_equiv.refl a in
      let only : (x : Elem) → is_in x (a ∷ []) ≡ true → place x (a ∷ []) ≡ 0 = λ x h. let l : place x (a ∷ []) < 1 = is_in-place x (a ∷ []) h in omega arith in record {
        begun = ap (λ b. b || false) here;
        at_front = ap (λ b. cond b 0 1) here;
        bound = omega arith;
        distinct = (tt, tt);
        reached = λ x h. ([], ap (λ i. get_or (a ∷ []) i a) (sym (only x h)) ∙ at-place x (a ∷ []) a h);
        closed = λ i x l h. absurd (omega arith);
        found = λ x h l. let e = only x h in absurd (omega arith);
        ordered = λ x y p q l m. let e = only x p in absurd (omega arith);
        beside = λ x y o p q r l m s t. let e = only x p in absurd (omega arith);
      }

  module _ (n : ℕ) (xs : List Elem) (h : IsGrown nexts a n xs) (l : n < length xs) where
    abbrev node : Elem
    node = get_or xs n a

    abbrev more : List Elem
    more = with_all (nexts node) xs

    stays : (x : Elem) → is_in x xs ≡ true → is_in x more ≡ true
    stays x i = is_in-all x (nexts node) xs ∙ ap (λ b. b || is_in x (nexts node)) i

    comes : (x : Elem) → is_in x more ≡ true → is_in x xs ≡ false → is_in x (nexts node) ≡ true
    comes x m o = sym (is_in-all x (nexts node) xs ∙ ap (λ b. b || is_in x (nexts node)) o) ∙ m

    from_next : (x : Elem) → is_in x (nexts node) ≡ true → is_in x more ≡ true
    from_next x i = is_in-all x (nexts node) xs ∙ ap (λ b. is_in x xs || b) i ∙ or_yes (is_in x xs)
      where
        or_yes : (b : Bool) → (b || true) ≡ true
        or_yes true = refl
        or_yes false = refl

    old_place : (x : Elem) → is_in x xs ≡ true → place x more ≡ place x xs
    old_place x i = place-old x (nexts node) xs i

    new_place : (x : Elem) → is_in x xs ≡ false → length xs ≤ place x more
    new_place x o = place-new x (nexts node) xs o

    longer : length xs ≤ length more
    longer = let front : (zs : List Elem) × (more ≡ xs ++ zs) = front_stays (nexts node) xs in let e : length more ≡ length xs + length front.0 = ap length front.1 ∙ length-append xs front.0 in omega arith

    at_old : (i : ℕ) → i < length xs → get_or more i a ≡ get_or xs i a
    at_old i k = let front : (zs : List Elem) × (more ≡ xs ++ zs) = front_stays (nexts node) xs in ap (λ zs. get_or zs i a) front.1 ∙ get_or_append_left xs front.0 a i k

    old_finder : (x : Elem) → is_in x xs ≡ true → 0 < place x xs → finder nexts x more ≡ finder nexts x xs
    old_finder x i k =
        let front : (zs : List Elem) × (more ≡ xs ++ zs) = front_stays (nexts node) xs in
        let f : finder nexts x xs < n = h.found x i k in
        ap (finder nexts x) front.1 ∙ first_place-left (λ p. is_in x (nexts p)) xs front.0 (omega arith)

    new_finder : (x : Elem) → is_in x xs ≡ false → is_in x more ≡ true → finder nexts x more ≡ n
    new_finder x o m =
        let long = longer in
        let late : finder nexts x more ≤ n = first_place-at (λ p. is_in x (nexts p)) more n a (omega arith) (ap (λ z. is_in x (nexts z)) (at_old n l) ∙ comes x m o) in
        elim (cases_lt (finder nexts x more) n) [
          | inl k ↦ absurd (both_ways _ o (h.closed (finder nexts x more) x k (ap (λ z. is_in x (nexts z)) (sym (at_old (finder nexts x more) (omega arith))) ∙ first_place-passes (λ p. is_in x (nexts p)) more a (omega arith))))
          | inr k ↦ omega arith
        ]

    old_rank : (x : Elem) → is_in x xs ≡ true → 0 < place x more → 0 < place x xs
    old_rank x i k = let e = old_place x i in omega arith

    more_found : (x : Elem) → is_in x more ≡ true → 0 < place x more → finder nexts x more < n + 1
    more_found x m k = elim (cases_Bool (is_in x xs)) [
      | inl i ↦ let e = old_finder x i (old_rank x i k) in let f = h.found x i (old_rank x i k) in omega arith
      | inr o ↦ let e = new_finder x o m in omega arith
    ]

    more_closed : (i : ℕ) (x : Elem) → i < n + 1 → is_in x (nexts (get_or more i a)) ≡ true → is_in x more ≡ true
    more_closed i x k m = elim (cases_lt i n) [
      | inl j ↦ stays x (h.closed i x j (ap (λ z. is_in x (nexts z)) (sym (at_old i (omega arith))) ∙ m))
      | inr j ↦ let e : i ≡ n = omega arith in from_next x (ap (λ z. is_in x (nexts z)) (sym (ap (λ j. get_or more j a) e ∙ at_old n l)) ∙ m)
    ]

    more_reached : (x : Elem) → is_in x more ≡ true → IsReached nexts a x
    more_reached x m = elim (cases_Bool (is_in x xs)) [
      | inl i ↦ h.reached x i
      | inr o ↦ reached_on nexts a node x (h.reached node (at-is_in xs n a l)) (comes x m o)
    ]

    more_ordered : (x y : Elem) → is_in x more ≡ true → is_in y more ≡ true → 0 < place x more → place x more < place y more → finder nexts x more ≤ finder nexts y more
    more_ordered x y p q k m = by_cases (cases_Bool (is_in x xs)) (cases_Bool (is_in y xs))
      where
        by_cases : (is_in x xs ≡ true) ⊎ (is_in x xs ≡ false) → (is_in y xs ≡ true) ⊎ (is_in y xs ≡ false) → finder nexts x more ≤ finder nexts y more
        by_cases (inl i) (inl j) =
            let d = old_place x i in
            let e = old_place y j in
            let f : finder nexts x more ≡ finder nexts x xs = old_finder x i (omega arith) in
            let g : finder nexts y more ≡ finder nexts y xs = old_finder y j (omega arith) in
            let o : finder nexts x xs ≤ finder nexts y xs = h.ordered x y i j (omega arith) (omega arith) in
            omega arith
        by_cases (inl i) (inr o) =
            let f : finder nexts x more ≡ finder nexts x xs = old_finder x i (old_rank x i k) in
            let g : finder nexts x xs < n = h.found x i (old_rank x i k) in
            let e : finder nexts y more ≡ n = new_finder y o q in
            omega arith
        by_cases (inr o) (inl j) =
            let d : length xs ≤ place x more = new_place x o in
            let e : place y more ≡ place y xs = old_place y j in
            let f : place y xs < length xs = is_in-place y xs j in
            absurd (omega arith)
        by_cases (inr o) (inr u) =
            let d : finder nexts x more ≡ n = new_finder x o p in
            let e : finder nexts y more ≡ n = new_finder y u q in
            omega arith

    more_beside : (x y p : Elem) → is_in x more ≡ true → is_in y more ≡ true → is_in p more ≡ true → 0 < place x more → place x more < place y more → finder nexts x more ≡ place p more → finder nexts y more ≡ place p more → place x (nexts p) < place y (nexts p)
    more_beside x y p i j r k m s t = by_cases (cases_Bool (is_in x xs)) (cases_Bool (is_in y xs))
      where
        found_by : place p more < length xs → get_or xs (place p more) a ≡ p
        found_by f = sym (at_old (place p more) f) ∙ at-place p more a r

        by_cases : (is_in x xs ≡ true) ⊎ (is_in x xs ≡ false) → (is_in y xs ≡ true) ⊎ (is_in y xs ≡ false) → place x (nexts p) < place y (nexts p)
        by_cases (inl u) (inl v) =
            let d : place x more ≡ place x xs = old_place x u in
            let e : place y more ≡ place y xs = old_place y v in
            let f : finder nexts x more ≡ finder nexts x xs = old_finder x u (omega arith) in
            let g : finder nexts y more ≡ finder nexts y xs = old_finder y v (omega arith) in
            let b : finder nexts x xs < n = h.found x u (omega arith) in
            let w : place p more < length xs = omega arith in
            let here : is_in p xs ≡ true = ap (λ z. is_in z xs) (sym (found_by w)) ∙ at-is_in xs (place p more) a w in
            let o : place p more ≡ place p xs = old_place p here in
            h.beside x y p u v here (omega arith) (omega arith) (omega arith) (omega arith)
        by_cases (inl u) (inr o) =
            let f : finder nexts x more ≡ finder nexts x xs = old_finder x u (old_rank x u k) in
            let g : finder nexts x xs < n = h.found x u (old_rank x u k) in
            let e : finder nexts y more ≡ n = new_finder y o j in
            absurd (omega arith)
        by_cases (inr o) (inl v) =
            let d : length xs ≤ place x more = new_place x o in
            let e : place y more ≡ place y xs = old_place y v in
            let f : place y xs < length xs = is_in-place y xs v in
            absurd (omega arith)
        by_cases (inr o) (inr v) =
            let d : finder nexts x more ≡ n = new_finder x o i in
            let e : place p more ≡ n = omega arith in
            let same_node : node ≡ p = ap (λ b. get_or xs b a) (sym e) ∙ found_by (omega arith) in
            subst (λ z. place x (nexts z) < place y (nexts z)) same_node (new_order x y (nexts node) xs o v m)

    pub grown_more : IsGrown nexts a (n + 1) more
    grown_more = record {
      begun = stays a h.begun;
      at_front = old_place a h.begun ∙ h.at_front;
      bound = let long = longer in omega arith;
      distinct = all_distinct (nexts node) xs h.distinct;
      reached = more_reached;
      closed = more_closed;
      found = more_found;
      ordered = more_ordered;
      beside = more_beside;
    }

    pub calls_more : calls nexts (take (n + 1) more) ≡ calls nexts (take n xs) + (1 + length (nexts node))
    calls_more =
        let front : (zs : List Elem) × (more ≡ xs ++ zs) = front_stays (nexts node) xs in
        let long = longer in
        let f : Elem → ℕ = λ x. 1 + length (nexts x) in
        let first : take n more ≡ take n xs = ap (take n) front.1 ∙ take-append-le n xs front.0 (omega arith) in
        sum_by_more f more n a (omega arith) ∙ ap (λ zs. sum_by f zs + f (get_or more n a)) first ∙ ap (λ z. sum_by f (take n xs) + f z) (at_old n l)
