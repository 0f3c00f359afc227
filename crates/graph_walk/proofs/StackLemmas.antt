-- One step of a visit, by its stack.
use Rattle.std.proofs.Common.{◌≡◌, ◌⊎◌, inl, inr, ℕ, ◌+◌, ◌<◌, ◌≤◌, suc, Bool, true, false, cond, ◌||◌, List, [], ◌∷◌, ◌++◌, Option, Some, None, slice_get, length, reverse, refl, ap, sym, ◌∙◌, subst, arith}
use Rattle.std.proofs.lemmas.Bool.{cases_Bool, both_ways}
use Rattle.std.proofs.lemmas.List.{reverse-append}
use Rattle.std.proofs.lemmas.List.Sums.{sum_by_push}
use Rattle.elem.specs.declared.elements.Elem.{Elem}
use Rattle.elem.specs.Elements.{same}
use Rattle.graph_walk.specs.declared.depth_stack.Frame.{Frame}
use Rattle.graph_walk.specs.Graphs.{Graph, IsValid, is_in, nexts}
use Rattle.graph_walk.specs.Places.{after, left_at, IsAmong}
use Rattle.graph_walk.specs.Paths.{calls}
use Rattle.graph_walk.specs.Found.{with_new}
use Rattle.graph_walk.specs.DepthFirst.{Visits, ended, passed, visited}
use Rattle.graph_walk.specs.Stacks.{begun, to_visit, Finishes, AreFrames, pending, unentered}
use Rattle.graph_walk.proofs.PlaceLemmas.{same-is, in_front, in_last}
use Rattle.graph_walk.proofs.TurnLemmas.{left-first, left-after, first_among}
use Rattle.graph_walk.proofs.NextsLemmas.{nexts_distinct}

pub reverse-push : (fs : List Frame) (f : Frame) → reverse (fs ++ f ∷ []) ≡ f ∷ reverse fs
reverse-push fs f = reverse-append fs (f ∷ [])

-- the stack from its top on, where one frame or two have been put on it
pub reverse-pushes : (b : Bool) (fs : List Frame) (f h : Frame) → reverse (cond b (fs ++ f ∷ []) ((fs ++ f ∷ []) ++ h ∷ [])) ≡ cond b (f ∷ reverse fs) (h ∷ f ∷ reverse fs)
reverse-pushes true fs f h = reverse-push fs f
reverse-pushes false fs f h = reverse-push (fs ++ f ∷ []) h ∙ ap (λ gs. h ∷ gs) (reverse-push fs f)

pub stack_on : (b : Bool) (before pushed after : List Frame) (f h : Frame) → pushed ≡ before ++ f ∷ [] → after ≡ cond b pushed (pushed ++ h ∷ []) → reverse after ≡ cond b (f ∷ reverse before) (h ∷ f ∷ reverse before)
stack_on b before pushed after f h p e = ap reverse (e ∙ ap (λ fs. cond b fs (fs ++ h ∷ [])) p) ∙ reverse-pushes b before f h

-- what is left to visit begins with the next one
pub turned_on : (g : Graph) → IsValid g → (f : Frame) (x : Elem) (o : Option Elem) → f.next ≡ Some x → is_in x (nexts g f.node) ≡ true → o ≡ after x (nexts g f.node) → to_visit (nexts g) f ≡ x ∷ left_at o (nexts g f.node)
turned_on g valid f x o is there e = ap (λ p. left_at p (nexts g f.node)) is ∙ left-after x (nexts g f.node) (nexts_distinct g valid f.node) there ∙ ap (λ p. x ∷ left_at p (nexts g f.node)) (sym e)

module _ (nexts : Elem → List Elem) where
  -- the same said of equal stacks and lists
  pub finishes_same : (fs gs : List Frame) (e e' l l' f m : List Elem) → fs ≡ gs → e ≡ e' → l ≡ l' → Finishes nexts fs e l f m → Finishes nexts gs e' l' f m
  finishes_same fs gs e e' l l' f m p q r h = subst (λ hs. Finishes nexts hs e' l' f m) p (subst (λ x. Finishes nexts fs x l' f m) q (subst (λ x. Finishes nexts fs e x f m) r h))

  pub finishes_left : (f : Frame) (fs : List Frame) (e l e' l' : List Elem) → f.next ≡ None → Finishes nexts fs e (l ++ f.node ∷ []) e' l' → Finishes nexts (f ∷ fs) e l e' l'
  finishes_left f fs e l e' l' none h = (e, l, subst (λ xs. Visits nexts xs e l e l) (sym (ap (λ o. left_at o (nexts f.node)) none)) ended, h)

  fewer : (x : Elem) (e : List Elem) → (nodes : List Elem) → unentered nexts nodes (e ++ x ∷ []) ≤ unentered nexts nodes e
  fewer x e [] = omega arith
  fewer x e (y ∷ ys) = by_case (cases_Bool (is_in y e)) (cases_Bool (is_in y (e ++ x ∷ []))) (fewer x e ys)
    where
      by_case : (is_in y e ≡ true) ⊎ (is_in y e ≡ false) → (is_in y (e ++ x ∷ []) ≡ true) ⊎ (is_in y (e ++ x ∷ []) ≡ false) → unentered nexts ys (e ++ x ∷ []) ≤ unentered nexts ys e → unentered nexts (y ∷ ys) (e ++ x ∷ []) ≤ unentered nexts (y ∷ ys) e
      by_case (inl i) (inl j) r = let s : cond (is_in y (e ++ x ∷ [])) 0 (1 + length (nexts y)) ≡ 0 = ap (λ b. cond b 0 (1 + length (nexts y))) j in omega arith
      by_case (inl i) (inr n) r = absurd (both_ways _ n (in_front y x e i))
      by_case (inr n) (inl j) r = let s : cond (is_in y (e ++ x ∷ [])) 0 (1 + length (nexts y)) ≡ 0 = ap (λ b. cond b 0 (1 + length (nexts y))) j in omega arith
      by_case (inr n) (inr o) r = let s : cond (is_in y (e ++ x ∷ [])) 0 (1 + length (nexts y)) ≡ 1 + length (nexts y) = ap (λ b. cond b 0 (1 + length (nexts y))) o in let t : cond (is_in y e) 0 (1 + length (nexts y)) ≡ 1 + length (nexts y) = ap (λ b. cond b 0 (1 + length (nexts y))) n in omega arith

  pub entering : (x : Elem) (e : List Elem) → is_in x e ≡ false → (nodes : List Elem) → is_in x nodes ≡ true → unentered nexts nodes (e ++ x ∷ []) + (1 + length (nexts x)) ≤ unentered nexts nodes e
  entering x e new [] i = absurd (both_ways _ refl i)
  entering x e new (y ∷ ys) i = by_case (same x y) refl i (entering x e new ys)
    where
      by_case : (b : Bool) → same x y ≡ b → (b || is_in x ys) ≡ true → (is_in x ys ≡ true → unentered nexts ys (e ++ x ∷ []) + (1 + length (nexts x)) ≤ unentered nexts ys e) → unentered nexts (y ∷ ys) (e ++ x ∷ []) + (1 + length (nexts x)) ≤ unentered nexts (y ∷ ys) e
      by_case true s k rest =
          let here : x ≡ y = same-is x y s in
          let gone : cond (is_in y (e ++ x ∷ [])) 0 (1 + length (nexts y)) ≡ 0 = ap (λ b. cond b 0 (1 + length (nexts y))) (ap (λ z. is_in z (e ++ x ∷ [])) (sym here) ∙ in_last x e) in
          let there : cond (is_in y e) 0 (1 + length (nexts y)) ≡ 1 + length (nexts y) = ap (λ b. cond b 0 (1 + length (nexts y))) (ap (λ z. is_in z e) (sym here) ∙ new) in
          let deg : length (nexts x) ≡ length (nexts y) = ap (λ z. length (nexts z)) here in
          let r : unentered nexts ys (e ++ x ∷ []) ≤ unentered nexts ys e = fewer x e ys in
          omega arith
      by_case false s k rest =
          let r : unentered nexts ys (e ++ x ∷ []) + (1 + length (nexts x)) ≤ unentered nexts ys e = rest k in
          let head : unentered nexts (y ∷ []) (e ++ x ∷ []) ≤ unentered nexts (y ∷ []) e = fewer x e (y ∷ []) in
          omega arith

  module _ (f : Frame) (fs : List Frame) (x : Elem) (o : Option Elem) (turned : to_visit nexts f ≡ x ∷ left_at o (nexts f.node)) where
    abbrev on : Frame
    on = record { node = f.node; next = o }

    -- the stack after the step
    abbrev stepped : Bool → List Frame
    stepped b = cond b (on ∷ fs) (begun nexts x ∷ on ∷ fs)

    pub finishes_on : (e l e' l' : List Elem) → Finishes nexts (stepped (is_in x e)) (with_new x e) l e' l' → Finishes nexts (f ∷ fs) e l e' l'
    finishes_on e l e' l' = by_case (is_in x e) refl
      where
        rest : List Elem
        rest = left_at o (nexts f.node)

        by_case : (b : Bool) → is_in x e ≡ b → Finishes nexts (stepped b) (cond b e (e ++ x ∷ [])) l e' l' → Finishes nexts (f ∷ fs) e l e' l'
        by_case true i h = (h.0, h.1, subst (λ xs. Visits nexts xs e l h.0 h.1) (sym turned) (passed i h.2), h.3)
        by_case false i h =
            let first : Visits nexts (nexts x) (e ++ x ∷ []) l h.0 h.1 = subst (λ xs. Visits nexts xs (e ++ x ∷ []) l h.0 h.1) (left-first (nexts x)) h.2 in
            let then : Finishes nexts (on ∷ fs) h.0 (h.1 ++ x ∷ []) e' l' = h.3 in
            (then.0, then.1, subst (λ xs. Visits nexts xs e l then.0 then.1) (sym turned) (visited i first then.2), then.3)

    pub frames_on : (nodes : List Elem) (b : Bool) → AreFrames nexts nodes (f ∷ fs) → is_in x nodes ≡ true → IsAmong o (nexts f.node) → AreFrames nexts nodes (stepped b)
    frames_on nodes true h i a = ((h.0.0, a), h.1)
    frames_on nodes false h i a = ((i, first_among (nexts x)), ((h.0.0, a), h.1))

    -- the calls that are still to be made
    pub calls_on : (e : List Elem) (before after : ℕ) → after ≡ before + 1 + cond (is_in x e) 0 1 → after + pending nexts (stepped (is_in x e)) + calls nexts e ≡ before + pending nexts (f ∷ fs) + calls nexts (with_new x e)
    calls_on e before after = by_case (is_in x e)
      where
        lengths : length (to_visit nexts f) ≡ suc (length (left_at o (nexts f.node)))
        lengths = ap length turned

        by_case : (b : Bool) → after ≡ before + 1 + cond b 0 1 → after + pending nexts (stepped b) + calls nexts e ≡ before + pending nexts (f ∷ fs) + calls nexts (cond b e (e ++ x ∷ []))
        by_case true s = let t = lengths in omega arith
        by_case false s =
            let t = lengths in
            let first : length (left_at (slice_get (nexts x) 0) (nexts x)) ≡ length (nexts x) = ap length (left-first (nexts x)) in
            let more : calls nexts (e ++ x ∷ []) ≡ calls nexts e + (1 + length (nexts x)) = sum_by_push (λ y. 1 + length (nexts y)) e x in
            omega arith

    -- each step leaves less work
    pub work_on : (nodes e : List Elem) → is_in x nodes ≡ true → unentered nexts nodes (with_new x e) + pending nexts (stepped (is_in x e)) + length (stepped (is_in x e)) < unentered nexts nodes e + pending nexts fs + length fs + pending nexts (f ∷ []) + 1
    work_on nodes e i = by_case (is_in x e) refl
      where
        lengths : length (to_visit nexts f) ≡ suc (length (left_at o (nexts f.node)))
        lengths = ap length turned

        by_case : (b : Bool) → is_in x e ≡ b → unentered nexts nodes (cond b e (e ++ x ∷ [])) + pending nexts (stepped b) + length (stepped b) < unentered nexts nodes e + pending nexts fs + length fs + pending nexts (f ∷ []) + 1
        by_case true h = let t = lengths in omega arith
        by_case false h =
            let t = lengths in
            let first : length (left_at (slice_get (nexts x) 0) (nexts x)) ≡ length (nexts x) = ap length (left-first (nexts x)) in
            let less : unentered nexts nodes (e ++ x ∷ []) + (1 + length (nexts x)) ≤ unentered nexts nodes e = entering x e h nodes i in
            omega arith

    pub nearer_on : (nodes e e' : List Elem) (gs : List Frame) → is_in x nodes ≡ true → e' ≡ with_new x e → gs ≡ stepped (is_in x e) → unentered nexts nodes e' + pending nexts gs + length gs < unentered nexts nodes e + pending nexts fs + length fs + pending nexts (f ∷ []) + 1
    nearer_on nodes e e' gs i p q =
        let w = work_on nodes e i in
        let u : unentered nexts nodes e' ≡ unentered nexts nodes (with_new x e) = ap (unentered nexts nodes) p in
        let v : pending nexts gs ≡ pending nexts (stepped (is_in x e)) = ap (pending nexts) q in
        let n : length gs ≡ length (stepped (is_in x e)) = ap length q in
        omega (arith, w)

  module _ (a : Elem) (e : List Elem) where
    -- the stack where the visit of a begins
    abbrev opened : Bool → List Frame
    opened b = cond b [] (begun nexts a ∷ [])

    pub opened_stack : (b : Bool) (before after : List Frame) → before ≡ [] → after ≡ cond b before (before ++ begun nexts a ∷ []) → reverse after ≡ opened b
    opened_stack b before after p q = ap reverse (q ∙ ap (λ fs. cond b fs (fs ++ begun nexts a ∷ [])) p) ∙ by_case b
      where
        by_case : (b : Bool) → reverse (cond b [] ([] ++ begun nexts a ∷ [])) ≡ opened b
        by_case true = refl
        by_case false = refl

    stays_ended : (f m f' m' : List Elem) → f ≡ f' → m ≡ m' → Visits nexts [] f m f' m'
    stays_ended f m f' m' p q = subst (λ h. Visits nexts [] f m h m') p (subst (λ h. Visits nexts [] f m f h) q ended)

    pub opened_visits : (l e' l' : List Elem) → Finishes nexts (opened (is_in a e)) (with_new a e) l e' l' → Visits nexts (a ∷ []) e l e' l'
    opened_visits l e' l' = by_case (is_in a e) refl
      where
        by_case : (b : Bool) → is_in a e ≡ b → Finishes nexts (opened b) (cond b e (e ++ a ∷ [])) l e' l' → Visits nexts (a ∷ []) e l e' l'
        by_case true i h = passed i (stays_ended e l e' l' h.0 h.1)
        by_case false i h = visited i (subst (λ xs. Visits nexts xs (e ++ a ∷ []) l h.0 h.1) (left-first (nexts a)) h.2) (stays_ended h.0 (h.1 ++ a ∷ []) e' l' h.3.0 h.3.1)

    pub opened_frames : (nodes : List Elem) (b : Bool) → is_in a nodes ≡ true → AreFrames nexts nodes (opened b)
    opened_frames nodes true i = tt
    opened_frames nodes false i = ((i, first_among (nexts a)), tt)

    pub opened_calls : (before after : ℕ) → after ≡ before + cond (is_in a e) 0 1 → after + pending nexts (opened (is_in a e)) + calls nexts e ≡ before + calls nexts (with_new a e)
    opened_calls before after = by_case (is_in a e)
      where
        by_case : (b : Bool) → after ≡ before + cond b 0 1 → after + pending nexts (opened b) + calls nexts e ≡ before + calls nexts (cond b e (e ++ a ∷ []))
        by_case true s = omega arith
        by_case false s =
            let first : length (left_at (slice_get (nexts a) 0) (nexts a)) ≡ length (nexts a) = ap length (left-first (nexts a)) in
            let more : calls nexts (e ++ a ∷ []) ≡ calls nexts e + (1 + length (nexts a)) = sum_by_push (λ y. 1 + length (nexts y)) e a in
            omega arith
