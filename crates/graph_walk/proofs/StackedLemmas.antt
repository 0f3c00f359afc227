-- Where a node is left, its late next nodes stand on the stack.
use Rattle.std.proofs.Common.{◌≡◌, ◌⊎◌, inl, inr, Bool, true, false, ◌||◌, List, [], ◌∷◌, ◌++◌, refl, ap, sym, ◌∙◌}
use Rattle.std.specs.List.{IsDistinct, AllByRecursion}
use Rattle.std.proofs.lemmas.Bool.{cases_Bool, both_ways}
use Rattle.std.proofs.lemmas.Map.Keys.{IsDistinct-cons}
use Rattle.elem.specs.declared.elements.Elem.{Elem}
use Rattle.elem.specs.Elements.{same}
use Rattle.elem.specs.ElementLaws.{same-Decides}
use Rattle.graph_walk.specs.Graphs.{is_in}
use Rattle.graph_walk.specs.Found.{with_new, with_all}
use Rattle.graph_walk.specs.DepthFirst.{Visits, ended, passed, visited}
use Rattle.graph_walk.specs.Late.{IsLate}
use Rattle.graph_walk.proofs.PlaceLemmas.{same-is, in_tail, in_front, in_last, front_or_last}
use Rattle.graph_walk.proofs.FoundLemmas.{is_in-all}
use Rattle.graph_walk.proofs.VisitLemmas.{keeps, enters_all, keeps_left, leaves}

pub head_in : (z y : Elem) (ys : List Elem) → z ≡ y → is_in z (y ∷ ys) ≡ true
head_in z y ys e = ap (λ b. b || is_in z ys) ((same-Decides z y).1 e)

pub head_or_tail : (z y : Elem) (ys : List Elem) → is_in z (y ∷ ys) ≡ true → (z ≡ y) ⊎ (is_in z ys ≡ true)
head_or_tail z y ys = by_case (same z y) refl
  where
    by_case : (b : Bool) → same z y ≡ b → (b || is_in z ys) ≡ true → (z ≡ y) ⊎ (is_in z ys ≡ true)
    by_case true e h = inl (same-is z y e)
    by_case false e h = inr h

pub neither : (b c : Bool) → (b || c) ≡ false → (b ≡ false) × (c ≡ false)
neither true c h = absurd (both_ways _ h refl)
neither false c h = (refl, h)

-- an element that is not in a list differs from all in it
pub all_apart : (y : Elem) (xs : List Elem) → is_in y xs ≡ false → AllByRecursion (λ z. same y z ≡ false) xs
all_apart y [] h = tt
all_apart y (x ∷ xs) h = let n = neither (same y x) (is_in y xs) h in (n.0, all_apart y xs n.1)

pub none_in : (y : Elem) (xs : List Elem) → AllByRecursion (λ z. same y z ≡ false) xs → is_in y xs ≡ false
none_in y [] h = refl
none_in y (x ∷ xs) h = ap (λ b. b || is_in y xs) h.0 ∙ none_in y xs h.1

-- an element is not in a list that has nothing but what another list has
pub not_in : (y : Elem) (xs : List Elem) → (is_in y xs ≡ true → ⊥) → is_in y xs ≡ false
not_in y xs h = elim (cases_Bool (is_in y xs)) [ inl i ↦ absurd (h i) | inr o ↦ o ]

module _ (nexts : Elem → List Elem) where
  -- the stack above a node: each is a next node of the one above it
  abbrev pub IsStack : Elem → List Elem → Type 0
  IsStack x [] = Unit {0}
  IsStack x (p ∷ s) = (is_in x (nexts p) ≡ true) × IsStack p s

  -- the late next nodes of a node are on a stack above it, or the node itself
  pub record IsSettled (before : List Elem) (x : Elem) : Type 0 where
    pub stack : List Elem
    pub stands : IsStack x stack
    pub distinct : IsDistinct same (x ∷ stack)
    pub late : (y : Elem) → IsLate nexts before x y → is_in y (x ∷ stack) ≡ true

  abbrev pub AreSettled : List Elem → List Elem → Type 0
  AreSettled before [] = Unit {0}
  AreSettled before (x ∷ xs) = IsSettled before x × AreSettled (with_new x before) xs

  settled_push : (before xs : List Elem) (x : Elem) → AreSettled before xs → IsSettled (with_all xs before) x → AreSettled before (xs ++ x ∷ [])
  settled_push before [] x h s = (s, tt)
  settled_push before (y ∷ ys) x h s = (h.0, settled_push (with_new y before) ys x h.1 s)

  -- what was entered and not left is the stack, and what is to be visited comes from its top
  pub record IsOpen (xs e l s : List Elem) : Type 0 where
    pub held : (z : Elem) → is_in z e ≡ true → is_in z l ≡ false → is_in z s ≡ true
    pub inside : (z : Elem) → is_in z s ≡ true → is_in z e ≡ true
    pub stands : (x : Elem) → is_in x xs ≡ true → IsStack x s
    pub distinct : IsDistinct same s

  -- one node is visited
  module _ (y : Elem) (ys e l f l' s : List Elem) (new : is_in y e ≡ false) (v : Visits nexts (nexts y) (e ++ y ∷ []) l f l') (h : IsOpen (y ∷ ys) e l s) where
    not_on : is_in y s ≡ false
    not_on = not_in y s (λ i. both_ways _ new (h.inside y i))

    with_it : IsDistinct same (y ∷ s)
    with_it = IsDistinct-cons same y s (all_apart y s not_on) h.distinct

    itself : IsStack y s
    itself = h.stands y (head_in y y ys refl)

    inner : IsOpen (nexts y) (e ++ y ∷ []) l (y ∷ s)
    inner = record {
      held = λ z i o. elim (front_or_last z y e i) [ inl p ↦ in_tail z y s (h.held z p o) | inr q ↦ head_in z y s q ];
      inside = λ z i. elim (head_or_tail z y s i) [ inl q ↦ ap (λ u. is_in u (e ++ y ∷ [])) q ∙ in_last y e | inr p ↦ in_front z y e (h.inside z p) ];
      stands = λ x i. (i, itself);
      distinct = with_it;
    }

    on_stack : (z : Elem) → is_in z f ≡ true → is_in z l' ≡ false → is_in z (y ∷ s) ≡ true
    on_stack z i o = elim (cases_Bool (is_in z (e ++ y ∷ []))) [
      | inr n ↦ absurd (both_ways _ o (leaves nexts v z i n))
      | inl p ↦ inner.held z p (not_in z l (λ j. both_ways _ o (keeps_left nexts v z j)))
    ]

    here : IsSettled (with_all l' []) y
    here = record { stack = s; stands = itself; distinct = with_it; late = λ z t. on_stack z (enters_all nexts v z t.next) (sym (is_in-all z l' []) ∙ t.behind) }

    later : IsOpen ys f (l' ++ y ∷ []) s
    later = record {
      held = λ z i o. elim (head_or_tail z y s (on_stack z i (not_in z l' (λ j. both_ways _ o (in_front z y l' j))))) [
        | inl q ↦ absurd (both_ways _ o (ap (λ u. is_in u (l' ++ y ∷ [])) q ∙ in_last y l'))
        | inr p ↦ p
      ];
      inside = λ z p. keeps nexts v z (in_front z y e (h.inside z p));
      stands = λ x i. h.stands x (in_tail x y ys i);
      distinct = h.distinct;
    }

  pub settles : {xs e l f m : List Elem} → Visits nexts xs e l f m → (s : List Elem) → IsOpen xs e l s → AreSettled [] l → AreSettled [] m
  settles ended s h k = k
  settles (passed {x = y} {xs = ys} j v) s h k = settles v s (record { held = h.held; inside = h.inside; stands = λ x i. h.stands x (in_tail x y ys i); distinct = h.distinct }) k
  settles (visited {x = y} {xs = ys} {entered = e} {left = l} {entered' = f} {left' = l'} j v w) s h k =
      settles w s (later y ys e l f l' s j v h) (settled_push [] l' y (settles v (y ∷ s) (inner y ys e l f l' s j v h) k) (here y ys e l f l' s j v h))

  -- all that is left by a visit from nothing
  pub all_settled : {xs f m : List Elem} → Visits nexts xs [] [] f m → AreSettled [] m
  unfolding IsDistinct
  all_settled v = settles v [] (record { held = λ z i o. i; inside = λ z i. i; stands = λ x i. tt; distinct = tt }) tt

  -- visits one after another
  pub visits_on : {x : Elem} {xs e l f m f' m' : List Elem} → Visits nexts (x ∷ []) e l f m → Visits nexts xs f m f' m' → Visits nexts (x ∷ xs) e l f' m'
  visits_on (passed i ended) w = passed i w
  visits_on (visited i v ended) w = visited i v w
