-- What a visit of nodes enters and leaves.
use Rattle.std.proofs.Common.{◌≡◌, ◌+◌, length, arith, ◌⊎◌, inl, inr, Bool, true, false, ◌||◌, List, [], ◌∷◌, ◌++◌, refl, ap, sym, ◌∙◌, subst}
use Rattle.std.specs.List.{IsDistinct}
use Rattle.std.proofs.lemmas.Bool.{cases_Bool, both_ways}
use Rattle.std.proofs.lemmas.List.Sums.{sum_by_push}
use Rattle.std.proofs.lemmas.Map.Keys.{IsDistinct-push}
use Rattle.elem.specs.declared.elements.Elem.{Elem}
use Rattle.elem.specs.Elements.{same}
use Rattle.elem.specs.ElementLaws.{same_equiv}
use Rattle.graph_walk.specs.Graphs.{is_in}
use Rattle.graph_walk.specs.Paths.{IsReached, AreReached, calls}
use Rattle.graph_walk.specs.DepthFirst.{Visits, ended, passed, visited}
use Rattle.graph_walk.proofs.PlaceLemmas.{same-is, in_tail, in_front, in_last, front_or_last}
use Rattle.graph_walk.proofs.PathLemmas.{reached_on, along}

module _ (nexts : Elem → List Elem) where
  pub keeps : {xs e l f m : List Elem} → Visits nexts xs e l f m → (x : Elem) → is_in x e ≡ true → is_in x f ≡ true
  keeps ended x i = i
  keeps (passed j v) x i = keeps v x i
  keeps (visited {x = y} {entered = e} j v w) x i = keeps w x (keeps v x (in_front x y e i))

  pub enters_all : {xs e l f m : List Elem} → Visits nexts xs e l f m → (x : Elem) → is_in x xs ≡ true → is_in x f ≡ true
  enters_all ended x i = absurd (both_ways _ refl i)
  enters_all (passed {x = y} {xs = ys} {entered' = f} j v) x i = by_case (same x y) refl i (keeps v y j) (enters_all v x)
    where
      by_case : (b : Bool) → same x y ≡ b → (b || is_in x ys) ≡ true → is_in y f ≡ true → (is_in x ys ≡ true → is_in x f ≡ true) → is_in x f ≡ true
      by_case true s k here rest = ap (λ z. is_in z f) (same-is x y s) ∙ here
      by_case false s k here rest = rest k
  enters_all (visited {x = y} {xs = ys} {entered = e} {entered'' = f} j v w) x i = by_case (same x y) refl i (keeps w y (keeps v y (in_last y e))) (enters_all w x)
    where
      by_case : (b : Bool) → same x y ≡ b → (b || is_in x ys) ≡ true → is_in y f ≡ true → (is_in x ys ≡ true → is_in x f ≡ true) → is_in x f ≡ true
      by_case true s k here rest = ap (λ z. is_in z f) (same-is x y s) ∙ here
      by_case false s k here rest = rest k

  -- of what is newly entered all next nodes are entered
  pub closed : {xs e l f m : List Elem} → Visits nexts xs e l f m → (x y : Elem) → is_in x f ≡ true → is_in x e ≡ false → is_in y (nexts x) ≡ true → is_in y f ≡ true
  closed ended x y i o k = absurd (both_ways _ o i)
  closed (passed j v) x y i o k = closed v x y i o k
  closed (visited {x = z} {entered = e} {entered' = f} {entered'' = f'} j v w) x y i o k = by_case (cases_Bool (is_in x f)) (cases_Bool (is_in x (e ++ z ∷ []))) (λ n. closed w x y i n k) (λ p n. keeps w y (closed v x y p n k)) (λ e. keeps w y (enters_all v y (ap (λ u. is_in y (nexts u)) (sym e) ∙ k)))
    where
      by_case : (is_in x f ≡ true) ⊎ (is_in x f ≡ false) → (is_in x (e ++ z ∷ []) ≡ true) ⊎ (is_in x (e ++ z ∷ []) ≡ false) → (is_in x f ≡ false → is_in y f' ≡ true) → (is_in x f ≡ true → is_in x (e ++ z ∷ []) ≡ false → is_in y f' ≡ true) → (x ≡ z → is_in y f' ≡ true) → is_in y f' ≡ true
      by_case (inr n) c later inner here = later n
      by_case (inl p) (inr n) later inner here = inner p n
      by_case (inl p) (inl q) later inner here = elim (front_or_last x z e q) [ inl r ↦ absurd (both_ways _ o r) | inr s ↦ here s ]

  -- what holds of the visited nodes, of the entered ones and of each next node holds of what is entered thereafter
  pub holds_of_entered : (P : Elem → Type 0) → ((x y : Elem) → P x → is_in y (nexts x) ≡ true → P y) → {xs e l f m : List Elem} → Visits nexts xs e l f m → ((x : Elem) → is_in x xs ≡ true → P x) → ((x : Elem) → is_in x e ≡ true → P x) → (x : Elem) → is_in x f ≡ true → P x
  holds_of_entered P step ended all old x i = old x i
  holds_of_entered P step (passed {x = y} {xs = ys} j v) all old x i = holds_of_entered P step v (λ z k. all z (in_tail z y ys k)) old x i
  holds_of_entered P step (visited {x = y} {xs = ys} {entered = e} j v w) all old x i =
      let here : P y = all y (ap (λ b. b || is_in y ys) (same_equiv.refl y)) in
      holds_of_entered P step w (λ z k. all z (in_tail z y ys k)) (holds_of_entered P step v (λ z k. step y z here k) (λ z k. elim (front_or_last z y e k) [ inl p ↦ old z p | inr s ↦ subst P (sym s) here ])) x i

  pub entered_distinct : {xs e l f m : List Elem} → Visits nexts xs e l f m → IsDistinct same e → IsDistinct same f
  entered_distinct ended d = d
  entered_distinct (passed j v) d = entered_distinct v d
  entered_distinct (visited {x = y} {entered = e} j v w) d = entered_distinct w (entered_distinct v (IsDistinct-push same_equiv e y d j))

  pub keeps_left : {xs e l f m : List Elem} → Visits nexts xs e l f m → (x : Elem) → is_in x l ≡ true → is_in x m ≡ true
  keeps_left ended x i = i
  keeps_left (passed j v) x i = keeps_left v x i
  keeps_left (visited {x = y} {left' = l} j v w) x i = keeps_left w x (in_front x y l (keeps_left v x i))

  -- what is newly entered is left
  pub leaves : {xs e l f m : List Elem} → Visits nexts xs e l f m → (x : Elem) → is_in x f ≡ true → is_in x e ≡ false → is_in x m ≡ true
  leaves ended x i o = absurd (both_ways _ o i)
  leaves (passed j v) x i o = leaves v x i o
  leaves (visited {x = y} {entered = e} {entered' = f} {left' = l} {left'' = m} j v w) x i o = by_case (cases_Bool (is_in x f)) (cases_Bool (is_in x (e ++ y ∷ []))) (λ n. leaves w x i n) (λ p n. keeps_left w x (in_front x y l (leaves v x p n))) (λ s. ap (λ z. is_in z m) s ∙ keeps_left w y (in_last y l))
    where
      by_case : (is_in x f ≡ true) ⊎ (is_in x f ≡ false) → (is_in x (e ++ y ∷ []) ≡ true) ⊎ (is_in x (e ++ y ∷ []) ≡ false) → (is_in x f ≡ false → is_in x m ≡ true) → (is_in x f ≡ true → is_in x (e ++ y ∷ []) ≡ false → is_in x m ≡ true) → (x ≡ y → is_in x m ≡ true) → is_in x m ≡ true
      by_case (inr n) c later inner here = later n
      by_case (inl p) (inr n) later inner here = inner p n
      by_case (inl p) (inl q) later inner here = elim (front_or_last x y e q) [ inl r ↦ absurd (both_ways _ o r) | inr s ↦ here s ]

  -- what is left was left before, or is newly entered
  abbrev pub IsNew : Elem → List Elem → List Elem → Type 0
  IsNew x e f = (is_in x f ≡ true) × (is_in x e ≡ false)

  not_before : (x y : Elem) (e : List Elem) → is_in x (e ++ y ∷ []) ≡ false → is_in x e ≡ false
  not_before x y e n = elim (cases_Bool (is_in x e)) [ inl i ↦ absurd (both_ways _ n (in_front x y e i)) | inr o ↦ o ]

  pub left_from : {xs e l f m : List Elem} → Visits nexts xs e l f m → (x : Elem) → is_in x m ≡ true → (is_in x l ≡ true) ⊎ IsNew x e f
  left_from ended x i = inl i
  left_from (passed j v) x i = left_from v x i
  left_from (visited {x = y} {entered = e} {left = l} {entered' = f} {left' = k} {entered'' = f'} j v w) x i = by_case (left_from w x i) (left_from v x)
    where
      entered_new : IsNew x (e ++ y ∷ []) f → IsNew x e f'
      entered_new n = (keeps w x n.0, not_before x y e n.1)

      by_left : (is_in x l ≡ true) ⊎ IsNew x (e ++ y ∷ []) f → (is_in x l ≡ true) ⊎ IsNew x e f'
      by_left (inl o) = inl o
      by_left (inr n) = inr (entered_new n)

      itself : x ≡ y → IsNew x e f'
      itself s = subst (λ z. IsNew z e f') (sym s) (keeps w y (keeps v y (in_last y e)), j)

      later : IsNew x f f' → IsNew x e f'
      later n = (n.0, elim (cases_Bool (is_in x e)) [ inl o ↦ absurd (both_ways _ n.1 (keeps v x (in_front x y e o))) | inr o ↦ o ])

      by_case : (is_in x (k ++ y ∷ []) ≡ true) ⊎ IsNew x f f' → (is_in x k ≡ true → (is_in x l ≡ true) ⊎ IsNew x (e ++ y ∷ []) f) → (is_in x l ≡ true) ⊎ IsNew x e f'
      by_case (inr n) inner = inr (later n)
      by_case (inl p) inner = elim (front_or_last x y k p) [ inl q ↦ by_left (inner q) | inr s ↦ inr (itself s) ]

  -- all that is left was entered
  abbrev pub IsInside : List Elem → List Elem → Type 0
  IsInside l e = (x : Elem) → is_in x l ≡ true → is_in x e ≡ true

  pub left_inside : {xs e l f m : List Elem} → Visits nexts xs e l f m → IsInside l e → IsInside m f
  left_inside v h x i = elim (left_from v x i) [ inl p ↦ keeps v x (h x p) | inr n ↦ n.0 ]

  pub left_distinct : {xs e l f m : List Elem} → Visits nexts xs e l f m → IsInside l e → IsDistinct same l → IsDistinct same m
  left_distinct ended h d = d
  left_distinct (passed j v) h d = left_distinct v h d
  left_distinct (visited {x = y} {entered = e} {left = l} {entered' = f} {left' = k} j v w) h d = left_distinct w inside (IsDistinct-push same_equiv k y (left_distinct v wider d) not_left)
    where
      wider : IsInside l (e ++ y ∷ [])
      wider x i = in_front x y e (h x i)

      inside : IsInside (k ++ y ∷ []) f
      inside x i = elim (front_or_last x y k i) [ inl p ↦ left_inside v wider x p | inr s ↦ ap (λ z. is_in z f) s ∙ keeps v y (in_last y e) ]

      not_left : is_in y k ≡ false
      not_left = elim (cases_Bool (is_in y k)) [
        | inr o ↦ o
        | inl i ↦ elim (left_from v y i) [ inl p ↦ absurd (both_ways _ j (h y p)) | inr n ↦ absurd (both_ways _ n.1 (in_last y e)) ]
      ]

  -- what is entered is what is left, so both take as many calls
  pub leaves_calls : {xs e l f m : List Elem} → Visits nexts xs e l f m → calls nexts m + calls nexts e ≡ calls nexts l + calls nexts f
  leaves_calls (ended {entered = e} {left = l}) = refl
  leaves_calls (passed j v) = leaves_calls v
  leaves_calls (visited {x = y} {entered = e} {left = l} {entered' = f} {left' = k} {entered'' = f'} {left'' = m} j v w) =
      let inner : calls nexts k + calls nexts (e ++ y ∷ []) ≡ calls nexts l + calls nexts f = leaves_calls v in
      let later : calls nexts m + calls nexts f ≡ calls nexts (k ++ y ∷ []) + calls nexts f' = leaves_calls w in
      let one : calls nexts (e ++ y ∷ []) ≡ calls nexts e + (1 + length (nexts y)) = sum_by_push (λ x. 1 + length (nexts x)) e y in
      let other : calls nexts (k ++ y ∷ []) ≡ calls nexts k + (1 + length (nexts y)) = sum_by_push (λ x. 1 + length (nexts x)) k y in
      omega arith

  module _ (a : Elem) (f m : List Elem) (v : Visits nexts (a ∷ []) [] [] f m) where
    nothing : (x : Elem) → is_in x [] ≡ true → ⊥
    nothing x i = both_ways _ refl i

    started : is_in a f ≡ true
    started = enters_all v a (ap (λ b. b || false) (same_equiv.refl a))

    is_reached : (x : Elem) → is_in x f ≡ true → IsReached nexts a x
    is_reached x i = holds_of_entered (IsReached nexts a) (λ y z r k. reached_on nexts a y z r k) v (λ y k. elim (front_or_last y a [] k) [ inl p ↦ absurd (nothing y p) | inr s ↦ ([], sym s) ]) (λ y k. absurd (nothing y k)) x i

    pub pre_reached : AreReached nexts a f
    unfolding IsDistinct
    pre_reached = record {
      exact = λ x. (is_reached x, λ r. along nexts (λ z. is_in z f ≡ true) (λ y z i k. closed v y z i refl k) a r.0 x started r.1);
      distinct = entered_distinct v tt;
    }

    pub post_reached : AreReached nexts a m
    unfolding IsDistinct
    post_reached = record {
      exact = λ x. (λ i. is_reached x (left_inside v (λ y k. absurd (nothing y k)) x i), λ r. leaves v x ((pre_reached.exact x).1 r) refl);
      distinct = left_distinct v (λ y k. absurd (nothing y k)) tt;
    }
