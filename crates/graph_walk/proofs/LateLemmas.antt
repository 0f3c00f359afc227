-- Whether a cycle is closed at a node, by going through its next nodes.
use Rattle.std.proofs.Common.{◌≡◌, ◌⊎◌, inl, inr, Bool, true, false, cond, ◌||◌, List, [], ◌∷◌, refl, ap, sym, ◌∙◌}
use Rattle.std.specs.List.{IsDistinct}
use Rattle.std.proofs.lemmas.Bool.{both_ways}
use Rattle.elem.specs.declared.elements.Elem.{Elem}
use Rattle.elem.specs.Elements.{same}
use Rattle.elem.specs.ElementLaws.{same-Decides}
use Rattle.graph_walk.specs.Graphs.{is_in}
use Rattle.graph_walk.specs.Late.{IsLate, Closes}
use Rattle.graph_walk.proofs.PlaceLemmas.{same-is, in_tail}
use Rattle.graph_walk.proofs.StackedLemmas.{head_in, head_or_tail, none_in}

-- whether some nodes close a cycle at x, where one more late node does or not
abbrev pub closed_by : Bool → List Elem → Elem → List Elem → Bool
closed_by one before x [] = false
closed_by one before x (y ∷ ys) = cond (is_in y before) (closed_by one before x ys) (one || same x y || closed_by true before x ys)

module _ (before : List Elem) (x : Elem) where
  abbrev Late : List Elem → Elem → Type 0
  Late ys y = (is_in y ys ≡ true) × (is_in y before ≡ false)

  wider : (u : Elem) (us : List Elem) (y : Elem) → Late us y → Late (u ∷ us) y
  wider u us y h = (in_tail y u us h.0, h.1)

  any_late : (ys : List Elem) → closed_by true before x ys ≡ true → (y : Elem) × Late ys y
  any_late [] h = absurd (both_ways _ refl h)
  any_late (u ∷ us) h = by_case (is_in u before) refl h (any_late us)
    where
      by_case : (b : Bool) → is_in u before ≡ b → cond b (closed_by true before x us) true ≡ true → (closed_by true before x us ≡ true → (y : Elem) × Late us y) → (y : Elem) × Late (u ∷ us) y
      by_case true e k rest = let r = rest k in (r.0, wider u us r.0 r.1)
      by_case false e k rest = (u, (head_in u u us refl, e))

  late_any : (ys : List Elem) (y : Elem) → Late ys y → closed_by true before x ys ≡ true
  late_any [] y h = absurd (both_ways _ refl h.0)
  late_any (u ∷ us) y h = by_case (is_in u before) refl (head_or_tail y u us h.0) (λ i. late_any us y (i, h.1))
    where
      by_case : (b : Bool) → is_in u before ≡ b → (y ≡ u) ⊎ (is_in y us ≡ true) → (is_in y us ≡ true → closed_by true before x us ≡ true) → cond b (closed_by true before x us) true ≡ true
      by_case true e (inl q) rest = absurd (both_ways _ h.1 (ap (λ z. is_in z before) q ∙ e))
      by_case true e (inr i) rest = rest i
      by_case false e o rest = refl

  -- two late nodes, or x itself
  abbrev Two : List Elem → Type 0
  Two ys = (y : Elem) × (z : Elem) × Late ys y × Late ys z × ((y ≡ x) ⊎ (same y z ≡ false))

  two_late : (ys : List Elem) → IsDistinct same ys → closed_by false before x ys ≡ true → Two ys
  unfolding IsDistinct
  two_late [] d h = absurd (both_ways _ refl h)
  two_late (u ∷ us) d h = by_case (is_in u before) (same x u) refl refl h (two_late us d.1)
    where
      apart : (y : Elem) → is_in y us ≡ true → same u y ≡ false
      apart y i = by_same (same u y) refl
        where
          by_same : (b : Bool) → same u y ≡ b → b ≡ false
          by_same true e = absurd (both_ways _ (none_in u us d.0) (ap (λ z. is_in z us) (same-is u y e) ∙ i))
          by_same false e = refl

      by_case : (b s : Bool) → is_in u before ≡ b → same x u ≡ s → cond b (closed_by false before x us) (s || closed_by true before x us) ≡ true → (closed_by false before x us ≡ true → Two us) → Two (u ∷ us)
      by_case true s e f k rest = let r = rest k in (r.0, r.1, wider u us r.0 r.2, wider u us r.1 r.3, r.4)
      by_case false true e f k rest = (u, u, (head_in u u us refl, e), (head_in u u us refl, e), inl (sym (same-is x u f)))
      by_case false false e f k rest = let r = any_late us k in (u, r.0, (head_in u u us refl, e), wider u us r.0 r.1, inr (apart r.0 r.1.0))

  late_two : (ys : List Elem) → Two ys → closed_by false before x ys ≡ true
  late_two [] h = absurd (both_ways _ refl h.2.0)
  late_two (u ∷ us) (y, z, h, k, o) = by_case (is_in u before) (same x u) refl refl (head_or_tail y u us h.0) (head_or_tail z u us k.0) o (λ i j. late_two us (y, z, (i, h.1), (j, k.1), o))
    where
      by_case : (b s : Bool) → is_in u before ≡ b → same x u ≡ s → (y ≡ u) ⊎ (is_in y us ≡ true) → (z ≡ u) ⊎ (is_in z us ≡ true) → (y ≡ x) ⊎ (same y z ≡ false) → (is_in y us ≡ true → is_in z us ≡ true → closed_by false before x us ≡ true) → cond b (closed_by false before x us) (s || closed_by true before x us) ≡ true
      by_case true s e f (inl p) q a rest = absurd (both_ways _ h.1 (ap (λ w. is_in w before) p ∙ e))
      by_case true s e f (inr p) (inl q) a rest = absurd (both_ways _ k.1 (ap (λ w. is_in w before) q ∙ e))
      by_case true s e f (inr p) (inr q) a rest = rest p q
      by_case false true e f p q a rest = refl
      by_case false false e f (inr p) q a rest = late_any us y (p, h.1)
      by_case false false e f (inl p) (inr q) a rest = late_any us z (q, k.1)
      by_case false false e f (inl p) (inl q) (inl a) rest = absurd (both_ways _ f ((same-Decides x u).1 (sym a ∙ p)))
      by_case false false e f (inl p) (inl q) (inr a) rest = absurd (both_ways _ a ((same-Decides y z).1 (p ∙ sym q)))

module _ (one : Bool) (before : List Elem) (x y : Elem) (ys : List Elem) where
  pub closed_now : is_in y before ≡ false → (one || same x y) ≡ true → closed_by one before x (y ∷ ys) ≡ true
  closed_now o t = ap (λ b. cond b (closed_by one before x ys) (one || same x y || closed_by true before x ys)) o ∙ by_case one t
    where
      by_case : (c : Bool) → (c || same x y) ≡ true → (c || same x y || closed_by true before x ys) ≡ true
      by_case true t = refl
      by_case false t = ap (λ b. b || closed_by true before x ys) t

  pub closed_later : is_in y before ≡ false → one ≡ false → same x y ≡ false → closed_by one before x (y ∷ ys) ≡ closed_by true before x ys
  closed_later o p q = ap (λ b. cond b (closed_by one before x ys) (one || same x y || closed_by true before x ys)) o ∙ ap (λ b. b || same x y || closed_by true before x ys) p ∙ ap (λ b. b || closed_by true before x ys) q

  pub closed_skip : is_in y before ≡ true → closed_by one before x (y ∷ ys) ≡ closed_by one before x ys
  closed_skip i = ap (λ b. cond b (closed_by one before x ys) (one || same x y || closed_by true before x ys)) i

module _ (nexts : Elem → List Elem) (before : List Elem) (x : Elem) where
  late_is : (y : Elem) → (is_in y (nexts x) ≡ true) × (is_in y before ≡ false) → IsLate nexts before x y
  late_is y h = record { next = h.0; behind = h.1 }

  pub does_close : (directed : Bool) → IsDistinct same (nexts x) → closed_by directed before x (nexts x) ≡ true → Closes nexts directed before x
  does_close true d h = let r = any_late before x (nexts x) h in (r.0, late_is r.0 r.1)
  does_close false d h = let r = two_late before x (nexts x) d h in (r.0, r.1, late_is r.0 r.2, late_is r.1 r.3, r.4)

  pub is_closed : (directed : Bool) → Closes nexts directed before x → closed_by directed before x (nexts x) ≡ true
  is_closed true (y, t) = late_any before x (nexts x) y (t.next, t.behind)
  is_closed false (y, z, t, u, o) = late_two before x (nexts x) (y, z, (t.next, t.behind), (u.next, u.behind), o)
