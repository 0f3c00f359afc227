-- Two lists of rows in order that have the same keys are read alike, and the first of one is the least of all.
use Rattle.std.proofs.Common.{◌≡◌, Bool, true, false, not, cond, ◌&&◌, ◌||◌, List, [], ◌∷◌, length, Option, Some, None, refl, sym, ap, ◌∙◌}
use Rattle.std.specs.Prelude.{is_some}
use Rattle.std.specs.List.{filter, AllByRecursion, IsDistinct}
use Rattle.std.specs.Map.{keys_of}
use Rattle.std.proofs.lemmas.Map.Entries.{length-keys_of}
use Rattle.elem.specs.declared.elements.Elem.{Elem}
use Rattle.elem.specs.Elements.{same}
use Rattle.elem.specs.ElementLaws.{same-Decides, same_equiv}
use Rattle.elem.specs.Keyed.{value_at, HasDistinctKeys}
use Rattle.elem.specs.Orders.{natural_before}
use Rattle.elem.specs.OrderLaws.{natural_before_strict}
use Rattle.elem.specs.Rows.{first_key, key_after}
use Rattle.plain_base.specs.Sorted.{ComesFirst, IsInOrder, IsLeast}
use Rattle.plain_base.specs.TwoKeys.{both_before, group, by_both, IsInBothOrder}
use Rattle.plain_base.proofs.OrderLemmas.{one_way}
use Rattle.plain_base.proofs.SortedCuts.{comes_on, apart_after, absent_first}

module _ {V : Type 0} where
  apart_all : (a : Elem) (rows : List (Elem × V)) → ComesFirst natural_before a rows → AllByRecursion (λ y. same a y ≡ false) (keys_of rows)
  apart_all a [] f = tt
  apart_all a (q ∷ rows) f = (apart_after natural_before_strict a q.0 f.0, apart_all a rows f.1)

  -- no key stands twice among rows in order
  pub distinct_in_order : (rows : List (Elem × V)) → IsInOrder natural_before rows → HasDistinctKeys rows
  unfolding IsDistinct
  distinct_in_order [] s = tt
  distinct_in_order (r ∷ rows) s = (apart_all r.0 rows s.0, distinct_in_order rows s.1)

  here : (r : Elem × V) (rows : List (Elem × V)) → is_some (value_at (r ∷ rows) r.0) ≡ true
  here r rows = ap (λ (b : Bool). is_some (cond b (Some r.1) (value_at rows r.0))) (same_equiv.refl r.0)

module _ {A B : Type 0} where
  heads : (x : Elem × A) (xs : List (Elem × A)) (y : Elem × B) (ys : List (Elem × B)) → IsInOrder natural_before (x ∷ xs) → IsInOrder natural_before (y ∷ ys)
      → is_some (value_at (y ∷ ys) x.0) ≡ true → is_some (value_at (x ∷ xs) y.0) ≡ true → x.0 ≡ y.0
  heads x xs y ys s t h k = by (same x.0 y.0) refl (natural_before x.0 y.0) refl
    where
      by : (b : Bool) → same x.0 y.0 ≡ b → (c : Bool) → natural_before x.0 y.0 ≡ c → x.0 ≡ y.0
      by true e c f = (same-Decides x.0 y.0).0 e
      by false e true f =
          let first : ComesFirst natural_before x.0 (y ∷ ys) = (f, comes_on natural_before_strict x.0 y.0 ys f t.0) in
          let none = ap is_some (absent_first natural_before_strict x.0 (y ∷ ys) first) in
          let never : true ≡ false = sym h ∙ none in
          cc
      by false e false f =
          let back : natural_before y.0 x.0 ≡ true = natural_before_strict.exactly_one y.0 x.0 (λ q. (let w = (same-Decides x.0 y.0).1 (sym q) in cc)) ∙ ap not f in
          let first : ComesFirst natural_before y.0 (x ∷ xs) = (back, comes_on natural_before_strict y.0 x.0 xs back s.0) in
          let none = ap is_some (absent_first natural_before_strict y.0 (x ∷ xs) first) in
          let never : true ≡ false = sym k ∙ none in
          cc

  -- behind heads that are the same, the same keys are left
  tails : (x : Elem × A) (xs : List (Elem × A)) (y : Elem × B) (ys : List (Elem × B)) → IsInOrder natural_before (x ∷ xs) → IsInOrder natural_before (y ∷ ys) → x.0 ≡ y.0
      → ((q : Elem) → is_some (value_at (x ∷ xs) q) ≡ is_some (value_at (y ∷ ys) q)) → (q : Elem) → is_some (value_at xs q) ≡ is_some (value_at ys q)
  tails x xs y ys s t e h q = by (same q x.0) refl (h q)
    where
      by : (b : Bool) → same q x.0 ≡ b → is_some (value_at (x ∷ xs) q) ≡ is_some (value_at (y ∷ ys) q) → is_some (value_at xs q) ≡ is_some (value_at ys q)
      by true f g =
          let at : q ≡ x.0 = (same-Decides q x.0).0 f in
          ap is_some (ap (value_at xs) at ∙ absent_first natural_before_strict x.0 xs s.0) ∙ sym (ap is_some (ap (value_at ys) (at ∙ e) ∙ absent_first natural_before_strict y.0 ys t.0))
      by false f g =
          let other : same q y.0 ≡ false = ap (same q) (sym e) ∙ f in
          sym (ap (λ (b : Bool). is_some (cond b (Some x.1) (value_at xs q))) f) ∙ g ∙ ap (λ (b : Bool). is_some (cond b (Some y.1) (value_at ys q))) other

  pub same_keys : (xs : List (Elem × A)) (ys : List (Elem × B)) → IsInOrder natural_before xs → IsInOrder natural_before ys → ((q : Elem) → is_some (value_at xs q) ≡ is_some (value_at ys q)) → keys_of xs ≡ keys_of ys
  same_keys [] [] s t h = refl
  same_keys [] (y ∷ ys) s t h = let none = h y.0 ∙ here y ys in cc
  same_keys (x ∷ xs) [] s t h = let none = sym (here x xs) ∙ h x.0 in cc
  same_keys (x ∷ xs) (y ∷ ys) s t h =
      let e = heads x xs y ys s t (sym (h x.0) ∙ here x xs) (h y.0 ∙ here y ys) in
      (λ i. e i ∷ same_keys xs ys s.1 t.1 (tails x xs y ys s t e h) i)

  -- ---- what is read from the keys alone
  pub first_of_keys : (xs : List (Elem × A)) (ys : List (Elem × B)) → keys_of xs ≡ keys_of ys → first_key xs ≡ first_key ys
  first_of_keys [] [] e = refl
  first_of_keys [] (y ∷ ys) e = cc
  first_of_keys (x ∷ xs) [] e = cc
  first_of_keys (x ∷ xs) (y ∷ ys) e = let f : x.0 ≡ y.0 = cc in ap Some f

  pub after_of_keys : (test : Elem → Bool) (xs : List (Elem × A)) (ys : List (Elem × B)) → keys_of xs ≡ keys_of ys → key_after test xs ≡ key_after test ys
  after_of_keys test [] [] e = refl
  after_of_keys test [] (y ∷ ys) e = cc
  after_of_keys test (x ∷ xs) [] e = cc
  after_of_keys test (x ∷ xs) (y ∷ ys) e =
      let f : x.0 ≡ y.0 = cc in
      let g : keys_of xs ≡ keys_of ys = cc in
      (λ i. cond (test (f i)) (first_of_keys xs ys g i) (after_of_keys test xs ys g i))

  pub length_of_keys : (xs : List (Elem × A)) (ys : List (Elem × B)) → keys_of xs ≡ keys_of ys → length xs ≡ length ys
  length_of_keys xs ys e = sym (length-keys_of xs) ∙ ap length e ∙ length-keys_of ys

and_parts : (a b : Bool) → (a && b) ≡ true → (a ≡ true) × (b ≡ true)
and_parts true true h = (refl, refl)
and_parts true false h = cc
and_parts false b h = cc

none_of_nothing : (a : Bool) → (a && false) ≡ false
none_of_nothing true = refl
none_of_nothing false = refl

pub IsLeast-as : (p q : Elem → Bool) (o : Option Elem) → ((x : Elem) → p x ≡ q x) → IsLeast p o → IsLeast q o
IsLeast-as p q None e h = λ x. sym (e x) ∙ h x
IsLeast-as p q (Some c) e h = (sym (e c) ∙ h.0, λ x k. h.1 x (e x ∙ k))

module _ {V : Type 0} where
  -- ---- the least of the first keys
  abbrev pub has_first : Elem → List (Elem × (Elem × V)) → Bool
  has_first x rows = is_some (first_key (group x rows))

  never_before : (p : Elem × Elem) (rows : List (Elem × (Elem × V))) (x : Elem) → ComesFirst both_before p (by_both rows) → has_first x rows ≡ true → natural_before x p.0 ≡ false
  never_before p [] x f h = cc
  never_before p (r ∷ rows) x f h = by (same x r.0) refl h (never_before p rows x f.1)
    where
      at_or_after : (b : Bool) → natural_before p.0 r.0 ≡ b → (s : Bool) → same p.0 r.0 ≡ s → (b || (s && natural_before p.1 r.1.0)) ≡ true → natural_before r.0 p.0 ≡ false
      at_or_after true e s i j = one_way natural_before_strict p.0 r.0 e
      at_or_after false e true i j = ap (natural_before r.0) ((same-Decides p.0 r.0).0 i) ∙ natural_before_strict.irreflexive r.0
      at_or_after false e false i j = cc

      by : (b : Bool) → same x r.0 ≡ b → is_some (first_key (cond b (r.1 ∷ group x rows) (group x rows))) ≡ true → (has_first x rows ≡ true → natural_before x p.0 ≡ false) → natural_before x p.0 ≡ false
      by true e g ih = ap (λ (q : Elem). natural_before q p.0) ((same-Decides x r.0).0 e) ∙ at_or_after (natural_before p.0 r.0) refl (same p.0 r.0) refl f.0
      by false e g ih = ih g

  own_first : (r : Elem × (Elem × V)) (rows : List (Elem × (Elem × V))) → has_first r.0 (r ∷ rows) ≡ true
  own_first r rows = ap (λ (b : Bool). is_some (first_key (cond b (r.1 ∷ group r.0 rows) (group r.0 rows)))) (same_equiv.refl r.0)

  least_here : (r : Elem × (Elem × V)) (rows : List (Elem × (Elem × V))) → IsInBothOrder (r ∷ rows) → (x : Elem) → has_first x (r ∷ rows) ≡ true → natural_before x r.0 ≡ false
  least_here r rows s x h = by (same x r.0) refl h
    where
      by : (b : Bool) → same x r.0 ≡ b → is_some (first_key (cond b (r.1 ∷ group x rows) (group x rows))) ≡ true → natural_before x r.0 ≡ false
      by true e g = ap (λ (q : Elem). natural_before q r.0) ((same-Decides x r.0).0 e) ∙ natural_before_strict.irreflexive r.0
      by false e g = never_before (r.0, r.1.0) rows x s.0 g

  pub first_is_least : (rows : List (Elem × (Elem × V))) → IsInBothOrder rows → IsLeast (λ (x : Elem). has_first x rows) (first_key rows)
  first_is_least [] s = λ x. refl
  first_is_least (r ∷ rows) s = (own_first r rows, least_here r rows s)

  passed : (P : Elem → Bool) (r : Elem × (Elem × V)) (rows : List (Elem × (Elem × V))) → P r.0 ≡ false → (x : Elem) → (P x && has_first x rows) ≡ (P x && has_first x (r ∷ rows))
  passed P r rows e x = by (same x r.0) refl
    where
      by : (b : Bool) → same x r.0 ≡ b → (P x && has_first x rows) ≡ (P x && is_some (first_key (cond b (r.1 ∷ group x rows) (group x rows))))
      by true f = let no : P x ≡ false = ap P ((same-Decides x r.0).0 f) ∙ e in ap (λ b. b && has_first x rows) no ∙ sym (ap (λ b. b && true) no)
      by false f = refl

  pub part_is_least : (P : Elem → Bool) (rows : List (Elem × (Elem × V))) → IsInBothOrder rows → IsLeast (λ (x : Elem). P x && has_first x rows) (first_key (filter (λ (r : Elem × (Elem × V)). P r.0) rows))
  part_is_least P [] s = λ x. none_of_nothing (P x)
  part_is_least P (r ∷ rows) s = by (P r.0) refl (part_is_least P rows s.1)
    where
      by : (b : Bool) → P r.0 ≡ b → IsLeast (λ (x : Elem). P x && has_first x rows) (first_key (filter (λ (q : Elem × (Elem × V)). P q.0) rows))
          → IsLeast (λ (x : Elem). P x && has_first x (r ∷ rows)) (first_key (cond b (r ∷ filter (λ (q : Elem × (Elem × V)). P q.0) rows) (filter (λ (q : Elem × (Elem × V)). P q.0) rows)))
      by true e ih = ((λ i. e i && own_first r rows i), λ x h. least_here r rows s x (and_parts (P x) (has_first x (r ∷ rows)) h).1)
      by false e ih = IsLeast-as (λ (x : Elem). P x && has_first x rows) (λ (x : Elem). P x && has_first x (r ∷ rows)) (first_key (filter (λ (q : Elem × (Elem × V)). P q.0) rows)) (λ x. passed P r rows e x) ih
