-- The rows of groups by both their keys: they are in order, and the row after another.
use Rattle.std.proofs.Common.{◌≡◌, Bool, true, false, cond, ◌&&◌, ◌||◌, List, [], ◌∷◌, ◌++◌, Option, Some, None, refl, sym, ap, ◌∙◌}
use Rattle.std.specs.Prelude.{IsSome}
use Rattle.std.specs.Option.{option_map, option_or}
use Rattle.std.specs.List.{filter, AllByRecursion}
use Rattle.std.proofs.lemmas.Map.{NonePasses}
use Rattle.elem.specs.declared.elements.Elem.{Elem}
use Rattle.elem.specs.Elements.{same}
use Rattle.elem.specs.ElementLaws.{same-Decides, same_equiv}
use Rattle.elem.specs.Keyed.{value_at, IsPresent}
use Rattle.elem.specs.Orders.{natural_before}
use Rattle.elem.specs.OrderLaws.{natural_before_strict}
use Rattle.elem.specs.Rows.{first_key, key_after}
use Rattle.plain_base.specs.Sorted.{ComesFirst, IsInOrder, rows_above, rows_below}
use Rattle.plain_base.specs.TwoKeys.{same_both, both_before, group, by_both, HasBoth, IsInBothOrder, beside, with_group}
use Rattle.plain_base.specs.Groups.{flat, IsGroup, first_pair_of}
use Rattle.plain_base.proofs.SortedCuts.{none_below_passes}

module _ {V : Type 0} where
  -- ---- the order
  others_after : (k x : Elem) (rows : List (Elem × (Elem × V))) → ComesFirst natural_before k rows → ComesFirst both_before (k, x) (by_both rows)
  others_after k x [] f = tt
  others_after k x (r ∷ rows) f = (ap (λ b. b || (same k r.0 && natural_before x r.1.0)) f.0, others_after k x rows f.1)

  own_after : (k x : Elem) (xs : List (Elem × V)) (rest : List (Elem × (Elem × V))) → ComesFirst natural_before x xs → ComesFirst both_before (k, x) (by_both rest) → ComesFirst both_before (k, x) (by_both (beside k xs ++ rest))
  own_after k x [] rest f h = h
  own_after k x (y ∷ ys) rest f h =
      ((λ i. natural_before_strict.irreflexive k i || (same_equiv.refl k i && natural_before x y.0)) ∙ f.0, own_after k x ys rest f.1 h)

  group_in_order : (k : Elem) (xs : List (Elem × V)) (rest : List (Elem × (Elem × V))) → IsInOrder natural_before xs → ComesFirst natural_before k rest → IsInBothOrder rest → IsInBothOrder (beside k xs ++ rest)
  group_in_order k [] rest s f h = h
  group_in_order k (x ∷ xs) rest s f h = (own_after k x.0 xs rest s.0 (others_after k x.0 rest f), group_in_order k xs rest s.1 f h)

  first_beside : (a k : Elem) (xs : List (Elem × V)) (rest : List (Elem × (Elem × V))) → natural_before a k ≡ true → ComesFirst natural_before a rest → ComesFirst natural_before a (beside k xs ++ rest)
  first_beside a k [] rest h f = f
  first_beside a k (x ∷ xs) rest h f = (h, first_beside a k xs rest h f)

  first_of_groups : (a : Elem) (gs : List (Elem × List (Elem × V))) → ComesFirst natural_before a gs → ComesFirst natural_before a (flat gs)
  first_of_groups a [] f = tt
  first_of_groups a (g ∷ gs) f = first_beside a g.0 g.1 (flat gs) f.0 (first_of_groups a gs f.1)

  pub flat_in_order : (gs : List (Elem × List (Elem × V))) → IsInOrder natural_before gs → AllByRecursion IsGroup gs → IsInBothOrder (flat gs)
  flat_in_order [] s a = tt
  flat_in_order (g ∷ gs) s a = group_in_order g.0 g.1 (flat gs) a.0.1 (first_of_groups g.0 gs s.0) (flat_in_order gs s.1 a.1)

  -- ---- the first row of a part
  pub group_kept : (P : Elem → Bool) (q : Elem) (rows : List (Elem × (Elem × V))) → P q ≡ true → group q (filter (λ (r : Elem × (Elem × V)). P r.0) rows) ≡ group q rows
  group_kept P q [] h = refl
  group_kept P q (r ∷ rows) h = by (same q r.0) refl (P r.0) refl (group_kept P q rows h)
    where
      by : (b : Bool) → same q r.0 ≡ b → (t : Bool) → P r.0 ≡ t → group q (filter (λ (s : Elem × (Elem × V)). P s.0) rows) ≡ group q rows
          → group q (cond t (r ∷ filter (λ (s : Elem × (Elem × V)). P s.0) rows) (filter (λ (s : Elem × (Elem × V)). P s.0) rows)) ≡ cond b (r.1 ∷ group q rows) (group q rows)
      by true e true f ih = ap (λ (b : Bool). cond b (r.1 ∷ group q (filter (λ (s : Elem × (Elem × V)). P s.0) rows)) (group q (filter (λ (s : Elem × (Elem × V)). P s.0) rows))) e ∙ ap (λ (l : List (Elem × V)). r.1 ∷ l) ih
      by true e false f ih = let p : P r.0 ≡ true = ap P (sym ((same-Decides q r.0).0 e)) ∙ h in cc
      by false e true f ih = ap (λ (b : Bool). cond b (r.1 ∷ group q (filter (λ (s : Elem × (Elem × V)). P s.0) rows)) (group q (filter (λ (s : Elem × (Elem × V)). P s.0) rows))) e ∙ ih
      by false e false f ih = ih

  first_passes : (P : Elem → Bool) (rows : List (Elem × (Elem × V))) (q : Elem) → first_key (filter (λ (r : Elem × (Elem × V)). P r.0) rows) ≡ Some q → P q ≡ true
  first_passes P [] q h = cc
  first_passes P (r ∷ rows) q h = by (P r.0) refl h (first_passes P rows q)
    where
      by : (b : Bool) → P r.0 ≡ b → first_key (cond b (r ∷ filter (λ (s : Elem × (Elem × V)). P s.0) rows) (filter (λ (s : Elem × (Elem × V)). P s.0) rows)) ≡ Some q
          → (first_key (filter (λ (s : Elem × (Elem × V)). P s.0) rows) ≡ Some q → P q ≡ true) → P q ≡ true
      by true e f ih = let own : r.0 ≡ q = cc in ap P (sym own) ∙ e
      by false e f ih = ih f

  head_is : (rows : List (Elem × (Elem × V))) → first_key (by_both rows) ≡ first_pair_of (first_key rows) rows
  head_is [] = refl
  head_is (r ∷ rows) = sym (ap (λ (b : Bool). option_map (λ (x : Elem). (r.0, x)) (first_key (cond b (r.1 ∷ group r.0 rows) (group r.0 rows)))) (same_equiv.refl r.0))

  pub first_both-part : (P : Elem → Bool) (rows : List (Elem × (Elem × V))) → first_key (by_both (filter (λ (r : Elem × (Elem × V)). P r.0) rows)) ≡ first_pair_of (first_key (filter (λ (r : Elem × (Elem × V)). P r.0) rows)) rows
  first_both-part P rows = head_is (filter (λ (r : Elem × (Elem × V)). P r.0) rows) ∙ by (first_key (filter (λ (r : Elem × (Elem × V)). P r.0) rows)) refl
    where
      by : (o : Option Elem) → first_key (filter (λ (r : Elem × (Elem × V)). P r.0) rows) ≡ o → first_pair_of o (filter (λ (r : Elem × (Elem × V)). P r.0) rows) ≡ first_pair_of o rows
      by None e = refl
      by (Some q) e = ap (λ (l : List (Elem × V)). option_map (λ (x : Elem). (q, x)) (first_key l)) (group_kept P q rows (first_passes P rows q e))

  pub first_both : (rows : List (Elem × (Elem × V))) → first_key (by_both rows) ≡ first_pair_of (first_key rows) rows
  first_both rows = head_is rows

  -- ---- the row after another
  passed_over : (k x : Elem) (us rest : List (Elem × (Elem × V))) → NonePasses (same k) us → key_after (same_both (k, x)) (by_both (us ++ rest)) ≡ key_after (same_both (k, x)) (by_both rest)
  passed_over k x [] rest n = refl
  passed_over k x (u ∷ us) rest n = ap (λ b. cond (b && same x u.1.0) (first_key (by_both (us ++ rest))) (key_after (same_both (k, x)) (by_both (us ++ rest)))) n.0 ∙ passed_over k x us rest n.1

  next_beside : (k : Elem) (xs : List (Elem × V)) (rest : List (Elem × (Elem × V))) → first_key (by_both (beside k xs ++ rest)) ≡ option_or (option_map (λ (y : Elem). (k, y)) (first_key xs)) (first_key (by_both rest))
  next_beside k [] rest = refl
  next_beside k (x ∷ xs) rest = refl

  after_beside : (k x : Elem) (xs : List (Elem × V)) (rest : List (Elem × (Elem × V))) → IsPresent xs x
      → key_after (same_both (k, x)) (by_both (beside k xs ++ rest)) ≡ option_or (option_map (λ (y : Elem). (k, y)) (key_after (same x) xs)) (first_key (by_both rest))
  after_beside k x [] rest p = cc
  after_beside k x (y ∷ ys) rest p =
      ap (λ b. cond (b && same x y.0) (first_key (by_both (beside k ys ++ rest))) (key_after (same_both (k, x)) (by_both (beside k ys ++ rest)))) (same_equiv.refl k) ∙ by (same x y.0) p (after_beside k x ys rest)
    where
      by : (b : Bool) → IsSome (cond b (Some y.1) (value_at ys x))
          → (IsPresent ys x → key_after (same_both (k, x)) (by_both (beside k ys ++ rest)) ≡ option_or (option_map (λ (z : Elem). (k, z)) (key_after (same x) ys)) (first_key (by_both rest)))
          → cond b (first_key (by_both (beside k ys ++ rest))) (key_after (same_both (k, x)) (by_both (beside k ys ++ rest))) ≡ option_or (option_map (λ (z : Elem). (k, z)) (cond b (first_key ys) (key_after (same x) ys))) (first_key (by_both rest))
      by true h ih = next_beside k ys rest
      by false h ih = ih h

  pub after_both : (k x : Elem) (rows : List (Elem × (Elem × V))) → rows ≡ with_group k (group k rows) rows → HasBoth rows k x
      → key_after (same_both (k, x)) (by_both rows) ≡ option_or (option_map (λ (y : Elem). (k, y)) (key_after (same x) (group k rows))) (first_pair_of (first_key (rows_above natural_before k rows)) rows)
  after_both k x rows w h =
      ap (λ (l : List (Elem × (Elem × V))). key_after (same_both (k, x)) (by_both l)) w
      ∙ passed_over k x (rows_below natural_before k rows) (beside k (group k rows) ++ rows_above natural_before k rows) (none_below_passes natural_before_strict k rows)
      ∙ after_beside k x (group k rows) (rows_above natural_before k rows) h
      ∙ ap (option_or (option_map (λ (y : Elem). (k, y)) (key_after (same x) (group k rows)))) (first_both-part (natural_before k) rows)
