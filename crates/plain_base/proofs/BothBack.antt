-- The rows of groups by both their keys, from the back: the last one, and the one before another.
use Rattle.std.proofs.Common.{◌≡◌, Bool, true, false, cond, ◌&&◌, List, [], ◌∷◌, ◌++◌, Option, Some, None, refl, sym, ap, ◌∙◌}
use Rattle.std.specs.Prelude.{IsSome}
use Rattle.std.specs.Option.{option_map, option_or}
use Rattle.std.specs.List.{filter}
use Rattle.std.proofs.lemmas.Map.{NonePasses}
use Rattle.elem.specs.declared.elements.Elem.{Elem}
use Rattle.elem.specs.Elements.{same}
use Rattle.elem.specs.ElementLaws.{same_equiv}
use Rattle.elem.specs.Keyed.{value_at, IsPresent}
use Rattle.elem.specs.Orders.{natural_before}
use Rattle.elem.specs.OrderLaws.{natural_before_strict}
use Rattle.elem.specs.Rows.{last_key, last_key_or, key_before, key_before_or}
use Rattle.plain_base.specs.Sorted.{rows_below}
use Rattle.plain_base.specs.TwoKeys.{same_both, group, by_both, HasBoth, beside, with_group}
use Rattle.plain_base.specs.Groups.{last_pair_of}
use Rattle.plain_base.proofs.BothOrder.{group_kept}
use Rattle.plain_base.proofs.SortedCuts.{none_below_passes}

stays_last : {W : Type 0} (start : Option Elem) (rows : List (Elem × W)) (k : Elem) → last_key rows ≡ Some k → last_key_or start rows ≡ Some k
stays_last start [] k h = absurd (cc)
stays_last start (r ∷ rows) k h = h

module _ {V : Type 0} where
  -- ---- the last row
  -- the last of the first keys, and the last of its second keys, are those of the last row
  pub record IsLastOf (rows : List (Elem × (Elem × V))) : Type 0 where
    pub first : Elem
    pub second : Elem
    pub of_rows : last_key rows ≡ Some first
    pub of_group : last_key (group first rows) ≡ Some second
    pub of_both : last_key (by_both rows) ≡ Some (first, second)

  last_there : (r : Elem × (Elem × V)) (rows : List (Elem × (Elem × V))) → IsLastOf (r ∷ rows)
  last_there r [] = record {
    first = r.0;
    second = r.1.0;
    of_rows = refl;
    of_group = ap (λ b. last_key (cond b (r.1 ∷ []) [])) (same_equiv.refl r.0);
    of_both = refl;
  }
  last_there r (s ∷ rows) =
      let h = last_there s rows in
      record {
        first = h.first;
        second = h.second;
        of_rows = h.of_rows;
        of_group = by (same h.first r.0) (group h.first (s ∷ rows)) h.second h.of_group;
        of_both = h.of_both;
      }
    where
      by : (b : Bool) (xs : List (Elem × V)) (x : Elem) → last_key xs ≡ Some x → last_key (cond b (r.1 ∷ xs) xs) ≡ Some x
      by true xs x h = stays_last (Some r.1.0) xs x h
      by false xs x h = h

  pub last_both : (rows : List (Elem × (Elem × V))) → last_key (by_both rows) ≡ last_pair_of (last_key rows) rows
  last_both [] = refl
  last_both (r ∷ rows) =
      let h = last_there r rows in
      h.of_both ∙ sym (ap (λ o. last_pair_of o (r ∷ rows)) h.of_rows ∙ ap (option_map (λ (x : Elem). (h.first, x))) h.of_group)

  -- ---- the last row of a part
  last_passes_from : (P : Elem → Bool) (a : Elem) (rows : List (Elem × (Elem × V))) (q : Elem) → P a ≡ true → last_key_or (Some a) (filter (λ (r : Elem × (Elem × V)). P r.0) rows) ≡ Some q → P q ≡ true
  last_passes_from P a [] q h e = let own : a ≡ q = cc in ap P (sym own) ∙ h
  last_passes_from P a (r ∷ rows) q h e = by (P r.0) refl e (λ k. last_passes_from P k rows q)
    where
      by : (b : Bool) → P r.0 ≡ b → last_key_or (Some a) (cond b (r ∷ filter (λ (s : Elem × (Elem × V)). P s.0) rows) (filter (λ (s : Elem × (Elem × V)). P s.0) rows)) ≡ Some q
          → ((k : Elem) → P k ≡ true → last_key_or (Some k) (filter (λ (s : Elem × (Elem × V)). P s.0) rows) ≡ Some q → P q ≡ true) → P q ≡ true
      by true p f ih = ih r.0 p f
      by false p f ih = ih a h f

  last_passes : (P : Elem → Bool) (rows : List (Elem × (Elem × V))) (q : Elem) → last_key (filter (λ (r : Elem × (Elem × V)). P r.0) rows) ≡ Some q → P q ≡ true
  last_passes P [] q e = absurd (cc)
  last_passes P (r ∷ rows) q e = by (P r.0) refl e (last_passes P rows q)
    where
      by : (b : Bool) → P r.0 ≡ b → last_key (cond b (r ∷ filter (λ (s : Elem × (Elem × V)). P s.0) rows) (filter (λ (s : Elem × (Elem × V)). P s.0) rows)) ≡ Some q
          → (last_key (filter (λ (s : Elem × (Elem × V)). P s.0) rows) ≡ Some q → P q ≡ true) → P q ≡ true
      by true p f ih = last_passes_from P r.0 rows q p f
      by false p f ih = ih f

  last_both-part : (P : Elem → Bool) (rows : List (Elem × (Elem × V))) → last_key (by_both (filter (λ (r : Elem × (Elem × V)). P r.0) rows)) ≡ last_pair_of (last_key (filter (λ (r : Elem × (Elem × V)). P r.0) rows)) rows
  last_both-part P rows = last_both (filter (λ (r : Elem × (Elem × V)). P r.0) rows) ∙ by (last_key (filter (λ (r : Elem × (Elem × V)). P r.0) rows)) refl
    where
      by : (o : Option Elem) → last_key (filter (λ (r : Elem × (Elem × V)). P r.0) rows) ≡ o → last_pair_of o (filter (λ (r : Elem × (Elem × V)). P r.0) rows) ≡ last_pair_of o rows
      by None e = refl
      by (Some q) e = ap (λ (l : List (Elem × V)). option_map (λ (x : Elem). (q, x)) (last_key l)) (group_kept P q rows (last_passes P rows q e))

  -- ---- the row before another
  passed_over : (start : Option (Elem × Elem)) (k x : Elem) (us rest : List (Elem × (Elem × V))) → NonePasses (same k) us
      → key_before_or start (same_both (k, x)) (by_both (us ++ rest)) ≡ key_before_or (last_key_or start (by_both us)) (same_both (k, x)) (by_both rest)
  passed_over start k x [] rest n = refl
  passed_over start k x (u ∷ us) rest n =
      ap (λ b. cond (b && same x u.1.0) start (key_before_or (Some (u.0, u.1.0)) (same_both (k, x)) (by_both (us ++ rest)))) n.0 ∙ passed_over (Some (u.0, u.1.0)) k x us rest n.1

  before_beside : (start : Option (Elem × Elem)) (o : Option Elem) (k x : Elem) (xs : List (Elem × V)) (rest : List (Elem × (Elem × V))) → IsPresent xs x
      → key_before_or (option_or (option_map (λ (y : Elem). (k, y)) o) start) (same_both (k, x)) (by_both (beside k xs ++ rest)) ≡ option_or (option_map (λ (y : Elem). (k, y)) (key_before_or o (same x) xs)) start
  before_beside start o k x [] rest p = absurd (cc)
  before_beside start o k x (y ∷ ys) rest p =
      ap (λ b. cond (b && same x y.0) (option_or (option_map (λ (z : Elem). (k, z)) o) start) (key_before_or (Some (k, y.0)) (same_both (k, x)) (by_both (beside k ys ++ rest)))) (same_equiv.refl k) ∙ by (same x y.0) p (before_beside start (Some y.0) k x ys rest)
    where
      by : (b : Bool) → IsSome (cond b (Some y.1) (value_at ys x))
          → (IsPresent ys x → key_before_or (Some (k, y.0)) (same_both (k, x)) (by_both (beside k ys ++ rest)) ≡ option_or (option_map (λ (z : Elem). (k, z)) (key_before_or (Some y.0) (same x) ys)) start)
          → cond b (option_or (option_map (λ (z : Elem). (k, z)) o) start) (key_before_or (Some (k, y.0)) (same_both (k, x)) (by_both (beside k ys ++ rest))) ≡ option_or (option_map (λ (z : Elem). (k, z)) (cond b o (key_before_or (Some y.0) (same x) ys))) start
      by true h ih = refl
      by false h ih = ih h

  pub before_both : (k x : Elem) (rows : List (Elem × (Elem × V))) → rows ≡ with_group k (group k rows) rows → HasBoth rows k x
      → key_before (same_both (k, x)) (by_both rows) ≡ option_or (option_map (λ (y : Elem). (k, y)) (key_before (same x) (group k rows))) (last_pair_of (last_key (rows_below natural_before k rows)) rows)
  before_both k x rows w h =
      ap (λ (l : List (Elem × (Elem × V))). key_before (same_both (k, x)) (by_both l)) w
      ∙ passed_over None k x (rows_below natural_before k rows) _ (none_below_passes natural_before_strict k rows)
      ∙ before_beside (last_key (by_both (rows_below natural_before k rows))) None k x (group k rows) _ h
      ∙ ap (option_or (option_map (λ (y : Elem). (k, y)) (key_before (same x) (group k rows)))) (last_both-part (λ q. natural_before q k) rows)
