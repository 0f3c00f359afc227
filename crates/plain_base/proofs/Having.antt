-- Which rows of two keys there are, after one is added, removed or changed.
use Rattle.std.proofs.Common.{◌≡◌, Bool, true, false, not, cond, ◌&&◌, ◌||◌, List, [], ◌∷◌, ◌++◌, take, drop, Option, Some, refl, sym, ap, ◌∙◌}
use Rattle.elem.specs.declared.elements.Elem.{Elem}
use Rattle.elem.specs.Elements.{same}
use Rattle.elem.specs.ElementLaws.{same-Decides}
use Rattle.elem.specs.Keyed.{value_at, AddsRow}
use Rattle.std.specs.Prelude.{is_some}
use Rattle.plain_base.specs.TwoKeys.{group, has_both, without_both, with_both}
use Rattle.plain_base.proofs.TwoKeysLemmas.{parts}

or_assoc : (a b c : Bool) → (a || (b || c)) ≡ ((a || b) || c)
or_assoc true b c = refl
or_assoc false b c = refl

or_last : (a b c : Bool) → (a || (b || c)) ≡ ((a || c) || b)
or_last true b c = refl
or_last false true true = refl
or_last false true false = refl
or_last false false true = refl
or_last false false false = refl

some_or : {X : Type 0} (c : Bool) (x : X) (o : Option X) → is_some (cond c (Some x) o) ≡ (c || is_some o)
some_or true x o = refl
some_or false x o = refl

and_never : (b : Bool) → (b && false) ≡ false
and_never true = refl
and_never false = refl

both_true : (a b : Bool) → (a && b) ≡ true → (a ≡ true) × (b ≡ true)
both_true true true h = (refl, refl)
both_true true false h = cc
both_true false b h = cc

module _ {V : Type 0} where
  has-cons : (q y : Elem) (r : Elem × (Elem × V)) (rows : List (Elem × (Elem × V))) → has_both q y (r ∷ rows) ≡ ((same q r.0 && same y r.1.0) || has_both q y rows)
  has-cons q y r rows = by (same q r.0)
    where
      by : (a : Bool) → is_some (value_at (cond a (r.1 ∷ group q rows) (group q rows)) y) ≡ ((a && same y r.1.0) || is_some (value_at (group q rows) y))
      by true = some_or (same y r.1.0) r.1.1 (value_at (group q rows) y)
      by false = refl

  has-append : (q y : Elem) (us vs : List (Elem × (Elem × V))) → has_both q y (us ++ vs) ≡ (has_both q y us || has_both q y vs)
  has-append q y [] vs = refl
  has-append q y (u ∷ us) vs =
      has-cons q y u (us ++ vs) ∙ ap (λ b. (same q u.0 && same y u.1.0) || b) (has-append q y us vs)
      ∙ or_assoc (same q u.0 && same y u.1.0) (has_both q y us) (has_both q y vs) ∙ ap (λ b. b || has_both q y vs) (sym (has-cons q y u us))

  pub has_added : (old new : List (Elem × (Elem × V))) (k x : Elem) (v : V) → AddsRow old new k (x, v) → (q y : Elem) → has_both q y new ≡ (has_both q y old || (same q k && same y x))
  has_added old new k x v a q y =
      let front = take a.0 old in
      let back = drop a.0 old in
      ap (has_both q y) a.1 ∙ has-append q y front ((k, (x, v)) ∷ back) ∙ ap (λ b. has_both q y front || b) (has-cons q y (k, (x, v)) back)
      ∙ or_last (has_both q y front) (same q k && same y x) (has_both q y back)
      ∙ ap (λ b. b || (same q k && same y x)) (sym (ap (has_both q y) (parts a.0 old) ∙ has-append q y front back))

  -- keys that are a row's are found by the test that finds the row
  at_row : (k x q y : Elem) (r : Elem × (Elem × V)) → (same q r.0 && same y r.1.0) ≡ true → (same k q && same x y) ≡ (same k r.0 && same x r.1.0)
  at_row k x q y r h =
      let t = both_true (same q r.0) (same y r.1.0) h in
      (λ i. same k ((same-Decides q r.0).0 t.0 i) && same x ((same-Decides y r.1.0).0 t.1 i))

  pub has_without : (k x : Elem) (rows : List (Elem × (Elem × V))) (q y : Elem) → has_both q y (without_both k x rows) ≡ (has_both q y rows && not (same k q && same x y))
  has_without k x [] q y = refl
  has_without k x (r ∷ rows) q y =
      by (same k r.0 && same x r.1.0) refl (same q r.0 && same y r.1.0) refl (has_without k x rows q y)
      ∙ ap (λ b. b && not (same k q && same x y)) (sym (has-cons q y r rows))
    where
      by : (t : Bool) → (same k r.0 && same x r.1.0) ≡ t → (m : Bool) → (same q r.0 && same y r.1.0) ≡ m → has_both q y (without_both k x rows) ≡ (has_both q y rows && not (same k q && same x y))
          → has_both q y (cond (not t) (r ∷ without_both k x rows) (without_both k x rows)) ≡ ((m || has_both q y rows) && not (same k q && same x y))
      by true e true f ih =
          let here : (same k q && same x y) ≡ true = at_row k x q y r f ∙ e in
          ih ∙ ap (λ b. has_both q y rows && not b) here ∙ and_never (has_both q y rows) ∙ sym (ap (λ b. true && not b) here)
      by true e false f ih = ih
      by false e true f ih =
          let here : (same k q && same x y) ≡ false = at_row k x q y r f ∙ e in
          has-cons q y r (without_both k x rows) ∙ ap (λ b. b || has_both q y (without_both k x rows)) f ∙ sym (ap (λ b. true && not b) here)
      by false e false f ih = has-cons q y r (without_both k x rows) ∙ ap (λ b. b || has_both q y (without_both k x rows)) f ∙ ih

  pub has_with : (k x : Elem) (v : V) (rows : List (Elem × (Elem × V))) (q y : Elem) → has_both q y (with_both k x v rows) ≡ has_both q y rows
  has_with k x v [] q y = refl
  has_with k x v (r ∷ rows) q y =
      has-cons q y (cond (same k r.0 && same x r.1.0) (k, (x, v)) r) (with_both k x v rows) ∙ (λ i. by (same k r.0 && same x r.1.0) refl i || has_with k x v rows q y i) ∙ sym (has-cons q y r rows)
    where
      by : (t : Bool) → (same k r.0 && same x r.1.0) ≡ t → (same q (cond t (k, (x, v)) r).0 && same y (cond t (k, (x, v)) r).1.0) ≡ (same q r.0 && same y r.1.0)
      by true e = let t = both_true (same k r.0) (same x r.1.0) e in (λ i. same q ((same-Decides k r.0).0 t.0 i) && same y ((same-Decides x r.1.0).0 t.1 i))
      by false e = refl
