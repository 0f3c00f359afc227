-- What a key has after a row has come in its place, and cuts at the ends.
use Rattle.std.proofs.Common.{◌≡◌, ℕ, zero, suc, ◌+◌, ◌<◌, Bool, true, false, cond, ◌||◌, List, [], ◌∷◌, length, take, Option, Some, None, refl, sym, ap, ◌∙◌, arith, slice_index_or}
use Rattle.std.specs.Prelude.{is_some}
use Rattle.std.specs.List.{list_any}
use Rattle.elem.specs.declared.elements.Elem.{Elem}
use Rattle.elem.specs.declared.cuts.Cut.{Cut}
use Rattle.elem.specs.declared.cuts.Cut.TheVariants.{Start, Below, Above, End}
use Rattle.elem.specs.Cuts.{cut_upto}
use Rattle.elem.specs.Elements.{same}
use Rattle.elem.specs.ElementLaws.{same-Decides}
use Rattle.elem.specs.Keyed.{value_at}
use Rattle.plain_base.specs.Sorted.{placed}

pub upto_end : (before : Elem → Elem → Bool) (c : Cut) → cut_upto before c End ≡ true
upto_end before Start = refl
upto_end before (Below k) = refl
upto_end before (Above k) = refl
upto_end before End = refl

pub from_start : (before : Elem → Elem → Bool) (c : Cut) → cut_upto before Start c ≡ true
from_start before Start = refl
from_start before (Below k) = refl
from_start before (Above k) = refl
from_start before End = refl

module _ {V : Type 0} where
  either_one : (b : Bool) (x : V) (o : Option V) → is_some (cond b (Some x) o) ≡ (is_some o || b)
  either_one true x None = refl
  either_one true x (Some y) = refl
  either_one false x None = refl
  either_one false x (Some y) = refl

  either_way : (b c : Bool) (x : V) (o p : Option V) → is_some p ≡ (is_some o || c) → is_some (cond b (Some x) p) ≡ (is_some (cond b (Some x) o) || c)
  either_way true c x o p e = refl
  either_way false c x o p e = e

  pub has_placed : (before : Elem → Elem → Bool) (rows : List (Elem × V)) (x : Elem) (v : V) (q : Elem) → is_some (value_at (placed before rows x v) q) ≡ (is_some (value_at rows q) || same q x)
  has_placed before [] x v q = either_one (same q x) v None
  has_placed before (r ∷ rows) x v q = by (before x r.0) (has_placed before rows x v q)
    where
      by : (b : Bool) → is_some (value_at (placed before rows x v) q) ≡ (is_some (value_at rows q) || same q x)
          → is_some (value_at (cond b ((x, v) ∷ r ∷ rows) (r ∷ placed before rows x v)) q) ≡ (is_some (cond (same q r.0) (Some r.1) (value_at rows q)) || same q x)
      by true e = either_one (same q x) v (value_at (r ∷ rows) q)
      by false e = either_way (same q r.0) (same q x) r.1 (value_at rows q) (value_at (placed before rows x v) q) e

or_false : (b : Bool) → (b || false) ≡ b
or_false true = refl
or_false false = refl

any_next : {X : Type 0} (p : X → Bool) (xs : List X) (i : ℕ) (x : X) → i < length xs → x ≡ slice_index_or xs i x → list_any p (take (suc i) xs) ≡ (list_any p (take i xs) || p x)
any_next p [] i x l e = absurd (omega arith)
any_next p (y ∷ ys) zero x l e = or_false (p y) ∙ ap p (sym e)
any_next p (y ∷ ys) (suc i) x l e = by (p y) (any_next p ys i x (omega arith) e)
  where
    by : (b : Bool) → list_any p (take (suc i) ys) ≡ (list_any p (take i ys) || p x) → (b || list_any p (take (suc i) ys)) ≡ ((b || list_any p (take i ys)) || p x)
    by true h = refl
    by false h = h

pub any_more : {X : Type 0} (p : X → Bool) (xs : List X) (i : ℕ) (x : X) → i < length xs → x ≡ slice_index_or xs i x → list_any p (take (i + 1) xs) ≡ (list_any p (take i xs) || p x)
any_more p xs i x l e = let s : i + 1 ≡ suc i = omega arith in ap (λ n. list_any p (take n xs)) s ∙ any_next p xs i x l e

-- what is there already is no more
pub already : {V : Type 0} (rows : List (Elem × V)) (x v : Elem) (found : Bool) → is_some (value_at rows v) ≡ true → is_some (value_at rows x) ≡ found → found ≡ (found || same x v)
already rows x v found h e = by (same x v) refl
  where
    by : (b : Bool) → same x v ≡ b → found ≡ (found || b)
    by true s =
        let there : found ≡ true = sym e ∙ ap (λ q. is_some (value_at rows q)) ((same-Decides x v).0 s) ∙ h in
        there ∙ sym (ap (λ b. b || true) there)
    by false s = sym (or_false found)
