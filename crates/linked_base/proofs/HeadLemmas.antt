-- The places that are the first of their keys: tests of lists, and of keys that no place has.
use Rattle.std.proofs.Common.{◌≡◌, ℕ, Bool, true, false, cond, not, ◌&&◌, List, [], ◌∷◌, ◌++◌, Option, Some, None, refl, sym, ap, ◌∙◌}
use Rattle.std.specs.Prelude.{is_some}
use Rattle.std.specs.Option.{is_none}
use Rattle.std.specs.List.{filter}
use Rattle.std.proofs.lemmas.List.Elements.{filter-append}
use Rattle.elem.specs.declared.elements.Elem.{Elem}
use Rattle.elem.specs.Elements.{same}
use Rattle.elem.specs.ElementLaws.{same_equiv}
use Rattle.linked_base.specs.Thread.{last_or}
use Rattle.linked_base.specs.Group.{has, of_key}

abbrev pub is_empty : List ℕ → Bool
is_empty [] = true
is_empty (p ∷ ps) = false

-- what the test of an option tells
pub none_is : (o : Option ℕ) (b : Bool) → is_some o ≡ not b → is_none o ≡ b
none_is None true e = refl
none_is None false e = sym e
none_is (Some p) true e = sym e
none_is (Some p) false e = refl

last_is_none : (q : ℕ) (us : List ℕ) → is_none (last_or (Some q) us) ≡ false
last_is_none q [] = refl
last_is_none q (r ∷ us) = last_is_none r us

pub none_iff_empty : (us : List ℕ) → is_none (last_or None us) ≡ is_empty us
none_iff_empty [] = refl
none_iff_empty (q ∷ us) = last_is_none q us

-- no place of us has the key
abbrev pub is_unseen : (ℕ → Option Elem) → List ℕ → Elem → Bool
is_unseen key us k = is_empty (of_key key k us)

-- tests of lists
pub filter_both : {X : Type 0} (f g h : X → Bool) → ((x : X) → h x ≡ (f x && g x)) → (xs : List X) → filter h xs ≡ filter f (filter g xs)
filter_both f g h e [] = refl
filter_both f g h e (x ∷ xs) = ap (λ b. cond b (x ∷ filter h xs) (filter h xs)) (e x) ∙ by_case (g x) (f x) refl (filter_both f g h e xs)
  where
    by_case : (b c : Bool) → f x ≡ c → filter h xs ≡ filter f (filter g xs) → cond (c && b) (x ∷ filter h xs) (filter h xs) ≡ filter f (cond b (x ∷ filter g xs) (filter g xs))
    by_case true true t r = ap (λ l. x ∷ l) r ∙ sym (ap (λ d. cond d (x ∷ filter f (filter g xs)) (filter f (filter g xs))) t)
    by_case true false t r = r ∙ sym (ap (λ d. cond d (x ∷ filter f (filter g xs)) (filter f (filter g xs))) t)
    by_case false true t r = r
    by_case false false t r = r

pub filter_all : {X : Type 0} (f : X → Bool) → ((x : X) → f x ≡ true) → (xs : List X) → filter f xs ≡ xs
filter_all f e [] = refl
filter_all f e (x ∷ xs) = ap (λ b. cond b (x ∷ filter f xs) (filter f xs)) (e x) ∙ ap (λ l. x ∷ l) (filter_all f e xs)

empty_append : (us vs : List ℕ) → is_empty (us ++ vs) ≡ (is_empty us && is_empty vs)
empty_append [] vs = refl
empty_append (u ∷ us) vs = refl

pub unseen_more : (key : ℕ → Option Elem) (us : List ℕ) (p : ℕ) (k x : Elem) → key p ≡ Some k → is_unseen key (us ++ p ∷ []) x ≡ (is_unseen key us x && not (same k x))
unseen_more key us p k x here =
    ap is_empty (filter-append (λ q. has x (key q)) us (p ∷ []) ∙ ap (λ o. of_key key x us ++ cond (has x o) (p ∷ []) []) here)
    ∙ empty_append (of_key key x us) (cond (same x k) (p ∷ []) []) ∙ ap (λ b. is_empty (of_key key x us) && b) (by_case (same x k) ∙ ap not (same_equiv.symm x k))
  where
    by_case : (b : Bool) → is_empty (cond b (p ∷ []) []) ≡ not b
    by_case true = refl
    by_case false = refl
