-- The keys of rows, one after another.
use Rattle.std.proofs.Common.{◌≡◌, ℕ, zero, suc, ◌+◌, Bool, true, false, cond, List, [], ◌∷◌, length, reverse, refl, ap, sym, ◌∙◌, subst, arith}
use Rattle.std.specs.Prelude.{filter, slice_get, Option, Some, None, IsSome}
use Rattle.std.specs.List.{IsDistinct, AllByRecursion}
use Rattle.std.specs.Map.{keys_of}
use Rattle.std.proofs.lemmas.Option.{same_Some, slice_get_past}
use Rattle.elem.specs.declared.elements.Elem.{Elem}
use Rattle.elem.specs.declared.windows.Window.{Window}
use Rattle.elem.specs.Cuts.{lies_between}
use Rattle.elem.specs.Elements.{same}
use Rattle.elem.specs.ElementLaws.{same-Decides, same_equiv}
use Rattle.elem.specs.Keyed.{value_at, IsPresent, HasDistinctKeys}
use Rattle.elem.specs.Rows.{first_key, last_key, last_key_or, key_after, key_before, key_before_or}
use Rattle.view_laws.specs.declared.lanes.PartAsk.{PartAsk}
use Rattle.view_laws.specs.declared.lanes.PartAsk.TheVariants.{Any, Is, Within, Nothing}
use Rattle.vocabulary.specs.declared.orders.Order.{Order}
use Rattle.view_laws.specs.Following.{Follows, IsFrom}
use Rattle.view_laws.specs.Lanes.{meets, turned_if}
use Rattle.view_laws.proofs.ListLemmas.{filter-all}
use Rattle.base_rows.specs.KeyLines.{key_line, HasNoWindow, HasWindowIn}
use Rattle.base_rows.proofs.MemberLemmas.{in_turned}
use Rattle.base_rows.proofs.TurnLemmas.{reverse_at, before_at, reverse_next, reverse_first, nothing_there}

pub itself : (k l : Elem) → l ≡ k → same k l ≡ true
itself k l e = (same-Decides k l).1 (sym e)

-- a key behind another is not the same
pub later : (k : Elem) (ks : List Elem) (i : ℕ) (l : Elem) → AllByRecursion (λ y. same k y ≡ false) ks → slice_get ks i ≡ Some l → same l k ≡ false
later k [] i l all is = absurd (cc)
later k (y ∷ ys) zero l all is = same_equiv.symm l k ∙ ap (same k) (sym (same_Some y l is)) ∙ all.0
later k (y ∷ ys) (suc i) l all is = later k ys i l all.1 is

-- no key of those is k
none_of : (k : Elem) (ks : List Elem) → AllByRecursion (λ y. same k y ≡ false) ks → filter (same k) ks ≡ []
none_of k [] all = refl
none_of k (y ∷ ys) all = rw all.0 (none_of k ys all.1)

key_alone : (back : Bool) (k : Elem) → slice_get (turned_if back (k ∷ [])) 0 ≡ Some k
key_alone true k = refl
key_alone false k = refl

module _ {V : Type 0} where
  pub first_at : (rows : List (Elem × V)) → slice_get (keys_of rows) 0 ≡ first_key rows
  first_at [] = refl
  first_at (r ∷ rs) = refl

  pub after_at : (rows : List (Elem × V)) (k : Elem) (i : ℕ) → HasDistinctKeys rows → slice_get (keys_of rows) i ≡ Some k → slice_get (keys_of rows) (i + 1) ≡ key_after (same k) rows
  unfolding IsDistinct
  after_at [] k i d is = absurd (cc)
  after_at (r ∷ rs) k zero d is = first_at rs ∙ ap (λ b. cond b (first_key rs) (key_after (same k) rs)) (sym (itself k r.0 (same_Some r.0 k is)))
  after_at (r ∷ rs) k (suc i) d is =
      ap (slice_get (keys_of (r ∷ rs))) (let e : suc i + 1 ≡ suc (i + 1) = omega arith in e) ∙ after_at rs k i d.1 is
      ∙ ap (λ b. cond b (first_key rs) (key_after (same k) rs)) (sym (later r.0 (keys_of rs) i k d.0 is))

  before_or : (start : Option Elem) (rows : List (Elem × V)) (k : Elem) (i : ℕ) → HasDistinctKeys rows → slice_get (keys_of rows) i ≡ Some k → before_at start (keys_of rows) i ≡ key_before_or start (same k) rows
  unfolding IsDistinct
  before_or start [] k i d is = absurd (cc)
  before_or start (r ∷ rs) k zero d is = ap (λ b. cond b start (key_before_or (Some r.0) (same k) rs)) (sym (itself k r.0 (same_Some r.0 k is)))
  before_or start (r ∷ rs) k (suc i) d is =
      before_or (Some r.0) rs k i d.1 is ∙ ap (λ b. cond b start (key_before_or (Some r.0) (same k) rs)) (sym (later r.0 (keys_of rs) i k d.0 is))

  pub before_from_back : (rows : List (Elem × V)) (k : Elem) (i : ℕ) → HasDistinctKeys rows → slice_get (reverse (keys_of rows)) i ≡ Some k → slice_get (reverse (keys_of rows)) (i + 1) ≡ key_before (same k) rows
  before_from_back rows k i d is =
      let at = reverse_at (keys_of rows) i k is in
      reverse_next (keys_of rows) i at.0 at.2 ∙ before_or None rows k at.0 d at.1

  last_or : (start : Option Elem) (rows : List (Elem × V)) → before_at start (keys_of rows) (length (keys_of rows)) ≡ last_key_or start rows
  last_or start [] = refl
  last_or start (r ∷ rs) = last_or (Some r.0) rs

  pub last_at : (rows : List (Elem × V)) → slice_get (reverse (keys_of rows)) 0 ≡ last_key rows
  last_at rows = reverse_first (keys_of rows) ∙ last_or None rows

  pub present_at : (rows : List (Elem × V)) (i : ℕ) (k : Elem) → slice_get (keys_of rows) i ≡ Some k → IsPresent rows k
  present_at [] i k is = absurd (cc)
  present_at (r ∷ rs) zero k is = subst (λ b. IsSome (cond b (Some r.1) (value_at rs k))) (sym (itself k r.0 (same_Some r.0 k is))) refl
  present_at (r ∷ rs) (suc i) k is = by (same k r.0) (present_at rs i k is)
    where
      by : (b : Bool) → IsPresent rs k → IsSome (cond b (Some r.1) (value_at rs k))
      by true ih = refl
      by false ih = ih

  -- ---- the lane of all keys

  all_keys : (back : Bool) (rows : List (Elem × V)) → key_line Any back (keys_of rows) ≡ turned_if back (keys_of rows)
  all_keys back rows = ap (turned_if back) (filter-all (keys_of rows))

  pub key_present : (rows : List (Elem × V)) (back : Bool) (from : Option Elem) (k : Elem) → IsFrom (key_line Any back (keys_of rows)) from → from ≡ Some k → IsPresent rows k
  key_present rows back from k h f =
      let at : IsFrom (turned_if back (keys_of rows)) (Some k) = subst (λ ks. IsFrom ks (Some k)) (all_keys back rows) (subst (IsFrom (key_line Any back (keys_of rows))) f h) in
      let there = in_turned back (keys_of rows) k at.0 at.1 in
      present_at rows there.0 k there.1

  pub follows_end : (rows : List (Elem × V)) (back : Bool) (from r : Option Elem) → from ≡ None → r ≡ cond back (last_key rows) (first_key rows) → Follows (key_line Any back (keys_of rows)) from r
  follows_end rows true from r f e = rw (f, e, all_keys true rows) (last_at rows)
  follows_end rows false from r f e = rw (f, e, all_keys false rows) (first_at rows)

  pub follows_next : (rows : List (Elem × V)) (back : Bool) (from r : Option Elem) (k : Elem) → HasDistinctKeys rows → from ≡ Some k → r ≡ cond back (key_before (same k) rows) (key_after (same k) rows)
      → Follows (key_line Any back (keys_of rows)) from r
  follows_next rows true from r k d f e = rw (f, e, all_keys true rows) (λ i is. before_from_back rows k i d is)
  follows_next rows false from r k d f e = rw (f, e, all_keys false rows) (λ i is. after_at rows k i d is)

  -- ---- one key asked for

  -- the key alone, where it has a value
  abbrev alone : Elem → Option V → List Elem
  alone k None = []
  alone k (Some v) = k ∷ []

  one_of : (k : Elem) (rows : List (Elem × V)) → HasDistinctKeys rows → filter (same k) (keys_of rows) ≡ alone k (value_at rows k)
  unfolding IsDistinct
  one_of k [] d = refl
  one_of k (r ∷ rs) d = by (same k r.0) refl (one_of k rs d.1)
    where
      by : (b : Bool) → same k r.0 ≡ b → filter (same k) (keys_of rs) ≡ alone k (value_at rs k) → cond b (r.0 ∷ filter (same k) (keys_of rs)) (filter (same k) (keys_of rs)) ≡ alone k (cond b (Some r.1) (value_at rs k))
      by true e ih =
          let key : r.0 ≡ k = sym ((same-Decides k r.0).0 e) in
          let rest : filter (same k) (keys_of rs) ≡ [] = none_of k (keys_of rs) (subst (λ x. AllByRecursion (λ y. same x y ≡ false) (keys_of rs)) key d.0) in
          (λ i. key i ∷ rest i)
      by false e ih = ih

  none_behind : (back : Bool) (k : Elem) (o : Option V) (i : ℕ) → slice_get (turned_if back (alone k o)) (i + 1) ≡ None
  none_behind true k None i = refl
  none_behind false k None i = refl
  none_behind true k (Some v) i = slice_get_past (k ∷ []) (i + 1) (omega arith)
  none_behind false k (Some v) i = slice_get_past (k ∷ []) (i + 1) (omega arith)

  pub follows_one : (rows : List (Elem × V)) (k : Elem) (back : Bool) (from : Option Elem) (o : Option V) (v : V) → HasDistinctKeys rows → from ≡ None → o ≡ value_at rows k → o ≡ Some v
      → Follows (key_line (Is k) back (keys_of rows)) from (Some k)
  follows_one rows k back from o v d f e is = rw f (ap (λ ks. slice_get (turned_if back ks) 0) (one_of k rows d ∙ ap (alone k) (sym e ∙ is)) ∙ key_alone back k)

  pub follows_none : (rows : List (Elem × V)) (k : Elem) (back : Bool) (from : Option Elem) (o : Option V) → HasDistinctKeys rows → from ≡ None → o ≡ value_at rows k → o ≡ None
      → Follows (key_line (Is k) back (keys_of rows)) from None
  follows_none rows k back from o d f e is = rw f (ap (λ ks. slice_get (turned_if back ks) 0) (one_of k rows d ∙ ap (alone k) (sym e ∙ is)) ∙ nothing_there back 0)

  pub follows_no_more : (rows : List (Elem × V)) (k : Elem) (back : Bool) (from : Option Elem) (l : Elem) → HasDistinctKeys rows → from ≡ Some l → Follows (key_line (Is k) back (keys_of rows)) from None
  follows_no_more rows k back from l d f = rw f (λ i is. ap (λ ks. slice_get (turned_if back ks) (i + 1)) (one_of k rows d) ∙ none_behind back k (value_at rows k) i)

-- ---- no key asked for, and those in a window

filter-none : {X : Type 0} (xs : List X) → filter (λ _. false) xs ≡ []
filter-none [] = refl
filter-none (x ∷ xs) = filter-none xs

nothing_follows : (back : Bool) (from : Option Elem) → Follows (turned_if back []) from None
nothing_follows back None = nothing_there back 0
nothing_follows back (Some k) = λ i is. nothing_there back (i + 1)

pub follows_nothing : (ks : List Elem) (ask : PartAsk) (back : Bool) (from : Option Elem) → ask ≡ Nothing → Follows (key_line ask back ks) from None
follows_nothing ks ask back from l = rw (l, filter-none ks) (nothing_follows back from)

pub no_window : (ask : PartAsk) (order : Order) (w : Window) → HasNoWindow ask → ask ≡ Within order w → ⊥
no_window ask order w h e = subst HasNoWindow e h

-- the test that asks for a window is that of the window
pub window_test : (test : Elem → Elem → Bool) (ask : PartAsk) (order : Order) (w : Window) → HasWindowIn test ask → ask ≡ Within order w → meets ask ≡ lies_between test w.lo w.hi
window_test test ask order w h e = let own : HasWindowIn test (Within order w) = subst (HasWindowIn test) e h in ap meets e ∙ ap (λ t. lies_between t w.lo w.hi) own.0
