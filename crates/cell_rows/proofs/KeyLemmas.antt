-- The keys of rows, one after another: in a row or a column of a table, and among all spots.
use Rattle.std.proofs.Common.{◌≡◌, ℕ, zero, suc, ◌+◌, Bool, true, false, cond, List, [], ◌∷◌, length, reverse, refl, ap, sym, ◌∙◌, subst, arith, Decides}
use Rattle.std.specs.Prelude.{filter, slice_get, Option, Some, None, IsSome}
use Rattle.std.specs.Cmp.{decided}
use Rattle.std.specs.List.{IsDistinct, AllByRecursion}
use Rattle.std.specs.Map.{keys_of, lookup}
use Rattle.std.proofs.lemmas.Option.{same_Some, slice_get_past}
use Rattle.elem.specs.declared.elements.Elem.{Elem}
use Rattle.elem.specs.Elements.{same}
use Rattle.elem.specs.ElementLaws.{same-Decides}
use Rattle.elem.specs.Keyed.{value_at, IsPresent, HasDistinctKeys}
use Rattle.elem.specs.Rows.{first_key, last_key, last_key_or, key_after, key_before, key_before_or}
use Rattle.view_laws.specs.declared.lanes.PartAsk.{PartAsk}
use Rattle.view_laws.specs.declared.lanes.PartAsk.TheVariants.{Any, Is, Nothing}
use Rattle.view_laws.specs.Following.{Follows, IsFrom}
use Rattle.view_laws.specs.Lanes.{turned_if}
use Rattle.view_laws.proofs.ListLemmas.{filter-all}
use Rattle.cell_rows.specs.Threads.{key_line}
use Rattle.cell_rows.proofs.MemberLemmas.{in_turned}
use Rattle.cell_rows.proofs.TurnLemmas.{reverse_at, before_at, reverse_next, reverse_first, nothing_there}

-- ---- keys of any type that a test tells apart

module _ {K : Type 0} (eq : K → K → Bool) (decides : (a b : K) → Decides (eq a b) (a ≡ b)) where
  itself : (k l : K) → l ≡ k → eq k l ≡ true
  itself k l e = (decides k l).1 (sym e)

  -- a key behind another is not the same
  later : (k : K) (ks : List K) (i : ℕ) (l : K) → AllByRecursion (λ y. eq k y ≡ false) ks → slice_get ks i ≡ Some l → eq l k ≡ false
  later k [] i l all is = absurd (cc)
  later k (y ∷ ys) zero l all is = (decided eq decides).symm l k ∙ ap (eq k) (sym (same_Some y l is)) ∙ all.0
  later k (y ∷ ys) (suc i) l all is = later k ys i l all.1 is

module _ {K V : Type 0} (eq : K → K → Bool) (decides : (a b : K) → Decides (eq a b) (a ≡ b)) where
  first_at_key : (rows : List (K × V)) → slice_get (keys_of rows) 0 ≡ first_key rows
  first_at_key [] = refl
  first_at_key (r ∷ rs) = refl

  after_at_key : (rows : List (K × V)) (k : K) (i : ℕ) → IsDistinct eq (keys_of rows) → slice_get (keys_of rows) i ≡ Some k → slice_get (keys_of rows) (i + 1) ≡ key_after (eq k) rows
  unfolding IsDistinct
  after_at_key [] k i d is = absurd (cc)
  after_at_key (r ∷ rs) k zero d is = first_at_key rs ∙ ap (λ b. cond b (first_key rs) (key_after (eq k) rs)) (sym (itself eq decides k r.0 (same_Some r.0 k is)))
  after_at_key (r ∷ rs) k (suc i) d is =
      ap (slice_get (keys_of (r ∷ rs))) (let e : suc i + 1 ≡ suc (i + 1) = omega arith in e) ∙ after_at_key rs k i d.1 is
      ∙ ap (λ b. cond b (first_key rs) (key_after (eq k) rs)) (sym (later eq decides r.0 (keys_of rs) i k d.0 is))

  before_or : (start : Option K) (rows : List (K × V)) (k : K) (i : ℕ) → IsDistinct eq (keys_of rows) → slice_get (keys_of rows) i ≡ Some k → before_at start (keys_of rows) i ≡ key_before_or start (eq k) rows
  unfolding IsDistinct
  before_or start [] k i d is = absurd (cc)
  before_or start (r ∷ rs) k zero d is = ap (λ b. cond b start (key_before_or (Some r.0) (eq k) rs)) (sym (itself eq decides k r.0 (same_Some r.0 k is)))
  before_or start (r ∷ rs) k (suc i) d is =
      before_or (Some r.0) rs k i d.1 is ∙ ap (λ b. cond b start (key_before_or (Some r.0) (eq k) rs)) (sym (later eq decides r.0 (keys_of rs) i k d.0 is))

  before_from_key : (rows : List (K × V)) (k : K) (i : ℕ) → IsDistinct eq (keys_of rows) → slice_get (reverse (keys_of rows)) i ≡ Some k → slice_get (reverse (keys_of rows)) (i + 1) ≡ key_before (eq k) rows
  before_from_key rows k i d is =
      let at = reverse_at (keys_of rows) i k is in
      reverse_next (keys_of rows) i at.0 at.2 ∙ before_or None rows k at.0 d at.1

  last_or : (start : Option K) (rows : List (K × V)) → before_at start (keys_of rows) (length (keys_of rows)) ≡ last_key_or start rows
  last_or start [] = refl
  last_or start (r ∷ rs) = last_or (Some r.0) rs

  last_at_key : (rows : List (K × V)) → slice_get (reverse (keys_of rows)) 0 ≡ last_key rows
  last_at_key rows = reverse_first (keys_of rows) ∙ last_or None rows

  there_at_key : (rows : List (K × V)) (i : ℕ) (k : K) → slice_get (keys_of rows) i ≡ Some k → IsSome (lookup (eq k) rows)
  there_at_key [] i k is = absurd (cc)
  there_at_key (r ∷ rs) zero k is = subst (λ b. IsSome (cond b (Some r.1) (lookup (eq k) rs))) (sym (itself eq decides k r.0 (same_Some r.0 k is))) refl
  there_at_key (r ∷ rs) (suc i) k is = by (eq k r.0) (there_at_key rs i k is)
    where
      by : (b : Bool) → IsSome (lookup (eq k) rs) → IsSome (cond b (Some r.1) (lookup (eq k) rs))
      by true ih = refl
      by false ih = ih

  -- where a walk stands, there is a row
  pub from_there : (rows : List (K × V)) (back : Bool) (k : K) → IsFrom (turned_if back (keys_of rows)) (Some k) → IsSome (lookup (eq k) rows)
  from_there rows back k at = let there = in_turned back (keys_of rows) k at.0 at.1 in there_at_key rows there.0 k there.1

  -- what follows: the first from either end, and what stands beside a key
  pub follows_first : (rows : List (K × V)) (back : Bool) (r : Option K) → r ≡ cond back (last_key rows) (first_key rows) → Follows (turned_if back (keys_of rows)) None r
  follows_first rows true r e = last_at_key rows ∙ sym e
  follows_first rows false r e = first_at_key rows ∙ sym e

  pub follows_key : (rows : List (K × V)) (back : Bool) (k : K) (r : Option K) → IsDistinct eq (keys_of rows) → r ≡ cond back (key_before (eq k) rows) (key_after (eq k) rows) → Follows (turned_if back (keys_of rows)) (Some k) r
  follows_key rows true k r d e = λ i is. before_from_key rows k i d is ∙ sym e
  follows_key rows false k r d e = λ i is. after_at_key rows k i d is ∙ sym e

-- ---- rows of elements

-- no key of those is k
none_of : (k : Elem) (ks : List Elem) → AllByRecursion (λ y. same k y ≡ false) ks → filter (same k) ks ≡ []
none_of k [] all = refl
none_of k (y ∷ ys) all = rw all.0 (none_of k ys all.1)

key_alone : (back : Bool) (k : Elem) → slice_get (turned_if back (k ∷ [])) 0 ≡ Some k
key_alone true k = refl
key_alone false k = refl

module _ {V : Type 0} where
  pub first_at : (rows : List (Elem × V)) → slice_get (keys_of rows) 0 ≡ first_key rows
  first_at rows = first_at_key same same-Decides rows

  pub after_at : (rows : List (Elem × V)) (k : Elem) (i : ℕ) → HasDistinctKeys rows → slice_get (keys_of rows) i ≡ Some k → slice_get (keys_of rows) (i + 1) ≡ key_after (same k) rows
  after_at rows k i d is = after_at_key same same-Decides rows k i d is

  pub before_from_back : (rows : List (Elem × V)) (k : Elem) (i : ℕ) → HasDistinctKeys rows → slice_get (reverse (keys_of rows)) i ≡ Some k → slice_get (reverse (keys_of rows)) (i + 1) ≡ key_before (same k) rows
  before_from_back rows k i d is = before_from_key same same-Decides rows k i d is

  pub last_at : (rows : List (Elem × V)) → slice_get (reverse (keys_of rows)) 0 ≡ last_key rows
  last_at rows = last_at_key same same-Decides rows

  pub present_at : (rows : List (Elem × V)) (i : ℕ) (k : Elem) → slice_get (keys_of rows) i ≡ Some k → IsPresent rows k
  present_at rows i k is = there_at_key same same-Decides rows i k is

  -- ---- the lane of all keys

  all_keys : (back : Bool) (rows : List (Elem × V)) → key_line Any back (keys_of rows) ≡ turned_if back (keys_of rows)
  all_keys back rows = ap (turned_if back) (filter-all (keys_of rows))

  pub key_present : (rows : List (Elem × V)) (back : Bool) (from : Option Elem) (k : Elem) → IsFrom (key_line Any back (keys_of rows)) from → from ≡ Some k → IsPresent rows k
  key_present rows back from k h f = from_there same same-Decides rows back k (subst (λ ks. IsFrom ks (Some k)) (all_keys back rows) (subst (IsFrom (key_line Any back (keys_of rows))) f h))

  pub follows_end : (rows : List (Elem × V)) (back : Bool) (from r : Option Elem) → from ≡ None → r ≡ cond back (last_key rows) (first_key rows) → Follows (key_line Any back (keys_of rows)) from r
  follows_end rows back from r f e = rw (f, all_keys back rows) (follows_first same same-Decides rows back r e)

  pub follows_next : (rows : List (Elem × V)) (back : Bool) (from r : Option Elem) (k : Elem) → HasDistinctKeys rows → from ≡ Some k → r ≡ cond back (key_before (same k) rows) (key_after (same k) rows)
      → Follows (key_line Any back (keys_of rows)) from r
  follows_next rows back from r k d f e = rw (f, all_keys back rows) (follows_key same same-Decides rows back k r d e)

  -- ---- one key asked for

  -- the key alone, where it has a value
  abbrev alone : Elem → Option V → List Elem
  alone k None = []
  alone k (Some v) = k ∷ []

  one_of : (k : Elem) (rows : List (Elem × V)) → HasDistinctKeys rows → filter (same k) (keys_of rows) ≡ alone k (value_at rows k)
  unfolding IsDistinct
  one_of k [] d = refl
  one_of k (r ∷ rs) d = by (same k r.0) refl (one_of k rs d.1)
    where
      by : (b : Bool) → same k r.0 ≡ b → filter (same k) (keys_of rs) ≡ alone k (value_at rs k) → cond b (r.0 ∷ filter (same k) (keys_of rs)) (filter (same k) (keys_of rs)) ≡ alone k (cond b (Some r.1) (value_at rs k))
      by true e ih =
          let key : r.0 ≡ k = sym ((same-Decides k r.0).0 e) in
          let rest : filter (same k) (keys_of rs) ≡ [] = none_of k (keys_of rs) (subst (λ x. AllByRecursion (λ y. same x y ≡ false) (keys_of rs)) key d.0) in
          (λ i. key i ∷ rest i)
      by false e ih = ih

  none_behind : (back : Bool) (k : Elem) (o : Option V) (i : ℕ) → slice_get (turned_if back (alone k o)) (i + 1) ≡ None
  none_behind true k None i = refl
  none_behind false k None i = refl
  none_behind true k (Some v) i = slice_get_past (k ∷ []) (i + 1) (omega arith)
  none_behind false k (Some v) i = slice_get_past (k ∷ []) (i + 1) (omega arith)

  pub follows_one : (rows : List (Elem × V)) (k : Elem) (back : Bool) (from : Option Elem) (o : Option V) (v : V) → HasDistinctKeys rows → from ≡ None → o ≡ value_at rows k → o ≡ Some v
      → Follows (key_line (Is k) back (keys_of rows)) from (Some k)
  follows_one rows k back from o v d f e is = rw f (ap (λ ks. slice_get (turned_if back ks) 0) (one_of k rows d ∙ ap (alone k) (sym e ∙ is)) ∙ key_alone back k)

  pub follows_none : (rows : List (Elem × V)) (k : Elem) (back : Bool) (from : Option Elem) (o : Option V) → HasDistinctKeys rows → from ≡ None → o ≡ value_at rows k → o ≡ None
      → Follows (key_line (Is k) back (keys_of rows)) from None
  follows_none rows k back from o d f e is = rw f (ap (λ ks. slice_get (turned_if back ks) 0) (one_of k rows d ∙ ap (alone k) (sym e ∙ is)) ∙ nothing_there back 0)

  pub follows_no_more : (rows : List (Elem × V)) (k : Elem) (back : Bool) (from : Option Elem) (l : Elem) → HasDistinctKeys rows → from ≡ Some l → Follows (key_line (Is k) back (keys_of rows)) from None
  follows_no_more rows k back from l d f = rw f (λ i is. ap (λ ks. slice_get (turned_if back ks) (i + 1)) (one_of k rows d) ∙ none_behind back k (value_at rows k) i)

-- ---- no key asked for

pub filter-none : {X : Type 0} (xs : List X) → filter (λ _. false) xs ≡ []
filter-none [] = refl
filter-none (x ∷ xs) = filter-none xs

pub nothing_follows : {X : Type 0} (back : Bool) (from : Option X) → Follows (turned_if back []) from None
nothing_follows back None = nothing_there back 0
nothing_follows back (Some k) = λ i is. nothing_there back (i + 1)

pub follows_nothing : (ks : List Elem) (ask : PartAsk) (back : Bool) (from : Option Elem) → ask ≡ Nothing → Follows (key_line ask back ks) from None
follows_nothing ks ask back from l = rw (l, filter-none ks) (nothing_follows back from)
