-- The candidates of a key: one at most, found from the row of the base that has it.
use Rattle.std.proofs.Common.{◌≡◌, Bool, true, false, cond, ◌&&◌, ◌||◌, List, [], ◌∷◌, refl, ap, ◌∙◌}
use Rattle.std.specs.Prelude.{nat_eq, filter, find, slice_get, Option, Some, None, is_some}
use Rattle.std.specs.List.{list_any}
use Rattle.std.specs.Option.{option_to_list}
use Rattle.elem.specs.Elements.{same}
use Rattle.elem.specs.ElementLaws.{same_equiv}
use Rattle.vocabulary.specs.declared.items.Item.{Item}
use Rattle.vocabulary.specs.declared.items.Item.TheVariants.{One, Entry, Counted, Cell, Group, Piece, Range, RangeEntry, Pair, Edge}
use Rattle.machine.specs.Shown.{has_key}
use Rattle.vocabulary.specs.Items.{key_of, no_element, same_item}
use Rattle.view_steps.proofs.ListLemmas.{both, never, or-false}

find_first : {X : Type 0} (p : X → Bool) (xs : List X) → find p xs ≡ slice_get (filter p xs) 0
find_first p [] = refl
find_first p (x ∷ xs) = by (p x) (find_first p xs)
  where
    by : (t : Bool) → find p xs ≡ slice_get (filter p xs) 0 → cond t (Some x) (find p xs) ≡ slice_get (cond t (x ∷ filter p xs) (filter p xs)) 0
    by true rest = refl
    by false rest = rest

pub find_one : {X : Type 0} (p : X → Bool) (xs : List X) (o : Option X) → filter p xs ≡ option_to_list o → find p xs ≡ o
find_one {X} p xs o h = find_first p xs ∙ ap (λ (ys : List X). slice_get ys 0) h ∙ by o
  where
    by : (o : Option X) → slice_get (option_to_list o) 0 ≡ o
    by None = refl
    by (Some x) = refl

pub any_found : {X : Type 0} (p : X → Bool) (xs : List X) → list_any p xs ≡ is_some (find p xs)
any_found p [] = refl
any_found p (x ∷ xs) = by (p x) (any_found p xs)
  where
    by : (t : Bool) → list_any p xs ≡ is_some (find p xs) → t || list_any p xs ≡ is_some (cond t (Some x) (find p xs))
    by true rest = refl
    by false rest = rest

any_in : {X : Type 0} (p q : X → Bool) (xs : List X) → ((x : X) → p x ≡ true → q x ≡ true) → list_any p xs ≡ list_any p (filter q xs)
any_in p q [] imply = refl
any_in p q (x ∷ xs) imply = by (q x) (p x) refl refl (any_in p q xs imply)
  where
    by : (s t : Bool) → q x ≡ s → p x ≡ t → list_any p xs ≡ list_any p (filter q xs) → p x || list_any p xs ≡ list_any p (cond s (x ∷ filter q xs) (filter q xs))
    by true t e f rest = ap (λ b. p x || b) rest
    by false true e f rest = absurd (never (q x) e (imply x f))
    by false false e f rest = ap (λ b. b || list_any p xs) f ∙ rest

-- items that are the same have the same key
pub same_keyed : (a b : Item) → same_item a b ≡ true → has_key (key_of a) b ≡ true
same_keyed (One x) (One y) h = h
same_keyed (Entry k v) (Entry l w) h = (both (same k l) (same v w) h).0
same_keyed (Counted x m) (Counted y n) h = (both (same x y) (nat_eq m n) h).0
same_keyed (Cell r c v) (Cell s d w) h = (both (same r s) (same c d) (both (same r s && same c d) (same v w) h).0).0
same_keyed (Group k) (Group l) h = h
same_keyed (Piece i) (Piece j) h = same_equiv.refl no_element
same_keyed (Range s) (Range t) h = same_equiv.refl no_element
same_keyed (RangeEntry s v) (RangeEntry t w) h = same_equiv.refl no_element
same_keyed (Pair a b) (Pair c d) h = same_equiv.refl no_element
same_keyed (Edge a b v) (Edge c d w) h = same_equiv.refl no_element
same_keyed _ _ h = absurd (cc)

-- whether what is shown at a key is the same
abbrev pub same_as : Item → Option Item → Bool
same_as item None = false
same_as item (Some other) = same_item item other

pub shown_at : (item : Item) (items : List Item) (o : Option Item) → filter (has_key (key_of item)) items ≡ option_to_list o → list_any (same_item item) items ≡ same_as item o
shown_at item items o h = any_in (same_item item) (has_key (key_of item)) items (same_keyed item) ∙ ap (list_any (same_item item)) h ∙ by o
  where
    by : (o : Option Item) → list_any (same_item item) (option_to_list o) ≡ same_as item o
    by None = refl
    by (Some other) = or-false (same_item item other)
