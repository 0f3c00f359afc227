-- Orders of elements: tests whether one comes before another.
use Rattle.std.specs.Prelude.{◌≡◌, ◌≢◌, Bool, true, false, not, length}
use Rattle.std.specs.Ordering.{is_lt, nat_cmp, on, then_cmp, flip_args}
use Rattle.std.specs.declared.cmp.Ordering.{Ordering}
use Rattle.elem.specs.declared.elements.Elem.{Elem}
use Rattle.elem.specs.Elements.{natural_order}
use Rattle.elem.specs.Spelling.{spelling}

-- nothing comes before itself, of two different values exactly one comes before the other, and before is transitive
pub record IsStrictOrder {A : Type 0} (before : A → A → Bool) : Type 0 where
  pub irreflexive : (a : A) → before a a ≡ false
  pub exactly_one : (a b : A) → a ≢ b → before a b ≡ not (before b a)
  pub transitive : (a b c : A) → before a b ≡ true → before b c ≡ true → before a c ≡ true

-- numbers before words, numbers by value, words by their bytes
abbrev pub natural_before : Elem → Elem → Bool
natural_before a b = is_lt (natural_order a b)

-- the natural order turned round
abbrev pub reverse_before : Elem → Elem → Bool
reverse_before = flip_args natural_before

-- fewer bytes of spelling first, and the natural order at equal lengths
unfoldable pub length_order : Elem → Elem → Ordering
length_order = then_cmp (on (λ e. length (spelling e)) nat_cmp) natural_order

abbrev pub length_before : Elem → Elem → Bool
length_before a b = is_lt (length_order a b)
