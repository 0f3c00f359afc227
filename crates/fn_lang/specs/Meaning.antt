-- What predicates and functions mean, by recursion on the tree.
use Rattle.std.specs.Prelude.{◌≡◌, ℕ, ℤ, pos, ◌+ℤ◌, ◌-ℤ◌, ◌*ℤ◌, Bool, true, false, not, ◌&&◌, ◌||◌, nat_le, nat_eq, if◌then◌else◌, List, ◌++◌, length, take}
use Rattle.std.specs.Int.{w64, int_wrap, int_rem_euclid}
use Rattle.std.specs.Ordering.{int_eq}
use Rattle.std.specs.Cmp.Lexicographic.{pointwise}
use Rattle.elem.specs.declared.elements.Elem.{Elem}
use Rattle.elem.specs.declared.elements.Elem.TheVariants.{Int, Text}
use Rattle.elem.specs.Elements.{same}
use Rattle.elem.specs.Orders.{natural_before}
use Rattle.elem.specs.Spelling.{spelling}
use Rattle.fn_lang.specs.declared.leaves.Test.{Test}
use Rattle.fn_lang.specs.declared.leaves.Test.TheVariants as tests
use Rattle.fn_lang.specs.declared.leaves.Map.{Map}
use Rattle.fn_lang.specs.declared.leaves.Map.TheVariants as maps
use Rattle.fn_lang.specs.declared.parts.Part.{Part}
use Rattle.fn_lang.specs.Trees.{PredTree, One, And, Or, Not, PairTree, OfKey, OfValue, Both, Either, Neither, FuncTree, Leaf, Then, When, pred_parts, pair_parts, func_parts}

abbrev pub is_even : ℤ → Bool
is_even n = int_eq (int_rem_euclid n (pos 2)) (pos 0)

-- the text begins with another
abbrev pub begins_with : List ℕ → List ℕ → Bool
begins_with text front = nat_le (length front) (length text) && pointwise nat_eq (take (length front) text) front

-- whether a predicate without others holds for the element y
abbrev pub test_holds : Test → Elem → Bool
test_holds tests.Any y = true
test_holds tests.IsInt (Int n) = true
test_holds tests.IsInt (Text w) = false
test_holds tests.Even (Int n) = is_even n
test_holds tests.Even (Text w) = false
test_holds tests.Odd (Int n) = not (is_even n)
test_holds tests.Odd (Text w) = false
test_holds (tests.Below x) y = natural_before y x
test_holds (tests.Above x) y = natural_before x y
test_holds (tests.Same x) y = same y x
test_holds (tests.Starts t) (Int n) = false
test_holds (tests.Starts t) (Text w) = begins_with w t

-- the text of y with another before it, cut after 24 bytes
abbrev pub prefixed : List ℕ → Elem → Elem
prefixed t y = Text (take 24 (t ++ spelling y))

-- the value of a function without others for the element y; sums wrap at 64 bits, and a text stays as it is
abbrev pub mapped : Map → Elem → Elem
mapped (maps.Plus n) (Int y) = Int (int_wrap w64 (y +ℤ n))
mapped (maps.Plus n) (Text w) = Text w
mapped (maps.Times n) (Int y) = Int (int_wrap w64 (y *ℤ n))
mapped (maps.Times n) (Text w) = Text w
mapped maps.Negate (Int y) = Int (int_wrap w64 (pos 0 -ℤ y))
mapped maps.Negate (Text w) = Text w
mapped maps.Length y = Int (pos (length (spelling y)))
mapped (maps.Const x) y = x
mapped (maps.Prefix t) y = prefixed t y

abbrev pub pred_holds : PredTree → Elem → Bool
pred_holds (One t) x = test_holds t x
pred_holds (And p q) x = pred_holds p x && pred_holds q x
pred_holds (Or p q) x = pred_holds p x || pred_holds q x
pred_holds (Not p) x = not (pred_holds p x)

abbrev pub pair_holds : PairTree → Elem → Elem → Bool
pair_holds (OfKey p) k v = pred_holds p k
pair_holds (OfValue p) k v = pred_holds p v
pair_holds (Both p q) k v = pair_holds p k v && pair_holds q k v
pair_holds (Either p q) k v = pair_holds p k v || pair_holds q k v
pair_holds (Neither p) k v = not (pair_holds p k v)

abbrev pub func_value : FuncTree → Elem → Elem
func_value (Leaf m) x = mapped m x
func_value (Then f g) x = func_value g (func_value f x)
func_value (When p f g) x = if pred_holds p x then func_value f x else func_value g x

-- ---- along a list of parts

-- where the list begins with a predicate, this is its truth at x, and rest is behind it
unfoldable pub HoldsAlong : Elem → List Part → Bool → List Part → Type 0
HoldsAlong x ps truth rest = (p : PredTree) (after : List Part) → ps ≡ pred_parts p ++ after → (truth ≡ pred_holds p x) × (rest ≡ after)

unfoldable pub PairHoldsAlong : Elem → Elem → List Part → Bool → List Part → Type 0
PairHoldsAlong k v ps truth rest = (p : PairTree) (after : List Part) → ps ≡ pair_parts p ++ after → (truth ≡ pair_holds p k v) × (rest ≡ after)

unfoldable pub GivesAlong : Elem → List Part → Elem → List Part → Type 0
GivesAlong x ps value rest = (f : FuncTree) (after : List Part) → ps ≡ func_parts f ++ after → (value ≡ func_value f x) × (rest ≡ after)
