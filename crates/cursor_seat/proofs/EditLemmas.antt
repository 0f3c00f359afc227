-- An edit leaves a base at a later time: where it is not structural, the rows keep their spots.
use Rattle.std.proofs.Common.{◌≡◌, ℕ, zero, suc, ◌+◌, ◌≤◌, Bool, true, false, cond, not, ◌||◌, ◌&&◌, List, [], ◌∷◌, length, map, refl, ap, sym, ◌∙◌, arith, length-set}
use Rattle.std.specs.Prelude.{insert, nat_lt}
use Rattle.std.specs.List.{AllByRecursion}
use Rattle.std.specs.Cmp.Lexicographic.{pointwise}
use Rattle.std.proofs.lemmas.Bool.Decides.{nat_tests}
use Rattle.std.proofs.lemmas.List.{length-map}
use Rattle.cursor_seat.specs.Later.{EditLeaves, IsSpotFor, is_change}
use Rattle.elem.specs.Elements.{same}
use Rattle.elem.specs.ElementLaws.{same-Decides}
use Rattle.elem.specs.declared.elements.Elem.{Elem}
use Rattle.machine.specs.Edits.{Coming, goes, placed_all, with_coming, without_rows}
use Rattle.machine.specs.Placing.{placed, settled}
use Rattle.vocabulary.specs.declared.edits.Spot.TheVariants.{Before, InKey, Instead, Own, Swapped}
use Rattle.vocabulary.specs.declared.items.Item.{Item}
use Rattle.vocabulary.specs.declared.items.Item.TheVariants.{Edge}
use Rattle.vocabulary.specs.declared.kinds.Kind.{Kind}
use Rattle.vocabulary.specs.Items.{key_of, same_item, swapped}
use Rattle.vocabulary.specs.Kinds.{order_of_kind, shape_of_kind}
use Rattle.vocabulary.specs.Known.{is_known_kind}
use Rattle.vocabulary.specs.Orders.{before}
use Rattle.vocabulary.specs.Shapes.{is_bimap, is_keyed, is_sorted}
use Rattle.view_laws.proofs.ListLemmas.{both_true, neither_true}
use Rattle.view_steps.proofs.EditedRows.{without_few}
use Rattle.view_steps.proofs.KeyLemmas.{same_keyed}
use Rattle.view_steps.proofs.PlacedRows.{placed_by_key, placed_count}

-- ---- rows that stay

all_stay : (gone : List ℕ) (n : ℕ) (rows : List Item) → length (without_rows gone n rows) ≡ length rows → without_rows gone n rows ≡ rows
all_stay gone n [] many = refl
all_stay gone n (row ∷ rows) many = by (goes gone n) many (all_stay gone (n + 1) rows)
  where
    rest : List Item
    rest = without_rows gone (n + 1) rows

    by : (b : Bool) → length (cond b rest (row ∷ rest)) ≡ length (row ∷ rows) → (length rest ≡ length rows → rest ≡ rows) → cond b rest (row ∷ rest) ≡ row ∷ rows
    by true h below = absurd (omega (arith, without_few gone (n + 1) rows))
    by false h below = ap (λ (rs : List Item). row ∷ rs) (below (omega arith))

-- ---- a row that comes

settled_key : (new old : Item) → key_of (settled new old) ≡ key_of new
settled_key (Edge a b v) (Edge x y w) = refl
settled_key _ _ = refl

-- a row that comes to its own spot, where there are no more rows then, takes the place of one with its key
own_keys : (kind : Kind) → is_known_kind kind ≡ true → (rows : List Item) (new : Item) → length (placed kind rows new) ≡ length rows → map key_of (placed kind rows new) ≡ map key_of rows
own_keys kind known [] new many = absurd (omega arith)
own_keys kind known (row ∷ rows) new many = ap (map key_of) (placed_by_key kind known row rows new) ∙ by (is_keyed (shape_of_kind kind) && same (key_of new) (key_of row)) refl (is_sorted (shape_of_kind kind) && before (order_of_kind kind) (key_of new) (key_of row)) (ap length (sym (placed_by_key kind known row rows new)) ∙ many) (own_keys kind known rows new)
  where
    rest : List Item
    rest = placed kind rows new

    by : (replaced : Bool) → (is_keyed (shape_of_kind kind) && same (key_of new) (key_of row)) ≡ replaced → (first : Bool) → length (cond replaced (settled new row ∷ rows) (cond first (new ∷ row ∷ rows) (row ∷ rest))) ≡ length (row ∷ rows)
        → (length rest ≡ length rows → map key_of rest ≡ map key_of rows) → map key_of (cond replaced (settled new row ∷ rows) (cond first (new ∷ row ∷ rows) (row ∷ rest))) ≡ map key_of (row ∷ rows)
    by true e first h below =
        let key : key_of new ≡ key_of row = (same-Decides (key_of new) (key_of row)).0 (both_true (is_keyed (shape_of_kind kind)) (same (key_of new) (key_of row)) e).1 in
        ap (λ (k : Elem). k ∷ map key_of rows) (settled_key new row ∙ key)
    by false e true h below = absurd (omega arith)
    by false e false h below = ap (λ (ks : List Elem). key_of row ∷ ks) (below (omega arith))

one_comes : (rows : List Item) (i : ℕ) (new : Item) → length (insert rows i new) ≡ length rows + 1
one_comes [] zero new = refl
one_comes [] (suc i) new = refl
one_comes (row ∷ rows) zero new = let e : suc (suc (length rows)) ≡ suc (length rows) + 1 = omega arith in e
one_comes (row ∷ rows) (suc i) new = let e : suc (length (insert rows i new)) ≡ suc (length rows) + 1 = omega (arith, one_comes rows i new) in e

-- no fewer rows, and but for a bimap the same keys where there are no more
record Comes (kind : Kind) (rows after : List Item) : Type 0 where
  low : length rows ≤ length after
  keys : is_bimap (shape_of_kind kind) ≡ false → is_keyed (shape_of_kind kind) ≡ true → length after ≡ length rows → map key_of after ≡ map key_of rows

comes : (kind : Kind) (rows : List Item) (new : Coming) → is_known_kind kind ≡ true → IsSpotFor kind new → Comes kind rows (with_coming kind rows new)
comes kind rows (Own, new) known fits = record { low = (placed_count kind rows new).low; keys = λ other keyed many. own_keys kind known rows new many }
comes kind rows (Before i, new) known fits = record { low = omega (arith, one_comes rows i new); keys = λ other keyed many. absurd (omega (arith, one_comes rows i new)) }
comes kind rows (Instead i, new) known fits = record { low = omega (arith, length-set rows i new); keys = λ other keyed many. (let e : true ≡ false = sym keyed ∙ fits in absurd (cc)) }
comes kind rows (Swapped, new) known fits = record {
  low = omega (arith, (placed_count kind (map swapped rows) (swapped new)).low, length-map rows swapped, length-map (placed kind (map swapped rows) (swapped new)) swapped);
  keys = λ other keyed many. (let e : true ≡ false = sym fits ∙ other in absurd (cc));
}
comes kind rows (InKey i, new) known fits = absurd fits

all_come : (kind : Kind) (rows : List Item) (added : List Coming) → is_known_kind kind ≡ true → AllByRecursion (IsSpotFor kind) added → Comes kind rows (placed_all kind rows added)
all_come kind rows [] known fits = record { low = omega arith; keys = λ other keyed many. refl }
all_come kind rows (new ∷ added) known fits =
    let first : Comes kind rows (with_coming kind rows new) = comes kind rows new known fits.0 in
    let rest : Comes kind (with_coming kind rows new) (placed_all kind (with_coming kind rows new) added) = all_come kind (with_coming kind rows new) added known fits.1 in
    record {
      low = omega (arith, first.low, rest.low);
      keys = λ other keyed many. rest.keys other keyed (omega (arith, first.low, rest.low)) ∙ first.keys other keyed (omega (arith, first.low, rest.low));
    }

-- ---- rows that are the same

keys_alike : (xs ys : List Item) → pointwise same_item xs ys ≡ true → map key_of xs ≡ map key_of ys
keys_alike [] [] h = refl
keys_alike [] (y ∷ ys) h = absurd (cc)
keys_alike (x ∷ xs) [] h = absurd (cc)
keys_alike (x ∷ xs) (y ∷ ys) h =
    let parts = both_true (same_item x y) (pointwise same_item xs ys) h in
    λ i. (same-Decides (key_of x) (key_of y)).0 (same_keyed x y parts.0) i ∷ keys_alike xs ys parts.1 i

kept_true : (b : Bool) → not b ≡ false → b ≡ true
kept_true true e = refl
kept_true false e = sym e

-- ---- the edit

not_more : (m n : ℕ) → nat_lt m n ≡ false → n ≤ m
not_more m n h = grind (arith, nat_tests)

structural_or : (b : Bool) (n : ℕ) → n + cond b 1 0 ≡ n → b ≡ false
structural_or true n e = absurd (omega arith)
structural_or false n e = refl

kept_change : (b : Bool) (n : ℕ) → n ≤ n + cond b 1 0
kept_change true n = omega arith
kept_change false n = omega arith

-- in a bimap no row is another then
keys_kept : (kind : Kind) (left after : List Item) → is_keyed (shape_of_kind kind) ≡ true → length after ≡ length left → Comes kind left after → (b : Bool) → is_bimap (shape_of_kind kind) ≡ b → (b && not (pointwise same_item left after)) ≡ false → map key_of after ≡ map key_of left
keys_kept kind left after keyed no_more rows true e calm = sym (keys_alike left after (kept_true (pointwise same_item left after) calm))
keys_kept kind left after keyed no_more rows false e calm = rows.keys e keyed no_more

pub edit_leaves : EditLeaves
edit_leaves it edit known fits = (
  record {
    kind = refl;
    change = kept_change (is_change it edit) it.change;
    still = λ same.
        let left : List Item = without_rows edit.gone 0 it.rows in
        let after : List Item = placed_all it.kind left edit.added in
        let bimap : Bool = is_bimap (shape_of_kind it.kind) in
        let calm = neither_true (nat_lt (length left) (length it.rows) || nat_lt (length left) (length after)) (bimap && not (pointwise same_item left after)) (structural_or (is_change it edit) it.change same) in
        let quiet = neither_true (nat_lt (length left) (length it.rows)) (nat_lt (length left) (length after)) calm.0 in
        let rows : Comes it.kind left after = all_come it.kind left edit.added known fits in
        let as_many : length left ≡ length it.rows = omega (arith, without_few edit.gone 0 it.rows, not_more (length left) (length it.rows) quiet.0) in
        let no_more : length after ≡ length left = omega (arith, rows.low, not_more (length left) (length after) quiet.1) in
        record {
          many = no_more ∙ as_many;
          keys = λ keyed. keys_kept it.kind left after keyed no_more rows bimap refl calm.1 ∙ ap (map key_of) (all_stay edit.gone 0 it.rows as_many);
        };
  },
  refl,
)
