-- A bag with an element so often that its rows cannot be listed: what is told of it, for each count n + 1, and so for
-- the greatest one.
use Rattle.std.specs.Prelude.{◌≡◌, ℕ, ◌+◌, min, zero, suc, false, nat_lt, List, [], ◌∷◌, ◌++◌, map, length, filter, replicate, codes}
use Rattle.std.proofs.Common.{refl, ap, ◌∙◌, arith}
use Rattle.std.proofs.lemmas.Bool.{lt-ltb}
use Rattle.elem.specs.declared.elements.Elem.{Elem}
use Rattle.elem.specs.declared.elements.Elem.TheVariants.{Text}
use Rattle.elem.specs.Elements.{same}
use Rattle.vocabulary.specs.declared.answers.Answer.TheVariants.{Number}
use Rattle.vocabulary.specs.declared.calls.Ask.TheVariants.{Size}
use Rattle.vocabulary.specs.declared.edits.Spot.TheVariants.{Own}
use Rattle.vocabulary.specs.declared.items.Item.{Item}
use Rattle.vocabulary.specs.declared.items.Item.TheVariants.{One, Counted}
use Rattle.vocabulary.specs.declared.items.Side.TheVariants.{First}
use Rattle.vocabulary.specs.declared.kinds.Kind.TheVariants.{LinkedHashMultiset}
use Rattle.vocabulary.specs.declared.shapes.RowSort.TheVariants as RowSort
use Rattle.vocabulary.specs.declared.shapes.Shape.TheVariants.{Bag, Rows}
use Rattle.vocabulary.specs.declared.steps.GroupForm.TheVariants.{Counts}
use Rattle.vocabulary.specs.declared.steps.JoinStep.TheVariants.{BagSum}
use Rattle.vocabulary.specs.Joins.{count_in}
use Rattle.vocabulary.specs.declared.steps.Step.TheVariants.{Group}
use Rattle.machine.specs.Answers.{ask_answer}
use Rattle.machine.specs.Candidates.{Candidate, of_rows, members, group, item_in, is_seen}
use Rattle.vocabulary.specs.Items.{key_of, part_of, same_item}
use Rattle.machine.specs.KeyOrders.{each_once, without_key}
use Rattle.vocabulary.specs.Limits.{most_count}
use Rattle.machine.specs.Placing.{takes_row}
use Rattle.machine.specs.Texts.{within_brackets, item_text, text_in}
use Rattle.machine.specs.Bases.{World}
use Rattle.machine.specs.Leaves.{stored}
use Rattle.machine.specs.Views.{base, over, shown}
use Rattle.machine.specs.ViewTexts.{text_of}

abbrev x : Elem
x = Text (codes "x")

abbrev y : Elem
y = Text (codes "y")

-- the rows of a bag with n times x and then y
abbrev rows : ℕ → List Item
rows n = replicate n (One x) ++ One y ∷ []

abbrev bag : ℕ → World
bag n = record { kind = LinkedHashMultiset; rows = rows n; keys = []; change = 0; frozen = false } ∷ []

-- ---- counting

count_x : (n : ℕ) (others : List Item) → length (filter (same_item (One x)) (replicate n (One x) ++ others)) ≡ n + length (filter (same_item (One x)) others)
unfolding same
count_x zero others = omega arith
count_x (suc n) others = ap suc (count_x n others) ∙ (omega arith)

-- an element comes where it stands there less often than the greatest count
full : (n : ℕ) → takes_row LinkedHashMultiset Own (replicate n (One x) ++ []) (One x) ≡ nat_lt n most_count
unfolding same
full n = rw (count_x n []) (ap (λ m. nat_lt m most_count) (omega arith))

length_rows : (n : ℕ) → length (rows n) ≡ n + 1
length_rows zero = refl
length_rows (suc n) = ap suc (length_rows n) ∙ (omega arith)

-- the size stops at the greatest count
size : (n : ℕ) → ask_answer (Bag false) Size (rows n) ≡ Number (min (n + 1) most_count)
size n = ap (λ m. Number (min m most_count)) (length_rows n)

-- ---- the text

-- the keys of the candidates are those of the rows
keys_of_rows : (k : ℕ) (items : List Item) → map (λ (c : Candidate). part_of First c.item) (of_rows k items) ≡ map key_of items
keys_of_rows k [] = refl
keys_of_rows k (row ∷ items) = ap (λ ks. key_of row ∷ ks) (keys_of_rows (k + 1) items)

keys_once : (n : ℕ) → each_once (map key_of (rows (suc n))) ≡ x ∷ y ∷ []
unfolding same
keys_once zero = refl
keys_once (suc n) = ap (λ ks. x ∷ without_key x ks) (keys_once n)

-- how many members the groups of both have
members_x : (n k : ℕ) → length (members First x (of_rows k (rows n))) ≡ n
unfolding same
members_x zero k = refl
members_x (suc n) k = ap suc (members_x n (k + 1))

members_y : (n k : ℕ) → length (members First y (of_rows k (rows n))) ≡ 1
unfolding same
members_y zero k = refl
members_y (suc n) k = members_y n (k + 1)

-- what is shown of two groups with so many members
two_shown : (n a b : ℕ) (p q : List ℕ) → a ≡ suc n → b ≡ 1
    → map item_in (filter is_seen (record { rows = p; item = Counted x a; seen = nat_lt 0 a } ∷ record { rows = q; item = Counted y b; seen = nat_lt 0 b } ∷ [])) ≡ Counted x (suc n) ∷ Counted y 1 ∷ []
two_shown n a b p q e f = rw (e, f, lt-ltb 0 (suc n) (omega arith)) refl

abbrev those : ℕ → List Candidate
those n = of_rows 0 (rows n)

counted : (n : ℕ) → shown (bag (suc n)) (over (Group First Counts) (base (stored 0))) ≡ Counted x (suc n) ∷ Counted y 1 ∷ []
counted n =
    ap (λ ks. map item_in (filter is_seen (map (group First (λ k m. Counted k m) (those (suc n))) ks))) (ap each_once (keys_of_rows 0 (rows (suc n))) ∙ keys_once n)
    ∙ two_shown n (length (members First x (those (suc n)))) (length (members First y (those (suc n)))) _ _ (members_x (suc n) 0) (members_y (suc n) 0)

-- the bag is printed as its counted elements
text : (n : ℕ) → text_of (bag (suc n)) (base (stored 0)) ≡ within_brackets (Rows RowSort.Counted) (item_text (Counted x (suc n)) ∷ item_text (Counted y 1) ∷ [])
text n = ap (λ items. within_brackets (Rows RowSort.Counted) (map (text_in (Rows RowSort.Counted)) items)) (counted n)

-- a sum stops at the greatest count
saturated : count_in BagSum most_count 5 ≡ most_count
saturated = refl
