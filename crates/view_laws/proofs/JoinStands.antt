-- What a step over two views makes of candidates that stand in places stands in the places of the step.
use Rattle.std.proofs.Common.{◌≡◌, ℕ, zero, suc, ◌+◌, ◌-◌, ◌<◌, ◌≤◌, Bool, true, false, cond, not, nat_eq, List, [], ◌∷◌, ◌++◌, length, map, ap, ◌∙◌, subst, arith}
use Rattle.std.specs.Prelude.{filter, flat_map, nat_lt, replicate, Option, Some, None, option_map}
use Rattle.std.proofs.lemmas.Bool.Decides.{nat_tests}
use Rattle.elem.specs.declared.elements.Elem.{Elem}
use Rattle.vocabulary.specs.declared.items.Item.TheVariants.{One}
use Rattle.vocabulary.specs.declared.items.Side.TheVariants.{First}
use Rattle.vocabulary.specs.declared.step_table.JoinFamily.{JoinFamily}
use Rattle.vocabulary.specs.declared.step_table.JoinFamily.TheVariants.{Hidden, Joined, Counted}
use Rattle.vocabulary.specs.declared.steps.JoinStep.{JoinStep}
use Rattle.vocabulary.specs.declared.steps.JoinStep.TheVariants.{Union, Intersection, Difference, SymmetricDifference, BagUnion, BagSum, BagIntersection, BagDifference}
use Rattle.vocabulary.specs.Joins.{count_in, has_second, size_in, stays}
use Rattle.machine.specs.Candidates.{Candidate, hidden, is_seen, keys_in, of_key}
use Rattle.machine.specs.Joins.{block, count_of, first_block, in_join_family, kept_of_first, second_block, shows, size_of, without_rows_of}
use Rattle.machine.specs.KeyOrders.{ByFirst}
use Rattle.view_laws.specs.declared.places.Found.{Found}
use Rattle.view_laws.specs.declared.places.Place.{Place}
use Rattle.view_laws.specs.JoinPlaces.{first_seen, first_size, occurrence_at, occurrences, occurrences_of, places_both, second_seen, shown_both, split}
use Rattle.view_laws.specs.Places.{found_if, shifted}
use Rattle.view_laws.proofs.JoinLemmas.{AllUnder, in_first, in_second, under-elements}
use Rattle.view_laws.proofs.SpotLemmas.{Stands}
use Rattle.view_laws.proofs.StandLemmas.{hidden_stand}
use Rattle.view_laws.proofs.ZipLemmas.{Zipped, zipped-append, zipped-flat_map, zipped-map}

-- ---- of the first view, and of the second

first_stands : (n : ℕ) (at bt : Place → Option Found) (ps : List Place) (cs : List Candidate) → AllUnder n ps → Zipped (Stands at) ps cs → Zipped (Stands (split n at bt)) ps cs
first_stands n at bt [] [] g z = tt
first_stands n at bt [] (c ∷ cs) g z = absurd z
first_stands n at bt (p ∷ ps) [] g z = absurd z
first_stands n at bt (p ∷ ps) (c ∷ cs) g z = (in_first n at bt p g.0 ∙ z.0, first_stands n at bt ps cs g.1 z.1)

second_stands : (n : ℕ) (at bt : Place → Option Found) (qs : List Place) (ds : List Candidate) → Zipped (Stands bt) qs ds → Zipped (Stands (split n at bt)) (map (shifted n) qs) ds
second_stands n at bt [] [] z = tt
second_stands n at bt [] (d ∷ ds) z = absurd z
second_stands n at bt (q ∷ qs) [] z = absurd z
second_stands n at bt (q ∷ qs) (d ∷ ds) z = (in_second n at bt q ∙ z.0, second_stands n at bt qs ds z.1)

-- ---- elements of bags

below : (j m size : ℕ) → j + suc m ≡ size → nat_lt j size ≡ true
below j m size e = grind (arith, nat_tests)

is_low : (j seen more : ℕ) → j + suc more ≡ seen → nat_lt j seen ≡ true
is_low j seen more e = grind (arith, nat_tests)

is_high : (j seen : ℕ) → seen ≤ j → nat_lt j seen ≡ false
is_high j seen le = grind (arith, nat_tests)

abbrev found_one : Elem → Bool → Found
found_one x b = record { item = One x; seen = b }

at_number : (size seen : Elem → ℕ) (x : Elem) (j : ℕ) (b : Bool) → nat_lt j (size x) ≡ true → nat_lt j (seen x) ≡ b → cond (nat_lt j (size x)) (Some (found_one x (nat_lt j (seen x)))) None ≡ Some (found_one x b)
at_number size seen x j b within is = ap (λ t. cond t (Some (found_one x (nat_lt j (seen x)))) None) within ∙ ap (λ t. Some (found_one x t)) is

unseen_stand : (size seen : Elem → ℕ) (x : Elem) (j m : ℕ) → seen x ≤ j → j + m ≡ size x
    → Zipped (Stands (λ p. occurrence_at size seen p.spot)) (occurrences 0 x j m) (replicate m (record { rows = []; item = One x; seen = false }))
unseen_stand size seen x j zero le e = tt
unseen_stand size seen x j (suc m) le e = (at_number size seen x j false (below j m (size x) e) (is_high j (seen x) le), unseen_stand size seen x (j + 1) m (omega (arith, le)) (omega (arith, e)))

block_stands : (size seen : Elem → ℕ) (x : Elem) (j more total : ℕ) → j + more ≡ seen x → j + total ≡ size x → seen x ≤ size x
    → Zipped (Stands (λ p. occurrence_at size seen p.spot)) (occurrences 0 x j total) (replicate more (record { rows = []; item = One x; seen = true }) ++ replicate (size x - seen x) (record { rows = []; item = One x; seen = false }))
block_stands size seen x j zero total e f le =
    subst (λ n. Zipped (Stands (λ p. occurrence_at size seen p.spot)) (occurrences 0 x j total) (replicate n (record { rows = []; item = One x; seen = false }))) (let g : total ≡ size x - seen x = omega (arith, e, f) in g)
    (unseen_stand size seen x j total (omega (arith, e)) f)
block_stands size seen x j (suc more) zero e f le = absurd (omega (arith, e, f, le))
block_stands size seen x j (suc more) (suc total) e f le =
    (at_number size seen x j true (below j total (size x) f) (is_low j (seen x) more e), block_stands size seen x (j + 1) more total (omega (arith, e)) (omega (arith, f)) le)

element_stands : (size seen : Elem → ℕ) (x : Elem) → seen x ≤ size x → Zipped (Stands (λ p. occurrence_at size seen p.spot)) (occurrences 0 x 0 (size x)) (block x (size x) (seen x))
element_stands size seen x le = block_stands size seen x 0 (seen x) (size x) (omega arith) (omega arith) le

fewer : {X : Type 0} (p : X → Bool) (xs : List X) → length (filter p xs) ≤ length xs
fewer p [] = omega arith
fewer p (x ∷ xs) = by (p x) (fewer p xs)
  where
    by : (t : Bool) → length (filter p xs) ≤ length xs → length (cond t (x ∷ filter p xs) (filter p xs)) ≤ suc (length xs)
    by true h = omega (arith, h)
    by false h = omega (arith, h)

-- no step shows more of an element than it has
count-within : (word : JoinStep) (k l c d : ℕ) → c ≤ k → d ≤ l → count_in word c d ≤ size_in word k l
count-within Union k l c d h g = h
count-within Intersection k l c d h g = h
count-within Difference k l c d h g = h
count-within SymmetricDifference k l c d h g = h
count-within BagUnion k l c d h g = omega (arith, h, g)
count-within BagSum k l c d h g = omega (arith, h, g)
count-within BagIntersection k l c d h g = omega (arith, h, g)
count-within BagDifference k l c d h g = omega (arith, h, g)

none_or : (t : Bool) (n m : ℕ) → n ≤ m → cond t 0 n ≤ m
none_or true n m le = omega arith
none_or false n m le = le

or_none : (t : Bool) (n m : ℕ) → n ≤ m → cond t n 0 ≤ m
or_none true n m le = le
or_none false n m le = omega arith

first_within : (word : JoinStep) (cs ds : List Candidate) (x : Elem) → first_seen word cs ds x ≤ first_size word cs ds x
first_within word cs ds x =
    none_or (nat_eq (count_of x cs) 0) (count_in word (count_of x cs) (count_of x ds)) (first_size word cs ds x)
    (count-within word (size_of x cs) (size_of x ds) (count_of x cs) (count_of x ds) (fewer is_seen (of_key First x cs)) (fewer is_seen (of_key First x ds)))

second_within : (cs ds : List Candidate) (x : Elem) → second_seen cs ds x ≤ size_of x ds
second_within cs ds x = or_none (nat_eq (count_of x cs) 0) (count_of x ds) (size_of x ds) (fewer is_seen (of_key First x ds))

elements_stand : (size seen : Elem → ℕ) → ((x : Elem) → seen x ≤ size x) → (xs : List Elem) → Zipped (Stands (λ p. occurrence_at size seen p.spot)) (occurrences_of 0 size xs) (flat_map (λ x. block x (size x) (seen x)) xs)
elements_stand size seen le xs = zipped-flat_map _ _ _ (λ x. element_stands size seen x (le x)) xs

-- ---- each family

abbrev pub first_at : JoinStep → List Candidate → (Place → Option Found) → Place → Option Found
first_at word ds at q = option_map (found_if (λ item. stays word (shows ds item))) (at q)

abbrev pub second_at : List Candidate → (Place → Option Found) → Place → Option Found
second_at cs bt q = option_map (found_if (λ item. not (shows cs item))) (bt q)

abbrev one_at : JoinStep → List Candidate → List Candidate → Place → Option Found
one_at word cs ds q = occurrence_at (first_size word cs ds) (first_seen word cs ds) q.spot

abbrev two_at : List Candidate → List Candidate → Place → Option Found
two_at cs ds q = occurrence_at (λ x. size_of x ds) (second_seen cs ds) q.spot

pub both_stand : (family : JoinFamily) (word : JoinStep) (n : ℕ) (at bt : Place → Option Found) (ps qs : List Place) (cs ds : List Candidate) → 0 < n → AllUnder n ps → Zipped (Stands at) ps cs → Zipped (Stands bt) qs ds
    → Zipped (Stands (shown_both family word n cs ds at bt)) (places_both family word n cs ds ps qs) (in_join_family family word cs ds)
both_stand Hidden word n at bt ps qs cs ds some g z w = hidden_stand (λ item. stays word (shows ds item)) at ps cs z
both_stand Joined word n at bt ps qs cs ds some g z w =
    zipped-map _ _ without_rows_of (λ p c s. s) (ps ++ map (shifted n) qs) (kept_of_first word cs ds ++ hidden (λ item. not (shows cs item)) ds)
    (zipped-append (Stands (split n (first_at word ds at) (second_at cs bt))) ps (map (shifted n) qs) (kept_of_first word cs ds) (hidden (λ item. not (shows cs item)) ds)
    (first_stands n (first_at word ds at) (second_at cs bt) ps (kept_of_first word cs ds) g (hidden_stand (λ item. stays word (shows ds item)) at ps cs z))
    (second_stands n (first_at word ds at) (second_at cs bt) qs (hidden (λ item. not (shows cs item)) ds) (hidden_stand (λ item. not (shows cs item)) bt qs ds w)))
both_stand Counted word n at bt ps qs cs ds some g z w =
    zipped-append (Stands (split n (one_at word cs ds) (two_at cs ds))) (occurrences_of 0 (first_size word cs ds) (keys_in First ByFirst cs)) (cond (has_second word) (map (shifted n) (occurrences_of 0 (λ x. size_of x ds) (keys_in First ByFirst ds))) [])
    (flat_map (first_block word cs ds) (keys_in First ByFirst cs)) (cond (has_second word) (flat_map (second_block cs ds) (keys_in First ByFirst ds)) [])
    (first_stands n (one_at word cs ds) (two_at cs ds) (occurrences_of 0 (first_size word cs ds) (keys_in First ByFirst cs)) (flat_map (first_block word cs ds) (keys_in First ByFirst cs))
    (under-elements 0 n (first_size word cs ds) (keys_in First ByFirst cs) some) (elements_stand (first_size word cs ds) (first_seen word cs ds) (first_within word cs ds) (keys_in First ByFirst cs)))
    (by (has_second word))
  where
    by : (t : Bool)
        → Zipped (Stands (split n (one_at word cs ds) (two_at cs ds))) (cond t (map (shifted n) (occurrences_of 0 (λ x. size_of x ds) (keys_in First ByFirst ds))) []) (cond t (flat_map (second_block cs ds) (keys_in First ByFirst ds)) [])
    by true =
        second_stands n (one_at word cs ds) (two_at cs ds) (occurrences_of 0 (λ x. size_of x ds) (keys_in First ByFirst ds)) (flat_map (second_block cs ds) (keys_in First ByFirst ds))
        (elements_stand (λ x. size_of x ds) (second_seen cs ds) (second_within cs ds) (keys_in First ByFirst ds))
    by false = tt
