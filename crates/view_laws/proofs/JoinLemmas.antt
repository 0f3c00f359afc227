-- The places of two views together: the leaf tells of which view a place is.
use Rattle.std.proofs.Common.{◌≡◌, ℕ, zero, suc, ◌+◌, ◌-◌, ◌<◌, ◌≤◌, Bool, true, false, cond, List, [], ◌∷◌, map, ap, ◌∙◌, arith}
use Rattle.std.specs.Prelude.{filter, nat_lt, Option}
use Rattle.std.specs.List.{AllByRecursion}
use Rattle.std.proofs.lemmas.Bool.Decides.{nat_tests}
use Rattle.elem.specs.declared.elements.Elem.{Elem}
use Rattle.vocabulary.specs.declared.items.Side.{Side}
use Rattle.vocabulary.specs.declared.items.Side.TheVariants.{First}
use Rattle.vocabulary.specs.declared.step_table.Family.{Family}
use Rattle.vocabulary.specs.declared.step_table.Family.TheVariants.{Same, Changed, Turned, Keyed, Hidden, Cut, Grouped, Run, Pieces}
use Rattle.vocabulary.specs.declared.step_table.JoinFamily.{JoinFamily}
use Rattle.vocabulary.specs.declared.step_table.JoinFamily.TheVariants as join
use Rattle.vocabulary.specs.declared.steps.JoinStep.{JoinStep}
use Rattle.vocabulary.specs.declared.steps.Step.{Step}
use Rattle.vocabulary.specs.Joins.{has_second, join_family}
use Rattle.vocabulary.specs.Steps.{family_of, passes, run_in, side_of}
use Rattle.machine.specs.Bases.{World}
use Rattle.machine.specs.Candidates.{Candidate, keys_in}
use Rattle.machine.specs.Joins.{size_of}
use Rattle.machine.specs.KeyOrders.{AsTheyCome, ByFirst, Kept, KeyOrder, Sorted}
use Rattle.machine.specs.Views.{View, base, both, over, candidates, order_over, weight}
use Rattle.view_laws.specs.declared.places.Found.{Found}
use Rattle.view_laws.specs.declared.places.Place.{Place}
use Rattle.view_laws.specs.declared.places.RowSpot.{RowSpot}
use Rattle.view_laws.specs.JoinPlaces.{first_size, occurrences, occurrences_of, places_both, split}
use Rattle.view_laws.specs.Places.{first_only, has_part_at, heads, is_seen_at, keys_at, passes_at, places_by_key, places_of_pieces, places_over, shifted, unshifted}
use Rattle.view_laws.specs.Spots.{Spots}
use Rattle.view_laws.specs.ViewPlaces.{place_of, places, show, StandsFor}
use Rattle.view_laws.proofs.ListLemmas.{all-append, all-as, all-at, all-drop, all-filter, all-flat_map, all-map, all-reverse, all-take}

-- each place's leaf is below n
abbrev pub AllUnder : ℕ → List Place → Type 0
AllUnder n ps = AllByRecursion (λ (p : Place). p.leaf < n) ps

under-more : (n m : ℕ) (ps : List Place) → n ≤ m → AllUnder n ps → AllUnder m ps
under-more n m ps le g = all-as _ _ (λ p h. omega (arith, h, le)) ps g

under-shifted : (n m : ℕ) (qs : List Place) → AllUnder m qs → AllUnder (n + m) (map (shifted n) qs)
under-shifted n m qs g = all-map _ _ (shifted n) (λ q h. omega (arith, h)) qs g

under-first : (n : ℕ) (ps : List Place) → AllUnder n ps → AllUnder n (first_only ps)
under-first n [] g = tt
under-first n (p ∷ ps) g = (g.0, tt)

under-pieces : (n i m : ℕ) → 0 < n → AllUnder n (places_of_pieces i m)
under-pieces n i zero some = tt
under-pieces n i (suc m) some = (some, under-pieces n (i + 1) m some)

under-by-key : (n : ℕ) (order : KeyOrder) (at : Place → Option Found) (ps : List Place) → AllUnder n ps → AllUnder n (places_by_key order at ps)
under-by-key n AsTheyCome at ps g = g
under-by-key n ByFirst at ps g = all-flat_map _ _ (keys_at First ByFirst at ps) (λ k. all-filter _ (has_part_at First at k) ps g)
under-by-key n (Kept ks) at ps g = all-flat_map _ _ (keys_at First (Kept ks) at ps) (λ k. all-filter _ (has_part_at First at k) ps g)
under-by-key n (Sorted order) at ps g = all-flat_map _ _ (keys_at First (Sorted order) at ps) (λ k. all-filter _ (has_part_at First at k) ps g)

under-heads : (n : ℕ) (side : Side) (order : KeyOrder) (at : Place → Option Found) (ps : List Place) → AllUnder n ps → AllUnder n (heads side order at ps)
under-heads n side order at ps g = all-flat_map _ _ (keys_at side order at ps) (λ k. under-first n (filter (has_part_at side at k) ps) (all-filter _ (has_part_at side at k) ps g))

under-over : (n : ℕ) (family : Family) (step : Step) (order : KeyOrder) (at : Place → Option Found) (ps : List Place) → 0 < n → AllUnder n ps → AllUnder n (places_over family step order at ps)
under-over n Same step order at ps some g = g
under-over n Changed step order at ps some g = g
under-over n Turned step order at ps some g = all-reverse _ ps g
under-over n Keyed step order at ps some g = under-by-key n order at ps g
under-over n Hidden step order at ps some g = g
under-over n Cut step order at ps some g = all-filter _ (λ p. passes_at (passes step) (at p)) ps g
under-over n Grouped step order at ps some g = under-heads n (side_of step) order at ps g
under-over n Run step order at ps some g = all-take _ (run_in step).len _ (all-drop _ (run_in step).start _ (all-filter _ (λ p. is_seen_at (at p)) ps g))
under-over n Pieces step order at ps some g = under-pieces n 0 _ some

under-occurrences : (leaf n : ℕ) (x : Elem) (j m : ℕ) → leaf < n → AllUnder n (occurrences leaf x j m)
under-occurrences leaf n x j zero lt = tt
under-occurrences leaf n x j (suc m) lt = (lt, under-occurrences leaf n x (j + 1) m lt)

pub under-elements : (leaf n : ℕ) (size : Elem → ℕ) (xs : List Elem) → leaf < n → AllUnder n (occurrences_of leaf size xs)
under-elements leaf n size xs lt = all-flat_map _ _ xs (λ x. under-occurrences leaf n x 0 (size x) lt)

under-both : (family : JoinFamily) (word : JoinStep) (n m : ℕ) (cs ds : List Candidate) (ps qs : List Place) → 0 < n → 0 < m → AllUnder n ps → AllUnder m qs → AllUnder (n + m) (places_both family word n cs ds ps qs)
under-both join.Hidden word n m cs ds ps qs a b g h = under-more n (n + m) ps (omega arith) g
under-both join.Joined word n m cs ds ps qs a b g h = all-append _ ps (map (shifted n) qs) (under-more n (n + m) ps (omega arith) g) (under-shifted n m qs h)
under-both join.Counted word n m cs ds ps qs a b g h =
    all-append _ (occurrences_of 0 (first_size word cs ds) (keys_in First ByFirst cs)) (cond (has_second word) (map (shifted n) (occurrences_of 0 (λ x. size_of x ds) (keys_in First ByFirst ds))) [])
    (under-elements 0 (n + m) (first_size word cs ds) (keys_in First ByFirst cs) (omega arith)) (by (has_second word))
  where
    by : (t : Bool) → AllUnder (n + m) (cond t (map (shifted n) (occurrences_of 0 (λ x. size_of x ds) (keys_in First ByFirst ds))) [])
    by true = under-shifted n m _ (under-elements 0 m (λ x. size_of x ds) (keys_in First ByFirst ds) b)
    by false = tt

pub some_base : (v : View) → 0 < weight v
some_base (base l) = omega arith
some_base (over step v) = some_base v
some_base (both word v u) = omega (arith, some_base v)

under-base : (spots : List RowSpot) → AllUnder 1 (map place_of spots)
under-base [] = tt
under-base (s ∷ spots) = (omega arith, under-base spots)

-- the leaf of each place of a view is below the view's weight
pub leaves : (world : World) (spots : Spots) (v : View) → AllUnder (weight v) (places world spots v)
leaves world spots (base l) = under-base (spots l)
leaves world spots (over step v) = under-over (weight v) (family_of step) step (order_over world v step) (show world spots v) (places world spots v) (some_base v) (leaves world spots v)
leaves world spots (both word v u) =
    under-both (join_family word) word (weight v) (weight u) (candidates world v) (candidates world u) (places world spots v) (places world spots u) (some_base v) (some_base u) (leaves world spots v) (leaves world spots u)

pub leaf_in_view : (world : World) (spots : Spots) (v : View) (p : Place) (i : ℕ) → StandsFor world spots v p i → p.leaf < weight v
leaf_in_view world spots v p i at = all-at (λ (q : Place). q.leaf < weight v) (places world spots v) i p (leaves world spots v) at

-- ---- which view a place is of

low : (n m : ℕ) → m < n → nat_lt m n ≡ true
low n m lt = grind (arith, nat_tests)

high : (n m : ℕ) → nat_lt (m + n) n ≡ false
high n m = grind (arith, nat_tests)

back_again : (n : ℕ) (q : Place) → unshifted n (shifted n q) ≡ q
back_again n q = ap (λ m. record { leaf = m; spot = q.spot }) (let e : q.leaf + n - n ≡ q.leaf = omega arith in e)

pub in_first : (n : ℕ) (at bt : Place → Option Found) (p : Place) → p.leaf < n → split n at bt p ≡ at p
in_first n at bt p lt = ap (λ b. cond b (at p) (bt (unshifted n p))) (low n p.leaf lt)

pub in_second : (n : ℕ) (at bt : Place → Option Found) (q : Place) → split n at bt (shifted n q) ≡ bt q
in_second n at bt q = ap (λ b. cond b (at (shifted n q)) (bt (unshifted n (shifted n q)))) (high n q.leaf) ∙ ap bt (back_again n q)
