-- Whether a view that hides shows what is asked for: where what is asked for decides the test.
use Rattle.std.proofs.Common.{◌≡◌, ℕ, ◌+◌, Bool, true, false, not, ◌&&◌, ◌||◌, List, [], ◌∷◌, ◌++◌, refl, ap, sym, ◌∙◌, subst}
use Rattle.std.specs.Prelude.{Some}
use Rattle.std.specs.List.{list_any, AllByRecursion}
use Rattle.elem.specs.declared.elements.Elem.{Elem}
use Rattle.elem.specs.Elements.{same}
use Rattle.elem.specs.ElementLaws.{same-Decides}
use Rattle.vocabulary.specs.declared.items.Item.{Item}
use Rattle.vocabulary.specs.declared.items.Item.TheVariants.{One, Entry, Counted, Cell, Group, Piece, Range, RangeEntry, Pair, Edge}
use Rattle.vocabulary.specs.declared.step_table.Family.TheVariants as family
use Rattle.vocabulary.specs.declared.step_table.JoinFamily.TheVariants as join
use Rattle.vocabulary.specs.declared.steps.JoinStep.{JoinStep}
use Rattle.vocabulary.specs.declared.steps.Step.{Step}
use Rattle.vocabulary.specs.Items.{same_item}
use Rattle.vocabulary.specs.Joins.{join_family, stays}
use Rattle.vocabulary.specs.Steps.{family_of, passes}
use Rattle.machine.specs.Bases.{World}
use Rattle.machine.specs.Candidates.{Candidate, hidden, in_family, of_rows, seen_if}
use Rattle.machine.specs.Joins.{in_join_family, joined, kept_of_first, shows, without_rows_of}
use Rattle.machine.specs.Leaves.{Leaf, leaf_at}
use Rattle.machine.specs.Views.{View, base, both, over, candidates, order_over}
use Rattle.view_laws.specs.declared.lanes.Lane.{Lane}
use Rattle.view_laws.specs.Lanes.{takes}
use Rattle.view_laws.specs.LookUps.{AreElements, decided, is_one, of_element, shows_in}
use Rattle.view_laws.specs.Narrowing.{is_cell}
use Rattle.view_laws.proofs.ListLemmas.{all-as, and-false, and-true, any-and, any-append, any-map}
use Rattle.view_laws.proofs.LookLemmas.{any-all}
use Rattle.view_laws.proofs.PartTable.{decided_passes}

-- ---- a test that tells the same of all that is taken

hidden_one : (s t m b : Bool) → (m ≡ true → t ≡ b) → ((s && t) && m) ≡ (b && (s && m))
hidden_one s t false b h = and-false (s && t) ∙ sym (ap (λ c. b && c) (and-false s) ∙ and-false b)
hidden_one s t true b h = ap (λ c. (s && c) && true) (h refl) ∙ by s b
  where
    by : (s b : Bool) → ((s && b) && true) ≡ (b && (s && true))
    by true true = refl
    by true false = refl
    by false true = refl
    by false false = refl

any-and-all : {X : Type 0} (b : Bool) (p q : X → Bool) (xs : List X) → AllByRecursion (λ x. q x ≡ (b && p x)) xs → list_any q xs ≡ (b && list_any p xs)
any-and-all b p q xs a = any-all q (λ x. b && p x) xs a ∙ any-and b p (λ x. b && p x) xs (λ x. refl)

-- what is hidden of what is taken passes or not as one
hidden_shows : (test : Item → Bool) (b : Bool) (lane : Lane) (cs : List Candidate) → AllByRecursion (λ (c : Candidate). takes lane c.item ≡ true → test c.item ≡ b) cs → shows_in lane (hidden test cs) ≡ (b && shows_in lane cs)
hidden_shows test b lane cs a =
    any-map (λ (c : Candidate). c.seen && takes lane c.item) (seen_if test) cs
    ∙ any-and-all b (λ (c : Candidate). c.seen && takes lane c.item) (λ (c : Candidate). (c.seen && test c.item) && takes lane c.item) cs
    (all-as _ _ (λ (c : Candidate) h. hidden_one c.seen (test c.item) (takes lane c.item) b h) cs a)

pub shows-hidden : (world : World) (it : Step) (v : View) (lane : Lane) (b : Bool) → family_of it ≡ family.Hidden → AllByRecursion (λ (c : Candidate). is_cell c.item ≡ false) (candidates world v) → decided it lane ≡ Some b
    → shows_in lane (candidates world (over it v)) ≡ (b && shows_in lane (candidates world v))
shows-hidden world it v lane b is plain tells =
    subst (λ of. shows_in lane (in_family of it (order_over world v it) (candidates world v)) ≡ (b && shows_in lane (candidates world v))) (sym is)
    (hidden_shows (passes it) b lane (candidates world v) (all-as _ _ (λ (c : Candidate) no. decided_passes it lane c.item b is no tells) (candidates world v) plain))

-- ---- sets together

element_taken : (x : Elem) (item : Item) → is_one item ≡ true → takes (of_element x) item ≡ same_item (One x) item
element_taken x (One y) h = and-true (same x y)
element_taken x (Entry k v) h = absurd (cc)
element_taken x (Counted y n) h = absurd (cc)
element_taken x (Cell r c v) h = absurd (cc)
element_taken x (Group k) h = absurd (cc)
element_taken x (Piece i) h = absurd (cc)
element_taken x (Range s) h = absurd (cc)
element_taken x (RangeEntry s v) h = absurd (cc)
element_taken x (Pair a b) h = absurd (cc)
element_taken x (Edge a b v) h = absurd (cc)

-- what is taken is the element
element_is : (x : Elem) (item : Item) → is_one item ≡ true → takes (of_element x) item ≡ true → item ≡ One x
element_is x (One y) h t = ap One (sym ((same-Decides x y).0 (sym (and-true (same x y)) ∙ t)))
element_is x (Entry k v) h t = absurd (cc)
element_is x (Counted y n) h t = absurd (cc)
element_is x (Cell r c v) h t = absurd (cc)
element_is x (Group k) h t = absurd (cc)
element_is x (Piece i) h t = absurd (cc)
element_is x (Range s) h t = absurd (cc)
element_is x (RangeEntry s v) h t = absurd (cc)
element_is x (Pair a b) h t = absurd (cc)
element_is x (Edge a b v) h t = absurd (cc)

pub element_shown : (x : Elem) (cs : List Candidate) → AreElements cs → shows cs (One x) ≡ shows_in (of_element x) cs
element_shown x cs elements =
    any-all (λ (c : Candidate). c.seen && same_item (One x) c.item) (λ (c : Candidate). c.seen && takes (of_element x) c.item) cs (all-as _ _ (λ (c : Candidate) h. ap (λ b. c.seen && b) (sym (element_taken x c.item h))) cs elements)

-- a test of whether others show an item, of an element
hidden_element : (test : Bool → Bool) (x : Elem) (cs ds : List Candidate) → AreElements cs → AreElements ds
    → shows_in (of_element x) (hidden (λ item. test (shows ds item)) cs) ≡ (test (shows_in (of_element x) ds) && shows_in (of_element x) cs)
hidden_element test x cs ds one two =
    hidden_shows (λ item. test (shows ds item)) (test (shows_in (of_element x) ds)) (of_element x) cs
    (all-as (λ (c : Candidate). is_one c.item ≡ true) (λ (c : Candidate). takes (of_element x) c.item ≡ true → test (shows ds c.item) ≡ test (shows_in (of_element x) ds))
    (λ (c : Candidate) h taken. ap (λ item. test (shows ds item)) (element_is x c.item h taken) ∙ ap test (element_shown x ds two)) cs one)

pub shows-first : (world : World) (word : JoinStep) (v u : View) (x : Elem) → join_family word ≡ join.Hidden → AreElements (candidates world v) → AreElements (candidates world u)
    → shows_in (of_element x) (candidates world (both word v u)) ≡ (stays word (shows_in (of_element x) (candidates world u)) && shows_in (of_element x) (candidates world v))
shows-first world word v u x is one two =
    subst (λ of. shows_in (of_element x) (in_join_family of word (candidates world v) (candidates world u)) ≡ (stays word (shows_in (of_element x) (candidates world u)) && shows_in (of_element x) (candidates world v))) (sym is)
    (hidden_element (stays word) x (candidates world v) (candidates world u) one two)

joined_shows : (word : JoinStep) (x : Elem) (cs ds : List Candidate) → AreElements cs → AreElements ds
    → shows_in (of_element x) (joined word cs ds) ≡ ((stays word (shows_in (of_element x) ds) && shows_in (of_element x) cs) || (not (shows_in (of_element x) cs) && shows_in (of_element x) ds))
joined_shows word x cs ds one two =
    any-map (λ (c : Candidate). c.seen && takes (of_element x) c.item) without_rows_of (kept_of_first word cs ds ++ hidden (λ item. not (shows cs item)) ds)
    ∙ any-append (λ (c : Candidate). c.seen && takes (of_element x) c.item) (kept_of_first word cs ds) (hidden (λ item. not (shows cs item)) ds)
    ∙ (λ i. hidden_element (stays word) x cs ds one two i || hidden_element not x ds cs two one i)

pub shows-both : (world : World) (word : JoinStep) (v u : View) (x : Elem) → join_family word ≡ join.Joined → AreElements (candidates world v) → AreElements (candidates world u)
    → shows_in (of_element x) (candidates world (both word v u))
    ≡ ((stays word (shows_in (of_element x) (candidates world u)) && shows_in (of_element x) (candidates world v)) || (not (shows_in (of_element x) (candidates world v)) && shows_in (of_element x) (candidates world u)))
shows-both world word v u x is one two =
    subst
    (λ of.
    shows_in (of_element x) (in_join_family of word (candidates world v) (candidates world u))
    ≡ ((stays word (shows_in (of_element x) (candidates world u)) && shows_in (of_element x) (candidates world v)) || (not (shows_in (of_element x) (candidates world v)) && shows_in (of_element x) (candidates world u))))
    (sym is) (joined_shows word x (candidates world v) (candidates world u) one two)

-- ---- a base

rows_shown : (lane : Lane) (n : ℕ) (rows : List Item) → shows_in lane (of_rows n rows) ≡ list_any (takes lane) rows
rows_shown lane n [] = refl
rows_shown lane n (row ∷ rows) = ap (λ b. takes lane row || b) (rows_shown lane (n + 1) rows)

pub shows-row : (world : World) (l : Leaf) (lane : Lane) → shows_in lane (candidates world (base l)) ≡ list_any (takes lane) (leaf_at world l).rows
shows-row world l lane = rows_shown lane 0 (leaf_at world l).rows
