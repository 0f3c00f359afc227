-- Whether a removal took rows: where the view showed an item that passes.
use Rattle.std.proofs.Common.{◌≡◌, ℕ, suc, ◌<◌, ◌≤◌, Bool, true, false, cond, ◌&&◌, ◌||◌, not, List, [], ◌∷◌, length, map, reverse, refl, sym, ap, ◌∙◌, arith, nat_lt}
use Rattle.std.specs.Prelude.{filter}
use Rattle.std.specs.List.{list_any}
use Rattle.std.proofs.lemmas.Bool.Decides.{nat_tests}
use Rattle.std.proofs.lemmas.List.Sorted.{list_any-IsPermutation, IsPermutation-reverse}
use Rattle.vocabulary.specs.declared.items.Item.{Item}
use Rattle.machine.specs.CallEdits.{all_hits}
use Rattle.machine.specs.Edits.{edited, removing, without_rows}
use Rattle.view_steps.specs.KnownViews.{edited_at, is_known_view, number_under}
use Rattle.view_laws.specs.Lanes.{turned_if}
use Rattle.view_laws.specs.RowForm.{RowForm, form_of, shows}
use Rattle.view_steps.specs.RowHits.{is_row_hit}
use Rattle.machine.specs.Bases.{Base, World, base_at}
use Rattle.machine.specs.Leaves.{leaf_at}
use Rattle.machine.specs.Views.{View, base_under, candidates, shown}
use Rattle.view_steps.proofs.ListLemmas.{fewer}
use Rattle.view_steps.proofs.KnownLemmas.{known_base}
use Rattle.view_steps.proofs.RowLemmas.{shown_law}
use Rattle.view_steps.proofs.RowHits.{without_hits}
use Rattle.view_steps.proofs.WorldLemmas.{written_at}

less_than_more : (a b : ℕ) → a ≤ b → nat_lt a (suc b) ≡ true
less_than_more a b le = let lt : a < suc b = omega arith in grind (arith, nat_tests)

less_both : (a b : ℕ) → nat_lt (suc a) (suc b) ≡ nat_lt a b
less_both a b = by (nat_lt a b) refl
  where
    by : (t : Bool) → nat_lt a b ≡ t → nat_lt (suc a) (suc b) ≡ t
    by true e =
        let lt : a < b = grind (arith, nat_tests) in
        let more : suc a < suc b = omega arith in
        grind (arith, nat_tests)
    by false e =
        let le : b ≤ a = grind (arith, nat_tests) in
        let more : suc b ≤ suc a = omega arith in
        grind (arith, nat_tests)

-- fewer are left where one passed
fewer_left : {X : Type 0} (p : X → Bool) (xs : List X) → nat_lt (length (filter (λ x. not (p x)) xs)) (length xs) ≡ list_any p xs
fewer_left p [] = refl
fewer_left p (x ∷ xs) = by (p x) (fewer_left p xs)
  where
    by : (b : Bool) → nat_lt (length (filter (λ y. not (p y)) xs)) (length xs) ≡ list_any p xs
        → nat_lt (length (cond (not b) (x ∷ filter (λ y. not (p y)) xs) (filter (λ y. not (p y)) xs))) (suc (length xs)) ≡ (b || list_any p xs)
    by true ih = less_than_more (length (filter (λ y. not (p y)) xs)) (length xs) (fewer (λ y. not (p y)) xs)
    by false ih = less_both (length (filter (λ y. not (p y)) xs)) (length xs) ∙ ih

any_turned : {X : Type 0} (p : X → Bool) (t : Bool) (xs : List X) → list_any p (turned_if t xs) ≡ list_any p xs
any_turned p true xs = sym (list_any-IsPermutation p xs (reverse xs) (IsPermutation-reverse xs))
any_turned p false xs = refl

any_of_rows : (p : Item → Bool) (f : RowForm) (rows : List Item) → list_any p (map f.item (filter (shows f) rows)) ≡ list_any (is_row_hit p f) rows
any_of_rows p f [] = refl
any_of_rows p f (row ∷ rows) = by (shows f row) (any_of_rows p f rows)
  where
    by : (b : Bool) → list_any p (map f.item (filter (shows f) rows)) ≡ list_any (is_row_hit p f) rows
        → list_any p (map f.item (cond b (row ∷ filter (shows f) rows) (filter (shows f) rows))) ≡ (b && p (f.item row) || list_any (is_row_hit p f) rows)
    by true ih = ap (λ c. p (f.item row) || c) ih
    by false ih = ih

any_gone : (world : World) (v : View) → is_known_view v ≡ true → (p : Item → Bool) → nat_lt (length (without_rows (all_hits p (candidates world v)) 0 (leaf_at world (base_under v)).rows)) (length (leaf_at world (base_under v)).rows) ≡ list_any p (shown world v)
any_gone world v known p =
    let f : RowForm = form_of v in
    let rows : List Item = (leaf_at world (base_under v)).rows in
    ap (λ (left : List Item). nat_lt (length left) (length rows)) (without_hits world v known p)
    ∙ fewer_left (is_row_hit p f) rows
    ∙ sym (ap (list_any p) (shown_law world v known) ∙ any_turned p f.turned (map f.item (filter (shows f) rows)) ∙ any_of_rows p f rows)

-- the base has fewer rows after the edit that removes them
pub any_removed : (world : World) (v : View) → is_known_view v ≡ true → (p : Item → Bool) (b before after : ℕ) → b < length world → b ≡ number_under v → before ≡ length (base_at world b).rows
    → after ≡ length (base_at (edited_at world b (removing (all_hits p (candidates world v)))) b).rows → nat_lt after before ≡ list_any p (shown world v)
any_removed world v known p b before after lt under was is =
    let it : Base = edited (base_at world b) (removing (all_hits p (candidates world v))) in
    let after_is : after ≡ length (without_rows (all_hits p (candidates world v)) 0 (base_at world b).rows) = is ∙ ap (λ (x : Base). length x.rows) (written_at world b it lt) in
    (λ i. nat_lt (after_is i) (was i))
    ∙ ap (λ (n : ℕ). nat_lt (length (without_rows (all_hits p (candidates world v)) 0 (base_at world n).rows)) (length (base_at world n).rows)) under
    ∙ sym (ap (λ (at : Base). nat_lt (length (without_rows (all_hits p (candidates world v)) 0 at.rows)) (length at.rows)) (known_base world v known))
    ∙ any_gone world v known p
