-- The items of another view: as rows of a base, and as members.
use Rattle.std.proofs.Common.{◌≡◌, ℕ, Bool, true, false, cond, not, ◌&&◌, ◌||◌, nat_eq, List, [], ◌∷◌, length, refl, ap, sym, ◌∙◌, subst, arith}
use Rattle.std.specs.Prelude.{Result}
use Rattle.std.specs.List.{list_all, list_any}
use Rattle.std.proofs.lemmas.Bool.Decides.{nat_tests}
use Rattle.elem.specs.declared.elements.Elem.{Elem}
use Rattle.base_rows.specs.BaseRows.{AreRowsOf}
use Rattle.base_store.specs.Stored.{Stored}
use Rattle.vocabulary.specs.declared.answers.Answer.{Answer}
use Rattle.vocabulary.specs.declared.answers.Answer.TheVariants.{Truth}
use Rattle.vocabulary.specs.declared.edits.Spot.{Spot}
use Rattle.vocabulary.specs.declared.items.Item.{Item}
use Rattle.vocabulary.specs.declared.items.Item.TheVariants.{One}
use Rattle.vocabulary.specs.declared.refusals.Refusal.{Refusal}
use Rattle.vocabulary.specs.declared.shapes.Shape.{Shape}
use Rattle.machine.specs.CallEdits.{all_hits}
use Rattle.machine.specs.Answers.{adds_something}
use Rattle.machine.specs.Shown.{has_key, is_shown}
use Rattle.vocabulary.specs.Items.{same_item}
use Rattle.vocabulary.specs.Known.{is_known_kind}
use Rattle.vocabulary.specs.Shapes.{has_each_once, is_elements, is_map}
use Rattle.machine.specs.MadeViews.{IsMade}
use Rattle.machine.specs.Bases.{Base, World, base_at}
use Rattle.machine.specs.Leaves.{leaf_at}
use Rattle.machine.specs.Views.{View, base_under, flags_at, shape_at, shown}
use Rattle.view_steps.specs.KnownViews.{is_known_view, number_under}
use Rattle.view_steps.proofs.KnownLemmas.{known_base}
use Rattle.write_chain.proofs.KnownCalls.{Stands}
use Rattle.machine.specs.Candidates.{Candidate}
use Rattle.write_chain.specs.Calls.{Came, added, removed}
use Rattle.write_chain.specs.Members.{Members, is_among, is_member}
use Rattle.write_chain.proofs.ItemLemmas.{element_rows, entry_rows, shown_items}
use Rattle.write_chain.proofs.ShapeLemmas.{element_fits, entry_fits}
use Rattle.view_steps.proofs.ItemLemmas.{IsItemIn, Each, an_element, shown_element}

-- a known view over a base of a known kind whose rows fit
pub record IsFitting (world : World) (v : View) (b : ℕ) : Type 0 where
  pub base : b ≡ number_under v
  pub known : is_known_view v ≡ true
  pub kind : is_known_kind (base_at world b).kind ≡ true
  pub made : IsMade world v
  pub rows_fit : AreRowsOf (base_at world b).kind (base_at world b).rows

items_of : (world : World) (v : View) (b : ℕ) → IsFitting world v b → Each (IsItemIn (shape_at world v)) (shown world v)
items_of world v b fit =
    let there : base_at world b ≡ leaf_at world (base_under v) = ap (base_at world) fit.base ∙ sym (known_base world v fit.known) in
    shown_items world v fit.known (subst (λ (it : Base). is_known_kind it.kind ≡ true) there fit.kind) fit.made (subst (λ (it : Base). AreRowsOf it.kind it.rows) there fit.rows_fit)

pub elements_fit : (world : World) (v other : View) (b : ℕ) (items : List Item) → IsFitting world other b → Stands world v → items ≡ shown world other → (flags_at world v).add ≡ true → is_elements (shape_at world v) ≡ true → is_elements (shape_at world other) ≡ true
    → AreRowsOf (base_at world (number_under v)).kind items
elements_fit world v other b items fit view is ok mine others =
    subst (AreRowsOf (base_at world (number_under v)).kind) (sym is)
    (element_rows (shape_at world other) (base_at world (number_under v)).kind (shown world other) others (λ x. element_fits world v x view.known ok mine) (items_of world other b fit))

pub entries_fit : (world : World) (v other : View) (b : ℕ) (items : List Item) → IsFitting world other b → Stands world v → items ≡ shown world other → (flags_at world v).add ≡ true → is_map (shape_at world v) ≡ true → is_map (shape_at world other) ≡ true
    → AreRowsOf (base_at world (number_under v)).kind items
entries_fit world v other b items fit view is ok mine others =
    subst (AreRowsOf (base_at world (number_under v)).kind) (sym is)
    (entry_rows (shape_at world other) (base_at world (number_under v)).kind (shown world other) others (λ k w. entry_fits world v k w view.known view.kind ok mine) (items_of world other b fit))

-- items that are added: where equal ones stand once, one of them is not shown yet
pub some_new : (of : Shape) (items others : List Item) → has_each_once of ≡ true → not (list_all (is_shown items) others) ≡ adds_something of items others
some_new of items [] once = refl
some_new of items (item ∷ others) once =
    by (is_shown items item) (list_all (is_shown items) others) (some_new of items others once) ∙ ap (λ b. not (b && is_shown items item) || adds_something of items others) (sym once)
  where
    by : (b all : Bool) → not all ≡ adds_something of items others → not (b && all) ≡ not (true && b) || adds_something of items others
    by true all rest = rest
    by false all rest = refl

pub any_new : (of : Shape) (items others : List Item) → has_each_once of ≡ false → not (nat_eq (length others) 0) ≡ adds_something of items others
any_new of items [] twice = refl
any_new of items (item ∷ others) twice =
    let some : nat_eq (length (item ∷ others)) 0 ≡ false = grind (arith, nat_tests) in
    ap not some ∙ ap (λ b. not (b && is_shown items item) || adds_something of items others) (sym twice)

-- the same answer of the same items
pub added_same : (result : Result Answer Refusal) (s now : Stored) (v : View) (items others : List Item) (spot end : Spot) (answer told : Answer) → items ≡ others → spot ≡ end → answer ≡ told → Came result s now (added s.world v items spot answer)
    → Came result s now (added s.world v others end told)
added_same result s now v items others spot end answer told e f g came = subst (Came result s now) (λ i. added s.world v (e i) (f i) (g i)) came

-- ---- members

-- what is no element is not shown among elements
not_shown : (of : Shape) (items : List Item) (item : Item) → ((x : Elem) → same_item item (One x) ≡ false) → is_elements of ≡ true → Each (IsItemIn of) items → false ≡ is_shown items item
not_shown of [] item other h each = refl
not_shown of (first ∷ items) item other h each =
    let one = an_element of first h each.0 in
    not_shown of items item other h each.1 ∙ ap (λ b. b || is_shown items item) (sym (ap (same_item item) one.same ∙ other one.element))

member_is : (of : Shape) (rows : Members) (others : List Item) → is_elements of ≡ true → Each (IsItemIn of) others → ((x : Elem) → is_member rows x ≡ list_any (has_key x) others) → (item : Item) → is_among rows item ≡ is_shown others item
member_is of rows others h each is (One x) = is x ∙ shown_element of others x h each
member_is of rows others h each is other = not_shown of others other (λ x. refl) h each

-- what was removed by members was removed by the items
pub removed_same : (result : Result Answer Refusal) (s now : Stored) (v other : View) (b : ℕ) (rows : Members) (out : Bool) (cs : List Candidate) (mine : List Item) → IsFitting s.world other b → is_elements (shape_at s.world other) ≡ true
    → ((x : Elem) → is_member rows x ≡ list_any (has_key x) (shown s.world other))
    → Came result s now (removed s.world v (all_hits (λ item. cond out (not (is_among rows item)) (is_among rows item)) cs) (Truth (list_any {X = Item} (λ item. cond out (not (is_among rows item)) (is_among rows item)) mine)))
    → Came result s now (removed s.world v (all_hits (λ item. cond out (not (is_shown (shown s.world other) item)) (is_shown (shown s.world other) item)) cs) (Truth (list_any {X = Item} (λ item. cond out (not (is_shown (shown s.world other) item)) (is_shown (shown s.world other) item)) mine)))
removed_same result s now v other b rows out cs mine fit h is came =
    let same = λ (item : Item). member_is (shape_at s.world other) rows (shown s.world other) h (items_of s.world other b fit) is item in
    let tests : (Item → Bool) = λ item. cond out (not (is_among rows item)) (is_among rows item) in
    let wanted : (Item → Bool) = λ item. cond out (not (is_shown (shown s.world other) item)) (is_shown (shown s.world other) item) in
    let e : tests ≡ wanted = λ i item. cond out (not (same item i)) (same item i) in
    subst (λ (p : Item → Bool). Came result s now (removed s.world v (all_hits p cs) (Truth (list_any p mine)))) e came
