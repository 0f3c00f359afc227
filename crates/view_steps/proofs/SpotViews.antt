-- The spots of rows that come to a known view, as spots of its base.
use Rattle.std.proofs.Common.{◌≡◌, ℕ, zero, suc, ◌+◌, ◌-◌, ◌<◌, Bool, true, false, cond, ◌&&◌, not, List, [], ◌∷◌, ◌++◌, length, refl, ap, sym, ◌∙◌, subst, arith, append_assoc, length-append, get_or, ◌⊎◌, inl, inr}
use Rattle.std.specs.Prelude.{slice_get, slice_set, insert, option_map, IsSome, Some}
use Rattle.std.proofs.lemmas.List.{append-nil, length-map, length-reverse}
use Rattle.std.proofs.lemmas.Option.{slice_get-map}
use Rattle.vocabulary.specs.declared.edits.Spot.{Spot}
use Rattle.vocabulary.specs.declared.edits.Spot.TheVariants.{Own, Before, Instead}
use Rattle.vocabulary.specs.declared.items.Item.{Item}
use Rattle.vocabulary.specs.declared.kinds.Kind.{Kind}
use Rattle.vocabulary.specs.declared.step_table.Family.{Family}
use Rattle.vocabulary.specs.declared.step_table.Family.TheVariants.{Same, Changed, Turned}
use Rattle.vocabulary.specs.declared.steps.Step.{Step}
use Rattle.vocabulary.specs.Kinds.{shape_of_kind}
use Rattle.vocabulary.specs.Known.{is_known_kind}
use Rattle.vocabulary.specs.Shapes.{is_list}
use Rattle.vocabulary.specs.StepShapes.{apply}
use Rattle.vocabulary.specs.Steps.{family_of, item_of}
use Rattle.machine.specs.Bases.{Base, World}
use Rattle.machine.specs.CallEdits.{adding_last, at_end_from, seen_at}
use Rattle.machine.specs.Candidates.{Candidate, in_family, of_rows, with_item}
use Rattle.machine.specs.Edits.{Coming, adding, adding_rows, coming, edited, placed_all}
use Rattle.machine.specs.KeyOrders.{KeyOrder}
use Rattle.machine.specs.Leaves.{leaf_at}
use Rattle.machine.specs.MadeViews.{IsMade}
use Rattle.machine.specs.Placing.{placed_at}
use Rattle.machine.specs.Spots.{end_spot, gap, place_of}
use Rattle.machine.specs.Views.{View, base, both, over, base_under, candidates, flags_at, order_over, root, shape_at, shown}
use Rattle.view_laws.proofs.LiftTable.{adds_below}
use Rattle.view_steps.specs.Indexes.{end_of_view, gap_index, item_index}
use Rattle.view_steps.specs.KnownViews.{edited_at, is_known, is_known_view, number_under}
use Rattle.view_steps.specs.Turning.{turned, turns}
use Rattle.view_steps.proofs.CountLemmas.{list_shown}
use Rattle.view_steps.proofs.EditedRows.{edited_rows, without_none}
use Rattle.view_steps.proofs.EditLemmas.{form_turned}
use Rattle.view_steps.proofs.FamilyTable.{is_turned, shows_each, turned_family}
use Rattle.view_steps.proofs.IndexLemmas.{gap_at, gap_from, list_below}
use Rattle.view_steps.proofs.KnownLemmas.{known_base, known_over}
use Rattle.view_steps.proofs.KnownShapes.{list_unkeyed, list_unsorted}
use Rattle.view_steps.proofs.ListLemmas.{never}
use Rattle.view_steps.proofs.ListViews.{list_seen}
use Rattle.view_steps.proofs.PlacedRows.{own_all, placed-last}
use Rattle.view_steps.proofs.ShapeLemmas.{adds_over}
use Rattle.view_steps.proofs.SpotTable.{end_over, gap_over, reversed_list, reverses, turned_unsorted}
use Rattle.view_steps.proofs.TurnLemmas.{slice_get-reverse}
use Rattle.view_steps.proofs.UniqueParts.{unsorted_over}

-- a list view shows as many items as its base has rows
pub list_size : (world : World) (v : View) → is_known_view v ≡ true → IsMade world v → is_list (shape_at world v) ≡ true → length (shown world v) ≡ length (root world v).rows
list_size world v known made list = list_shown world v known made list ∙ ap (λ (it : Base). length it.rows) (known_base world v known)

-- ---- gaps

-- the gap of a list view is before a row of its base, where j rows came already
pub gap_of_list : (world : World) (v : View) → is_known_view v ≡ true → IsMade world v → is_list (shape_at world v) ≡ true → (j i : ℕ) → gap world v j i ≡ Before (gap_index v (length (root world v).rows + j) i)
gap_of_list world (base l) known made list j i = refl
gap_of_list world (over it v) known made list j i =
    let parts = known_over it v known in
    let below = list_below (shape_at world v) it parts.0 made.0.given list in
    let size : ℕ = length (root world v).rows + j in
    let turning : turns it ≡ reverses it = turned_unsorted it (shape_at world v) made.0.given (list_unsorted (shape_at world v) below.0) in
    gap_over world it v j i parts.0
    ∙ ap (λ n. gap world v j (cond (reverses it) (n + j - i) i)) (list_size world v parts.1 made.1 below.0)
    ∙ ap (λ t. gap world v j (cond t (size - i) i)) (sym turning)
    ∙ gap_of_list world v parts.1 made.1 below.0 j (cond (turns it) (size - i) i)
gap_of_list world (both word v u) known made list j i = absurd (cc)

pub gap_spot : (world : World) (v : View) → is_known_view v ≡ true → IsMade world v → is_list (shape_at world v) ≡ true → (i : ℕ) → gap world v 0 i ≡ Before (gap_index v (length (root world v).rows) i)
gap_spot world v known made list i = gap_of_list world v known made list 0 i ∙ ap (λ n. Before (gap_index v n i)) (let e : length (root world v).rows + 0 ≡ length (root world v).rows = omega arith in e)

-- ---- items

-- candidate i stands for row n alone
pub record IsOfRow (cs : List Candidate) (i n : ℕ) : Type 0 where
  pub candidate : Candidate
  pub there : slice_get cs i ≡ Some candidate
  pub row : candidate.rows ≡ n ∷ []

record AreOfRows (index : ℕ → ℕ) (cs : List Candidate) (size : ℕ) : Type 0 where
  count : length cs ≡ size
  item : (i : ℕ) → i < size → IsOfRow cs i (index i)

length-rows : (k : ℕ) (rows : List Item) → length (of_rows k rows) ≡ length rows
length-rows k [] = refl
length-rows k (row ∷ rows) = ap suc (length-rows (k + 1) rows)

row_of : (k : ℕ) (rows : List Item) (i n : ℕ) → i < length rows → k + i ≡ n → IsOfRow (of_rows k rows) i n
row_of k [] i n lt is = absurd (omega arith)
row_of k (row ∷ rows) zero n lt is = record { candidate = record { rows = k ∷ []; item = row; seen = true }; there = refl; row = ap (λ m. m ∷ []) (let e : k ≡ n = omega arith in e) }
row_of k (row ∷ rows) (suc i) n lt is = let below = row_of (k + 1) rows i n (omega arith) (omega arith) in record { candidate = below.candidate; there = below.there; row = below.row }

rows_over : (family : Family) (it : Step) (order : KeyOrder) (index : ℕ → ℕ) (cs : List Candidate) (size : ℕ) → shows_each family ≡ true → AreOfRows index cs size → AreOfRows (λ i. index (cond (is_turned family) (size - 1 - i) i)) (in_family family it order cs) size
rows_over Same it order index cs size each are = record { count = are.count; item = λ i lt. are.item i lt }
rows_over Changed it order index cs size each are = record {
  count = length-map cs (with_item (item_of it)) ∙ are.count;
  item = λ i lt.
      let below = are.item i lt in
      let make : Candidate → Candidate = with_item (item_of it) in
      record {
        candidate = make below.candidate;
        there = slice_get-map make cs i ∙ ap (option_map make) below.there;
        row = below.row;
      };
}
rows_over Turned it order index cs size each are = record {
  count = length-reverse cs ∙ are.count;
  item = λ i lt.
      let below = are.item (size - 1 - i) (omega arith) in
      record {
        candidate = below.candidate;
        there = slice_get-reverse cs i (omega (arith, are.count)) ∙ ap (λ n. slice_get cs (n - 1 - i)) are.count ∙ below.there;
        row = below.row;
      };
}
rows_over _ it order index cs size each are = absurd (cc)

rows_at : (world : World) (v : View) → is_known_view v ≡ true → IsMade world v → is_list (shape_at world v) ≡ true → AreOfRows (item_index v (length (leaf_at world (base_under v)).rows)) (candidates world v) (length (leaf_at world (base_under v)).rows)
rows_at world (base l) known made list = record { count = length-rows 0 (leaf_at world l).rows; item = λ i lt. row_of 0 (leaf_at world l).rows i i lt (omega arith) }
rows_at world (over it v) known made list =
    let parts = known_over it v known in
    let below = list_below (shape_at world v) it parts.0 made.0.given list in
    let size : ℕ = length (leaf_at world (base_under v)).rows in
    subst (λ t. AreOfRows (λ i. item_index v size (cond t (size - 1 - i) i)) (candidates world (over it v)) size) (sym (turned_family it))
    (rows_over (family_of it) it (order_over world v it) (item_index v size) (candidates world v) size below.1 (rows_at world v parts.1 made.1 below.0))
rows_at world (both word v u) known made list = absurd (cc)

-- an item that comes in the place of another comes in the place of its row
pub place_spot : (world : World) (v : View) → is_known_view v ≡ true → IsMade world v → is_list (shape_at world v) ≡ true → (i : ℕ) → i < length (root world v).rows
    → place_of (seen_at i (candidates world v)) ≡ Instead (item_index v (length (root world v).rows) i)
place_spot world v known made list i lt =
    let size : length (leaf_at world (base_under v)).rows ≡ length (root world v).rows = ap (λ (it : Base). length it.rows) (known_base world v known) in
    let at = (rows_at world v known made list).item i (omega (arith, size)) in
    ap (λ (cs : List Candidate). place_of (slice_get cs i)) (list_seen world v known made list)
    ∙ ap place_of at.there
    ∙ ap (λ (rows : List ℕ). Instead (get_or rows 0 0)) at.row
    ∙ ap (λ n. Instead (item_index v n i)) size

-- ---- ends

-- where an item comes to a list of n rows that is to stand last, from the front or from the back
abbrev pub IsEnd : Bool → ℕ → Spot → Type 0
IsEnd true n spot = spot ≡ Before 0
IsEnd false n spot = (spot ≡ Own) ⊎ (spot ≡ Before n)

-- a view that is made, over a base of a known kind, and allows adding
record Adds (world : World) (v : View) : Type 0 where
  known : is_known_view v ≡ true
  kind : is_known_kind (leaf_at world (base_under v)).kind ≡ true
  made : IsMade world v
  adds : (flags_at world v).add ≡ true

adds_under : (world : World) (it : Step) (v : View) → Adds world (over it v) → Adds world v
adds_under world it v a = record { known = (known_over it v a.known).1; kind = a.kind; made = a.made.1; adds = adds_below (shape_at world v) (flags_at world v) it a.adds }

-- the end of a list turned round is the front of the list below, and the front its end
turned_end : (world : World) (v : View) → is_known_view v ≡ true → IsMade world v → is_list (shape_at world v) ≡ true → (j : ℕ) → IsEnd (not (turned v)) (length (root world v).rows + j) (gap world v j 0)
turned_end world v known made list j =
    by (turned v)
    (gap_of_list world v known made list j 0
    ∙ ap Before (gap_at v n 0 (omega arith) ∙ ap (λ t. gap_from t n 0) (form_turned v)))
  where
    n : ℕ
    n = length (root world v).rows + j

    by : (t : Bool) → gap world v j 0 ≡ Before (gap_from t n 0) → IsEnd (not t) n (gap world v j 0)
    by true is = inr (is ∙ ap Before (let e : n - 0 ≡ n = omega arith in e))
    by false is = is

end_at : (world : World) (v : View) → Adds world v → is_list (shape_of_kind (leaf_at world (base_under v)).kind) ≡ true → (j : ℕ) → IsEnd (turned v) (length (root world v).rows + j) (end_spot world v j)
end_at world (base l) a list j = inl refl
end_at world (over it v) a list j =
    let under : Adds world v = adds_under world it v a in
    let turning : turns it ≡ reverses it = turned_unsorted it (shape_at world v) a.made.0.given (unsorted_over world v under.known under.kind under.made (list_unkeyed (shape_of_kind (leaf_at world (base_under v)).kind) list)) in
    subst (IsEnd (turned (over it v)) n) (sym (end_over world it v j (known_over it v a.known).0))
    (subst (λ t. IsEnd (cond t (not (turned v)) (turned v)) n (cond (reverses it) (gap world v j 0) (end_spot world v j))) (sym turning) (by under (end_at world v under list j) (reverses it) refl))
  where
    n : ℕ
    n = length (root world v).rows + j

    by : Adds world v → IsEnd (turned v) n (end_spot world v j) → (t : Bool) → reverses it ≡ t → IsEnd (cond t (not (turned v)) (turned v)) n (cond t (gap world v j 0) (end_spot world v j))
    by under below true e = turned_end world v under.known under.made (reversed_list it (shape_at world v) a.made.0.given e) j
    by under below false e = below
end_at world (both word v u) a list j = absurd (cc)

-- over other bases rows go by themselves
own_over : (world : World) (it : Step) (v : View) → is_known it ≡ true → IsSome (apply (shape_at world v) it) → is_list (shape_at world v) ≡ false → (j : ℕ) → end_spot world v j ≡ Own → end_spot world (over it v) j ≡ Own
own_over world it v known some other j below = end_over world it v j known ∙ by (reverses it) refl
  where
    by : (t : Bool) → reverses it ≡ t → cond t (gap world v j 0) (end_spot world v j) ≡ Own
    by true e = absurd (never (is_list (shape_at world v)) other (reversed_list it (shape_at world v) some e))
    by false e = below

own_at : (world : World) (v : View) → Adds world v → is_list (shape_of_kind (leaf_at world (base_under v)).kind) ≡ false → (j : ℕ) → end_spot world v j ≡ Own
own_at world (base l) a other j = refl
own_at world (over it v) a other j =
    let under = adds_under world it v a in
    own_over world it v (known_over it v a.known).0 a.made.0.given (no_list (is_list (shape_at world v)) refl) j (own_at world v under other j)
  where
    no_list : (b : Bool) → is_list (shape_at world v) ≡ b → is_list (shape_at world v) ≡ false
    no_list false is = is
    no_list true is = absurd (never (is_list (shape_of_kind (leaf_at world (base_under v)).kind)) other ((adds_over world v (adds_under world it v a).known (adds_under world it v a).adds).list is))
own_at world (both word v u) a other j = absurd (cc)

-- ---- rows that come to the end

insert_last : (rows : List Item) (row : Item) → insert rows (length rows) row ≡ rows ++ row ∷ []
insert_last [] row = refl
insert_last (first ∷ rows) row = ap (λ (rest : List Item). first ∷ rest) (insert_last rows row)

one_last : (kind : Kind) → is_known_kind kind ≡ true → is_list (shape_of_kind kind) ≡ true → (rows : List Item) (n : ℕ) (spot : Spot) (row : Item) → length rows ≡ n → IsEnd false n spot → placed_at kind spot rows row ≡ rows ++ row ∷ []
one_last kind known list rows n spot row is (inl own) = ap (λ s. placed_at kind s rows row) own ∙ placed-last kind known list rows row
one_last kind known list rows n spot row is (inr before) = ap (λ s. placed_at kind s rows row) before ∙ ap (λ m. insert rows m row) (sym is) ∙ insert_last rows row

all_last : (world : World) (v : View) (kind : Kind) → is_known_kind kind ≡ true → is_list (shape_of_kind kind) ≡ true → (size : ℕ) → ((j : ℕ) → IsEnd false (size + j) (end_spot world v j)) → (rows added : List Item) (j : ℕ) → length rows ≡ size + j → placed_all kind rows (at_end_from world v j added) ≡ rows ++ added
all_last world v kind known list size ends rows [] j is = sym (append-nil rows)
all_last world v kind known list size ends rows (row ∷ added) j is =
    ap (λ (now : List Item). placed_all kind now (at_end_from world v (j + 1) added)) (one_last kind known list rows (size + j) (end_spot world v j) row is (ends j))
    ∙ all_last world v kind known list size ends (rows ++ row ∷ []) added (j + 1) (omega (arith, length-append rows (row ∷ []), is))
    ∙ append_assoc rows (row ∷ []) added

all_at : (world : World) (v : View) (spot : Spot) → ((j : ℕ) → end_spot world v j ≡ spot) → (added : List Item) (j : ℕ) → at_end_from world v j added ≡ coming spot added
all_at world v spot same [] j = refl
all_at world v spot same (row ∷ added) j = (λ k. (same j k, row) ∷ all_at world v spot same added (j + 1) k)

same_rows : (it : Base) → is_known_kind it.kind ≡ true → (a b : List Coming) → placed_all it.kind it.rows a ≡ placed_all it.kind it.rows b → edited it (adding_rows a) ≡ edited it (adding_rows b)
same_rows it kind a b same =
    edited_rows it kind (adding_rows a) it.rows (placed_all it.kind it.rows b) (without_none 0 it.rows) same
    ∙ sym (edited_rows it kind (adding_rows b) it.rows (placed_all it.kind it.rows b) (without_none 0 it.rows) refl)

placed_end : (world : World) (v : View) → Adds world v → (added : List Item)
    → placed_all (root world v).kind (root world v).rows (at_end_from world v 0 added) ≡ placed_all (root world v).kind (root world v).rows (coming (end_of_view world v) added)
placed_end world v a added = by (is_list (shape_of_kind it.kind)) (turned v) refl refl
  where
    it : Base
    it = root world v

    same : leaf_at world (base_under v) ≡ it
    same = known_base world v a.known

    listed : (b : Bool) → is_list (shape_of_kind it.kind) ≡ b → is_list (shape_of_kind (leaf_at world (base_under v)).kind) ≡ b
    listed b list = ap (λ (x : Base). is_list (shape_of_kind x.kind)) same ∙ list

    end : (back : Bool) → is_list (shape_of_kind it.kind) ≡ true → turned v ≡ back → (j : ℕ) → IsEnd back (length it.rows + j) (end_spot world v j)
    end back list turning j = subst (λ t. IsEnd t (length it.rows + j) (end_spot world v j)) turning (end_at world v a (listed true list) j)

    known : is_known_kind it.kind ≡ true
    known = sym (ap (λ (x : Base). is_known_kind x.kind) same) ∙ a.kind

    by : (list back : Bool) → is_list (shape_of_kind it.kind) ≡ list → turned v ≡ back
        → placed_all it.kind it.rows (at_end_from world v 0 added) ≡ placed_all it.kind it.rows (coming (cond (list && back) (Before 0) Own) added)
    by true true list back = ap (placed_all it.kind it.rows) (all_at world v (Before 0) (end true list back) added 0)
    by true false list back = all_last world v it.kind known list (length it.rows) (end false list back) it.rows added 0 (omega arith) ∙ sym (own_all it.kind known list it.rows added)
    by false back other is = ap (placed_all it.kind it.rows) (all_at world v Own (own_at world v a (listed false other)) added 0)

-- rows that come to the end of a view come to one spot of its base
pub added_last : (world : World) (v : View) → is_known_view v ≡ true → is_known_kind (root world v).kind ≡ true → IsMade world v → (flags_at world v).add ≡ true → (rows : List Item)
    → edited_at world (number_under v) (adding_last world v rows) ≡ edited_at world (number_under v) (adding (end_of_view world v) rows)
added_last world v known kind made ok rows =
    ap (slice_set world (number_under v))
    (same_rows (root world v) kind (at_end_from world v 0 rows) (coming (end_of_view world v) rows) (placed_end world v (record { known = known; kind = ap (λ (it : Base). is_known_kind it.kind) (known_base world v known) ∙ kind; made = made; adds = ok }) rows))
