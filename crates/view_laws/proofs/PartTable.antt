-- The table of steps, read by the columns of parts: from which part below each part above comes, and what a step asks
-- of the items that it leaves.
use Rattle.std.proofs.Common.{◌≡◌, ℕ, true, not, ◌||◌, refl, sym}
use Rattle.std.specs.Option.{IfSome}
use Rattle.elem.specs.declared.elements.Elem.{Elem}
use Rattle.elem.specs.Elements.{same}
use Rattle.vocabulary.specs.declared.items.Item.{Item}
use Rattle.vocabulary.specs.declared.items.Item.TheVariants.{One, Entry, Counted, Cell, Group, Piece, Range, RangeEntry, Pair, Edge}
use Rattle.vocabulary.specs.declared.items.Side.{Side}
use Rattle.vocabulary.specs.declared.items.Side.TheVariants.{First, Second}
use Rattle.vocabulary.specs.declared.step_table.Family.TheVariants.{Cut}
use Rattle.vocabulary.specs.declared.steps.ChangeStep.TheVariants.{Transform, TransformValues, AsMap}
use Rattle.vocabulary.specs.declared.steps.GroupForm.TheVariants as form
use Rattle.vocabulary.specs.declared.steps.PlainStep.TheVariants.{Reverse, KeySet, Values, EntrySet, Keys, Descending, Inverse, Transpose, ForMap, Unmodifiable}
use Rattle.vocabulary.specs.declared.steps.Step.{Step}
use Rattle.vocabulary.specs.declared.steps.Step.TheVariants as step
use Rattle.vocabulary.specs.Items.{key_of, part_of, second_of, swapped, value_of, with_value, without_part}
use Rattle.vocabulary.specs.Orders.{lies_in}
use Rattle.vocabulary.specs.Steps.{family_of, group_item, item_of, passes}
use Rattle.view_laws.specs.declared.lanes.Pick.TheVariants.{Each}
use Rattle.view_laws.specs.Lanes.{takes}
use Rattle.view_laws.specs.Narrowing.{asked_by, is_cell, is_entry, lacks_key, other, source_of, tells}
use Rattle.view_laws.proofs.ListLemmas.{and-true}
use Rattle.std.proofs.Common.{Bool, false, not, Some, ap, sym, ◌∙◌}
use Rattle.std.proofs.lemmas.Option.{same_Some}
use Rattle.elem.specs.ElementLaws.{same-Decides}
use Rattle.fn_lang.specs.Meaning.{pred_holds, pair_holds}
use Rattle.vocabulary.specs.declared.step_table.Family.TheVariants.{Hidden}
use Rattle.vocabulary.specs.declared.steps.FilterStep.TheVariants.{Filter, FilterKeys, FilterValues}
use Rattle.view_laws.specs.declared.lanes.Lane.{Lane}
use Rattle.view_laws.specs.declared.lanes.PartAsk.{PartAsk}
use Rattle.view_laws.specs.declared.lanes.PartAsk.TheVariants.{Any, Is, Within, Nothing}
use Rattle.view_laws.specs.Lanes.{meets}
use Rattle.view_laws.specs.LookUps.{decided, pair_test_of, test_of}
use Rattle.view_laws.proofs.ListLemmas.{both_true}

-- ---- parts of items

value_second : (item : Item) → not (is_cell item) ≡ true → value_of item ≡ second_of item
value_second (One x) h = refl
value_second (Entry k v) h = refl
value_second (Counted x n) h = refl
value_second (Cell r c v) h = absurd (cc)
value_second (Group k) h = refl
value_second (Piece i) h = refl
value_second (Range s) h = refl
value_second (RangeEntry s v) h = refl
value_second (Pair a b) h = refl
value_second (Edge a b v) h = refl

swapped_part : (side : Side) (item : Item) → not (lacks_key item) ≡ true → part_of side (swapped item) ≡ part_of (other side) item
swapped_part First (One x) h = refl
swapped_part First (Entry k v) h = refl
swapped_part First (Counted x n) h = refl
swapped_part First (Cell r c v) h = refl
swapped_part First (Group k) h = refl
swapped_part First (Piece i) h = refl
swapped_part First (Range s) h = refl
swapped_part First (RangeEntry s v) h = absurd (cc)
swapped_part First (Pair a b) h = refl
swapped_part First (Edge a b v) h = absurd (cc)
swapped_part Second (One x) h = refl
swapped_part Second (Entry k v) h = refl
swapped_part Second (Counted x n) h = refl
swapped_part Second (Cell r c v) h = refl
swapped_part Second (Group k) h = refl
swapped_part Second (Piece i) h = refl
swapped_part Second (Range s) h = refl
swapped_part Second (RangeEntry s v) h = absurd (cc)
swapped_part Second (Pair a b) h = refl
swapped_part Second (Edge a b v) h = absurd (cc)

value_key : (item : Item) (w : Elem) → key_of (with_value item w) ≡ key_of item
value_key (One x) w = refl
value_key (Entry k v) w = refl
value_key (Counted x n) w = refl
value_key (Cell r c v) w = refl
value_key (Group k) w = refl
value_key (Piece i) w = refl
value_key (Range s) w = refl
value_key (RangeEntry s v) w = refl
value_key (Pair a b) w = refl
value_key (Edge a b v) w = refl

value_other : (item : Item) (w : Elem) → not (is_entry item) ≡ true → second_of (with_value item w) ≡ second_of item
value_other (One x) w h = refl
value_other (Entry k v) w h = absurd (cc)
value_other (Counted x n) w h = refl
value_other (Cell r c v) w h = refl
value_other (Group k) w h = refl
value_other (Piece i) w h = refl
value_other (Range s) w h = refl
value_other (RangeEntry s v) w h = refl
value_other (Pair a b) w h = refl
value_other (Edge a b v) w h = refl

-- what is left of an item without its first part, and without its second
left_key : (item : Item) → not (lacks_key item) ≡ true → key_of (without_part First item) ≡ second_of item
left_key (One x) h = refl
left_key (Entry k v) h = refl
left_key (Counted x n) h = refl
left_key (Cell r c v) h = refl
left_key (Group k) h = refl
left_key (Piece i) h = refl
left_key (Range s) h = refl
left_key (RangeEntry s v) h = absurd (cc)
left_key (Pair a b) h = refl
left_key (Edge a b v) h = absurd (cc)

left_second : (item : Item) → not (is_cell item) ≡ true → second_of (without_part First item) ≡ second_of item
left_second (One x) h = refl
left_second (Entry k v) h = refl
left_second (Counted x n) h = refl
left_second (Cell r c v) h = absurd (cc)
left_second (Group k) h = refl
left_second (Piece i) h = refl
left_second (Range s) h = refl
left_second (RangeEntry s v) h = refl
left_second (Pair a b) h = refl
left_second (Edge a b v) h = refl

kept_key : (item : Item) → key_of (without_part Second item) ≡ key_of item
kept_key (One x) = refl
kept_key (Entry k v) = refl
kept_key (Counted x n) = refl
kept_key (Cell r c v) = refl
kept_key (Group k) = refl
kept_key (Piece i) = refl
kept_key (Range s) = refl
kept_key (RangeEntry s v) = refl
kept_key (Pair a b) = refl
kept_key (Edge a b v) = refl

kept_second : (item : Item) → not (is_cell item || lacks_key item) ≡ true → second_of (without_part Second item) ≡ key_of item
kept_second (One x) h = refl
kept_second (Entry k v) h = refl
kept_second (Counted x n) h = refl
kept_second (Cell r c v) h = absurd (cc)
kept_second (Group k) h = refl
kept_second (Piece i) h = refl
kept_second (Range s) h = refl
kept_second (RangeEntry s v) h = absurd (cc)
kept_second (Pair a b) h = refl
kept_second (Edge a b v) h = absurd (cc)

-- ---- the table

-- a part above is the part below that the table says
pub part_told : (it : Step) (side : Side) (item : Item) → tells it side item ≡ true → IfSome (source_of it side) (λ below. part_of side (item_of it item) ≡ part_of below item)
part_told (step.Plain KeySet) First item h = refl
part_told (step.Plain KeySet) Second item h = refl
part_told (step.Plain Keys) First item h = refl
part_told (step.Plain Keys) Second item h = refl
part_told (step.Plain Values) First item h = value_second item h
part_told (step.Plain Values) Second item h = value_second item h
part_told (step.Plain Inverse) side item h = swapped_part side item h
part_told (step.Plain Transpose) side item h = swapped_part side item h
part_told (step.Plain Reverse) side item h = refl
part_told (step.Plain EntrySet) side item h = refl
part_told (step.Plain Descending) side item h = refl
part_told (step.Plain ForMap) side item h = refl
part_told (step.Plain Unmodifiable) side item h = refl
part_told (step.Filter word p) side item h = refl
part_told (step.FilterPairs q) side item h = refl
part_told (step.Change Transform f) side item h = tt
part_told (step.Change TransformValues f) First item h = value_key item _
part_told (step.Change TransformValues f) Second item h = value_other item _ h
part_told (step.Change AsMap f) First item h = refl
part_told (step.Change AsMap f) Second item h = tt
part_told (step.Within order w) side item h = refl
part_told (step.At First k n) First item h = left_key item h
part_told (step.At First k n) Second item h = left_second item h
part_told (step.At Second k n) First item h = kept_key item
part_told (step.At Second k n) Second item h = kept_second item h
part_told (step.Group given made) side item h = refl
part_told (step.Sub n s) side item h = refl
part_told (step.Partition n) side item h = refl
part_told (step.Piece n s) side item h = refl

-- what passes a step that leaves items out is what it asks of them
pub asked_passes : (it : Step) (item : Item) → family_of it ≡ Cut → passes it item ≡ takes (asked_by it) item
asked_passes (step.Within order w) item h = sym (and-true (lies_in order w (key_of item)))
asked_passes (step.At First k n) item h = sym (and-true (same k (key_of item)))
asked_passes (step.At Second k n) item h = refl
asked_passes (step.Plain Reverse) item h = absurd (cc)
asked_passes (step.Plain KeySet) item h = absurd (cc)
asked_passes (step.Plain Values) item h = absurd (cc)
asked_passes (step.Plain EntrySet) item h = absurd (cc)
asked_passes (step.Plain Keys) item h = absurd (cc)
asked_passes (step.Plain Descending) item h = absurd (cc)
asked_passes (step.Plain Inverse) item h = absurd (cc)
asked_passes (step.Plain Transpose) item h = absurd (cc)
asked_passes (step.Plain ForMap) item h = absurd (cc)
asked_passes (step.Plain Unmodifiable) item h = absurd (cc)
asked_passes it item h = absurd (cc)

-- it asks of each candidate
pub asked_each : (it : Step) → (asked_by it).pick ≡ Each
asked_each (step.Within order w) = refl
asked_each (step.At First k n) = refl
asked_each (step.At Second k n) = refl
asked_each (step.Plain word) = refl
asked_each (step.Filter word p) = refl
asked_each (step.FilterPairs q) = refl
asked_each (step.Change word f) = refl
asked_each (step.Group given made) = refl
asked_each (step.Sub n s) = refl
asked_each (step.Partition n) = refl
asked_each (step.Piece n s) = refl

-- both parts of a group are its key
pub group_part : (it : Step) (side : Side) (k : Elem) (n : ℕ) → part_of side (group_item it k n) ≡ k
group_part (step.Group given form.Keys) First k n = refl
group_part (step.Group given form.Keys) Second k n = refl
group_part (step.Group given form.Counts) First k n = refl
group_part (step.Group given form.Counts) Second k n = refl
group_part (step.Group given form.Members) First k n = refl
group_part (step.Group given form.Members) Second k n = refl
group_part (step.Plain word) First k n = refl
group_part (step.Plain word) Second k n = refl
group_part it First k n = refl
group_part it Second k n = refl

-- what is asked for and decides a test, is what is tested
tested : (p : Elem → Bool) (ask : PartAsk) (x : Elem) (b : Bool) → test_of p ask ≡ Some b → meets ask x ≡ true → p x ≡ b
tested p (Is y) x b e m = ap p (sym ((same-Decides y x).0 m)) ∙ same_Some (p y) b e
tested p Any x b e m = absurd (cc)
tested p (Within order w) x b e m = absurd (cc)
tested p Nothing x b e m = absurd (cc)

pair_tested : (q : Elem → Elem → Bool) (first second : PartAsk) (k v : Elem) (b : Bool) → pair_test_of q first second ≡ Some b → meets first k ≡ true → meets second v ≡ true → q k v ≡ b
pair_tested q (Is x) (Is y) k v b e m n = (λ i. q (sym ((same-Decides x k).0 m) i) (sym ((same-Decides y v).0 n) i)) ∙ same_Some (q x y) b e
pair_tested q (Is x) Any k v b e m n = absurd (cc)
pair_tested q (Is x) (Within order w) k v b e m n = absurd (cc)
pair_tested q (Is x) Nothing k v b e m n = absurd (cc)
pair_tested q Any second k v b e m n = absurd (cc)
pair_tested q (Within order w) second k v b e m n = absurd (cc)
pair_tested q Nothing second k v b e m n = absurd (cc)

-- a step that hides passes what is taken as is decided
pub decided_passes : (it : Step) (lane : Lane) (item : Item) (b : Bool) → family_of it ≡ Hidden → is_cell item ≡ false → decided it lane ≡ Some b → takes lane item ≡ true → passes it item ≡ b
decided_passes (step.Filter Filter p) lane item b is plain tells taken =
    ap (pred_holds p) (value_second item (ap not plain)) ∙ tested (pred_holds p) lane.second (second_of item) b tells (both_true (meets lane.first (key_of item)) (meets lane.second (second_of item)) taken).1
decided_passes (step.Filter FilterKeys p) lane item b is plain tells taken = tested (pred_holds p) lane.first (key_of item) b tells (both_true (meets lane.first (key_of item)) (meets lane.second (second_of item)) taken).0
decided_passes (step.Filter FilterValues p) lane item b is plain tells taken =
    ap (pred_holds p) (value_second item (ap not plain)) ∙ tested (pred_holds p) lane.second (second_of item) b tells (both_true (meets lane.first (key_of item)) (meets lane.second (second_of item)) taken).1
decided_passes (step.FilterPairs q) lane item b is plain tells taken =
    let parts = both_true (meets lane.first (key_of item)) (meets lane.second (second_of item)) taken in
    ap (pair_holds q (key_of item)) (value_second item (ap not plain)) ∙ pair_tested (pair_holds q) lane.first lane.second (key_of item) (second_of item) b tells parts.0 parts.1
decided_passes (step.Plain Reverse) lane item b is plain tells taken = absurd (cc)
decided_passes (step.Plain KeySet) lane item b is plain tells taken = absurd (cc)
decided_passes (step.Plain Values) lane item b is plain tells taken = absurd (cc)
decided_passes (step.Plain EntrySet) lane item b is plain tells taken = absurd (cc)
decided_passes (step.Plain Keys) lane item b is plain tells taken = absurd (cc)
decided_passes (step.Plain Descending) lane item b is plain tells taken = absurd (cc)
decided_passes (step.Plain Inverse) lane item b is plain tells taken = absurd (cc)
decided_passes (step.Plain Transpose) lane item b is plain tells taken = absurd (cc)
decided_passes (step.Plain ForMap) lane item b is plain tells taken = absurd (cc)
decided_passes (step.Plain Unmodifiable) lane item b is plain tells taken = absurd (cc)
decided_passes it lane item b is plain tells taken = absurd (cc)
