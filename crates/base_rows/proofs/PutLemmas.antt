-- A row that is put in a set or a map goes where the definition of a write has it.
use Rattle.std.proofs.Common.{◌≡◌, ℕ, Bool, true, false, cond, not, ◌&&◌, ◌||◌, List, [], ◌∷◌, ◌++◌, Option, Some, None, ◌+◌, ◌<◌, length, ◌⊎◌, inl, inr, Result, Ok, Err, refl, sym, ap, ◌∙◌, subst, arith}
use Rattle.std.specs.Prelude.{fold, is_some, is_err, OnOk, OnErr, IfErr}
use Rattle.std.proofs.lemmas.List.{length-map}
use Rattle.elem.specs.declared.elements.Elem.{Elem}
use Rattle.elem.specs.Elements.{same}
use Rattle.elem.specs.ElementLaws.{same-Decides}
use Rattle.elem.specs.Keyed.{value_at, with_value}
use Rattle.elem.specs.Orders.{IsStrictOrder, natural_before, reverse_before, length_before}
use Rattle.plain_base.specs.Sorted.{ComesFirst, IsInOrder, placed as inserted_before}
use Rattle.base_rows.specs.declared.base_rows.BaseRows.{BaseRows}
use Rattle.base_rows.specs.BaseRows.{kind_of, rows_of, items, IsRowIn, IsRowOf, AreRowsOf, IsSpotIn}
use Rattle.base_rows.specs.Journals.{items_by, with_row, with_item}
use Rattle.vocabulary.specs.declared.edits.Spot.{Spot}
use Rattle.vocabulary.specs.declared.edits.Spot.TheVariants.{Own, Swapped, Before, Instead, InKey}
use Rattle.vocabulary.specs.declared.items.Item.{Item}
use Rattle.vocabulary.specs.declared.items.Item.TheVariants.{One, Entry}
use Rattle.vocabulary.specs.declared.kinds.Kind.{Kind}
use Rattle.vocabulary.specs.declared.kinds.Kind.TheVariants as kind
use Rattle.vocabulary.specs.declared.refusals.Refusal.{Refusal}
use Rattle.vocabulary.specs.declared.refusals.Refusal.TheVariants as refusals
use Rattle.machine.specs.Edits.{coming, placed_all}
use Rattle.machine.specs.Placing.{follows, placed, placed_at, precedes, replaces, settled}
use Rattle.vocabulary.specs.declared.shapes.Shape.TheVariants as shape
use Rattle.vocabulary.specs.Items.{key_of, value_of}
use Rattle.vocabulary.specs.Kinds.{shape_of_kind}
use Rattle.vocabulary.specs.Shapes.{is_bimap, is_keyed}

-- no key comes before another: rows that stand in the order in which they came
abbrev pub never : Elem → Elem → Bool
never a b = false

-- what comes before another element is not the same
not_same : {before : Elem → Elem → Bool} → IsStrictOrder before → (a b : Elem) → before a b ≡ true → same a b ≡ false
not_same {before} o a b h = by (same a b) refl
  where
    by : (s : Bool) → same a b ≡ s → s ≡ false
    by true e = let f = ap (before a) ((same-Decides a b).0 e) in let g = o.irreflexive a in cc
    by false e = refl

module _ {V : Type 0} where
  -- a new row last
  abbrev pub inserted_last : List (Elem × V) → Elem → V → List (Elem × V)
  inserted_last rows k v = rows ++ (k, v) ∷ []

  -- v at k in one pass: in the place of the row of its key, else before the first row that it precedes, else last
  abbrev set_in : (Elem → Elem → Bool) → List (Elem × V) → Elem → V → List (Elem × V)
  set_in before [] k v = (k, v) ∷ []
  set_in before (row ∷ rows) k v = cond (same k row.0) ((k, v) ∷ rows) (cond (before k row.0) ((k, v) ∷ row ∷ rows) (row ∷ set_in before rows k v))

  behind : (b : Bool) (row : Elem × V) (xs ys : List (Elem × V)) → cond b (row ∷ xs) (row ∷ ys) ≡ row ∷ cond b xs ys
  behind true row xs ys = refl
  behind false row xs ys = refl

  same_key : (k : Elem) (row : Elem × V) (v : V) (rows : List (Elem × V)) → same k row.0 ≡ true → (row.0, v) ∷ rows ≡ (k, v) ∷ rows
  same_key k row v rows e = ap (λ (x : Elem). (x, v) ∷ rows) (sym ((same-Decides k row.0).0 e))

  last-set : (rows : List (Elem × V)) (k : Elem) (v : V) → with_row inserted_last rows k v ≡ set_in never rows k v
  last-set [] k v = refl
  last-set (row ∷ rows) k v = by (same k row.0) refl (last-set rows k v)
    where
      by : (s : Bool) → same k row.0 ≡ s → with_row inserted_last rows k v ≡ set_in never rows k v
          → cond (is_some (cond s (Some row.1) (value_at rows k))) (cond s ((row.0, v) ∷ rows) (row ∷ with_value rows k v)) (row ∷ (rows ++ (k, v) ∷ [])) ≡ cond s ((k, v) ∷ rows) (row ∷ set_in never rows k v)
      by true e ih = same_key k row v rows e
      by false e ih = behind (is_some (value_at rows k)) row (with_value rows k v) (rows ++ (k, v) ∷ []) ∙ ap (λ (rest : List (Elem × V)). row ∷ rest) ih

  -- ---- rows in an order
  module _ {before : Elem → Elem → Bool} (o : IsStrictOrder before) where
    further : (a b : Elem) (rows : List (Elem × V)) → before a b ≡ true → ComesFirst before b rows → ComesFirst before a rows
    further a b [] h f = tt
    further a b (row ∷ rows) h f = (o.transitive a b row.0 h f.0, further a b rows h f.1)

    absent : (k : Elem) (rows : List (Elem × V)) → ComesFirst before k rows → value_at rows k ≡ None
    absent k [] f = refl
    absent k (row ∷ rows) f = ap (λ b. cond b (Some row.1) (value_at rows k)) (not_same o k row.0 f.0) ∙ absent k rows f.1

    sorted-set : (rows : List (Elem × V)) (k : Elem) (v : V) → IsInOrder before rows → with_row (inserted_before before) rows k v ≡ set_in before rows k v
    sorted-set [] k v s = refl
    sorted-set (row ∷ rows) k v s = by (same k row.0) refl (before k row.0) refl (sorted-set rows k v s.1)
      where
        by : (b : Bool) → same k row.0 ≡ b → (t : Bool) → before k row.0 ≡ t → with_row (inserted_before before) rows k v ≡ set_in before rows k v
            → cond (is_some (cond b (Some row.1) (value_at rows k))) (cond b ((row.0, v) ∷ rows) (row ∷ with_value rows k v)) (cond t ((k, v) ∷ row ∷ rows) (row ∷ inserted_before before rows k v))
            ≡ cond b ((k, v) ∷ rows) (cond t ((k, v) ∷ row ∷ rows) (row ∷ set_in before rows k v))
        by true e t f ih = same_key k row v rows e
        by false e true f ih = ap (λ (x : Option V). cond (is_some x) (row ∷ with_value rows k v) ((k, v) ∷ row ∷ rows)) (absent k rows (further k row.0 rows f s.0))
        by false e false f ih = behind (is_some (value_at rows k)) row (with_value rows k v) (inserted_before before rows k v) ∙ ap (λ (rest : List (Elem × V)). row ∷ rest) ih

    comes : (a k : Elem) (v : V) (rows : List (Elem × V)) → before a k ≡ true → ComesFirst before a rows → ComesFirst before a (set_in before rows k v)
    comes a k v [] h f = (h, tt)
    comes a k v (row ∷ rows) h f = by (same k row.0) (before k row.0) (comes a k v rows h f.1)
      where
        by : (b t : Bool) → ComesFirst before a (set_in before rows k v) → ComesFirst before a (cond b ((k, v) ∷ rows) (cond t ((k, v) ∷ row ∷ rows) (row ∷ set_in before rows k v)))
        by true t rest = (h, f.1)
        by false true rest = (h, f)
        by false false rest = (f.0, rest)

    in_order : (k : Elem) (v : V) (rows : List (Elem × V)) → IsInOrder before rows → IsInOrder before (set_in before rows k v)
    in_order k v [] s = (tt, tt)
    in_order k v (row ∷ rows) s = by (same k row.0) refl (before k row.0) refl (in_order k v rows s.1)
      where
        by : (b : Bool) → same k row.0 ≡ b → (t : Bool) → before k row.0 ≡ t → IsInOrder before (set_in before rows k v) → IsInOrder before (cond b ((k, v) ∷ rows) (cond t ((k, v) ∷ row ∷ rows) (row ∷ set_in before rows k v)))
        by true e t f rest = (subst (λ (x : Elem). ComesFirst before x rows) (sym ((same-Decides k row.0).0 e)) s.0, s.1)
        by false e true f rest = ((f, further k row.0 rows f s.0), s)
        by false e false f rest =
            let above : before row.0 k ≡ true = o.exactly_one row.0 k (λ q. (let g = (same-Decides k row.0).1 (sym q) in cc)) ∙ ap not f in
            (comes row.0 k v rows above s.0, rest)

  -- a kind whose rows are made of keys and values, and stand by their keys in an order
  pub record Reads (kind : Kind) (row_of : Elem → V → Item) (value_in : Item → V) (before : Elem → Elem → Bool) : Type 0 where
    pub keyed : (new old : Elem × V) → replaces kind (row_of new.0 new.1) (row_of old.0 old.1) ≡ same new.0 old.0
    pub settles : (new old : Elem × V) → settled (row_of new.0 new.1) (row_of old.0 old.1) ≡ row_of new.0 new.1
    pub sorted : (new old : Elem × V) → same new.0 old.0 ≡ false → precedes kind (row_of new.0 new.1) (row_of old.0 old.1) ≡ before new.0 old.0
    pub alone : (new old : Item) (others : List Item) → follows kind new old others ≡ false
    pub made : (item : Item) → IsRowOf kind item → row_of (key_of item) (value_in item) ≡ item

  module _ {kind : Kind} {row_of : Elem → V → Item} {value_in : Item → V} {before : Elem → Elem → Bool} (r : Reads kind row_of value_in before) where
    -- a row is in the place of that of its key, else before the first that it precedes, else behind
    placed-step : (row : Elem × V) (rows : List Item) (k : Elem) (v : V)
        → placed kind (row_of row.0 row.1 ∷ rows) (row_of k v) ≡ cond (same k row.0) (row_of k v ∷ rows) (cond (before k row.0) (row_of k v ∷ row_of row.0 row.1 ∷ rows) (row_of row.0 row.1 ∷ placed kind rows (row_of k v)))
    placed-step row rows k v =
        let new : Item = row_of k v in
        let old : Item = row_of row.0 row.1 in
        ap (λ b. cond b (settled new old ∷ rows) (cond (precedes kind new old) (new ∷ old ∷ rows) (cond (follows kind new old rows) (old ∷ new ∷ rows) (old ∷ placed kind rows new)))) (r.keyed (k, v) row)
        ∙ by (same k row.0) refl
      where
        by : (b : Bool) → same k row.0 ≡ b
            → cond b (settled (row_of k v) (row_of row.0 row.1) ∷ rows) (cond (precedes kind (row_of k v) (row_of row.0 row.1)) (row_of k v ∷ row_of row.0 row.1 ∷ rows) (cond (follows kind (row_of k v) (row_of row.0 row.1) rows) (row_of row.0 row.1 ∷ row_of k v ∷ rows) (row_of row.0 row.1 ∷ placed kind rows (row_of k v))))
            ≡ cond b (row_of k v ∷ rows) (cond (before k row.0) (row_of k v ∷ row_of row.0 row.1 ∷ rows) (row_of row.0 row.1 ∷ placed kind rows (row_of k v)))
        by true e = ap (λ (item : Item). item ∷ rows) (r.settles (k, v) row)
        by false e =
            λ i. cond (r.sorted (k, v) row e i) (row_of k v ∷ row_of row.0 row.1 ∷ rows) (cond (r.alone (row_of k v) (row_of row.0 row.1) rows i) (row_of row.0 row.1 ∷ row_of k v ∷ rows) (row_of row.0 row.1 ∷ placed kind rows (row_of k v)))

    set-placed : (rows : List (Elem × V)) (k : Elem) (v : V) → items_by row_of (set_in before rows k v) ≡ placed kind (items_by row_of rows) (row_of k v)
    set-placed [] k v = refl
    set-placed (row ∷ rows) k v = by (same k row.0) (before k row.0) (set-placed rows k v) ∙ sym (placed-step row (items_by row_of rows) k v)
      where
        by : (b t : Bool) → items_by row_of (set_in before rows k v) ≡ placed kind (items_by row_of rows) (row_of k v)
            → items_by row_of (cond b ((k, v) ∷ rows) (cond t ((k, v) ∷ row ∷ rows) (row ∷ set_in before rows k v)))
            ≡ cond b (row_of k v ∷ items_by row_of rows) (cond t (row_of k v ∷ row_of row.0 row.1 ∷ items_by row_of rows) (row_of row.0 row.1 ∷ placed kind (items_by row_of rows) (row_of k v)))
        by true t ih = refl
        by false true ih = refl
        by false false ih = ap (λ (rest : List Item). row_of row.0 row.1 ∷ rest) ih

    item-placed : (rows : List (Elem × V)) (item : Item) → IsRowOf kind item → items_by row_of (set_in before rows (key_of item) (value_in item)) ≡ placed kind (items_by row_of rows) item
    item-placed rows item fits = set-placed rows (key_of item) (value_in item) ∙ ap (placed kind (items_by row_of rows)) (r.made item fits)

    pub sorted_row : IsStrictOrder before → (rows : List (Elem × V)) (item : Item) → IsInOrder before rows → IsRowOf kind item
        → items_by row_of (with_item (inserted_before before) value_in rows item) ≡ placed kind (items_by row_of rows) item
    sorted_row o rows item s fits = ap (items_by row_of) (sorted-set o rows (key_of item) (value_in item) s) ∙ item-placed rows item fits

    pub sorted_rows : IsStrictOrder before → (rows : List (Elem × V)) (added : List Item) → IsInOrder before rows → AreRowsOf kind added
        → items_by row_of (fold (with_item (inserted_before before) value_in) rows added) ≡ placed_all kind (items_by row_of rows) (coming Own added)
    sorted_rows o rows [] s fits = refl
    sorted_rows o rows (item ∷ added) s fits =
        let next : List (Elem × V) = with_item (inserted_before before) value_in rows item in
        let order : IsInOrder before next = subst (IsInOrder before) (sym (sorted-set o rows (key_of item) (value_in item) s)) (in_order o (key_of item) (value_in item) rows s) in
        sorted_rows o next added order fits.1 ∙ ap (λ (now : List Item). placed_all kind now (coming Own added)) (sorted_row o rows item s fits.0)

  module _ {kind : Kind} {row_of : Elem → V → Item} {value_in : Item → V} (r : Reads kind row_of value_in never) where
    pub linked_row : (rows : List (Elem × V)) (item : Item) → IsRowOf kind item → items_by row_of (with_item inserted_last value_in rows item) ≡ placed kind (items_by row_of rows) item
    linked_row rows item fits = ap (items_by row_of) (last-set rows (key_of item) (value_in item)) ∙ item-placed r rows item fits

    pub linked_rows : (rows : List (Elem × V)) (added : List Item) → AreRowsOf kind added → items_by row_of (fold (with_item inserted_last value_in) rows added) ≡ placed_all kind (items_by row_of rows) (coming Own added)
    linked_rows rows [] fits = refl
    linked_rows rows (item ∷ added) fits =
        linked_rows (with_item inserted_last value_in rows item) added fits.1 ∙ ap (λ (now : List Item). placed_all kind now (coming Own added)) (linked_row rows item fits.0)

-- a set and a map have no spots by number, nor by value
pub own_spot : (kind : Kind) (size : ℕ) (spot : Spot) → is_keyed (shape_of_kind kind) ≡ true → is_bimap (shape_of_kind kind) ≡ false → IsSpotIn kind size spot → placed_at kind spot ≡ placed kind
own_spot kind size Own keyed other is = refl
own_spot kind size Swapped keyed other is = let f = sym other ∙ is in absurd (cc)
own_spot kind size (InKey i) keyed other is = absurd is
own_spot kind size (Before i) keyed other is = let f = is.0 in absurd (cc)
own_spot kind size (Instead i) keyed other is = let f = is.0 in absurd (cc)

-- rows that come to one spot come there one after another
pub one_by_one : (kind : Kind) (spot : Spot) (rows added : List Item) → placed_all kind rows (coming spot added) ≡ fold (placed_at kind spot) rows added
one_by_one kind spot rows [] = refl
one_by_one kind spot rows (item ∷ added) = one_by_one kind spot (placed_at kind spot rows item) added

-- ---- the types of the bases

pub on_ok : {A E : Type 0} {P Q : Type 0} (r : Result A E) → (P → Q) → OnOk r P → OnOk r Q
on_ok (Ok x) f p = f p
on_ok (Err e) f p = tt

pub both_ok : {A E : Type 0} {P Q R : Type 0} (r : Result A E) → (P → Q → R) → OnOk r P → OnOk r Q → OnOk r R
both_ok (Ok x) f p q = f p q
both_ok (Err e) f p q = tt

pub ok_holds : {A E : Type 0} {P : Type 0} (r : Result A E) → is_err r ≡ false → OnOk r P → P
ok_holds (Ok x) e p = p
ok_holds (Err why) e p = absurd (cc)

pub err_holds : {A E : Type 0} {P : Type 0} (r : Result A E) → is_err r ≡ true → OnErr r P → P
err_holds (Ok x) e p = absurd (cc)
err_holds (Err why) e p = p

set_made : (sorted : Bool) (item : Item) → IsRowIn (shape.Set sorted) item → One (key_of item) ≡ item
set_made sorted (One x) fits = refl
set_made sorted _ fits = absurd fits

pub list_made : (item : Item) → IsRowIn shape.List item → One (key_of item) ≡ item
list_made (One x) fits = refl
list_made _ fits = absurd fits

map_made : (sorted : Bool) (item : Item) → IsRowIn (shape.Map sorted) item → Entry (key_of item) (value_of item) ≡ item
map_made sorted (Entry x v) fits = refl
map_made sorted _ fits = absurd fits

-- where the keys differ, what follows them tells nothing
by_keys : (first same second : Bool) → same ≡ false → (first || (same && second)) ≡ first
by_keys true same second e = refl
by_keys false same second e = ap (λ b. b && second) e

abbrev pub ReadsSet : Kind → (Elem → Elem → Bool) → Type 0
ReadsSet k before = Reads {V = Unit {0}} k (λ x v. One x) (λ item. tt) before

abbrev pub ReadsMap : Kind → (Elem → Elem → Bool) → Type 0
ReadsMap k before = Reads {V = Elem} k Entry value_of before

pub linked_set : ReadsSet kind.LinkedHashSet never
linked_set = record { keyed = λ new old. refl; settles = λ new old. refl; sorted = λ new old e. refl; alone = λ new old others. refl; made = set_made false }

pub tree_set : ReadsSet kind.TreeSet natural_before
tree_set = record { keyed = λ new old. refl; settles = λ new old. refl; sorted = λ new old e. by_keys (natural_before new.0 old.0) (same new.0 old.0) (natural_before new.0 old.0) e; alone = λ new old others. refl; made = set_made true }

pub tree_set_reverse : ReadsSet kind.TreeSetReverse reverse_before
tree_set_reverse = record { keyed = λ new old. refl; settles = λ new old. refl; sorted = λ new old e. by_keys (reverse_before new.0 old.0) (same new.0 old.0) (reverse_before new.0 old.0) e; alone = λ new old others. refl; made = set_made true }

pub tree_set_length : ReadsSet kind.TreeSetLength length_before
tree_set_length = record { keyed = λ new old. refl; settles = λ new old. refl; sorted = λ new old e. by_keys (length_before new.0 old.0) (same new.0 old.0) (length_before new.0 old.0) e; alone = λ new old others. refl; made = set_made true }

pub linked_map : ReadsMap kind.LinkedHashMap never
linked_map = record { keyed = λ new old. refl; settles = λ new old. refl; sorted = λ new old e. refl; alone = λ new old others. refl; made = map_made false }

pub tree_map : ReadsMap kind.TreeMap natural_before
tree_map = record { keyed = λ new old. refl; settles = λ new old. refl; sorted = λ new old e. by_keys (natural_before new.0 old.0) (same new.0 old.0) (natural_before new.1 old.1) e; alone = λ new old others. refl; made = map_made true }

pub tree_map_reverse : ReadsMap kind.TreeMapReverse reverse_before
tree_map_reverse = record { keyed = λ new old. refl; settles = λ new old. refl; sorted = λ new old e. by_keys (reverse_before new.0 old.0) (same new.0 old.0) (reverse_before new.1 old.1) e; alone = λ new old others. refl; made = map_made true }

pub tree_map_length : ReadsMap kind.TreeMapLength length_before
tree_map_length = record { keyed = λ new old. refl; settles = λ new old. refl; sorted = λ new old e. by_keys (length_before new.0 old.0) (same new.0 old.0) (length_before new.1 old.1) e; alone = λ new old others. refl; made = map_made true }

-- a base of a kind with these rows
pub record Holds {V : Type 0} (self : BaseRows) (k : Kind) (row_of : Elem → V → Item) (rows : List (Elem × V)) : Type 0 where
  pub kind_is : kind_of self ≡ k
  pub rows_are : rows_of self ≡ items_by row_of rows
  pub by_key : is_keyed (shape_of_kind k) ≡ true
  pub no_bimap : is_bimap (shape_of_kind k) ≡ false

module _ {V : Type 0} {self : BaseRows} {k : Kind} {row_of : Elem → V → Item} {old : List (Elem × V)} (h : Holds self k row_of old) where
  -- the same said of the base
  placed_in : (spot : Spot) (item : Item) (new : List Item) → IsSpotIn (kind_of self) (length (rows_of self)) spot → new ≡ placed k (items_by row_of old) item → new ≡ placed_at (kind_of self) spot (rows_of self) item
  placed_in spot item new is e =
      e ∙ sym (ap (λ (f : List Item → Item → List Item). f (items_by row_of old) item) (own_spot k (length (rows_of self)) spot h.by_key h.no_bimap (subst (λ (j : Kind). IsSpotIn j (length (rows_of self)) spot) h.kind_is is)))
      ∙ (λ i. placed_at (sym h.kind_is i) spot (sym h.rows_are i) item)

  all_placed_in : (spot : Spot) (added new : List Item) → IsSpotIn (kind_of self) (length (rows_of self)) spot → new ≡ placed_all k (items_by row_of old) (coming Own added) → new ≡ placed_all (kind_of self) (rows_of self) (coming spot added)
  all_placed_in spot added new is e =
      e ∙ one_by_one k Own (items_by row_of old) added ∙ sym (ap (λ (f : List Item → Item → List Item). fold f (items_by row_of old) added) (own_spot k (length (rows_of self)) spot h.by_key h.no_bimap (subst (λ (j : Kind). IsSpotIn j (length (rows_of self)) spot) h.kind_is is)))
      ∙ sym (one_by_one k spot (items_by row_of old) added)
      ∙ (λ i. placed_all (sym h.kind_is i) (sym h.rows_are i) (coming spot added))

  fits_kind : (item : Item) → IsRowOf (kind_of self) item → IsRowOf k item
  fits_kind item fits = subst (λ (j : Kind). IsRowOf j item) h.kind_is fits

  fit_kind : (added : List Item) → AreRowsOf (kind_of self) added → AreRowsOf k added
  fit_kind added fits = subst (λ (j : Kind). AreRowsOf j added) h.kind_is fits

  -- what a refusal says of the rows says the same of the base
  pub same_cause : (spot : Spot) (added : List Item) (all : List (Elem × V)) (room : ℕ) (r : Result (Unit {0}) Refusal) → items_by row_of all ≡ placed_all (kind_of self) (rows_of self) (coming spot added)
      → IfErr r (λ why. ((why ≡ refusals.Limit) × (length old + room < length all)) ⊎ (why ≡ refusals.NoMemory))
      → IfErr r (λ why. ((why ≡ refusals.Limit) × (length (rows_of self) + room < length (placed_all (kind_of self) (rows_of self) (coming spot added)))) ⊎ (why ≡ refusals.NoMemory))
  same_cause spot added all room (Ok x) e c = tt
  same_cause spot added all room (Err why) e (inl limit) =
      inl (limit.0, (let n : length (rows_of self) + room < length (placed_all (kind_of self) (rows_of self) (coming spot added)) = omega (arith, limit.1, ap length e, ap length h.rows_are, length-map old (λ (row : Elem × V). row_of row.0 row.1), length-map all (λ (row : Elem × V). row_of row.0 row.1)) in n))
  same_cause spot added all room (Err why) e (inr memory) = inr memory

  module _ {value_in : Item → V} {before : Elem → Elem → Bool} (o : IsStrictOrder before) (r : Reads k row_of value_in before) (s : IsInOrder before old) where
    pub sorted_one : (spot : Spot) (item : Item) (new : List (Elem × V)) → IsRowOf (kind_of self) item → IsSpotIn (kind_of self) (length (rows_of self)) spot → new ≡ with_item (inserted_before before) value_in old item
        → items_by row_of new ≡ placed_at (kind_of self) spot (rows_of self) item
    sorted_one spot item new fits is e = placed_in spot item (items_by row_of new) is (ap (items_by row_of) e ∙ sorted_row r o old item s (fits_kind item fits))

    pub sorted_all : (spot : Spot) (added : List Item) (new : List (Elem × V)) → AreRowsOf (kind_of self) added → IsSpotIn (kind_of self) (length (rows_of self)) spot → new ≡ fold (with_item (inserted_before before) value_in) old added
        → items_by row_of new ≡ placed_all (kind_of self) (rows_of self) (coming spot added)
    sorted_all spot added new fits is e = all_placed_in spot added (items_by row_of new) is (ap (items_by row_of) e ∙ sorted_rows r o old added s (fit_kind added fits))

  module _ {value_in : Item → V} (r : Reads k row_of value_in never) where
    pub linked_one : (spot : Spot) (item : Item) (new : List (Elem × V)) → IsRowOf (kind_of self) item → IsSpotIn (kind_of self) (length (rows_of self)) spot → new ≡ with_item inserted_last value_in old item
        → items_by row_of new ≡ placed_at (kind_of self) spot (rows_of self) item
    linked_one spot item new fits is e = placed_in spot item (items_by row_of new) is (ap (items_by row_of) e ∙ linked_row r old item (fits_kind item fits))

    pub linked_all : (spot : Spot) (added : List Item) (new : List (Elem × V)) → AreRowsOf (kind_of self) added → IsSpotIn (kind_of self) (length (rows_of self)) spot → new ≡ fold (with_item inserted_last value_in) old added
        → items_by row_of new ≡ placed_all (kind_of self) (rows_of self) (coming spot added)
    linked_all spot added new fits is e = all_placed_in spot added (items_by row_of new) is (ap (items_by row_of) e ∙ linked_rows r old added (fit_kind added fits))

-- what a refusal says of the items of a list says the same of the base
pub list_cause : (self : BaseRows) (old : List Elem) → kind_of self ≡ kind.ArrayList → rows_of self ≡ items old → (spot : Spot) (added : List Item) (room : ℕ) (r : Result (Unit {0}) Refusal)
    → IfErr r (λ why. ((why ≡ refusals.Limit) × (length old + room < length (placed_all kind.ArrayList (items old) (coming spot added)))) ⊎ (why ≡ refusals.NoMemory))
    → IfErr r (λ why. ((why ≡ refusals.Limit) × (length (rows_of self) + room < length (placed_all (kind_of self) (rows_of self) (coming spot added)))) ⊎ (why ≡ refusals.NoMemory))
list_cause self old kind_is rows_are spot added room (Ok x) c = tt
list_cause self old kind_is rows_are spot added room (Err why) (inl limit) =
    let same : placed_all kind.ArrayList (items old) (coming spot added) ≡ placed_all (kind_of self) (rows_of self) (coming spot added) = λ i. placed_all (sym kind_is i) (sym rows_are i) (coming spot added) in
    inl (limit.0, (let n : length (rows_of self) + room < length (placed_all (kind_of self) (rows_of self) (coming spot added)) = omega (arith, limit.1, ap length same, ap length rows_are, length-map old One) in n))
list_cause self old kind_is rows_are spot added room (Err why) (inr memory) = inr memory
