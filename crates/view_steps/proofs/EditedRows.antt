-- The rows that an edit leaves, and how many they are.
use Rattle.std.proofs.Common.{◌≡◌, ℕ, ◌+◌, ◌≤◌, Bool, true, false, cond, ◌&&◌, ◌||◌, List, [], ◌∷◌, length, refl, ap, ◌∙◌, arith, ◌<◌, suc, inl, inr, ◌⊎◌, ◌≢◌, zero, nat_eq, sym}
use Rattle.std.specs.Prelude.{nat_lt, slice_set}
use Rattle.std.specs.Cmp.Lexicographic.{pointwise}
use Rattle.std.specs.List.{remove}
use Rattle.std.proofs.lemmas.Bool.Decides.{nat_tests}
use Rattle.elem.specs.declared.spans.Span.{Span}
use Rattle.elem.specs.CutLaws.{same_cut_equiv}
use Rattle.elem.specs.ElementLaws.{same_equiv}
use Rattle.vocabulary.specs.declared.edits.Spot.{Spot}
use Rattle.vocabulary.specs.declared.items.Item.{Item}
use Rattle.vocabulary.specs.declared.items.Item.TheVariants.{One, Entry, Counted, Cell, Group, Piece, Range, RangeEntry, Pair, Edge}
use Rattle.vocabulary.specs.declared.kinds.Kind.{Kind}
use Rattle.vocabulary.specs.declared.refusals.Refusal.{Refusal}
use Rattle.vocabulary.specs.declared.refusals.Refusal.TheVariants.{Limit, NoMemory}
use Rattle.machine.specs.Edits.{adding, coming, removing, edited, goes, is_structural, placed_all, with_rows, without_rows, Edit}
use Rattle.machine.specs.Bases.{Base, World, base_at}
use Rattle.machine.specs.RowCounts.{rows_in}
use Rattle.vocabulary.specs.Items.{same_item, same_span}
use Rattle.vocabulary.specs.Kinds.{shape_of_kind}
use Rattle.vocabulary.specs.Limits.{most_rows}
use Rattle.vocabulary.specs.Known.{is_known_kind}
use Rattle.vocabulary.specs.Shapes.{is_bimap}
use Rattle.view_steps.specs.KnownViews.{edited_at}
use Rattle.view_steps.proofs.CountLemmas.{rows_in-written}
use Rattle.view_steps.proofs.KindTable.{no_keys}
use Rattle.view_steps.proofs.ListLemmas.{or-false}

pub without_none : (n : ℕ) (rows : List Item) → without_rows [] n rows ≡ rows
without_none n [] = refl
without_none n (row ∷ rows) = ap (λ rs. row ∷ rs) (without_none (n + 1) rows)

pub not_less : (n : ℕ) → nat_lt n n ≡ false
not_less n = grind (arith, nat_tests)

number_itself : (n : ℕ) → nat_eq n n ≡ true
number_itself n = grind (arith, nat_tests)

span_itself : (s : Span) → same_span s s ≡ true
span_itself s = rw (same_cut_equiv.refl s.lo, same_cut_equiv.refl s.hi) refl

-- a base of a known kind keeps no keys
pub edited_rows : (it : Base) → is_known_kind it.kind ≡ true → (edit : Edit) → (left after : List Item) → without_rows edit.gone 0 it.rows ≡ left → placed_all it.kind left edit.added ≡ after
    → edited it edit ≡ with_rows it after it.keys (is_structural it.kind it.rows left after)
edited_rows it known edit left after left_is after_is = rw (left_is, after_is, no_keys it.kind known) refl

-- what is not a bimap changes where rows went or came
pub plain_change : (kind : Kind) → is_bimap (shape_of_kind kind) ≡ false → (rows left after : List Item) → is_structural kind rows left after ≡ (nat_lt (length left) (length rows) || nat_lt (length left) (length after))
plain_change kind one rows left after = rw one (or-false (nat_lt (length left) (length rows) || nat_lt (length left) (length after)))

pub edited_counted : (it : Base) → is_known_kind it.kind ≡ true → is_bimap (shape_of_kind it.kind) ≡ false → (edit : Edit) → (left after : List Item) → without_rows edit.gone 0 it.rows ≡ left → placed_all it.kind left edit.added ≡ after
    → edited it edit ≡ with_rows it after it.keys (nat_lt (length left) (length it.rows) || nat_lt (length left) (length after))
edited_counted it known one edit left after left_is after_is = edited_rows it known edit left after left_is after_is ∙ ap (with_rows it after it.keys) (plain_change it.kind one it.rows left after)

-- rows that come
pub edited_adding : (it : Base) → is_known_kind it.kind ≡ true → (spot : Spot) (rows : List Item)
    → edited it (adding spot rows) ≡ with_rows it (placed_all it.kind it.rows (coming spot rows)) it.keys (is_structural it.kind it.rows it.rows (placed_all it.kind it.rows (coming spot rows)))
edited_adding it known spot rows = edited_rows it known (adding spot rows) it.rows (placed_all it.kind it.rows (coming spot rows)) (without_none 0 it.rows) refl

pub adding_counted : (it : Base) → is_known_kind it.kind ≡ true → is_bimap (shape_of_kind it.kind) ≡ false → (spot : Spot) (rows : List Item)
    → edited it (adding spot rows) ≡ with_rows it (placed_all it.kind it.rows (coming spot rows)) it.keys (nat_lt (length it.rows) (length (placed_all it.kind it.rows (coming spot rows))))
adding_counted it known one spot rows =
    let after : List Item = placed_all it.kind it.rows (coming spot rows) in
    edited_counted it known one (adding spot rows) it.rows after (without_none 0 it.rows) refl
    ∙ ap (λ (t : Bool). with_rows it after it.keys (t || nat_lt (length it.rows) (length after))) (not_less (length it.rows))

-- ---- rows that go

pub item_itself : (item : Item) → same_item item item ≡ true
item_itself (One x) = same_equiv.refl x
item_itself (Entry k v) = rw (same_equiv.refl k, same_equiv.refl v) refl
item_itself (Counted x n) = rw (same_equiv.refl x, number_itself n) refl
item_itself (Cell r c v) = rw (same_equiv.refl r, same_equiv.refl c, same_equiv.refl v) refl
item_itself (Group k) = same_equiv.refl k
item_itself (Piece i) = number_itself i
item_itself (Range s) = span_itself s
item_itself (RangeEntry s v) = rw (span_itself s, same_equiv.refl v) refl
item_itself (Pair a b) = rw (same_equiv.refl a, same_equiv.refl b) refl
item_itself (Edge a b v) = rw (same_equiv.refl a, same_equiv.refl b, same_equiv.refl v) refl

rows_themselves : (rows : List Item) → pointwise same_item rows rows ≡ true
rows_themselves [] = refl
rows_themselves (row ∷ rows) = rw (item_itself row, rows_themselves rows) refl

-- what stays, stays as it is
pub none_came : (kind : Kind) (rows left : List Item) → is_structural kind rows left left ≡ nat_lt (length left) (length rows)
none_came kind rows left =
    rw (not_less (length left), rows_themselves left) (by (nat_lt (length left) (length rows)) (is_bimap (shape_of_kind kind)))
  where
    by : (less bimap : Bool) → ((less || false) || (bimap && false)) ≡ less
    by true bimap = refl
    by false true = refl
    by false false = refl

pub edited_removing : (it : Base) → is_known_kind it.kind ≡ true → (gone : List ℕ) → edited it (removing gone) ≡ with_rows it (without_rows gone 0 it.rows) it.keys (nat_lt (length (without_rows gone 0 it.rows)) (length it.rows))
edited_removing it known gone =
    let left : List Item = without_rows gone 0 it.rows in
    edited_rows it known (removing gone) left left refl refl ∙ ap (with_rows it left it.keys) (none_came it.kind it.rows left)

pub without_few : (gone : List ℕ) (n : ℕ) (rows : List Item) → length (without_rows gone n rows) ≤ length rows
without_few gone n [] = omega arith
without_few gone n (row ∷ rows) =
    let rest : length (without_rows gone (n + 1) rows) ≤ length rows = without_few gone (n + 1) rows in
    elim (goes gone n) as (λ b. length (cond b (without_rows gone (n + 1) rows) (row ∷ without_rows gone (n + 1) rows)) ≤ length (row ∷ rows)) [
      | true ↦ omega arith
      | false ↦ omega arith
    ]

-- more rows than there is room for are too many
rows_too_many : (world : World) (b room : ℕ) (edit : Edit) → is_known_kind (base_at world b).kind ≡ true → b < length world → room + rows_in world ≡ most_rows → length (base_at world b).rows + room < length (edited (base_at world b) edit).rows → most_rows < rows_in (edited_at world b edit)
rows_too_many world b room edit known lt left more =
    omega (arith, rows_in-written world b (edited (base_at world b) edit) lt known known, left, more)

pub limit_cause : (world : World) (b : ℕ) → is_known_kind (base_at world b).kind ≡ true → (room : ℕ) (edit : Edit) (why : Refusal) → b < length world → room + rows_in world ≡ most_rows
    → ((why ≡ Limit) × (length (base_at world b).rows + room < length (edited (base_at world b) edit).rows)) ⊎ (why ≡ NoMemory)
    → ((why ≡ Limit) × (most_rows < rows_in (edited_at world b edit))) ⊎ (why ≡ NoMemory)
limit_cause world b known room edit why lt left (inl more) = inl (more.0, rows_too_many world b room edit known lt left more.1)
limit_cause world b known room edit why lt left (inr none) = inr none

-- where rows only go, there is room for those that stay
pub removed_fits : (rows : ℕ) (it : Base) (gone : List ℕ) → rows ≤ most_rows → rows + length (edited it (removing gone)).rows ≤ most_rows + length it.rows
removed_fits rows it gone few = omega (arith, without_few gone 0 it.rows, few)

-- ---- one row goes

nat_other : (a b : ℕ) → a ≢ b → nat_eq a b ≡ false
nat_other a b h = grind (arith, nat_tests)

nat_same : (a b : ℕ) → a ≡ b → nat_eq a b ≡ true
nat_same a b h = grind (arith, nat_tests)

stays : (g n : ℕ) → g ≢ n → goes (g ∷ []) n ≡ false
stays g n h = ap (λ b. b || false) (nat_other g n h)

leaves : (g n : ℕ) → g ≡ n → goes (g ∷ []) n ≡ true
leaves g n h = ap (λ b. b || false) (nat_same g n h)

passed : (g n : ℕ) (rows : List Item) → g < n → without_rows (g ∷ []) n rows ≡ rows
passed g n [] h = refl
passed g n (row ∷ rows) h =
    let other : g ≢ n = λ e. omega arith in
    ap (λ b. cond b (without_rows (g ∷ []) (n + 1) rows) (row ∷ without_rows (g ∷ []) (n + 1) rows)) (stays g n other)
    ∙ ap (λ (rest : List Item). row ∷ rest) (passed g (n + 1) rows (omega arith))

without_one : (rows : List Item) (i n g : ℕ) → g ≡ n + i → without_rows (g ∷ []) n rows ≡ remove rows i
without_one [] zero n g e = refl
without_one [] (suc i) n g e = refl
without_one (row ∷ rows) zero n g e =
    ap (λ b. cond b (without_rows (g ∷ []) (n + 1) rows) (row ∷ without_rows (g ∷ []) (n + 1) rows)) (leaves g n (omega arith))
    ∙ passed g (n + 1) rows (omega arith)
without_one (row ∷ rows) (suc i) n g e =
    let other : g ≢ n = λ q. omega arith in
    ap (λ b. cond b (without_rows (g ∷ []) (n + 1) rows) (row ∷ without_rows (g ∷ []) (n + 1) rows)) (stays g n other)
    ∙ ap (λ (rest : List Item). row ∷ rest) (without_one rows i (n + 1) g (omega arith))

pub without_numbers : (rows : List Item) (i : ℕ) (numbers : List ℕ) → numbers ≡ i ∷ [] → remove rows i ≡ without_rows numbers 0 rows
without_numbers rows i numbers e = sym (ap (λ ns. without_rows ns 0 rows) e ∙ without_one rows i 0 i (omega arith))

-- ---- no row goes

at_change : Base → ℕ → Base
at_change it n = record { kind = it.kind; rows = it.rows; keys = it.keys; change = n; frozen = it.frozen }

same_change : (it : Base) → with_rows it it.rows it.keys false ≡ it
unfolding at_change
same_change it = let e : it.change + 0 ≡ it.change = omega arith in ap (at_change it) e

none_edited : (it : Base) → is_known_kind it.kind ≡ true → edited it (removing []) ≡ it
none_edited it known =
    edited_removing it known []
    ∙ ap (λ (rows : List Item). with_rows it rows it.keys (nat_lt (length rows) (length it.rows))) (without_none 0 it.rows)
    ∙ ap (λ b. with_rows it it.rows it.keys b) (not_less (length it.rows)) ∙ same_change it

set_base : (world : World) (b : ℕ) → slice_set world b (base_at world b) ≡ world
set_base [] b = refl
set_base (it ∷ world) zero = refl
set_base (it ∷ world) (suc b) = ap (λ w. it ∷ w) (set_base world b)

pub nothing_gone : (world : World) (b : ℕ) → is_known_kind (base_at world b).kind ≡ true → edited_at world b (removing []) ≡ world
nothing_gone world b known = ap (slice_set world b) (none_edited (base_at world b) known) ∙ set_base world b
