-- The spots to which the rows of known calls come are for the kind of the base.
use Rattle.std.proofs.Common.{◌≡◌, ℕ, ◌+◌, ◌-◌, ◌<◌, Bool, true, false, cond, List, [], ◌∷◌, length, Option, None, Some, Result, IfSome, refl, sym, ap, ◌∙◌, subst}
use Rattle.std.specs.List.{AllByRecursion}
use Rattle.base_store.specs.Stored.{Stored}
use Rattle.cursor_seat.specs.Later.{IsSpotFor}
use Rattle.machine.specs.Answering.{answered, answered_with}
use Rattle.machine.specs.Answers.{answer_of, answer_with}
use Rattle.machine.specs.Bases.{Base, World, base_at}
use Rattle.machine.specs.CallEdits.{at_end_from, edit_of, edit_with, rows_for, seen_at}
use Rattle.machine.specs.Candidates.{Candidate}
use Rattle.machine.specs.Edits.{Coming, coming}
use Rattle.machine.specs.Spots.{end_spot, gap, is_swapped, own_spot, place_of}
use Rattle.machine.specs.Views.{View, base, both, candidates, over, shape_at, shown}
use Rattle.read_chain.proofs.ListViewLemmas.{list_base}
use Rattle.session.specs.Later.{AreLater}
use Rattle.session.proofs.LaterLemmas.{SpotsFit, came_later}
use Rattle.view_steps.specs.KnownViews.{is_known_view, number_under}
use Rattle.view_steps.proofs.KnownLemmas.{known_base, known_over}
use Rattle.view_steps.proofs.KnownShapes.{list_unkeyed}
use Rattle.view_steps.proofs.UniqueParts.{swapped_bimap}
use Rattle.vocabulary.specs.declared.answers.Answer.{Answer}
use Rattle.vocabulary.specs.declared.calls.Ask.TheVariants.{Clear}
use Rattle.vocabulary.specs.declared.calls.Call.{Call}
use Rattle.vocabulary.specs.declared.calls.Call.TheVariants as call
use Rattle.vocabulary.specs.declared.calls.OnElement.TheVariants.{Add, AddNode}
use Rattle.vocabulary.specs.declared.calls.OnIndex.TheVariants.{RemoveAt}
use Rattle.vocabulary.specs.declared.calls.OnIndexed.TheVariants.{AddAt, SetAt}
use Rattle.vocabulary.specs.declared.calls.OnOther.{OnOther}
use Rattle.vocabulary.specs.declared.calls.OnOther.TheVariants.{AddAll, PutAll}
use Rattle.vocabulary.specs.declared.calls.OnPair.TheVariants.{ContainsEntry, ForcePut, Put, RemoveEntry}
use Rattle.vocabulary.specs.declared.edits.Spot.{Spot}
use Rattle.vocabulary.specs.declared.edits.Spot.TheVariants.{Own, Swapped}
use Rattle.vocabulary.specs.declared.items.Item.{Item}
use Rattle.vocabulary.specs.declared.items.Item.TheVariants.{One, Entry}
use Rattle.vocabulary.specs.declared.kinds.Kind.{Kind}
use Rattle.vocabulary.specs.declared.refusals.Refusal.{Refusal}
use Rattle.vocabulary.specs.declared.steps.PlainStep.TheVariants.{Reverse}
use Rattle.vocabulary.specs.declared.steps.Step.TheVariants.{At, Piece, Plain, Sub}
use Rattle.vocabulary.specs.Fits.{fits}
use Rattle.vocabulary.specs.Kinds.{shape_of_kind}
use Rattle.vocabulary.specs.Known.{form_of_call, is_known_call, is_known_other}
use Rattle.vocabulary.specs.Shapes.{is_bimap, is_keyed, is_list}
use Rattle.write_chain.specs.Calls.{Came, known_refusal, known_refusal_with}
use Rattle.write_chain.proofs.KnownCalls.{Stands, known_answer, known_answer_with}

-- ---- spots

-- rows that come to a spot for their kind
rows_fit : (kind : Kind) (spot : Spot) (rows : List Item) → ((row : Item) → IsSpotFor kind (spot, row)) → AllByRecursion (IsSpotFor kind) (coming spot rows)
rows_fit kind spot [] fits = tt
rows_fit kind spot (row ∷ rows) fits = (fits row, rows_fit kind spot rows fits)

own_fits : (kind : Kind) (rows : List Item) → AllByRecursion (IsSpotFor kind) (coming Own rows)
own_fits kind rows = rows_fit kind Own rows (λ row. tt)

-- a gap of a known view is before a row of its base
gap_fits : (kind : Kind) (world : World) (v : View) (j i : ℕ) (row : Item) → is_known_view v ≡ true → IsSpotFor kind (gap world v j i, row)
gap_fits kind world (base l) j i row known = tt
gap_fits kind world (over (Plain Reverse) v) j i row known = gap_fits kind world v j (length (shown world v) + j - i) row (known_over (Plain Reverse) v known).1
gap_fits kind world (over (Sub n s) v) j i row known = absurd (cc)
gap_fits kind world (over (Piece n s) v) j i row known = absurd (cc)
gap_fits kind world (over (At side k n) v) j i row known = absurd (cc)
gap_fits kind world (over it v) j i row known = gap_fits kind world v j i row (known_over it v known).1
gap_fits kind world (both word v u) j i row known = tt

-- the end of one is that, or where a row goes by itself
end_fits : (kind : Kind) (world : World) (v : View) (j : ℕ) (row : Item) → is_known_view v ≡ true → IsSpotFor kind (end_spot world v j, row)
end_fits kind world (base l) j row known = tt
end_fits kind world (over (Plain Reverse) v) j row known = gap_fits kind world v j 0 row (known_over (Plain Reverse) v known).1
end_fits kind world (over (Sub n s) v) j row known = absurd (cc)
end_fits kind world (over (Piece n s) v) j row known = absurd (cc)
end_fits kind world (over it v) j row known = end_fits kind world v j row (known_over it v known).1
end_fits kind world (both word v u) j row known = tt

last_fit : (kind : Kind) (world : World) (v : View) (j : ℕ) (rows : List Item) → is_known_view v ≡ true → AllByRecursion (IsSpotFor kind) (at_end_from world v j rows)
last_fit kind world v j [] known = tt
last_fit kind world v j (row ∷ rows) known = (end_fits kind world v j row known, last_fit kind world v (j + 1) rows known)

-- only in a bimap a row goes by its value
spot_by : (kind : Kind) (b : Bool) (row : Item) → (b ≡ true → is_bimap (shape_of_kind kind) ≡ true) → IsSpotFor kind (cond b Swapped Own, row)
spot_by kind true row bimap = bimap refl
spot_by kind false row bimap = tt

-- only in a list it takes the place of another by number
place_fits : (kind : Kind) (o : Option Candidate) (row : Item) → is_keyed (shape_of_kind kind) ≡ false → IsSpotFor kind (place_of o, row)
place_fits kind None row list = tt
place_fits kind (Some c) row list = list

module _ (world : World) (v : View) (it : Stands world v) where
  abbrev kind : Kind
  kind = (base_at world (number_under v)).kind

  own_spot_fits : (row : Item) → IsSpotFor kind (own_spot v, row)
  own_spot_fits row = spot_by kind (is_swapped v) row (swapped_bimap world v it.known it.kind it.made)

  unkeyed : is_list (shape_at world v) ≡ true → is_keyed (shape_of_kind kind) ≡ false
  unkeyed list = ap (λ (b : Base). is_keyed (shape_of_kind b.kind)) (sym (known_base world v it.known)) ∙ list_unkeyed _ (list_base world v it.known it.made list)

  -- ---- calls

  call_spots : (c : Call) → is_known_call (form_of_call c) ≡ true → fits (shape_at world v) c ≡ true → IfSome (edit_of world v c) (SpotsFit world (number_under v))
  call_spots (call.Ask Clear) known had = tt
  call_spots (call.Ask _) known had = tt
  call_spots (call.Element Add x) known had = last_fit kind world v 0 (rows_for v (One x ∷ [])) it.known
  call_spots (call.Element AddNode x) known had = (tt, tt)
  call_spots (call.Element _ x) known had = tt
  call_spots (call.Index RemoveAt (Some i)) known had = tt
  call_spots (call.Index RemoveAt None) known had = tt
  call_spots (call.Index _ i) known had = tt
  call_spots (call.Indexed AddAt (Some i) x) known had = rows_fit kind (gap world v 0 i) (rows_for v (One x ∷ [])) (λ row. gap_fits kind world v 0 i row it.known)
  call_spots (call.Indexed SetAt (Some i) x) known had = rows_fit kind (place_of (seen_at i (candidates world v))) (rows_for v (One x ∷ [])) (λ row. place_fits kind (seen_at i (candidates world v)) row (unkeyed had))
  call_spots (call.Indexed AddAt None x) known had = tt
  call_spots (call.Indexed SetAt None x) known had = tt
  call_spots (call.Counted word x n) known had = absurd (cc)
  call_spots (call.Pair Put k w) known had = rows_fit kind (own_spot v) (rows_for v (Entry k w ∷ [])) own_spot_fits
  call_spots (call.Pair ForcePut k w) known had = rows_fit kind (own_spot v) (rows_for v (Entry k w ∷ [])) own_spot_fits
  call_spots (call.Pair ContainsEntry k w) known had = tt
  call_spots (call.Pair RemoveEntry k w) known had = tt
  call_spots (call.Pair _ k w) known had = absurd (cc)
  call_spots (call.Triple word r c w) known had = absurd (cc)
  call_spots (call.Span word s) known had = absurd (cc)
  call_spots (call.SpanValue word s x) known had = absurd (cc)
  call_spots (call.Build word item) known had = absurd (cc)

  other_spots : (word : OnOther) (others : List Item) → IfSome (edit_with world v word others) (SpotsFit world (number_under v))
  other_spots AddAll others = last_fit kind world v 0 (rows_for v others) it.known
  other_spots PutAll others = own_fits kind (rows_for v others)
  other_spots _ others = tt

-- each base is at a later time once a known call came
pub call_later : (answer : Result Answer Refusal) (s now : Stored) (v : View) (c : Call) → Stands s.world v → number_under v < length s.world → is_known_call (form_of_call c) ≡ true → fits (shape_at s.world v) c ≡ true → Came answer s now (answered s.world v c) → AreLater s.world now.world
call_later answer s now v c it lt known had came =
    came_later answer s now (known_refusal s.world v c) v (answer_of (shape_at s.world v) c (shown s.world v)) (edit_of s.world v c) lt it.kind (call_spots s.world v it c known had) (subst (Came answer s now) (known_answer s.world v c it known) came)

pub with_later : (answer : Result Answer Refusal) (s now : Stored) (v : View) (word : OnOther) (other : View) → Stands s.world v → number_under v < length s.world → is_known_other word ≡ true → is_known_view other ≡ true → Came answer s now (answered_with s.world v word other)
    → AreLater s.world now.world
with_later answer s now v word other it lt known known_other came =
    came_later answer s now (known_refusal_with s.world v word other) v (answer_with (shape_at s.world v) word (shown s.world v) (shown s.world other)) (edit_with s.world v word (shown s.world other)) lt it.kind
    (other_spots s.world v it word (shown s.world other)) (subst (Came answer s now) (known_answer_with s.world v word other it known known_other) came)
