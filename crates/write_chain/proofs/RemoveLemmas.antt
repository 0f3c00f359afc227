-- What came of rows that went.
use Rattle.std.proofs.Common.{◌≡◌, ℕ, ◌≤◌, true, cond, List, [], length, Option, Some, None, sym, ap, ◌∙◌, subst, nat_lt}
use Rattle.std.specs.Prelude.{Ok, not, slice_get}
use Rattle.base_store.specs.Stored.{Stored, with_world}
use Rattle.read_chain.specs.Reads.{StandsAt}
use Rattle.vocabulary.specs.declared.answers.Answer.{Answer}
use Rattle.vocabulary.specs.declared.answers.Answer.TheVariants as answer
use Rattle.vocabulary.specs.declared.calls.Call.TheVariants as call
use Rattle.vocabulary.specs.declared.calls.OnIndex.TheVariants.{RemoveAt}
use Rattle.vocabulary.specs.declared.items.Item.{Item}
use Rattle.view_laws.specs.declared.places.Place.{Place}
use Rattle.vocabulary.specs.declared.refusals.Refusal.{Refusal}
use Rattle.vocabulary.specs.declared.refusals.Refusal.TheVariants.{UnsupportedOperation}
use Rattle.elem.specs.declared.elements.Elem.{Elem}
use Rattle.machine.specs.Answering.{unless_refused}
use Rattle.machine.specs.CallEdits.{hit_at}
use Rattle.machine.specs.CallRefusals.{index_refusal}
use Rattle.machine.specs.Answers.{element_of}
use Rattle.machine.specs.Edits.{removing}
use Rattle.view_steps.specs.KnownViews.{edited_at, number_under}
use Rattle.vocabulary.specs.Items.{key_of}
use Rattle.vocabulary.specs.Known.{is_known_kind}
use Rattle.machine.specs.Reading.{first_refusal}
use Rattle.machine.specs.RowCounts.{rows_in}
use Rattle.vocabulary.specs.Limits.{most_rows}
use Rattle.base_rows.specs.BaseSpots.{IsRowAt}
use Rattle.base_store.specs.Courses.{spots_at}
use Rattle.view_laws.specs.Following.{IsFrom}
use Rattle.machine.specs.Bases.{World, base_at}
use Rattle.machine.specs.Views.{View, candidates, flags_at, shown}
use Rattle.write_chain.specs.Calls.{Came, answered_known, left, removed}
use Rattle.write_chain.proofs.CameLemmas.{came_ok}
use Rattle.view_steps.proofs.EditedRows.{nothing_gone}
use Rattle.view_steps.proofs.IndexRefusals.{index_given}

-- ---- nothing goes

-- a store in which no row was hit
pub none_hit : (s : Stored) (b : ℕ) (gone : List ℕ) → is_known_kind (base_at s.world b).kind ≡ true → gone ≡ [] → s ≡ with_world s (edited_at s.world b (removing gone))
none_hit s b gone kind e = ap (with_world s) (sym (ap (λ numbers. edited_at s.world b (removing numbers)) e ∙ nothing_gone s.world b kind))

-- the spot of a place where a row stands
pub spot_there : (world : World) (v : View) (p : Place) (b : ℕ) (gone : List ℕ) → b ≡ number_under v → StandsAt world v p gone → IsFrom (spots_at world b) (Some p.spot)
spot_there world v p b gone e stands = subst (λ n. IsFrom (spots_at world n) (Some p.spot)) (sym e) (stands.row.number, stands.row.at)

-- a store from which the row of a place went
pub row_gone : (s now : Stored) (v : View) (p : Place) (b : ℕ) (gone : List ℕ) → b ≡ number_under v → StandsAt s.world v p gone
    → ((numbers : List ℕ) → IsRowAt (spots_at s.world b) p.spot numbers → now ≡ with_world s (edited_at s.world b (removing numbers))) → now ≡ with_world s (edited_at s.world (number_under v) (removing gone))
row_gone s now v p b gone e stands after =
    after gone (subst (λ n. IsRowAt (spots_at s.world n) p.spot gone) (sym e) stands.row) ∙ ap (λ n. with_world s (edited_at s.world n (removing gone))) e

-- ---- what a removing call answers, where the view allows it

pub gone_came : (s now : Stored) (v : View) (gone : List ℕ) (answer : Answer) → now ≡ with_world s (edited_at s.world (number_under v) (removing gone)) → rows_in now.world ≤ most_rows → Came (Ok answer) s now (removed s.world v gone answer)
gone_came s now v gone answer e few = came_ok s now answer (edited_at s.world (number_under v) (removing gone)) e few

pub removing_allowed : (world : World) (v : View) (test : Option Refusal) (gone : List ℕ) (answer : Answer) → (flags_at world v).remove ≡ true → test ≡ None
    → unless_refused (first_refusal (cond (not (flags_at world v).remove) (Some UnsupportedOperation) None) (first_refusal test None)) (left world v answer (Some (removing gone))) ≡ removed world v gone answer
removing_allowed world v test gone answer ok none =
    ap (λ b. unless_refused (first_refusal (cond (not b) (Some UnsupportedOperation) None) (first_refusal test None)) (left world v answer (Some (removing gone)))) ok
    ∙ ap (λ t. unless_refused (first_refusal t None) (left world v answer (Some (removing gone)))) none

-- at an index
pub remove_at_given : (world : World) (v : View) (i : Option ℕ) (at : ℕ) (item : Item) (key : Elem) → i ≡ Some at → (flags_at world v).remove ≡ true → Some item ≡ slice_get (shown world v) at → key ≡ key_of item
    → answered_known world v (call.Index RemoveAt i) ≡ removed world v (hit_at at (candidates world v)) (answer.Element key)
remove_at_given world v i at item key index ok some k =
    ap (λ o. answered_known world v (call.Index RemoveAt o)) index
    ∙ removing_allowed world v (index_refusal (λ n. nat_lt n (length (shown world v))) (Some at)) (hit_at at (candidates world v)) (element_of (slice_get (shown world v) at)) ok (index_given (shown world v) at item some).1
    ∙ ap (λ o. removed world v (hit_at at (candidates world v)) (element_of o)) (sym some)
    ∙ ap (λ y. removed world v (hit_at at (candidates world v)) (answer.Element y)) (sym k)
