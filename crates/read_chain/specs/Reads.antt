-- What a read answers.
use Rattle.std.specs.Prelude.{◌≡◌, ℕ, Bool, true, false, not, ◌&&◌, List, Option, None, Some, Result, Ok, Err}
use Rattle.base_store.specs.Stored.{Stored, view_in}
use Rattle.vocabulary.specs.declared.answers.Answer.{Answer}
use Rattle.vocabulary.specs.declared.answers.Answer.TheVariants.{Element}
use Rattle.vocabulary.specs.declared.calls.Call.{Call}
use Rattle.vocabulary.specs.declared.calls.Call.TheVariants as call
use Rattle.vocabulary.specs.declared.calls.OnElement.TheVariants.{Contains, ValueOf, ContainsKey, ContainsValue}
use Rattle.vocabulary.specs.declared.calls.OnPair.TheVariants.{ContainsEntry}
use Rattle.vocabulary.specs.declared.items.Item.{Item}
use Rattle.view_laws.specs.declared.places.Place.{Place}
use Rattle.vocabulary.specs.declared.refusals.Refusal.{Refusal}
use Rattle.vocabulary.specs.declared.refusals.Refusal.TheVariants.{NoSuchElement}
use Rattle.vocabulary.specs.declared.step_table.Family.{Family}
use Rattle.vocabulary.specs.declared.step_table.Family.TheVariants.{Same, Changed, Turned, Keyed}
use Rattle.machine.specs.CallRefusals.{test_refusal}
use Rattle.machine.specs.Answering.{unless_refused}
use Rattle.machine.specs.Answers.{answer_of}
use Rattle.vocabulary.specs.Items.{key_of}
use Rattle.base_rows.specs.BaseSpots.{IsRowAt}
use Rattle.base_store.specs.Courses.{spots_at}
use Rattle.vocabulary.specs.declared.items.Side.TheVariants.{First, Second}
use Rattle.vocabulary.specs.declared.shapes.Shape.{Shape}
use Rattle.vocabulary.specs.Shapes.{is_unique}
use Rattle.vocabulary.specs.Steps.{family_of}
use Rattle.machine.specs.Bases.{World}
use Rattle.machine.specs.Views.{View, base, both, over, flags_at, shape_at, shown}
use Rattle.view_steps.specs.KnownViews.{number_under}

-- what a node shows
abbrev pub shown_in : Stored → ℕ → List Item
shown_in s n = shown s.world (view_in s n)

-- what a call answers that only reads, or why its argument is refused
abbrev pub told : World → View → Call → Result Answer Refusal
told world v call = unless_refused (test_refusal (flags_at world v) call (shown world v)) (Ok (answer_of (shape_at world v) call (shown world v)))

-- the element of an item, where there is one
abbrev pub element_told : Option Item → Result Answer Refusal
element_told None = Err NoSuchElement
element_told (Some item) = Ok (Element (key_of item))

-- whether the views by a family of steps may show fewer items than the views below them
abbrev pub leaves_out : Family → Bool
leaves_out Same = false
leaves_out Changed = false
leaves_out Turned = false
leaves_out Keyed = false
leaves_out family = true

-- whether no step of a view leaves an item out
abbrev pub shows_all : View → Bool
shows_all (base l) = true
shows_all (over step v) = not (leaves_out (family_of step)) && shows_all v
shows_all (both word v u) = false

-- why a result is none
abbrev pub refusal_in : {X : Type 0} → Result X Refusal → Option Refusal
refusal_in (Ok x) = None
refusal_in (Err why) = Some why

-- a place in the base under a view, where the one row of these numbers stands
pub record StandsAt (world : World) (v : View) (p : Place) (numbers : List ℕ) : Type 0 where
  pub leaf : p.leaf ≡ 0
  pub row : IsRowAt (spots_at world (number_under v)) p.spot numbers

-- whether a call asks for one item of views of a shape, by a part that no two of their items share
abbrev pub is_looked_up : Shape → Call → Bool
is_looked_up of (call.Element Contains x) = is_unique of First
is_looked_up of (call.Element ValueOf k) = is_unique of First
is_looked_up of (call.Element ContainsKey k) = is_unique of First
is_looked_up of (call.Element ContainsValue v) = is_unique of Second
is_looked_up of (call.Pair ContainsEntry k v) = is_unique of First
is_looked_up of other = false
