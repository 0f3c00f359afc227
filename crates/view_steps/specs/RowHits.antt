-- The row form of a view, further: what it shows of one row more or less, and which rows it shows as items that pass.
use Rattle.std.specs.Prelude.{◌≡◌, Bool, true, false, ◌&&◌, not, if◌then◌else◌, List, [], ◌∷◌, ◌++◌, Some, Option, None}
use Rattle.vocabulary.specs.declared.items.Item.{Item}
use Rattle.vocabulary.specs.declared.steps.Step.{Step}
use Rattle.vocabulary.specs.declared.step_table.Family.{Family}
use Rattle.vocabulary.specs.declared.step_table.Family.TheVariants.{Cut}
use Rattle.vocabulary.specs.Steps.{family_of, passes}
use Rattle.machine.specs.Bases.{World}
use Rattle.machine.specs.Views.{View, lift, flags_at}
use Rattle.view_laws.specs.declared.places.Found.{Found}
use Rattle.view_laws.specs.RowForm.{RowForm, form_of, found_by, found_row_by, shown_by, shows}
use Rattle.view_steps.specs.Founds.{found_above}
use Rattle.view_steps.specs.KnownViews.{is_known_view}
use Rattle.view_steps.specs.Turning.{turned}

-- one more item, at the end of the walk, or at its start where the walk is turned round
abbrev pub one_more : Bool → List Item → Item → List Item
one_more turned items item = if turned then item ∷ items else items ++ item ∷ []

-- what such a view shows once the row stands behind the others
abbrev pub AddLaw : Type 0
AddLaw = (world : World) (v : View) (item row : Item) (rows : List Item) → is_known_view v ≡ true → (flags_at world v).add ≡ true → lift v item ≡ Some row
    → shown_by (form_of v) (rows ++ row ∷ []) ≡ one_more (turned v) (shown_by (form_of v) rows) item

-- ---- one row among others

-- what a form shows of some rows, and what it shows of them with one more among them
pub record ShownAround (f : RowForm) (before after : List Item) : Type 0 where
  pub first : List Item
  pub last : List Item
  pub without : shown_by f (before ++ after) ≡ first ++ last
  pub with_shown : (row : Item) → shows f row ≡ true → shown_by f (before ++ row ∷ after) ≡ first ++ f.item row ∷ last
  pub with_unseen : (row : Item) → shows f row ≡ false → shown_by f (before ++ row ∷ after) ≡ first ++ last

-- a row comes or goes with its item, or unseen, and the others stay in their order
abbrev pub DropLaw : Type 0
DropLaw = (f : RowForm) (before after : List Item) → ShownAround f before after

-- the same of the candidates
pub record FoundAround (f : RowForm) (before after : List Item) : Type 0 where
  pub first : List Found
  pub last : List Found
  pub without : found_by f (before ++ after) ≡ first ++ last
  pub with_taken : (row : Item) → f.takes row ≡ true → found_by f (before ++ row ∷ after) ≡ first ++ found_row_by f row ∷ last
  pub with_left_out : (row : Item) → f.takes row ≡ false → found_by f (before ++ row ∷ after) ≡ first ++ last

-- a row comes or goes with its one candidate, or with none, and the others stay in their order
abbrev pub OneCandidateLaw : Type 0
OneCandidateLaw = (f : RowForm) (before after : List Item) → FoundAround f before after

-- what a form has of a row: nothing where it leaves the row out
abbrev pub found_of_row : RowForm → Item → Option Found
found_of_row f row = if f.takes row then Some (found_row_by f row) else None

-- whether a form shows a row as an item that passes
abbrev pub is_row_hit : (Item → Bool) → RowForm → Item → Bool
is_row_hit p f row = shows f row && p (f.item row)

-- whether a step leaves an item out
abbrev pub is_cut_in : Family → Step → Item → Bool
is_cut_in Cut step item = not (passes step item)
is_cut_in family step item = false

abbrev pub is_cut : Step → Item → Bool
is_cut step item = is_cut_in (family_of step) step item

-- what a view by a step has of a row, by what the view below it has of it
abbrev pub found_through : Step → Found → Option Found
found_through step found = if is_cut step found.item then None else Some (found_above step found)
