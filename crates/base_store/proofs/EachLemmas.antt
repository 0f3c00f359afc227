-- A known step passes a lane of each candidate down as one of each.
use Rattle.std.proofs.Common.{◌≡◌, true, ◌&&◌, refl, ap, ◌∙◌, subst}
use Rattle.std.specs.Prelude.{Some}
use Rattle.std.specs.Option.{IfSome}
use Rattle.vocabulary.specs.declared.items.Side.TheVariants.{First, Second}
use Rattle.vocabulary.specs.declared.shapes.Shape.{Shape}
use Rattle.vocabulary.specs.declared.step_table.Family.{Family}
use Rattle.vocabulary.specs.declared.step_table.Family.TheVariants.{Same, Changed, Turned, Keyed, Hidden, Cut, Grouped, Run, Pieces}
use Rattle.vocabulary.specs.declared.steps.Step.{Step}
use Rattle.vocabulary.specs.Steps.{family_of}
use Rattle.view_laws.specs.declared.lanes.GroupOrder.{GroupOrder}
use Rattle.view_laws.specs.declared.lanes.Lane.{Lane}
use Rattle.view_laws.specs.declared.lanes.PartAsk.{PartAsk}
use Rattle.view_laws.specs.declared.lanes.PartAsk.TheVariants.{Any}
use Rattle.view_laws.specs.declared.lanes.Pick.{Pick}
use Rattle.view_laws.specs.declared.lanes.Pick.TheVariants.{Each}
use Rattle.view_laws.specs.Narrowing.{asked_by, asking, cut_asks, narrow, narrow_in, source_of}
use Rattle.view_laws.specs.ShapeNarrowing.{narrow_on, told_if_asked}
use Rattle.view_laws.proofs.AskLemmas.{asks_pick}
use Rattle.view_laws.proofs.DownLemmas.{if_told}
use Rattle.view_laws.proofs.OptionLemmas.{if_as, if_is}
use Rattle.view_laws.proofs.PartTable.{asked_each}
use Rattle.view_steps.specs.KnownViews.{is_known}
use Rattle.view_steps.proofs.KnownLemmas.{is_plain, known_family}

abbrev IsEach : Lane → Type 0
IsEach lane = lane.pick ≡ Each

each_in : (family : Family) → is_plain family ≡ true → (order : GroupOrder) (it : Step) (first second : PartAsk) → IfSome (narrow_in family order it (asking first second)) IsEach
each_in Same plain order it first second = refl
each_in Changed plain order it first second = asks_pick (source_of it First) (source_of it Second) (asking first second) (asking Any Any)
each_in Turned plain order it first second = refl
each_in Hidden plain order it first second = refl
each_in Cut plain order it first second =
    if_as (λ (l : Lane). l.pick ≡ (asked_by it).pick) IsEach (cut_asks it (asking first second)) (asks_pick (source_of it First) (source_of it Second) (asking first second) (asked_by it)) (λ l e. e ∙ asked_each it)
each_in Keyed plain order it first second = absurd (cc)
each_in Grouped plain order it first second = absurd (cc)
each_in Run plain order it first second = absurd (cc)
each_in Pieces plain order it first second = absurd (cc)

-- over a view of any shape
pub each_below : (of : Shape) (order : GroupOrder) (it : Step) (lane below : Lane) → is_known it ≡ true → lane.pick ≡ Each → narrow_on of order it lane ≡ Some below → below.pick ≡ Each
each_below of order it lane below known each is =
    let told = if_told (told_if_asked of it lane First && told_if_asked of it lane Second) (narrow order it lane) below is in
    let same : lane ≡ asking lane.first lane.second = ap (λ (p : Pick). record { first = lane.first; second = lane.second; pick = p }) each in
    let passed : narrow order it (asking lane.first lane.second) ≡ Some below = subst (λ (l : Lane). narrow order it l ≡ Some below) same told.1 in
    if_is IsEach (narrow order it (asking lane.first lane.second)) below passed (each_in (family_of it) (known_family it known) order it lane.first lane.second)
