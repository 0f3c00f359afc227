-- The line of a step over a view is a line of that view in a narrower lane, family by family.
use Rattle.std.proofs.Common.{◌≡◌, Bool, true, false, cond, not, ◌&&◌, ◌||◌, List, reverse, refl, ap, sym, ◌∙◌, subst}
use Rattle.std.specs.Prelude.{filter, Option, Some, None, option_map}
use Rattle.std.specs.Option.{IfSome}
use Rattle.elem.specs.declared.elements.Elem.{Elem}
use Rattle.vocabulary.specs.declared.items.Item.{Item}
use Rattle.vocabulary.specs.declared.items.Side.{Side}
use Rattle.vocabulary.specs.declared.items.Side.TheVariants.{First, Second}
use Rattle.vocabulary.specs.declared.step_table.Family.{Family}
use Rattle.vocabulary.specs.declared.step_table.Family.TheVariants as family
use Rattle.vocabulary.specs.declared.steps.Step.{Step}
use Rattle.vocabulary.specs.Items.{key_of, part_of, second_of}
use Rattle.vocabulary.specs.Steps.{family_of, group_item, item_of, passes, run_in, side_of}
use Rattle.machine.specs.Bases.{World}
use Rattle.machine.specs.Candidates.{Candidate}
use Rattle.machine.specs.KeyOrders as keys
use Rattle.machine.specs.KeyOrders.{KeyOrder}
use Rattle.machine.specs.Views.{View, over, candidates, order_over, root}
use Rattle.view_laws.specs.declared.lanes.GroupOrder.{GroupOrder}
use Rattle.view_laws.specs.declared.lanes.GroupOrder.TheVariants.{AsTheyCome, ByFirst, OfBase, Sorted}
use Rattle.view_laws.specs.declared.lanes.Lane.{Lane}
use Rattle.view_laws.specs.declared.lanes.PartAsk.{PartAsk}
use Rattle.view_laws.specs.declared.lanes.PartAsk.TheVariants.{Any, Is, Within, Nothing}
use Rattle.view_laws.specs.declared.lanes.Pick.{Pick}
use Rattle.view_laws.specs.declared.lanes.Pick.TheVariants.{Each, Firsts, Lasts, Run as OfRun}
use Rattle.view_laws.specs.declared.places.Found.{Found}
use Rattle.view_laws.specs.declared.places.Place.{Place}
use Rattle.view_laws.specs.Lanes.{asked_of, line, line_of, meets, order_in, picked, takes, turned_if}
use Rattle.view_laws.specs.LineLaws.{IsTold}
use Rattle.view_laws.specs.Narrowing.{asked_by, asking, asks_moved, asks_part, flipped, flipped_in, is_any, is_by, is_run, narrow, narrow_changed, narrow_in, narrow_keyed, narrow_run_of, narrow_turned, only_each, pick_moved, pick_turned, run_lane, run_within, source_of, tells, with_pick}
use Rattle.view_laws.specs.Places.{found_changed, found_group, found_if, heads, passes_at, places_of_run, places_over, shown_over}
use Rattle.view_laws.specs.Spots.{Spots}
use Rattle.view_laws.specs.ViewPlaces.{places, show}
use Rattle.view_laws.proofs.AskLemmas.{asks_pick, asks_takes}
use Rattle.view_laws.proofs.ListLemmas.{filter-filter, filter-reverse}
use Rattle.view_laws.proofs.OptionLemmas.{if_all, if_any, if_as, if_both, if_is, if_map, if_then}
use Rattle.view_laws.proofs.PartTable.{asked_each, asked_passes, group_part, part_told}
use Rattle.view_laws.proofs.PickLemmas.{MakesPart, heads_made, picks_made, picks_turned, picks_within, turned-reverse}

-- what is at each place is changed so that a lane takes what another takes below
same_taken : (lane below : Lane) (ks : List Elem) (back : Bool) (at bt : Place → Option Found) (ps qs : List Place) → picked lane.pick ks at ps ≡ picked below.pick ks bt qs
    → ((p : Place) → passes_at (takes lane) (at p) ≡ passes_at (takes below) (bt p)) → line_of lane ks back at ps ≡ line_of below ks back bt qs
same_taken lane below ks back at bt ps qs picks same = (λ i. turned_if back (filter (λ p. same p i) (picks i)))

-- ---- what is asked of the parts of things found

abbrev Below : Lane → Lane → (Found → Found) → (Place → Option Found) → Lane → Type 0
Below lane start g at below = (p : Place) → (passes_at (takes start) (at p) && passes_at (takes lane) (option_map g (at p))) ≡ passes_at (takes below) (at p)

-- where a lane asks of a part, it comes from below
abbrev AsksBelow : (Side → Option Side) → Lane → (Found → Found) → (Place → Option Found) → Type 0
AsksBelow source lane g at = (side : Side) → is_any (asked_of side lane) ≡ false → IfSome (source side) (MakesPart g at side)

found_takes : (source : Side → Option Side) (lane start : Lane) (g : Found → Found) (at : Place → Option Found) → AsksBelow source lane g at → (p : Place) (o : Option Found) → at p ≡ o
    → IfSome (asks_moved (source First) (source Second) lane start) (λ below. (passes_at (takes start) o && passes_at (takes lane) (option_map g o)) ≡ passes_at (takes below) o)
found_takes source lane start g at h p None e = if_any _ (asks_moved (source First) (source Second) lane start) (λ below. refl)
found_takes source lane start g at h p (Some d) e =
    if_as (λ below. takes below d.item ≡ (takes start d.item && takes lane (g d).item)) (λ below. (takes start d.item && takes lane (g d).item) ≡ takes below d.item) (asks_moved (source First) (source Second) lane start)
    (asks_takes (source First) (source Second) lane start d.item (g d).item
    (λ asked. if_as (MakesPart g at First) (λ side. part_of First (g d).item ≡ part_of side d.item) (source First) (h First asked) (λ side m. m p d e))
    (λ asked. if_as (MakesPart g at Second) (λ side. part_of Second (g d).item ≡ part_of side d.item) (source Second) (h Second asked) (λ side m. m p d e)))
    (λ below same. sym same)

all_takes : (source : Side → Option Side) (lane start : Lane) (g : Found → Found) (at : Place → Option Found) → AsksBelow source lane g at
    → IfSome (asks_moved (source First) (source Second) lane start) (λ below. Below lane start g at below × (below.pick ≡ start.pick))
all_takes source lane start g at h =
    if_both (Below lane start g at) (λ below. below.pick ≡ start.pick) (asks_moved (source First) (source Second) lane start)
    (if_all (λ p below. (passes_at (takes start) (at p) && passes_at (takes lane) (option_map g (at p))) ≡ passes_at (takes below) (at p)) (asks_moved (source First) (source Second) lane start) (λ p. found_takes source lane start g at h p (at p) refl))
    (asks_pick (source First) (source Second) lane start)

-- a start that asks nothing may be left out
nothing_asked : (pick : Pick) (lane : Lane) (g : Found → Found) (o : Option Found) → (passes_at (takes (with_pick (asking Any Any) pick)) o && passes_at (takes lane) (option_map g o)) ≡ passes_at (takes lane) (option_map g o)
nothing_asked pick lane g None = refl
nothing_asked pick lane g (Some d) = refl

-- ---- what the table tells of a step

abbrev Told : (Place → Option Found) → Step → Lane → Type 0
Told at step lane = (side : Side) → asks_part lane side ≡ true → (p : Place) (d : Found) → at p ≡ Some d → tells step side d.item ≡ true

told_parts : (step : Step) (lane : Lane) (at : Place → Option Found) → Told at step lane → (side : Side) → asks_part lane side ≡ true → IfSome (source_of step side) (MakesPart (found_changed (item_of step)) at side)
told_parts step lane at told side asked =
    if_all (λ p below. (d : Found) → at p ≡ Some d → part_of side (item_of step d.item) ≡ part_of below d.item) (source_of step side)
    (λ p. if_all (λ d below. at p ≡ Some d → part_of side (item_of step d.item) ≡ part_of below d.item) (source_of step side)
    (λ d. if_all (λ e below. part_of side (item_of step d.item) ≡ part_of below d.item) (source_of step side) (λ e. part_told step side d.item (told side asked p d e))))

pub asked_part : (lane : Lane) (side : Side) → is_any (asked_of side lane) ≡ false → asks_part lane side ≡ true
asked_part lane side h = ap (λ b. not b || is_by lane.pick side) h

picked_part : (lane : Lane) (side : Side) → is_by lane.pick side ≡ true → asks_part lane side ≡ true
picked_part lane side h = ap (λ b. not (is_any (asked_of side lane)) || b) h ∙ by (not (is_any (asked_of side lane)))
  where
    by : (t : Bool) → (t || true) ≡ true
    by true = refl
    by false = refl

-- ---- each family

abbrev LineStep : Family → Step → KeyOrder → Lane → List Elem → Bool → List Candidate → (Place → Option Found) → List Place → Lane → Type 0
LineStep of step order lane ks back cs at ps below = line_of lane ks back (shown_over of step cs at) (places_over of step order at ps) ≡ line_of below ks (flipped_in of back) at ps

as_it_is : (o : Option Found) → option_map (λ (d : Found). d) o ≡ o
as_it_is None = refl
as_it_is (Some d) = refl

same_line : (step : Step) (order : KeyOrder) (lane : Lane) (ks : List Elem) (back : Bool) (cs : List Candidate) (at : Place → Option Found) (ps : List Place) → LineStep family.Same step order lane ks back cs at ps lane
same_line step order lane ks back cs at ps = (λ i. line_of lane ks back (λ p. as_it_is (at p) i) ps)

changed_line : (step : Step) (lane : Lane) (ks : List Elem) (back : Bool) (at : Place → Option Found) (ps : List Place) → Told at step lane
    → IfSome (narrow_changed step lane) (λ below. line_of lane ks back (λ p. option_map (found_changed (item_of step)) (at p)) ps ≡ line_of below ks back at ps)
changed_line step lane ks back at ps told =
    let g : Found → Found = found_changed (item_of step) in
    if_then (λ pick. asks_moved (source_of step First) (source_of step Second) lane (with_pick (asking Any Any) pick)) (λ pick. picked lane.pick ks (λ p. option_map g (at p)) ps ≡ picked pick ks at ps) _ (pick_moved step lane.pick)
    (picks_made step g (λ d. refl) lane.pick ks at ps (λ side h. told_parts step lane at told side (picked_part lane side h)))
    (λ pick picks.
    if_as (λ below. Below lane (with_pick (asking Any Any) pick) g at below × (below.pick ≡ pick)) _ (asks_moved (source_of step First) (source_of step Second) lane (with_pick (asking Any Any) pick))
    (all_takes (source_of step) lane (with_pick (asking Any Any) pick) g at (λ side h. told_parts step lane at told side (asked_part lane side h)))
    (λ below h. same_taken lane below ks back (λ p. option_map g (at p)) at ps ps (picks ∙ ap (λ q. picked q ks at ps) (sym h.1)) (λ p. sym (nothing_asked pick lane g (at p)) ∙ h.0 p)))

keyed_line : (step : Step) (order : GroupOrder) (lane : Lane) (ks : List Elem) (back : Bool) (cs : List Candidate) (at : Place → Option Found) (ps : List Place) → Told at step lane
    → IfSome (narrow_keyed order step lane) (LineStep family.Keyed step (order_in ks order) lane ks back cs at ps)
keyed_line step AsTheyCome lane ks back cs at ps told = changed_line step lane ks back at ps told
keyed_line step ByFirst lane ks back cs at ps told = tt
keyed_line step OfBase lane ks back cs at ps told = tt
keyed_line step (Sorted order) lane ks back cs at ps told = tt

turned_line : (step : Step) (order : KeyOrder) (lane : Lane) (ks : List Elem) (back : Bool) (cs : List Candidate) (at : Place → Option Found) (ps : List Place)
    → IfSome (narrow_turned lane) (LineStep family.Turned step order lane ks back cs at ps)
turned_line step order lane ks back cs at ps =
    if_map (with_pick lane) (λ pick. picked lane.pick ks at (reverse ps) ≡ reverse (picked pick ks at ps)) _ (pick_turned lane.pick) (picks_turned lane.pick ks at ps)
    (λ pick picks.
    (λ i. line_of lane ks back (λ p. as_it_is (at p) i) (reverse ps))
    ∙ ap (λ qs. turned_if back (filter (λ p. passes_at (takes lane) (at p)) qs)) picks
    ∙ ap (turned_if back) (filter-reverse (λ p. passes_at (takes lane) (at p)) (picked pick ks at ps))
    ∙ turned-reverse back (filter (λ p. passes_at (takes lane) (at p)) (picked pick ks at ps)))

-- what is hidden is what it was
pub found_hidden : (test : Item → Bool) (q : Item → Bool) (o : Option Found) → passes_at q (option_map (found_if test) o) ≡ passes_at q o
found_hidden test q None = refl
found_hidden test q (Some d) = refl

hidden_heads : (test : Item → Bool) (side : Side) (order : KeyOrder) (at : Place → Option Found) (ps : List Place) → heads side order (λ p. option_map (found_if test) (at p)) ps ≡ heads side order at ps
hidden_heads test side order at ps = heads_made (found_if test) side side order at ps (λ p d e. refl)

hidden_picks : (test : Item → Bool) (pick : Pick) (ks : List Elem) (at : Place → Option Found) (ps : List Place) → is_run pick ≡ false → picked pick ks (λ p. option_map (found_if test) (at p)) ps ≡ picked pick ks at ps
hidden_picks test Each ks at ps h = refl
hidden_picks test (Firsts side order) ks at ps h = hidden_heads test side (order_in ks order) at ps
hidden_picks test (Lasts side) ks at ps h = ap reverse (hidden_heads test side keys.ByFirst at (reverse ps))
hidden_picks test (OfRun r) ks at ps h = absurd (cc)

pub hidden_line : (test : Item → Bool) (lane : Lane) (ks : List Elem) (back : Bool) (at : Place → Option Found) (ps : List Place) → is_run lane.pick ≡ false → line_of lane ks back (λ p. option_map (found_if test) (at p)) ps ≡ line_of lane ks back at ps
hidden_line test lane ks back at ps h = same_taken lane lane ks back (λ p. option_map (found_if test) (at p)) at ps ps (hidden_picks test lane.pick ks at ps h) (λ p. found_hidden test (takes lane) (at p))

cut_line : (step : Step) (lane : Lane) (ks : List Elem) (back : Bool) (at : Place → Option Found) (ps : List Place) → family_of step ≡ family.Cut → Told at step lane → (pick : Pick) → lane.pick ≡ pick
    → IfSome (only_each pick (asks_moved (source_of step First) (source_of step Second) lane (asked_by step)))
    (λ below. line_of lane ks back (λ p. option_map (found_changed (item_of step)) (at p)) (filter (λ p. passes_at (passes step) (at p)) ps) ≡ line_of below ks back at ps)
cut_line step lane ks back at ps is told (Firsts side order) e = tt
cut_line step lane ks back at ps is told (Lasts side) e = tt
cut_line step lane ks back at ps is told (OfRun r) e = tt
cut_line step lane ks back at ps is told Each e =
    let g : Found → Found = found_changed (item_of step) in
    if_as (λ below. Below lane (asked_by step) g at below × (below.pick ≡ (asked_by step).pick)) _ (asks_moved (source_of step First) (source_of step Second) lane (asked_by step))
    (all_takes (source_of step) lane (asked_by step) g at (λ side h. told_parts step lane at told side (asked_part lane side h)))
    (λ below h.
    ap (λ pick. turned_if back (filter (λ p. passes_at (takes lane) (option_map g (at p))) (picked pick ks (λ p. option_map g (at p)) (filter (λ p. passes_at (passes step) (at p)) ps)))) e
    ∙ ap (turned_if back) (filter-filter (λ p. passes_at (takes lane) (option_map g (at p))) (λ p. passes_at (passes step) (at p)) ps
    ∙ (λ i. filter (λ p. (passes_asked (at p) i && passes_at (takes lane) (option_map g (at p)))) ps)
    ∙ (λ i. filter (λ p. h.0 p i) ps))
    ∙ ap (λ pick. turned_if back (filter (λ p. passes_at (takes below) (at p)) (picked pick ks at ps))) (sym (h.1 ∙ asked_each step)))
  where
    passes_asked : (o : Option Found) → passes_at (passes step) o ≡ passes_at (takes (asked_by step)) o
    passes_asked None = refl
    passes_asked (Some d) = asked_passes step d.item is

grouped_line : (step : Step) (order : GroupOrder) (lane : Lane) (ks : List Elem) (back : Bool) (cs : List Candidate) (at : Place → Option Found) (ps : List Place) → (pick : Pick) → lane.pick ≡ pick
    → IfSome (only_each pick (asks_moved (Some (side_of step)) (Some (side_of step)) lane (with_pick (asking Any Any) (Firsts (side_of step) order)))) (LineStep family.Grouped step (order_in ks order) lane ks back cs at ps)
grouped_line step order lane ks back cs at ps (Firsts side o) e = tt
grouped_line step order lane ks back cs at ps (Lasts side) e = tt
grouped_line step order lane ks back cs at ps (OfRun r) e = tt
grouped_line step order lane ks back cs at ps Each e =
    let g : Found → Found = found_group (side_of step) (group_item step) cs in
    let start : Lane = with_pick (asking Any Any) (Firsts (side_of step) order) in
    if_as (λ below. Below lane start g at below × (below.pick ≡ start.pick)) _ (asks_moved (Some (side_of step)) (Some (side_of step)) lane start)
    (all_takes (λ side. Some (side_of step)) lane start g at (λ side h p d is. group_part step side (part_of (side_of step) d.item) _))
    (λ below h.
    same_taken lane below ks back (λ p. option_map g (at p)) at (heads (side_of step) (order_in ks order) at ps) ps
    (ap (λ pick. picked pick ks (λ p. option_map g (at p)) (heads (side_of step) (order_in ks order) at ps)) e ∙ ap (λ pick. picked pick ks at ps) (sym h.1))
    (λ p. sym (nothing_asked (Firsts (side_of step) order) lane g (at p)) ∙ h.0 p))

run_line : (step : Step) (order : KeyOrder) (lane : Lane) (ks : List Elem) (back : Bool) (cs : List Candidate) (at : Place → Option Found) (ps : List Place) → (first second : PartAsk) → lane.first ≡ first → lane.second ≡ second
    → IfSome (narrow_run_of first second (run_in step) lane.pick) (LineStep family.Run step order lane ks back cs at ps)
run_line step order lane ks back cs at ps Any Any e f =
    if_map run_lane (λ r. picked lane.pick ks at (places_of_run (run_in step) at ps) ≡ picked (OfRun r) ks at ps) _ (run_within (run_in step) lane.pick) (picks_within (run_in step) lane.pick ks at ps)
    (λ r picks.
    (λ i. line_of lane ks back (λ p. as_it_is (at p) i) (places_of_run (run_in step) at ps))
    ∙ same_taken lane (run_lane r) ks back at at (places_of_run (run_in step) at ps) ps picks (λ p i. passes_at (λ item. meets (e i) (key_of item) && meets (f i) (second_of item)) (at p)))
run_line step order lane ks back cs at ps Any (Is y) e f = tt
run_line step order lane ks back cs at ps Any (Within o w) e f = tt
run_line step order lane ks back cs at ps Any Nothing e f = tt
run_line step order lane ks back cs at ps (Is x) second e f = tt
run_line step order lane ks back cs at ps (Within o w) second e f = tt
run_line step order lane ks back cs at ps Nothing second e f = tt

unless_run : (step : Step) (order : KeyOrder) (lane : Lane) (ks : List Elem) (back : Bool) (cs : List Candidate) (at : Place → Option Found) (ps : List Place) → (t : Bool) → is_run lane.pick ≡ t
    → IfSome (cond t None (Some lane)) (LineStep family.Hidden step order lane ks back cs at ps)
unless_run step order lane ks back cs at ps true h = tt
unless_run step order lane ks back cs at ps false h = hidden_line (passes step) lane ks back at ps h

line_in : (of : Family) (step : Step) → family_of step ≡ of → (order : GroupOrder) (lane : Lane) (ks : List Elem) (back : Bool) (cs : List Candidate) (at : Place → Option Found) (ps : List Place) → Told at step lane
    → IfSome (narrow_in of order step lane) (LineStep of step (order_in ks order) lane ks back cs at ps)
line_in family.Same step is order lane ks back cs at ps told = same_line step (order_in ks order) lane ks back cs at ps
line_in family.Changed step is order lane ks back cs at ps told = changed_line step lane ks back at ps told
line_in family.Turned step is order lane ks back cs at ps told = turned_line step (order_in ks order) lane ks back cs at ps
line_in family.Keyed step is order lane ks back cs at ps told = keyed_line step order lane ks back cs at ps told
line_in family.Hidden step is order lane ks back cs at ps told = unless_run step (order_in ks order) lane ks back cs at ps (is_run lane.pick) refl
line_in family.Cut step is order lane ks back cs at ps told = cut_line step lane ks back at ps is told lane.pick refl
line_in family.Grouped step is order lane ks back cs at ps told = grouped_line step order lane ks back cs at ps lane.pick refl
line_in family.Run step is order lane ks back cs at ps told = run_line step (order_in ks order) lane ks back cs at ps lane.first lane.second refl refl
line_in family.Pieces step is order lane ks back cs at ps told = tt

pub line-over : (world : World) (spots : Spots) (step : Step) (v : View) (order : GroupOrder) (lane below : Lane) (back : Bool) → order_over world v step ≡ order_in (root world v).keys order → IsTold world spots v step lane
    → narrow order step lane ≡ Some below → line world spots (over step v) lane back ≡ line world spots v below (flipped step back)
line-over world spots step v order lane below back by told is =
    subst (λ o. LineStep (family_of step) step o lane (root world v).keys back (candidates world v) (show world spots v) (places world spots v) below) (sym by)
    (if_is (LineStep (family_of step) step (order_in (root world v).keys order) lane (root world v).keys back (candidates world v) (show world spots v) (places world spots v)) (narrow order step lane) below is
    (line_in (family_of step) step refl order lane (root world v).keys back (candidates world v) (show world spots v) (places world spots v) told))
