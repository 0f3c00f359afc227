-- Lanes that ask of one part come down to the base of a view whose steps are known, and the base serves them.
use Rattle.std.proofs.Common.{◌≡◌, Bool, true, false, cond, ◌&&◌, IfSome, refl, ap, sym, ◌∙◌, subst}
use Rattle.std.specs.Prelude.{Option, Some, None, option_map}
use Rattle.std.specs.Option.{option_and_then}
use Rattle.std.proofs.lemmas.Option.{same_Some}
use Rattle.elem.specs.declared.elements.Elem.{Elem}
use Rattle.elem.specs.declared.windows.Window.{Window}
use Rattle.vocabulary.specs.declared.items.Side.{Side}
use Rattle.vocabulary.specs.declared.items.Side.TheVariants.{First, Second}
use Rattle.vocabulary.specs.declared.orders.Order.{Order}
use Rattle.vocabulary.specs.declared.shapes.Shape.{Shape}
use Rattle.vocabulary.specs.declared.step_table.Family.{Family}
use Rattle.vocabulary.specs.declared.step_table.Family.TheVariants.{Same, Changed, Turned, Hidden, Cut}
use Rattle.vocabulary.specs.declared.steps.Step.{Step}
use Rattle.vocabulary.specs.Known.{is_known_kind}
use Rattle.vocabulary.specs.Orders.{upto, encloses, lies_in, same_order}
use Rattle.vocabulary.specs.Shapes.{is_sorted, is_unique}
use Rattle.vocabulary.specs.Steps.{family_of}
use Rattle.machine.specs.Bases.{World}
use Rattle.machine.specs.KeptSteps.{order_at, window_at}
use Rattle.machine.specs.Leaves.{Leaf, leaf_at}
use Rattle.machine.specs.MadeViews.{IsMade, IsStepOn}
use Rattle.machine.specs.Views.{View, base, both, over, base_under, shape_at}
use Rattle.view_laws.specs.declared.lanes.GroupOrder.{GroupOrder}
use Rattle.view_laws.specs.declared.lanes.Lane.{Lane}
use Rattle.view_laws.specs.declared.lanes.PartAsk.{PartAsk}
use Rattle.view_laws.specs.declared.lanes.PartAsk.TheVariants.{Any, Is, Within, Nothing}
use Rattle.view_laws.specs.GroupOrders.{group_order_at}
use Rattle.view_laws.specs.LanesDown.{lane_down}
use Rattle.view_laws.specs.Narrowing.{asked_by, asking, asks_moved, both_asks, flipped, moved, narrow, narrow_in, source_of, with_ask, with_first}
use Rattle.view_laws.specs.ShapeNarrowing.{narrow_on, tells_on, told_if_asked}
use Rattle.view_laws.specs.Serving.{ServesPart}
use Rattle.view_steps.specs.KnownLanes.{part_below, part_from}
use Rattle.view_steps.specs.KnownViews.{is_known, is_known_view}
use Rattle.view_laws.proofs.LiftTable.{leaves_items}
use Rattle.view_steps.specs.KnownShapes.{is_known_shape}
use Rattle.view_steps.proofs.AskTable.{IsWindowOn, ask_in, asks_none, leaves_out, own_asked, own_window, source_kept, window_above, window_in, window_on, window_source}
use Rattle.view_steps.proofs.FamilyTable.{is_plain, known_family}
use Rattle.view_steps.proofs.KnownLemmas.{known_over, known_shape}
use Rattle.view_steps.proofs.KnownShapes.{sorted_first, sorted_keyed}
use Rattle.view_steps.proofs.PartTable.{PartFrom, first_told, part_down, sorted_down}
use Rattle.view_steps.proofs.UniqueParts.{part_from_below}
use Rattle.view_steps.proofs.WindowLemmas.{same_order-refl, encloses-chain}

-- the lane that asks this of a part; what asks for nothing asks it of the keys
abbrev pub of_ask : Side → PartAsk → Lane
of_ask First ask = asking ask Any
of_ask Second Any = asking Any Any
of_ask Second Nothing = asking Nothing Any
of_ask Second (Is x) = asking Any (Is x)
of_ask Second (Within order w) = asking Any (Within order w)

-- ---- below one step: what is asked above, moved, and what the step asks

-- a lane that asks of the keys stays where each part is that below
lane_stays : (ask : PartAsk) → asks_moved (Some First) (Some Second) (asking ask Any) (asking Any Any) ≡ Some (asking ask Any)
lane_stays Any = refl
lane_stays (Is x) = refl
lane_stays (Within order w) = refl
lane_stays Nothing = refl

abbrev below_step : Step → Lane → Option Lane
below_step it lane = asks_moved (source_of it First) (source_of it Second) lane (asked_by it)

kept_out : (family : Family) → leaves_items family ≡ true → leaves_out family ≡ false
kept_out Same h = refl
kept_out Turned h = refl
kept_out Hidden h = refl
kept_out _ h = absurd (cc)

kept_below : (it : Step) (lane : Lane) → is_known it ≡ true → leaves_items (family_of it) ≡ true → asks_moved (Some First) (Some Second) lane (asking Any Any) ≡ Some lane → Some lane ≡ below_step it lane
kept_below it lane known leaves stays =
    sym ((λ i. asks_moved (source_kept it First known leaves i) (source_kept it Second known leaves i) lane (asks_none it (kept_out (family_of it) leaves) i)) ∙ stays)

narrowed : (order : GroupOrder) (it : Step) (a b : PartAsk) → is_known it ≡ true → asks_moved (Some First) (Some Second) (asking a b) (asking Any Any) ≡ Some (asking a b) → (family : Family) → family_of it ≡ family → is_plain family ≡ true
    → narrow_in family order it (asking a b) ≡ below_step it (asking a b)
narrowed order it a b known stays Same e plain = kept_below it (asking a b) known (ap leaves_items e) stays
narrowed order it a b known stays Changed e plain = ap (asks_moved (source_of it First) (source_of it Second) (asking a b)) (sym (asks_none it (ap leaves_out e)))
narrowed order it a b known stays Turned e plain = kept_below it (asking a b) known (ap leaves_items e) stays
narrowed order it a b known stays Hidden e plain = kept_below it (asking a b) known (ap leaves_items e) stays
narrowed order it a b known stays Cut e plain = refl
narrowed order it a b known stays _ e plain = absurd (cc)

narrow_known : (order : GroupOrder) (it : Step) (side : Side) (ask : PartAsk) → is_known it ≡ true → narrow order it (of_ask side ask) ≡ below_step it (of_ask side ask)
narrow_known order it First ask known = narrowed order it ask Any known (lane_stays ask) (family_of it) refl (known_family it known)
narrow_known order it Second Any known = narrowed order it Any Any known refl (family_of it) refl (known_family it known)
narrow_known order it Second (Is x) known = narrowed order it Any (Is x) known refl (family_of it) refl (known_family it known)
narrow_known order it Second (Within o w) known = narrowed order it Any (Within o w) known refl (family_of it) refl (known_family it known)
narrow_known order it Second Nothing known = narrowed order it Nothing Any known refl (family_of it) refl (known_family it known)

asks_no_more : (source : Option Side) (o : Option Lane) → option_and_then (moved source Any) o ≡ o
asks_no_more source None = refl
asks_no_more source (Some lane) = refl

moved_one : (it : Step) (side : Side) (ask : PartAsk) → below_step it (of_ask side ask) ≡ moved (source_of it side) ask (asked_by it)
moved_one it First ask = asks_no_more (source_of it Second) (moved (source_of it First) ask (asked_by it))
moved_one it Second Any = refl
moved_one it Second (Is x) = refl
moved_one it Second (Within order w) = refl
moved_one it Second Nothing = asks_no_more (source_of it Second) (with_ask First Nothing (asked_by it))

-- where the shape below tells of the part, the step passes the lane down
told_all : (of : Shape) (it : Step) (side : Side) (ask : PartAsk) → tells_on of it First ≡ true → tells_on of it side ≡ true → told_if_asked of it (of_ask side ask) First && told_if_asked of it (of_ask side ask) Second ≡ true
told_all of it First Any first told = refl
told_all of it First (Is x) first told = ap (λ b. b && true) first
told_all of it First (Within order w) first told = ap (λ b. b && true) first
told_all of it First Nothing first told = ap (λ b. b && true) first
told_all of it Second Any first told = refl
told_all of it Second (Is x) first told = told
told_all of it Second (Within order w) first told = told
told_all of it Second Nothing first told = ap (λ b. b && true) first

step_asks : (of : Shape) (order : GroupOrder) (it : Step) (side : Side) (ask : PartAsk) → is_known it ≡ true → tells_on of it First ≡ true → tells_on of it side ≡ true
    → narrow_on of order it (of_ask side ask) ≡ moved (source_of it side) ask (asking (ask_in (own_window it)) Any)
step_asks of order it side ask known first told =
    ap (λ b. cond b (narrow order it (of_ask side ask)) None) (told_all of it side ask first told)
    ∙ narrow_known order it side ask known ∙ moved_one it side ask ∙ ap (moved (source_of it side) ask) (own_asked it known)

-- ---- what may be asked of a view

-- one element of a part that no two items share, and a window of the keys where it is sorted
abbrev pub HasAsk : World → View → Side → PartAsk → Type 0
HasAsk world v side Any = Unit {0}
HasAsk world v side (Is x) = is_unique (shape_at world v) side ≡ true
HasAsk world v First (Within order w) = IsWindowOn world v order w
HasAsk world v Second (Within order w) = ⊥
HasAsk world v side Nothing = Unit {0}

-- what asks for an element in a part, or for nothing
abbrev pub IsOfPart : Side → Elem → Side → PartAsk → Type 0
IsOfPart t x side Any = ⊥
IsOfPart t x side (Is y) = (x ≡ y) × (side ≡ t)
IsOfPart t x side (Within order w) = ⊥
IsOfPart t x side Nothing = Unit {0}

-- what is asked below a step
pub record AskBelow (world : World) (it : Step) (v : View) (order : GroupOrder) (side : Side) (ask : PartAsk) : Type 0 where
  pub part : Side
  pub below : PartAsk
  pub down : narrow_on (shape_at world v) order it (of_ask side ask) ≡ Some (of_ask part below)
  pub has : HasAsk world v part below
  pub of_part : (t : Side) (x : Elem) → IsOfPart t x side ask → IsOfPart (part_from (source_of it t) t) x part below

-- a known step on a view of a known shape
record IsStep (world : World) (it : Step) (v : View) : Type 0 where
  known : is_known it ≡ true
  shape : is_known_shape (shape_at world v) ≡ true
  above : is_known_shape (shape_at world (over it v)) ≡ true
  on : IsStepOn world v it

told_first : (world : World) (it : Step) (v : View) → IsStep world it v → tells_on (shape_at world v) it First ≡ true
told_first world it v s = first_told (shape_at world v) it s.shape s.known

own_has : (world : World) (it : Step) (v : View) → IsStep world it v → HasAsk world v First (ask_in (own_window it))
own_has world it v s = by (own_window it) (window_on world it v s.shape s.on)
  where
    by : (o : Option (Order × Window)) → IfSome o (λ (asked : Order × Window). IsWindowOn world v asked.0 asked.1) → HasAsk world v First (ask_in o)
    by None on = tt
    by (Some asked) on = on

under_any : (world : World) (it : Step) (v : View) (order : GroupOrder) → IsStep world it v → AskBelow world it v order First Any
under_any world it v order s = record {
  part = First;
  below = ask_in (own_window it);
  down = step_asks (shape_at world v) order it First Any s.known (told_first world it v s) (told_first world it v s);
  has = own_has world it v s;
  of_part = λ t x is. absurd is;
}

under_nothing : (world : World) (it : Step) (v : View) (order : GroupOrder) → IsStep world it v → AskBelow world it v order First Nothing
under_nothing world it v order s = record {
  part = First;
  below = Nothing;
  down = step_asks (shape_at world v) order it First Nothing s.known (told_first world it v s) (told_first world it v s);
  has = tt;
  of_part = λ t x is. tt;
}

-- ---- one element

-- a part of an item above comes from the part below that the table says
is_moved : (it : Step) (side b : Side) (x : Elem) → source_of it side ≡ Some b → (t : Side) (y : Elem) → IsOfPart t y side (Is x) → IsOfPart (part_from (source_of it t) t) y b (Is x)
is_moved it side b x from t y is = (is.0, sym (part_from_below it t b (subst (λ (s : Side). source_of it s ≡ Some b) is.1 from)))

asks_element : (b : Side) (x : Elem) → with_ask b (Is x) (asking Any Any) ≡ Some (of_ask b (Is x))
asks_element First x = refl
asks_element Second x = refl

element_moved : (world : World) (it : Step) (v : View) (order : GroupOrder) (side : Side) (x : Elem) → IsStep world it v → PartFrom (shape_at world v) it side → own_window it ≡ None → AskBelow world it v order side (Is x)
element_moved world it v order side x s p none = record {
  part = p.below;
  below = Is x;
  down = step_asks (shape_at world v) order it side (Is x) s.known (told_first world it v s) p.told
      ∙ ap (λ (o : Option Side). moved o (Is x) (asking (ask_in (own_window it)) Any)) p.from
      ∙ ap (λ (w : Option (Order × Window)). with_ask p.below (Is x) (asking (ask_in w) Any)) none
      ∙ asks_element p.below x;
  has = p.unique;
  of_part = λ t y is. is_moved it side p.below x p.from t y is;
}

-- ---- beside the window of a step

-- a step that leaves items in a window
record IsWindowed (world : World) (it : Step) (v : View) (order : Order) (w : Window) : Type 0 where
  own : own_window it ≡ Some (order, w)
  first : source_of it First ≡ Some First
  on : IsWindowOn world v order w

windowed : (world : World) (it : Step) (v : View) (asked : Order × Window) → IsStep world it v → own_window it ≡ Some asked → IsWindowed world it v asked.0 asked.1
windowed world it v asked s e = record {
  own = e;
  first = subst (λ (o : Option (Order × Window)). IfSome o (λ (a : Order × Window). source_of it First ≡ Some First)) e (window_source it First);
  on = subst (λ (o : Option (Order × Window)). IfSome o (λ (a : Order × Window). IsWindowOn world v a.0 a.1)) e (window_on world it v s.shape s.on);
}

window_asks : (world : World) (it : Step) (v : View) (order : GroupOrder) (o : Order) (w : Window) (ask : PartAsk) → IsStep world it v → IsWindowed world it v o w
    → narrow_on (shape_at world v) order it (of_ask First ask) ≡ moved (Some First) ask (asking (Within o w) Any)
window_asks world it v order o w ask s in_window =
    step_asks (shape_at world v) order it First ask s.known (told_first world it v s) (told_first world it v s)
    ∙ (λ i. moved (in_window.first i) ask (asking (ask_in (in_window.own i)) Any))

-- an element is asked for where it lies in that
key_in_window : (world : World) (it : Step) (v : View) (order : GroupOrder) (o : Order) (w : Window) (k : Elem) → IsStep world it v → IsWindowed world it v o w → is_unique (shape_at world v) First ≡ true → AskBelow world it v order First (Is k)
key_in_window world it v order o w k s in_window keyed = by (lies_in o w k) refl
  where
    asked : (t : Bool) → lies_in o w k ≡ t → narrow_on (shape_at world v) order it (of_ask First (Is k)) ≡ Some (of_ask First (cond t (Is k) Nothing))
    asked t h = window_asks world it v order o w (Is k) s in_window ∙ ap (λ t. Some (of_ask First (cond t (Is k) Nothing))) h

    by : (t : Bool) → lies_in o w k ≡ t → AskBelow world it v order First (Is k)
    by true h = record { part = First; below = Is k; down = asked true h; has = keyed; of_part = λ t x is. is_moved it First First k in_window.first t x is }
    by false h = record { part = First; below = Nothing; down = asked false h; has = tt; of_part = λ t x is. tt }

-- only the keys of a sorted view are asked for so
element_in_window : (world : World) (it : Step) (v : View) (order : GroupOrder) (side : Side) (o : Order) (w : Window) (x : Elem) → IsStep world it v → IsWindowed world it v o w → source_of it side ≡ Some side → PartFrom (shape_at world v) it side → AskBelow world it v order side (Is x)
element_in_window world it v order side o w x s in_window stays p =
    let key : p.below ≡ First = sorted_first (shape_at world v) p.below in_window.on.0 p.unique in
    let same : side ≡ First = same_Some side p.below (sym stays ∙ p.from) ∙ key in
    subst (λ (t : Side). AskBelow world it v order t (Is x)) (sym same)
    (key_in_window world it v order o w x s in_window (subst (λ (t : Side). is_unique (shape_at world v) t ≡ true) key p.unique))

under_element : (world : World) (it : Step) (v : View) (order : GroupOrder) (side : Side) (x : Elem) → IsStep world it v → PartFrom (shape_at world v) it side → AskBelow world it v order side (Is x)
under_element world it v order side x s p = by (own_window it) refl (window_source it side)
  where
    by : (o : Option (Order × Window)) → own_window it ≡ o → IfSome o (λ (asked : Order × Window). source_of it side ≡ Some side) → AskBelow world it v order side (Is x)
    by None e stays = element_moved world it v order side x s p e
    by (Some asked) e stays = element_in_window world it v order side asked.0 asked.1 x s (windowed world it v asked s e) stays p

-- ---- a window

window_moved : (world : World) (it : Step) (v : View) (order : GroupOrder) (other : Order) (inner : Window) → IsStep world it v → source_of it First ≡ Some First → own_window it ≡ None → HasAsk world v First (Within other inner)
    → AskBelow world it v order First (Within other inner)
window_moved world it v order other inner s from none has = record {
  part = First;
  below = Within other inner;
  down = step_asks (shape_at world v) order it First (Within other inner) s.known (told_first world it v s) (told_first world it v s)
      ∙ (λ i. moved (from i) (Within other inner) (asking (ask_in (none i)) Any));
  has = has;
  of_part = λ t x is. absurd is;
}

-- the smaller of two windows, one of which encloses the other
window_in_window : (world : World) (it : Step) (v : View) (order : GroupOrder) (o other : Order) (w inner : Window) → IsStep world it v → IsWindowed world it v o w
    → (other ≡ order_at world v) × (upto other inner.lo inner.hi ≡ true) × (encloses other w inner ≡ true) → AskBelow world it v order First (Within other inner)
window_in_window world it v order o other w inner s in_window has = by (encloses other inner w) refl
  where
    on : IsWindowOn world v o w
    on = in_window.on

    same : other ≡ o
    same = has.0 ∙ sym on.1

    orders : same_order other o ≡ true
    orders = ap (λ (x : Order). same_order x o) same ∙ same_order-refl o

    inside : encloses o w inner ≡ true
    inside = subst (λ (x : Order). encloses x w inner ≡ true) same has.2

    outer : encloses other (window_at v) inner ≡ true
    outer = subst (λ (x : Order). encloses x (window_at v) inner ≡ true) (sym same) (encloses-chain o (window_at v) w inner on.3 inside)

    asks : (t : Bool) → encloses other inner w ≡ t → both_asks (Within other inner) (Within o w) ≡ cond t (Some (Within o w)) (Some (Within other inner))
    asks true h = rw (orders, h) refl
    asks false h = rw (orders, h, has.2) refl

    asked : (t : Bool) → encloses other inner w ≡ t → narrow_on (shape_at world v) order it (of_ask First (Within other inner)) ≡ option_map (with_first (asking (Within o w) Any)) (cond t (Some (Within o w)) (Some (Within other inner)))
    asked t h = window_asks world it v order o w (Within other inner) s in_window ∙ ap (option_map (with_first (asking (Within o w) Any))) (asks t h)

    by : (t : Bool) → encloses other inner w ≡ t → AskBelow world it v order First (Within other inner)
    by true h = record { part = First; below = Within o w; down = asked true h; has = on; of_part = λ t x is. absurd is }
    by false h = record { part = First; below = Within other inner; down = asked false h; has = (on.0, has.0, has.1, outer); of_part = λ t x is. absurd is }

-- the window of the view above is that of a step that has one
under_window : (world : World) (it : Step) (v : View) (order : GroupOrder) (other : Order) (inner : Window) → IsStep world it v → source_of it First ≡ Some First → is_sorted (shape_at world v) ≡ true → HasAsk world (over it v) First (Within other inner)
    → AskBelow world it v order First (Within other inner)
under_window world it v order other inner s from sorted has = by (own_window it) refl
  where
    above : (o : Option (Order × Window)) → own_window it ≡ o → encloses other (window_in o (window_at v)) inner ≡ true
    above o e = subst (λ (w : Window). encloses other w inner ≡ true) (window_above it (window_at v) ∙ ap (λ o. window_in o (window_at v)) e) has.3

    by : (o : Option (Order × Window)) → own_window it ≡ o → AskBelow world it v order First (Within other inner)
    by None e = window_moved world it v order other inner s from e (sorted, has.1, has.2, above None e)
    by (Some asked) e = window_in_window world it v order asked.0 other asked.1 inner s (windowed world it v asked s e) (has.1, has.2, above (Some asked) e)

keys_from : (world : World) (it : Step) (v : View) → IsStep world it v → is_sorted (shape_at world v) ≡ true → is_sorted (shape_at world (over it v)) ≡ true → source_of it First ≡ Some First
keys_from world it v s sorted above =
    let p = part_down (shape_at world v) it First s.shape s.on.given (sorted_keyed (shape_at world (over it v)) s.above above) in
    p.from ∙ ap Some (sorted_first (shape_at world v) p.below sorted p.unique)

-- ---- the laws of one step, and the whole way down

ask_below : (world : World) (it : Step) (v : View) (order : GroupOrder) (side : Side) (ask : PartAsk) → IsStep world it v → HasAsk world (over it v) side ask → AskBelow world it v order side ask
ask_below world it v order First Any s has = under_any world it v order s
ask_below world it v order Second Any s has = let b = under_any world it v order s in record { part = b.part; below = b.below; down = b.down; has = b.has; of_part = λ t x is. absurd is }
ask_below world it v order side (Is x) s has = under_element world it v order side x s (part_down (shape_at world v) it side s.shape s.on.given has)
ask_below world it v order First (Within o w) s has =
    let sorted : is_sorted (shape_at world v) ≡ true = sorted_down (shape_at world v) it s.shape s.on.given has.0 in
    under_window world it v order o w s (keys_from world it v s sorted has.0) sorted has
ask_below world it v order Second (Within o w) s has = absurd has
ask_below world it v order First Nothing s has = under_nothing world it v order s
ask_below world it v order Second Nothing s has = let b = under_nothing world it v order s in record { part = b.part; below = b.below; down = b.down; has = b.has; of_part = λ t x is. b.of_part t x is }

pub record AskDown (world : World) (v : View) (side : Side) (ask : PartAsk) (back : Bool) : Type 0 where
  pub part : Side
  pub below : PartAsk
  pub from_back : Bool
  pub down : lane_down world v (of_ask side ask) back ≡ Some (of_ask part below, from_back)
  pub served : ServesPart (leaf_at world (base_under v)).kind part below
  pub of_part : (t : Side) (x : Elem) → IsOfPart t x side ask → IsOfPart (part_below v t) x part below

at_base : (world : World) (l : Leaf) (side : Side) (ask : PartAsk) → HasAsk world (base l) side ask → ServesPart (leaf_at world l).kind side ask
at_base world l First Any has = tt
at_base world l Second Any has = tt
at_base world l side (Is x) has = has
at_base world l First (Within order w) has = (has.0, has.1, has.2)
at_base world l Second (Within order w) has = absurd has
at_base world l First Nothing has = tt
at_base world l Second Nothing has = tt

pub ask_down : (world : World) (v : View) (side : Side) (ask : PartAsk) (back : Bool) → is_known_view v ≡ true → is_known_kind (leaf_at world (base_under v)).kind ≡ true → IsMade world v → HasAsk world v side ask → AskDown world v side ask back
ask_down world (base l) side ask back known kind made has = record { part = side; below = ask; from_back = back; down = refl; served = at_base world l side ask has; of_part = λ t x is. is }
ask_down world (over it v) side ask back known kind made has =
    let parts = known_over it v known in
    let s : IsStep world it v = record { known = parts.0; shape = known_shape world v parts.1 kind; above = known_shape world (over it v) known kind; on = made.0 } in
    let under = ask_below world it v (group_order_at world v it) side ask s has in
    let rest = ask_down world v under.part under.below (flipped it back) parts.1 kind made.1 under.has in
    record {
      part = rest.part;
      below = rest.below;
      from_back = rest.from_back;
      down = ap (option_and_then (λ (below : Lane). lane_down world v below (flipped it back))) under.down ∙ rest.down;
      served = rest.served;
      of_part = λ t x is. rest.of_part (part_from (source_of it t) t) x (under.of_part t x is);
    }
ask_down world (both word v u) side ask back known kind made has = absurd (cc)
