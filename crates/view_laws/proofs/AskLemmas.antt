-- What a lane takes that asks one thing more.
use Rattle.std.proofs.Common.{◌≡◌, Bool, true, false, cond, not, ◌&&◌, refl, ap, sym, ◌∙◌, subst}
use Rattle.std.specs.Prelude.{Option, Some, None}
use Rattle.std.specs.Option.{IfSome}
use Rattle.elem.specs.declared.elements.Elem.{Elem}
use Rattle.elem.specs.declared.windows.Window.{Window}
use Rattle.elem.specs.Elements.{same}
use Rattle.elem.specs.ElementLaws.{same-Decides}
use Rattle.vocabulary.specs.declared.items.Item.{Item}
use Rattle.vocabulary.specs.declared.items.Side.{Side}
use Rattle.vocabulary.specs.declared.items.Side.TheVariants.{First, Second}
use Rattle.vocabulary.specs.declared.orders.Order.{Order}
use Rattle.vocabulary.specs.Items.{key_of, part_of, second_of}
use Rattle.vocabulary.specs.Orders.{encloses, lies_in, same_order}
use Rattle.view_laws.specs.declared.lanes.Lane.{Lane}
use Rattle.view_laws.specs.declared.lanes.PartAsk.{PartAsk}
use Rattle.view_laws.specs.declared.lanes.PartAsk.TheVariants.{Any, Is, Within, Nothing}
use Rattle.view_laws.specs.Lanes.{meets, takes}
use Rattle.view_laws.specs.Narrowing.{asks_moved, both_asks, is_any, moved, with_ask, with_first, with_second}
use Rattle.view_laws.proofs.ListLemmas.{and-assoc, and-false, and-true}
use Rattle.view_laws.proofs.OptionLemmas.{if_any, if_as, if_map, if_then}
use Rattle.view_laws.proofs.WindowLemmas.{lies_in-both, same_order-is}

pub and-swap : (a b : Bool) → a && b ≡ b && a
and-swap true b = sym (and-true b)
and-swap false b = sym (and-false b)

-- ---- two asks

is_both : (y z x : Elem) → meets (cond (same y z) (Is y) Nothing) x ≡ (same y x && same z x)
is_both y z x = by (same y z) refl
  where
    neither : (t : Bool) → same y z ≡ false → same y x ≡ t → false ≡ (t && same z x)
    neither false h e = refl
    neither true h e = of (same z x) refl
      where
        of : (u : Bool) → same z x ≡ u → false ≡ u
        of true f = (let g = (same-Decides y z).1 ((same-Decides y x).0 e ∙ sym ((same-Decides z x).0 f)) in cc)
        of false f = refl

    twice : (t : Bool) → t ≡ (t && t)
    twice true = refl
    twice false = refl

    by : (t : Bool) → same y z ≡ t → meets (cond t (Is y) Nothing) x ≡ (same y x && same z x)
    by true h = twice (same y x) ∙ ap (λ w. same y x && same w x) ((same-Decides y z).0 h)
    by false h = neither (same y x) h refl

is_within : (order : Order) (w : Window) (y x : Elem) → meets (cond (lies_in order w y) (Is y) Nothing) x ≡ (same y x && lies_in order w x)
is_within order w y x = by (lies_in order w y) refl
  where
    of : (t : Bool) → same y x ≡ t → (b : Bool) → lies_in order w y ≡ b → meets (cond b (Is y) Nothing) x ≡ (t && lies_in order w x)
    of true e true h = e ∙ sym h ∙ ap (lies_in order w) ((same-Decides y x).0 e)
    of true e false h = sym h ∙ ap (lies_in order w) ((same-Decides y x).0 e)
    of false e true h = e
    of false e false h = refl

    by : (b : Bool) → lies_in order w y ≡ b → meets (cond b (Is y) Nothing) x ≡ (same y x && lies_in order w x)
    by b h = of (same y x) refl b h

asks_meet : (a b : PartAsk) (x : Elem) → IfSome (both_asks a b) (λ c. meets c x ≡ (meets a x && meets b x))
asks_meet Any b x = refl
asks_meet Nothing b x = refl
asks_meet (Is y) Any x = sym (and-true (same y x))
asks_meet (Is y) Nothing x = sym (and-false (same y x))
asks_meet (Is y) (Is z) x = is_both y z x
asks_meet (Is y) (Within order w) x = is_within order w y x
asks_meet (Within order w) Any x = sym (and-true (lies_in order w x))
asks_meet (Within order w) Nothing x = sym (and-false (lies_in order w x))
asks_meet (Within order w) (Is y) x = is_within order w y x ∙ and-swap (same y x) (lies_in order w x)
asks_meet (Within order outer) (Within another inner) x = by (same_order order another) refl
  where
    inside : order ≡ another → (t : Bool) → encloses order outer inner ≡ t → (u : Bool) → encloses order inner outer ≡ u
        → IfSome (cond t (Some (Within another inner)) (cond u (Some (Within order outer)) None)) (λ c. meets c x ≡ (lies_in order outer x && lies_in another inner x))
    inside e true h u k = subst (λ (o : Order). lies_in o inner x ≡ (lies_in order outer x && lies_in o inner x)) e (sym (lies_in-both order outer inner x h))
    inside e false h true k =
        subst (λ (o : Order). lies_in order outer x ≡ (lies_in order outer x && lies_in o inner x)) e (sym (lies_in-both order inner outer x k) ∙ and-swap (lies_in order inner x) (lies_in order outer x))
    inside e false h false k = tt

    by : (t : Bool) → same_order order another ≡ t
        → IfSome (cond (not t) None (cond (encloses order outer inner) (Some (Within another inner)) (cond (encloses order inner outer) (Some (Within order outer)) None))) (λ c. meets c x ≡ (lies_in order outer x && lies_in another inner x))
    by true h = inside (same_order-is order another h) (encloses order outer inner) refl (encloses order inner outer) refl
    by false h = tt

-- ---- a lane with one ask more

first_more : (a b s : Bool) → ((a && b) && s) ≡ ((b && s) && a)
first_more true b s = sym (and-true (b && s))
first_more false b s = sym (and-false (b && s))

second_more : (a b f : Bool) → (f && (a && b)) ≡ ((f && b) && a)
second_more true b f = sym (and-true (f && b))
second_more false b f = and-false f ∙ sym (and-false (f && b))

ask_takes : (side : Side) (ask : PartAsk) (lane : Lane) (item : Item) → IfSome (with_ask side ask lane) (λ l. takes l item ≡ (takes lane item && meets ask (part_of side item)))
ask_takes First ask lane item =
    if_map (with_first lane) (λ c. meets c (key_of item) ≡ (meets ask (key_of item) && meets lane.first (key_of item))) (λ l. takes l item ≡ (takes lane item && meets ask (key_of item))) (both_asks ask lane.first)
    (asks_meet ask lane.first (key_of item)) (λ c e. ap (λ b. b && meets lane.second (second_of item)) e ∙ first_more (meets ask (key_of item)) (meets lane.first (key_of item)) (meets lane.second (second_of item)))
ask_takes Second ask lane item =
    if_map (with_second lane) (λ c. meets c (second_of item) ≡ (meets ask (second_of item) && meets lane.second (second_of item))) (λ l. takes l item ≡ (takes lane item && meets ask (second_of item))) (both_asks ask lane.second)
    (asks_meet ask lane.second (second_of item)) (λ c e. ap (λ b. meets lane.first (key_of item) && b) e ∙ second_more (meets ask (second_of item)) (meets lane.second (second_of item)) (meets lane.first (key_of item)))

ask_pick : (side : Side) (ask : PartAsk) (lane : Lane) → IfSome (with_ask side ask lane) (λ l. l.pick ≡ lane.pick)
ask_pick First ask lane = if_map (with_first lane) (λ c. Unit {0}) (λ l. l.pick ≡ lane.pick) (both_asks ask lane.first) (if_any _ (both_asks ask lane.first) (λ c. tt)) (λ c u. refl)
ask_pick Second ask lane = if_map (with_second lane) (λ c. Unit {0}) (λ l. l.pick ≡ lane.pick) (both_asks ask lane.second) (if_any _ (both_asks ask lane.second) (λ c. tt)) (λ c u. refl)

-- ---- what is asked above, moved below

-- a part above is the part below from which it comes
abbrev pub ComesFrom : Option Side → Elem → Item → Type 0
ComesFrom source x item = IfSome source (λ side. x ≡ part_of side item)

side_takes : (source : Option Side) (ask : PartAsk) (lane : Lane) (item : Item) (x : Elem) → ComesFrom source x item
    → IfSome (moved source ask lane) (λ l. takes l item ≡ (takes lane item && meets ask x))
side_takes source Any lane item x h = sym (and-true (takes lane item))
side_takes source Nothing lane item x h = ask_takes First Nothing lane item
side_takes None (Is y) lane item x h = tt
side_takes None (Within order w) lane item x h = tt
side_takes (Some side) (Is y) lane item x h = subst (λ z. IfSome (with_ask side (Is y) lane) (λ l. takes l item ≡ (takes lane item && meets (Is y) z))) (sym h) (ask_takes side (Is y) lane item)
side_takes (Some side) (Within order w) lane item x h =
    subst (λ z. IfSome (with_ask side (Within order w) lane) (λ l. takes l item ≡ (takes lane item && meets (Within order w) z))) (sym h) (ask_takes side (Within order w) lane item)

moved_takes : (source : Option Side) (ask : PartAsk) (lane : Lane) (item : Item) (x : Elem) → (is_any ask ≡ false → ComesFrom source x item)
    → IfSome (moved source ask lane) (λ l. takes l item ≡ (takes lane item && meets ask x))
moved_takes source Any lane item x h = sym (and-true (takes lane item))
moved_takes source Nothing lane item x h = side_takes source Nothing lane item x (h refl)
moved_takes source (Is y) lane item x h = side_takes source (Is y) lane item x (h refl)
moved_takes source (Within order w) lane item x h = side_takes source (Within order w) lane item x (h refl)

moved_pick : (source : Option Side) (ask : PartAsk) (lane : Lane) → IfSome (moved source ask lane) (λ l. l.pick ≡ lane.pick)
moved_pick source Any lane = refl
moved_pick source Nothing lane = ask_pick First Nothing lane
moved_pick None (Is y) lane = tt
moved_pick None (Within order w) lane = tt
moved_pick (Some side) (Is y) lane = ask_pick side (Is y) lane
moved_pick (Some side) (Within order w) lane = ask_pick side (Within order w) lane

-- below, a lane takes what it takes from the start and what is taken above
pub asks_takes : (first second : Option Side) (lane start : Lane) (item up : Item) → (is_any lane.first ≡ false → ComesFrom first (key_of up) item) → (is_any lane.second ≡ false → ComesFrom second (second_of up) item)
    → IfSome (asks_moved first second lane start) (λ l. takes l item ≡ (takes start item && takes lane up))
asks_takes first second lane start item up h k =
    if_then (moved second lane.second) (λ l. takes l item ≡ (takes start item && meets lane.first (key_of up))) (λ l. takes l item ≡ (takes start item && takes lane up)) (moved first lane.first start)
    (moved_takes first lane.first start item (key_of up) h)
    (λ l e.
    if_as (λ m. takes m item ≡ (takes l item && meets lane.second (second_of up))) (λ m. takes m item ≡ (takes start item && takes lane up)) (moved second lane.second l)
    (moved_takes second lane.second l item (second_of up) k)
    (λ m f. f ∙ ap (λ b. b && meets lane.second (second_of up)) e ∙ and-assoc (takes start item) (meets lane.first (key_of up)) (meets lane.second (second_of up))))

pub asks_pick : (first second : Option Side) (lane start : Lane) → IfSome (asks_moved first second lane start) (λ l. l.pick ≡ start.pick)
asks_pick first second lane start =
    if_then (moved second lane.second) (λ l. l.pick ≡ start.pick) (λ l. l.pick ≡ start.pick) (moved first lane.first start) (moved_pick first lane.first start)
    (λ l e. if_as (λ m. m.pick ≡ l.pick) (λ m. m.pick ≡ start.pick) (moved second lane.second l) (moved_pick second lane.second l) (λ m f. f ∙ e))
