-- Which candidates are walked above a step, and which below it.
use Rattle.std.proofs.Common.{◌≡◌, ℕ, zero, suc, ◌+◌, ◌-◌, min, Bool, true, false, cond, not, List, [], ◌∷◌, map, reverse, refl, ap, sym, ◌∙◌, arith}
use Rattle.std.specs.Prelude.{drop, filter, flat_map, take, Option, Some, None, option_map}
use Rattle.std.specs.List.{AllByRecursion}
use Rattle.std.specs.Option.{IfSome}
use Rattle.std.proofs.lemmas.List.{drop-drop, reverse-reverse}
use Rattle.elem.specs.declared.elements.Elem.{Elem}
use Rattle.elem.specs.Elements.{same}
use Rattle.vocabulary.specs.declared.items.Side.{Side}
use Rattle.vocabulary.specs.declared.items.Side.TheVariants.{First, Second}
use Rattle.vocabulary.specs.declared.steps.Step.{Step}
use Rattle.vocabulary.specs.declared.sublists.Sublist.{Sublist}
use Rattle.vocabulary.specs.Items.{part_of}
use Rattle.machine.specs.KeyOrders as keys
use Rattle.machine.specs.KeyOrders.{KeyOrder, arranged, each_once}
use Rattle.view_laws.specs.declared.lanes.GroupOrder.{GroupOrder}
use Rattle.view_laws.specs.declared.lanes.GroupOrder.TheVariants as group
use Rattle.view_laws.specs.declared.lanes.Pick.{Pick}
use Rattle.view_laws.specs.declared.lanes.Pick.TheVariants.{Each, Firsts, Lasts, Run as OfRun}
use Rattle.view_laws.specs.declared.lanes.Run.{Run}
use Rattle.view_laws.specs.declared.places.Found.{Found}
use Rattle.view_laws.specs.declared.places.Place.{Place}
use Rattle.view_laws.specs.Lanes.{order_in, picked, run_picked, turned_if}
use Rattle.view_laws.specs.Narrowing.{firsts_by, is_by, pick_moved, pick_turned, run_within, source_of}
use Rattle.view_laws.specs.Places.{first_only, heads, is_seen_at, part_at, passes_at, places_of_run}
use Rattle.view_laws.proofs.ListLemmas.{all-drop, all-passing, all-take, filter-reverse}
use Rattle.view_laws.proofs.OptionLemmas.{if_map}

-- ---- below a step that makes other items

-- a part of what is made of each thing found is a part of that
abbrev pub MakesPart : (Found → Found) → (Place → Option Found) → Side → Side → Type 0
MakesPart g at side below = (p : Place) (d : Found) → at p ≡ Some d → part_of side (g d).item ≡ part_of below d.item

part_made : (g : Found → Found) (side below : Side) (o : Option Found) → ((d : Found) → o ≡ Some d → part_of side (g d).item ≡ part_of below d.item) → part_at side (option_map g o) ≡ part_at below o
part_made g side below None h = refl
part_made g side below (Some d) h = h d refl

key_made : (g : Found → Found) (side below : Side) (k : Elem) (o : Option Found) → ((d : Found) → o ≡ Some d → part_of side (g d).item ≡ part_of below d.item)
    → passes_at (λ item. same k (part_of side item)) (option_map g o) ≡ passes_at (λ item. same k (part_of below item)) o
key_made g side below k None h = refl
key_made g side below k (Some d) h = ap (same k) (h d refl)

pub heads_made : (g : Found → Found) (side below : Side) (order : KeyOrder) (at : Place → Option Found) (ps : List Place) → MakesPart g at side below → heads side order (λ p. option_map g (at p)) ps ≡ heads below order at ps
heads_made g side below order at ps h =
    (λ i. flat_map (λ k. first_only (filter (λ p. key_made g side below k (at p) (h p) i) ps)) (arranged order (each_once (map (λ p. part_made g side below (at p) (h p) i) ps))))

seen_made : (g : Found → Found) → ((d : Found) → (g d).seen ≡ d.seen) → (o : Option Found) → is_seen_at (option_map g o) ≡ is_seen_at o
seen_made g h None = refl
seen_made g h (Some d) = h d

by_first : (side : Side) (order : GroupOrder) → is_by (Firsts side order) side ≡ true
by_first First order = refl
by_first Second order = refl

by_last : (side : Side) → is_by (Lasts side) side ≡ true
by_last First = refl
by_last Second = refl

pub picks_made : (step : Step) (g : Found → Found) → ((d : Found) → (g d).seen ≡ d.seen) → (pick : Pick) (ks : List Elem) (at : Place → Option Found) (ps : List Place)
    → ((side : Side) → is_by pick side ≡ true → IfSome (source_of step side) (MakesPart g at side))
    → IfSome (pick_moved step pick) (λ below. picked pick ks (λ p. option_map g (at p)) ps ≡ picked below ks at ps)
picks_made step g seen Each ks at ps h = refl
picks_made step g seen (Firsts side order) ks at ps h =
    if_map (firsts_by order) (MakesPart g at side) (λ below. picked (Firsts side order) ks (λ p. option_map g (at p)) ps ≡ picked below ks at ps) (source_of step side) (h side (by_first side order))
    (λ below m. heads_made g side below (order_in ks order) at ps m)
picks_made step g seen (Lasts side) ks at ps h =
    if_map Lasts (MakesPart g at side) (λ below. picked (Lasts side) ks (λ p. option_map g (at p)) ps ≡ picked below ks at ps) (source_of step side) (h side (by_last side))
    (λ below m. ap reverse (heads_made g side below keys.ByFirst at (reverse ps) m))
picks_made step g seen (OfRun r) ks at ps h = (λ i. run_picked r (filter (λ p. seen_made g seen (at p) i) ps))

-- ---- below a step that turns the walk round

pub turned-reverse : {X : Type 0} (t : Bool) (xs : List X) → turned_if t (reverse xs) ≡ turned_if (not t) xs
turned-reverse true xs = reverse-reverse xs
turned-reverse false xs = refl

turned-not : {X : Type 0} (t : Bool) (xs : List X) → turned_if t xs ≡ reverse (turned_if (not t) xs)
turned-not true xs = refl
turned-not false xs = sym (reverse-reverse xs)

abbrev TurnsRound : Pick → List Elem → (Place → Option Found) → List Place → Pick → Type 0
TurnsRound pick ks at ps below = picked pick ks at (reverse ps) ≡ reverse (picked below ks at ps)

run_turned : (r : Run) (ps : List Place) → run_picked r (reverse ps) ≡ reverse (run_picked (record { start = r.start; len = r.len; from_back = not r.from_back }) ps)
run_turned r ps =
    ap (λ qs. turned_if r.from_back (take r.len (drop r.start qs))) (turned-reverse r.from_back ps)
    ∙ turned-not r.from_back (take r.len (drop r.start (turned_if (not r.from_back) ps)))

pub picks_turned : (pick : Pick) (ks : List Elem) (at : Place → Option Found) (ps : List Place) → IfSome (pick_turned pick) (TurnsRound pick ks at ps)
picks_turned Each ks at ps = refl
picks_turned (Firsts side group.ByFirst) ks at ps = sym (reverse-reverse (heads side keys.ByFirst at (reverse ps)))
picks_turned (Firsts side group.AsTheyCome) ks at ps = tt
picks_turned (Firsts side group.OfBase) ks at ps = tt
picks_turned (Firsts side (group.Sorted order)) ks at ps = tt
picks_turned (Lasts side) ks at ps = ap (λ qs. reverse (heads side keys.ByFirst at qs)) (reverse-reverse ps)
picks_turned (OfRun r) ks at ps = ap (run_picked r) (filter-reverse (λ p. is_seen_at (at p)) ps) ∙ run_turned r (filter (λ p. is_seen_at (at p)) ps)

-- ---- below a run

take-none : {X : Type 0} (xs : List X) (k : ℕ) → xs ≡ [] → xs ≡ take k xs
take-none xs zero e = e
take-none [] (suc k) e = refl
take-none (x ∷ xs) (suc k) e = absurd (cc)

drop-taken : {X : Type 0} (n m : ℕ) (xs : List X) → drop n (take m xs) ≡ take (m - n) (drop n xs)
drop-taken zero m xs = ap (λ k. take k xs) (let e : m ≡ m - 0 = omega arith in e)
drop-taken (suc n) zero xs = ap (λ k. take k (drop (suc n) xs)) (let e : 0 ≡ 0 - suc n = omega arith in e)
drop-taken (suc n) (suc m) [] = take-none [] (suc m - suc n) refl
drop-taken (suc n) (suc m) (x ∷ xs) = drop-taken n m xs ∙ ap (λ k. take k (drop n xs)) (let e : m - n ≡ suc m - suc n = omega arith in e)

take-taken : {X : Type 0} (n m : ℕ) (xs : List X) → take n (take m xs) ≡ take (min n m) xs
take-taken zero m xs = ap (λ k. take k xs) (let e : 0 ≡ min 0 m = omega arith in e)
take-taken (suc n) zero xs = ap (λ k. take k xs) (let e : 0 ≡ min (suc n) 0 = omega arith in e)
take-taken (suc n) (suc m) [] = ap (λ k. take k []) (let e : suc (min n m) ≡ min (suc n) (suc m) = omega arith in e)
take-taken (suc n) (suc m) (x ∷ xs) = ap (λ ys. x ∷ ys) (take-taken n m xs) ∙ ap (λ k. take k (x ∷ xs)) (let e : suc (min n m) ≡ min (suc n) (suc m) = omega arith in e)

pub filter-passing : {X : Type 0} (p : X → Bool) (xs : List X) → AllByRecursion (λ x. p x ≡ true) xs → filter p xs ≡ xs
filter-passing p [] a = refl
filter-passing p (x ∷ xs) a = rw (a.0, filter-passing p xs a.1) refl

-- a run of a run
run-run : (s : Sublist) (start len : ℕ) (ps : List Place) → take len (drop start (take s.len (drop s.start ps))) ≡ take (min len (s.len - start)) (drop (start + s.start) ps)
run-run s start len ps =
    ap (take len) (drop-taken start s.len (drop s.start ps))
    ∙ take-taken len (s.len - start) (drop start (drop s.start ps))
    ∙ ap (take (min len (s.len - start))) (drop-drop start s.start ps ∙ ap (λ n. drop n ps) (let e : s.start + start ≡ start + s.start = omega arith in e))

-- what is picked of a sublist is a run of what is seen
pub picks_within : (s : Sublist) (pick : Pick) (ks : List Elem) (at : Place → Option Found) (ps : List Place)
    → IfSome (run_within s pick) (λ r. picked pick ks at (places_of_run s at ps) ≡ run_picked r (filter (λ p. is_seen_at (at p)) ps))
picks_within s Each ks at ps = refl
picks_within s (Firsts side order) ks at ps = tt
picks_within s (Lasts side) ks at ps = tt
picks_within s (OfRun r) ks at ps = by r.from_back
  where
    seen : List Place
    seen = filter (λ p. is_seen_at (at p)) ps

    all_seen : filter (λ p. is_seen_at (at p)) (places_of_run s at ps) ≡ places_of_run s at ps
    all_seen = filter-passing (λ p. is_seen_at (at p)) (places_of_run s at ps) (all-take _ s.len _ (all-drop _ s.start seen (all-passing (λ p. is_seen_at (at p)) ps)))

    by : (back : Bool)
        → IfSome (cond back None (Some (record { start = r.start + s.start; len = min r.len (s.len - r.start); from_back = false })))
        (λ q. turned_if back (take r.len (drop r.start (turned_if back (filter (λ p. is_seen_at (at p)) (places_of_run s at ps))))) ≡ run_picked q (filter (λ p. is_seen_at (at p)) ps))
    by true = tt
    by false = ap (λ qs. take r.len (drop r.start qs)) all_seen ∙ run-run s r.start r.len seen
