-- Whether a step shows what is asked for, by what the views below it show.
use Rattle.std.proofs.Common.{◌≡◌, ℕ, Bool, true, false, cond, ◌&&◌, ◌||◌, List, [], ◌∷◌, length, map, reverse, refl, ap, sym, ◌∙◌, arith}
use Rattle.std.specs.Prelude.{filter, nat_lt, Option, Some, None}
use Rattle.std.specs.List.{list_any, AllByRecursion}
use Rattle.std.specs.Option.{IfSome}
use Rattle.std.proofs.lemmas.Bool.Decides.{nat_tests}
use Rattle.std.proofs.lemmas.List.{reverse-append}
use Rattle.elem.specs.declared.elements.Elem.{Elem}
use Rattle.elem.specs.Elements.{same}
use Rattle.elem.specs.ElementLaws.{same-Decides, same_equiv}
use Rattle.vocabulary.specs.declared.items.Item.TheVariants.{One}
use Rattle.vocabulary.specs.declared.items.Side.TheVariants.{First, Second}
use Rattle.vocabulary.specs.declared.step_table.Family.{Family}
use Rattle.vocabulary.specs.declared.step_table.Family.TheVariants as family
use Rattle.vocabulary.specs.declared.steps.Step.{Step}
use Rattle.vocabulary.specs.Items.{part_of}
use Rattle.vocabulary.specs.Steps.{family_of, group_item, item_of, passes, side_of}
use Rattle.machine.specs.Bases.{World}
use Rattle.machine.specs.Candidates.{Candidate, changed, cut, group, grouped, in_family, is_seen, keys_in, members, of_key, with_item}
use Rattle.machine.specs.KeyOrders.{AsTheyCome, ByFirst, Kept, KeyOrder, Sorted, arranged, each_once, in_order, inserted, is_among}
use Rattle.vocabulary.specs.declared.items.Side.{Side}
use Rattle.vocabulary.specs.declared.orders.Order.{Order}
use Rattle.vocabulary.specs.Orders.{before}
use Rattle.view_laws.proofs.KeyLemmas.{once-among}
use Rattle.machine.specs.Views.{View, over, candidates, order_over}
use Rattle.view_laws.specs.declared.lanes.Lane.{Lane}
use Rattle.view_laws.specs.declared.lanes.PartAsk.TheVariants.{Any}
use Rattle.view_laws.specs.Lanes.{meets, takes}
use Rattle.view_laws.specs.LookUps.{HasGroups, leaves_none, TellsEach, look_below, look_in, shows_in}
use Rattle.view_laws.specs.Narrowing.{asked_by, asking, asks_moved, source_of}
use Rattle.view_laws.proofs.AskLemmas.{asks_takes}
use Rattle.view_laws.proofs.ListLemmas.{all-as, and-false, and-true, any-and, any-append, any-filter, any-map, any-same}
use Rattle.view_laws.proofs.OptionLemmas.{if_as, if_is}
use Rattle.view_laws.proofs.PartTable.{asked_passes, group_part, part_told}

-- ---- lists

pub any-all : {X : Type 0} (p q : X → Bool) (xs : List X) → AllByRecursion (λ x. p x ≡ q x) xs → list_any p xs ≡ list_any q xs
any-all p q [] a = refl
any-all p q (x ∷ xs) a = (λ i. a.0 i || any-all p q xs a.1 i)

each-if : {X Z : Type 0} (P : Z → X → Type 0) (o : Option X) (zs : List Z) → AllByRecursion (λ z. IfSome o (P z)) zs → IfSome o (λ x. AllByRecursion (λ z. P z x) zs)
each-if P None zs a = tt
each-if P (Some x) zs a = a

or-none : (a : Bool) → (a || false) ≡ a
or-none true = refl
or-none false = refl

or-swap : (a b : Bool) → (a || b) ≡ (b || a)
or-swap true true = refl
or-swap true false = refl
or-swap false true = refl
or-swap false false = refl

any-reverse : {X : Type 0} (p : X → Bool) (xs : List X) → list_any p (reverse xs) ≡ list_any p xs
any-reverse p [] = refl
any-reverse p (x ∷ xs) =
    ap (list_any p) (reverse-append (x ∷ []) xs) ∙ any-append p (reverse xs) (x ∷ []) ∙ (λ i. any-reverse p xs i || or-none (p x) i) ∙ or-swap (list_any p xs) (p x)

any-none : {X : Type 0} (xs : List X) → list_any (λ _. false) xs ≡ false
any-none [] = refl
any-none (x ∷ xs) = any-none xs

any-or : {X : Type 0} (p q : X → Bool) (xs : List X) → list_any (λ x. p x || q x) xs ≡ (list_any p xs || list_any q xs)
any-or p q [] = refl
any-or {X} p q (x ∷ xs) = ap (λ b. (p x || q x) || b) (any-or p q xs) ∙ by (p x) (q x) (list_any p xs) (list_any q xs)
  where
    by : (a b c d : Bool) → ((a || b) || (c || d)) ≡ ((a || c) || (b || d))
    by true b c d = refl
    by false true true d = refl
    by false true false d = refl
    by false false c d = refl

-- two searches, one in the other, in either order
any-exchange : {X Y : Type 0} (r : X → Y → Bool) (xs : List X) (ys : List Y) → list_any (λ x. list_any (r x) ys) xs ≡ list_any (λ y. list_any (λ x. r x y) xs) ys
any-exchange r [] ys = sym (any-none ys)
any-exchange r (x ∷ xs) ys = ap (λ b. list_any (r x) ys || b) (any-exchange r xs ys) ∙ sym (any-or (r x) (λ y. list_any (λ z. r z y) xs) ys)

some-pass : {X : Type 0} (p : X → Bool) (xs : List X) → nat_lt 0 (length (filter p xs)) ≡ list_any p xs
some-pass p [] = refl
some-pass p (x ∷ xs) = by (p x) (some-pass p xs)
  where
    by : (t : Bool) → nat_lt 0 (length (filter p xs)) ≡ list_any p xs → nat_lt 0 (length (cond t (x ∷ filter p xs) (filter p xs))) ≡ (t || list_any p xs)
    by true h = grind (arith, nat_tests)
    by false h = h

-- ---- what is taken below

told_takes : (it : Step) (lane start : Lane) (cs : List Candidate) → TellsEach it lane cs
    → IfSome (asks_moved (source_of it First) (source_of it Second) lane start) (λ below. AllByRecursion (λ (c : Candidate). takes below c.item ≡ (takes start c.item && takes lane (item_of it c.item))) cs)
told_takes it lane start cs told =
    each-if (λ (c : Candidate) below. takes below c.item ≡ (takes start c.item && takes lane (item_of it c.item))) (asks_moved (source_of it First) (source_of it Second) lane start) cs
    (all-as _ _
    (λ (c : Candidate) h.
    asks_takes (source_of it First) (source_of it Second) lane start c.item (item_of it c.item) (λ asked. part_told it First c.item (h First asked)) (λ asked. part_told it Second c.item (h Second asked)))
    cs told)

-- ---- each family

abbrev ShowsBelow : Lane → List Candidate → List Candidate → Lane → Type 0
ShowsBelow lane above cs below = shows_in lane above ≡ shows_in below cs

shows_changed : (it : Step) (lane : Lane) (cs : List Candidate) → TellsEach it lane cs
    → IfSome (asks_moved (source_of it First) (source_of it Second) lane (asking Any Any)) (ShowsBelow lane (changed (item_of it) cs) cs)
shows_changed it lane cs told =
    if_as _ (ShowsBelow lane (changed (item_of it) cs) cs) (asks_moved (source_of it First) (source_of it Second) lane (asking Any Any)) (told_takes it lane (asking Any Any) cs told)
    (λ below h.
    any-map (λ (c : Candidate). c.seen && takes lane c.item) (with_item (item_of it)) cs
    ∙ any-all (λ (c : Candidate). c.seen && takes lane (item_of it c.item)) (λ (c : Candidate). c.seen && takes below c.item) cs (all-as _ _ (λ (c : Candidate) e. ap (λ b. c.seen && b) (sym e)) cs h))

cut_one : (s t m : Bool) → ((s && m) && t) ≡ (s && (t && m))
cut_one true true m = and-true m
cut_one true false m = and-false m
cut_one false t m = refl

shows_cut : (it : Step) (lane : Lane) (cs : List Candidate) → family_of it ≡ family.Cut → TellsEach it lane cs
    → IfSome (asks_moved (source_of it First) (source_of it Second) lane (asked_by it)) (ShowsBelow lane (changed (item_of it) (cut (passes it) cs)) cs)
shows_cut it lane cs is told =
    if_as _ (ShowsBelow lane (changed (item_of it) (cut (passes it) cs)) cs) (asks_moved (source_of it First) (source_of it Second) lane (asked_by it)) (told_takes it lane (asked_by it) cs told)
    (λ below h.
    any-map (λ (c : Candidate). c.seen && takes lane c.item) (with_item (item_of it)) (cut (passes it) cs)
    ∙ any-filter (λ (c : Candidate). c.seen && takes lane (item_of it c.item)) (λ (c : Candidate). passes it c.item) cs
    ∙ any-all (λ (c : Candidate). (c.seen && takes lane (item_of it c.item)) && passes it c.item) (λ (c : Candidate). c.seen && takes below c.item) cs
    (all-as _ _ (λ (c : Candidate) e. cut_one c.seen (passes it c.item) (takes lane (item_of it c.item)) ∙ ap (λ b. c.seen && (b && takes lane (item_of it c.item))) (asked_passes it c.item is) ∙ ap (λ b. c.seen && b) (sym e)) cs h))

-- ---- groups

-- whether the group of a key shows what is asked for
group_shows : (it : Step) (lane : Lane) (cs : List Candidate) (k : Elem)
    → (nat_lt 0 (length (members (side_of it) k cs)) && takes lane (group_item it k (length (members (side_of it) k cs)))) ≡ list_any (λ (c : Candidate). takes lane (One k) && (c.seen && same k (part_of (side_of it) c.item))) cs
group_shows it lane cs k =
    let n : ℕ = length (members (side_of it) k cs) in
    (λ i. some-pass is_seen (of_key (side_of it) k cs) i && (meets lane.first (group_part it First k n i) && meets lane.second (group_part it Second k n i)))
    ∙ ap (λ b. b && takes lane (One k)) (any-filter is_seen (λ (c : Candidate). same k (part_of (side_of it) c.item)) cs)
    ∙ swap (list_any (λ (c : Candidate). c.seen && same k (part_of (side_of it) c.item)) cs) (takes lane (One k))
    ∙ sym (any-and (takes lane (One k)) (λ (c : Candidate). c.seen && same k (part_of (side_of it) c.item)) (λ (c : Candidate). takes lane (One k) && (c.seen && same k (part_of (side_of it) c.item))) cs (λ c. refl))
  where
    swap : (a b : Bool) → (a && b) ≡ (b && a)
    swap true b = sym (and-true b)
    swap false b = sym (and-false b)

-- among the keys, that of a candidate shows it
key_shows : (lane : Lane) (s : Bool) (x : Elem) (ks : List Elem) → is_among ks x ≡ true → list_any (λ k. takes lane (One k) && (s && same k x)) ks ≡ (s && takes lane (One x))
key_shows lane s x ks among =
    any-and (s && takes lane (One x)) (same x) (λ k. takes lane (One k) && (s && same k x)) ks (λ k. by k (same k x) refl (same x k) refl)
    ∙ ap (λ b. (s && takes lane (One x)) && b) among ∙ and-true (s && takes lane (One x))
  where
    swap : (m s : Bool) → (m && (s && true)) ≡ ((s && m) && true)
    swap true true = refl
    swap true false = refl
    swap false true = refl
    swap false false = refl

    by : (k : Elem) (t : Bool) → same k x ≡ t → (u : Bool) → same x k ≡ u → (takes lane (One k) && (s && t)) ≡ ((s && takes lane (One x)) && u)
    by k true e true f = ap (λ y. takes lane (One y) && (s && true)) ((same-Decides k x).0 e) ∙ swap (takes lane (One x)) s
    by k true e false f = (let g = (same-Decides x k).1 (sym ((same-Decides k x).0 e)) in cc)
    by k false e true f = (let g = (same-Decides k x).1 (sym ((same-Decides x k).0 f)) in cc)
    by k false e false f = ap (λ b. takes lane (One k) && b) (and-false s) ∙ and-false (takes lane (One k)) ∙ sym (and-false (s && takes lane (One x)))

shows_grouped : (it : Step) (lane : Lane) (order : KeyOrder) (cs : List Candidate) → AllByRecursion (λ (c : Candidate). is_among (keys_in (side_of it) order cs) (part_of (side_of it) c.item) ≡ true) cs
    → IfSome (asks_moved (Some (side_of it)) (Some (side_of it)) lane (asking Any Any)) (ShowsBelow lane (grouped (side_of it) (group_item it) order cs) cs)
shows_grouped it lane order cs covers =
    if_as _ (ShowsBelow lane (grouped (side_of it) (group_item it) order cs) cs) (asks_moved (Some (side_of it)) (Some (side_of it)) lane (asking Any Any))
    (each-if (λ (c : Candidate) below. takes below c.item ≡ (takes (asking Any Any) c.item && takes lane (One (part_of (side_of it) c.item)))) (asks_moved (Some (side_of it)) (Some (side_of it)) lane (asking Any Any)) cs
    (all-as _ _ (λ (c : Candidate) h. asks_takes (Some (side_of it)) (Some (side_of it)) lane (asking Any Any) c.item (One (part_of (side_of it) c.item)) (λ asked. refl) (λ asked. refl)) cs covers))
    (λ below h.
    any-map (λ (c : Candidate). c.seen && takes lane c.item) (group (side_of it) (group_item it) cs) (keys_in (side_of it) order cs)
    ∙ any-same _ _ (keys_in (side_of it) order cs) (group_shows it lane cs)
    ∙ any-exchange (λ k (c : Candidate). takes lane (One k) && (c.seen && same k (part_of (side_of it) c.item))) (keys_in (side_of it) order cs) cs
    ∙ any-all _ (λ (c : Candidate). c.seen && takes lane (One (part_of (side_of it) c.item))) cs
    (all-as _ _ (λ (c : Candidate) among. key_shows lane c.seen (part_of (side_of it) c.item) (keys_in (side_of it) order cs) among) cs covers)
    ∙ any-all _ (λ (c : Candidate). c.seen && takes below c.item) cs (all-as _ _ (λ (c : Candidate) e. ap (λ b. c.seen && b) (sym e)) cs h))

look_step : (of : Family) (it : Step) → family_of it ≡ of → (lane : Lane) (order : KeyOrder) (cs : List Candidate) → TellsEach it lane cs
    → AllByRecursion (λ (c : Candidate). is_among (keys_in (side_of it) order cs) (part_of (side_of it) c.item) ≡ true) cs → IfSome (look_in of it lane) (ShowsBelow lane (in_family of it order cs) cs)
look_step family.Same it is lane order cs told covers = refl
look_step family.Changed it is lane order cs told covers = shows_changed it lane cs told
look_step family.Turned it is lane order cs told covers = any-reverse (λ (c : Candidate). c.seen && takes lane c.item) cs
look_step family.Keyed it is lane order cs told covers = tt
look_step family.Hidden it is lane order cs told covers = tt
look_step family.Cut it is lane order cs told covers = shows_cut it lane cs is told
look_step family.Grouped it is lane order cs told covers = shows_grouped it lane order cs covers
look_step family.Run it is lane order cs told covers = tt
look_step family.Pieces it is lane order cs told covers = tt

pub shows-over : (world : World) (it : Step) (v : View) (lane below : Lane) → TellsEach it lane (candidates world v) → HasGroups world v it → look_below it lane ≡ Some below
    → shows_in lane (candidates world (over it v)) ≡ shows_in below (candidates world v)
shows-over world it v lane below told covers is =
    if_is (ShowsBelow lane (candidates world (over it v)) (candidates world v)) (look_below it lane) below is (look_step (family_of it) it refl lane (order_over world v it) (candidates world v) told covers)

-- ---- no key is left out

or-first : (a b c : Bool) → (a || (b || c)) ≡ (b || (a || c))
or-first true true c = refl
or-first true false c = refl
or-first false b c = refl

among-inserted : (order : Order) (x k : Elem) (ks : List Elem) → is_among (inserted order k ks) x ≡ (same x k || is_among ks x)
among-inserted order x k [] = refl
among-inserted order x k (l ∷ ks) = by (among-inserted order x k ks) (before order k l)
  where
    by : is_among (inserted order k ks) x ≡ (same x k || is_among ks x) → (t : Bool) → is_among (cond t (k ∷ l ∷ ks) (l ∷ inserted order k ks)) x ≡ (same x k || (same x l || is_among ks x))
    by rest true = refl
    by rest false = ap (λ b. same x l || b) rest ∙ or-first (same x l) (same x k) (is_among ks x)

among-ordered : (order : Order) (x : Elem) (ks : List Elem) → is_among (in_order order ks) x ≡ is_among ks x
among-ordered order x [] = refl
among-ordered order x (k ∷ ks) = among-inserted order x k (in_order order ks) ∙ ap (λ b. same x k || b) (among-ordered order x ks)

among-arranged : (order : KeyOrder) (x : Elem) (ks : List Elem) → leaves_none order ≡ true → is_among (arranged order (each_once ks)) x ≡ is_among ks x
among-arranged AsTheyCome x ks h = once-among x ks
among-arranged ByFirst x ks h = once-among x ks
among-arranged (Kept order) x ks h = absurd (cc)
among-arranged (Sorted order) x ks h = among-ordered order x (each_once ks) ∙ once-among x ks

parts_there : (side : Side) (ks : List Elem) (cs : List Candidate) → ((x : Elem) → is_among (map (λ (c : Candidate). part_of side c.item) cs) x ≡ true → is_among ks x ≡ true)
    → AllByRecursion (λ (c : Candidate). is_among ks (part_of side c.item) ≡ true) cs
parts_there side ks [] h = tt
parts_there side ks (c ∷ cs) h = (
  h (part_of side c.item) (ap (λ b. b || is_among (map (λ (d : Candidate). part_of side d.item) cs) (part_of side c.item)) (same_equiv.refl (part_of side c.item))),
  parts_there side ks cs (λ x e. h x (ap (λ b. same x (part_of side c.item) || b) e ∙ or-swap (same x (part_of side c.item)) true)),
)

pub groups-there : (world : World) (v : View) (it : Step) → leaves_none (order_over world v it) ≡ true → HasGroups world v it
groups-there world v it h =
    parts_there (side_of it) (keys_in (side_of it) (order_over world v it) (candidates world v)) (candidates world v)
    (λ x e. among-arranged (order_over world v it) x (map (λ (c : Candidate). part_of (side_of it) c.item) (candidates world v)) h ∙ e)
