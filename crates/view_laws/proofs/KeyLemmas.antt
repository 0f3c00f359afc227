-- Each key by which some candidates are grouped is that of one of them.
use Rattle.std.proofs.Common.{◌≡◌, Bool, true, false, cond, not, ◌&&◌, ◌||◌, List, [], ◌∷◌, map, refl, ap, sym, ◌∙◌}
use Rattle.std.specs.Prelude.{filter}
use Rattle.std.specs.List.{list_any, AllByRecursion}
use Rattle.elem.specs.declared.elements.Elem.{Elem}
use Rattle.elem.specs.Elements.{same}
use Rattle.elem.specs.ElementLaws.{same-Decides, same_equiv}
use Rattle.vocabulary.specs.declared.items.Side.{Side}
use Rattle.vocabulary.specs.declared.orders.Order.{Order}
use Rattle.vocabulary.specs.Items.{part_of}
use Rattle.vocabulary.specs.Orders.{before}
use Rattle.machine.specs.Candidates.{Candidate, of_key}
use Rattle.machine.specs.KeyOrders.{AsTheyCome, ByFirst, Kept, KeyOrder, Sorted, arranged, each_once, in_order, inserted, is_among}
use Rattle.view_laws.proofs.ListLemmas.{all-as, all-filter, all-passing, any-filter, any-same}

-- a key that is told from another is not found by it
pub other_key : (a b : Elem) → same a b ≡ false → (x : Elem) → same a x ≡ true → same b x ≡ false
other_key a b h x e = by (same b x) refl
  where
    by : (t : Bool) → same b x ≡ t → t ≡ false
    by true f = (let g = (same-Decides a b).1 ((same-Decides a x).0 e ∙ sym ((same-Decides b x).0 f)) in cc)
    by false f = refl

turned_round : (a b : Elem) → same a b ≡ false → same b a ≡ false
turned_round a b h = by (same b a) refl
  where
    by : (t : Bool) → same b a ≡ t → t ≡ false
    by true e = (let f = (same-Decides a b).1 (sym ((same-Decides b a).0 e)) in cc)
    by false e = refl

-- the same keys are among some keys and among those, each once
pub once-among : (k : Elem) (ks : List Elem) → is_among (each_once ks) k ≡ is_among ks k
once-among k [] = refl
once-among k (l ∷ ks) = by (once-among k ks) (same k l) refl
  where
    passed : same k l ≡ false → (x : Elem) → (same k x && not (same l x)) ≡ same k x
    passed h x = of (same k x) refl
      where
        of : (t : Bool) → same k x ≡ t → (t && not (same l x)) ≡ t
        of true e = ap not (other_key k l h x e)
        of false e = refl

    by : is_among (each_once ks) k ≡ is_among ks k → (t : Bool) → same k l ≡ t → (t || list_any (same k) (filter (λ x. not (same l x)) (each_once ks))) ≡ (t || list_any (same k) ks)
    by rest true h = refl
    by rest false h = any-filter (same k) (λ x. not (same l x)) (each_once ks) ∙ any-same _ (same k) (each_once ks) (passed h) ∙ rest

-- each key of some is among these
abbrev pub AllAmong : List Elem → List Elem → Type 0
AllAmong whole ks = AllByRecursion (λ k. is_among whole k ≡ true) ks

one_more : (l k : Elem) (ks : List Elem) → is_among ks k ≡ true → is_among (l ∷ ks) k ≡ true
one_more l k ks h = ap (λ b. same k l || b) h ∙ by (same k l)
  where
    by : (t : Bool) → (t || true) ≡ true
    by true = refl
    by false = refl

once_there : (ks : List Elem) → AllAmong ks (each_once ks)
once_there [] = tt
once_there (k ∷ ks) =
    (ap (λ b. b || is_among ks k) (same_equiv.refl k), all-filter _ (λ l. not (same k l)) (each_once ks) (all-as _ _ (λ l h. one_more k l ks h) (each_once ks) (once_there ks)))

inserted_all : (P : Elem → Type 0) (order : Order) (k : Elem) (ks : List Elem) → P k → AllByRecursion P ks → AllByRecursion P (inserted order k ks)
inserted_all P order k [] h a = (h, tt)
inserted_all P order k (l ∷ ks) h a = by (inserted_all P order k ks h a.1) (before order k l)
  where
    by : AllByRecursion P (inserted order k ks) → (t : Bool) → AllByRecursion P (cond t (k ∷ l ∷ ks) (l ∷ inserted order k ks))
    by rest true = (h, a)
    by rest false = (a.0, rest)

ordered_all : (P : Elem → Type 0) (order : Order) (ks : List Elem) → AllByRecursion P ks → AllByRecursion P (in_order order ks)
ordered_all P order [] a = tt
ordered_all P order (k ∷ ks) a = inserted_all P order k (in_order order ks) a.0 (ordered_all P order ks a.1)

pub arranged_there : (order : KeyOrder) (ks : List Elem) → AllAmong ks (arranged order (each_once ks))
arranged_there AsTheyCome ks = once_there ks
arranged_there ByFirst ks = once_there ks
arranged_there (Kept order) ks = all-as _ _ (λ k h. sym (once-among k ks) ∙ h) (filter (is_among (each_once ks)) order) (all-passing (is_among (each_once ks)) order)
arranged_there (Sorted order) ks = ordered_all _ order (each_once ks) (once_there ks)

-- a key that is one of theirs has candidates
pub has_members : (side : Side) (k : Elem) (cs : List Candidate) → is_among (map (λ (c : Candidate). part_of side c.item) cs) k ≡ true → of_key side k cs ≡ [] → ⊥
has_members side k [] among none = cc
has_members side k (c ∷ cs) among none = by (has_members side k cs) (same k (part_of side c.item)) among none
  where
    by : (is_among (map (λ (d : Candidate). part_of side d.item) cs) k ≡ true → of_key side k cs ≡ [] → ⊥) → (t : Bool) → (t || is_among (map (λ (d : Candidate). part_of side d.item) cs) k) ≡ true → cond t (c ∷ of_key side k cs) (of_key side k cs) ≡ [] → ⊥
    by rest true h e = cc
    by rest false h e = rest h e
