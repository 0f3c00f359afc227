-- Elements that are read from a view, one after another.
use Rattle.std.proofs.Common.{◌≡◌, Bool, true, false, cond, not, ◌||◌, List, [], ◌∷◌, ◌++◌, Some, None, refl, sym, ap, ◌∙◌}
use Rattle.std.specs.Prelude.{Result, Ok, Err, OnOk, is_some}
use Rattle.std.specs.List.{list_any}
use Rattle.std.specs.Map.{lookup}
use Rattle.elem.specs.declared.elements.Elem.{Elem}
use Rattle.elem.specs.declared.outside.NoMemory.{NoMemory}
use Rattle.elem.specs.Elements.{same}
use Rattle.elem.specs.Keyed.{value_at}
use Rattle.elem.specs.ElementLaws.{same-Decides}
use Rattle.vocabulary.specs.declared.items.Item.{Item}
use Rattle.vocabulary.specs.declared.items.Item.TheVariants.{One}
use Rattle.machine.specs.Shown.{has_key}
use Rattle.vocabulary.specs.Items.{key_of}
use Rattle.write_chain.specs.declared.members.Among.{Among}
use Rattle.write_chain.specs.Members.{Members, among_passes, is_among, is_member}

or_swap : (a b : Bool) → a || b ≡ b || a
or_swap true true = refl
or_swap true false = refl
or_swap false true = refl
or_swap false false = refl

or_moved : (a b c : Bool) → (a || b) || c ≡ b || (a || c)
or_moved true true c = refl
or_moved true false c = refl
or_moved false true c = refl
or_moved false false c = refl

member_last : (rows : Members) (k y : Elem) → is_member (rows ++ (k, tt {0}) ∷ []) y ≡ is_member rows y || same y k
member_last [] k y = elim (same y k) as (λ b. is_some (cond b (Some (tt {0})) None) ≡ b) [ true ↦ refl | false ↦ refl ]
member_last (row ∷ rows) k y =
    elim (same y row.0) as (λ b. is_some (cond b (Some row.1) (lookup (same y) (rows ++ (k, tt {0}) ∷ []))) ≡ is_some (cond b (Some row.1) (lookup (same y) rows)) || same y k) [
      | true ↦ refl
      | false ↦ member_last rows k y
    ]

pub member_added : (old new : Members) (k : Elem) → new ≡ old ++ (k, tt {0}) ∷ [] → (y : Elem) → is_member new y ≡ same y k || is_member old y
member_added old new k e y = ap (λ (rows : Members). is_member rows y) e ∙ member_last old k y ∙ or_swap (is_member old y) (same y k)

pub member_there : (old : Members) (k : Elem) → true ≡ is_member old k → (y : Elem) → is_member old y ≡ same y k || is_member old y
member_there old k there y =
    by (same y k) refl where
      by : (b : Bool) → same y k ≡ b → is_member old y ≡ b || is_member old y
      by false e = refl
      by true e = ap (is_member old) ((same-Decides y k).0 e) ∙ sym there

-- one more of the items that a walk comes to
pub members_more : (old new : Members) (item : Item) (xs rest : List Item) (x : Elem) (all : Bool) → is_member new x ≡ same x (key_of item) || is_member old x → xs ≡ item ∷ rest → is_member old x || list_any (has_key x) xs ≡ all
    → is_member new x || list_any (has_key x) rest ≡ all
members_more old new item xs rest x all more takes before =
    ap (λ b. b || list_any (has_key x) rest) more ∙ or_moved (same x (key_of item)) (is_member old x) (list_any (has_key x) rest) ∙ sym (ap (λ (is : List Item). is_member old x || list_any (has_key x) is) takes) ∙ before

-- a row that was inserted
pub member_inserted : (result : Result (Unit {0}) NoMemory) (old new : Members) (k : Elem) → OnOk result (new ≡ old ++ (k, tt {0}) ∷ []) → OnOk result ((y : Elem) → is_member new y ≡ same y k || is_member old y)
member_inserted (Ok done) old new k e = member_added old new k e
member_inserted (Err none) old new k e = tt

-- an item that is among some elements has one of them as its key
pub among_key : (test : Among) → test.out ≡ false → (item : Item) → among_passes test item ≡ true → is_some (value_at test.members (key_of item)) ≡ true
among_key test e item h = by item (sym (ap (λ (b : Bool). cond b (not (is_among test.members item)) (is_among test.members item)) e) ∙ h)
  where
    by : (it : Item) → is_among test.members it ≡ true → is_some (value_at test.members (key_of it)) ≡ true
    by (One x) f = f
    by _ f = absurd (cc)
