-- A key and a value as one key of a hash map.
use Rattle.std.specs.Prelude.{◌≡◌, ℕ, Bool, true, false, ◌&&◌, List, ◌++◌, refl}
use Rattle.std.proofs.Common.{ap}
use Rattle.std.specs.Bool.{Decides}
use Rattle.std.specs.Cmp.{IsEquivalence, decided}
use Rattle.elem.specs.declared.elements.Elem.{Elem}
use Rattle.elem.specs.Elements.{same, hashed}
use Rattle.elem.specs.ElementLaws.{same-Decides}
use Rattle.mm_base.specs.declared.key_values.KeyValue.{KeyValue}

abbrev pub key_value : Elem → Elem → KeyValue
key_value k v = record { key = k; value = v }

-- the keys are the same, and the values
unfoldable pub same_pair : KeyValue → KeyValue → Bool
same_pair a b = same a.key b.key && same a.value b.value

abbrev pub pair_hashed : KeyValue → List (List ℕ)
pair_hashed a = hashed a.key ++ hashed a.value

both : (x y : Bool) → (x && y) ≡ true → (x ≡ true) × (y ≡ true)
both true true e = (refl, refl)
both true false e = cc
both false y e = cc

pub same_pair-Decides : (a b : KeyValue) → Decides (same_pair a b) (a ≡ b)
unfolding same_pair
same_pair-Decides a b = (
  λ h.
      let p = both (same a.key b.key) (same a.value b.value) h in
      let k = (same-Decides a.key b.key).0 p.0 in
      let v = (same-Decides a.value b.value).0 p.1 in
      (λ i. record { key = k i; value = v i }),
  λ e. (λ i. (same-Decides a.key b.key).1 (ap (λ (x : KeyValue). x.key) e) i && (same-Decides a.value b.value).1 (ap (λ (x : KeyValue). x.value) e) i),
)

pub same_pair_equiv : IsEquivalence same_pair
same_pair_equiv = decided same_pair same_pair-Decides

pub pair_hashed-same : (a b : KeyValue) → same_pair a b ≡ true → pair_hashed a ≡ pair_hashed b
pair_hashed-same a b h = ap pair_hashed ((same_pair-Decides a b).0 h)
