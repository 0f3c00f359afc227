-- Spots: a row and a column. When two are the same, and what one feeds a hasher.
use Rattle.std.specs.Prelude.{◌≡◌, ℕ, Bool, true, false, ◌&&◌, List, ◌++◌, refl}
use Rattle.std.specs.Prelude.{IsTrue}
use Rattle.std.proofs.Common.{ap}
use Rattle.std.specs.Bool.{Decides}
use Rattle.std.specs.Cmp.{IsEquivalence, decided}
use Rattle.elem.specs.declared.elements.Elem.{Elem}
use Rattle.elem.specs.Elements.{same, hashed}
use Rattle.elem.specs.ElementLaws.{same-Decides}
use Rattle.table_base.specs.declared.spots.Spot.{Spot}

abbrev pub spot_at : Elem → Elem → Spot
spot_at r c = record { row = r; column = c }

-- the same row and the same column
unfoldable pub same_spot : Spot → Spot → Bool
same_spot a b = same a.row b.row && same a.column b.column

abbrev pub hashed_spot : Spot → List (List ℕ)
hashed_spot a = hashed a.row ++ hashed a.column

both : (x y : Bool) → (x && y) ≡ true → (x ≡ true) × (y ≡ true)
both true true e = (refl, refl)
both true false e = cc
both false y e = cc

pub same_spot-Decides : (a b : Spot) → Decides (same_spot a b) (a ≡ b)
unfolding same_spot
same_spot-Decides a b = (
  λ h.
      let p = both (same a.row b.row) (same a.column b.column) h in
      let r = (same-Decides a.row b.row).0 p.0 in
      let c = (same-Decides a.column b.column).0 p.1 in
      (λ i. record { row = r i; column = c i }),
  λ e. (λ i. (same-Decides a.row b.row).1 (ap (λ (x : Spot). x.row) e) i && (same-Decides a.column b.column).1 (ap (λ (x : Spot). x.column) e) i),
)

pub same_spot_equiv : IsEquivalence same_spot
same_spot_equiv = decided same_spot same_spot-Decides

pub hashed_spot-same : (a b : Spot) → IsTrue (same_spot a b) → hashed_spot a ≡ hashed_spot b
hashed_spot-same a b h = ap hashed_spot ((same_spot-Decides a b).0 h)

pub same_spot_at : (r c x y : Elem) → same_spot (spot_at r c) (spot_at x y) ≡ (same r x && same c y)
unfolding same_spot
same_spot_at r c x y = refl
