-- Worlds of which one base changes, or to which another comes.
use Rattle.std.proofs.Common.{◌≡◌, ℕ, ◌<◌, [], ◌∷◌, ◌++◌, length, get_or, set, ap, sym, ◌∙◌, inl, inr, arith, zero, suc}
use Rattle.std.proofs.lemmas.Bool.{cases_eq}
use Rattle.std.proofs.lemmas.List.{get_or_append_left, get_or-set_same, get_or-set_other}
use Rattle.machine.specs.Bases.{Base, World, base_at}

-- a base that was read is the base of its number
pub read_at : (world : World) (b : ℕ) (it : Base) → b < length world → it ≡ get_or world b it → base_at world b ≡ it
read_at [] b it lt is = absurd (omega arith)
read_at (first ∷ world) zero it lt is = sym is
read_at (first ∷ world) (suc b) it lt is = read_at world b it (omega arith) is

-- a world with one more base has the others as they were
pub more_at : (world : World) (it : Base) (b : ℕ) → b < length world → base_at (world ++ it ∷ []) b ≡ base_at world b
more_at world it b lt = get_or_append_left world (it ∷ []) _ b lt

-- a world in which one base changed has the others as they were
pub written_at : (world : World) (b : ℕ) (it : Base) → b < length world → base_at (set world b it) b ≡ it
written_at world b it lt = get_or-set_same world b it _ lt

pub written_kind : (world : World) (b : ℕ) (it : Base) → b < length world → it.kind ≡ (base_at world b).kind → (k : ℕ) → (base_at (set world b it) k).kind ≡ (base_at world k).kind
written_kind world b it lt same k =
    elim (cases_eq k b) [
      | inl here ↦ ap (λ (x : Base). x.kind) (ap (base_at (set world b it)) here ∙ written_at world b it lt) ∙ same ∙ ap (λ (n : ℕ). (base_at world n).kind) (sym here)
      | inr other ↦ ap (λ (x : Base). x.kind) (get_or-set_other world b k it _ other)
    ]
