-- The texts of a part's arguments.
use Rattle.std.proofs.Common.{◌≡◌, ℕ, ◌+◌, ◌-◌, ◌<◌, ◌≤◌, List, [], ◌∷◌, length, map, get_or, take, drop, refl, zero, suc, arith}
use Rattle.script_text.specs.Parts.{so_many}

-- a text of those that are there, and one behind them
pub so_many-there : (n : ℕ) (texts : List (List ℕ)) (i : ℕ) → i < n → get_or (so_many n texts) i [] ≡ get_or texts i []
so_many-there zero texts i lt = absurd (omega arith)
so_many-there (suc n) [] zero lt = refl
so_many-there (suc n) [] (suc i) lt = so_many-there n [] i (omega arith)
so_many-there (suc n) (text ∷ texts) zero lt = refl
so_many-there (suc n) (text ∷ texts) (suc i) lt = so_many-there n texts i (omega arith)

pub so_many-missing : (n : ℕ) (texts : List (List ℕ)) (i : ℕ) → n ≤ i → get_or (so_many n texts) i [] ≡ []
so_many-missing zero texts i le = refl
so_many-missing (suc n) [] zero le = absurd (omega arith)
so_many-missing (suc n) [] (suc i) le = so_many-missing n [] i (omega arith)
so_many-missing (suc n) (text ∷ texts) zero le = absurd (omega arith)
so_many-missing (suc n) (text ∷ texts) (suc i) le = so_many-missing n texts i (omega arith)

pub length-so_many : (n : ℕ) (texts : List (List ℕ)) → length (so_many n texts) ≡ n
length-so_many zero texts = refl
length-so_many (suc n) [] = omega (arith, length-so_many n [])
length-so_many (suc n) (text ∷ texts) = omega (arith, length-so_many n texts)
