-- Paths that are made longer, and what they keep.
use Rattle.std.proofs.Common.{◌≡◌, ℕ, ◌+◌, ◌≤◌, suc, true, List, [], ◌∷◌, ◌++◌, length, refl, sym, subst, arith, length-append}
use Rattle.elem.specs.declared.elements.Elem.{Elem}
use Rattle.graph_walk.specs.Graphs.{is_in}
use Rattle.graph_walk.specs.Paths.{Leads, IsReached}

module _ (nexts : Elem → List Elem) where
  -- one more edge
  pub leads_on : (a : Elem) (path : List Elem) (b c : Elem) → Leads nexts a path b → is_in c (nexts b) ≡ true → Leads nexts a (path ++ c ∷ []) c
  leads_on a [] b c e h = (subst (λ x. is_in c (nexts x) ≡ true) (sym e) h, refl)
  leads_on a (x ∷ path) b c l h = (l.0, leads_on x path b c l.1 h)

  pub reached_on : (a b c : Elem) → IsReached nexts a b → is_in c (nexts b) ≡ true → IsReached nexts a c
  reached_on a b c r h = (r.0 ++ c ∷ [], leads_on a r.0 b c r.1 h)

  -- a path of at most so many edges leads from a to b
  abbrev pub IsWithin : Elem → Elem → ℕ → Type 0
  IsWithin a b n = (path : List Elem) × Leads nexts a path b × (length path ≤ n)

  pub within_on : (a b c : Elem) (n : ℕ) → IsWithin a b n → is_in c (nexts b) ≡ true → IsWithin a c (suc n)
  within_on a b c n w h = (w.0 ++ c ∷ [], leads_on a w.0 b c w.1 h, omega (arith, length-append w.0 (c ∷ []), w.2))

  -- what holds of a and of the next nodes of what it holds of holds of all that is reached
  pub along : (P : Elem → Type 0) → ((x y : Elem) → P x → is_in y (nexts x) ≡ true → P y) → (a : Elem) (path : List Elem) (b : Elem) → P a → Leads nexts a path b → P b
  along P step a [] b p l = subst P l p
  along P step a (c ∷ path) b p l = along P step c path b (step a c p l.0) l.1

  -- the same of what depends on the number of edges
  pub along_edges : (P : Elem → ℕ → Type 0) → ((x y : Elem) (n : ℕ) → P x n → is_in y (nexts x) ≡ true → P y (suc n)) → (a : Elem) (n : ℕ) (path : List Elem) (b : Elem) → P a n → Leads nexts a path b → P b (n + length path)
  along_edges P step a n [] b p l = let e : n ≡ n + 0 = omega arith in subst (λ m. P b m) e (subst (λ x. P x n) l p)
  along_edges P step a n (c ∷ path) b p l = let e : suc n + length path ≡ n + suc (length path) = omega arith in subst (λ m. P b m) e (along_edges P step c (suc n) path b (step a c n p l.0) l.1)
