-- One row goes by its number.
use Rattle.std.proofs.Common.{◌≡◌, ◌≢◌, ℕ, zero, suc, ◌+◌, ◌<◌, true, false, cond, ◌||◌, List, [], ◌∷◌, nat_eq, refl, ap, sym, ◌∙◌, arith}
use Rattle.std.specs.List.{remove}
use Rattle.std.proofs.lemmas.Bool.Decides.{nat_tests}
use Rattle.vocabulary.specs.declared.items.Item.{Item}
use Rattle.machine.specs.Edits.{goes, without_rows}

pub nat_other : (a b : ℕ) → a ≢ b → nat_eq a b ≡ false
nat_other a b h = grind (arith, nat_tests)

pub nat_same : (a b : ℕ) → a ≡ b → nat_eq a b ≡ true
nat_same a b h = grind (arith, nat_tests)

stays : (g n : ℕ) → g ≢ n → goes (g ∷ []) n ≡ false
stays g n h = ap (λ b. b || false) (nat_other g n h)

leaves : (g n : ℕ) → g ≡ n → goes (g ∷ []) n ≡ true
leaves g n h = ap (λ b. b || false) (nat_same g n h)

passed : (g n : ℕ) (rows : List Item) → g < n → without_rows (g ∷ []) n rows ≡ rows
passed g n [] h = refl
passed g n (row ∷ rows) h =
    let other : g ≢ n = λ e. omega arith in
    ap (λ b. cond b (without_rows (g ∷ []) (n + 1) rows) (row ∷ without_rows (g ∷ []) (n + 1) rows)) (stays g n other)
    ∙ ap (λ (rest : List Item). row ∷ rest) (passed g (n + 1) rows (omega arith))

without_one : (rows : List Item) (i n g : ℕ) → g ≡ n + i → without_rows (g ∷ []) n rows ≡ remove rows i
without_one [] zero n g e = refl
without_one [] (suc i) n g e = refl
without_one (row ∷ rows) zero n g e =
    ap (λ b. cond b (without_rows (g ∷ []) (n + 1) rows) (row ∷ without_rows (g ∷ []) (n + 1) rows)) (leaves g n (omega arith))
    ∙ passed g (n + 1) rows (omega arith)
without_one (row ∷ rows) (suc i) n g e =
    let other : g ≢ n = λ q. omega arith in
    ap (λ b. cond b (without_rows (g ∷ []) (n + 1) rows) (row ∷ without_rows (g ∷ []) (n + 1) rows)) (stays g n other)
    ∙ ap (λ (rest : List Item). row ∷ rest) (without_one rows i (n + 1) g (omega arith))

pub without_numbers : (rows : List Item) (i : ℕ) (numbers : List ℕ) → numbers ≡ i ∷ [] → remove rows i ≡ without_rows numbers 0 rows
without_numbers rows i numbers e = sym (ap (λ ns. without_rows ns 0 rows) e ∙ without_one rows i 0 i (omega arith))
