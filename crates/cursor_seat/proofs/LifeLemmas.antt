-- The life of an iterator.
use Rattle.std.proofs.Common.{◌≡◌, ℕ, zero, suc, ◌+◌, Bool, true, false, not, cond, List, [], ◌∷◌, map, drop, take, refl, ap, sym, ◌∙◌, arith}
use Rattle.std.specs.Prelude.{filter, Option, None, Some}
use Rattle.std.proofs.lemmas.List.{drop-drop}
use Rattle.std.proofs.lemmas.Option.{same_Some}
use Rattle.cursor_seat.specs.Lives.{GivesInOrder, Life, and_then, given_by, to_give}
use Rattle.machine.specs.Bases.{World}
use Rattle.machine.specs.Candidates.{Candidate, is_seen, item_in}
use Rattle.machine.specs.Iterators.{Iterator, ahead, changes, first_seen, is_passed_by, iterator_over}
use Rattle.machine.specs.Views.{candidates}
use Rattle.vocabulary.specs.declared.items.Item.{Item}
use Rattle.cursor_seat.proofs.NextLemmas.{next_is, same_numbers}

abbrev items : List Candidate → List Item
items cs = map item_in (filter is_seen cs)

-- ---- the first seen candidate, where the first has the number n

-- its number, and the items: its own, and those behind it
record IsFirst (n : ℕ) (found : ℕ × Item) (cs : List Candidate) : Type 0 where
  over : ℕ
  number : found.0 ≡ n + over
  parts : items cs ≡ found.1 ∷ items (drop (over + 1) cs)

no_item : (n : ℕ) (cs : List Candidate) → first_seen n cs ≡ None → items cs ≡ []
no_item n [] e = refl
no_item n (c ∷ cs) e = by c.seen e (no_item (n + 1) cs)
  where
    by : (b : Bool) → cond b (Some (n, c.item)) (first_seen (n + 1) cs) ≡ None → (first_seen (n + 1) cs ≡ None → items cs ≡ []) → map item_in (cond b (c ∷ filter is_seen cs) (filter is_seen cs)) ≡ []
    by true h rest = absurd (cc)
    by false h rest = rest h

some_item : (n : ℕ) (found : ℕ × Item) (cs : List Candidate) → first_seen n cs ≡ Some found → IsFirst n found cs
some_item n found [] e = absurd (cc)
some_item n found (c ∷ cs) e = by c.seen refl e (some_item (n + 1) found cs)
  where
    by : (b : Bool) → c.seen ≡ b → cond b (Some (n, c.item)) (first_seen (n + 1) cs) ≡ Some found → (first_seen (n + 1) cs ≡ Some found → IsFirst (n + 1) found cs) → IsFirst n found (c ∷ cs)
    by true is h rest =
        let same : (n, c.item) ≡ found = same_Some (n, c.item) found h in
        record {
          over = 0;
          number = sym (ap (λ (p : ℕ × Item). p.0) same) ∙ (let e : n ≡ n + 0 = omega arith in e);
          parts = ap (λ b. map item_in (cond b (c ∷ filter is_seen cs) (filter is_seen cs))) is ∙ ap (λ (p : ℕ × Item). p.1 ∷ items cs) same;
        }
    by false is h rest =
        let r = rest h in
        record {
          over = r.over + 1;
          number = (let e : found.0 ≡ n + (r.over + 1) = omega (arith, r.number) in e);
          parts =
              ap (λ b. map item_in (cond b (c ∷ filter is_seen cs) (filter is_seen cs))) is ∙ r.parts
              ∙ ap (λ k. found.1 ∷ items (drop k (c ∷ cs))) (let e : suc (r.over + 1) ≡ r.over + 1 + 1 = omega arith in e);
        }

-- ---- so many calls of next

-- the iterator behind the first seen candidate has the items behind it still to give
first_given : (world : World) (it : Iterator) (found : ℕ × Item) → ahead world it ≡ Some found → to_give world it ≡ found.1 ∷ items (drop (found.0 + 1) (candidates world it.view))
first_given world it found e =
    let cs : List Candidate = candidates world it.view in
    let f : IsFirst it.passed found (drop it.passed cs) = some_item it.passed found (drop it.passed cs) e in
    f.parts ∙ ap (λ (rest : List Candidate). found.1 ∷ items rest) (drop-drop (f.over + 1) it.passed cs ∙ ap (λ n. drop n cs) (let e : it.passed + (f.over + 1) ≡ found.0 + 1 = omega (arith, f.number) in e))

abbrev GivesFront : ℕ → World → Iterator → Type 0
GivesFront k world it = ((given_by k world it).0 ≡ take k (to_give world it)) × (to_give world (given_by k world it).1 ≡ drop k (to_give world it))

lives : (k : ℕ) (world : World) (it : Iterator) → is_passed_by world it ≡ false → GivesFront k world it
lives zero world it fresh = (refl, refl)
lives (suc k) world it fresh = by (ahead world it) refl (λ (behind : Iterator) h. lives k world behind h)
  where
    by : (o : Option (ℕ × Item)) → ahead world it ≡ o → ((behind : Iterator) → is_passed_by world behind ≡ false → GivesFront k world behind) → GivesFront (suc k) world it
    by None e more =
        let next = ap (and_then (given_by k world) it) (next_is world it None fresh e) in
        let none : to_give world it ≡ [] = no_item it.passed (drop it.passed (candidates world it.view)) e in
        (ap (λ (l : Life). l.0) next ∙ ap (take (suc k)) (sym none), ap (λ (l : Life). to_give world l.1) next ∙ none ∙ ap (drop (suc k)) (sym none))
    by (Some found) e more =
        let behind : Iterator = record { view = it.view; seen = it.seen; passed = found.0 + 1; given = true } in
        let next = ap (and_then (given_by k world) it) (next_is world it (Some found) fresh e) in
        let front : to_give world it ≡ found.1 ∷ to_give world behind = first_given world it found e in
        let rest = more behind fresh in (
          ap (λ (l : Life). l.0) next ∙ ap (λ (is : List Item). found.1 ∷ is) rest.0 ∙ ap (take (suc k)) (sym front),
          ap (λ (l : Life). to_give world l.1) next ∙ rest.1 ∙ ap (drop (suc k)) (sym front),
        )

pub gives_in_order : GivesInOrder
gives_in_order world v k = lives k world (iterator_over world v) (ap not (same_numbers (changes world v)))
