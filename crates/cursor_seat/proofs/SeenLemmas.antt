-- The change numbers of the one base of a known view, and of those that a seat has seen.
use Rattle.std.proofs.Common.{◌≡◌, ℕ, ◌≤◌, Bool, true, false, not, List, [], ◌∷◌, map, refl, ap, sym, ◌∙◌, arith}
use Rattle.std.specs.Prelude.{nat_eq}
use Rattle.std.specs.Cmp.Lexicographic.{pointwise}
use Rattle.cursor_seat.specs.Seats.{AreUpTo}
use Rattle.machine.specs.Bases.{World, base_at}
use Rattle.machine.specs.Iterators.{Iterator, changes, is_passed_by}
use Rattle.machine.specs.Views.{View, base, bases_of, both, over}
use Rattle.view_steps.specs.KnownViews.{is_known_view, number_under}
use Rattle.view_steps.proofs.KnownLemmas.{known_over}
use Rattle.cursor_seat.proofs.NextLemmas.{numbers_are, same_numbers}

pub one_base : (v : View) → is_known_view v ≡ true → bases_of v ≡ number_under v ∷ []
one_base (base l) known = refl
one_base (over it v) known = one_base v (known_over it v known).1
one_base (both word v u) known = absurd (cc)

pub one_change : (world : World) (v : View) → is_known_view v ≡ true → changes world v ≡ (base_at world (number_under v)).change ∷ []
one_change world v known = ap (λ (bs : List ℕ). map (λ b. (base_at world b).change) bs) (one_base v known)

-- ---- numbers up to others

pub up_to_same : (ns : List ℕ) → AreUpTo ns ns
up_to_same [] = tt
up_to_same (n ∷ ns) = (omega arith, up_to_same ns)

pub up_to_more : (ks ms ns : List ℕ) → AreUpTo ks ms → AreUpTo ms ns → AreUpTo ks ns
up_to_more [] [] [] a b = tt
up_to_more [] [] (n ∷ ns) a b = absurd b
up_to_more [] (m ∷ ms) ns a b = absurd a
up_to_more (k ∷ ks) [] ns a b = absurd a
up_to_more (k ∷ ks) (m ∷ ms) [] a b = absurd b
up_to_more (k ∷ ks) (m ∷ ms) (n ∷ ns) a b = let f : k ≤ m = a.0 in let g : m ≤ n = b.0 in (omega arith, up_to_more ks ms ns a.1 b.1)

pub up_to_both : (ms ns : List ℕ) → AreUpTo ms ns → AreUpTo ns ms → ms ≡ ns
up_to_both [] [] a b = refl
up_to_both [] (n ∷ ns) a b = absurd a
up_to_both (m ∷ ms) [] a b = absurd a
up_to_both (m ∷ ms) (n ∷ ns) a b =
    let f : m ≤ n = a.0 in let g : n ≤ m = b.0 in let e : m ≡ n = omega arith in
    λ i. e i ∷ up_to_both ms ns a.1 b.1 i

-- ---- stale or not

pub not_stale : (world : World) (it : Iterator) → is_passed_by world it ≡ false → changes world it.view ≡ it.seen
not_stale world it fresh = numbers_are (changes world it.view) it.seen (kept (pointwise nat_eq (changes world it.view) it.seen) fresh)
  where
    kept : (b : Bool) → not b ≡ false → b ≡ true
    kept true e = refl
    kept false e = sym e

pub is_fresh : (world : World) (it : Iterator) → changes world it.view ≡ it.seen → is_passed_by world it ≡ false
is_fresh world it e = ap (λ (ns : List ℕ). not (pointwise nat_eq ns it.seen)) e ∙ ap not (same_numbers it.seen)
