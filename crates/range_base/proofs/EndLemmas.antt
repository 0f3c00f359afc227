-- Edits at cuts between whole numbers keep rows at such cuts.
use Rattle.std.proofs.Common.{◌≡◌, ℕ, inl, inr, Bool, true, false, cond, List, [], ◌∷◌, ◌++◌, subst, min, max, arith}
use Rattle.std.specs.Prelude.{nat_lt}
use Rattle.std.proofs.lemmas.Bool.{cases_lt}
use Rattle.std.specs.Ordering.{nat_cmp, match_ordering}
use Rattle.std.specs.declared.cmp.Ordering.{Ordering}
use Rattle.std.specs.declared.cmp.Ordering.TheVariants.{Less, Equal, Greater}
use Rattle.std.specs.BTreeMap.{insert_entry}
use Rattle.range_base.specs.Rows.{Row, part}
use Rattle.range_base.specs.Edits.{run, without_units}
use Rattle.range_base.specs.Ends.{AllEnds}

at_min : (P : ℕ → Type 0) (a b : ℕ) → P a → P b → P (min a b)
at_min P a b p q = elim (cases_lt a b) [ inl lt ↦ (let e : a ≡ min a b = omega arith in subst P e p) | inr le ↦ (let e : b ≡ min a b = omega arith in subst P e q) ]

at_max : (P : ℕ → Type 0) (a b : ℕ) → P a → P b → P (max a b)
at_max P a b p q = elim (cases_lt a b) [ inl lt ↦ (let e : b ≡ max a b = omega arith in subst P e q) | inr le ↦ (let e : a ≡ max a b = omega arith in subst P e p) ]

module _ {V : Type 0} (P : ℕ → Type 0) where
  AllEnds-run : (lo hi : ℕ) (v : V) (rs : List (Row V)) → P lo → P hi → AllEnds P rs → AllEnds P (run lo hi v ++ rs)
  AllEnds-run lo hi v rs p q a = by (nat_lt lo hi)
    where
      by : (b : Bool) → AllEnds P (cond b ((lo, part hi v) ∷ []) [] ++ rs)
      by true = (p, q, a)
      by false = a

  pub AllEnds-without_units : (lo hi : ℕ) → P lo → P hi → (rs : List (Row V)) → AllEnds P rs → AllEnds P (without_units lo hi rs)
  AllEnds-without_units lo hi p q [] a = tt
  AllEnds-without_units lo hi p q (r ∷ rs) a =
      AllEnds-run r.0 (min r.1.end lo) r.1.value _ a.0 (at_min P r.1.end lo a.1 p)
      (AllEnds-run (max r.0 hi) r.1.end r.1.value _ (at_max P r.0 hi a.0 q) a.1 (AllEnds-without_units lo hi p q rs a.2))

  pub AllEnds-insert : (lo hi : ℕ) (v : V) → P lo → P hi → (rs : List (Row V)) → AllEnds P rs → AllEnds P (insert_entry nat_cmp rs lo (part hi v))
  AllEnds-insert lo hi v p q [] a = (p, q, tt)
  AllEnds-insert lo hi v p q (r ∷ rs) a = by (nat_cmp lo r.0) (AllEnds-insert lo hi v p q rs a.2)
    where
      by : (o : Ordering) → AllEnds P (insert_entry nat_cmp rs lo (part hi v)) → AllEnds P (match_ordering o ((lo, part hi v) ∷ r ∷ rs) ((r.0, part hi v) ∷ rs) (r ∷ insert_entry nat_cmp rs lo (part hi v)))
      by Less e = (p, q, a)
      by Equal e = (a.0, q, a.2)
      by Greater e = (a.0, a.1, e)
