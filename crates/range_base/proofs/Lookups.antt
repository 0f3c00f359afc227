-- Rows and their edits, by what begins at each place.
use Rattle.std.proofs.Common.{◌≡◌, ℕ, ◌+◌, ◌<◌, ◌≤◌, min, max, Bool, true, false, cond, ◌&&◌, List, [], ◌∷◌, ◌++◌, Option, Some, None, refl, ap, sym, ◌∙◌, arith}
use Rattle.std.proofs.Common.{subst, inl, inr}
use Rattle.std.specs.Prelude.{nat_lt, nat_le, ◌==◌, ◌≢◌, IsSome, IfSome, is_some, ⊤}
use Rattle.std.specs.Option.{unwrap_or}
use Rattle.std.specs.List.Sorted.{IsStrictlySortedBy}
use Rattle.std.specs.Map.{keys_of}
use Rattle.std.specs.List.{AllByRecursion}
use Rattle.std.specs.Cmp.{ranks}
use Rattle.std.specs.declared.cmp.Ordering.{Ordering}
use Rattle.std.specs.declared.cmp.Ordering.TheVariants.{Less, Equal, Greater}
use Rattle.std.proofs.lemmas.Bool.{cases_lt}
use Rattle.std.proofs.lemmas.Bool.Decides.{nat_tests}
use Rattle.std.specs.Ordering.{nat_cmp, MatchOrdering, match_ordering}
use Rattle.std.specs.BTreeMap.{insert_entry, is_at}
use Rattle.range_base.specs.declared.part.Part.{Part}
use Rattle.range_base.specs.Rows.{Row, part, in_units, IsSpaced}
use Rattle.range_base.specs.Edits.{run, without_units, touching}
use Rattle.range_base.specs.Reads.{at, last_up_to, spanning, head, tail, with_row}

is_at-eq : (q k : ℕ) → is_at (nat_cmp q) k ≡ (q == k)
is_at-eq q k = grind (arith, nat_tests)

module _ {V : Type 0} where
  pub at-cons : (q : ℕ) (r : Row V) (rs : List (Row V)) → at q (r ∷ rs) ≡ cond (q == r.0) (Some r.1) (at q rs)
  at-cons q r rs = ap (λ b. cond b (Some r.1) (at q rs)) (is_at-eq q r.0)

  pub at-before : (q gap c : ℕ) (rs : List (Row V)) → q < c → IsSpaced gap c rs → at q rs ≡ None
  at-before q gap c [] h s = refl
  at-before q gap c (r ∷ rs) h s =
      let rest = at-before q gap (r.1.end + gap) rs (omega (arith, s.0, s.1)) s.2 in
      rw (at-cons, rest) (grind (arith, nat_tests, s.0))

  pub spanning-before : (q gap c : ℕ) (rs : List (Row V)) → q ≤ c → IsSpaced gap c rs → spanning q rs ≡ None
  spanning-before q gap c [] h s = refl
  spanning-before q gap c (r ∷ rs) h s =
      let rest = spanning-before q gap (r.1.end + gap) rs (omega (arith, s.0, s.1)) s.2 in
      rw rest (grind (arith, nat_tests, s.0))

  pub at-run : (q lo hi : ℕ) (v : V) (rs : List (Row V)) → at q (run lo hi v ++ rs) ≡ cond (nat_lt lo hi && (q == lo)) (Some (part hi v)) (at q rs)
  at-run q lo hi v rs = by (nat_lt lo hi)
    where
      by : (b : Bool) → at q (cond b ((lo, part hi v) ∷ []) [] ++ rs) ≡ cond (b && (q == lo)) (Some (part hi v)) (at q rs)
      by true = at-cons q (lo, part hi v) rs
      by false = refl

  head-before : (q gap c lo : ℕ) (rs : List (Row V)) (y : Option (Part V)) → q < c → IsSpaced gap c rs → with_row (head lo (spanning lo rs)) q y ≡ y
  head-before q gap c lo [] y h s = refl
  head-before q gap c lo (r ∷ rs) y h s =
      let rest = head-before q gap (r.1.end + gap) lo rs y (omega (arith, s.0, s.1)) s.2 in
      by (nat_lt r.0 lo && nat_lt lo r.1.end) rest
    where
      by : (b : Bool) → with_row (head lo (spanning lo rs)) q y ≡ y → with_row (head lo (cond b (Some r) (spanning lo rs))) q y ≡ y
      by true e = grind (arith, nat_tests, s.0)
      by false e = e

  tail-beside : (q hi : ℕ) (o : Option (Row V)) (y : Option (Part V)) → q ≢ hi → with_row (tail hi o) q y ≡ y
  tail-beside q hi None y h = refl
  tail-beside q hi (Some r) y h = grind (arith, nat_tests)

  -- the same for one row before others, of which little needs to be known
  cut_step : (q lo hi : ℕ) (r : Row V) (sl sh : Option (Row V)) (x : Option (Part V)) → r.0 < r.1.end → lo < hi
      → (lo ≤ r.1.end → sl ≡ None) → (hi ≤ r.1.end → sh ≡ None) → (q ≤ r.0 → (y : Option (Part V)) → with_row (head lo sl) q y ≡ y) → ((y : Option (Part V)) → q ≢ hi → with_row (tail hi sh) q y ≡ y)
      → cond (nat_lt r.0 (min r.1.end lo) && (q == r.0)) (Some (part (min r.1.end lo) r.1.value)) (cond (nat_lt (max r.0 hi) r.1.end && (q == max r.0 hi)) (Some (part r.1.end r.1.value)) (cond (in_units lo hi q) None (with_row (head lo sl) q (with_row (tail hi sh) q x))))
      ≡ cond (in_units lo hi q) None (with_row (head lo (cond (nat_lt r.0 lo && nat_lt lo r.1.end) (Some r) sl)) q (with_row (tail hi (cond (nat_lt r.0 hi && nat_lt hi r.1.end) (Some r) sh)) q (cond (q == r.0) (Some r.1) x)))
  cut_step q lo hi r sl sh x some h nl nh before beside = grind (arith, nat_tests)

  pub at-without_units : (q gap lo hi : ℕ) → lo < hi → (c : ℕ) (rs : List (Row V)) → IsSpaced gap c rs → at q (without_units lo hi rs) ≡ cond (in_units lo hi q) None (with_row (head lo (spanning lo rs)) q (with_row (tail hi (spanning hi rs)) q (at q rs)))
  at-without_units q gap lo hi h c [] s = grind (arith, nat_tests)
  at-without_units q gap lo hi h c (r ∷ rs) s =
      let rest = at-without_units q gap lo hi h (r.1.end + gap) rs s.2 in
      rw (at-run, at-run, rest, at-cons)
      (cut_step q lo hi r (spanning lo rs) (spanning hi rs) (at q rs) s.1 h
      (λ le. spanning-before lo gap (r.1.end + gap) rs (omega arith) s.2)
      (λ le. spanning-before hi gap (r.1.end + gap) rs (omega arith) s.2)
      (λ le y. head-before q gap (r.1.end + gap) lo rs y (omega (arith, s.1)) s.2)
      (λ y ne. tail-beside q hi (spanning hi rs) y ne))

  pub at-insert : (q k : ℕ) (p : Part V) (rs : List (Row V)) → at q (insert_entry nat_cmp rs k p) ≡ cond (q == k) (Some p) (at q rs)
  at-insert q k p [] = at-cons q (k, p) []
  at-insert q k p (r ∷ rs) = by (at-insert q k p rs) (nat_cmp k r.0) (ranks k r.0)
    where
      by : at q (insert_entry nat_cmp rs k p) ≡ cond (q == k) (Some p) (at q rs) → (o : Ordering) → MatchOrdering o (k < r.0) (k ≡ r.0) (r.0 < k) → at q (match_ordering o ((k, p) ∷ r ∷ rs) ((r.0, p) ∷ rs) (r ∷ insert_entry nat_cmp rs k p)) ≡ cond (q == k) (Some p) (at q (r ∷ rs))
      by e Less m = at-cons q (k, p) (r ∷ rs)
      by e Equal m = rw (at-cons q (r.0, p) rs, at-cons q r rs) (grind (arith, nat_tests))
      by e Greater m = rw (at-cons q r (insert_entry nat_cmp rs k p), at-cons q r rs, e) (grind (arith, nat_tests))

  pub at-from : (gap a c : ℕ) (p : Part V) (rs : List (Row V)) → at a rs ≡ Some p → IsSpaced gap c rs → c ≤ a
  at-from gap a c p rs e s = elim (cases_lt a c) [ inl lt ↦ absurd (none_some (sym (at-before a gap c rs lt s) ∙ e)) | inr le ↦ le ]
    where
      none_some : None ≡ Some p → ⊥
      none_some h = cc

  -- the last row up to a place is one from d to that place
  abbrev Within : ℕ → ℕ → Option (Row V) → Type 0
  Within d c None = ⊤
  Within d c (Some r) = (d ≤ r.0) × (r.0 ≤ c)

  last-Within : (gap d c : ℕ) (rs : List (Row V)) → IsSpaced gap d rs → Within d c (last_up_to c rs)
  last-Within gap d c [] s = tt
  last-Within gap d c (r ∷ rs) s = by (nat_le r.0 c) refl (last_up_to c rs) (last-Within gap (r.1.end + gap) c rs s.2)
    where
      by : (b : Bool) → nat_le r.0 c ≡ b → (o : Option (Row V)) → Within (r.1.end + gap) c o → Within d c (cond b (Some (unwrap_or o r)) None)
      by true e None w = (s.0, grind (arith, nat_tests))
      by true e (Some t) w = (omega (arith, s.0, s.1, w.0), w.1)
      by false e o w = tt

  -- the row, where it has units on both sides of a place
  abbrev pub if_spanning : ℕ → Option (Row V) → Option (Row V)
  if_spanning c None = None
  if_spanning c (Some r) = cond (nat_lt r.0 c && nat_lt c r.1.end) (Some r) None

  pub spanning-last : (gap d c : ℕ) (rs : List (Row V)) → IsSpaced gap d rs → spanning c rs ≡ if_spanning c (last_up_to c rs)
  spanning-last gap d c [] s = refl
  spanning-last gap d c (r ∷ rs) s = by (last_up_to c rs) (last-Within gap (r.1.end + gap) c rs s.2) (spanning-last gap (r.1.end + gap) c rs s.2)
    where
      by : (o : Option (Row V)) → Within (r.1.end + gap) c o → spanning c rs ≡ if_spanning c o → spanning c (r ∷ rs) ≡ if_spanning c (cond (nat_le r.0 c) (Some (unwrap_or o r)) None)
      by None w e = rw e (grind (arith, nat_tests))
      by (Some t) w e = rw e (grind (arith, nat_tests, s.1, w.0, w.1))

  abbrev pub if_touching : ℕ → Option (Row V) → Option (Row V)
  if_touching c None = None
  if_touching c (Some r) = cond (nat_le r.0 c && nat_le c r.1.end) (Some r) None

  pub touching-last : (gap d c : ℕ) (rs : List (Row V)) → IsSpaced (gap + 1) d rs → touching c rs ≡ if_touching c (last_up_to c rs)
  touching-last gap d c [] s = refl
  touching-last gap d c (r ∷ rs) s = by (last_up_to c rs) (last-Within (gap + 1) (r.1.end + (gap + 1)) c rs s.2) (touching-last gap (r.1.end + (gap + 1)) c rs s.2)
    where
      by : (o : Option (Row V)) → Within (r.1.end + (gap + 1)) c o → touching c rs ≡ if_touching c o → touching c (r ∷ rs) ≡ if_touching c (cond (nat_le r.0 c) (Some (unwrap_or o r)) None)
      by None w e = rw e (grind (arith, nat_tests))
      by (Some t) w e = rw e (grind (arith, nat_tests, s.1, w.0, w.1))

  -- what a search from the back of a tree found
  pub last-none : (c : ℕ) (rs : List (Row V)) → ((q : ℕ) → q ≤ c → IsSome (at q rs) → ⊥) → last_up_to c rs ≡ None
  last-none c [] h = refl
  last-none c (r ∷ rs) h = elim (cases_lt c r.0) [
    | inl lt ↦ grind (arith, nat_tests)
    | inr le ↦ absurd (h r.0 le (subst IsSome (sym (at-cons r.0 r rs ∙ here)) (some_is r.1)))
  ]
    where
      here : cond (r.0 == r.0) (Some r.1) (at r.0 rs) ≡ Some r.1
      here = grind (arith, nat_tests)

      some_is : (p : Part V) → IsSome (Some p)
      some_is p = refl

  pub none_is_not_some : {o : Option (Part V)} → o ≡ None → IsSome o → ⊥
  none_is_not_some e w = let h : false ≡ true = sym (ap is_some e) ∙ w in cc

  pub last-found : (gap d c a : ℕ) (p : Part V) (rs : List (Row V)) → IsSpaced gap d rs → at a rs ≡ Some p → a ≤ c → ((q : ℕ) → q ≤ c → IsSome (at q rs) → q ≤ a) → last_up_to c rs ≡ Some (a, p)
  last-found gap d c a p [] s e le h = cc
  last-found gap d c a p (r ∷ rs) s e le h =
      let e_is : cond (a == r.0) (Some r.1) (at a rs) ≡ Some p = sym (at-cons a r rs) ∙ e in
      let more : (q : ℕ) → IsSome (at q rs) → IsSome (at q (r ∷ rs)) = λ q w. subst IsSome (sym (at-cons q r rs)) (grind (arith, nat_tests, w)) in
      elim (cases_lt r.0 a) [
        | inl lt ↦
            let rest_is : at a rs ≡ Some p = grind (arith, nat_tests, e_is) in
            let rest = last-found gap (r.1.end + gap) c a p rs s.2 rest_is le (λ q l w. h q l (more q w)) in
            rw rest (grind (arith, nat_tests))
        | inr ge ↦
            let none_here : at a rs ≡ None = at-before a gap (r.1.end + gap) rs (omega (arith, s.1)) s.2 in
            let key : r.0 ≡ a = grind (arith, nat_tests, e_is, none_here) in
            let value : r.1 ≡ p = grind (arith, nat_tests, e_is, none_here) in
            let none = last-none c rs (λ q l w.
            let upto : q ≤ a = h q l (more q w) in
            let none_there : at q rs ≡ None = at-before q gap (r.1.end + gap) rs (omega (arith, s.1)) s.2 in
            none_is_not_some none_there w)
            in
            let here : cond (nat_le r.0 c) (Some r) None ≡ Some r = grind (arith, nat_tests) in
            rw none (here ∙ (λ i. Some (key i, value i)))
      ]

  below-sorted : (q k : ℕ) (rs : List (Row V)) → q ≤ k → AllByRecursion (λ y. nat_cmp k y ≡ Less) (keys_of rs) → at q rs ≡ None
  below-sorted q k [] le a = refl
  below-sorted q k (r ∷ rs) le a =
      let rest = below-sorted q k rs le a.1 in
      rw (at-cons q r rs, rest) (grind (arith, nat_tests, a.0))

  -- rows in order with the same look-ups are the same
  pub same_rows : (rs es : List (Row V)) → IsStrictlySortedBy nat_cmp (keys_of rs) → IsStrictlySortedBy nat_cmp (keys_of es) → ((q : ℕ) → at q rs ≡ at q es) → rs ≡ es
  unfolding IsStrictlySortedBy
  same_rows [] [] s t h = refl
  same_rows [] (e ∷ es) s t h = absurd (let g = h e.0 ∙ at-cons e.0 e es in grind (arith, nat_tests, g))
  same_rows (r ∷ rs) [] s t h = absurd (let g = sym (h r.0) ∙ at-cons r.0 r rs in grind (arith, nat_tests, g))
  same_rows (r ∷ rs) (e ∷ es) s t h =
      let meet : (q : ℕ) → cond (q == r.0) (Some r.1) (at q rs) ≡ cond (q == e.0) (Some e.1) (at q es) = λ q. sym (at-cons q r rs) ∙ h q ∙ at-cons q e es in
      let key : r.0 ≡ e.0 = elim (cases_lt r.0 e.0) [
        | inl lt ↦ absurd (let n = below-sorted r.0 e.0 es (omega arith) t.0 in let g = meet r.0 in grind (arith, nat_tests, g, n))
        | inr ge ↦ elim (cases_lt e.0 r.0) [
          | inl lt ↦ absurd (let n = below-sorted e.0 r.0 rs (omega arith) s.0 in let g = meet e.0 in grind (arith, nat_tests, g, n))
          | inr le ↦ omega arith
        ]
      ] in
      let value : r.1 ≡ e.1 = let g = meet r.0 in grind (arith, nat_tests, g, key) in
      let rest : (q : ℕ) → at q rs ≡ at q es = λ q.
      let g = meet q in
      let m : q ≤ r.0 → at q rs ≡ None = λ le. below-sorted q r.0 rs le s.0 in
      let n : q ≤ e.0 → at q es ≡ None = λ le. below-sorted q e.0 es le t.0 in
      grind (arith, nat_tests, g, key, m, n)
      in
      let tails = same_rows rs es s.1 t.1 rest in
      λ i. (key i, value i) ∷ tails i

  -- as a guard of a `match` has it
  pub spanning_is : (c : ℕ) (rs : List (Row V)) → IsSpaced 0 0 rs → spanning c rs ≡ if_spanning c (last_up_to c rs)
  spanning_is c rs s = spanning-last 0 0 c rs s

  -- the row across a place, as a row that begins before it
  pub spanning-row : (gap d c : ℕ) (rs : List (Row V)) → IsSpaced gap d rs → IfSome (spanning c rs) (λ r. (at r.0 rs ≡ Some r.1) × (r.0 < c) × (c < r.1.end))
  spanning-row gap d c [] s = tt
  spanning-row gap d c (r ∷ rs) s = by (nat_lt r.0 c && nat_lt c r.1.end) refl (spanning c rs) (spanning-row gap (r.1.end + gap) c rs s.2)
    where
      by : (b : Bool) → (nat_lt r.0 c && nat_lt c r.1.end) ≡ b → (o : Option (Row V)) → IfSome o (λ t. (at t.0 rs ≡ Some t.1) × (t.0 < c) × (c < t.1.end)) → IfSome (cond b (Some r) o) (λ t. (at t.0 (r ∷ rs) ≡ Some t.1) × (t.0 < c) × (c < t.1.end))
      by true e o w = (at-cons r.0 r rs ∙ grind (arith, nat_tests), grind (arith, nat_tests), grind (arith, nat_tests))
      by false e None w = tt
      by false e (Some t) w =
          let from : r.1.end + gap ≤ t.0 = at-from gap t.0 (r.1.end + gap) t.1 rs w.0 s.2 in
          (at-cons t.0 r rs ∙ (let f = w.0 in grind (arith, nat_tests, s.1, from, f)), w.1, w.2)

  -- no row begins inside another
  pub spanning-inside : (gap d c : ℕ) (rs : List (Row V)) → IsSpaced gap d rs → IsSome (spanning c rs) → at c rs ≡ None
  spanning-inside gap d c [] s w = refl
  spanning-inside gap d c (r ∷ rs) s w = by (nat_lt r.0 c && nat_lt c r.1.end) refl w (spanning-inside gap (r.1.end + gap) c rs s.2) (λ le. spanning-before c gap (r.1.end + gap) rs le s.2)
    where
      row_is_not_none : spanning c rs ≡ None → IsSome (spanning c rs) → ⊥
      row_is_not_none n w = let h : false ≡ true = sym (ap is_some n) ∙ w in cc

      by : (b : Bool) → (nat_lt r.0 c && nat_lt c r.1.end) ≡ b → IsSome (cond b (Some r) (spanning c rs)) → (IsSome (spanning c rs) → at c rs ≡ None) → (c ≤ r.1.end + gap → spanning c rs ≡ None) → at c (r ∷ rs) ≡ None
      by true e w ih nb =
          let above : r.0 < c = grind (arith, nat_tests) in
          let below : c < r.1.end = grind (arith, nat_tests) in
          let rest = at-before c gap (r.1.end + gap) rs (omega arith) s.2 in
          at-cons c r rs ∙ (rw rest (grind (arith, nat_tests)))
      by false e w ih nb = elim (cases_lt r.1.end c) [
        | inl lt ↦ at-cons c r rs ∙ (rw (ih w) (grind (arith, nat_tests, s.1)))
        | inr le ↦ absurd (row_is_not_none (nb (omega arith)) w)
      ]

  -- a row has a unit
  pub at-some : (gap c a : ℕ) (p : Part V) (rs : List (Row V)) → IsSpaced gap c rs → at a rs ≡ Some p → a < p.end
  at-some gap c a p [] s e = cc
  at-some gap c a p (r ∷ rs) s e = by (sym (at-cons a r rs) ∙ e) (λ f. at-some gap (r.1.end + gap) a p rs s.2 f)
    where
      by : cond (a == r.0) (Some r.1) (at a rs) ≡ Some p → (at a rs ≡ Some p → a < p.end) → a < p.end
      by x ih = grind (arith, nat_tests, x, s.1)

  -- the last row up to a place, as a row
  pub last-row : (gap d c : ℕ) (rs : List (Row V)) → IsSpaced gap d rs → IfSome (last_up_to c rs) (λ t. (at t.0 rs ≡ Some t.1) × (t.0 ≤ c) × (d ≤ t.0))
  last-row gap d c [] s = tt
  last-row gap d c (r ∷ rs) s = by (nat_le r.0 c) refl (last_up_to c rs) (last-row gap (r.1.end + gap) c rs s.2)
    where
      by : (b : Bool) → nat_le r.0 c ≡ b → (o : Option (Row V)) → IfSome o (λ t. (at t.0 rs ≡ Some t.1) × (t.0 ≤ c) × (r.1.end + gap ≤ t.0)) → IfSome (cond b (Some (unwrap_or o r)) None) (λ t. (at t.0 (r ∷ rs) ≡ Some t.1) × (t.0 ≤ c) × (d ≤ t.0))
      by true e None w = (at-cons r.0 r rs ∙ grind (arith, nat_tests), grind (arith, nat_tests), s.0)
      by true e (Some t) w = (at-cons t.0 r rs ∙ (let f = w.0 in let g = w.2 in grind (arith, nat_tests, s.1, f, g)), w.1, (let g = w.2 in omega (arith, s.0, s.1, g)))
      by false e o w = tt

  -- as `row_touching` has it
  pub touching_is : (c : ℕ) (rs : List (Row V)) → IsSpaced 1 0 rs → touching c rs ≡ if_touching c (last_up_to c rs)
  touching_is c rs s = touching-last 0 0 c rs s
