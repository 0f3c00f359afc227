-- The edge after another of those that pass a test.
use Rattle.std.proofs.Common.{◌≡◌, ◌+◌, ℕ, zero, suc, Bool, true, false, cond, List, [], ◌∷◌, drop, Option, Some, None, refl, sym, ap, ◌∙◌, subst, slice_get, add-one}
use Rattle.std.specs.List.{filter, IsDistinct, AllByRecursion}
use Rattle.elem.specs.declared.elements.Elem.{Elem}
use Rattle.elem.specs.Elements.{same}
use Rattle.elem.specs.ElementLaws.{same-Decides, same_equiv}
use Rattle.graph_base.specs.Edges.{Edge, is_at}
use Rattle.network_base.specs.Networks.{names, ends_of}
use Rattle.network_base.specs.Shown.{edge_after, around}
use Rattle.network_base.proofs.NamedLemmas.{absent_differ}

-- an edge that is found has a number
pub numbered : (x : Elem) (edges : List Edge) (p : Elem × Elem) → ends_of x edges ≡ Some p → (k : ℕ) × (slice_get edges k ≡ Some (p.0, p.1, x))
numbered x [] p e = absurd (cc)
numbered x (y ∷ edges) p e = by_case (same x y.2) refl e (numbered x edges p)
  where
    inside : (u v : Elem × Elem) → ◌≡◌ {A = Option (Elem × Elem)} (Some u) (Some v) → u ≡ v
    inside u v h = cc

    by_case : (t : Bool) → same x y.2 ≡ t → cond t (Some (y.0, y.1)) (ends_of x edges) ≡ Some p → (ends_of x edges ≡ Some p → (k : ℕ) × (slice_get edges k ≡ Some (p.0, p.1, x))) → (k : ℕ) × (slice_get (y ∷ edges) k ≡ Some (p.0, p.1, x))
    by_case true t f rest =
        let equal = inside (y.0, y.1) p f in
        let key = sym ((same-Decides x y.2).0 t) in
        (0, (λ i. Some ((equal i).0, (equal i).1, key i)))
    by_case false t f rest = let c = rest f in (suc c.0, c.1)

module _ (test : Edge → Bool) where
  others_pass : (x : Elem) (edges : List Edge) → AllByRecursion (λ y. same x y ≡ false) (names edges) → AllByRecursion (λ y. same x y ≡ false) (names (filter test edges))
  others_pass x [] h = tt
  others_pass x (e ∷ edges) h = by_case (test e) (others_pass x edges h.1)
    where
      by_case : (t : Bool) → AllByRecursion (λ y. same x y ≡ false) (names (filter test edges)) → AllByRecursion (λ y. same x y ≡ false) (names (cond t (e ∷ filter test edges) (filter test edges)))
      by_case true k = (h.0, k)
      by_case false k = k

  passing_distinct : (edges : List Edge) → IsDistinct same (names edges) → IsDistinct same (names (filter test edges))
  unfolding IsDistinct
  passing_distinct [] d = tt
  passing_distinct (e ∷ edges) d = by_case (test e) (passing_distinct edges d.1)
    where
      by_case : (t : Bool) → IsDistinct same (names (filter test edges)) → IsDistinct same (names (cond t (e ∷ filter test edges) (filter test edges)))
      by_case true k = (others_pass e.2 edges d.0, k)
      by_case false k = k

none_after : (x : Elem) (edges : List Edge) → AllByRecursion (λ y. same x y ≡ false) (names edges) → edge_after x edges ≡ None
none_after x [] h = refl
none_after x (e ∷ edges) h = ap (λ t. cond t (slice_get edges 0) (edge_after x edges)) h.0 ∙ none_after x edges h.1

other_name : (x : Elem) (edges : List Edge) (k : ℕ) (e : Edge) → AllByRecursion (λ y. same x y ≡ false) (names edges) → slice_get edges k ≡ Some e → same e.2 x ≡ false
other_name x [] k e h f = absurd (cc)
other_name x (y ∷ edges) zero e h f = let equal : y ≡ e = cc in same_equiv.symm e.2 x ∙ ap (λ (z : Edge). same x z.2) (sym equal) ∙ h.0
other_name x (y ∷ edges) (suc k) e h f = other_name x edges k e h.1 f

module _ (test : Edge → Bool) where
  pub absent_after : (x : Elem) (edges : List Edge) → ends_of x edges ≡ None → edge_after x (filter test edges) ≡ None
  absent_after x edges e = none_after x (filter test edges) (others_pass test x edges (absent_differ x edges e))

  -- after an edge that does not pass there is none
  pub failing_after : (edges : List Edge) (k : ℕ) (e : Edge) → IsDistinct same (names edges) → slice_get edges k ≡ Some e → test e ≡ false → edge_after e.2 (filter test edges) ≡ None
  unfolding IsDistinct
  failing_after [] k e d f t = absurd (cc)
  failing_after (y ∷ edges) zero e d f t =
      let equal : y ≡ e = cc in
      ap (λ b. edge_after e.2 (cond b (y ∷ filter test edges) (filter test edges))) (ap test equal ∙ t) ∙ none_after e.2 (filter test edges) (others_pass test e.2 edges (subst (λ (z : Edge). AllByRecursion (λ y. same z.2 y ≡ false) (names edges)) equal d.0))
  failing_after (y ∷ edges) (suc k) e d f t = by_case (test y) (failing_after edges k e d.1 f t)
    where
      by_case : (b : Bool) → edge_after e.2 (filter test edges) ≡ None → edge_after e.2 (cond b (y ∷ filter test edges) (filter test edges)) ≡ None
      by_case true h = ap (λ s. cond s (slice_get (filter test edges) 0) (edge_after e.2 (filter test edges))) (other_name y.2 edges k e d.0 f) ∙ h
      by_case false h = h

  -- after one that passes comes the first of those that pass behind it
  passing_after : (edges : List Edge) (k : ℕ) (e : Edge) → IsDistinct same (names edges) → slice_get edges k ≡ Some e → test e ≡ true → slice_get (filter test (drop (suc k) edges)) 0 ≡ edge_after e.2 (filter test edges)
  unfolding IsDistinct
  passing_after [] k e d f t = absurd (cc)
  passing_after (y ∷ edges) zero e d f t =
      let equal : y ≡ e = cc in
      sym (ap (λ b. edge_after e.2 (cond b (y ∷ filter test edges) (filter test edges))) (ap test equal ∙ t) ∙ ap (λ s. cond s (slice_get (filter test edges) 0) (edge_after e.2 (filter test edges))) (ap (λ (z : Edge). same e.2 z.2) equal ∙ same_equiv.refl e.2))
  passing_after (y ∷ edges) (suc k) e d f t = passing_after edges k e d.1 f t ∙ by_case (test y)
    where
      by_case : (b : Bool) → edge_after e.2 (filter test edges) ≡ edge_after e.2 (cond b (y ∷ filter test edges) (filter test edges))
      by_case true = sym (ap (λ s. cond s (slice_get (filter test edges) 0) (edge_after e.2 (filter test edges))) (other_name y.2 edges k e d.0 f))
      by_case false = refl

  around_distinct : (o : Option Elem) (edges : List Edge) → IsDistinct same (names edges) → IsDistinct same (names (around o edges))
  around_distinct None edges d = d
  around_distinct (Some a) edges d = passing_distinct (is_at a) edges d

  pub start_after : (o : Option Elem) (edges : List Edge) (k : ℕ) (e : Edge) → IsDistinct same (names edges) → slice_get (around o edges) k ≡ Some e → test e ≡ true → slice_get (filter test (drop (k + 1) (around o edges))) 0 ≡ edge_after e.2 (filter test (around o edges))
  start_after o edges k e d f t = ap (λ n. slice_get (filter test (drop n (around o edges))) 0) (add-one k) ∙ passing_after (around o edges) k e (around_distinct o edges d) f t
