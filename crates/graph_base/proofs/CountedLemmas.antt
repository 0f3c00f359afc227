-- Counts of a node's edges, where an edge is put in or taken out. No map is named here.
use Rattle.std.proofs.Common.{◌≡◌, ℕ, ◌+◌, ◌-◌, ◌<◌, Bool, true, false, cond, List, ◌∷◌, ◌++◌, length, Option, Some, refl, sym, ap, ◌∙◌, subst, arith, length-append}
use Rattle.std.specs.Prelude.{IsSome}
use Rattle.std.specs.List.{filter}
use Rattle.std.proofs.lemmas.List.Elements.{filter-append}
use Rattle.elem.specs.declared.elements.Elem.{Elem}
use Rattle.elem.specs.Elements.{same}
use Rattle.elem.specs.ElementLaws.{same-Decides, same_equiv}
use Rattle.graph_base.specs.declared.degrees.Degrees.{Degrees}
use Rattle.graph_base.specs.Edges.{Edge}
use Rattle.graph_base.specs.Degrees.{out_of, into}
use Rattle.graph_base.specs.Counted.{AreCounted}
use Rattle.graph_base.proofs.Cuts.{all_with, all_without, all_right, all_map}

abbrev pub one : Bool → ℕ
one true = 1
one false = 0

-- the elements that pass, where one stands at a cut
pub count_cut : {X : Type 0} (test : X → Bool) (us : List X) (x : X) (vs : List X) → length (filter test (us ++ x ∷ vs)) ≡ one (test x) + length (filter test (us ++ vs))
count_cut {X} test us x vs =
    let whole = ap length (filter-append test us (x ∷ vs)) ∙ length-append (filter test us) (filter test (x ∷ vs)) in
    let rest = ap length (filter-append test us vs) ∙ length-append (filter test us) (filter test vs) in
    let here = by_case (test x) in
    omega arith
  where
    by_case : (t : Bool) → length (cond t (x ∷ filter test vs) (filter test vs)) ≡ one t + length (filter test vs)
    by_case true = omega arith
    by_case false = omega arith

-- each node keeps these counts
abbrev pub Keeps : (Elem → Option Degrees) → (Elem → ℕ) → (Elem → ℕ) → Type 0
Keeps find out into = (x : Elem) (d : Degrees) → find x ≡ Some d → (d.leaving ≡ out x) × (d.entering ≡ into x)

-- the counts of one node are written
module _ (find found : Elem → Option Degrees) (a : Elem) (w : Degrees) (finds : (x : Elem) → found x ≡ cond (same a x) (Some w) (find x)) where
  pub there : (x : Elem) → IsSome (find x) → IsSome (found x)
  there x s = subst IsSome (sym (finds x)) (by_case (same a x))
    where
      by_case : (t : Bool) → IsSome (cond t (Some w) (find x))
      by_case true = refl
      by_case false = s

  pub rewritten : (out into new_out new_into : Elem → ℕ) → w.leaving ≡ new_out a → w.entering ≡ new_into a → ((x : Elem) → same a x ≡ false → (new_out x ≡ out x) × (new_into x ≡ into x)) → Keeps find out into → Keeps found new_out new_into
  rewritten out into new_out new_into leaves enters others k x d e = by_case (same a x) refl
    where
      inside : (y z : Degrees) → ◌≡◌ {A = Option Degrees} (Some y) (Some z) → y ≡ z
      inside y z p = cc

      by_case : (t : Bool) → same a x ≡ t → (d.leaving ≡ new_out x) × (d.entering ≡ new_into x)
      by_case true t =
          let equal = inside w d (sym (finds x ∙ ap (λ s. cond s (Some w) (find x)) t) ∙ e) in
          let own = (same-Decides a x).0 t in
          (ap (λ (y : Degrees). y.leaving) (sym equal) ∙ leaves ∙ ap new_out own, ap (λ (y : Degrees). y.entering) (sym equal) ∙ enters ∙ ap new_into own)
      by_case false t =
          let before = k x d (sym (finds x ∙ ap (λ s. cond s (Some w) (find x)) t) ∙ e) in
          let stay = others x t in
          (before.0 ∙ sym stay.0, before.1 ∙ sym stay.1)

-- an edge at a cut
module _ (us : List Edge) (from to v : Elem) (vs : List Edge) where
  abbrev e : Edge
  e = (from, to, v)

  pub out_cut : (x : Elem) → out_of x (us ++ (from, to, v) ∷ vs) ≡ one (same x from) + out_of x (us ++ vs)
  out_cut x = count_cut (λ (y : Edge). same x y.0) us e vs

  pub into_cut : (x : Elem) → into x (us ++ (from, to, v) ∷ vs) ≡ one (same x to) + into x (us ++ vs)
  into_cut x = count_cut (λ (y : Edge). same x y.1) us e vs

  own : (x : Elem) → one (same x x) ≡ 1
  own x = ap one (same_equiv.refl x)

  beside : (a x : Elem) (n : ℕ) → same a x ≡ false → one (same x a) + n ≡ n
  beside a x n t = let zero = ap one (same_equiv.symm x a ∙ t) in omega arith

  module _ (f g : Elem → Option Degrees) (d w : Degrees) (first : f from ≡ Some d) (finds : (x : Elem) → g x ≡ cond (same from x) (Some w) (f x)) (leaves : w.leaving ≡ d.leaving - 1) (keeps_entering : w.entering ≡ d.entering) (c : AreCounted f (us ++ (from, to, v) ∷ vs)) where
    first_uncounted : Keeps g (λ x. out_of x (us ++ vs)) (λ x. one (same x to) + into x (us ++ vs))
    first_uncounted =
        let before = c.counted from d first in
        let self = own from in
        let cut = out_cut from in
        rewritten f g from w finds (λ x. one (same x from) + out_of x (us ++ vs)) (λ x. one (same x to) + into x (us ++ vs)) (λ x. out_of x (us ++ vs)) (λ x. one (same x to) + into x (us ++ vs)) (omega (arith, leaves, before.0, self, cut)) (keeps_entering ∙ before.1 ∙ into_cut from)
        (λ x t. (sym (beside from x (out_of x (us ++ vs)) t), refl)) (λ x n q. let k = c.counted x n q in (k.0 ∙ out_cut x, k.1 ∙ into_cut x))

    pub enters_between : (y : Degrees) → g to ≡ Some y → 0 < y.entering
    enters_between y second =
        let before = (first_uncounted to y second).1 in
        let self = own to in
        omega (arith, before, self)

  module _ (f g h : Elem → Option Degrees) (d w y z : Degrees) (first : f from ≡ Some d) (finds : (x : Elem) → g x ≡ cond (same from x) (Some w) (f x)) (second : g to ≡ Some y) (finds_more : (x : Elem) → h x ≡ cond (same to x) (Some z) (g x)) where
    both_there : (x : Elem) → IsSome (f x) → IsSome (h x)
    both_there x s = there g h to z finds_more x (there f g from w finds x s)

    module _ (leaves : w.leaving ≡ d.leaving + 1) (keeps_entering : w.entering ≡ d.entering) (keeps_leaving : z.leaving ≡ y.leaving) (enters : z.entering ≡ y.entering + 1) (c : AreCounted f (us ++ vs)) (there_from : IsSome (f from)) (there_to : IsSome (f to)) where
      first_counted : Keeps g (λ x. one (same x from) + out_of x (us ++ vs)) (λ x. into x (us ++ vs))
      first_counted =
          let before = c.counted from d first in
          let self = own from in
          rewritten f g from w finds (λ x. out_of x (us ++ vs)) (λ x. into x (us ++ vs)) (λ x. one (same x from) + out_of x (us ++ vs)) (λ x. into x (us ++ vs)) (omega (arith, leaves, before.0, self)) (keeps_entering ∙ before.1)
          (λ x t. (beside from x (out_of x (us ++ vs)) t, refl)) c.counted

      both_counted : Keeps h (λ x. one (same x from) + out_of x (us ++ vs)) (λ x. one (same x to) + into x (us ++ vs))
      both_counted =
          let before = first_counted to y second in
          let self = own to in
          rewritten g h to z finds_more (λ x. one (same x from) + out_of x (us ++ vs)) (λ x. into x (us ++ vs)) (λ x. one (same x from) + out_of x (us ++ vs)) (λ x. one (same x to) + into x (us ++ vs)) (keeps_leaving ∙ before.0) (omega (arith, enters, before.1, self))
          (λ x t. (refl, beside to x (into x (us ++ vs)) t)) first_counted

      pub counted_more : AreCounted h (us ++ (from, to, v) ∷ vs)
      counted_more = record {
        ends =
            all_with (λ (k : Edge). IsSome (h k.0) × IsSome (h k.1)) us e vs (both_there from there_from, both_there to there_to)
            (all_map (λ (k : Edge). IsSome (f k.0) × IsSome (f k.1)) (λ (k : Edge). IsSome (h k.0) × IsSome (h k.1)) (λ k s. (both_there k.0 s.0, both_there k.1 s.1)) (us ++ vs) c.ends);
        counted = λ x n q. let k = both_counted x n q in (k.0 ∙ sym (out_cut x), k.1 ∙ sym (into_cut x));
      }

    module _ (leaves : w.leaving ≡ d.leaving - 1) (keeps_entering : w.entering ≡ d.entering) (keeps_leaving : z.leaving ≡ y.leaving) (enters : z.entering ≡ y.entering - 1) (c : AreCounted f (us ++ (from, to, v) ∷ vs)) where
      both_uncounted : Keeps h (λ x. out_of x (us ++ vs)) (λ x. into x (us ++ vs))
      both_uncounted =
          let before = first_uncounted f g d w first finds leaves keeps_entering c to y second in
          let self = own to in
          rewritten g h to z finds_more (λ x. out_of x (us ++ vs)) (λ x. one (same x to) + into x (us ++ vs)) (λ x. out_of x (us ++ vs)) (λ x. into x (us ++ vs)) (keeps_leaving ∙ before.0) (omega (arith, enters, before.1, self))
          (λ x t. (refl, sym (beside to x (into x (us ++ vs)) t))) (first_uncounted f g d w first finds leaves keeps_entering c)

      pub counted_less : AreCounted h (us ++ vs)
      counted_less = record {
        ends = all_map (λ (k : Edge). IsSome (f k.0) × IsSome (f k.1)) (λ (k : Edge). IsSome (h k.0) × IsSome (h k.1)) (λ k s. (both_there k.0 s.0, both_there k.1 s.1)) (us ++ vs) (all_without (λ (k : Edge). IsSome (f k.0) × IsSome (f k.1)) us e vs c.ends);
        counted = both_uncounted;
      }

  -- the ends of the edge are nodes, and count it
  module _ (f : Elem → Option Degrees) (c : AreCounted f (us ++ (from, to, v) ∷ vs)) where
    pub ends_there : IsSome (f from) × IsSome (f to)
    ends_there = (all_right (λ (k : Edge). IsSome (f k.0) × IsSome (f k.1)) us ((from, to, v) ∷ vs) c.ends).0

    pub leaves_some : (d : Degrees) → f from ≡ Some d → 0 < d.leaving
    leaves_some d q = let k = (c.counted from d q).0 in let cut = out_cut from in let self = own from in omega (arith, k, cut, self)

    pub enters_some : (d : Degrees) → f to ≡ Some d → 0 < d.entering
    enters_some d q = let k = (c.counted to d q).1 in let cut = into_cut to in let self = own to in omega (arith, k, cut, self)
