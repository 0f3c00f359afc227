-- Groups of places by key: a place put in, and one taken out. No slab and no map is named here.
use Rattle.std.proofs.Common.{◌≡◌, ◌≢◌, ℕ, zero, suc, ◌≤◌, ◌<◌, Bool, true, false, cond, List, [], ◌∷◌, ◌++◌, length, Option, Some, None, refl, sym, ap, ◌∙◌, subst, arith, length-append}
use Rattle.std.specs.Prelude.{IsSome}
use Rattle.std.specs.Option.{option_map}
use Rattle.std.specs.List.{filter}
use Rattle.std.proofs.lemmas.List.Elements.{filter-append}
use Rattle.elem.specs.declared.elements.Elem.{Elem}
use Rattle.elem.specs.Elements.{same}
use Rattle.elem.specs.ElementLaws.{same-Decides, same_equiv}
use Rattle.linked_base.specs.declared.links.Links.{Links}
use Rattle.linked_base.specs.declared.links.Ends.{Ends}
use Rattle.linked_base.specs.declared.group.Group.{Group}
use Rattle.linked_base.specs.Thread.{Avoids, IsRun, IsThread, KeepsRest}
use Rattle.linked_base.specs.Group.{no_group, group_or_none, used_at, some_used, IsGroup, has, of_key, AreGrouped}
use Rattle.linked_base.proofs.ThreadLemmas.{avoids_join, avoids_cut}

-- threads kept
module _ (at new : ℕ → Option Links) where
  abbrev pub Same : List ℕ → Type 0
  Same [] = Unit {0}
  Same (p ∷ ps) = (new p ≡ at p) × Same ps

  run_same : (b : Option ℕ) (ps : List ℕ) (z : Option ℕ) → Same ps → IsRun at b ps z → IsRun new b ps z
  run_same b [] z s h = tt
  run_same b (p ∷ ps) z s h = (s.0 ∙ h.0, run_same (Some p) ps z s.1 h.1)

  pub thread_same : (e : Ends) (ps : List ℕ) → Same ps → IsThread at e ps → IsThread new e ps
  thread_same e ps s t = record { first = t.first; last = t.last; links = run_same None ps None s t.links; apart = t.apart }

  pub same_everywhere : ((p : ℕ) → new p ≡ at p) → (ps : List ℕ) → Same ps
  same_everywhere h [] = tt
  same_everywhere h (p ∷ ps) = (h p, same_everywhere h ps)

  pub same_beside : (q : ℕ) → ((p : ℕ) → p ≢ q → new p ≡ at p) → (ps : List ℕ) → Avoids (Some q) ps → Same ps
  same_beside q h [] a = tt
  same_beside q h (p ∷ ps) a = (h p (λ e. a.0 (ap Some (sym e))), same_beside q h ps a.1)

  pub group_same : (g : Group) (ps : List ℕ) → Same ps → IsGroup at g ps → IsGroup new g ps
  group_same g ps s h = record { thread = thread_same g.ends ps s h.thread; count = h.count }

  -- the same in each place that passes
  pub same_filter : (q : ℕ) (test : ℕ → Bool) → ((p : ℕ) → test p ≡ true → p ≢ q → new p ≡ at p) → (ps : List ℕ) → Avoids (Some q) ps → Same (filter test ps)
  same_filter q test h [] a = tt
  same_filter q test h (p ∷ ps) a = split (test p) refl (same_filter q test h ps a.1)
    where
      split : (b : Bool) → test p ≡ b → Same (filter test ps) → Same (cond b (p ∷ filter test ps) (filter test ps))
      split true t r = (h p t (λ e. a.0 (ap Some (sym e))), r)
      split false t r = r

-- the places that pass a test
module _ (test : ℕ → Bool) where
  pub avoids_filter : (o : Option ℕ) (ps : List ℕ) → Avoids o ps → Avoids o (filter test ps)
  avoids_filter o [] a = tt
  avoids_filter o (p ∷ ps) a = split (test p) (avoids_filter o ps a.1)
    where
      split : (b : Bool) → Avoids o (filter test ps) → Avoids o (cond b (p ∷ filter test ps) (filter test ps))
      split true r = (a.0, r)
      split false r = r

  -- a place that does not pass is beside those that do
  pub failing_beside : (p : ℕ) → test p ≡ false → (ps : List ℕ) → Avoids (Some p) (filter test ps)
  failing_beside p f [] = tt
  failing_beside p f (q ∷ ps) = split (test q) refl (failing_beside p f ps)
    where
      split : (b : Bool) → test q ≡ b → Avoids (Some p) (filter test ps) → Avoids (Some p) (cond b (q ∷ filter test ps) (filter test ps))
      split true t r = (λ e. let equal : p ≡ q = cc in let both = sym f ∙ ap test equal ∙ t in cc, r)
      split false t r = r

  pub length-filter_le : (ps : List ℕ) → length (filter test ps) ≤ length ps
  length-filter_le [] = omega arith
  length-filter_le (p ∷ ps) = split (test p) (length-filter_le ps)
    where
      split : (b : Bool) → length (filter test ps) ≤ length ps → length (cond b (p ∷ filter test ps) (filter test ps)) ≤ suc (length ps)
      split true r = omega arith
      split false r = omega arith

-- two tests that agree beside a place keep the same places of a list without it
pub filter_beside : (old new : ℕ → Bool) (q : ℕ) (ps : List ℕ) → ((p : ℕ) → p ≢ q → new p ≡ old p) → Avoids (Some q) ps → filter new ps ≡ filter old ps
filter_beside old new q [] h a = refl
filter_beside old new q (p ∷ ps) h a = λ i. cond (h p (λ e. a.0 (ap Some (sym e))) i) (p ∷ filter_beside old new q ps h a.1 i) (filter_beside old new q ps h a.1 i)

pub key_differs : (x k : Elem) (o : Option Elem) → same x k ≡ false → has x o ≡ true → has k o ≡ false
key_differs x k None d e = refl
key_differs x k (Some c) d e = ap (same k) (sym ((same-Decides x c).0 e)) ∙ same_equiv.symm k x ∙ d

-- a group that is used, or dropped where it is not
pub used_group : (at : ℕ → Option Links) (g : Group) (ps : List ℕ) → IsGroup at g ps → IsGroup at (group_or_none (some_used g)) ps
used_group at g ps h = by_count g.count refl
  where
    nothing : (ps : List ℕ) → length ps ≡ 0 → IsGroup at no_group ps
    nothing [] e = record { thread = record { first = refl; last = refl; links = tt; apart = tt }; count = refl }
    nothing (p ∷ ps) e = absurd (omega arith)

    by_count : (n : ℕ) → g.count ≡ n → IsGroup at (group_or_none (used_at n g)) ps
    by_count zero e = nothing ps (sym h.count ∙ e)
    by_count (suc n) e = h

pub used_positive : (g x : Group) → some_used g ≡ Some x → 0 < x.count
used_positive g x e = by_count g.count refl e
  where
    by_count : (n : ℕ) → g.count ≡ n → used_at n g ≡ Some x → 0 < x.count
    by_count zero c e = absurd (cc)
    by_count (suc n) c e = let equal : g ≡ x = cc in let count = ap (λ (y : Group). y.count) equal in omega arith

-- a place put in, or taken out
module _ (key new_key : ℕ → Option Elem) (at new : ℕ → Option Links) (find found : Elem → Option Group) (us : List ℕ) (q : ℕ) (vs : List ℕ) (k : Elem) (g : Group) (beside : Avoids (Some q) (us ++ vs)) (keys : (p : ℕ) → p ≢ q → new_key p ≡ key p) (finds : (x : Elem) → found x ≡ cond (same k x) (some_used g) (find x)) where
  of_cut : (x : Elem) → of_key key x (us ++ vs) ≡ of_key key x us ++ of_key key x vs
  of_cut x = filter-append (λ p. has x (key p)) us vs

  of_new : (x : Elem) → of_key new_key x (us ++ vs) ≡ of_key key x us ++ of_key key x vs
  of_new x = filter_beside (λ p. has x (key p)) (λ p. has x (new_key p)) q (us ++ vs) (λ p d. ap (has x) (keys p d)) beside ∙ of_cut x

  same_find : (x : Elem) → same x k ≡ false → found x ≡ find x
  same_find x d = finds x ∙ ap (λ b. cond b (some_used g) (find x)) (same_equiv.symm k x ∙ d)

  own_find : found k ≡ some_used g
  own_find = finds k ∙ ap (λ b. cond b (some_used g) (find k)) (same_equiv.refl k)

  still_used : ((x : Elem) (h : Group) → find x ≡ Some h → 0 < h.count) → (x : Elem) (h : Group) → found x ≡ Some h → 0 < h.count
  still_used before x h e = split (same k x) (sym (finds x) ∙ e)
    where
      split : (b : Bool) → cond b (some_used g) (find x) ≡ Some h → 0 < h.count
      split true f = used_positive g h f
      split false f = before x h f

  beside_own : (x : Elem) → same x k ≡ false → (p : ℕ) → has x (key p) ≡ true → Avoids (Some p) (of_key key k us) × Avoids (Some p) (of_key key k vs)
  beside_own x d p t =
      let f = key_differs x k (key p) d t in
      (failing_beside (λ r. has k (key r)) p f us, failing_beside (λ r. has k (key r)) p f vs)

  beside_parts : (x : Elem) → Avoids (Some q) (of_key key x us ++ of_key key x vs)
  beside_parts x = subst (Avoids (Some q)) (of_cut x) (avoids_filter (λ p. has x (key p)) (Some q) (us ++ vs) beside)

  module _ (here : new_key q ≡ Some k) (others : (p : ℕ) → Avoids (Some p) (of_key key k us ++ q ∷ of_key key k vs) → new p ≡ at p) (grown : IsGroup new g (of_key key k us ++ q ∷ of_key key k vs)) where
    of_with : (x : Elem) → of_key new_key x (us ++ q ∷ vs) ≡ of_key key x us ++ cond (same x k) (q ∷ of_key key x vs) (of_key key x vs)
    of_with x =
        filter-append (λ p. has x (new_key p)) us (q ∷ vs)
        ∙ (λ i. filter_beside (λ p. has x (key p)) (λ p. has x (new_key p)) q us (λ p d. ap (has x) (keys p d)) (avoids_cut (Some q) us vs beside).0 i ++ cond (has x (here i)) (q ∷ after i) (after i))
      where
        after : of_key new_key x vs ≡ of_key key x vs
        after = filter_beside (λ p. has x (key p)) (λ p. has x (new_key p)) q vs (λ p d. ap (has x) (keys p d)) (avoids_cut (Some q) us vs beside).1

    pub joined : AreGrouped key at find (us ++ vs) → AreGrouped new_key new found (us ++ q ∷ vs)
    joined h = record { group = λ x. subst (IsGroup new (group_or_none (found x))) (sym (of_with x)) (each x (same x k) refl); used = still_used h.used }
      where
        each : (x : Elem) (b : Bool) → same x k ≡ b → IsGroup new (group_or_none (found x)) (of_key key x us ++ cond b (q ∷ of_key key x vs) (of_key key x vs))
        each x true t =
            subst (λ y. IsGroup new (group_or_none (found y)) (of_key key y us ++ q ∷ of_key key y vs)) (sym ((same-Decides x k).0 t))
            (subst (λ o. IsGroup new (group_or_none o) (of_key key k us ++ q ∷ of_key key k vs)) (sym own_find) (used_group new g (of_key key k us ++ q ∷ of_key key k vs) grown))
        each x false t =
            subst (λ o. IsGroup new (group_or_none o) (of_key key x us ++ of_key key x vs)) (sym (same_find x t))
            (subst (IsGroup new (group_or_none (find x))) (of_cut x)
            (group_same at new (group_or_none (find x)) (of_key key x (us ++ vs))
            (same_filter at new q (λ p. has x (key p)) (λ p r d. others p (let b = beside_own x t p r in avoids_join (Some p) (of_key key k us) (q ∷ of_key key k vs) b.0 ((λ e. d (cc)), b.1))) (us ++ vs) beside)
            (h.group x)))

  module _ (here : key q ≡ Some k) (others : (p : ℕ) → p ≢ q → Avoids (Some p) (of_key key k us ++ of_key key k vs) → new p ≡ at p) (shrunk : IsGroup new g (of_key key k us ++ of_key key k vs)) where
    of_without : (x : Elem) → of_key key x (us ++ q ∷ vs) ≡ of_key key x us ++ cond (same x k) (q ∷ of_key key x vs) (of_key key x vs)
    of_without x = filter-append (λ p. has x (key p)) us (q ∷ vs) ∙ ap (λ o. of_key key x us ++ cond (has x o) (q ∷ of_key key x vs) (of_key key x vs)) here

    pub left : AreGrouped key at find (us ++ q ∷ vs) → AreGrouped new_key new found (us ++ vs)
    left h = record { group = λ x. subst (IsGroup new (group_or_none (found x))) (sym (of_new x)) (each x (same x k) refl); used = still_used h.used }
      where
        each : (x : Elem) (b : Bool) → same x k ≡ b → IsGroup new (group_or_none (found x)) (of_key key x us ++ of_key key x vs)
        each x true t =
            subst (λ y. IsGroup new (group_or_none (found y)) (of_key key y us ++ of_key key y vs)) (sym ((same-Decides x k).0 t))
            (subst (λ o. IsGroup new (group_or_none o) (of_key key k us ++ of_key key k vs)) (sym own_find) (used_group new g (of_key key k us ++ of_key key k vs) shrunk))
        each x false t =
            let whole = of_without x ∙ ap (λ b. of_key key x us ++ cond b (q ∷ of_key key x vs) (of_key key x vs)) t in
            let s = same_filter at new q (λ p. has x (key p)) (λ p r d. others p d (let b = beside_own x t p r in avoids_join (Some p) (of_key key k us) (of_key key k vs) b.0 b.1)) (us ++ vs) beside in
            subst (λ o. IsGroup new (group_or_none o) (of_key key x us ++ of_key key x vs)) (sym (same_find x t))
            (group_same at new (group_or_none (find x)) (of_key key x us ++ of_key key x vs) (subst (Same at new) (of_cut x) s) (subst (IsGroup at (group_or_none (find x))) whole (h.group x)))

-- the group of a key at a cut where the place has the key
pub group_cut : (key : ℕ → Option Elem) (at : ℕ → Option Links) (find : Elem → Option Group) (us : List ℕ) (q : ℕ) (vs : List ℕ) (k : Elem) → key q ≡ Some k → AreGrouped key at find (us ++ q ∷ vs) → IsGroup at (group_or_none (find k)) (of_key key k us ++ q ∷ of_key key k vs)
group_cut key at find us q vs k here h =
    subst (IsGroup at (group_or_none (find k)))
    (filter-append (λ p. has k (key p)) us (q ∷ vs) ∙ ap (λ o. of_key key k us ++ cond (has k o) (q ∷ of_key key k vs) (of_key key k vs)) here ∙ ap (λ b. of_key key k us ++ cond b (q ∷ of_key key k vs) (of_key key k vs)) (same_equiv.refl k))
    (h.group k)

pub group_at : (key : ℕ → Option Elem) (at : ℕ → Option Links) (find : Elem → Option Group) (us vs : List ℕ) (k : Elem) → AreGrouped key at find (us ++ vs) → IsGroup at (group_or_none (find k)) (of_key key k us ++ of_key key k vs)
group_at key at find us vs k h = subst (IsGroup at (group_or_none (find k))) (filter-append (λ p. has k (key p)) us vs) (h.group k)

-- a key whose group has something has a group
pub group_there : (at : ℕ → Option Links) (o : Option Group) (us : List ℕ) (q : ℕ) (vs : List ℕ) → IsGroup at (group_or_none o) (us ++ q ∷ vs) → IsSome o × (0 < (group_or_none o).count)
group_there at None us q vs h = let n = h.count in absurd (omega (arith, length-append us (q ∷ vs)))
group_there at (Some g) us q vs h = let n = h.count in (refl, omega (arith, length-append us (q ∷ vs)))

-- what a write of links keeps of a node
module _ {T X : Type 0} (with_links : T → Links → T) (read : T → X) (reads : (n : T) (l : Links) → read (with_links n l) ≡ read n) where
  pub kept : (x y : Option T) → KeepsRest with_links x y → option_map read y ≡ option_map read x
  kept None y r = ap (option_map read) r
  kept (Some n) y r = ap (option_map read) r.1 ∙ ap Some (reads n r.0)

-- groups are kept where keys, links and finds are the same
pub grouped_same : (key new_key : ℕ → Option Elem) (at new : ℕ → Option Links) (find found : Elem → Option Group) (ps : List ℕ) → ((p : ℕ) → new_key p ≡ key p) → ((p : ℕ) → new p ≡ at p) → ((k : Elem) → found k ≡ find k) → AreGrouped key at find ps → AreGrouped new_key new found ps
grouped_same key new_key at new find found ps ks ls fs h = record {
  group = λ k. subst (λ o. IsGroup new (group_or_none o) (of_key new_key k ps)) (sym (fs k))
      (subst (IsGroup new (group_or_none (find k))) (sym (λ i. filter (λ p. has k (ks p i)) ps))
      (group_same at new (group_or_none (find k)) (of_key key k ps) (same_everywhere at new ls (of_key key k ps)) (h.group k)));
  used = λ k g e. h.used k g (sym (fs k) ∙ e);
}

-- one thread's part in a step of several writes: a new node, links of other threads, this thread, links of other threads
module _ (key new_key : ℕ → Option Elem) (at₀ at₁ at₂ at₃ : ℕ → Option Links) (find found : Elem → Option Group) (us : List ℕ) (q : ℕ) (vs : List ℕ) (k : Elem) (g₀ g : Group) (beside : Avoids (Some q) (us ++ vs)) (same_group : g₀ ≡ group_or_none (find k)) where
  -- the group before the thread is written
  pub join_start : ((p : ℕ) → p ≢ q → at₁ p ≡ at₀ p) → AreGrouped key at₀ find (us ++ vs) → IsGroup at₁ g₀ (of_key key k us ++ of_key key k vs)
  join_start before h =
      subst (λ x. IsGroup at₁ x (of_key key k us ++ of_key key k vs)) (sym same_group)
      (group_same at₀ at₁ (group_or_none (find k)) (of_key key k us ++ of_key key k vs)
      (same_beside at₀ at₁ q before (of_key key k us ++ of_key key k vs) (join_beside key q us vs k beside)) (group_at key at₀ find us vs k h))
    where
      join_beside : (key : ℕ → Option Elem) (q : ℕ) (us vs : List ℕ) (k : Elem) → Avoids (Some q) (us ++ vs) → Avoids (Some q) (of_key key k us ++ of_key key k vs)
      join_beside key q us vs k a = subst (Avoids (Some q)) (filter-append (λ p. has k (key p)) us vs) (avoids_filter (λ p. has k (key p)) (Some q) (us ++ vs) a)

  pub own_beside : Avoids (Some q) (of_key key k us ++ of_key key k vs)
  own_beside = subst (Avoids (Some q)) (filter-append (λ p. has k (key p)) us vs) (avoids_filter (λ p. has k (key p)) (Some q) (us ++ vs) beside)

  pub join_finish : ((p : ℕ) → p ≢ q → new_key p ≡ key p) → new_key q ≡ Some k → ((x : Elem) → found x ≡ cond (same k x) (some_used g) (find x)) → ((p : ℕ) → p ≢ q → at₁ p ≡ at₀ p)
      → ((p : ℕ) → Avoids (Some p) (of_key key k us ++ q ∷ of_key key k vs) → at₂ p ≡ at₁ p) → IsGroup at₂ g (of_key key k us ++ q ∷ of_key key k vs) → ((p : ℕ) → at₃ p ≡ at₂ p)
      → AreGrouped key at₀ find (us ++ vs) → AreGrouped new_key at₃ found (us ++ q ∷ vs)
  join_finish keys here finds before others grown after h =
      joined key new_key at₀ at₃ find found us q vs k g beside keys finds here
      (λ p a. after p ∙ others p a ∙ before p (λ e. (avoids_cut (Some p) (of_key key k us) (q ∷ of_key key k vs) a).1.0 (ap Some e)))
      (group_same at₂ at₃ g (of_key key k us ++ q ∷ of_key key k vs) (same_everywhere at₂ at₃ after (of_key key k us ++ q ∷ of_key key k vs)) grown) h

  pub leave_start : key q ≡ Some k → ((p : ℕ) → at₁ p ≡ at₀ p) → AreGrouped key at₀ find (us ++ q ∷ vs) → IsGroup at₁ g₀ (of_key key k us ++ q ∷ of_key key k vs)
  leave_start here before h =
      subst (λ x. IsGroup at₁ x (of_key key k us ++ q ∷ of_key key k vs)) (sym same_group)
      (group_same at₀ at₁ (group_or_none (find k)) (of_key key k us ++ q ∷ of_key key k vs) (same_everywhere at₀ at₁ before (of_key key k us ++ q ∷ of_key key k vs)) (group_cut key at₀ find us q vs k here h))

  pub leave_finish : ((p : ℕ) → p ≢ q → new_key p ≡ key p) → key q ≡ Some k → ((x : Elem) → found x ≡ cond (same k x) (some_used g) (find x)) → ((p : ℕ) → at₁ p ≡ at₀ p)
      → ((p : ℕ) → Avoids (Some p) (of_key key k us ++ of_key key k vs) → at₂ p ≡ at₁ p) → IsGroup at₂ g (of_key key k us ++ of_key key k vs) → ((p : ℕ) → p ≢ q → at₃ p ≡ at₂ p)
      → AreGrouped key at₀ find (us ++ q ∷ vs) → AreGrouped new_key at₃ found (us ++ vs)
  leave_finish keys here finds before others shrunk after h =
      left key new_key at₀ at₃ find found us q vs k g beside keys finds here
      (λ p d a. after p d ∙ others p a ∙ before p)
      (group_same at₂ at₃ g (of_key key k us ++ of_key key k vs) (same_beside at₂ at₃ q after (of_key key k us ++ of_key key k vs) own_beside) shrunk) h

pub key_beside : (key : ℕ → Option Elem) (us : List ℕ) (q : ℕ) (vs : List ℕ) (k : Elem) → Avoids (Some q) (us ++ vs) → Avoids (Some q) (of_key key k us ++ of_key key k vs)
key_beside key us q vs k a = subst (Avoids (Some q)) (filter-append (λ p. has k (key p)) us vs) (avoids_filter (λ p. has k (key p)) (Some q) (us ++ vs) a)

pub own_cut : (key : ℕ → Option Elem) (us : List ℕ) (q : ℕ) (vs : List ℕ) (k : Elem) → key q ≡ Some k → of_key key k (us ++ q ∷ vs) ≡ of_key key k us ++ q ∷ of_key key k vs
own_cut key us q vs k here =
    filter-append (λ p. has k (key p)) us (q ∷ vs) ∙ ap (λ o. of_key key k us ++ cond (has k o) (q ∷ of_key key k vs) (of_key key k vs)) here ∙ ap (λ b. of_key key k us ++ cond b (q ∷ of_key key k vs) (of_key key k vs)) (same_equiv.refl k)
