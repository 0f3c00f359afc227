-- Threads cut, joined and relinked.
use Rattle.std.proofs.Common.{◌≡◌, ◌≢◌, ℕ, zero, suc, ◌≤◌, List, [], ◌∷◌, ◌++◌, length, Option, Some, None, refl, sym, ap, ◌∙◌, subst, arith}
use Rattle.std.specs.Prelude.{MatchOption, IsSome}
use Rattle.std.proofs.Common.{inl, inr}
use Rattle.std.proofs.lemmas.Bool.{cases_eq}
use Rattle.std.specs.Option.{option_map}
use Rattle.slab.specs.Slab.{Slab, get}
use Rattle.linked_base.specs.declared.links.Links.{Links}
use Rattle.linked_base.specs.declared.links.Ends.{Ends}
use Rattle.linked_base.specs.Thread.{head_or, last_or, Avoids, Apart, next_of, IsRun, walk, IsThread, links_at, Rewrites, KeepsRest}

pub head_or-append : (z : Option ℕ) (us vs : List ℕ) → head_or z (us ++ vs) ≡ head_or (head_or z vs) us
head_or-append z [] vs = refl
head_or-append z (p ∷ us) vs = refl

pub last_or-append : (z : Option ℕ) (us vs : List ℕ) → last_or z (us ++ vs) ≡ last_or (last_or z us) vs
last_or-append z [] vs = refl
last_or-append z (p ∷ us) vs = last_or-append (Some p) us vs

-- places that are avoided
module _ (o : Option ℕ) where
  pub avoids_cut : (us vs : List ℕ) → Avoids o (us ++ vs) → Avoids o us × Avoids o vs
  avoids_cut [] vs h = (tt, h)
  avoids_cut (p ∷ us) vs h = let rest = avoids_cut us vs h.1 in ((h.0, rest.0), rest.1)

  pub avoids_join : (us vs : List ℕ) → Avoids o us → Avoids o vs → Avoids o (us ++ vs)
  avoids_join [] vs g h = h
  avoids_join (p ∷ us) vs g h = (g.0, avoids_join us vs g.1 h)

  -- a place that is avoided is not the last
  pub avoids_last : (p : ℕ) (ps : List ℕ) → Avoids o (p ∷ ps) → o ≢ last_or (Some p) ps
  avoids_last p [] h = h.0
  avoids_last p (q ∷ ps) h = avoids_last q ps h.1

pub apart_left : (us vs : List ℕ) → Apart (us ++ vs) → Apart us
apart_left [] vs h = tt
apart_left (p ∷ us) vs h = ((avoids_cut (Some p) us vs h.0).0, apart_left us vs h.1)

pub apart_right : (us vs : List ℕ) → Apart (us ++ vs) → Apart vs
apart_right [] vs h = h
apart_right (p ∷ us) vs h = apart_right us vs h.1

flip : (o : Option ℕ) (p : ℕ) → o ≢ Some p → Some p ≢ o
flip o p h e = h (sym e)

-- the last of the front is not in the back
pub apart_last : (us vs : List ℕ) → Apart (us ++ vs) → Avoids (last_or None us) vs
apart_last us vs h = from None us (nothing vs) h
  where
    nothing : (vs : List ℕ) → Avoids None vs
    nothing [] = tt
    nothing (p ∷ vs) = (λ e. cc, nothing vs)

    from : (o : Option ℕ) (us : List ℕ) → Avoids o vs → Apart (us ++ vs) → Avoids (last_or o us) vs
    from o [] g h = g
    from o (p ∷ us) g h = from (Some p) us (avoids_cut (Some p) us vs h.0).1 h.1

-- the first of the back is not in the front
pub apart_first : (us vs : List ℕ) → Apart (us ++ vs) → Avoids (head_or None vs) us
apart_first [] vs h = tt
apart_first (p ∷ us) [] h = (λ e. cc, apart_first us [] h.1)
apart_first (p ∷ us) (q ∷ vs) h = (λ e. (avoids_cut (Some p) us (q ∷ vs) h.0).1.0 (sym e), apart_first us (q ∷ vs) h.1)

-- without, and with, a place in the middle
pub apart_without : (us : List ℕ) (p : ℕ) (vs : List ℕ) → Apart (us ++ p ∷ vs) → Apart (us ++ vs) × Avoids (Some p) (us ++ vs)
apart_without [] p vs h = (h.1, h.0)
apart_without (a ∷ us) p vs h =
    let cut = avoids_cut (Some a) us (p ∷ vs) h.0 in
    let rest = apart_without us p vs h.1 in
    ((avoids_join (Some a) us vs cut.0 cut.1.1, rest.0), (flip (Some a) p cut.1.0, rest.1))

pub apart_with : (us : List ℕ) (p : ℕ) (vs : List ℕ) → Avoids (Some p) (us ++ vs) → Apart (us ++ vs) → Apart (us ++ p ∷ vs)
apart_with [] p vs g h = (g, h)
apart_with (a ∷ us) p vs g h =
    let cut = avoids_cut (Some a) us vs h.0 in
    (avoids_join (Some a) us (p ∷ vs) cut.0 (flip (Some p) a g.0, cut.1), apart_with us p vs g.1 h.1)

-- runs
module _ (at : ℕ → Option Links) where
  pub run_cut : (b : Option ℕ) (us vs : List ℕ) (z : Option ℕ) → IsRun at b (us ++ vs) z → IsRun at b us (head_or z vs) × IsRun at (last_or b us) vs z
  run_cut b [] vs z h = (tt, h)
  run_cut b (p ∷ us) vs z h =
      let rest = run_cut (Some p) us vs z h.1 in
      ((h.0 ∙ ap (λ n. Some (record { previous = b; next = n })) (head_or-append z us vs), rest.0), rest.1)

  pub run_join : (b : Option ℕ) (us vs : List ℕ) (z : Option ℕ) → IsRun at b us (head_or z vs) → IsRun at (last_or b us) vs z → IsRun at b (us ++ vs) z
  run_join b [] vs z g h = h
  run_join b (p ∷ us) vs z g h =
      (g.0 ∙ ap (λ n. Some (record { previous = b; next = n })) (sym (head_or-append z us vs)), run_join (Some p) us vs z g.1 h)

  -- a walk reads the run
  pub walk_run : (b : Option ℕ) (ps : List ℕ) (n : ℕ) → length ps ≤ n → IsRun at b ps None → walk at n (head_or None ps) ≡ ps
  walk_run b [] zero l h = refl
  walk_run b [] (suc n) l h = refl
  walk_run b (p ∷ ps) zero l h = absurd (omega arith)
  walk_run b (p ∷ ps) (suc n) l h =
      ap (λ qs. p ∷ qs) (ap (λ o. walk at n (next_of o)) h.0 ∙ walk_run (Some p) ps n (omega arith) h.1)

  -- each place of a run has a node
  pub run_at : (b : Option ℕ) (us : List ℕ) (p : ℕ) (vs : List ℕ) (z : Option ℕ) → IsRun at b (us ++ p ∷ vs) z → at p ≡ Some (record { previous = last_or b us; next = head_or z vs })
  run_at b us p vs z h = (run_cut b us (p ∷ vs) z h).1.0

module _ (at new : ℕ → Option Links) (o : Option ℕ) (others : (p : ℕ) → o ≢ Some p → new p ≡ at p) where
  -- a run that has not the place keeps its links
  pub run_kept : (b : Option ℕ) (ps : List ℕ) (z : Option ℕ) → Avoids o ps → IsRun at b ps z → IsRun new b ps z
  run_kept b [] z g h = tt
  run_kept b (p ∷ ps) z g h = (others p g.0 ∙ h.0, run_kept (Some p) ps z g.1 h.1)

  -- another place follows the last
  pub run_relink_last : (b : Option ℕ) (ps : List ℕ) (z to : Option ℕ) → o ≡ last_or None ps → Apart ps → ((p : ℕ) (l : Links) → o ≡ Some p → at p ≡ Some l → new p ≡ Some (record l { next = to }))
      → IsRun at b ps z → IsRun new b ps to
  run_relink_last b [] z to e d changed h = tt
  run_relink_last b (p ∷ []) z to e d changed h = (changed p _ e h.0, tt)
  run_relink_last b (p ∷ q ∷ ps) z to e d changed h =
      (others p (λ f. avoids_last (Some p) q ps d.0 (sym f ∙ e)) ∙ h.0, run_relink_last (Some p) (q ∷ ps) z to e d.1 changed h.1)

  -- another place stands before the first
  pub run_relink_first : (b : Option ℕ) (ps : List ℕ) (z to : Option ℕ) → o ≡ head_or None ps → Apart ps → ((p : ℕ) (l : Links) → o ≡ Some p → at p ≡ Some l → new p ≡ Some (record l { previous = to }))
      → IsRun at b ps z → IsRun new to ps z
  run_relink_first b [] z to e d changed h = tt
  run_relink_first b (p ∷ ps) z to e d changed h =
      (changed p _ e h.0, run_kept (Some p) ps z (subst (λ x. Avoids x ps) (sym e) d.0) h.1)

-- a thread cut in two
-- the front of a thread, followed by z, and its back, which stands after b
pub record Halves (at : ℕ → Option Links) (ends : Ends) (us vs : List ℕ) (z b : Option ℕ) : Type 0 where
  pub front : IsRun at None us z
  pub back : IsRun at b vs None
  pub first : ends.first ≡ head_or z us
  pub last : ends.last ≡ last_or b vs

module _ (at : ℕ → Option Links) (ends : Ends) where
  pub thread_cut : (us vs : List ℕ) → IsThread at ends (us ++ vs) → Halves at ends us vs (head_or None vs) (last_or None us)
  thread_cut us vs t =
      let cut = run_cut at None us vs None t.links in
      record { front = cut.0; back = cut.1; first = t.first ∙ head_or-append None us vs; last = t.last ∙ last_or-append None us vs }

  pub thread_joined : (us vs : List ℕ) → Apart (us ++ vs) → Halves at ends us vs (head_or None vs) (last_or None us) → IsThread at ends (us ++ vs)
  thread_joined us vs d h = record {
    first = h.first ∙ sym (head_or-append None us vs);
    last = h.last ∙ sym (last_or-append None us vs);
    links = run_join at None us vs None h.front h.back;
    apart = d;
  }

  -- cut round a place
  pub thread_cut_at : (us : List ℕ) (p : ℕ) (vs : List ℕ) → IsThread at ends (us ++ p ∷ vs) → Halves at ends us vs (Some p) (Some p) × (at p ≡ Some (record { previous = last_or None us; next = head_or None vs }))
  thread_cut_at us p vs t =
      let h = thread_cut us (p ∷ vs) t in
      (record { front = h.front; back = h.back.1; first = h.first; last = h.last }, h.back.0)

  pub thread_joined_at : (us : List ℕ) (p : ℕ) (vs : List ℕ) → Apart (us ++ p ∷ vs) → at p ≡ Some (record { previous = last_or None us; next = head_or None vs }) → Halves at ends us vs (Some p) (Some p) → IsThread at ends (us ++ p ∷ vs)
  thread_joined_at us p vs d here h =
      thread_joined us (p ∷ vs) d (record { front = h.front; back = (here, h.back); first = h.first; last = h.last })

  -- the thread is what a walk from its first place reads
  pub thread_walked : (ps : List ℕ) (n : ℕ) → length ps ≤ n → IsThread at ends ps → walk at n ends.first ≡ ps
  thread_walked ps n l t = ap (walk at n) t.first ∙ walk_run at None ps n l t.links

-- what the writes of links do
last_some : (p : ℕ) (ps : List ℕ) → (q : ℕ) × (last_or (Some p) ps ≡ Some q)
last_some p [] = (p, refl)
last_some p (q ∷ ps) = last_some q ps

-- what `set_next` leaves of the ends, and what `set_previous` does
abbrev pub FirstSet : Option ℕ → Option ℕ → Ends → Ends → Type 0
FirstSet o to old new = MatchOption o (new ≡ record old { first = to }) (λ _. new ≡ old)

abbrev pub LastSet : Option ℕ → Option ℕ → Ends → Ends → Type 0
LastSet o to old new = MatchOption o (new ≡ record old { last = to }) (λ _. new ≡ old)

first_after : (us : List ℕ) (z o to : Option ℕ) (old new : Ends) → o ≡ last_or None us → FirstSet o to old new → old.first ≡ head_or z us → new.first ≡ head_or to us
first_after [] z o to old new e m h = ap (λ (x : Ends). x.first) (subst (λ x. FirstSet x to old new) e m)
first_after (p ∷ us) z o to old new e m h = ap (λ (x : Ends). x.first) (subst (λ x. FirstSet x to old new) (e ∙ (last_some p us).1) m) ∙ h

last_same : (o to : Option ℕ) (old new : Ends) → FirstSet o to old new → new.last ≡ old.last
last_same None to old new m = ap (λ (x : Ends). x.last) m
last_same (Some p) to old new m = ap (λ (x : Ends). x.last) m

last_after : (vs : List ℕ) (b o to : Option ℕ) (old new : Ends) → o ≡ head_or None vs → LastSet o to old new → old.last ≡ last_or b vs → new.last ≡ last_or to vs
last_after [] b o to old new e m h = ap (λ (x : Ends). x.last) (subst (λ x. LastSet x to old new) e m)
last_after (p ∷ vs) b o to old new e m h = ap (λ (x : Ends). x.last) (subst (λ x. LastSet x to old new) e m) ∙ h

first_same : (o to : Option ℕ) (old new : Ends) → LastSet o to old new → new.first ≡ old.first
first_same None to old new m = ap (λ (x : Ends). x.first) m
first_same (Some p) to old new m = ap (λ (x : Ends). x.first) m

module _ {T : Type 0} (links : T → Links) (with_links : T → Links → T) (links_of_set : (n : T) (l : Links) → links (with_links n l) ≡ l) where
  abbrev pub SetsNext : Option ℕ → Option ℕ → Slab T → Slab T → Type 0
  SetsNext o to = Rewrites (λ n. with_links n (record (links n) { next = to })) o

  abbrev pub SetsPrevious : Option ℕ → Option ℕ → Slab T → Slab T → Type 0
  SetsPrevious o to = Rewrites (λ n. with_links n (record (links n) { previous = to })) o

  some_links : (x : Option T) (l : Links) → option_map links x ≡ Some l → (n : T) × (x ≡ Some n) × (links n ≡ l)
  some_links None l e = absurd (cc)
  some_links (Some n) l e = (n, refl, cc)

  links_others : (change : T → T) (o : Option ℕ) (old new : Slab T) → Rewrites change o old new → (p : ℕ) → o ≢ Some p → links_at links new p ≡ links_at links old p
  links_others change o old new r p h = ap (option_map links) (r.others p h)

  links_changed : (f : Links → Links) (o : Option ℕ) (old new : Slab T) → Rewrites (λ n. with_links n (f (links n))) o old new → (p : ℕ) (l : Links) → o ≡ Some p → links_at links old p ≡ Some l → links_at links new p ≡ Some (f l)
  links_changed f o old new r p l e h =
      let found = some_links (get old p) l h in
      ap (option_map links) (r.changed p e ∙ ap (option_map (λ n. with_links n (f (links n)))) found.1) ∙ ap Some (links_of_set _ _ ∙ ap f found.2)

  -- one place is put after the front, and one before the back
  pub spliced : (us vs : List ℕ) (z b o₁ to₁ o₂ to₂ : Option ℕ) (s₀ s₁ s₂ : Slab T) (e₀ e₁ e₂ : Ends) → Apart (us ++ vs)
      → o₁ ≡ last_or None us → SetsNext o₁ to₁ s₀ s₁ → FirstSet o₁ to₁ e₀ e₁
      → o₂ ≡ head_or None vs → SetsPrevious o₂ to₂ s₁ s₂ → LastSet o₂ to₂ e₁ e₂
      → Halves (links_at links s₀) e₀ us vs z b → Halves (links_at links s₂) e₂ us vs to₁ to₂
  spliced us vs z b o₁ to₁ o₂ to₂ s₀ s₁ s₂ e₀ e₁ e₂ d i₁ w₁ m₁ i₂ w₂ m₂ h =
      let at₀ = links_at links s₀ in
      let at₁ = links_at links s₁ in
      let at₂ = links_at links s₂ in
      let next : Links → Links = λ l. record l { next = to₁ } in
      let previous : Links → Links = λ l. record l { previous = to₂ } in
      let kept₁ = links_others _ o₁ s₀ s₁ w₁ in
      let kept₂ = links_others _ o₂ s₁ s₂ w₂ in
      let front₁ = run_relink_last at₀ at₁ o₁ kept₁ None us z to₁ i₁ (apart_left us vs d) (links_changed next o₁ s₀ s₁ w₁) h.front in
      let back₁ = run_kept at₀ at₁ o₁ kept₁ b vs None (subst (λ x. Avoids x vs) (sym i₁) (apart_last us vs d)) h.back in
      record {
        front = run_kept at₁ at₂ o₂ kept₂ None us to₁ (subst (λ x. Avoids x us) (sym i₂) (apart_first us vs d)) front₁;
        back = run_relink_first at₁ at₂ o₂ kept₂ b vs None to₂ i₂ (apart_right us vs d) (links_changed previous o₂ s₁ s₂ w₂) back₁;
        first = first_same o₂ to₂ e₁ e₂ m₂ ∙ first_after us z o₁ to₁ e₀ e₁ i₁ m₁ h.first;
        last = last_after vs b o₂ to₂ e₁ e₂ i₂ m₂ (last_same o₁ to₁ e₀ e₁ m₁ ∙ h.last);
      }

-- what stays of a node whose links are written
module _ {T : Type 0} (links : T → Links) (with_links : T → Links → T) (links_back : (n : T) → with_links n (links n) ≡ n) (set_twice : (n : T) (l m : Links) → with_links (with_links n l) m ≡ with_links n m) where
  keeps_written : (f : T → Links) (x : Option T) → KeepsRest with_links x (option_map (λ n. with_links n (f n)) x)
  keeps_written f None = refl
  keeps_written f (Some n) = (f n, refl)

  pub keeps_same : (x : Option T) → KeepsRest with_links x x
  keeps_same None = refl
  keeps_same (Some n) = (links n, ap Some (sym (links_back n)))

  pub keeps_both : (x y z : Option T) → KeepsRest with_links x y → KeepsRest with_links y z → KeepsRest with_links x z
  keeps_both None y z g h = subst (λ w. KeepsRest with_links w z) g h
  keeps_both (Some n) y z g h =
      let m = subst (λ w. KeepsRest with_links w z) g.1 h in
      (m.0, m.1 ∙ ap Some (set_twice n g.0 m.0))

  pub keeps_rewritten : (f : T → Links) (o : Option ℕ) (old new : Slab T) → Rewrites (λ n. with_links n (f n)) o old new → (p : ℕ) → KeepsRest with_links (get old p) (get new p)
  keeps_rewritten f None old new r p = subst (λ y. KeepsRest with_links (get old p) y) (sym (r.others p (λ e. cc))) (keeps_same (get old p))
  keeps_rewritten f (Some q) old new r p =
      elim (cases_eq q p) [
        | inl equal ↦ subst (λ y. KeepsRest with_links (get old p) y) (sym (r.changed p (ap Some equal))) (keeps_written f (get old p))
        | inr differs ↦ subst (λ y. KeepsRest with_links (get old p) y) (sym (r.others p (λ e. differs (cc)))) (keeps_same (get old p))
      ]

-- a place taken out, and one put in
last_differs : (q : ℕ) (us : List ℕ) → Avoids (Some q) us → last_or None us ≢ Some q
last_differs q [] h e = cc
last_differs q (p ∷ us) h e = avoids_last (Some q) p us h (sym e)

head_differs : (q : ℕ) (vs : List ℕ) → Avoids (Some q) vs → head_or None vs ≢ Some q
head_differs q [] h e = cc
head_differs q (p ∷ vs) h e = h.0 (sym e)

module _ {T : Type 0} (links : T → Links) where
  pub links_read : (s : Slab T) (p : ℕ) (n : T) (l m : Links) → get s p ≡ Some n → l ≡ links n → links_at links s p ≡ Some m → l ≡ m
  links_read s p n l m h e k = let whole = sym (ap (option_map links) h) ∙ k in cc

module _ {T : Type 0} (change₁ change₂ : T → T) where
  -- a node beside the two that are written stays
  pub spliced_others : (us vs : List ℕ) (o₁ o₂ : Option ℕ) (s₀ s₁ s₂ : Slab T) → o₁ ≡ last_or None us → Rewrites change₁ o₁ s₀ s₁ → o₂ ≡ head_or None vs → Rewrites change₂ o₂ s₁ s₂
      → (p : ℕ) → Avoids (Some p) (us ++ vs) → get s₂ p ≡ get s₀ p
  spliced_others us vs o₁ o₂ s₀ s₁ s₂ i₁ w₁ i₂ w₂ p a =
      let cut = avoids_cut (Some p) us vs a in
      w₂.others p (λ e. head_differs p vs cut.1 (sym i₂ ∙ e)) ∙ w₁.others p (λ e. last_differs p us cut.0 (sym i₁ ∙ e))

module _ {T : Type 0} (links : T → Links) (with_links : T → Links → T) (links_of_set : (n : T) (l : Links) → links (with_links n l) ≡ l) (us : List ℕ) (p : ℕ) (vs : List ℕ) where
  pub unlinked : (s₀ s₁ s₂ : Slab T) (e₀ e₁ e₂ : Ends) (l : Links) → l ≡ record { previous = last_or None us; next = head_or None vs } → IsThread (links_at links s₀) e₀ (us ++ p ∷ vs)
      → SetsNext links with_links links_of_set l.previous l.next s₀ s₁ → FirstSet l.previous l.next e₀ e₁
      → SetsPrevious links with_links links_of_set l.next l.previous s₁ s₂ → LastSet l.next l.previous e₁ e₂
      → IsThread (links_at links s₂) e₂ (us ++ vs)
  unlinked s₀ s₁ s₂ e₀ e₁ e₂ l i t w₁ m₁ w₂ m₂ =
      let prev : l.previous ≡ last_or None us = ap (λ (x : Links). x.previous) i in
      let next : l.next ≡ head_or None vs = ap (λ (x : Links). x.next) i in
      let d = (apart_without us p vs t.apart).0 in
      let h = spliced links with_links links_of_set us vs (Some p) (Some p) l.previous l.next l.next l.previous s₀ s₁ s₂ e₀ e₁ e₂ d prev w₁ m₁ next w₂ m₂ (thread_cut_at (links_at links s₀) e₀ us p vs t).0 in
      thread_joined (links_at links s₂) e₂ us vs d (subst (λ b. Halves (links_at links s₂) e₂ us vs (head_or None vs) b) prev (subst (λ z. Halves (links_at links s₂) e₂ us vs z l.previous) next h))

  -- a node with its new links, put between the front and the back
  pub linked : (s s₀ s₁ s₂ : Slab T) (e₀ e₁ e₂ : Ends) (o₁ o₂ : Option ℕ) → o₁ ≡ last_or None us → o₂ ≡ head_or None vs → Avoids (Some p) (us ++ vs) → IsSome (get s p)
      → IsThread (links_at links s) e₀ (us ++ vs)
      → Rewrites (λ n. with_links n (record { previous = o₁; next = o₂ })) (Some p) s s₀
      → SetsNext links with_links links_of_set o₁ (Some p) s₀ s₁ → FirstSet o₁ (Some p) e₀ e₁
      → SetsPrevious links with_links links_of_set o₂ (Some p) s₁ s₂ → LastSet o₂ (Some p) e₁ e₂
      → IsThread (links_at links s₂) e₂ (us ++ p ∷ vs)
  linked s s₀ s₁ s₂ e₀ e₁ e₂ o₁ o₂ i₁ i₂ fresh there t w w₁ m₁ w₂ m₂ =
      let at = links_at links s in
      let at₀ = links_at links s₀ in
      let h = thread_cut at e₀ us vs t in
      let cut = avoids_cut (Some p) us vs fresh in
      let kept = links_others links with_links links_of_set _ (Some p) s s₀ w in
      let h₀ : Halves at₀ e₀ us vs (head_or None vs) (last_or None us) = record {
        front = run_kept at at₀ (Some p) kept None us (head_or None vs) cut.0 h.front;
        back = run_kept at at₀ (Some p) kept (last_or None us) vs None cut.1 h.back;
        first = h.first;
        last = h.last;
      } in
      let h₂ = spliced links with_links links_of_set us vs (head_or None vs) (last_or None us) o₁ (Some p) o₂ (Some p) s₀ s₁ s₂ e₀ e₁ e₂ t.apart i₁ w₁ m₁ i₂ w₂ m₂ h₀ in
      let stays = spliced_others _ _ us vs o₁ o₂ s₀ s₁ s₂ i₁ w₁ i₂ w₂ p fresh in
      let written : links_at links s₂ p ≡ Some (record { previous = o₁; next = o₂ }) = ap (option_map links) (stays ∙ w.changed p refl) ∙ found (get s p) there in
      thread_joined_at (links_at links s₂) e₂ us p vs (apart_with us p vs fresh t.apart)
      (written ∙ (λ i. Some (record { previous = i₁ i; next = i₂ i }))) h₂
    where
      found : (x : Option T) → IsSome x → option_map links (option_map (λ n. with_links n (record { previous = o₁; next = o₂ })) x) ≡ Some (record { previous = o₁; next = o₂ })
      found None y = absurd (cc)
      found (Some n) y = ap Some (links_of_set n _)

module _ {T : Type 0} (links : T → Links) where
  -- the place before the back
  pub before_back : (us vs : List ℕ) (s : Slab T) (e : Ends) (o : Option ℕ) (p : ℕ) (n : T) (l : Links) → o ≡ Some p → o ≡ head_or None vs → IsThread (links_at links s) e (us ++ vs) → get s p ≡ Some n → l ≡ links n → l.previous ≡ last_or None us
  before_back us [] s e o p n l i j t h k = absurd (cc)
  before_back us (q ∷ vs) s e o p n l i j t h k =
      let equal : p ≡ q = cc in
      let read = links_read links s p n l _ h k (ap (links_at links s) equal ∙ (thread_cut_at (links_at links s) e us q vs t).1) in
      ap (λ (x : Links). x.previous) read

-- a place beside a list with q in it is beside the list without q, and is not q
pub avoids_without : (us : List ℕ) (q : ℕ) (vs : List ℕ) (p : ℕ) → Avoids (Some p) (us ++ q ∷ vs) → Avoids (Some p) (us ++ vs) × (Some q ≢ Some p)
avoids_without us q vs p a =
    let cut = avoids_cut (Some p) us (q ∷ vs) a in
    (avoids_join (Some p) us vs cut.0 cut.1.1, flip (Some p) q cut.1.0)
