-- Rows with their places as ids, at a cut of the list of places.
use Rattle.std.proofs.Common.{◌≡◌, ◌≢◌, ℕ, zero, suc, Bool, true, false, cond, List, [], ◌∷◌, ◌++◌, length, Option, Some, None, refl, sym, ap, ◌∙◌, subst}
use Rattle.std.specs.Prelude.{IsSome, nat_eq, slice_get}
use Rattle.std.specs.Option.{option_map}
use Rattle.std.specs.List.{filter}
use Rattle.std.specs.Map.{lookup, remove_entry}
use Rattle.std.proofs.lemmas.Map.{NonePasses}
use Rattle.std.proofs.lemmas.Bool.Decides.{Decides-eqb}
use Rattle.slab.specs.Slab.{Slab, get}
use Rattle.elem.specs.Rows.{first_key, key_after}
use Rattle.elem.proofs.RowsLemmas.{lookup_at, remove_at, key_after_at}
use Rattle.linked_base.specs.declared.links.Links.{Links}
use Rattle.linked_base.specs.declared.links.Ends.{Ends}
use Rattle.linked_base.specs.Thread.{head_or, Avoids, IsRun, IsThread, links_at}
use Rattle.linked_base.specs.Places.{id_rows}
use Rattle.linked_base.proofs.PlacesLemmas.{There, some_of, rows-append, rows-cons, rows_at, rows_beside}

module _ {C : Type 0} (core : ℕ → Option C) where
  abbrev pub id_at : ℕ → Option (ℕ × C)
  id_at p = option_map (λ c. (p, c)) (core p)

  pub ids-cons : (p : ℕ) (ps : List ℕ) (c : C) → core p ≡ Some c → id_rows core (p ∷ ps) ≡ (p, c) ∷ id_rows core ps
  ids-cons p ps c h = rows-cons id_at p ps (p, c) (ap (option_map (λ c. (p, c))) h)

  pub ids-append : (us vs : List ℕ) → id_rows core (us ++ vs) ≡ id_rows core us ++ id_rows core vs
  ids-append us vs = rows-append id_at us vs

  pub ids_at : (us : List ℕ) (q : ℕ) (vs : List ℕ) (c : C) → core q ≡ Some c → id_rows core (us ++ q ∷ vs) ≡ id_rows core us ++ (q, c) ∷ id_rows core vs
  ids_at us q vs c h = rows_at id_at us q vs (q, c) (ap (option_map (λ c. (q, c))) h)

  pub length-ids : (ps : List ℕ) → There core ps → length (id_rows core ps) ≡ length ps
  length-ids [] h = refl
  length-ids (p ∷ ps) h = let c = some_of (core p) h.0 in ap length (ids-cons p ps c.0 c.1) ∙ ap suc (length-ids ps h.1)

  pub first_id : (ps : List ℕ) → There core ps → first_key (id_rows core ps) ≡ head_or None ps
  first_id [] h = refl
  first_id (p ∷ ps) h = let c = some_of (core p) h.0 in ap first_key (ids-cons p ps c.0 c.1)

  differs : (q p : ℕ) → Some q ≢ Some p → nat_eq q p ≡ false
  differs q p d = split (nat_eq q p) refl
    where
      split : (b : Bool) → nat_eq q p ≡ b → nat_eq q p ≡ false
      split true t = absurd (d (ap Some ((Decides-eqb q p).0 t)))
      split false t = t

  -- a place that is avoided is no id
  pub none_avoids : (q : ℕ) (us : List ℕ) → There core us → Avoids (Some q) us → NonePasses (nat_eq q) (id_rows core us)
  none_avoids q [] h a = tt
  none_avoids q (p ∷ us) h a = let c = some_of (core p) h.0 in subst (NonePasses (nat_eq q)) (sym (ids-cons p us c.0 c.1)) (differs q p a.0, none_avoids q us h.1 a.1)

  -- the list is cut at the place
  pub record IsIdCut (ps : List ℕ) (q : ℕ) (us vs : List ℕ) (c : C) : Type 0 where
    pub places : ps ≡ us ++ q ∷ vs
    pub here : core q ≡ Some c
    pub before : NonePasses (nat_eq q) (id_rows core us)

  pub cut_id : (ps : List ℕ) (q : ℕ) → There core ps → IsSome (lookup (nat_eq q) (id_rows core ps)) → (us : List ℕ) × (vs : List ℕ) × (c : C) × IsIdCut ps q us vs c
  cut_id [] q h s = absurd (cc)
  cut_id (p ∷ ps) q h s =
      let c = some_of (core p) h.0 in
      split c.0 c.1 (cut_id ps q h.1) (nat_eq q p) refl (subst (λ l. IsSome (lookup (nat_eq q) l)) (ids-cons p ps c.0 c.1) s)
    where
      split : (c : C) → core p ≡ Some c → (IsSome (lookup (nat_eq q) (id_rows core ps)) → (us : List ℕ) × (vs : List ℕ) × (d : C) × IsIdCut ps q us vs d) → (b : Bool) → nat_eq q p ≡ b
          → IsSome (cond (nat_eq q p) (Some c) (lookup (nat_eq q) (id_rows core ps))) → (us : List ℕ) × (vs : List ℕ) × (d : C) × IsIdCut (p ∷ ps) q us vs d
      split c here later true t s =
          let equal : q ≡ p = (Decides-eqb q p).0 t in
          ([], ps, c, record { places = ap (λ x. x ∷ ps) (sym equal); here = ap core equal ∙ here; before = tt })
      split c here later false t s =
          let rest = later (subst (λ b. IsSome (cond b (Some c) (lookup (nat_eq q) (id_rows core ps)))) t s) in
          let d = rest.3 in
          (p ∷ rest.0, rest.1, rest.2, record { places = ap (λ l. p ∷ l) d.places; here = d.here; before = subst (NonePasses (nat_eq q)) (sym (ids-cons p rest.0 c here)) (t, d.before) })

  module _ (ps : List ℕ) (q : ℕ) (us vs : List ℕ) (c : C) (d : IsIdCut ps q us vs c) where
    pub rows_cut : id_rows core ps ≡ id_rows core us ++ (q, c) ∷ id_rows core vs
    rows_cut = ap (id_rows core) d.places ∙ ids_at us q vs c d.here

    self_eq : nat_eq q q ≡ true
    self_eq = (Decides-eqb q q).1 refl

    pub value_cut : lookup (nat_eq q) (id_rows core ps) ≡ Some c
    value_cut = ap (lookup (nat_eq q)) rows_cut ∙ lookup_at (nat_eq q) (id_rows core us) (q, c) (id_rows core vs) d.before self_eq

    pub removed_cut : remove_entry (nat_eq q) (id_rows core ps) ≡ id_rows core us ++ id_rows core vs
    removed_cut = ap (remove_entry (nat_eq q)) rows_cut ∙ remove_at (nat_eq q) (id_rows core us) (q, c) (id_rows core vs) d.before self_eq

    pub after_cut : There core vs → key_after (nat_eq q) (id_rows core ps) ≡ head_or None vs
    after_cut h = ap (key_after (nat_eq q)) rows_cut ∙ key_after_at (nat_eq q) (id_rows core us) (q, c) (id_rows core vs) d.before self_eq ∙ first_id vs h

  pub there_filter : (test : ℕ → Bool) (ps : List ℕ) → There core ps → There core (filter test ps)
  there_filter test [] h = tt
  there_filter test (p ∷ ps) h = split (test p) (there_filter test ps h.1)
    where
      split : (b : Bool) → There core (filter test ps) → There core (cond b (p ∷ filter test ps) (filter test ps))
      split true r = (h.0, r)
      split false r = r

  -- rows that pass are those of the places that pass
  pub filter_ids : (by_place : ℕ → Bool) (by_row : C → Bool) → ((p : ℕ) (c : C) → core p ≡ Some c → by_place p ≡ by_row c) → (ps : List ℕ) → There core ps → filter (λ (r : ℕ × C). by_row r.1) (id_rows core ps) ≡ id_rows core (filter by_place ps)
  filter_ids by_place by_row agree [] h = refl
  filter_ids by_place by_row agree (p ∷ ps) h =
      let c = some_of (core p) h.0 in
      ap (filter (λ (r : ℕ × C). by_row r.1)) (ids-cons p ps c.0 c.1) ∙ split c.0 c.1 (by_row c.0) refl (filter_ids by_place by_row agree ps h.1)
    where
      split : (c : C) → core p ≡ Some c → (b : Bool) → by_row c ≡ b → filter (λ (r : ℕ × C). by_row r.1) (id_rows core ps) ≡ id_rows core (filter by_place ps)
          → cond (by_row c) ((p, c) ∷ filter (λ (r : ℕ × C). by_row r.1) (id_rows core ps)) (filter (λ (r : ℕ × C). by_row r.1) (id_rows core ps)) ≡ id_rows core (cond (by_place p) (p ∷ filter by_place ps) (filter by_place ps))
      split c e true t ih =
          ap (λ b. cond b ((p, c) ∷ filter (λ (r : ℕ × C). by_row r.1) (id_rows core ps)) (filter (λ (r : ℕ × C). by_row r.1) (id_rows core ps))) t ∙ ap (λ l. (p, c) ∷ l) ih
          ∙ sym (ap (λ b. id_rows core (cond b (p ∷ filter by_place ps) (filter by_place ps))) (agree p c e ∙ t) ∙ ids-cons p (filter by_place ps) c e)
      split c e false t ih =
          ap (λ b. cond b ((p, c) ∷ filter (λ (r : ℕ × C). by_row r.1) (id_rows core ps)) (filter (λ (r : ℕ × C). by_row r.1) (id_rows core ps))) t ∙ ih
          ∙ sym (ap (λ b. id_rows core (cond b (p ∷ filter by_place ps) (filter by_place ps))) (agree p c e ∙ t))

-- rows that are the same beside a place that is not in the list
pub ids_beside : {C : Type 0} (core new : ℕ → Option C) (q : ℕ) (ps : List ℕ) → ((p : ℕ) → p ≢ q → new p ≡ core p) → Avoids (Some q) ps → id_rows new ps ≡ id_rows core ps
ids_beside core new q ps h a = rows_beside (id_at core) (id_at new) q ps (λ p d. ap (option_map (λ c. (p, c))) (h p d)) a

-- each place of a thread has a node
module _ {T C : Type 0} (links : T → Links) (core : T → C) (nodes : Slab T) where
  has_core : (x : Option T) (l : Links) → option_map links x ≡ Some l → IsSome (option_map core x)
  has_core None l e = absurd (cc)
  has_core (Some n) l e = refl

  run_there : (b : Option ℕ) (ps : List ℕ) (z : Option ℕ) → IsRun (links_at links nodes) b ps z → There (λ p. option_map core (get nodes p)) ps
  run_there b [] z h = tt
  run_there b (p ∷ ps) z h = (has_core (get nodes p) _ h.0, run_there (Some p) ps z h.1)

  pub thread_there : (ends : Ends) (ps : List ℕ) → IsThread (links_at links nodes) ends ps → There (λ p. option_map core (get nodes p)) ps
  thread_there ends ps t = run_there None ps None t.links

  pub node_of : (q : ℕ) (c : C) → option_map core (get nodes q) ≡ Some c → IsSome (get nodes q)
  node_of q c e = some_node (get nodes q) e
    where
      some_node : (x : Option T) → option_map core x ≡ Some c → IsSome x
      some_node None f = absurd (cc)
      some_node (Some n) f = refl

  -- a place with no node is in no thread
  pub fresh : (q : ℕ) (b : Option ℕ) (ps : List ℕ) (z : Option ℕ) → get nodes q ≡ None → IsRun (links_at links nodes) b ps z → Avoids (Some q) ps
  fresh q b [] z e h = tt
  fresh q b (p ∷ ps) z e h = (
    λ f. let equal : q ≡ p = cc in
        let none : links_at links nodes p ≡ None = ap (links_at links nodes) (sym equal) ∙ ap (option_map links) e in
        let both = sym h.0 ∙ none in cc,
    fresh q (Some p) ps z e h.1,
  )

pub ids_nth : {C : Type 0} (core : ℕ → Option C) (ps : List ℕ) (i : ℕ) → There core ps → slice_get ps i ≡ option_map (λ (r : ℕ × C). r.0) (slice_get (id_rows core ps) i)
ids_nth core [] i h = refl
ids_nth {C} core (p ∷ ps) zero h = let c = some_of (core p) h.0 in sym (ap (λ l. option_map (λ (r : ℕ × C). r.0) (slice_get l 0)) (ids-cons core p ps c.0 c.1))
ids_nth {C} core (p ∷ ps) (suc i) h = let c = some_of (core p) h.0 in ids_nth core ps i h.1 ∙ sym (ap (λ l. option_map (λ (r : ℕ × C). r.0) (slice_get l (suc i))) (ids-cons core p ps c.0 c.1))
