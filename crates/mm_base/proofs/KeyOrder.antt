-- The pairs that are the first of their keys, read along the places.
use Rattle.std.proofs.Common.{◌≡◌, ℕ, Bool, true, false, cond, not, List, [], ◌∷◌, ◌++◌, map, Option, Some, None, refl, sym, ap, ◌∙◌, subst, append_assoc}
use Rattle.std.specs.Option.{option_map, is_none}
use Rattle.std.specs.List.{filter}
use Rattle.std.proofs.lemmas.List.Elements.{filter-append}
use Rattle.std.proofs.lemmas.Map.{NonePasses}
use Rattle.slab.specs.Slab.{Slab, get}
use Rattle.elem.specs.declared.elements.Elem.{Elem}
use Rattle.elem.specs.Elements.{same}
use Rattle.elem.specs.ElementLaws.{same_equiv}
use Rattle.elem.specs.Rows.{first_key, last_key, last_key_or, key_after, key_before}
use Rattle.elem.proofs.RowsLemmas.{key_after_at, key_before_at}
use Rattle.linked_base.specs.declared.links.Links.{Links}
use Rattle.linked_base.specs.declared.links.Ends.{Ends}
use Rattle.linked_base.specs.declared.group.Group.{Group}
use Rattle.linked_base.specs.Thread.{head_or, last_or, links_at}
use Rattle.linked_base.specs.Group.{group_or_none, has, of_key}
use Rattle.linked_base.specs.Places.{id_rows}
use Rattle.linked_base.proofs.ThreadLemmas.{thread_cut_at, links_read}
use Rattle.linked_base.proofs.GroupLemmas.{group_cut}
use Rattle.linked_base.proofs.PlacesLemmas.{There, some_of, there_left, there_right}
use Rattle.linked_base.proofs.HeadLemmas.{is_empty, none_iff_empty, is_unseen, filter_both, filter_all, unseen_more}
use Rattle.linked_base.proofs.IdLemmas.{ids-cons, ids-append, there_filter}
use Rattle.mm_base.specs.declared.pair_nodes.PairNode.{PairNode}
use Rattle.mm_base.specs.PairNodes.{key_links, key, key_at, core_at, key_of, starts_key, is_head, ArePairs}
use Rattle.mm_base.specs.PairRows.{Row, first_pairs}
use Rattle.mm_base.proofs.PairsReads.{there, own_key}

-- keys and values of rows
abbrev pub pairs_in : List Row → List (Elem × Elem)
pairs_in rows = map (λ (r : Row). r.1) rows

module _ (nodes : Slab PairNode) (all : Ends) (find : Elem → Option Group) where
  -- a place is the first of its key where no place before it has the key
  pub head_is : (us : List ℕ) (p : ℕ) (vs : List ℕ) (k : Elem) → ArePairs nodes all find (us ++ p ∷ vs) → key_at nodes p ≡ Some k → is_head nodes p ≡ is_unseen (key_at nodes) us k
  head_is us p vs k h here = by_node (get nodes p) refl
    where
      whole : (n : PairNode) → get nodes p ≡ Some n → n.of_key.previous ≡ last_or None (of_key (key_at nodes) k us)
      whole n g =
          let t = (group_cut (key_at nodes) (links_at key_links nodes) find us p vs k here h.groups).thread in
          ap (λ (l : Links). l.previous) (links_read key_links nodes p n n.of_key _ g refl (thread_cut_at (links_at key_links nodes) (group_or_none (find k)).ends (of_key (key_at nodes) k us) p (of_key (key_at nodes) k vs) t).1)

      by_node : (o : Option PairNode) → get nodes p ≡ o → starts_key o ≡ is_unseen (key_at nodes) us k
      by_node None g = let both = sym here ∙ ap (option_map key) g in absurd (cc)
      by_node (Some n) g = ap is_none (whole n g) ∙ none_iff_empty (of_key (key_at nodes) k us)

module _ (nodes : Slab PairNode) (all : Ends) (find : Elem → Option Group) where
  -- heads of a back part are the first pairs there of keys that are not in the front part
  pub heads_back : (us vs : List ℕ) → ArePairs nodes all find (us ++ vs) → There (core_at nodes) vs
      → pairs_in (id_rows (core_at nodes) (filter (is_head nodes) vs)) ≡ filter (λ (c : Elem × Elem). is_unseen (key_at nodes) us c.0) (first_pairs (id_rows (core_at nodes) vs))
  heads_back us [] h t = refl
  heads_back us (p ∷ vs) h t =
      let c = some_of (core_at nodes p) t.0 in
      let k : Elem = c.0.0 in
      let here : key_at nodes p ≡ Some k = own_key (get nodes p) c.0 c.1 in
      let moved = subst (ArePairs nodes all find) (sym (append_assoc us (p ∷ []) vs)) h in
      let rest = heads_back (us ++ p ∷ []) vs moved t.1 in
      let firsts = first_pairs (id_rows (core_at nodes) vs) in
      let both = filter_both (λ (d : Elem × Elem). is_unseen (key_at nodes) us d.0) (λ (d : Elem × Elem). not (same k d.0)) (λ (d : Elem × Elem). is_unseen (key_at nodes) (us ++ p ∷ []) d.0) (λ d. unseen_more (key_at nodes) us p k d.0 here) firsts in
      step c.0 c.1 (is_unseen (key_at nodes) us k) (head_is nodes all find us p vs k h here) refl (rest ∙ both)
      ∙ sym (ap (λ rs. filter (λ (d : Elem × Elem). is_unseen (key_at nodes) us d.0) (first_pairs rs)) (ids-cons (core_at nodes) p vs c.0 c.1))
    where
      step : (c : Elem × Elem) → core_at nodes p ≡ Some c → (b : Bool) → is_head nodes p ≡ b → is_unseen (key_at nodes) us c.0 ≡ b
          → pairs_in (id_rows (core_at nodes) (filter (is_head nodes) vs)) ≡ filter (λ (d : Elem × Elem). is_unseen (key_at nodes) us d.0) (filter (λ (d : Elem × Elem). not (same c.0 d.0)) (first_pairs (id_rows (core_at nodes) vs)))
          → pairs_in (id_rows (core_at nodes) (cond (is_head nodes p) (p ∷ filter (is_head nodes) vs) (filter (is_head nodes) vs))) ≡ filter (λ (d : Elem × Elem). is_unseen (key_at nodes) us d.0) (first_pairs ((p, c) ∷ id_rows (core_at nodes) vs))
      step c e true i j r =
          let more = filter (λ (d : Elem × Elem). is_unseen (key_at nodes) us d.0) (filter (λ (d : Elem × Elem). not (same c.0 d.0)) (first_pairs (id_rows (core_at nodes) vs))) in
          ap (λ b. pairs_in (id_rows (core_at nodes) (cond b (p ∷ filter (is_head nodes) vs) (filter (is_head nodes) vs)))) i ∙ ap pairs_in (ids-cons (core_at nodes) p (filter (is_head nodes) vs) c e) ∙ ap (λ l. c ∷ l) r
          ∙ sym (ap (λ b. cond b (c ∷ more) more) j)
      step c e false i j r =
          let more = filter (λ (d : Elem × Elem). is_unseen (key_at nodes) us d.0) (filter (λ (d : Elem × Elem). not (same c.0 d.0)) (first_pairs (id_rows (core_at nodes) vs))) in
          ap (λ b. pairs_in (id_rows (core_at nodes) (cond b (p ∷ filter (is_head nodes) vs) (filter (is_head nodes) vs)))) i ∙ r ∙ sym (ap (λ b. cond b (c ∷ more) more) j)

  pub heads_are : (ps : List ℕ) → ArePairs nodes all find ps → pairs_in (id_rows (core_at nodes) (filter (is_head nodes) ps)) ≡ first_pairs (id_rows (core_at nodes) ps)
  heads_are ps h = heads_back [] ps h (there nodes all find ps h) ∙ filter_all (λ (c : Elem × Elem). is_unseen (key_at nodes) [] c.0) (λ c. refl) (first_pairs (id_rows (core_at nodes) ps))

-- the keys at the ends of a list of places
module _ (nodes : Slab PairNode) where
  pub first_of : (ps : List ℕ) → There (core_at nodes) ps → key_of nodes (head_or None ps) ≡ first_key (pairs_in (id_rows (core_at nodes) ps))
  first_of [] t = refl
  first_of (p ∷ ps) t = let c = some_of (core_at nodes p) t.0 in own_key (get nodes p) c.0 c.1 ∙ sym (ap (λ rs. first_key (pairs_in rs)) (ids-cons (core_at nodes) p ps c.0 c.1))

  last_from : (o : Option ℕ) (ps : List ℕ) → There (core_at nodes) ps → key_of nodes (last_or o ps) ≡ last_key_or (key_of nodes o) (pairs_in (id_rows (core_at nodes) ps))
  last_from o [] t = refl
  last_from o (p ∷ ps) t =
      let c = some_of (core_at nodes p) t.0 in
      last_from (Some p) ps t.1 ∙ ap (λ x. last_key_or x (pairs_in (id_rows (core_at nodes) ps))) (own_key (get nodes p) c.0 c.1) ∙ sym (ap (λ rs. last_key_or (key_of nodes o) (pairs_in rs)) (ids-cons (core_at nodes) p ps c.0 c.1))

  pub last_of : (ps : List ℕ) → There (core_at nodes) ps → key_of nodes (last_or None ps) ≡ last_key (pairs_in (id_rows (core_at nodes) ps))
  last_of ps t = last_from None ps t

map_append : (xs ys : List Row) → pairs_in (xs ++ ys) ≡ pairs_in xs ++ pairs_in ys
map_append [] ys = refl
map_append (x ∷ xs) ys = ap (λ l. x.1 ∷ l) (map_append xs ys)

-- the neighbours of a key, where the list is cut at its first place
module _ (nodes : Slab PairNode) (all : Ends) (find : Elem → Option Group) (us : List ℕ) (p : ℕ) (vs : List ℕ) (h : ArePairs nodes all find (us ++ p ∷ vs)) (c : Elem × Elem) (here : core_at nodes p ≡ Some c) (first : of_key (key_at nodes) c.0 us ≡ []) where
  all_there : There (core_at nodes) (us ++ p ∷ vs)
  all_there = there nodes all find (us ++ p ∷ vs) h

  its_key : key_at nodes p ≡ Some c.0
  its_key = own_key (get nodes p) c here

  is_first : is_head nodes p ≡ true
  is_first = head_is nodes all find us p vs c.0 h its_key ∙ ap is_empty first

  pub firsts_cut : first_pairs (id_rows (core_at nodes) (us ++ p ∷ vs)) ≡ pairs_in (id_rows (core_at nodes) (filter (is_head nodes) us)) ++ c ∷ pairs_in (id_rows (core_at nodes) (filter (is_head nodes) vs))
  firsts_cut =
      sym (heads_are nodes all find (us ++ p ∷ vs) h)
      ∙ ap (λ l. pairs_in (id_rows (core_at nodes) l)) (filter-append (is_head nodes) us (p ∷ vs) ∙ ap (λ b. filter (is_head nodes) us ++ cond b (p ∷ filter (is_head nodes) vs) (filter (is_head nodes) vs)) is_first)
      ∙ ap pairs_in (ids-append (core_at nodes) (filter (is_head nodes) us) (p ∷ filter (is_head nodes) vs) ∙ ap (λ l. id_rows (core_at nodes) (filter (is_head nodes) us) ++ l) (ids-cons (core_at nodes) p (filter (is_head nodes) vs) c here))
      ∙ map_append (id_rows (core_at nodes) (filter (is_head nodes) us)) ((p, c) ∷ id_rows (core_at nodes) (filter (is_head nodes) vs))

  none_in : (xs : List ℕ) → There (core_at nodes) xs → of_key (key_at nodes) c.0 xs ≡ [] → NonePasses (same c.0) (pairs_in (id_rows (core_at nodes) (filter (is_head nodes) xs)))
  none_in [] t e = tt
  none_in (x ∷ xs) t e =
      let d = some_of (core_at nodes x) t.0 in
      by_key d.0 d.1 (same c.0 d.0.0) refl (none_in xs t.1) (sym (ap (λ o. cond (has c.0 o) (x ∷ of_key (key_at nodes) c.0 xs) (of_key (key_at nodes) c.0 xs)) (own_key (get nodes x) d.0 d.1)) ∙ e)
    where
      by_head : (d : Elem × Elem) → core_at nodes x ≡ Some d → same c.0 d.0 ≡ false → NonePasses (same c.0) (pairs_in (id_rows (core_at nodes) (filter (is_head nodes) xs))) → (b : Bool)
          → NonePasses (same c.0) (pairs_in (id_rows (core_at nodes) (cond b (x ∷ filter (is_head nodes) xs) (filter (is_head nodes) xs))))
      by_head d e f r true = subst (λ rs. NonePasses (same c.0) (pairs_in rs)) (sym (ids-cons (core_at nodes) x (filter (is_head nodes) xs) d e)) (f, r)
      by_head d e f r false = r

      by_key : (d : Elem × Elem) → core_at nodes x ≡ Some d → (b : Bool) → same c.0 d.0 ≡ b → (of_key (key_at nodes) c.0 xs ≡ [] → NonePasses (same c.0) (pairs_in (id_rows (core_at nodes) (filter (is_head nodes) xs))))
          → cond (same c.0 d.0) (x ∷ of_key (key_at nodes) c.0 xs) (of_key (key_at nodes) c.0 xs) ≡ [] → NonePasses (same c.0) (pairs_in (id_rows (core_at nodes) (filter (is_head nodes) (x ∷ xs))))
      by_key d e true f rest g = let whole = sym (ap (λ b. cond b (x ∷ of_key (key_at nodes) c.0 xs) (of_key (key_at nodes) c.0 xs)) f) ∙ g in absurd (cc)
      by_key d e false f rest g = by_head d e f (rest (sym (ap (λ b. cond b (x ∷ of_key (key_at nodes) c.0 xs) (of_key (key_at nodes) c.0 xs)) f) ∙ g)) (is_head nodes x)

  front_none : NonePasses (same c.0) (pairs_in (id_rows (core_at nodes) (filter (is_head nodes) us)))
  front_none = none_in us (there_left (core_at nodes) us (p ∷ vs) all_there) first

  pub key_after_first : key_of nodes (head_or None (filter (is_head nodes) vs)) ≡ key_after (same c.0) (first_pairs (id_rows (core_at nodes) (us ++ p ∷ vs)))
  key_after_first =
      first_of nodes (filter (is_head nodes) vs) (there_filter (core_at nodes) (is_head nodes) vs (there_right (core_at nodes) us (p ∷ vs) all_there).1)
      ∙ sym (ap (key_after (same c.0)) firsts_cut ∙ key_after_at (same c.0) (pairs_in (id_rows (core_at nodes) (filter (is_head nodes) us))) c (pairs_in (id_rows (core_at nodes) (filter (is_head nodes) vs))) front_none (same_equiv.refl c.0))

  pub key_before_first : key_of nodes (last_or None (filter (is_head nodes) us)) ≡ key_before (same c.0) (first_pairs (id_rows (core_at nodes) (us ++ p ∷ vs)))
  key_before_first =
      last_of nodes (filter (is_head nodes) us) (there_filter (core_at nodes) (is_head nodes) us (there_left (core_at nodes) us (p ∷ vs) all_there))
      ∙ sym (ap (key_before (same c.0)) firsts_cut ∙ key_before_at (same c.0) None (pairs_in (id_rows (core_at nodes) (filter (is_head nodes) us))) c (pairs_in (id_rows (core_at nodes) (filter (is_head nodes) vs))) front_none (same_equiv.refl c.0))
