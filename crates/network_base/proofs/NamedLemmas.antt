-- Rows of edges: found by their elements, one put last, one taken out.
use Rattle.std.proofs.Common.{◌≡◌, Bool, true, false, cond, not, List, [], ◌∷◌, ◌++◌, Option, Some, None, refl, sym, ap, ◌∙◌, subst, append-nil, ℕ, ◌+◌, ◌<◌, ◌≤◌, arith}
use Rattle.std.specs.List.{flat_map, IsDistinct, AllByRecursion}
use Rattle.std.specs.Map.{lookup, remove_entry, keys_of}
use Rattle.std.proofs.lemmas.Map.{NonePasses}
use Rattle.std.proofs.lemmas.List.{map-append}
use Rattle.std.proofs.lemmas.List.Concat.{flat_map-append}
use Rattle.elem.specs.declared.elements.Elem.{Elem}
use Rattle.elem.specs.Elements.{same}
use Rattle.elem.specs.ElementLaws.{same-Decides, same_equiv}
use Rattle.elem.specs.Keyed.{HasDistinctKeys}
use Rattle.elem.proofs.RowsLemmas.{remove_at}
use Rattle.mm_base.specs.PairRows.{Row}
use Rattle.graph_base.specs.Edges.{Edge}
use Rattle.graph_base.proofs.Cuts.{all_join, all_without, all_map}
use Rattle.network_base.specs.declared.named_edges.Joined.{Joined}
use Rattle.network_base.specs.NamedEdges.{Named, edge_of, edges_of, halves_of, AreNamed, IsRising, IsRisingBelow}
use Rattle.network_base.specs.Networks.{names, ends_of, without_edge}

-- the ends that a look-up tells
abbrev pub its_ends : Option Joined → Option (Elem × Elem)
its_ends None = None
its_ends (Some row) = Some (row.from, row.to)

pub names_of : (rows : List Named) → names (edges_of rows) ≡ keys_of rows
names_of [] = refl
names_of (row ∷ rows) = ap (λ l. row.0 ∷ l) (names_of rows)

pub ends_found : (x : Elem) (rows : List Named) → ends_of x (edges_of rows) ≡ its_ends (lookup (same x) rows)
ends_found x [] = refl
ends_found x (row ∷ rows) = by_case (same x row.0) (ends_found x rows)
  where
    by_case : (t : Bool) → ends_of x (edges_of rows) ≡ its_ends (lookup (same x) rows) → cond t (Some (row.1.from, row.1.to)) (ends_of x (edges_of rows)) ≡ its_ends (cond t (Some row.1) (lookup (same x) rows))
    by_case true e = refl
    by_case false e = e

pub none_found : (o : Option Joined) → its_ends o ≡ None → o ≡ None
none_found None e = refl
none_found (Some row) e = absurd (cc)

-- a row that is found stands at a cut
pub row_cut : (x : Elem) (rows : List Named) (row : Joined) → lookup (same x) rows ≡ Some row → (us : List Named) × (vs : List Named) × (rows ≡ us ++ (x, row) ∷ vs) × NonePasses (same x) us
row_cut x [] row e = absurd (cc)
row_cut x (r ∷ rows) row e = by_case (same x r.0) refl (row_cut x rows row) e
  where
    by_case : (t : Bool) → same x r.0 ≡ t → (lookup (same x) rows ≡ Some row → (us : List Named) × (vs : List Named) × (rows ≡ us ++ (x, row) ∷ vs) × NonePasses (same x) us) → cond t (Some r.1) (lookup (same x) rows) ≡ Some row
        → (us : List Named) × (vs : List Named) × (r ∷ rows ≡ us ++ (x, row) ∷ vs) × NonePasses (same x) us
    by_case true t rest f =
        let key : r.0 ≡ x = sym ((same-Decides x r.0).0 t) in
        let equal : r.1 ≡ row = cc in
        ([], rows, (λ i. (key i, equal i) ∷ rows), tt)
    by_case false t rest f = let c = rest f in (r ∷ c.0, c.1, ap (λ l. r ∷ l) c.2, (t, c.3))

-- no edge that is another stays away
others_stay : (x : Elem) (edges : List Edge) → AllByRecursion (λ y. same x y ≡ false) (names edges) → without_edge x edges ≡ edges
others_stay x [] h = refl
others_stay x (e ∷ edges) h = (λ i. cond (not (h.0 i)) (e ∷ others_stay x edges h.1 i) (others_stay x edges h.1 i))

-- an edge of distinct ones taken out at a cut
pub without_at : (us : List Edge) (e : Edge) (vs : List Edge) → IsDistinct same (names (us ++ e ∷ vs)) → without_edge e.2 (us ++ e ∷ vs) ≡ us ++ vs
unfolding IsDistinct
without_at [] e vs d = (λ i. cond (not (same_equiv.refl e.2 i)) (e ∷ without_edge e.2 vs) (without_edge e.2 vs)) ∙ others_stay e.2 vs d.0
without_at (u ∷ us) e vs d = (λ i. cond (not (other us d.0 i)) (u ∷ without_edge e.2 (us ++ e ∷ vs)) (without_edge e.2 (us ++ e ∷ vs))) ∙ ap (λ l. u ∷ l) (without_at us e vs d.1)
  where
    turned : (t : Bool) → same e.2 u.2 ≡ t → same u.2 e.2 ≡ false → t ≡ false
    turned true t f = let both = sym f ∙ same_equiv.symm u.2 e.2 ∙ t in absurd (cc)
    turned false t f = refl

    other : (ws : List Edge) → AllByRecursion (λ y. same u.2 y ≡ false) (names (ws ++ e ∷ vs)) → same e.2 u.2 ≡ false
    other [] h = turned (same e.2 u.2) refl h.0
    other (w ∷ ws) h = other ws h.1

pub absent_differ : (x : Elem) (edges : List Edge) → ends_of x edges ≡ None → AllByRecursion (λ y. same x y ≡ false) (names edges)
absent_differ x [] e = tt
absent_differ x (k ∷ edges) e = by_case (same x k.2) refl (absent_differ x edges) e
  where
    by_case : (t : Bool) → same x k.2 ≡ t → (ends_of x edges ≡ None → AllByRecursion (λ y. same x y ≡ false) (names edges)) → cond t (Some (k.0, k.1)) (ends_of x edges) ≡ None → (same x k.2 ≡ false) × AllByRecursion (λ y. same x y ≡ false) (names edges)
    by_case true t rest f = absurd (cc)
    by_case false t rest f = (t, rest f)

pub absent_stay : (x : Elem) (edges : List Edge) → ends_of x edges ≡ None → without_edge x edges ≡ edges
absent_stay x edges e = others_stay x edges (absent_differ x edges e)

-- numbers that rise, with one more, and with one less
pub rising_last : (rows : List Named) (r : Named) → IsRisingBelow r.1.number rows → IsRising (rows ++ r ∷ [])
rising_last [] r h = (tt, tt)
rising_last (s ∷ rows) r h = (all_join (λ (later : Named). s.1.number < later.1.number) rows (r ∷ []) h.rising.0 (h.below.0, tt), rising_last rows r (record { below = h.below.1; rising = h.rising.1 }))

rising_without : (us : List Named) (r : Named) (vs : List Named) → IsRising (us ++ r ∷ vs) → IsRising (us ++ vs)
rising_without [] r vs h = h.1
rising_without (u ∷ us) r vs h = (all_without (λ (later : Named). u.1.number < later.1.number) us r vs h.0, rising_without us r vs h.1)

all_higher : (m n : ℕ) → m ≤ n → (rows : List Named) → AllByRecursion (λ (row : Named). row.1.number < m) rows → AllByRecursion (λ (row : Named). row.1.number < n) rows
all_higher m n l rows h = all_map (λ (row : Named). row.1.number < m) (λ (row : Named). row.1.number < n) (λ r k. omega arith) rows h

-- one row put last
pub pushed : (rows new_rows : List Named) (halves new_halves : List Row) (x : Elem) (row : Joined) (next later : Option ℕ) → AreNamed rows halves next → new_rows ≡ rows ++ (x, row) ∷ [] → new_halves ≡ halves ++ halves_of (x, row) → ((n : ℕ) → next ≡ Some n → row.number ≡ n)
    → ((n : ℕ) → later ≡ Some n → (m : ℕ) × (next ≡ Some m) × (n ≡ m + 1)) → AreNamed new_rows new_halves later
pushed rows new_rows halves new_halves x row next later h rows_are halves_are own after = record {
  halves_equal = halves_are ∙ (λ i. h.halves_equal i ++ sym (append-nil (halves_of (x, row))) i) ∙ sym (flat_map-append halves_of rows ((x, row) ∷ [])) ∙ ap (flat_map halves_of) (sym rows_are);
  rising = λ n e. subst (IsRisingBelow n) (sym rows_are) (by_number n (after n e));
}
  where
    by_number : (n : ℕ) → (m : ℕ) × (next ≡ Some m) × (n ≡ m + 1) → IsRisingBelow n (rows ++ (x, row) ∷ [])
    by_number n a =
        let number = own a.0 a.1 in
        let old = h.rising a.0 a.1 in
        let above : a.0 ≤ n = omega (arith, a.2) in
        let under : row.number < n = omega (arith, number, a.2) in
        record {
          below = all_join (λ (r : Named). r.1.number < n) rows ((x, row) ∷ []) (all_higher a.0 n above rows old.below) (under, tt);
          rising = rising_last rows (x, row) (subst (λ k. IsRisingBelow k rows) (sym number) old);
        }

-- a row that is found and taken out
module _ (x : Elem) (rows : List Named) (row : Joined) (e : lookup (same x) rows ≡ Some row) (distinct : HasDistinctKeys rows) (halves : List Row) (next : Option ℕ) (h : AreNamed rows halves next) where
  cut : (us : List Named) × (vs : List Named) × (rows ≡ us ++ (x, row) ∷ vs) × NonePasses (same x) us
  cut = row_cut x rows row e

  halves_cut : halves ≡ flat_map halves_of cut.0 ++ (halves_of (x, row) ++ flat_map halves_of cut.1)
  halves_cut = h.halves_equal ∙ ap (flat_map halves_of) cut.2 ∙ flat_map-append halves_of cut.0 ((x, row) ∷ cut.1)

  pub its_halves : (us : List Row) × (vs : List Row) × (halves ≡ us ++ (halves_of (x, row) ++ vs))
  its_halves = (flat_map halves_of cut.0, flat_map halves_of cut.1, halves_cut)

  removed_at_cut : remove_entry (same x) rows ≡ cut.0 ++ cut.1
  removed_at_cut = ap (remove_entry (same x)) cut.2 ∙ remove_at (same x) cut.0 (x, row) cut.1 cut.3 (same_equiv.refl x)

  pub removed : (new_rows : List Named) (new_halves : List Row) → new_rows ≡ remove_entry (same x) rows → ((us vs : List Row) → halves ≡ us ++ (halves_of (x, row) ++ vs) → new_halves ≡ us ++ vs) → AreNamed new_rows new_halves next
  removed new_rows new_halves rows_are less = record {
    halves_equal = less (flat_map halves_of cut.0) (flat_map halves_of cut.1) halves_cut ∙ sym (flat_map-append halves_of cut.0 cut.1) ∙ ap (flat_map halves_of) (sym removed_at_cut ∙ sym rows_are);
    rising = λ n e.
        let old = subst (IsRisingBelow n) cut.2 (h.rising n e) in
        subst (IsRisingBelow n) (sym removed_at_cut ∙ sym rows_are) (record { below = all_without (λ (r : Named). r.1.number < n) cut.0 (x, row) cut.1 old.below; rising = rising_without cut.0 (x, row) cut.1 old.rising });
  }

  edges_at : edges_of rows ≡ edges_of cut.0 ++ (row.from, row.to, x) ∷ edges_of cut.1
  edges_at = ap edges_of cut.2 ∙ map-append edge_of cut.0 ((x, row) ∷ cut.1)

  distinct_at : IsDistinct same (names (edges_of cut.0 ++ (row.from, row.to, x) ∷ edges_of cut.1))
  distinct_at = subst (λ es. IsDistinct same (names es)) edges_at (subst (IsDistinct same) (sym (names_of rows)) distinct)

  pub removed_edges : edges_of (remove_entry (same x) rows) ≡ without_edge x (edges_of rows)
  removed_edges = ap edges_of removed_at_cut ∙ map-append edge_of cut.0 cut.1 ∙ sym (ap (without_edge x) edges_at ∙ without_at (edges_of cut.0) (row.from, row.to, x) (edges_of cut.1) distinct_at)
