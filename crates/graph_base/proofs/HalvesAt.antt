-- The edges at a node, by the halves of their rows, whatever else a row has.
use Rattle.std.proofs.Common.{◌≡◌, ℕ, Bool, true, false, cond, List, [], ◌∷◌, ◌++◌, map, length, Option, Some, None, refl, sym, ap, ◌∙◌, subst, slice_get, add-one, ◌+◌}
use Rattle.std.specs.Prelude.{IsSome, ◌||◌, nat_eq}
use Rattle.std.specs.Option.{option_map}
use Rattle.std.specs.Cmp.{nat_eq_equiv}
use Rattle.std.specs.List.{filter, flat_map, IsDistinct, AllByRecursion}
use Rattle.std.specs.Map.{lookup, keys_of}
use Rattle.std.proofs.lemmas.List.{length-map}
use Rattle.std.proofs.lemmas.List.Elements.{filter-append}
use Rattle.std.proofs.lemmas.Option.{slice_get-map}
use Rattle.elem.specs.declared.elements.Elem.{Elem}
use Rattle.elem.specs.Elements.{same}
use Rattle.elem.specs.ElementLaws.{same-Decides, same_equiv}
use Rattle.elem.specs.Keyed.{HasDistinctKeys}
use Rattle.elem.specs.Rows.{key_after}
use Rattle.elem.proofs.RowsLemmas.{lookup_at}
use Rattle.linked_base.proofs.KeyedLemmas.{distinct_without, none_left}
use Rattle.mm_base.specs.PairRows.{Row, HasDistinctIds, IsLive, pairs_of_key, rows_beside, id_of, pair_of}
use Rattle.mm_base.proofs.PairRowsLemmas.{its_row, nth_is_live, nth_pair}
use Rattle.graph_base.specs.Edges.{Edge, is_at, incident}
use Rattle.graph_base.specs.EdgeRows.{halves_between}
use Rattle.graph_base.proofs.Cuts.{filter-map, nth_cut}
use Rattle.graph_base.proofs.Positions.{nth_after}

-- the ends of a row, the ids of its halves, and the value of its edge
pub record Ended (J : Type 0) : Type 0 where
  pub from : J → Elem
  pub to : J → Elem
  pub first : J → ℕ
  pub second : J → ℕ
  pub value : Elem × J → Elem

module _ {X Y : Type 0} (f : X → Y) where
  pub some_under : (o : Option X) (y : Y) → option_map f o ≡ Some y → (x : X) × (o ≡ Some x) × (f x ≡ y)
  some_under None y e = absurd (cc)
  some_under (Some x) y e = (x, refl, cc)

  none_under : (o : Option X) → option_map f o ≡ None → o ≡ None
  none_under None e = refl
  none_under (Some x) e = absurd (cc)

-- rows of distinct ids that pass a test
module _ (test : Row → Bool) where
  others_pass : (q : ℕ) (rows : List Row) → AllByRecursion (λ y. nat_eq q y ≡ false) (keys_of rows) → AllByRecursion (λ y. nat_eq q y ≡ false) (keys_of (filter test rows))
  others_pass q [] h = tt
  others_pass q (r ∷ rows) h = by_case (test r) (others_pass q rows h.1)
    where
      by_case : (t : Bool) → AllByRecursion (λ y. nat_eq q y ≡ false) (keys_of (filter test rows)) → AllByRecursion (λ y. nat_eq q y ≡ false) (keys_of (cond t (r ∷ filter test rows) (filter test rows)))
      by_case true k = (h.0, k)
      by_case false k = k

  passing_distinct : (rows : List Row) → HasDistinctIds rows → HasDistinctIds (filter test rows)
  unfolding IsDistinct
  passing_distinct [] d = tt
  passing_distinct (r ∷ rows) d = by_case (test r) (passing_distinct rows d.1)
    where
      by_case : (t : Bool) → IsDistinct nat_eq (keys_of (filter test rows)) → IsDistinct nat_eq (keys_of (cond t (r ∷ filter test rows) (filter test rows)))
      by_case true k = (others_pass r.0 rows d.0, k)
      by_case false k = k

-- an edge from b to c has one half at a node, where it is there
module _ (a n b c : Elem) (p q : ℕ) where
  abbrev other_half : Row
  other_half = (q, (c, n))

  abbrev own_half : Row
  own_half = (cond (same a b) p q, (a, n))

  one_half : pairs_of_key a (halves_between n b c p q) ≡ cond (same a b || same a c) (own_half ∷ []) []
  one_half = by_case (same a b) (same b c) (same a c) refl refl refl
    where
      loop_end : same b c ≡ true → same a c ≡ same a b
      loop_end l = ap (same a) (sym ((same-Decides b c).0 l))

      halves_are : (x l : Bool) → same a b ≡ x → same b c ≡ l
          → pairs_of_key a (halves_between n b c p q) ≡ cond x ((p, (b, n)) ∷ pairs_of_key a (cond l [] (other_half ∷ []))) (pairs_of_key a (cond l [] (other_half ∷ [])))
      halves_are x l s t = λ i. cond (s i) ((p, (b, n)) ∷ pairs_of_key a (cond (t i) [] (other_half ∷ []))) (pairs_of_key a (cond (t i) [] (other_half ∷ [])))

      ends_are : (x y : Bool) → same a b ≡ x → same a c ≡ y → cond (x || y) ((cond x p q, (a, n)) ∷ []) [] ≡ cond (same a b || same a c) (own_half ∷ []) []
      ends_are x y s t = λ i. cond (sym s i || sym t i) ((cond (sym s i) p q, (a, n)) ∷ []) []

      its_first : same a b ≡ true → ◌≡◌ {A = List Row} ((p, (b, n)) ∷ []) ((p, (a, n)) ∷ [])
      its_first s = ap (λ z. (p, (z, n)) ∷ []) (sym ((same-Decides a b).0 s))

      its_second : same a c ≡ true → ◌≡◌ {A = List Row} (other_half ∷ []) ((q, (a, n)) ∷ [])
      its_second t = ap (λ z. (q, (z, n)) ∷ []) (sym ((same-Decides a c).0 t))

      by_case : (x l y : Bool) → same a b ≡ x → same b c ≡ l → same a c ≡ y → pairs_of_key a (halves_between n b c p q) ≡ cond (same a b || same a c) (own_half ∷ []) []
      by_case true true y s l t = halves_are true true s l ∙ its_first s ∙ ends_are true y s t
      by_case true false true s l t =
          let both = sym l ∙ ap (λ z. same z c) (sym ((same-Decides a b).0 s)) ∙ t in
          absurd (cc)
      by_case true false false s l t = halves_are true false s l ∙ ap (λ u. (p, (b, n)) ∷ cond u (other_half ∷ []) []) t ∙ its_first s ∙ ends_are true false s t
      by_case false true y s l t = halves_are false true s l ∙ ends_are false false s (loop_end l ∙ s)
      by_case false false true s l t = halves_are false false s l ∙ ap (λ u. cond u (other_half ∷ []) []) t ∙ its_second t ∙ ends_are false true s t
      by_case false false false s l t = halves_are false false s l ∙ ap (λ u. cond u (other_half ∷ []) []) t ∙ ends_are false false s t

module _ {J : Type 0} (ended : Ended J) where
  abbrev pub edge : Elem × J → Edge
  edge r = (ended.from r.1, ended.to r.1, ended.value r)

  abbrev pub both_halves : Elem × J → List Row
  both_halves r = halves_between r.0 (ended.from r.1) (ended.to r.1) (ended.first r.1) (ended.second r.1)

  module _ (a : Elem) where
    -- the rows at the node
    abbrev pub rows_at : List (Elem × J) → List (Elem × J)
    rows_at rows = filter (λ r. is_at a (edge r)) rows

    -- the id of a row's half at the node
    abbrev half_id : Elem × J → ℕ
    half_id r = cond (same a (ended.from r.1)) (ended.first r.1) (ended.second r.1)

    abbrev half_at : Elem × J → Row
    half_at r = (half_id r, (a, r.0))

    halves_at_node : (rows : List (Elem × J)) → pairs_of_key a (flat_map both_halves rows) ≡ map half_at (rows_at rows)
    halves_at_node [] = refl
    halves_at_node (r ∷ rows) =
        filter-append (λ (half : Row). same a half.1.0) (both_halves r) (flat_map both_halves rows)
        ∙ (λ i. one_half a r.0 (ended.from r.1) (ended.to r.1) (ended.first r.1) (ended.second r.1) i ++ halves_at_node rows i) ∙ by_case (is_at a (edge r))
      where
        by_case : (t : Bool) → cond t (half_at r ∷ []) [] ++ map half_at (rows_at rows) ≡ map half_at (cond t (r ∷ rows_at rows) (rows_at rows))
        by_case true = refl
        by_case false = refl

    edges_at_node : (rows : List (Elem × J)) → incident a (map edge rows) ≡ map edge (rows_at rows)
    edges_at_node rows = filter-map (is_at a) edge rows

    module _ (rows : List (Elem × J)) (halves : List Row) (e : halves ≡ flat_map both_halves rows) where
      at_node : pairs_of_key a halves ≡ map half_at (rows_at rows)
      at_node = ap (pairs_of_key a) e ∙ halves_at_node rows

      pub count_held : length (pairs_of_key a halves) ≡ length (incident a (map edge rows))
      count_held = ap length at_node ∙ length-map (rows_at rows) half_at ∙ sym (length-map (rows_at rows) edge) ∙ sym (ap length (edges_at_node rows))

      nth_half : (i : ℕ) → slice_get (pairs_of_key a halves) i ≡ option_map half_at (slice_get (rows_at rows) i)
      nth_half i = ap (λ l. slice_get l i) at_node ∙ slice_get-map half_at (rows_at rows) i

      nth_edge : (i : ℕ) → slice_get (incident a (map edge rows)) i ≡ option_map edge (slice_get (rows_at rows) i)
      nth_edge i = ap (λ l. slice_get l i) (edges_at_node rows) ∙ slice_get-map edge (rows_at rows) i

      pub no_half : (i : ℕ) → id_of a i halves ≡ None → slice_get (incident a (map edge rows)) i ≡ None
      no_half i f =
          let half = none_under (λ (r : Row). r.0) (slice_get (pairs_of_key a halves) i) f in
          nth_edge i ∙ ap (option_map edge) (none_under half_at (slice_get (rows_at rows) i) (sym (nth_half i) ∙ half))

      module _ (ids : HasDistinctIds halves) (keys : HasDistinctKeys rows) where
        -- the half of row number i at the node
        module _ (i : ℕ) (r : Elem × J) (f : slice_get (rows_at rows) i ≡ Some r) where
          row_id : id_of a i halves ≡ Some (half_id r)
          row_id = ap (option_map (λ (s : Row). s.0)) (nth_half i ∙ ap (option_map half_at) f)

          row_pair : pair_of halves (half_id r) ≡ Some (a, r.0)
          row_pair = nth_pair a halves i (half_id r) row_id ids ∙ ap (λ x. Some (a, x)) number
            where
              number : (its_row a halves i (half_id r) row_id).0.1.1 ≡ r.0
              number =
                  let whole : Some (its_row a halves i (half_id r) row_id).0 ≡ Some (half_at r) = sym (its_row a halves i (half_id r) row_id).1 ∙ nth_half i ∙ ap (option_map half_at) f in
                  let equal : (its_row a halves i (half_id r) row_id).0 ≡ half_at r = cc in
                  ap (λ (s : Row). s.1.1) equal

          row_found : lookup (same r.0) rows ≡ Some r.1
          row_found =
              let c = nth_cut (λ row. is_at a (edge row)) rows i r f in
              let before = none_left (same r.0) c.0 c.1 (distinct_without c.0 r c.1 (subst (λ rs. IsDistinct same (keys_of rs)) c.2 keys)).1 in
              ap (lookup (same r.0)) c.2 ∙ lookup_at (same r.0) c.0 r c.1 before (same_equiv.refl r.0)

        -- the edge of half number i
        module _ (i q : ℕ) (f : id_of a i halves ≡ Some q) where
          pub half_live : IsLive halves q
          half_live = nth_is_live a halves i q f

          at_row : (r : Elem × J) × (slice_get (rows_at rows) i ≡ Some r) × (half_id r ≡ q)
          at_row = by_case (slice_get (rows_at rows) i) refl (sym (ap (option_map (λ (s : Row). s.0)) (nth_half i)) ∙ f)
            where
              by_case : (o : Option (Elem × J)) → slice_get (rows_at rows) i ≡ o → option_map (λ (s : Row). s.0) (option_map half_at o) ≡ Some q → (r : Elem × J) × (slice_get (rows_at rows) i ≡ Some r) × (half_id r ≡ q)
              by_case None g h = absurd (cc)
              by_case (Some r) g h = (r, g, cc)

          its_pair : pair_of halves q ≡ Some (a, at_row.0.0)
          its_pair = subst (λ p. pair_of halves p ≡ Some (a, at_row.0.0)) at_row.2 (row_pair i at_row.0 at_row.1)

          module _ (p : Elem × Elem) (g : pair_of halves q ≡ Some p) where
            key_is : at_row.0.0 ≡ p.1
            key_is = let equal : (a, at_row.0.0) ≡ p = inside (a, at_row.0.0) p (sym its_pair ∙ g) in ap (λ (z : Elem × Elem). z.1) equal
              where
                inside : (x y : Elem × Elem) → ◌≡◌ {A = Option (Elem × Elem)} (Some x) (Some y) → x ≡ y
                inside x y h = cc

            its_row_found : lookup (same p.1) rows ≡ Some at_row.0.1
            its_row_found = ap (λ x. lookup (same x) rows) (sym key_is) ∙ row_found i at_row.0 at_row.1

            pub half_row : IsSome (lookup (same p.1) rows)
            half_row = subst IsSome (sym its_row_found) refl

            pub half_edge : (row : J) → lookup (same p.1) rows ≡ Some row → slice_get (incident a (map edge rows)) i ≡ Some (edge (p.1, row))
            half_edge row s = nth_edge i ∙ ap (option_map edge) at_row.1 ∙ (λ x. Some (edge (key_is x, inside at_row.0.1 row (sym its_row_found ∙ s) x)))
              where
                inside : (x y : J) → ◌≡◌ {A = Option J} (Some x) (Some y) → x ≡ y
                inside x y h = cc

          -- the edge that is told by the half's row
          pub edge_of_half : (z : Edge) → ((p : Elem × Elem) (row : J) → pair_of halves q ≡ Some p → lookup (same p.1) rows ≡ Some row → z ≡ edge (p.1, row)) → slice_get (incident a (map edge rows)) i ≡ Some z
          edge_of_half z told =
              let found = row_found i at_row.0 at_row.1 in
              half_edge (a, at_row.0.0) its_pair at_row.0.1 found ∙ ap Some (sym (told (a, at_row.0.0) at_row.0.1 its_pair found))

        -- the row of an edge at the node
        module _ (i : ℕ) (z : Edge) (f : slice_get (incident a (map edge rows)) i ≡ Some z) where
          pub of_edge : (r : Elem × J) × (slice_get (rows_at rows) i ≡ Some r) × (edge r ≡ z)
          of_edge = some_under edge (slice_get (rows_at rows) i) z (sym (nth_edge i) ∙ f)

          -- found by its key, with its half at the node and the one behind it
          module _ (n : Elem) (key : of_edge.0.0 ≡ n) where
            found : lookup (same n) rows ≡ Some of_edge.0.1
            found = ap (λ x. lookup (same x) rows) (sym key) ∙ row_found i of_edge.0 of_edge.1

            pub edge_row : IsSome (lookup (same n) rows)
            edge_row = subst IsSome (sym found) refl

            module _ (row : J) (g : lookup (same n) rows ≡ Some row) (q : ℕ) (half : q ≡ cond (same a (ended.from row)) (ended.first row) (ended.second row)) where
              same_row : of_edge.0.1 ≡ row
              same_row = inside of_edge.0.1 row (sym found ∙ g)
                where
                  inside : (x y : J) → ◌≡◌ {A = Option J} (Some x) (Some y) → x ≡ y
                  inside x y h = cc

              id_is : half_id of_edge.0 ≡ q
              id_is = ap (λ y. cond (same a (ended.from y)) (ended.first y) (ended.second y)) same_row ∙ sym half

              pub edge_half_live : IsLive halves q
              edge_half_live = subst (IsLive halves) id_is (nth_is_live a halves i (half_id of_edge.0) (row_id i of_edge.0 of_edge.1))

              pub next_half : key_after (nat_eq q) (rows_beside (pair_of halves q) halves) ≡ id_of a (i + 1) halves
              next_half =
                  let pair = subst (λ p. pair_of halves p ≡ Some (a, of_edge.0.0)) id_is (row_pair i of_edge.0 of_edge.1) in
                  let here = nth_half i ∙ ap (option_map half_at) of_edge.1 in
                  let distinct = passing_distinct (λ (s : Row). same a s.1.0) halves ids in
                  ap (λ o. key_after (nat_eq q) (rows_beside o halves)) pair
                  ∙ ap (λ p. key_after (nat_eq p) (pairs_of_key a halves)) (sym id_is)
                  ∙ nth_after nat_eq nat_eq_equiv (pairs_of_key a halves) i (half_at of_edge.0) distinct here
                  ∙ ap (λ m. id_of a m halves) (sym (add-one i))
