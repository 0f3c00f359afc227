-- A value that is put in a table goes where the machine's definition of a row that comes has it.
use Rattle.std.proofs.Common.{◌≡◌, ℕ, zero, suc, Bool, true, false, cond, not, ◌&&◌, ◌||◌, List, [], ◌∷◌, ◌++◌, take, drop, Some, None, refl, sym, ap, ◌∙◌, subst}
use Rattle.std.specs.Prelude.{is_some}
use Rattle.std.specs.List.{IsDistinct, AllByRecursion, list_any}
use Rattle.std.specs.Map.{lookup}
use Rattle.std.proofs.lemmas.List.{take-append-drop}
use Rattle.std.proofs.lemmas.List.Elements.{filter-append}
use Rattle.std.proofs.lemmas.Option.{same_Some}
use Rattle.elem.specs.declared.elements.Elem.{Elem}
use Rattle.elem.specs.Elements.{same}
use Rattle.elem.specs.ElementLaws.{same-Decides, same_equiv}
use Rattle.elem.specs.Orders.{natural_before}
use Rattle.elem.specs.OrderLaws.{natural_before_strict}
use Rattle.elem.specs.Rows.{first_key}
use Rattle.plain_base.specs.Sorted.{ComesFirst}
use Rattle.plain_base.specs.TwoKeys.{both_before, by_both, IsInBothOrder}
use Rattle.plain_base.proofs.SortedCuts.{apart_after}
use Rattle.table_base.specs.Cells.{Cell, row, has_row, is_spot, spot_of, value_in, with_cell, with_value, without_cell}
use Rattle.vocabulary.specs.declared.items.Item.{Item}
use Rattle.vocabulary.specs.declared.items.Item.TheVariants as item
use Rattle.vocabulary.specs.declared.kinds.Kind.{Kind}
use Rattle.vocabulary.specs.declared.kinds.Kind.TheVariants.{LinkedTable, TreeBasedTable}
use Rattle.vocabulary.specs.Items.{key_of}
use Rattle.machine.specs.Placing.{follows, placed, precedes, replaces}
use Rattle.view_laws.proofs.ListLemmas.{all-drop, all-take, and-false}
use Rattle.cell_rows.specs.CellRows.{items, item_of}
use Rattle.cell_rows.specs.CellSpots.{HaveOwnSpots}
use Rattle.cell_rows.proofs.Apart.{IsAlone, not_shared}

module _ (r c : Elem) where
  -- none of those cells is at the row and the column
  abbrev pub NoneAt : List Cell → Type 0
  NoneAt cells = AllByRecursion (λ (x : Cell). is_spot r c (spot_of x) ≡ false) cells

  pub none_at : (cells : List Cell) → value_in r c cells ≡ None → NoneAt cells
  none_at [] e = tt
  none_at (x ∷ cells) e = by (same r x.0) e (none_at cells)
    where
      by_column : (b : Bool) → cond b (Some x.1.1) (value_in r c cells) ≡ None → (value_in r c cells ≡ None → NoneAt cells) → (b ≡ false) × NoneAt cells
      by_column true f ih = absurd (cc)
      by_column false f ih = (refl, ih f)

      by : (b : Bool) → lookup (same c) (cond b (x.1 ∷ row r cells) (row r cells)) ≡ None → (value_in r c cells ≡ None → NoneAt cells) → ((b && same c x.1.0) ≡ false) × NoneAt cells
      by true f ih = by_column (same c x.1.0) f ih
      by false f ih = (refl, ih f)

  pub its_spot : (same r r && same c c) ≡ true
  its_spot = λ i. same_equiv.refl r i && same_equiv.refl c i

  pub kept_without : (cells : List Cell) → NoneAt cells → without_cell r c cells ≡ cells
  kept_without [] n = refl
  kept_without (x ∷ cells) n = λ i. cond (not (n.0 i)) (x ∷ kept_without cells n.1 i) (kept_without cells n.1 i)

  pub kept_value : (v : Elem) (cells : List Cell) → NoneAt cells → with_value r c v cells ≡ cells
  kept_value v [] n = refl
  kept_value v (x ∷ cells) n = λ i. cond (n.0 i) (r, (c, v)) x ∷ kept_value v cells n.1 i

  -- ---- a table cut at one of its cells

  pub record IsCut (w : Elem) (cells : List Cell) : Type 0 where
    pub front : List Cell
    pub behind : List Cell
    pub cut : cells ≡ front ++ (r, (c, w)) ∷ behind
    pub none_front : NoneAt front
    pub none_behind : NoneAt behind

  pub alone_none : (x : Cell) (cells : List Cell) → same r x.0 ≡ true → same c x.1.0 ≡ true → IsAlone x cells → NoneAt cells
  alone_none x [] e f a = tt
  alone_none x (y ∷ cells) e f a = ((λ i. same ((same-Decides r x.0).0 e i) y.0 && same ((same-Decides c x.1.0).0 f i) y.1.0) ∙ a.0, alone_none x cells e f a.1)

  pub cut_at : (w : Elem) (cells : List Cell) → HaveOwnSpots (items cells) → value_in r c cells ≡ Some w → IsCut w cells
  unfolding IsDistinct
  cut_at w [] d e = absurd (cc)
  cut_at w (x ∷ cells) d e = by (same r x.0) refl e (cut_at w cells d.1)
    where
      further : is_spot r c (spot_of x) ≡ false → IsCut w cells → IsCut w (x ∷ cells)
      further n rest = record { front = x ∷ rest.front; behind = rest.behind; cut = ap (λ l. x ∷ l) rest.cut; none_front = (n, rest.none_front); none_behind = rest.none_behind }

      by_column : (b : Bool) → same c x.1.0 ≡ b → same r x.0 ≡ true → cond b (Some x.1.1) (value_in r c cells) ≡ Some w → (value_in r c cells ≡ Some w → IsCut w cells) → IsCut w (x ∷ cells)
      by_column true f g h ih = record {
        front = [];
        behind = cells;
        cut = λ i. (sym ((same-Decides r x.0).0 g) i, (sym ((same-Decides c x.1.0).0 f) i, same_Some x.1.1 w h i)) ∷ cells;
        none_front = tt;
        none_behind = alone_none x cells g f d.0;
      }
      by_column false f g h ih = further (λ i. g i && f i) (ih h)

      by : (b : Bool) → same r x.0 ≡ b → lookup (same c) (cond b (x.1 ∷ row r cells) (row r cells)) ≡ Some w → (value_in r c cells ≡ Some w → IsCut w cells) → IsCut w (x ∷ cells)
      by true g h ih = by_column (same c x.1.0) refl g h ih
      by false g h ih = further (ap (λ b. b && same c x.1.0) g) (ih h)

  value_cut : (v w : Elem) (us vs : List Cell) → NoneAt us → NoneAt vs → with_value r c v (us ++ (r, (c, w)) ∷ vs) ≡ us ++ (r, (c, v)) ∷ vs
  value_cut v w [] vs m n = λ i. cond (its_spot i) (r, (c, v)) (r, (c, w)) ∷ kept_value v vs n i
  value_cut v w (u ∷ us) vs m n = λ i. cond (m.0 i) (r, (c, v)) u ∷ value_cut v w us vs m.1 n i

  pub value_at_cut : (v w : Elem) (cells : List Cell) (k : IsCut w cells) → with_value r c v cells ≡ k.front ++ (r, (c, v)) ∷ k.behind
  value_at_cut v w cells k = ap (with_value r c v) k.cut ∙ value_cut v w k.front k.behind k.none_front k.none_behind

  -- a value that is put and taken back
  pub value_back : (v w : Elem) (cells : List Cell) → IsCut w cells → with_value r c w (with_value r c v cells) ≡ cells
  value_back v w cells k = ap (with_value r c w) (value_at_cut v w cells k) ∙ value_cut w v k.front k.behind k.none_front k.none_behind ∙ sym k.cut

  -- ---- a value in place

  module _ (kind : Kind) (v : Elem) (reads : (old : Cell) → replaces kind (item.Cell r c v) (item_of old) ≡ is_spot r c (spot_of old)) where
    -- the cell goes neither before nor right behind one of those, which others follow
    abbrev pub IsPassed : List Cell → List Cell → Type 0
    IsPassed [] rest = Unit {0}
    IsPassed (u ∷ us) rest = ((precedes kind (item.Cell r c v) (item_of u) ≡ false) × (follows kind (item.Cell r c v) (item_of u) (items (us ++ rest)) ≡ false)) × IsPassed us rest

    pub placed_cut : (w : Elem) (us vs : List Cell) → NoneAt us → IsPassed us ((r, (c, w)) ∷ vs) → placed kind (items (us ++ (r, (c, w)) ∷ vs)) (item.Cell r c v) ≡ items (us ++ (r, (c, v)) ∷ vs)
    placed_cut w [] vs n p =
        let old = item.Cell r c w in
        let new = item.Cell r c v in
        let rows = items vs in
        ap (λ b. cond b (new ∷ rows) (cond (precedes kind new old) (new ∷ old ∷ rows) (cond (follows kind new old rows) (old ∷ new ∷ rows) (old ∷ placed kind rows new)))) (reads (r, (c, w)) ∙ its_spot)
    placed_cut w (u ∷ us) vs n p =
        let old = item_of u in
        let new = item.Cell r c v in
        let rows = items (us ++ (r, (c, w)) ∷ vs) in
        (λ i. cond ((reads u ∙ n.0) i) (new ∷ rows) (cond (p.0.0 i) (new ∷ old ∷ rows) (cond (p.0.1 i) (old ∷ new ∷ rows) (old ∷ placed kind rows new))))
        ∙ ap (λ (l : List Item). old ∷ l) (placed_cut w us vs n.1 p.1)

  -- in a linked table
  any_row : (w : Elem) (us vs : List Cell) → list_any (λ old. same r (key_of old)) (items (us ++ (r, (c, w)) ∷ vs)) ≡ true
  any_row w [] vs = ap (λ b. b || list_any (λ old. same r (key_of old)) (items vs)) (same_equiv.refl r)
  any_row w (u ∷ us) vs = by (same r u.0) (any_row w us vs)
    where
      by : (b : Bool) {t : Bool} → t ≡ true → (b || t) ≡ true
      by true e = refl
      by false e = e

  passed_linked : (v w : Elem) (us vs : List Cell) → IsPassed LinkedTable v (λ old. refl) us ((r, (c, w)) ∷ vs)
  passed_linked v w [] vs = tt
  passed_linked v w (u ∷ us) vs = ((refl, ap (λ b. same r u.0 && not b) (any_row w us vs) ∙ and-false (same r u.0)), passed_linked v w us vs)

  pub replaced_linked : (v w : Elem) (cells : List Cell) → IsCut w cells → items (with_value r c v cells) ≡ placed LinkedTable (items cells) (item.Cell r c v)
  replaced_linked v w cells k =
      ap items (value_at_cut v w cells k)
      ∙ sym (ap (λ l. placed LinkedTable (items l) (item.Cell r c v)) k.cut ∙ placed_cut LinkedTable v (λ old. refl) w k.front k.behind k.none_front (passed_linked v w k.front k.behind))

  -- ---- a new cell of a linked table

  row_any : (cells : List Cell) → has_row r cells ≡ list_any (λ old. same r (key_of old)) (items cells)
  row_any [] = refl
  row_any (x ∷ cells) = by (same r x.0) (row_any cells)
    where
      by : (b : Bool) → has_row r cells ≡ list_any (λ old. same r (key_of old)) (items cells) → is_some (first_key (cond b (x.1 ∷ row r cells) (row r cells))) ≡ (b || list_any (λ old. same r (key_of old)) (items cells))
      by true h = refl
      by false h = h

  pub new_linked : (v : Elem) (cells : List Cell) → NoneAt cells → items (with_cell (r, (c, v)) cells) ≡ placed LinkedTable (items cells) (item.Cell r c v)
  new_linked v [] n = refl
  new_linked v (y ∷ cells) n =
      let old = item_of y in
      let new = item.Cell r c v in
      let rows = items cells in
      by (same r y.0 && not (has_row r cells)) (new_linked v cells n.1)
      ∙ ap (λ b. cond (same r y.0 && not b) (old ∷ new ∷ rows) (old ∷ placed LinkedTable rows new)) (row_any cells)
      ∙ sym (ap (λ b. cond b (new ∷ rows) (cond (same r y.0 && not (list_any (λ o. same r (key_of o)) rows)) (old ∷ new ∷ rows) (old ∷ placed LinkedTable rows new))) n.0)
    where
      by : (b : Bool) → items (with_cell (r, (c, v)) cells) ≡ placed LinkedTable (items cells) (item.Cell r c v)
          → items (cond b (y ∷ (r, (c, v)) ∷ cells) (y ∷ with_cell (r, (c, v)) cells)) ≡ cond b (item_of y ∷ item.Cell r c v ∷ items cells) (item_of y ∷ placed LinkedTable (items cells) (item.Cell r c v))
      by true ih = refl
      by false ih = ap (λ (l : List Item). item_of y ∷ l) ih

  gone_here : (v : Elem) (cells : List Cell) → NoneAt cells → without_cell r c ((r, (c, v)) ∷ cells) ≡ cells
  gone_here v cells n = λ i. cond (not (its_spot i)) ((r, (c, v)) ∷ kept_without cells n i) (kept_without cells n i)

  pub new_linked_back : (v : Elem) (cells : List Cell) → NoneAt cells → without_cell r c (with_cell (r, (c, v)) cells) ≡ cells
  new_linked_back v [] n = gone_here v [] tt
  new_linked_back v (y ∷ cells) n = by (same r y.0 && not (has_row r cells)) (new_linked_back v cells n.1)
    where
      kept : (l : List Cell) → without_cell r c l ≡ cells → without_cell r c (y ∷ l) ≡ y ∷ cells
      kept l h = λ i. cond (not (n.0 i)) (y ∷ h i) (h i)

      by : (b : Bool) → without_cell r c (with_cell (r, (c, v)) cells) ≡ cells → without_cell r c (cond b (y ∷ (r, (c, v)) ∷ cells) (y ∷ with_cell (r, (c, v)) cells)) ≡ y ∷ cells
      by true ih = kept ((r, (c, v)) ∷ cells) (gone_here v cells n.1)
      by false ih = kept (with_cell (r, (c, v)) cells) ih

  -- ---- a new cell of a sorted table

  pub new_sorted_back : (v : Elem) (i : ℕ) (cells : List Cell) → NoneAt cells → without_cell r c (take i cells ++ (r, (c, v)) ∷ drop i cells) ≡ cells
  new_sorted_back v i cells n =
      filter-append (λ (x : Cell). not (is_spot r c (spot_of x))) (take i cells) ((r, (c, v)) ∷ drop i cells)
      ∙ (λ j. kept_without (take i cells) (all-take (λ (x : Cell). is_spot r c (spot_of x) ≡ false) i cells n) j ++ gone_here v (drop i cells) (all-drop (λ (x : Cell). is_spot r c (spot_of x) ≡ false) i cells n) j)
      ∙ take-append-drop i cells

-- ---- the order of a sorted table

none_first : (a b : Elem) → natural_before a b ≡ true → natural_before b a ≡ false
none_first a b h = by (natural_before b a) refl
  where
    by : (t : Bool) → natural_before b a ≡ t → t ≡ false
    by true e = let f = natural_before_strict.transitive a b a h e in let g = natural_before_strict.irreflexive a in cc
    by false e = refl

not_both_first : (p q : Elem × Elem) → both_before p q ≡ true → both_before q p ≡ false
not_both_first p q h = by (natural_before p.0 q.0) refl (same p.0 q.0) refl h
  where
    by : (b : Bool) → natural_before p.0 q.0 ≡ b → (s : Bool) → same p.0 q.0 ≡ s → (b || (s && natural_before p.1 q.1)) ≡ true → both_before q p ≡ false
    by true e s f g = λ i. none_first p.0 q.0 e i || ((same_equiv.symm q.0 p.0 ∙ apart_after natural_before_strict p.0 q.0 e) i && natural_before q.1 p.1)
    by false e true f g =
        let equal : p.0 ≡ q.0 = (same-Decides p.0 q.0).0 f in
        (λ i. (ap (natural_before q.0) equal ∙ natural_before_strict.irreflexive q.0) i || (same q.0 p.0 && none_first p.1 q.1 g i)) ∙ and-false (same q.0 p.0)
    by false e false f g = absurd (cc)

-- what comes before all of some cells comes before each
comes_before : (p : Elem × Elem) (us : List Cell) (x : Cell) (vs : List Cell) → ComesFirst both_before p (by_both (us ++ x ∷ vs)) → both_before p (spot_of x) ≡ true
comes_before p [] x vs f = f.0
comes_before p (u ∷ us) x vs f = comes_before p us x vs f.1

module _ (r c v : Elem) where
  passed_sorted : (w : Elem) (us vs : List Cell) → IsInBothOrder (us ++ (r, (c, w)) ∷ vs) → IsPassed r c TreeBasedTable v (λ old. refl) us ((r, (c, w)) ∷ vs)
  passed_sorted w [] vs s = tt
  passed_sorted w (u ∷ us) vs s = ((not_both_first (spot_of u) (r, c) (comes_before (spot_of u) us (r, (c, w)) vs s.0), refl), passed_sorted w us vs s.1)

  pub replaced_sorted : (w : Elem) (cells : List Cell) → IsInBothOrder cells → IsCut r c w cells → items (with_value r c v cells) ≡ placed TreeBasedTable (items cells) (item.Cell r c v)
  replaced_sorted w cells s k =
      ap items (value_at_cut r c v w cells k)
      ∙ sym (ap (λ l. placed TreeBasedTable (items l) (item.Cell r c v)) k.cut ∙ placed_cut r c TreeBasedTable v (λ old. refl) w k.front k.behind k.none_front (passed_sorted w k.front k.behind (subst IsInBothOrder k.cut s)))

  pub new_sorted : (i : ℕ) (cells : List Cell) → IsInBothOrder (take i cells ++ (r, (c, v)) ∷ drop i cells) → items (take i cells ++ (r, (c, v)) ∷ drop i cells) ≡ placed TreeBasedTable (items cells) (item.Cell r c v)
  new_sorted zero [] s = refl
  new_sorted (suc i) [] s = refl
  new_sorted zero (y ∷ cells) s =
      let old = item_of y in
      let new = item.Cell r c v in
      let rows = items cells in
      sym (λ i. cond (not_shared (r, c) (spot_of y) s.0.0 i) (new ∷ rows) (cond (s.0.0 i) (new ∷ old ∷ rows) (old ∷ placed TreeBasedTable rows new)))
  new_sorted (suc i) (y ∷ cells) s =
      let old = item_of y in
      let new = item.Cell r c v in
      let rows = items cells in
      let behind : both_before (spot_of y) (r, c) ≡ true = comes_before (spot_of y) (take i cells) (r, (c, v)) (drop i cells) s.0 in
      let other : (same r y.0 && same c y.1.0) ≡ false = (λ j. same_equiv.symm r y.0 j && same_equiv.symm c y.1.0 j) ∙ not_shared (spot_of y) (r, c) behind in
      ap (λ (l : List Item). old ∷ l) (new_sorted i cells s.1)
      ∙ sym (λ j. cond (other j) (new ∷ rows) (cond (not_both_first (spot_of y) (r, c) behind j) (new ∷ old ∷ rows) (old ∷ placed TreeBasedTable rows new)))
