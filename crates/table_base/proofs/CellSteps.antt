-- A cell put into its threads, and one taken out.
use Rattle.std.proofs.Common.{◌≡◌, ◌≢◌, ℕ, ◌+◌, List, ◌∷◌, ◌++◌, Option, Some, None, refl, ap, ◌∙◌, arith, length-append}
use Rattle.std.specs.Option.{option_map}
use Rattle.slab.specs.Slab.{Slab, get, slab_len, Updates}
use Rattle.elem.specs.declared.elements.Elem.{Elem}
use Rattle.linked_base.specs.declared.links.Links.{Links}
use Rattle.linked_base.specs.declared.links.Ends.{Ends}
use Rattle.linked_base.specs.declared.group.Group.{Group}
use Rattle.linked_base.specs.Thread.{Avoids, IsThread, links_at, KeepsRest}
use Rattle.linked_base.specs.Group.{group_or_none, IsGroup, of_key}
use Rattle.linked_base.proofs.ThreadLemmas.{apart_without}
use Rattle.linked_base.proofs.GroupLemmas.{thread_same, same_beside, same_everywhere, join_start, join_finish, leave_start, leave_finish, kept}
use Rattle.linked_base.proofs.IdLemmas.{fresh}
use Rattle.table_base.specs.declared.cell_nodes.CellNode.{CellNode}
use Rattle.table_base.specs.declared.sides.Side.{Side}
use Rattle.table_base.specs.declared.sides.Side.TheVariants.{Row, Column}
use Rattle.table_base.specs.CellNodes.{all_links, links, key, cell, key_at, cell_at, the_node, with_group, AreCells}

abbrev pub with_all : CellNode → Links → CellNode
with_all n l = record n { all = l }

abbrev pub with_row : CellNode → Links → CellNode
with_row n l = record n { in_row = l }

abbrev pub with_column : CellNode → Links → CellNode
with_column n l = record n { in_column = l }

-- what each write of links keeps
module _ (x y : Option CellNode) where
  abbrev pub ByAll : Type 0
  ByAll = KeepsRest with_all x y

  abbrev pub ByRow : Type 0
  ByRow = KeepsRest with_row x y

  abbrev pub ByColumn : Type 0
  ByColumn = KeepsRest with_column x y

  module _ {X : Type 0} (read : CellNode → X) where
    pub by_all : ((n : CellNode) (l : Links) → read (with_all n l) ≡ read n) → ByAll → option_map read y ≡ option_map read x
    by_all f r = kept with_all read f x y r

    pub by_row : ((n : CellNode) (l : Links) → read (with_row n l) ≡ read n) → ByRow → option_map read y ≡ option_map read x
    by_row f r = kept with_row read f x y r

    pub by_column : ((n : CellNode) (l : Links) → read (with_column n l) ≡ read n) → ByColumn → option_map read y ≡ option_map read x
    by_column f r = kept with_column read f x y r

-- the cell at each place stays where links are written
module _ (n₁ n₂ n₃ n₄ : Slab CellNode) (rest₂ : (p : ℕ) → KeepsRest with_all (get n₁ p) (get n₂ p)) (rest₃ : (p : ℕ) → KeepsRest with_row (get n₂ p) (get n₃ p)) (rest₄ : (p : ℕ) → KeepsRest with_column (get n₃ p) (get n₄ p)) where
  read_kept : {X : Type 0} (read : CellNode → X) → ((n : CellNode) (l : Links) → read (with_all n l) ≡ read n) → ((n : CellNode) (l : Links) → read (with_row n l) ≡ read n) → ((n : CellNode) (l : Links) → read (with_column n l) ≡ read n) → (p : ℕ) → option_map read (get n₄ p) ≡ option_map read (get n₁ p)
  read_kept read f g k p = by_column (get n₃ p) (get n₄ p) read k (rest₄ p) ∙ by_row (get n₂ p) (get n₃ p) read g (rest₃ p) ∙ by_all (get n₁ p) (get n₂ p) read f (rest₂ p)

  pub cell_kept : (s : Side) (p : ℕ) → cell_at s n₄ p ≡ cell_at s n₁ p
  cell_kept Row p = read_kept (cell Row) (λ n l. refl) (λ n l. refl) (λ n l. refl) p
  cell_kept Column p = read_kept (cell Column) (λ n l. refl) (λ n l. refl) (λ n l. refl) p

-- n₀ before, n₁ with the node, then with it in the thread of all (n₂), of its row (n₃), of its column (n₄)
module _ (n₀ n₁ n₂ n₃ n₄ : Slab CellNode) (e₀ e₂ : Ends) (r₀ r₃ c₀ c₄ : Group) (rows columns : Elem → Option Group) (us : List ℕ) (q : ℕ) (vs : List ℕ) (r c v : Elem)
    (h : AreCells n₀ e₀ rows columns (us ++ vs)) (vacant : get n₀ q ≡ None) (updates : Updates n₀ n₁ q (Some (the_node r c v)))
    (rest₂ : (p : ℕ) → KeepsRest with_all (get n₁ p) (get n₂ p)) (rest₃ : (p : ℕ) → KeepsRest with_row (get n₂ p) (get n₃ p)) (rest₄ : (p : ℕ) → KeepsRest with_column (get n₃ p) (get n₄ p)) where
  pub put_beside : Avoids (Some q) (us ++ vs)
  put_beside = fresh all_links (key Row) n₀ q None (us ++ vs) None vacant h.thread.links

  pub thread₁ : IsThread (links_at all_links n₁) e₀ (us ++ vs)
  thread₁ = thread_same (links_at all_links n₀) (links_at all_links n₁) e₀ (us ++ vs) (same_beside (links_at all_links n₀) (links_at all_links n₁) q (λ p d. ap (option_map all_links) (updates.others p d)) (us ++ vs) put_beside) h.thread

  rows₂ : (p : ℕ) → p ≢ q → links_at (links Row) n₂ p ≡ links_at (links Row) n₀ p
  rows₂ p d = by_all (get n₁ p) (get n₂ p) (links Row) (λ n l. refl) (rest₂ p) ∙ ap (option_map (links Row)) (updates.others p d)

  columns₃ : (p : ℕ) → p ≢ q → links_at (links Column) n₃ p ≡ links_at (links Column) n₀ p
  columns₃ p d = by_row (get n₂ p) (get n₃ p) (links Column) (λ n l. refl) (rest₃ p) ∙ by_all (get n₁ p) (get n₂ p) (links Column) (λ n l. refl) (rest₂ p) ∙ ap (option_map (links Column)) (updates.others p d)

  pub row_group₂ : r₀ ≡ group_or_none (rows r) → IsGroup (links_at (links Row) n₂) r₀ (of_key (key_at Row n₀) r us ++ of_key (key_at Row n₀) r vs)
  row_group₂ e = join_start (key_at Row n₀) (key_at Row n₀) (links_at (links Row) n₀) (links_at (links Row) n₂) (links_at (links Row) n₂) (links_at (links Row) n₂) rows rows us q vs r r₀ r₀ put_beside e rows₂ h.in_rows

  pub column_group₃ : c₀ ≡ group_or_none (columns c) → IsGroup (links_at (links Column) n₃) c₀ (of_key (key_at Column n₀) c us ++ of_key (key_at Column n₀) c vs)
  column_group₃ e = join_start (key_at Column n₀) (key_at Column n₀) (links_at (links Column) n₀) (links_at (links Column) n₃) (links_at (links Column) n₃) (links_at (links Column) n₃) columns columns us q vs c c₀ c₀ put_beside e columns₃ h.in_columns

  read₄ : {X : Type 0} (read : CellNode → X) → ((n : CellNode) (l : Links) → read (with_all n l) ≡ read n) → ((n : CellNode) (l : Links) → read (with_row n l) ≡ read n) → ((n : CellNode) (l : Links) → read (with_column n l) ≡ read n) → (p : ℕ) → option_map read (get n₄ p) ≡ option_map read (get n₁ p)
  read₄ read f g k p = by_column (get n₃ p) (get n₄ p) read k (rest₄ p) ∙ by_row (get n₂ p) (get n₃ p) read g (rest₃ p) ∙ by_all (get n₁ p) (get n₂ p) read f (rest₂ p)

  row₄ : (p : ℕ) → key_at Row n₄ p ≡ key_at Row n₁ p
  row₄ = read₄ (key Row) (λ n l. refl) (λ n l. refl) (λ n l. refl)

  column₄ : (p : ℕ) → key_at Column n₄ p ≡ key_at Column n₁ p
  column₄ = read₄ (key Column) (λ n l. refl) (λ n l. refl) (λ n l. refl)

  pub put_cells : r₀ ≡ group_or_none (rows r) → c₀ ≡ group_or_none (columns c) → IsThread (links_at all_links n₂) e₂ (us ++ q ∷ vs)
      → ((p : ℕ) → Avoids (Some p) (of_key (key_at Row n₀) r us ++ q ∷ of_key (key_at Row n₀) r vs) → get n₃ p ≡ get n₂ p) → IsGroup (links_at (links Row) n₃) r₃ (of_key (key_at Row n₀) r us ++ q ∷ of_key (key_at Row n₀) r vs)
      → ((p : ℕ) → Avoids (Some p) (of_key (key_at Column n₀) c us ++ q ∷ of_key (key_at Column n₀) c vs) → get n₄ p ≡ get n₃ p) → IsGroup (links_at (links Column) n₄) c₄ (of_key (key_at Column n₀) c us ++ q ∷ of_key (key_at Column n₀) c vs)
      → slab_len n₄ ≡ slab_len n₀ + 1 → AreCells n₄ e₂ (with_group r r₃ rows) (with_group c c₄ columns) (us ++ q ∷ vs)
  put_cells er ec t others₃ grown₃ others₄ grown₄ len = record {
    thread =
        thread_same (links_at all_links n₂) (links_at all_links n₄) e₂ (us ++ q ∷ vs)
        (same_everywhere (links_at all_links n₂) (links_at all_links n₄) (λ p. by_column (get n₃ p) (get n₄ p) all_links (λ n l. refl) (rest₄ p) ∙ by_row (get n₂ p) (get n₃ p) all_links (λ n l. refl) (rest₃ p)) (us ++ q ∷ vs)) t;
    in_rows =
        join_finish (key_at Row n₀) (key_at Row n₄) (links_at (links Row) n₀) (links_at (links Row) n₂) (links_at (links Row) n₃) (links_at (links Row) n₄) rows (with_group r r₃ rows) us q vs r r₀ r₃ put_beside er
        (λ p d. row₄ p ∙ ap (option_map (key Row)) (updates.others p d)) (row₄ q ∙ ap (option_map (key Row)) updates.changed) (λ x. refl) rows₂ (λ p a. ap (option_map (links Row)) (others₃ p a)) grown₃
        (λ p. by_column (get n₃ p) (get n₄ p) (links Row) (λ n l. refl) (rest₄ p)) h.in_rows;
    in_columns =
        join_finish (key_at Column n₀) (key_at Column n₄) (links_at (links Column) n₀) (links_at (links Column) n₃) (links_at (links Column) n₄) (links_at (links Column) n₄) columns (with_group c c₄ columns) us q vs c c₀ c₄ put_beside ec
        (λ p d. column₄ p ∙ ap (option_map (key Column)) (updates.others p d)) (column₄ q ∙ ap (option_map (key Column)) updates.changed) (λ x. refl) columns₃ (λ p a. ap (option_map (links Column)) (others₄ p a)) grown₄ (λ p. refl) h.in_columns;
    count = let total = h.count in omega (arith, length-append us (q ∷ vs), length-append us vs);
  }

-- n₀ before, then with the node out of the thread of all (n₁), of its row (n₂), of its column (n₃), and n₄ without it
module _ (n₀ n₁ n₂ n₃ n₄ : Slab CellNode) (e₀ e₁ : Ends) (r₀ r₂ c₀ c₃ : Group) (rows columns : Elem → Option Group) (us : List ℕ) (q : ℕ) (vs : List ℕ)
    (h : AreCells n₀ e₀ rows columns (us ++ q ∷ vs)) (rest₁ : (p : ℕ) → KeepsRest with_all (get n₀ p) (get n₁ p)) (rest₂ : (p : ℕ) → KeepsRest with_row (get n₁ p) (get n₂ p)) (rest₃ : (p : ℕ) → KeepsRest with_column (get n₂ p) (get n₃ p)) where
  take_beside : Avoids (Some q) (us ++ vs)
  take_beside = (apart_without us q vs h.thread.apart).1

  rows₁ : (p : ℕ) → links_at (links Row) n₁ p ≡ links_at (links Row) n₀ p
  rows₁ p = by_all (get n₀ p) (get n₁ p) (links Row) (λ n l. refl) (rest₁ p)

  columns₂ : (p : ℕ) → links_at (links Column) n₂ p ≡ links_at (links Column) n₀ p
  columns₂ p = by_row (get n₁ p) (get n₂ p) (links Column) (λ n l. refl) (rest₂ p) ∙ by_all (get n₀ p) (get n₁ p) (links Column) (λ n l. refl) (rest₁ p)

  pub row_group₁ : (r : Elem) → key_at Row n₀ q ≡ Some r → r₀ ≡ group_or_none (rows r) → IsGroup (links_at (links Row) n₁) r₀ (of_key (key_at Row n₀) r us ++ q ∷ of_key (key_at Row n₀) r vs)
  row_group₁ r here e = leave_start (key_at Row n₀) (key_at Row n₀) (links_at (links Row) n₀) (links_at (links Row) n₁) (links_at (links Row) n₁) (links_at (links Row) n₁) rows rows us q vs r r₀ r₀ take_beside e here rows₁ h.in_rows

  pub column_group₂ : (c : Elem) → key_at Column n₀ q ≡ Some c → c₀ ≡ group_or_none (columns c) → IsGroup (links_at (links Column) n₂) c₀ (of_key (key_at Column n₀) c us ++ q ∷ of_key (key_at Column n₀) c vs)
  column_group₂ c here e = leave_start (key_at Column n₀) (key_at Column n₀) (links_at (links Column) n₀) (links_at (links Column) n₂) (links_at (links Column) n₂) (links_at (links Column) n₂) columns columns us q vs c c₀ c₀ take_beside e here columns₂ h.in_columns

  module _ (updates : Updates n₃ n₄ q None) where
    beside₄ : {X : Type 0} (read : CellNode → X) → ((n : CellNode) (l : Links) → read (with_all n l) ≡ read n) → ((n : CellNode) (l : Links) → read (with_row n l) ≡ read n) → ((n : CellNode) (l : Links) → read (with_column n l) ≡ read n) → (p : ℕ) → p ≢ q → option_map read (get n₄ p) ≡ option_map read (get n₀ p)
    beside₄ read f g k p d =
        ap (option_map read) (updates.others p d) ∙ by_column (get n₂ p) (get n₃ p) read k (rest₃ p) ∙ by_row (get n₁ p) (get n₂ p) read g (rest₂ p) ∙ by_all (get n₀ p) (get n₁ p) read f (rest₁ p)

    pub take_cells : (r c : Elem) → key_at Row n₀ q ≡ Some r → key_at Column n₀ q ≡ Some c → r₀ ≡ group_or_none (rows r) → c₀ ≡ group_or_none (columns c) → IsThread (links_at all_links n₁) e₁ (us ++ vs)
        → ((p : ℕ) → Avoids (Some p) (of_key (key_at Row n₀) r us ++ of_key (key_at Row n₀) r vs) → get n₂ p ≡ get n₁ p) → IsGroup (links_at (links Row) n₂) r₂ (of_key (key_at Row n₀) r us ++ of_key (key_at Row n₀) r vs)
        → ((p : ℕ) → Avoids (Some p) (of_key (key_at Column n₀) c us ++ of_key (key_at Column n₀) c vs) → get n₃ p ≡ get n₂ p) → IsGroup (links_at (links Column) n₃) c₃ (of_key (key_at Column n₀) c us ++ of_key (key_at Column n₀) c vs)
        → slab_len n₄ + 1 ≡ slab_len n₀ → AreCells n₄ e₁ (with_group r r₂ rows) (with_group c c₃ columns) (us ++ vs)
    take_cells r c here_r here_c er ec t others₂ shrunk₂ others₃ shrunk₃ len = record {
      thread =
          thread_same (links_at all_links n₁) (links_at all_links n₄) e₁ (us ++ vs)
          (same_beside (links_at all_links n₁) (links_at all_links n₄) q (λ p d. ap (option_map all_links) (updates.others p d) ∙ by_column (get n₂ p) (get n₃ p) all_links (λ n l. refl) (rest₃ p) ∙ by_row (get n₁ p) (get n₂ p) all_links (λ n l. refl) (rest₂ p)) (us ++ vs) take_beside) t;
      in_rows =
          leave_finish (key_at Row n₀) (key_at Row n₄) (links_at (links Row) n₀) (links_at (links Row) n₁) (links_at (links Row) n₂) (links_at (links Row) n₄) rows (with_group r r₂ rows) us q vs r r₀ r₂ take_beside er
          (beside₄ (key Row) (λ n l. refl) (λ n l. refl) (λ n l. refl)) here_r (λ x. refl) rows₁ (λ p a. ap (option_map (links Row)) (others₂ p a)) shrunk₂
          (λ p d. ap (option_map (links Row)) (updates.others p d) ∙ by_column (get n₂ p) (get n₃ p) (links Row) (λ n l. refl) (rest₃ p)) h.in_rows;
      in_columns =
          leave_finish (key_at Column n₀) (key_at Column n₄) (links_at (links Column) n₀) (links_at (links Column) n₂) (links_at (links Column) n₃) (links_at (links Column) n₄) columns (with_group c c₃ columns) us q vs c c₀ c₃ take_beside ec
          (beside₄ (key Column) (λ n l. refl) (λ n l. refl) (λ n l. refl)) here_c (λ x. refl) columns₂ (λ p a. ap (option_map (links Column)) (others₃ p a)) shrunk₃ (λ p d. ap (option_map (links Column)) (updates.others p d)) h.in_columns;
      count = let total = h.count in omega (arith, length-append us (q ∷ vs), length-append us vs);
    }
