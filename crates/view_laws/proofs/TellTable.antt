-- The table of what a step tells, read by shapes: what is told of a shape is told of each of its items.
use Rattle.std.proofs.Common.{◌≡◌, Bool, true, false, not, ◌||◌, refl}
use Rattle.vocabulary.specs.declared.items.Item.{Item}
use Rattle.vocabulary.specs.declared.items.Item.TheVariants.{Entry, Cell, RangeEntry, Edge}
use Rattle.vocabulary.specs.declared.items.Side.{Side}
use Rattle.vocabulary.specs.declared.items.Side.TheVariants.{First, Second}
use Rattle.vocabulary.specs.declared.shapes.RowSort.TheVariants as rows
use Rattle.vocabulary.specs.declared.shapes.Shape.{Shape}
use Rattle.vocabulary.specs.declared.shapes.Shape.TheVariants as shape
use Rattle.vocabulary.specs.declared.steps.ChangeStep.TheVariants.{TransformValues}
use Rattle.vocabulary.specs.declared.steps.PlainStep.TheVariants.{Values, Inverse, Transpose}
use Rattle.vocabulary.specs.declared.steps.Step.{Step}
use Rattle.vocabulary.specs.declared.steps.Step.TheVariants as step
use Rattle.view_laws.specs.ItemForms.{has_form}
use Rattle.view_laws.specs.Narrowing.{is_cell, is_entry, lacks_key, tells}
use Rattle.view_laws.specs.ShapeNarrowing.{may_have_cells, may_have_entries, may_lack_keys, tells_on}

-- ---- what a view of a shape may not show

no_cell : (of : Shape) (item : Item) → has_form of item ≡ true → not (may_have_cells of) ≡ true → not (is_cell item) ≡ true
no_cell of (Cell r c v) h m = by of h m
  where
    by : (of : Shape) → has_form of (Cell r c v) ≡ true → not (may_have_cells of) ≡ true → false ≡ true
    by shape.List h m = h
    by (shape.Set sorted) h m = h
    by shape.Coll h m = h
    by (shape.Rows rows.Cell) h m = m
    by (shape.Rows rows.Entry) h m = h
    by (shape.Rows other) h m = h
    by (shape.Map sorted) h m = h
    by (shape.Groups groups) h m = h
    by (shape.Bag sorted) h m = h
    by shape.BiMap h m = h
    by (shape.Multimap values sorted) h m = h
    by (shape.Table mirrored sorted) h m = m
    by shape.Pieces h m = h
    by shape.RangeSet h m = h
    by shape.RangeMap h m = h
    by (shape.Graph directed) h m = h
    by (shape.Builder kind) h m = m
no_cell of other h m = refl

no_entry : (of : Shape) (item : Item) → has_form of item ≡ true → not (may_have_entries of) ≡ true → not (is_entry item) ≡ true
no_entry of (Entry k v) h m = by of h m
  where
    by : (of : Shape) → has_form of (Entry k v) ≡ true → not (may_have_entries of) ≡ true → false ≡ true
    by shape.List h m = h
    by (shape.Set sorted) h m = h
    by shape.Coll h m = h
    by (shape.Rows rows.Entry) h m = m
    by (shape.Rows rows.MultiEntry) h m = m
    by (shape.Rows other) h m = h
    by (shape.Map sorted) h m = m
    by (shape.Groups groups) h m = h
    by (shape.Bag sorted) h m = h
    by shape.BiMap h m = m
    by (shape.Multimap values sorted) h m = m
    by (shape.Table mirrored sorted) h m = h
    by shape.Pieces h m = h
    by shape.RangeSet h m = h
    by shape.RangeMap h m = h
    by (shape.Graph directed) h m = h
    by (shape.Builder kind) h m = m
no_entry of other h m = refl

no_lack : (of : Shape) (item : Item) → has_form of item ≡ true → not (may_lack_keys of) ≡ true → not (lacks_key item) ≡ true
no_lack of (RangeEntry s v) h m = by of h m
  where
    by : (of : Shape) → has_form of (RangeEntry s v) ≡ true → not (may_lack_keys of) ≡ true → false ≡ true
    by shape.List h m = h
    by (shape.Set sorted) h m = h
    by shape.Coll h m = h
    by (shape.Rows rows.Entry) h m = h
    by (shape.Rows rows.RangeEntry) h m = m
    by (shape.Rows other) h m = h
    by (shape.Map sorted) h m = h
    by (shape.Groups groups) h m = h
    by (shape.Bag sorted) h m = h
    by shape.BiMap h m = h
    by (shape.Multimap values sorted) h m = h
    by (shape.Table mirrored sorted) h m = h
    by shape.Pieces h m = h
    by shape.RangeSet h m = h
    by shape.RangeMap h m = m
    by (shape.Graph directed) h m = m
    by (shape.Builder kind) h m = m
no_lack of (Edge a b v) h m = by of h m
  where
    by : (of : Shape) → has_form of (Edge a b v) ≡ true → not (may_lack_keys of) ≡ true → false ≡ true
    by shape.List h m = h
    by (shape.Set sorted) h m = h
    by shape.Coll h m = h
    by (shape.Rows rows.Entry) h m = h
    by (shape.Rows other) h m = h
    by (shape.Map sorted) h m = h
    by (shape.Groups groups) h m = h
    by (shape.Bag sorted) h m = h
    by shape.BiMap h m = h
    by (shape.Multimap values sorted) h m = h
    by (shape.Table mirrored sorted) h m = h
    by shape.Pieces h m = h
    by shape.RangeSet h m = h
    by shape.RangeMap h m = h
    by (shape.Graph directed) h m = m
    by (shape.Builder kind) h m = m
no_lack of other h m = refl

neither : (a b : Bool) → not a ≡ true → not b ≡ true → not (a || b) ≡ true
neither true b h k = h
neither false b h k = k

parted : (a b : Bool) → not (a || b) ≡ true → (not a ≡ true) × (not b ≡ true)
parted true b h = cc
parted false b h = (refl, h)

-- ---- the table

pub told_on_shape : (of : Shape) (it : Step) (side : Side) (item : Item) → has_form of item ≡ true → tells_on of it side ≡ true → tells it side item ≡ true
told_on_shape of (step.Plain Values) side item h t = no_cell of item h t
told_on_shape of (step.Plain Inverse) side item h t = no_lack of item h t
told_on_shape of (step.Plain Transpose) side item h t = no_lack of item h t
told_on_shape of (step.Change TransformValues f) First item h t = refl
told_on_shape of (step.Change TransformValues f) Second item h t = no_entry of item h t
told_on_shape of (step.At First k n) First item h t = no_lack of item h t
told_on_shape of (step.At First k n) Second item h t = no_cell of item h t
told_on_shape of (step.At Second k n) First item h t = refl
told_on_shape of (step.At Second k n) Second item h t =
    let parts = parted (may_have_cells of) (may_lack_keys of) t in
    neither (is_cell item) (lacks_key item) (no_cell of item h parts.0) (no_lack of item h parts.1)
told_on_shape of it side item h t = refl
