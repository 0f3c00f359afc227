-- Frozen copies of views.
use Rattle.elem.specs.declared.build_kinds.BuildKind.{BuildKind}
use Rattle.elem.specs.declared.build_kinds.BuildKind.TheVariants as built
use Rattle.build_base.specs.declared.finish.Finish.{Finish}
use Rattle.vocabulary.specs.declared.calls.Making.TheVariants.{Copy, Build}
use Rattle.vocabulary.specs.declared.refusals.Refusal.TheVariants.{IllegalArgument, Limit}
use Rattle.std.specs.Prelude.{true, List, [], map, filter, flat_map, Result, ◌++◌, ◌∷◌, if◌then◌else◌, Ok, Err, None, Some, nat_lt}
use Rattle.elem.specs.declared.elements.Elem.{Elem}
use Rattle.vocabulary.specs.declared.items.Item.{Item}
use Rattle.vocabulary.specs.declared.items.Side.TheVariants.{First}
use Rattle.vocabulary.specs.declared.kinds.Kind.{Kind}
use Rattle.vocabulary.specs.declared.kinds.Kind.TheVariants as kind
use Rattle.vocabulary.specs.declared.shapes.Shape.{Shape}
use Rattle.vocabulary.specs.declared.shapes.Shape.TheVariants as shape
use Rattle.vocabulary.specs.declared.shapes.ValueShape.{ValueShape}
use Rattle.vocabulary.specs.declared.shapes.ValueShape.TheVariants as values
use Rattle.vocabulary.specs.declared.steps.GroupForm.TheVariants.{Keys}
use Rattle.vocabulary.specs.declared.steps.Step.TheVariants.{Group}
use Rattle.vocabulary.specs.declared.calls.Making.{Making}
use Rattle.vocabulary.specs.declared.refusals.Refusal.{Refusal}
use Rattle.machine.specs.Answering.{unless_refused}
use Rattle.machine.specs.Bases.{Base, World}
use Rattle.machine.specs.Builders.{built_rows, refuses}
use Rattle.machine.specs.KeyOrders.{each_once}
use Rattle.machine.specs.Reading.{reading_refusal}
use Rattle.machine.specs.RowCounts.{rows_in}
use Rattle.machine.specs.Shown.{has_key}
use Rattle.machine.specs.Views.{View, over, root, shape_at, shown}
use Rattle.vocabulary.specs.Items.{key_of}
use Rattle.vocabulary.specs.Limits.{most_rows}

abbrev pub kind_of_values : ValueShape → Kind
kind_of_values values.List = kind.LinkedArrayListMultimap
kind_of_values values.Coll = kind.LinkedArrayListMultimap
kind_of_values of = kind.LinkedHashMultimap

-- the kind of a copy of a view of a shape
abbrev pub kind_of_copy : Shape → Kind
kind_of_copy (shape.Set sorted) = kind.LinkedHashSet
kind_of_copy (shape.Map sorted) = kind.LinkedHashMap
kind_of_copy (shape.Bag sorted) = kind.LinkedHashMultiset
kind_of_copy shape.BiMap = kind.HashBiMap
kind_of_copy (shape.Multimap of sorted) = kind_of_values of
kind_of_copy (shape.Table mirrored sorted) = kind.LinkedTable
kind_of_copy shape.RangeSet = kind.TreeRangeSet
kind_of_copy shape.RangeMap = kind.TreeRangeMap
kind_of_copy other = kind.ArrayList

-- a copy of a graph is a graph of its kind
abbrev pub kind_copied : Shape → Kind → Kind
kind_copied (shape.Graph directed) below = below
kind_copied of below = kind_of_copy of

-- the keys by which the rows of a copy stand together: those of a multimap as they go, those of a bag as they come
abbrev pub keys_of_copy : Shape → World → View → List Elem
keys_of_copy (shape.Multimap of sorted) world v = map key_of (shown world (over (Group First Keys) v))
keys_of_copy other world v = each_once (map key_of (shown world v))

abbrev pub together : List Elem → List Item → List Item
together keys items = flat_map (λ k. filter (has_key k) items) keys

-- the rows of a copy: what is shown, in order; in a bag and a multimap together by their keys
abbrev pub rows_of_copy : Shape → World → View → List Item
rows_of_copy (shape.Multimap of sorted) world v = together (keys_of_copy (shape.Multimap of sorted) world v) (shown world v)
rows_of_copy (shape.Bag sorted) world v = together (keys_of_copy (shape.Bag sorted) world v) (shown world v)
rows_of_copy other world v = shown world v

abbrev pub keys_kept : Kind → List Elem → List Elem
keys_kept kind.LinkedHashMultimap keys = keys
keys_kept other keys = []

abbrev pub frozen_base : Kind → List Item → List Elem → Base
frozen_base of rows keys = record { kind = of; rows = rows; keys = keys_kept of keys; change = 0; frozen = true }

abbrev pub copy_of : World → View → Base
copy_of world v =
    let of = shape_at world v in
    frozen_base (kind_copied of (root world v).kind) (rows_of_copy of world v) (keys_of_copy of world v)

-- ---- what a builder builds

abbrev pub kind_built : BuildKind → Kind
kind_built built.List = kind.ArrayList
kind_built built.Set = kind.LinkedHashSet
kind_built built.Multiset = kind.LinkedHashMultiset
kind_built built.Map = kind.LinkedHashMap
kind_built built.BiMap = kind.HashBiMap
kind_built built.ListMultimap = kind.LinkedArrayListMultimap
kind_built built.SetMultimap = kind.LinkedHashMultimap
kind_built built.Table = kind.LinkedTable
kind_built built.RangeSet = kind.TreeRangeSet
kind_built built.RangeMap = kind.TreeRangeMap

abbrev pub built_base : BuildKind → Finish → List Item → Base
built_base of how items = frozen_base (kind_built of) (built_rows of how items) (each_once (map key_of items))

-- ---- the bases with one more

abbrev pub with_one : World → Base → Result World Refusal
with_one world it = let more = world ++ it ∷ [] in if nat_lt most_rows (rows_in more) then Err Limit else Ok more

-- a copy of what a view shows
abbrev pub copied : World → View → Result World Refusal
copied world v = unless_refused (reading_refusal world v) (with_one world (copy_of world v))

-- what a builder makes of its items
abbrev pub built_from : World → BuildKind → Finish → List Item → Result World Refusal
built_from world of how items = unless_refused (if refuses of how items then Some IllegalArgument else None) (with_one world (built_base of how items))

abbrev pub built_of : Shape → World → View → Finish → Result World Refusal
built_of (shape.Builder of) world v how = built_from world of how (shown world v)
built_of other world v how = Ok world

-- a base that a word makes of a view
abbrev pub made_of : World → View → Making → Result World Refusal
made_of world v Copy = copied world v
made_of world v (Build how) = built_of (shape_at world v) world v how
