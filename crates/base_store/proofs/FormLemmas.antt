-- The rows of a base of a known kind have the form of its shape, and views over them are formed.
use Rattle.std.proofs.Common.{◌≡◌, Bool, true, false, List, [], ◌∷◌, refl, ap, sym, ◌∙◌, subst}
use Rattle.std.specs.List.{AllByRecursion}
use Rattle.vocabulary.specs.declared.items.Item.{Item}
use Rattle.vocabulary.specs.declared.items.Item.TheVariants.{One, Entry}
use Rattle.vocabulary.specs.declared.kinds.Kind.{Kind}
use Rattle.vocabulary.specs.declared.kinds.Kind.TheVariants.{ArrayList, LinkedHashSet, TreeSet, TreeSetReverse, TreeSetLength, LinkedHashMap, TreeMap, TreeMapReverse, TreeMapLength, HashBiMap}
use Rattle.vocabulary.specs.declared.shapes.Shape.TheVariants as shape
use Rattle.vocabulary.specs.Kinds.{shape_of_kind}
use Rattle.vocabulary.specs.Known.{is_known_kind}
use Rattle.machine.specs.Bases.{Base, World, base_at}
use Rattle.machine.specs.MadeViews.{IsMade}
use Rattle.machine.specs.Views.{View}
use Rattle.view_laws.specs.ItemForms.{IsFormed, has_form}
use Rattle.view_steps.specs.KnownViews.{is_known_view, number_under}
use Rattle.base_rows.specs.BaseRows.{AreRowsOf, IsRowIn, IsRowOf}
use Rattle.view_steps.proofs.KnownLemmas.{known_base}
use Rattle.view_steps.proofs.FormedLemmas.{known_formed}

list_form : (row : Item) → IsRowIn shape.List row → has_form shape.List row ≡ true
list_form (One x) h = refl
list_form _ h = absurd h

set_form : (sorted : Bool) (row : Item) → IsRowIn (shape.Set sorted) row → has_form (shape.Set sorted) row ≡ true
set_form sorted (One x) h = refl
set_form sorted _ h = absurd h

map_form : (sorted : Bool) (row : Item) → IsRowIn (shape.Map sorted) row → has_form (shape.Map sorted) row ≡ true
map_form sorted (Entry k v) h = refl
map_form sorted _ h = absurd h

bimap_form : (row : Item) → IsRowIn shape.BiMap row → has_form shape.BiMap row ≡ true
bimap_form (Entry k v) h = refl
bimap_form _ h = absurd h

row_form : (kind : Kind) (row : Item) → is_known_kind kind ≡ true → IsRowOf kind row → has_form (shape_of_kind kind) row ≡ true
row_form ArrayList row known h = list_form row h
row_form LinkedHashSet row known h = set_form false row h
row_form TreeSet row known h = set_form true row h
row_form TreeSetReverse row known h = set_form true row h
row_form TreeSetLength row known h = set_form true row h
row_form LinkedHashMap row known h = map_form false row h
row_form TreeMap row known h = map_form true row h
row_form TreeMapReverse row known h = map_form true row h
row_form TreeMapLength row known h = map_form true row h
row_form HashBiMap row known h = bimap_form row h
row_form _ row known h = absurd (cc)

rows_form : (kind : Kind) (rows : List Item) → is_known_kind kind ≡ true → AreRowsOf kind rows → AllByRecursion (λ (row : Item). has_form (shape_of_kind kind) row ≡ true) rows
rows_form kind [] known h = tt
rows_form kind (row ∷ rows) known h = (row_form kind row known h.0, rows_form kind rows known h.1)

-- a known view over a base whose rows are those of its kind
pub formed_over : (world : World) (v : View) → is_known_view v ≡ true → is_known_kind (base_at world (number_under v)).kind ≡ true → IsMade world v → AreRowsOf (base_at world (number_under v)).kind (base_at world (number_under v)).rows → IsFormed world v
formed_over world v known kind made fit =
    let same = known_base world v known in
    known_formed world v known (ap (λ (it : Base). is_known_kind it.kind) same ∙ kind) made
    (subst (λ (it : Base). AllByRecursion (λ (row : Item). has_form (shape_of_kind it.kind) row ≡ true) it.rows) (sym same) (rows_form (base_at world (number_under v)).kind (base_at world (number_under v)).rows kind fit))
