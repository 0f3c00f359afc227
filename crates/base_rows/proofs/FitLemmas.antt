-- The rows of each type are such as its kind has.
use Rattle.std.proofs.Common.{List, [], ◌∷◌, map}
use Rattle.base_rows.specs.declared.base_rows.BaseRows.{BaseRows}
use Rattle.base_rows.specs.declared.base_rows.BaseRows.TheVariants as types
use Rattle.base_rows.specs.BaseRows.{kind_of, rows_of, entry_of, member_of, AreRowsOf, IsRowOf}
use Rattle.vocabulary.specs.declared.items.Item.{Item}
use Rattle.vocabulary.specs.declared.items.Item.TheVariants.{One}
use Rattle.vocabulary.specs.declared.kinds.Kind.{Kind}
use Rattle.vocabulary.specs.declared.kinds.Kind.TheVariants as kind

each_fits : {X : Type 0} (k : Kind) (row : X → Item) → ((x : X) → IsRowOf k (row x)) → (xs : List X) → AreRowsOf k (map row xs)
each_fits k row fits [] = tt
each_fits k row fits (x ∷ xs) = (fits x, each_fits k row fits xs)

pub all_fit : (r : BaseRows) → AreRowsOf (kind_of r) (rows_of r)
all_fit (types.ArrayList rows) = each_fits kind.ArrayList One (λ x. tt {0}) rows
all_fit (types.LinkedHashSet rows) = each_fits kind.LinkedHashSet member_of (λ x. tt {0}) rows
all_fit (types.TreeSet rows) = each_fits kind.TreeSet member_of (λ x. tt {0}) rows
all_fit (types.TreeSetReverse rows) = each_fits kind.TreeSetReverse member_of (λ x. tt {0}) rows
all_fit (types.TreeSetLength rows) = each_fits kind.TreeSetLength member_of (λ x. tt {0}) rows
all_fit (types.LinkedHashMap rows) = each_fits kind.LinkedHashMap entry_of (λ x. tt {0}) rows
all_fit (types.TreeMap rows) = each_fits kind.TreeMap entry_of (λ x. tt {0}) rows
all_fit (types.TreeMapReverse rows) = each_fits kind.TreeMapReverse entry_of (λ x. tt {0}) rows
all_fit (types.TreeMapLength rows) = each_fits kind.TreeMapLength entry_of (λ x. tt {0}) rows
all_fit (types.HashBiMap rows) = each_fits kind.HashBiMap entry_of (λ x. tt {0}) rows
