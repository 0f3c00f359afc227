use Rattle.std.proofs.Common.{not}
use Rattle.std.proofs.lemmas.List.Filters.{FiltersInPlace}
use Rattle.vocabulary.specs.declared.items.Item.TheVariants.{One}
use Rattle.base_rows.proofs.base_rows.dropping.listed.keep_front.Given as goal

abbrev pub invariant-loop-i : goal.invariant-loop-i
invariant-loop-i g l = FiltersInPlace (λ x. not (g.T.RowTest.passes l.test (One x))) l.fn.rows l.rows l.kept l.i
