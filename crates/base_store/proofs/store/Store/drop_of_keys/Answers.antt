use Rattle.std.proofs.Common.{◌≡◌, true, subst}
use Rattle.vocabulary.specs.declared.items.Side.TheVariants.{First}
use Rattle.vocabulary.specs.Kinds.{shape_of_kind}
use Rattle.vocabulary.specs.Shapes.{is_unique}
use Rattle.machine.specs.Bases.{Base, base_at}
use Rattle.view_steps.specs.KnownLanes.{part_below}
use Rattle.view_steps.specs.KnownViews.{number_under}
use Rattle.base_store.specs.Stored.{view_in}
use Rattle.base_store.proofs.CourseLemmas.{known_leaf}
use Rattle.view_steps.proofs.ComingDown.{part_kept}
use Rattle.view_steps.proofs.KnownLemmas.{known_base}
use Rattle.view_steps.proofs.UniqueParts.{unique_below}
use Rattle.base_store.proofs.ReachLemmas.{hit_of_part, side_of}
use Rattle.base_store.proofs.store.Store.drop_of_keys.Goals as goal

pub drop_reached-requires-clause-reach : goal.drop_reached-requires-clause-reach
drop_reached-requires-clause-reach g c =
    let s = c.args.self.now in
    let v = view_in s c.args.n in
    let known = c.base_of-base.ensures.known in
    let made = c.base_of-base.ensures.made in
    let kind = known_leaf s.world v c.base_of-base.result known c.base_of-base.ensures.base c.base_of-base.ensures.kind in
    let unique = subst (λ (it : Base). is_unique (shape_of_kind it.kind) (part_below v First) ≡ true) (known_base s.world v known) (unique_below s.world v First known kind made c.requires.keyed) in
    rw c.part_below-side.ensures (
      side_of (base_at s.world (number_under v)).kind (part_below v First) unique,
      λ row fits hit.
          hit_of_part s.world v known c.is_lawful.ensures.formed c.is_lawful.ensures.by_row (g.T.RowTest.passes c.args.test.now) row fits hit c.args.keys.now First (part_below v First) (part_kept s.world v First row known kind made c.requires.keyed) c.requires.keys,
    )
