use Rattle.std.proofs.Common.{◌≡◌, ℕ, ◌<◌, sym, ◌∙◌, ap, subst, arith, length}
use Rattle.base_store.specs.Stored.{view_in}
use Rattle.read_chain.specs.Reads.{StandsAt}
use Rattle.view_laws.specs.declared.places.RowSpot.TheVariants.{Index}
use Rattle.view_laws.specs.ViewPlaces.{place_of}
use Rattle.machine.specs.CallEdits.{hit_at}
use Rattle.view_steps.specs.Indexes as spec
use Rattle.machine.specs.Leaves.{leaf_at}
use Rattle.machine.specs.Views.{base_under, candidates}
use Rattle.read_chain.proofs.ListViewLemmas.{item_stands}
use Rattle.read_chain.proofs.indexes.place_of_item.Goals as goal
use Rattle.read_chain.proofs.UnderLemmas.{few_items, size_under}
use Rattle.view_steps.proofs.CountLemmas.{few_shown}

pub item_index-requires-clause-index : goal.item_index-requires-clause-index
item_index-requires-clause-index c =
    let s = c.args.store.now in
    omega (arith, few_items s.world (view_in s c.args.n) c.base_of.result c.base_of.ensures.known c.base_of.ensures.base, c.len-size.ensures.len, c.requires.index)

pub returns : goal.returns
returns c =
    let s = c.args.store.now in
    let v = view_in s c.args.n in
    let known = c.base_of.ensures.known in
    let size : c.len-size.result ≡ length (leaf_at s.world (base_under v)).rows = c.len-size.ensures.len ∙ sym (size_under s.world v c.base_of.result known c.base_of.ensures.base) in
    let index : c.item_index.result ≡ spec.item_index v (length (leaf_at s.world (base_under v)).rows) c.args.i = c.item_index.ensures.index ∙ ap (λ (m : ℕ). spec.item_index v m c.args.i) size in
    let lt : c.args.i < length (leaf_at s.world (base_under v)).rows = omega (arith, few_shown s.world v known, c.requires.index) in
    rw (c.at_spot.ensures) (subst (λ (k : ℕ). StandsAt s.world v (place_of (Index k)) (hit_at c.args.i (candidates s.world v))) (sym index)
    (item_stands s.world v c.args.i known c.is_lawful.ensures.by_row c.is_lawful.ensures.tell c.base_of.ensures.made c.requires.list lt))
