use Rattle.std.proofs.Common.{◌≡◌, ℕ, ◌<◌, true, sym, ◌∙◌, ap, arith, length, subst, Some}
use Rattle.std.specs.Prelude.{option_map}
use Rattle.std.proofs.lemmas.Option.{slice_get_past}
use Rattle.base_store.specs.Stored.{view_in}
use Rattle.read_chain.specs.Reads.{shown_in}
use Rattle.read_chain.specs.Walks.{item_there}
use Rattle.base_store.specs.Courses.{spots_in}
use Rattle.view_laws.specs.declared.places.RowSpot.TheVariants.{Index}
use Rattle.view_laws.specs.Following.{IsFrom}
use Rattle.view_laws.specs.declared.places.Place.{Place}
use Rattle.view_laws.specs.ViewPlaces.{place_of, places, show}
use Rattle.view_steps.specs.Indexes as spec
use Rattle.machine.specs.Bases.{World, base_at}
use Rattle.machine.specs.Leaves.{leaf_at}
use Rattle.machine.specs.Views.{View, base_under}
use Rattle.view_steps.specs.KnownViews.{is_known_view, number_under}
use Rattle.read_chain.proofs.ListViewLemmas.{index_stands, item_at_place}
use Rattle.read_chain.proofs.reads.item_at.Goals as goal
use Rattle.read_chain.proofs.UnderLemmas.{few_items, size_under}

-- the index of an item, by the size of the base under a view
index_is : (world : World) (v : View) (b size i index : ℕ) → is_known_view v ≡ true → b ≡ number_under v → size ≡ length (base_at world b).rows → index ≡ spec.item_index v size i → index ≡ spec.item_index v (length (leaf_at world (base_under v)).rows) i
index_is world v b size i index known at count is = is ∙ ap (λ (m : ℕ). spec.item_index v m i) (count ∙ sym (size_under world v b known at))

pub returns-then-i-size : goal.returns-then-i-size
returns-then-i-size g c =
    let s = c.args.store.now in
    sym (slice_get_past (shown_in s c.args.n) c.args.i (omega (arith, few_items s.world (view_in s c.args.n) c.base_of.result c.base_of.ensures.known c.base_of.ensures.base, c.len-size.ensures.len)))

pub found_at-requires-clause-place : goal.found_at-requires-clause-place
found_at-requires-clause-place g c =
    let s = c.args.store.now in
    let v = view_in s c.args.n in
    let lt : c.args.i < length (leaf_at s.world (base_under v)).rows = omega (arith, size_under s.world v c.base_of.result c.base_of.ensures.known c.base_of.ensures.base, c.len-size.ensures.len) in
    let index = index_is s.world v c.base_of.result c.len-size.result c.args.i c.item_index.result c.base_of.ensures.known c.base_of.ensures.base c.len-size.ensures.len c.item_index.ensures.index in
    subst (λ (p : Place). IsFrom (places s.world (spots_in s.world) v) (Some p)) (sym (c.at_spot-at.ensures ∙ ap (λ (k : ℕ). place_of (Index k)) index))
    (c.args.i, index_stands s.world v c.args.i c.base_of.ensures.known c.is_lawful.ensures.by_row c.is_lawful.ensures.tell c.base_of.ensures.made c.requires.list lt)

pub returns-in-Some : goal.returns-in-Some
returns-in-Some g c =
    let s = c.args.store.now in
    let v = view_in s c.args.n in
    let lt : c.args.i < length (leaf_at s.world (base_under v)).rows = omega (arith, size_under s.world v c.base_of.result c.base_of.ensures.known c.base_of.ensures.base, c.len-size.ensures.len) in
    let index = index_is s.world v c.base_of.result c.len-size.result c.args.i c.item_index.result c.base_of.ensures.known c.base_of.ensures.base c.len-size.ensures.len c.item_index.ensures.index in
    ap (option_map item_there) (c.in-Some.ensures.found ∙ ap (show s.world (spots_in s.world) v) (c.at_spot-at.ensures ∙ ap (λ (k : ℕ). place_of (Index k)) index))
    ∙ sym (item_at_place s.world v c.args.i c.base_of.ensures.known c.is_lawful.ensures.by_row c.is_lawful.ensures.tell c.base_of.ensures.made c.requires.list lt)

pub returns-in-None : goal.returns-in-None
returns-in-None g c =
    let s = c.args.store.now in
    let v = view_in s c.args.n in
    let lt : c.args.i < length (leaf_at s.world (base_under v)).rows = omega (arith, size_under s.world v c.base_of.result c.base_of.ensures.known c.base_of.ensures.base, c.len-size.ensures.len) in
    let index = index_is s.world v c.base_of.result c.len-size.result c.args.i c.item_index.result c.base_of.ensures.known c.base_of.ensures.base c.len-size.ensures.len c.item_index.ensures.index in
    ap (option_map item_there) (c.in-None.ensures.found ∙ ap (show s.world (spots_in s.world) v) (c.at_spot-at.ensures ∙ ap (λ (k : ℕ). place_of (Index k)) index))
    ∙ sym (item_at_place s.world v c.args.i c.base_of.ensures.known c.is_lawful.ensures.by_row c.is_lawful.ensures.tell c.base_of.ensures.made c.requires.list lt)
