use Rattle.std.proofs.Common.{sym, ◌∙◌, ap, arith, length}
use Rattle.base_store.specs.Stored.{view_in}
use Rattle.read_chain.proofs.UnderLemmas.{few_items, size_under}
use Rattle.read_chain.proofs.WalkLemmas.{all_shown}
use Rattle.read_chain.proofs.reads.size.Goals as goal

pub overflow_add-count : goal.overflow_add-count
overflow_add-count g c =
    let s = c.args.store.now in
    omega (arith, few_items s.world (view_in s c.args.n) c.base_of.result c.base_of.ensures.known c.base_of.ensures.base, ap length c.in-Some.ensures.item, c.len-rows.ensures.len, c.len-rows.ensures.few, c.loop-item.invariant.counted)

pub returns-then-shows_all : goal.returns-then-shows_all
returns-then-shows_all g c =
    let s = c.args.store.now in
    c.len-rows.ensures.len ∙ sym (size_under s.world (view_in s c.args.n) c.base_of.result c.base_of.ensures.known c.base_of.ensures.base) ∙ sym (all_shown s.world (view_in s c.args.n) c.base_of.ensures.known (sym c.shows_all.ensures ∙ c.if-shows_all.true))
