use Rattle.std.proofs.Common.{sym, ◌∙◌, arith}
use Rattle.std.specs.HashMap as hash
use Rattle.mm_base.specs.KeyValues.{same_pair}
use Rattle.mm_base.specs.PairRows.{pair_of}
use Rattle.mm_base.proofs.PairRowsLemmas.{nth_is_live}
use Rattle.mm_base.proofs.FoundPairs.{naming_starts, naming_on, after_live}
use Rattle.mm_base.proofs.pair_places.name_pairs.Goals as goal

pub loop-step-init : goal.loop-step-init
loop-step-init c =
    let k = c.args.k.now in
    let now = c.args.pairs.now in
    let count = c.count_of-count.ensures in
    let room = c.requires in
    record {
      naming = λ front added e none all d f. naming_starts k front added now e all d none c.place_at-at.result c.place_at-at.ensures.place (hash.get same_pair c.args.places.now) f;
      live = λ p e. nth_is_live k now 0 p (sym c.place_at-at.ensures.place ∙ e);
      room = omega arith;
    }

pub pair_at-key-requires : goal.pair_at-key-requires
pair_at-key-requires c = c.loop-step.invariant.live c.in-Some.place c.in-Some.is

pub loop-step-preserved : goal.loop-step-preserved
loop-step-preserved c =
    let k = c.args.k.now in
    let now = c.args.pairs.now in
    let h = c.loop-step.invariant in
    let p = c.in-Some.place in
    let room = h.room in
    let used = c.write_pair_place.ensures.spare in
    record {
      naming = λ front added e none all d f. naming_on k front added now e all d c.loop-step._step c.loop-step.at (hash.get same_pair c.loop-step.places) (h.naming front added e none all d f) p c.in-Some.is c.pair_at-key.ensures.distinct c.pair_at-key.result c.pair_at-key.ensures.pair c.next_in_key-at.result c.next_in_key-at.ensures.place (hash.get same_pair c.write_pair_place.new.places) c.write_pair_place.ensures.updates;
      live = λ q e. after_live (pair_of now p) p now q (sym c.next_in_key-at.ensures.place ∙ e);
      room = omega arith;
    }
