use Rattle.std.proofs.Common.{◌+◌, ◌≤◌, ◌++◌, sym, ap, ◌∙◌, subst, arith}
use Rattle.std.specs.HashMap as hash
use Rattle.std.specs.HashMap.{spare}
use Rattle.mm_base.specs.KeyValues.{same_pair}
use Rattle.mm_base.specs.PairPlaces.{FindsPairs}
use Rattle.mm_base.proofs.PairRowsLemmas.{nth_is_live}
use Rattle.mm_base.proofs.FoundPairs.{IsForgetting, forget_on, forget_more, forgotten}
use Rattle.mm_base.proofs.pair_places.remove_first_pairs.Goals as goal
use Rattle.mm_base.proofs.pair_places.remove_first_pairs.Goals.{in-Some, in_default}

pub pair_at-key-requires : goal.pair_at-key-requires
pair_at-key-requires c = nth_is_live c.args.k.now c.loop-step.pairs 0 c.in-Some.place (sym c.place_at.ensures.place ∙ c.in-Some.is)

pub loop-step-preserved : goal.loop-step-preserved
loop-step-preserved c =
    let k = c.args.k.now in
    let n = c.loop-step._step in
    let count = c.args.count in
    let now = c.loop-step.pairs in
    let find = hash.get same_pair c.args.places.now in
    let found = hash.get same_pair c.loop-step.places in
    let room = c.loop-step.invariant.room in
    record {
      going = λ front back e m.
          let h = c.loop-step.invariant.going front back e m in
          elim c.match-place_at.branch [
            | in-Some w ↦
                let p = w.in-Some.place in
                let on = forget_on k front back now n count find found h p (sym c.place_at.ensures.place ∙ w.in-Some.is) c.loop-step-test.true c.place_at.ensures.distinct w.pair_at-key.result w.pair_at-key.ensures.pair (hash.get same_pair w.forget_pair_place.new.places) w.forget_pair_place.ensures.updates in
                subst (λ ps. IsForgetting k front back c.match-place_at.pairs (n + 1) count find (hash.get same_pair ps)) (sym w.places-is)
                (subst (λ rs. IsForgetting k front back rs (n + 1) count find (hash.get same_pair w.forget_pair_place.new.places)) (sym (w.pairs-is ∙ w.remove_at.ensures)) on)
            | in_default w ↦
                absurd (forget_more k front back now n count find found h (sym c.place_at.ensures.place ∙ w.in_default.is) c.loop-step-test.true)
          ];
      room = elim c.match-place_at.branch [
        | in-Some w ↦
            let more = w.forget_pair_place.ensures.spare in
            let all : spare c.args.places.now ≤ spare w.forget_pair_place.new.places = omega arith in
            subst (λ ps. spare c.args.places.now ≤ spare ps) (sym w.places-is) all
        | in_default w ↦ subst (λ ps. spare c.args.places.now ≤ spare ps) (sym w.places-is) room
      ];
    }

pub returns-clause-rows : goal.returns-clause-rows
returns-clause-rows c front back e m =
    let h = c.loop-step.invariant.going front back e m in
    let done = c.loop-step-test.false in
    h.rows ∙ ap (λ l. l ++ back) (forgotten c.args.k.now front back c.loop-step.pairs c.loop-step._step c.args.count (hash.get same_pair c.args.places.now) (hash.get same_pair c.loop-step.places) h (omega arith))

pub returns-clause-found : goal.returns-clause-found
returns-clause-found c front back e m d f =
    let h = c.loop-step.invariant.going front back e m in
    let done = c.loop-step-test.false in
    let found = hash.get same_pair c.loop-step.places in
    subst (λ rs. FindsPairs rs found) (forgotten c.args.k.now front back c.loop-step.pairs c.loop-step._step c.args.count (hash.get same_pair c.args.places.now) found h (omega arith)) (h.finds d f).1
