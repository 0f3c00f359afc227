use Rattle.std.proofs.Common.{◌+◌, refl, sym, ◌∙◌, subst, arith}
use Rattle.mm_base.proofs.PairRowsLemmas.{nth_is_live}
use Rattle.mm_base.proofs.MovingLemmas.{IsFewer, fewer_on, fewer_more, fewer_done}
use Rattle.mm_base.proofs.free_flat_pairs.FreeFlatPairs.remove_first.Goals as goal
use Rattle.mm_base.proofs.free_flat_pairs.FreeFlatPairs.remove_first.Goals.{in-Some, in_default}

pub loop-step-init : goal.loop-step-init
loop-step-init c front back e n = record { left = front; rows = e; others = refl; count_left = omega arith }

pub loop-step-preserved : goal.loop-step-preserved
loop-step-preserved c front back e n =
    let k = c.args.k.now in
    let h = c.loop-step.invariant front back e n in
    elim c.match-place_at.branch [
      | in-Some w ↦
          let found = sym c.place_at.ensures.place ∙ w.in-Some.is in
          subst (λ rs. IsFewer k front back rs (c.loop-step._step + 1) c.args.count) (sym (w.self-is ∙ w.remove_at.ensures)) (fewer_on k front back c.loop-step.self c.loop-step._step c.args.count h w.in-Some.place found c.loop-step-test.true c.place_at.ensures.distinct)
      | in_default w ↦
          absurd (fewer_more k front back c.loop-step.self c.loop-step._step c.args.count h (sym c.place_at.ensures.place ∙ w.in_default.is) c.loop-step-test.true)
    ]

pub remove_at-requires : goal.remove_at-requires
remove_at-requires c = nth_is_live c.args.k.now c.loop-step.self 0 c.in-Some.place (sym c.place_at.ensures.place ∙ c.in-Some.is)

pub returns : goal.returns
returns c front back e n = let done = c.loop-step-test.false in fewer_done c.args.k.now front back c.loop-step.self c.loop-step._step c.args.count (c.loop-step.invariant front back e n) (omega arith)
