use Rattle.std.proofs.Common.{◌+◌, ◌<◌, ◌≤◌, sym, ap, ◌∙◌, subst, arith}
use Rattle.std.specs.HashMap as hash
use Rattle.elem.specs.Elements.{same}
use Rattle.linked_base.specs.declared.group.Group.{Group}
use Rattle.mm_base.specs.PairRows.{count_of}
use Rattle.mm_base.proofs.HeldPairs.{held, count_held}
use Rattle.mm_base.proofs.PairRowsLemmas.{nth_is_live}
use Rattle.mm_base.proofs.MovingLemmas.{IsMoving, moving_starts, moving_on, moving_more, moving_done}
use Rattle.mm_base.proofs.free_flat_pairs.FreeFlatPairs.key_to_end.Goals as goal
use Rattle.mm_base.proofs.free_flat_pairs.FreeFlatPairs.key_to_end.Goals.{in-Some, in_default}

pub loop-step-init : goal.loop-step-init
loop-step-init c = moving_starts c.args.k.now c.args.self.now

pub loop-step-preserved : goal.loop-step-preserved
loop-step-preserved c =
    let find = hash.get same c.self.inside.groups in
    let k = c.args.k.now in
    let count = ap (λ (g : Group). g.count) c.group_of-count.ensures ∙ count_held find (held find c.self.invariant c.self.view_is) k in
    let more = c.loop-step-test.true in
    let fewer : c.loop-step._step < count_of k c.args.self.now = omega arith in
    elim c.match-place_at.branch [
      | in-Some w ↦
          let e = sym c.place_at.ensures.place ∙ w.in-Some.is in
          subst (λ rs. IsMoving k c.args.self.now rs (c.loop-step._step + 1)) (sym (w.self-is ∙ w.to_end.ensures)) (moving_on k c.args.self.now c.loop-step.self c.loop-step._step c.loop-step.invariant w.in-Some.place e fewer c.place_at.ensures.distinct)
      | in_default w ↦
          absurd (moving_more k c.args.self.now c.loop-step.self c.loop-step._step c.loop-step.invariant (sym c.place_at.ensures.place ∙ w.in_default.is) fewer)
    ]

pub to_end-requires : goal.to_end-requires
to_end-requires c = nth_is_live c.args.k.now c.loop-step.self 0 c.in-Some.place (sym c.place_at.ensures.place ∙ c.in-Some.is)

pub returns : goal.returns
returns c =
    let find = hash.get same c.self.inside.groups in
    let k = c.args.k.now in
    let count = ap (λ (g : Group). g.count) c.group_of-count.ensures ∙ count_held find (held find c.self.invariant c.self.view_is) k in
    let done = c.loop-step-test.false in
    let all : count_of k c.args.self.now ≤ c.loop-step._step = omega arith in
    moving_done k c.args.self.now c.loop-step.self c.loop-step._step c.loop-step.invariant all
