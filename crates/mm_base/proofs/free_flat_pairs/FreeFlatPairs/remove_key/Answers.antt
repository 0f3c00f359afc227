use Rattle.std.proofs.Common.{◌≡◌, refl, sym, ap, ◌∙◌, arith}
use Rattle.std.specs.HashMap as hash
use Rattle.elem.specs.Elements.{same}
use Rattle.linked_base.specs.declared.group.Group.{Group}
use Rattle.mm_base.specs.PairRows.{count_of, without_key}
use Rattle.mm_base.proofs.HeldPairs.{held, count_held}
use Rattle.mm_base.proofs.PairRowsLemmas.{nth_is_live, others_stay, one_fewer, no_id, none_left}
use Rattle.mm_base.proofs.free_flat_pairs.FreeFlatPairs.remove_key.Goals as goal
use Rattle.mm_base.proofs.free_flat_pairs.FreeFlatPairs.remove_key.Goals.{in-Some, in_default}

pub loop-step-init : goal.loop-step-init
loop-step-init c =
    let find = hash.get same c.self.inside.groups in
    let count = ap (λ (g : Group). g.count) c.group_of-count.ensures ∙ count_held find (held find c.self.invariant c.self.view_is) c.args.k in
    record { others = refl; fewer = omega arith }

pub loop-step-preserved : goal.loop-step-preserved
loop-step-preserved c =
    elim c.match-place_at.branch [
      | in-Some w ↦
          let e = sym c.place_at.ensures.place ∙ w.in-Some.is in
          let d = c.place_at.ensures.distinct in
          let whole = w.self-is ∙ w.remove_at.ensures in
          let fewer = ap (count_of c.args.k) whole in
          let one = one_fewer c.args.k c.loop-step.self 0 w.in-Some.place e d in
          let before = c.loop-step.invariant.fewer in
          record { others = ap (without_key c.args.k) whole ∙ others_stay c.args.k c.loop-step.self 0 w.in-Some.place e d ∙ c.loop-step.invariant.others; fewer = omega arith }
      | in_default w ↦
          let none = no_id c.args.k c.loop-step.self (sym c.place_at.ensures.place ∙ w.in_default.is) in
          let before = c.loop-step.invariant.fewer in
          absurd (omega arith)
    ]

pub remove_at-requires : goal.remove_at-requires
remove_at-requires c = nth_is_live c.args.k c.loop-step.self 0 c.in-Some.place (sym c.place_at.ensures.place ∙ c.in-Some.is)

pub returns-clause-answer : goal.returns-clause-answer
returns-clause-answer c =
    let find = hash.get same c.self.inside.groups in
    ap (λ (g : Group). g.count) c.group_of-count.ensures ∙ count_held find (held find c.self.invariant c.self.view_is) c.args.k

pub returns-clause-rows : goal.returns-clause-rows
returns-clause-rows c =
    let before = c.loop-step.invariant.fewer in
    let none : count_of c.args.k c.loop-step.self ≡ 0 = omega arith in
    sym (none_left c.args.k c.loop-step.self none) ∙ c.loop-step.invariant.others
