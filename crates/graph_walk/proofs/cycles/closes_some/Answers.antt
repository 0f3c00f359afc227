use Rattle.std.proofs.Common.{◌≡◌, ◌+◌, ◌<◌, ◌≤◌, inl, inr, suc, [], ◌∷◌, length, drop, refl, ap, sym, ◌∙◌, subst, arith, add-one}
use Rattle.std.proofs.Math.Seq.{drop-cons}
use Rattle.std.proofs.lemmas.List.{drop_all}
use Rattle.std.proofs.lemmas.List.Sums.{sum_by-cons}
use Rattle.std.proofs.lemmas.Bool.{both_ways}
use Rattle.graph_walk.specs.Graphs.{nexts}
use Rattle.graph_walk.specs.Late.{Closes, ClosesSome}
use Rattle.graph_walk.specs.Paths.{calls}
use Rattle.graph_walk.proofs.cycles.closes_some.Goals as goal

pub returns-then-closes-clause-closes : goal.returns-then-closes-clause-closes
returns-then-closes-clause-closes g c =
    let next = nexts (g.W.Walkable.graph c.args.g.now) in
    let list = c.args.list.now in
    let i = c.loop-x.x-index in
    let x = c.x-item.result in
    let d = c.directed-directed.result in
    let l : i < length list = omega arith in
    let unrolled : drop i list ≡ x ∷ drop (i + 1) list = drop-cons list i x l ∙ ap (λ y. y ∷ drop (suc i) list) (sym c.x-item.is) ∙ ap (λ n. x ∷ drop n list) (sym (add-one i)) in
    let closes : Closes next d c.loop-x.before x = c.if-closes.ensures.closes.0 refl in
    (λ k. subst (λ b. ClosesSome next b [] list) c.directed-directed.ensures.answer (c.loop-x.invariant.forth (subst (λ ys. ClosesSome next d c.loop-x.before ys) (sym unrolled) (inl closes))), λ k. refl)

pub loop-x-preserved : goal.loop-x-preserved
loop-x-preserved g c =
    let next = nexts (g.W.Walkable.graph c.args.g.now) in
    let list = c.args.list.now in
    let i = c.loop-x.x-index in
    let x = c.x-item.result in
    let d = c.directed-directed.result in
    let before = c.loop-x.before in
    let l : i < length list = omega arith in
    let unrolled : drop i list ≡ x ∷ drop (i + 1) list = drop-cons list i x l ∙ ap (λ y. y ∷ drop (suc i) list) (sym c.x-item.is) ∙ ap (λ n. x ∷ drop n list) (sym (add-one i)) in
    let counted : calls next (drop i list) ≡ 1 + length (next x) + calls next (drop (i + 1) list) = ap (calls next) unrolled ∙ sum_by-cons (λ y. 1 + length (next y)) x (drop (i + 1) list) in
    let made : c.closes.new.steps ≤ c.loop-x.steps + 1 + length (next x) = c.closes.ensures.steps in record {
      forth = λ k. c.loop-x.invariant.forth (subst (λ ys. ClosesSome next d before ys) (sym unrolled) (inr (subst (λ b. ClosesSome next d b (drop (i + 1) list)) c.in_ok-put.ensures.list k)));
      back = λ k. elim (subst (λ ys. ClosesSome next d before ys) unrolled (c.loop-x.invariant.back k)) [
        | inl h ↦ absurd (both_ways _ refl (c.if-closes.ensures.closes.1 h))
        | inr h ↦ subst (λ b. ClosesSome next d b (drop (i + 1) list)) (sym c.in_ok-put.ensures.list) h
      ];
      steps = omega arith;
    }

pub returns-clause-closes : goal.returns-clause-closes
returns-clause-closes g c =
    let next = nexts (g.W.Walkable.graph c.args.g.now) in
    let list = c.args.list.now in
    let i = c.loop-x.x-index in
    let d = c.directed-directed.result in
    let l : length list ≤ i = omega arith in
    let ended : drop i list ≡ [] = drop_all i list l in
    (λ k. absurd (both_ways _ refl k), λ k. absurd (subst (λ ys. ClosesSome next d c.loop-x.before ys) ended (c.loop-x.invariant.back (subst (λ b. ClosesSome next b [] list) (sym c.directed-directed.ensures.answer) k))))
