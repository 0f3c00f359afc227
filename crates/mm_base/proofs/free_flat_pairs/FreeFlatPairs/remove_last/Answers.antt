use Rattle.std.proofs.Common.{◌≡◌, ◌++◌, length, sym, ap, ◌∙◌, subst, arith, append-nil, None}
use Rattle.std.specs.Map.{remove_entry}
use Rattle.std.specs.Prelude.{nat_eq}
use Rattle.elem.specs.Rows.{last_key}
use Rattle.mm_base.specs.PairRows.{HasDistinctIds}
use Rattle.mm_base.proofs.ReplacingLemmas.{fewer_added, some_last, last_is_live, no_left}
use Rattle.mm_base.proofs.free_flat_pairs.FreeFlatPairs.remove_last.Goals as goal
use Rattle.mm_base.proofs.free_flat_pairs.FreeFlatPairs.remove_last.Goals.{in-Some, in_default}

pub loop-step-init : goal.loop-step-init
loop-step-init c xs added e l = (added, e, omega arith)

pub loop-step-preserved : goal.loop-step-preserved
loop-step-preserved c xs added e l =
    let h = c.loop-step.invariant xs added e l in
    elim c.match-last_place.branch [
      | in-Some w ↦
          let last = ap last_key (sym h.1) ∙ sym c.last_place.ensures.place ∙ w.in-Some.is in
          fewer_added xs h.0 c.match-last_place.self w.in-Some.place c.loop-step._step c.args.count last (subst HasDistinctIds h.1 c.last_place.ensures.distinct) (w.self-is ∙ w.remove_at.ensures ∙ ap (λ rs. remove_entry (nat_eq w.in-Some.place) rs) h.1) h.2 c.loop-step-test.true
      | in_default w ↦
          let none = some_last xs h.0 (ap last_key (sym h.1) ∙ sym c.last_place.ensures.place ∙ w.in_default.is) in
          let total = h.2 in
          let bound = c.loop-step-test.true in
          absurd (omega arith)
    ]

pub remove_at-requires : goal.remove_at-requires
remove_at-requires c = last_is_live None c.loop-step.self c.in-Some.place (λ e. cc) (sym c.last_place.ensures.place ∙ c.in-Some.is)

pub returns : goal.returns
returns c xs added e l =
    let h = c.loop-step.invariant xs added e l in
    let total = h.2 in
    let done = c.loop-step-test.false in
    let none : length h.0 ≡ 0 = omega arith in
    h.1 ∙ ap (λ l. xs ++ l) (no_left h.0 none) ∙ append-nil xs
