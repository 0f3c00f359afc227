use Rattle.std.proofs.Common.{◌≡◌, ◌++◌, length, refl, sym, ap, subst, arith}
use Rattle.mm_base.specs.PairRows.{without_key}
use Rattle.mm_base.proofs.ReplacingLemmas.{IsRemoving, took, one_less, all_removed, emptied, next_is_live}
use Rattle.mm_base.proofs.free_flat_pairs.FreeFlatPairs.remove_from.Goals as goal

pub loop-step-init : goal.loop-step-init
loop-step-init c = record {
  removing = λ front back h. record { front = front; back = back; cut = h.0; start = h.1; rows = refl };
  count = omega arith;
}

pub next_in_key-at-requires : goal.next_in_key-at-requires
next_in_key-at-requires c =
    let h = c.loop-step.invariant.removing c.requires.0 c.requires.1 c.requires.2 in
    next_is_live c.args.k.now h.front h.back c.loop-step.self c.loop-step.at c.in-Some.place h.cut h.start c.in-Some.is

pub remove_at-requires : goal.remove_at-requires
remove_at-requires c =
    let h = c.loop-step.invariant.removing c.requires.0 c.requires.1 c.requires.2 in
    next_is_live c.args.k.now h.front h.back c.loop-step.self c.loop-step.at c.in-Some.place h.cut h.start c.in-Some.is

pub loop-step-preserved : goal.loop-step-preserved
loop-step-preserved c =
    let k = c.args.k.now in
    let p = c.in-Some.place in
    let d = c.next_in_key-at.ensures.distinct in
    let whole = c.remove_at.ensures in
    let first = c.loop-step.invariant.removing c.requires.0 c.requires.1 c.requires.2 in
    let less = one_less k (c.requires.0 ++ without_key k c.requires.1) c.loop-step.self c.loop-step.at p first c.in-Some.is d in
    let len = ap length whole in
    let before = c.loop-step.invariant.count in
    record {
      removing = λ front back h.
          subst (λ rs. IsRemoving k (front ++ without_key k back) rs c.next_in_key-at.result) (sym whole)
          (took k (front ++ without_key k back) c.loop-step.self c.loop-step.at p (c.loop-step.invariant.removing front back h) c.in-Some.is d c.next_in_key-at.result c.next_in_key-at.ensures.place);
      count = omega arith;
    }

pub returns : goal.returns
returns c front back h =
    let before = c.loop-step.invariant.count in
    let len = c.len-step-end.ensures.len in
    let done = c.loop-step-test.false in
    let none : length c.loop-step.self ≡ 0 = omega arith in
    emptied c.args.k.now (front ++ without_key c.args.k.now back) c.loop-step.self c.loop-step.at (c.loop-step.invariant.removing front back h) none

pub returns-in_default : goal.returns-in_default
returns-in_default c front back h = all_removed c.args.k.now (front ++ without_key c.args.k.now back) c.loop-step.self c.loop-step.at (c.loop-step.invariant.removing front back h) c.in_default.is
