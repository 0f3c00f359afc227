use Rattle.std.proofs.Common.{Vec, Global, cond, not, ◌∷◌, [], ◌++◌, take, sym, ap, ◌∙◌}
use Rattle.elem.specs.declared.elements.Elem.{Elem}
use Rattle.mm_base.specs.KeyedRows.{contains, with_key}
use Rattle.mm_base.specs.Exchanging.{each_once}
use Rattle.mm_base.proofs.ReplacingLemmas.{take_value}
use Rattle.mm_base.proofs.ExchangingLemmas.{each_last, new_value, old_value}
use Rattle.mm_base.proofs.distinct_values.distinct_values.Goals as goal
use Rattle.mm_base.proofs.distinct_values.distinct_values.Goals.{else-added-via-then-added+else-is_err, else-added-via-else-added}

pub loop-n-preserved : goal.loop-n-preserved
loop-n-preserved c =
    let vs = c.args.vs.now in
    let n = c.loop-n._n in
    let v = c.index-vs-n.result in
    let before = each_once (take n vs) in
    let grown = ap each_once (take_value vs n v c.loop-n-test.true c.index-vs-n.is) ∙ each_last (take n vs) v in
    let answer = c.in_ok-added.ensures.answer ∙ ap (λ keys. not (contains v keys)) c.loop-n.invariant.seen_are in
    record {
      seen_are = c.in_ok-added.ensures.keys ∙ ap (with_key v) c.loop-n.invariant.seen_are ∙ sym grown;
      values_are = elim c.else-added.branch [
        | else-added-via-then-added+else-is_err w ↦ ap (λ (l : Vec Elem Global). l.items) w.values-is ∙ w.push.ensures.items ∙ ap (λ b. cond b (c.loop-n.values.items ++ v ∷ []) c.loop-n.values.items) (w.is_err.ensures.negation ∙ ap not w.if-is_err.false) ∙ ap (λ l. l ++ v ∷ []) c.loop-n.invariant.values_are ∙ sym (new_value v before c.in_ok-added.added answer w.if-added.true) ∙ sym grown
        | else-added-via-else-added w ↦ ap (λ (l : Vec Elem Global). l.items) w.values-is ∙ c.loop-n.invariant.values_are ∙ sym (old_value v before c.in_ok-added.added answer w.if-added.false) ∙ sym grown
      ];
    }
