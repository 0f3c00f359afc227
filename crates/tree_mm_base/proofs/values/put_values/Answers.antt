use Rattle.std.proofs.Common.{◌≡◌, true, ◌||◌, sym, ap, ◌∙◌, rules}
use Rattle.std.specs.Prelude.{is_some}
use Rattle.elem.specs.declared.elements.Elem.{Elem}
use Rattle.elem.specs.Elements.{same}
use Rattle.elem.specs.Keyed.{value_at}
use Rattle.elem.specs.Orders.{natural_before}
use Rattle.tree_mm_base.proofs.ValuesLemmas.{has_placed, any_more, already}
use Rattle.tree_mm_base.proofs.values.put_values.Goals as goal
use Rattle.tree_mm_base.proofs.values.put_values.Goals.{then-not-contains+in_ok-insert, else-not-contains}

pub loop-v-preserved : goal.loop-v-preserved
loop-v-preserved c =
    let v = c.v-item.result in
    let more = λ (x : Elem). any_more (same x) c.args.vs.now c.loop-v.v-index v c.loop-v-test.true c.v-item.is in
    elim c.if-not-contains.branch [
      | then-not-contains+in_ok-insert w ↦ λ x. ap (λ rows. is_some (value_at rows x)) (w.tree-is ∙ w.in_ok-insert.ensures.ok) ∙ has_placed natural_before c.loop-v.tree v tt x ∙ ap (λ b. b || same x v) (c.loop-v.invariant x) ∙ sym (more x)
      | else-not-contains w ↦
          let there : c.contains.result ≡ true = first_of (cc, search rules) in
          λ x. ap (λ rows. is_some (value_at rows x)) w.tree-is ∙ c.loop-v.invariant x ∙ already c.loop-v.tree x v _ (sym c.contains.ensures ∙ there) (c.loop-v.invariant x) ∙ sym (more x)
    ]
