use Rattle.std.proofs.Common.{not, cond, [], ◌∷◌, ◌++◌, sym, ap, ◌∙◌}
use Rattle.std.specs.Prelude.{is_some}
use Rattle.std.specs.Map.{keys_of}
use Rattle.elem.specs.Keyed.{without}
use Rattle.mm_base.proofs.KeyedRowsLemmas.{contains_keys, keys_last, taken_back, not_not, none_of}
use Rattle.mm_base.proofs.linked_keys.add_key.Goals as goal
use Rattle.mm_base.proofs.linked_keys.add_key.Goals.{then-added+in_ok-insert, else-added}

pub returns-clause-answer : goal.returns-clause-answer
returns-clause-answer c =
    sym (ap not (contains_keys c.args.k.now c.args.keys.now ∙ ap is_some (sym c.probe.ensures) ∙ c.is_none-added.ensures) ∙ not_not c.is_none-added.result)

pub returns-clause-keys : goal.returns-clause-keys
returns-clause-keys c =
    let k = c.args.k.now in
    let keys = keys_of c.args.keys.now in
    let there = contains_keys k c.args.keys.now ∙ ap is_some (sym c.probe.ensures) ∙ c.is_none-added.ensures in
    elim c.if-added.branch [
      | then-added+in_ok-insert w ↦
          ap keys_of (w.keys-is ∙ w.in_ok-insert.ensures.ok) ∙ keys_last c.args.keys.now k tt ∙ sym (ap (λ b. cond b keys (keys ++ k ∷ [])) (there ∙ ap not w.if-added.true))
      | else-added w ↦
          ap keys_of w.keys-is ∙ sym (ap (λ b. cond b keys (keys ++ k ∷ [])) (there ∙ ap not w.if-added.false))
    ]

pub returns-clause-back : goal.returns-clause-back
returns-clause-back c =
    let k = c.args.k.now in
    let old = c.args.keys.now in
    elim c.if-added.branch [
      | then-added+in_ok-insert w ↦
          let absent = sym c.probe.ensures ∙ none_of c.probe.result (c.is_none-added.ensures ∙ ap not w.if-added.true) in
          ap (λ b. cond b (without c.if-added.keys k) c.if-added.keys) w.if-added.true ∙ ap (λ es. without es k) (w.keys-is ∙ w.in_ok-insert.ensures.ok) ∙ taken_back old k tt absent
      | else-added w ↦ ap (λ b. cond b (without c.if-added.keys k) c.if-added.keys) w.if-added.false ∙ w.keys-is
    ]
