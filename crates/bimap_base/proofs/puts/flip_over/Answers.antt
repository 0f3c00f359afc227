use Rattle.std.proofs.Common.{sym, ap, ◌∙◌, cond, Some, subst, refl}
use Rattle.std.specs.Prelude.{IsSome}
use Rattle.std.specs.HashMap as hash
use Rattle.elem.specs.Elements.{same}
use Rattle.elem.specs.Keyed.{value_at, IsPresent, without}
use Rattle.linked_base.specs.Moving.{put_before}
use Rattle.bimap_base.specs.Pairs.{turned}
use Rattle.bimap_base.specs.PairRows.{IsTurned, without_some}
use Rattle.bimap_base.proofs.PutSteps.{revalued, holder_left, flipped_over, flipped_turned}
use Rattle.bimap_base.proofs.puts.flip_over.Goals as goal

pub move_before-requires-clause-key : goal.move_before-requires-clause-key
move_before-requires-clause-key c =
    let k = c.args.k.now in
    let v = c.args.v.now in
    let own = revalued c.len-len.ensures.distinct c.requires.turned k v c.replace-old.result c.replace-old.ensures.value c.requires.new in
    subst IsSome (sym (ap (λ rs. value_at rs k) c.replace-old.ensures.rows ∙ own)) refl

pub move_before-requires-clause-next : goal.move_before-requires-clause-next
move_before-requires-clause-next c x e =
    let k = c.args.k.now in
    let v = c.args.v.now in
    subst (λ rs. IsPresent (without rs k) x) (sym c.replace-old.ensures.rows) (holder_left c.len-len.ensures.distinct c.requires.turned k v c.replace-old.result c.replace-old.ensures.value c.requires.new x (sym c.key_of-before.ensures ∙ e))

pub returns-clause-rows : goal.returns-clause-rows
returns-clause-rows c =
    let k = c.args.k.now in
    let v = c.args.v.now in
    let o = hash.get same c.args.keys.now v in
    let rows = c.replace-old.ensures.rows in
    let own = revalued c.len-len.ensures.distinct c.requires.turned k v c.replace-old.result c.replace-old.ensures.value c.requires.new in
    let moved = c.move_before.ensures v (ap (λ rs. value_at rs k) rows ∙ own) ∙ ap (λ b. put_before b (k, v) (without c.replace-old.new.self k)) c.key_of-before.ensures ∙ ap (λ rs. put_before o (k, v) (without rs k)) rows in
    ap turned (c.let_go.ensures.rows ∙ ap (without_some o) moved) ∙ flipped_over c.len-len.ensures.distinct c.requires.turned k v c.replace-old.result c.replace-old.ensures.value c.requires.new

pub returns-clause-turned : goal.returns-clause-turned
returns-clause-turned c =
    let k = c.args.k.now in
    let v = c.args.v.now in
    let o = hash.get same c.args.keys.now v in
    let rows = c.replace-old.ensures.rows in
    let own = revalued c.len-len.ensures.distinct c.requires.turned k v c.replace-old.result c.replace-old.ensures.value c.requires.new in
    let moved = c.move_before.ensures v (ap (λ rs. value_at rs k) rows ∙ own) ∙ ap (λ b. put_before b (k, v) (without c.replace-old.new.self k)) c.key_of-before.ensures ∙ ap (λ rs. put_before o (k, v) (without rs k)) rows in
    let found = hash.get same c.write_key.new.keys in
    subst (λ rs. IsTurned rs found) (sym (c.let_go.ensures.rows ∙ ap (without_some o) moved))
    (flipped_turned c.len-len.ensures.distinct c.requires.turned k v c.replace-old.result c.replace-old.ensures.value c.requires.new found (λ q. c.write_key.ensures q ∙ ap (cond (same v q) (Some k)) (c.take_key.ensures.keys q)))
