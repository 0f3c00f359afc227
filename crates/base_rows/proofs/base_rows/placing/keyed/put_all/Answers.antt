use Rattle.std.proofs.Common.{◌+◌, ◌<◌, inl, List, length, refl, ap, ◌∙◌, arith}
use Rattle.std.specs.Prelude.{fold}
use Rattle.elem.specs.declared.elements.Elem.{Elem}
use Rattle.base_rows.specs.Journals.{all_undone, with_row, with_item}
use Rattle.base_rows.proofs.JournalLemmas.{fold_next, fold_end, journal_back, grown, grows}
use Rattle.base_rows.proofs.base_rows.placing.keyed.put_all.Goals as goal

pub loop-row-init : goal.loop-row-init
loop-row-init g c = record { put = refl; counted = c.in-Ok.ensures.len; reserved = c.in-Ok.ensures.capacity; back = ap (all_undone (g.K.Keyed.rows c.args.rows.now)) c.in-Ok.ensures.items; few = omega arith }

pub returns-in_default-put_value-clause-err : goal.returns-in_default-put_value-clause-err
returns-in_default-put_value-clause-err g c = c.undo_all.ensures ∙ ap (λ (rows : List (Elem × g.row.V.Denot)). all_undone rows c.loop-row.journal.items) c.in_default-put_value.ensures.err ∙ c.loop-row.invariant.back

pub overflow_sub-len : goal.overflow_sub-len
overflow_sub-len g c =
    omega (arith, c.len-size.ensures.len, c.len.ensures.len, grown g.K.Keyed.inserted g.met.K.Keyed.adds_row g.V.RowValue.value_in (g.K.Keyed.rows c.args.rows.now) (g.K.Keyed.rows c.loop-row.rows) (g.K.Keyed.rows c.put_value.new.self) c.args.added.now c.loop-row.row-index c.key_of-k.result c.value.result c.loop-row.invariant.put c.in-Ok-put_value.ensures.ok)

pub returns-then-len-size-clause-err : goal.returns-then-len-size-clause-err
returns-then-len-size-clause-err g c =
    c.undo_all-then-len-size.ensures
    ∙ journal_back g.K.Keyed.inserted g.met.K.Keyed.adds_row (g.K.Keyed.rows c.args.rows.now) (g.K.Keyed.rows c.loop-row.rows) (g.K.Keyed.rows c.put_value.new.self) c.key_of-k.result c.value.result c.in-Ok-put_value.before c.loop-row.journal.items c.push_reserved.new.self.items c.in-Ok-put_value.ensures.ok c.in-Ok-put_value.ensures.before c.loop-row.invariant.back c.push_reserved.ensures.items

pub returns-then-len-size-clause-cause : goal.returns-then-len-size-clause-cause
returns-then-len-size-clause-cause g c =
    let put = c.in-Ok-put_value.ensures.ok ∙ (λ i. with_row g.K.Keyed.inserted (g.K.Keyed.rows c.loop-row.rows) (c.key_of-k.ensures i) (c.value.ensures i)) in
    let so_far = fold_next (with_item g.K.Keyed.inserted g.V.RowValue.value_in) (g.K.Keyed.rows c.args.rows.now) (g.K.Keyed.rows c.loop-row.rows) (g.K.Keyed.rows c.put_value.new.self) c.args.added.now c.loop-row.row-index c.row-item.result c.loop-row.invariant.put c.loop-row-test.true c.row-item.is put in
    let more = grows g.K.Keyed.inserted g.met.K.Keyed.adds_row g.V.RowValue.value_in (g.K.Keyed.rows c.args.rows.now) (g.K.Keyed.rows c.put_value.new.self) c.args.added.now (c.loop-row.row-index + 1) so_far in
    inl (refl, (let n : length (g.K.Keyed.rows c.args.rows.now) + c.args.room < length (fold (with_item g.K.Keyed.inserted g.V.RowValue.value_in) (g.K.Keyed.rows c.args.rows.now) c.args.added.now) = omega (arith, c.len-size.ensures.len, c.len.ensures.len, more, c.if-len-size.true) in n))

pub loop-row-preserved : goal.loop-row-preserved
loop-row-preserved g c =
    let put = c.in-Ok-put_value.ensures.ok ∙ (λ i. with_row g.K.Keyed.inserted (g.K.Keyed.rows c.loop-row.rows) (c.key_of-k.ensures i) (c.value.ensures i)) in
    record {
      put = fold_next (with_item g.K.Keyed.inserted g.V.RowValue.value_in) (g.K.Keyed.rows c.args.rows.now) (g.K.Keyed.rows c.loop-row.rows) (g.K.Keyed.rows c.put_value.new.self) c.args.added.now c.loop-row.row-index c.row-item.result c.loop-row.invariant.put c.loop-row-test.true c.row-item.is put;
      counted = omega (arith, c.push_reserved.ensures.len);
      reserved = omega (arith, c.push_reserved.ensures.capacity);
      back = journal_back g.K.Keyed.inserted g.met.K.Keyed.adds_row (g.K.Keyed.rows c.args.rows.now) (g.K.Keyed.rows c.loop-row.rows) (g.K.Keyed.rows c.put_value.new.self) c.key_of-k.result c.value.result c.in-Ok-put_value.before c.loop-row.journal.items c.push_reserved.new.self.items c.in-Ok-put_value.ensures.ok c.in-Ok-put_value.ensures.before c.loop-row.invariant.back c.push_reserved.ensures.items;
      few = omega (arith, c.len-size.ensures.len, c.len.ensures.len, c.if-len-size.false);
    }

pub returns-clause-ok : goal.returns-clause-ok
returns-clause-ok g c = fold_end (with_item g.K.Keyed.inserted g.V.RowValue.value_in) (g.K.Keyed.rows c.args.rows.now) (g.K.Keyed.rows c.loop-row.rows) c.args.added.now c.loop-row.row-index c.loop-row.invariant.put c.loop-row-test.false

pub returns-clause-few : goal.returns-clause-few
returns-clause-few g c = c.loop-row.invariant.few
