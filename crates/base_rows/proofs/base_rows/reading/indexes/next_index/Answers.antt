use Rattle.std.proofs.Common.{sym, ◌∙◌, arith}
use Rattle.std.proofs.lemmas.List.{length-map}
use Rattle.vocabulary.specs.declared.items.Item.TheVariants.{One}
use Rattle.base_rows.specs.BaseRows.{items}
use Rattle.base_rows.proofs.IndexLines.{index_within, follows_at_first, index_before, no_index_before, index_after, no_index_after}
use Rattle.base_rows.proofs.base_rows.reading.indexes.next_index.Goals as goal

pub returns-in-None : goal.returns-in-None
returns-in-None c =
    let rows = items c.args.rows.now in
    follows_at_first rows c.args.back c.args.from c.first_index.result c.in-None.is (c.first_index.ensures rows (length-map c.args.rows.now One ∙ sym c.len-len.ensures))

pub returns-then-i-eq0 : goal.returns-then-i-eq0
returns-then-i-eq0 c = no_index_before (items c.args.rows.now) c.args.back c.args.from c.in-Some.i c.in-Some.is c.if-back.true c.if-i-eq0.true

pub returns-else-i-eq0 : goal.returns-else-i-eq0
returns-else-i-eq0 c = index_before (items c.args.rows.now) c.args.back c.args.from c.in-Some.i c.in-Some.is c.if-back.true (omega arith)

pub overflow_add-i : goal.overflow_add-i
overflow_add-i c =
    let within = index_within (items c.args.rows.now) c.args.back c.args.from c.in-Some.i c.requires c.in-Some.is in
    omega (arith, length-map c.args.rows.now One, c.len-len.ensures, within)

pub returns-then-i-len : goal.returns-then-i-len
returns-then-i-len c = index_after (items c.args.rows.now) c.args.back c.args.from c.in-Some.i c.in-Some.is c.if-back.false (omega (arith, length-map c.args.rows.now One, c.len-len.ensures))

pub returns-else-i-len : goal.returns-else-i-len
returns-else-i-len c = no_index_after (items c.args.rows.now) c.args.back c.args.from c.in-Some.i c.in-Some.is c.if-back.false (omega (arith, length-map c.args.rows.now One, c.len-len.ensures))
