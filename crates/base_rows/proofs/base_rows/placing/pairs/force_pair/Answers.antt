use Rattle.std.proofs.Common.{◌∙◌}
use Rattle.base_rows.specs.BaseRows.{entries}
use Rattle.base_rows.proofs.PairPuts.{forced_taken, own_forced, own_force_told, swapped_forced, swapped_force_told}
use Rattle.base_rows.proofs.base_rows.placing.pairs.force_pair.Goals as goal

pub returns-in-Ok-clause-ok : goal.returns-in-Ok-clause-ok
returns-in-Ok-clause-ok g c = own_forced c.args.spot c.args.row.now c.requires.fits c.key_of-k.result c.value_of-v.result c.key_of-k.ensures c.value_of-v.ensures c.args.rows.now c.len-len.ensures.keys c.len-len.ensures.values c.in-Own.is c.force_put.new.self c.in-Ok.ensures.rows

pub returns-in-Ok-clause-taken : goal.returns-in-Ok-clause-taken
returns-in-Ok-clause-taken g c = forced_taken c.args.spot (entries c.args.rows.now) c.args.row.now

pub returns-in-Ok-clause-structural : goal.returns-in-Ok-clause-structural
returns-in-Ok-clause-structural g c = c.changes.ensures ∙ own_force_told c.args.spot c.args.row.now c.requires.fits c.key_of-k.result c.value_of-v.result c.key_of-k.ensures c.value_of-v.ensures c.args.rows.now c.len-len.ensures.keys c.len-len.ensures.values c.in-Own.is c.force_put.new.self c.in-Ok.before c.in-Ok.ensures.rows c.in-Ok.ensures.answer

pub returns-in-Err-clause-taken : goal.returns-in-Err-clause-taken
returns-in-Err-clause-taken g c = forced_taken c.args.spot (entries c.args.rows.now) c.args.row.now

pub returns-in-Ok-flip_force_put-clause-ok : goal.returns-in-Ok-flip_force_put-clause-ok
returns-in-Ok-flip_force_put-clause-ok g c = swapped_forced c.args.spot c.args.row.now c.requires.fits c.key_of-k.result c.value_of-v.result c.key_of-k.ensures c.value_of-v.ensures c.args.rows.now c.len-len.ensures.keys c.len-len.ensures.values c.in-Swapped.is c.flip_force_put.new.self c.in-Ok-flip_force_put.ensures.rows

pub returns-in-Ok-flip_force_put-clause-taken : goal.returns-in-Ok-flip_force_put-clause-taken
returns-in-Ok-flip_force_put-clause-taken g c = forced_taken c.args.spot (entries c.args.rows.now) c.args.row.now

pub returns-in-Ok-flip_force_put-clause-structural : goal.returns-in-Ok-flip_force_put-clause-structural
returns-in-Ok-flip_force_put-clause-structural g c = c.changes-in-Ok-flip_force_put.ensures ∙ swapped_force_told c.args.spot c.args.row.now c.requires.fits c.key_of-k.result c.value_of-v.result c.key_of-k.ensures c.value_of-v.ensures c.args.rows.now c.len-len.ensures.keys c.len-len.ensures.values c.in-Swapped.is c.flip_force_put.new.self c.in-Ok-flip_force_put.before c.in-Ok-flip_force_put.ensures.rows c.in-Ok-flip_force_put.ensures.answer

pub returns-in-Err-flip_force_put-clause-taken : goal.returns-in-Err-flip_force_put-clause-taken
returns-in-Err-flip_force_put-clause-taken g c = forced_taken c.args.spot (entries c.args.rows.now) c.args.row.now
