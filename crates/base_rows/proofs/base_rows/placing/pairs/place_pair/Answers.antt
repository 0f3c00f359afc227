use Rattle.std.proofs.Common.{Err, sym, ap, ◌∙◌}
use Rattle.bimap_base.specs.declared.bi_fault.BiFault.{BiFault}
use Rattle.base_rows.proofs.PairPuts.{own_put, own_refused, own_taken, own_told, swapped_put, swapped_refused, swapped_taken, swapped_told}
use Rattle.base_rows.proofs.base_rows.placing.pairs.place_pair.Goals as goal

pub returns-in-Ok-clause-ok : goal.returns-in-Ok-clause-ok
returns-in-Ok-clause-ok g c = own_put c.args.spot c.args.row.now c.requires.fits c.key_of-k.result c.value_of-v.result c.key_of-k.ensures c.value_of-v.ensures c.args.rows.now c.len-len.ensures.keys c.len-len.ensures.values c.in-Own.is c.put.new.self c.in-Ok.ensures.rows

pub returns-in-Ok-clause-taken : goal.returns-in-Ok-clause-taken
returns-in-Ok-clause-taken g c = own_taken c.args.spot c.args.row.now c.requires.fits c.key_of-k.result c.value_of-v.result c.key_of-k.ensures c.value_of-v.ensures c.args.rows.now c.len-len.ensures.keys c.len-len.ensures.values c.in-Own.is (λ b. (let f = sym c.in-Ok.is ∙ c.put.ensures.bound.1 b in absurd (cc)))

pub returns-in-Ok-clause-structural : goal.returns-in-Ok-clause-structural
returns-in-Ok-clause-structural g c = c.changes.ensures ∙ own_told c.args.spot c.args.row.now c.requires.fits c.key_of-k.result c.value_of-v.result c.key_of-k.ensures c.value_of-v.ensures c.args.rows.now c.len-len.ensures.keys c.len-len.ensures.values c.in-Own.is c.put.new.self c.in-Ok.before c.in-Ok.ensures.rows c.in-Ok.ensures.answer

pub returns-in-Ok-flip_put-clause-ok : goal.returns-in-Ok-flip_put-clause-ok
returns-in-Ok-flip_put-clause-ok g c = swapped_put c.args.spot c.args.row.now c.requires.fits c.key_of-k.result c.value_of-v.result c.key_of-k.ensures c.value_of-v.ensures c.args.rows.now c.len-len.ensures.keys c.len-len.ensures.values c.in-Swapped.is c.flip_put.new.self c.in-Ok-flip_put.ensures.rows

pub returns-in-Ok-flip_put-clause-taken : goal.returns-in-Ok-flip_put-clause-taken
returns-in-Ok-flip_put-clause-taken g c = swapped_taken c.args.spot c.args.row.now c.requires.fits c.key_of-k.result c.value_of-v.result c.key_of-k.ensures c.value_of-v.ensures c.args.rows.now c.len-len.ensures.keys c.len-len.ensures.values c.in-Swapped.is (λ b. (let f = sym c.in-Ok-flip_put.is ∙ c.flip_put.ensures.bound.1 b in absurd (cc)))

pub returns-in-Ok-flip_put-clause-structural : goal.returns-in-Ok-flip_put-clause-structural
returns-in-Ok-flip_put-clause-structural g c = c.changes-in-Ok-flip_put.ensures ∙ swapped_told c.args.spot c.args.row.now c.requires.fits c.key_of-k.result c.value_of-v.result c.key_of-k.ensures c.value_of-v.ensures c.args.rows.now c.len-len.ensures.keys c.len-len.ensures.values c.in-Swapped.is c.flip_put.new.self c.in-Ok-flip_put.before c.in-Ok-flip_put.ensures.rows c.in-Ok-flip_put.ensures.answer

pub returns-in-Err-Bound-clause-cause : goal.returns-in-Err-Bound-clause-cause
returns-in-Err-Bound-clause-cause g c = own_refused c.args.spot c.args.row.now c.requires.fits c.key_of-k.result c.value_of-v.result c.key_of-k.ensures c.value_of-v.ensures c.args.rows.now c.len-len.ensures.keys c.len-len.ensures.values c.in-Own.is (c.put.ensures.bound.0 (c.in-Err-Bound.is ∙ ap (λ (why : BiFault). Err why) c.in-Err-Bound.field-0-is))

pub returns-in-Err-NoMemory-clause-cause : goal.returns-in-Err-NoMemory-clause-cause
returns-in-Err-NoMemory-clause-cause g c = (own_taken c.args.spot c.args.row.now c.requires.fits c.key_of-k.result c.value_of-v.result c.key_of-k.ensures c.value_of-v.ensures c.args.rows.now c.len-len.ensures.keys c.len-len.ensures.values c.in-Own.is (λ b. (let f = sym c.in-Err-NoMemory.is ∙ c.put.ensures.bound.1 b in absurd (cc))), λ other. absurd (cc))

pub returns-in-Err-Bound-flip_put-clause-cause : goal.returns-in-Err-Bound-flip_put-clause-cause
returns-in-Err-Bound-flip_put-clause-cause g c = swapped_refused c.args.spot c.args.row.now c.requires.fits c.key_of-k.result c.value_of-v.result c.key_of-k.ensures c.value_of-v.ensures c.args.rows.now c.len-len.ensures.keys c.len-len.ensures.values c.in-Swapped.is (c.flip_put.ensures.bound.0 (c.in-Err-Bound-flip_put.is ∙ ap (λ (why : BiFault). Err why) c.in-Err-Bound-flip_put.field-0-is))

pub returns-in-Err-NoMemory-flip_put-clause-cause : goal.returns-in-Err-NoMemory-flip_put-clause-cause
returns-in-Err-NoMemory-flip_put-clause-cause g c = (swapped_taken c.args.spot c.args.row.now c.requires.fits c.key_of-k.result c.value_of-v.result c.key_of-k.ensures c.value_of-v.ensures c.args.rows.now c.len-len.ensures.keys c.len-len.ensures.values c.in-Swapped.is (λ b. (let f = sym c.in-Err-NoMemory-flip_put.is ∙ c.flip_put.ensures.bound.1 b in absurd (cc))), λ other. absurd (cc))
