use Rattle.std.proofs.Common.{rules, ◌≡◌, ◌-◌, length, take, refl, arith}
use Rattle.discrete_set.specs.declared.run.Run.{Run}
use Rattle.discrete_set.proofs.KeptLaws.{last_place, set-place, counted-extended, units-extended, next_start-push}
use Rattle.discrete_set.proofs.run.extend_last.Goals as goal

pub returns : goal.returns
returns c =
    let items = c.args.runs.now.items in
    let n = c.len-end.result in
    let old = c.index_mut.result.now in
    let new : Run = record { first = old.first; last = c.args.last; before = old.before } in
    let e : n ≡ length items = search rules in
    let last = last_place items n old c.requires.counted e c.requires.some c.index_mut.ensures.value in
    let set = set-place items n new e c.requires.some in record {
      counted = rw (set) (counted-extended items old new last refl refl c.requires.after (omega arith));
      after = rw (set) (next_start-push 0 (take (length items - 1) items) new);
      units = rw (set) (units-extended items old new last refl c.requires.after);
    }
