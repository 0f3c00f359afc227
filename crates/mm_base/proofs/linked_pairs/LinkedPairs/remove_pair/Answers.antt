use Rattle.std.proofs.Common.{sym, ap, ◌∙◌, subst}
use Rattle.mm_base.specs.KeyedRows.{KeyedRows, keys_with_rows}
use Rattle.mm_base.proofs.KeyedRowsLemmas.{IsLess, less_keys, less_linked, less_pair}
use Rattle.mm_base.proofs.linked_pairs.LinkedPairs.remove_pair.Goals as goal

pub invariant_of-self : goal.invariant_of-self
invariant_of-self g c =
    let m = c.self.inside in
    let k = c.args.k in
    let less = subst (IsLess k m.pairs) (sym c.remove_found-removed.ensures.rows) (less_pair k c.args.v m.pairs c.len-len.ensures.distinct) in
    record { linked = less_linked m.pairs c.remove_found-removed.new.pairs k m.keys c.settle_key.new.keys less c.self.invariant.linked c.settle_key.ensures.rows c.settle_key.ensures.distinct; found = c.remove_found-removed.ensures.found }

pub returns-clause-keys : goal.returns-clause-keys
returns-clause-keys g c =
    let m = c.self.inside in
    let k = c.args.k in
    let less = subst (IsLess k m.pairs) (sym c.remove_found-removed.ensures.rows) (less_pair k c.args.v m.pairs c.len-len.ensures.distinct) in
    less_keys m.pairs c.remove_found-removed.new.pairs k m.keys c.settle_key.new.keys less c.self.invariant.linked c.settle_key.ensures.rows ∙ ap (λ (x : KeyedRows). keys_with_rows c.remove_found-removed.new.pairs x.keys) c.self.view_is
