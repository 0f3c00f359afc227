use Rattle.std.proofs.Common.{sym, ap, ◌∙◌, subst}
use Rattle.mm_base.specs.KeyedRows.{KeyedRows, keys_with_rows}
use Rattle.mm_base.proofs.KeyedRowsLemmas.{IsLess, less_keys, less_linked, less_key}
use Rattle.mm_base.proofs.linked_pairs.LinkedPairs.remove_key.Goals as goal

pub invariant_of-self : goal.invariant_of-self
invariant_of-self g c =
    let m = c.self.inside in
    let k = c.args.k in
    let less = subst (IsLess k m.pairs) (sym c.remove_key_pairs-count.ensures.rows) (less_key k m.pairs) in
    record { linked = less_linked m.pairs c.remove_key_pairs-count.new.pairs k m.keys c.settle_key.new.keys less c.self.invariant.linked c.settle_key.ensures.rows c.settle_key.ensures.distinct; found = c.remove_key_pairs-count.ensures.found }

pub returns-clause-keys : goal.returns-clause-keys
returns-clause-keys g c =
    let m = c.self.inside in
    let k = c.args.k in
    let less = subst (IsLess k m.pairs) (sym c.remove_key_pairs-count.ensures.rows) (less_key k m.pairs) in
    less_keys m.pairs c.remove_key_pairs-count.new.pairs k m.keys c.settle_key.new.keys less c.self.invariant.linked c.settle_key.ensures.rows ∙ ap (λ (x : KeyedRows). keys_with_rows c.remove_key_pairs-count.new.pairs x.keys) c.self.view_is
