use Rattle.std.proofs.Common.{◌<◌, sym, ap, ◌∙◌, subst}
use Rattle.mm_base.specs.PairRows.{count_of}
use Rattle.mm_base.specs.KeyedRows.{KeyedRows}
use Rattle.mm_base.specs.Moving.{key_last}
use Rattle.mm_base.proofs.KeyedRowsLemmas.{key_present}
use Rattle.mm_base.proofs.MovingLemmas.{keys_moved, key_moved_linked}
use Rattle.mm_base.proofs.linked_pairs.LinkedPairs.key_to_end.Goals as goal

pub to_end-requires : goal.to_end-requires
to_end-requires g c = key_present c.self.inside.pairs c.self.inside.keys c.args.k c.self.invariant.linked (subst (λ (x : KeyedRows). 0 < count_of c.args.k x.rows) (sym c.self.view_is) c.requires)

pub invariant_of-self : goal.invariant_of-self
invariant_of-self g c =
    let m = c.self.inside in
    let some = subst (λ (x : KeyedRows). 0 < count_of c.args.k x.rows) (sym c.self.view_is) c.requires in
    record { linked = key_moved_linked c.args.k tt m.pairs m.keys c.to_end.new.self c.self.invariant.linked c.to_end.ensures.rows some c.len-len.ensures.distinct; found = c.self.invariant.found }

pub returns-clause-keys : goal.returns-clause-keys
returns-clause-keys g c =
    let m = c.self.inside in
    keys_moved c.args.k tt m.pairs m.keys c.to_end.new.self c.self.invariant.linked c.to_end.ensures.rows ∙ ap (λ (x : KeyedRows). key_last c.args.k x.keys) c.self.view_is
