use Rattle.std.proofs.Common.{sym, ◌∙◌, subst}
use Rattle.std.specs.HashMap as hash
use Rattle.elem.specs.Elements.{same}
use Rattle.bimap_base.specs.PairRows.{IsTurned}
use Rattle.bimap_base.proofs.TurnedLemmas.{less_one, turned_same}
use Rattle.bimap_base.proofs.Holders.{removed_key, removed_none}
use Rattle.elem.specs.Keyed.{without}
use Rattle.bimap_base.proofs.pair_rows.PairRows.remove_key.Goals as goal

pub invariant_of-self : goal.invariant_of-self
invariant_of-self g c =
    let none = sym c.in_err-value.ensures.value in
    subst (λ rs. IsTurned rs (hash.get same c.self.inside.keys)) (sym (c.remove.ensures.rows ∙ removed_none c.len-len.ensures.distinct c.self.invariant c.args.k none)) c.self.invariant

pub invariant_of-self-2 : goal.invariant_of-self-2
invariant_of-self-2 g c =
    let v = c.in_ok-value.value in
    let find = hash.get same c.self.inside.keys in
    let found = hash.get same c.take_key.new.keys in
    subst (λ rs. IsTurned rs found) (sym c.remove.ensures.rows)
    (turned_same (without c.self.inside.rows c.args.k) (less_one find v) found c.take_key.ensures.keys (removed_key c.len-len.ensures.distinct c.self.invariant c.args.k v (sym c.in_ok-value.ensures.value)))
