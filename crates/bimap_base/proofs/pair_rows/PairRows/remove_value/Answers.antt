use Rattle.std.proofs.Common.{sym, ap, ◌∙◌, subst}
use Rattle.std.specs.HashMap as hash
use Rattle.elem.specs.Elements.{same}
use Rattle.elem.specs.Keyed.{without}
use Rattle.bimap_base.specs.Pairs.{turned}
use Rattle.bimap_base.specs.PairRows.{IsTurned, without_some}
use Rattle.bimap_base.proofs.TurnedLemmas.{less_one, turned_same, gone_turned}
use Rattle.bimap_base.proofs.Holders.{removed_value}
use Rattle.bimap_base.proofs.pair_rows.PairRows.remove_value.Goals as goal

pub invariant_of-self : goal.invariant_of-self
invariant_of-self g c =
    let v = c.args.v in
    let find = hash.get same c.self.inside.keys in
    let found = hash.get same c.take_key.new.keys in
    subst (λ rs. IsTurned rs found) (sym c.let_go.ensures.rows) (turned_same (without_some (find v) c.self.inside.rows) (less_one find v) found c.take_key.ensures.keys (gone_turned c.len-len.ensures.distinct c.self.invariant v))

pub returns-clause-rows : goal.returns-clause-rows
returns-clause-rows g c =
    let v = c.args.v in
    ap turned c.let_go.ensures.rows ∙ removed_value c.len-len.ensures.distinct c.self.invariant v ∙ ap (λ rs. without (turned rs) v) c.self.view_is
