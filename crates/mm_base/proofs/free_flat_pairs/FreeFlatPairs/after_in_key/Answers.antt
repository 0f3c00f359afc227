use Rattle.std.proofs.Common.{sym, ap, ◌∙◌, subst}
use Rattle.std.specs.Prelude.{nat_eq}
use Rattle.elem.specs.Rows.{key_after}
use Rattle.mm_base.specs.PairRows.{IsLive, pair_of, rows_beside}
use Rattle.mm_base.proofs.free_flat_pairs.FreeFlatPairs.after_in_key.Goals as goal

pub next_in_key-requires : goal.next_in_key-requires
next_in_key-requires c = subst (IsLive c.args.self.now) (sym c.place_of.ensures) c.requires

pub returns : goal.returns
returns c = c.some_id.ensures ∙ c.next_in_key.ensures.place ∙ ap (λ x. key_after (nat_eq x) (rows_beside (pair_of c.args.self.now x) c.args.self.now)) c.place_of.ensures
