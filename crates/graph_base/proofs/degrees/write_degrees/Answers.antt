use Rattle.std.proofs.Common.{ap, ◌∙◌}
use Rattle.std.specs.Map.{keys_of}
use Rattle.elem.specs.Keyed.{value_at}
use Rattle.graph_base.proofs.NodesLemmas.{written_keys, written_finds}
use Rattle.graph_base.proofs.degrees.write_degrees.Goals as goal

pub returns-clause-keys : goal.returns-clause-keys
returns-clause-keys c = ap keys_of c.replace.ensures.rows ∙ written_keys c.args.nodes.now c.args.a.now (record { leaving = c.args.leaving; entering = c.args.entering })

pub returns-clause-found : goal.returns-clause-found
returns-clause-found c x = ap (λ rows. value_at rows x) c.replace.ensures.rows ∙ written_finds c.args.nodes.now c.args.a.now (record { leaving = c.args.leaving; entering = c.args.entering }) c.requires x
