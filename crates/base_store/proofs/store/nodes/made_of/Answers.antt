use Rattle.std.proofs.Common.{◌∙◌, ap}
use Rattle.std.specs.Prelude.{Some}
use Rattle.base_store.specs.declared.store.kept.KeptMade.{KeptMade}
use Rattle.base_store.specs.KeptSteps.{made_by, made_in}
use Rattle.base_store.proofs.KeptLemmas.{node_stands, read_map}
use Rattle.base_store.proofs.store.nodes.made_of.Goals as goal

pub lent_step-requires : goal.lent_step-requires
lent_step-requires c = rw c.in-Over.is at (node_stands c.args.from c.args.parts.now c.args.nodes.now c.args.n c.index-nodes-n.result c.requires.within c.index-nodes-n.is c.requires.stand)

pub returns-in-Base : goal.returns-in-Base
returns-in-Base c =
    read_map (made_in c.args.from c.args.parts.now) c.args.nodes.now c.args.n c.index-nodes-n.result c.requires.within c.index-nodes-n.is ∙ ap (λ (it : KeptMade). Some (made_by c.args.from c.args.parts.now it)) c.in-Base.is

pub returns-in-Over : goal.returns-in-Over
returns-in-Over c =
    rw c.lent_step.ensures
    (read_map (made_in c.args.from c.args.parts.now) c.args.nodes.now c.args.n c.index-nodes-n.result c.requires.within c.index-nodes-n.is ∙ ap (λ (it : KeptMade). Some (made_by c.args.from c.args.parts.now it)) c.in-Over.is)
