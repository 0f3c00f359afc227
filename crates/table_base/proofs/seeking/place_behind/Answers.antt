use Rattle.std.proofs.Common.{None, sym, subst}
use Rattle.table_base.specs.CellNodes.{IsSpotFor}
use Rattle.table_base.proofs.SideReads.{loose_spot, new_spot, no_node, spot_behind}
use Rattle.table_base.proofs.seeking.place_behind.Goals as goal

pub returns-then-loose : goal.returns-then-loose
returns-then-loose c ps all r t h = subst (λ b. IsSpotFor c.args.nodes.now b r ps None) (sym c.if-loose.true) (loose_spot c.args.nodes.now r ps)

pub returns-in_default : goal.returns-in_default
returns-in_default c ps all r t h = subst (λ b. IsSpotFor c.args.nodes.now b r ps None) (sym c.if-loose.false) (new_spot c.args.nodes.now r ps all c.args.in_row.now t h c.in_default.is)

pub returns-in_default-get : goal.returns-in_default-get
returns-in_default-get c ps all r t h = absurd (no_node c.args.nodes.now r ps all c.args.in_row.now t h c.in-Some.place c.in-Some.is (sym c.in_default-get.ensures))

pub returns : goal.returns
returns c ps all r t h =
    subst (λ b. IsSpotFor c.args.nodes.now b r ps c.in-Some-get.node.now.all.next) (sym c.if-loose.false)
    (spot_behind c.args.nodes.now r ps all c.args.in_row.now t h c.in-Some.place c.in-Some.is c.in-Some-get.node.now (sym c.in-Some-get.ensures))
