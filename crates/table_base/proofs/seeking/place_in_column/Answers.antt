use Rattle.std.proofs.Common.{◌∙◌, sym}
use Rattle.table_base.proofs.ColumnPlaces.{none_ahead, neighbour_behind, node_ahead}
use Rattle.table_base.proofs.seeking.place_in_column.Goals as goal

pub returns-in_default : goal.returns-in_default
returns-in_default c us vs all e t few g = none_ahead c.args.nodes.now c.args.c.now vs c.args.from e c.in_default.is

pub returns-in_default-get : goal.returns-in_default-get
returns-in_default-get c us vs all e t few g = absurd (node_ahead c.args.nodes.now all us vs t c.args.from c.in-Some.place e c.in-Some.is (sym c.in_default-get.ensures))

pub returns : goal.returns
returns c us vs all e t few g =
    c.next_of_column.ensures us vs all (sym c.in-Some.is ∙ e) (neighbour_behind c.args.nodes.now all us vs t c.args.from c.in-Some.place e c.in-Some.is c.in-Some-get.node.now (sym c.in-Some-get.ensures)) t few g
