use Rattle.std.proofs.Common.{refl}
use Rattle.std.specs.List.{IsDistinct}
use Rattle.elem.specs.Elements.{same}
use Rattle.graph_walk.proofs.tests.ring.Goals as goal

pub make_listed-requires : goal.make_listed-requires
unfolding same IsDistinct
make_listed-requires c = record {
  nodes = ((refl, (refl, tt)), ((refl, tt), (tt, tt)));
  ends = ((refl, refl), ((refl, refl), ((refl, refl), tt)));
  edges = ((refl, (refl, tt)), ((refl, tt), (tt, tt)));
}
