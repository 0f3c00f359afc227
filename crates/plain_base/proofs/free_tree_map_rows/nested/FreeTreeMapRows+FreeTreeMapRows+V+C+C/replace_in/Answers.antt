use Rattle.std.proofs.Common.{subst, ap}
use Rattle.std.specs.Option.{option_copied_mut}
use Rattle.elem.specs.Keyed.{IsPresent}
use Rattle.plain_base.specs.Groups.{rows_in}
use Rattle.plain_base.proofs.OrderLemmas.{found_at}
use Rattle.plain_base.proofs.free_tree_map_rows.nested.FreeTreeMapRows+FreeTreeMapRows+V+C+C.replace_in.Goals as goal

pub replace-requires : goal.replace-requires
replace-requires g c =
    let found = found_at g.C.Compare.before c.args.k.now c.new.result c.self.inside.rows.entries c.args.self.now (option_copied_mut c.get_mut.result) c.in-Some.group.now c.get_mut.ensures.value c.new.ensures c.self.view_is (ap option_copied_mut c.in-Some.is) in
    subst (λ o. IsPresent (rows_in o) c.args.x.now) found c.requires.there
