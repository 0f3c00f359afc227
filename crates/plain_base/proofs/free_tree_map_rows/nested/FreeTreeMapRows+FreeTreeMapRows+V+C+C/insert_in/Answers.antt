use Rattle.std.proofs.Common.{subst, ap, ◌∙◌}
use Rattle.std.specs.Option.{option_copied_mut}
use Rattle.elem.specs.Keyed.{IsAbsent}
use Rattle.plain_base.specs.Groups.{rows_in}
use Rattle.plain_base.proofs.OrderLemmas.{found_at}
use Rattle.plain_base.proofs.Results.{on_err}
use Rattle.plain_base.proofs.SortedCuts.{written_back}
use Rattle.plain_base.proofs.free_tree_map_rows.nested.FreeTreeMapRows+FreeTreeMapRows+V+C+C.insert_in.Goals as goal
use Rattle.plain_base.proofs.free_tree_map_rows.nested.FreeTreeMapRows+FreeTreeMapRows+V+C+C.insert_in.Goals.{in-Some, in-None}

pub insert-requires : goal.insert-requires
insert-requires g c =
    let found = found_at g.C.Compare.before c.args.k.now c.new.result c.self.inside.rows.entries c.args.self.now (option_copied_mut c.get_mut.result) c.in-Some.group.now c.get_mut.ensures.value c.new.ensures c.self.view_is (ap option_copied_mut c.in-Some.is) in
    subst (λ o. IsAbsent (rows_in o) c.args.x.now) found c.requires.absent

pub returns-clause-err : goal.returns-clause-err
returns-clause-err g c = elim c.match-get_mut.branch [
  | in-Some w ↦
      let found = found_at g.C.Compare.before c.args.k.now c.new.result c.self.inside.rows.entries c.args.self.now (option_copied_mut c.get_mut.result) w.in-Some.group.now c.get_mut.ensures.value c.new.ensures c.self.view_is (ap option_copied_mut w.in-Some.is) in
      rw (w.result-is, w.self-inside-is) (on_err w.insert.result w.insert.ensures.err (λ e. (c.get_mut.follows.holds w.insert.new.self).0
      ∙ written_back g.C.Compare.before c.args.k.now c.new.result c.self.inside.rows.entries c.args.self.now w.in-Some.group.now w.insert.new.self c.new.ensures c.self.view_is e found))
  | in-None w ↦ rw w.result-is tt
]
