use Rattle.std.proofs.Common.{[], ◌++◌, sym, ap, ◌∙◌, subst, append-nil}
use Rattle.std.specs.List.{flat_map}
use Rattle.mm_base.proofs.Results.{on_err_of, on_ok_of}
use Rattle.graph_base.specs.EdgeRows.{halves_between}
use Rattle.network_base.specs.Networks.{ends_of}
use Rattle.network_base.specs.NamedEdges.{halves_of, IsRisingBelow}
use Rattle.network_base.proofs.NamedLemmas.{ends_found, none_found, pushed}
use Rattle.network_base.proofs.named_edges.NamedEdges.add.Goals as goal

pub insert-requires : goal.insert-requires
insert-requires c =
    let m = c.self.inside in
    none_found _ (sym (ends_found c.args.x.now m.rows) ∙ ap (ends_of c.args.x.now) c.self.view_is ∙ c.requires)

pub invariant_of-self-then-is_err : goal.invariant_of-self-then-is_err
invariant_of-self-then-is_err c =
    let m = c.self.inside in
    let rows_are = on_err_of c.insert.result (sym c.is_err.ensures.value ∙ c.if-is_err.true) c.insert.ensures.err in
    let both = halves_between c.args.x.now c.args.a.now c.args.b.now c.in_ok-first.first c.in_ok-first.second in
    let halves_are = c.drop_halves.ensures m.halves [] (c.in_ok-first.ensures.ok ∙ ap (λ l. m.halves ++ l) (sym (append-nil both))) ∙ append-nil m.halves in
    record { halves_equal = halves_are ∙ c.self.invariant.halves_equal ∙ ap (flat_map halves_of) (sym rows_are); rising = λ n e. subst (IsRisingBelow n) (sym rows_are) (c.self.invariant.rising n e) }

pub invariant_of-self-2 : goal.invariant_of-self-2
invariant_of-self-2 c =
    let m = c.self.inside in
    let rows_are = on_ok_of c.insert.result (sym c.is_err.ensures.value ∙ c.if-is_err.false) c.insert.ensures.ok in
    pushed m.rows c.insert.new.self m.halves c.add_halves.new.halves c.args.x.now (record { from = c.args.a.now; to = c.args.b.now; first = c.in_ok-first.first; second = c.in_ok-first.second; number = c.number_of.result }) m.next c.number_after-self-inside.result c.self.invariant rows_are c.in_ok-first.ensures.ok c.number_of.ensures c.number_after-self-inside.ensures
