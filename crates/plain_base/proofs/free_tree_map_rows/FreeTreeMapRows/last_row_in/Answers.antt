use Rattle.std.proofs.Common.{inl, inr, refl}
use Rattle.std.specs.Option.{option_map}
use Rattle.elem.specs.Rows.{last_key}
use Rattle.plain_base.proofs.WindowLemmas.{window_none, window_some, window_is_forward}
use Rattle.plain_base.proofs.free_tree_map_rows.FreeTreeMapRows.last_row_in.Goals as goal
use Rattle.plain_base.proofs.free_tree_map_rows.FreeTreeMapRows.last_row_in.Goals.{then-same_cut-via-then-same_cut, then-same_cut-via-else-same_cut+then-same_cut-2}

pub returns-then-same_cut-clause-key : goal.returns-then-same_cut-clause-key
returns-then-same_cut-clause-key g c = elim c.then-same_cut.branch [
  | then-same_cut-via-then-same_cut w ↦ window_none g.met.C.Compare.strict last_key refl c.args.w.now.lo c.args.w.now.hi c.args.self.now (inl (c.same_cut.ensures.exact.0 w.if-same_cut.true))
  | then-same_cut-via-else-same_cut+then-same_cut-2 w ↦ window_none g.met.C.Compare.strict last_key refl c.args.w.now.lo c.args.w.now.hi c.args.self.now (inr (w.same_cut-else-same_cut.ensures.exact.0 w.if-same_cut-2.true))
]

pub last_row_between-requires : goal.last_row_between-requires
last_row_between-requires g c = rw (c.lower_bound.ensures, c.upper_bound.ensures) (window_is_forward g.met.C.Compare.strict c.args.w.now.lo c.args.w.now.hi c.requires)

pub returns-clause-key : goal.returns-clause-key
returns-clause-key g c = window_some g.met.C.Compare.strict last_key c.args.w.now.lo c.args.w.now.hi (option_map (λ row. row.0) c.last_row_between.result) c.lower_bound.result c.upper_bound.result c.self.inside.rows.entries c.args.self.now
    c.last_row_between.ensures.key c.lower_bound.ensures c.upper_bound.ensures c.self.view_is
    (λ e. let t = c.same_cut.ensures.exact.1 e in let f = c.if-same_cut.false in cc)
    (λ e. let t = c.same_cut-else-same_cut.ensures.exact.1 e in let f = c.if-same_cut-2.false in cc)
