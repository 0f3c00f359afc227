use Rattle.std.proofs.Common.{cond, is_some, ◌∷◌, ◌++◌, [], Option, sym, ap, ◌∙◌}
use Rattle.std.specs.Prelude.{Result, Ok, Err, OnErr}
use Rattle.elem.specs.Keyed.{with_value}
use Rattle.linked_base.proofs.HeldRows.{held, still_holds, shows, absent_held, node_held, value_held, replaced_held}
use Rattle.linked_base.proofs.free_linked_map.FreeLinkedMap.put.Goals as goal

pub insert-requires : goal.insert-requires
insert-requires g c = absent_held (held c.self.invariant c.self.view_is) c.args.k (sym c.place_of.ensures ∙ c.in_default.is)

pub returns-in_err-insert-clause-memory : goal.returns-in_err-insert-clause-memory
returns-in_err-insert-clause-memory g c = told c.from_residual.result (absent_held (held c.self.invariant c.self.view_is) c.args.k (sym c.place_of.ensures ∙ c.in_default.is))
  where
    told : {A E P : Type 0} (r : Result A E) → P → OnErr r P
    told (Ok x) p = tt
    told (Err why) p = p

pub returns-in_default-clause-before : goal.returns-in_default-clause-before
returns-in_default-clause-before g c = sym (absent_held (held c.self.invariant c.self.view_is) c.args.k (sym c.place_of.ensures ∙ c.in_default.is))

pub returns-in_default-clause-rows : goal.returns-in_default-clause-rows
returns-in_default-clause-rows g c =
    let absent = absent_held (held c.self.invariant c.self.view_is) c.args.k (sym c.place_of.ensures ∙ c.in_default.is) in
    c.in_ok-insert.ensures.ok ∙ ap (λ (before : Option g.row.V.Denot). cond (is_some before) (with_value c.args.self.now c.args.k c.args.v) (c.args.self.now ++ (c.args.k, c.args.v) ∷ [])) (sym absent)

pub index-requires : goal.index-requires
index-requires g c = node_held (held c.self.invariant c.self.view_is) c.args.k c.in-Some.found (sym c.place_of.ensures ∙ c.in-Some.is)

pub invariant_of-self : goal.invariant_of-self
invariant_of-self g c = still_holds (replaced_held c.self.inside.nodes c.write_row.new.nodes c.self.inside.ends c.self.inside.index c.args.k c.args.v c.in-Some.found (held c.self.invariant c.self.view_is) (sym c.place_of.ensures ∙ c.in-Some.is) c.write_row.ensures)

pub returns-clause-before : goal.returns-clause-before
returns-clause-before g c = sym (value_held (held c.self.invariant c.self.view_is) c.args.k c.in-Some.found c.index.result.now (sym c.place_of.ensures ∙ c.in-Some.is) c.index.ensures)

pub returns-clause-rows : goal.returns-clause-rows
returns-clause-rows g c =
    let h = held c.self.invariant c.self.view_is in
    let at = sym c.place_of.ensures ∙ c.in-Some.is in
    let there = value_held h c.args.k c.in-Some.found c.index.result.now at c.index.ensures in
    shows (replaced_held c.self.inside.nodes c.write_row.new.nodes c.self.inside.ends c.self.inside.index c.args.k c.args.v c.in-Some.found h at c.write_row.ensures)
    ∙ ap (λ (before : Option g.row.V.Denot). cond (is_some before) (with_value c.args.self.now c.args.k c.args.v) (c.args.self.now ++ (c.args.k, c.args.v) ∷ [])) (sym there)
