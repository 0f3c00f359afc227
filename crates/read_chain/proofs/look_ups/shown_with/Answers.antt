use Rattle.std.proofs.Common.{◌∙◌, ap, cond, map, Bool, Some, None}
use Rattle.std.specs.Prelude.{filter}
use Rattle.std.specs.Option.{option_to_list}
use Rattle.base_store.specs.Stored.{view_in}
use Rattle.read_chain.specs.LookUps.{has_part}
use Rattle.view_laws.specs.Places.{found_in}
use Rattle.machine.specs.Views.{candidates}
use Rattle.read_chain.proofs.LookUpLemmas.{shown_of_one}
use Rattle.read_chain.proofs.WalkLemmas.{shown_found}
use Rattle.read_chain.proofs.look_ups.shown_with.Goals as goal

pub returns-then-there-clause-item : goal.returns-then-there-clause-item
returns-then-there-clause-item g c =
    let s = c.args.store.now in
    let cs = candidates s.world (view_in s c.args.n) in
    ap (filter (has_part c.args.side c.args.x.now)) (shown_found cs)
    ∙ shown_of_one (has_part c.args.side c.args.x.now) (map found_in cs) (Some c.in-Some.there.found) c.in-Some.ensures.found
    ∙ ap (λ (b : Bool). option_to_list (cond b (Some c.in-Some.there.found.item) None)) c.if-there.true

pub returns-else-there-clause-item : goal.returns-else-there-clause-item
returns-else-there-clause-item g c =
    let s = c.args.store.now in
    let cs = candidates s.world (view_in s c.args.n) in
    ap (filter (has_part c.args.side c.args.x.now)) (shown_found cs)
    ∙ shown_of_one (has_part c.args.side c.args.x.now) (map found_in cs) (Some c.in-Some.there.found) c.in-Some.ensures.found
    ∙ ap (λ (b : Bool). option_to_list (cond b (Some c.in-Some.there.found.item) None)) c.if-there.false

pub returns-in-None-clause-item : goal.returns-in-None-clause-item
returns-in-None-clause-item g c =
    let s = c.args.store.now in
    let cs = candidates s.world (view_in s c.args.n) in
    ap (filter (has_part c.args.side c.args.x.now)) (shown_found cs)
    ∙ shown_of_one (has_part c.args.side c.args.x.now) (map found_in cs) None c.in-None.ensures.found
