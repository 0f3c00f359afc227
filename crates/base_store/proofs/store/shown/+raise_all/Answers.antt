use Rattle.std.proofs.Common.{cond, arith, sym, ap, ◌∙◌}
use Rattle.std.specs.Prelude.{Some, None}
use Rattle.view_steps.specs.Founds.{found_above}
use Rattle.base_store.proofs.ShownLemmas.{found_base, found_none, found_some, known_parts}
use Rattle.base_store.proofs.store.shown.+raise_all.Goals as goal

pub raise_all-requires : goal.raise_all-requires
raise_all-requires t c =
    let nodes = c.args.nodes.now.made in
    let is = c.made.ensures ∙ ap Some c.in-Over.is in
    let less = c.requires.below c.args.n c.in-Over.parent c.in-Over.step is in
    let known = known_parts nodes c.args.n c.in-Over.parent c.in-Over.step c.requires.below is c.requires.known in
    (omega (arith, less), (omega (arith, less, c.requires.within), (c.requires.below, (known.1, c.requires.row))))

pub returns-in-Base-clause-some : goal.returns-in-Base-clause-some
returns-in-Base-clause-some t c = λ _.
    found_base c.args.nodes.now.made c.args.n c.in-Base.field-0 c.args.found.now.item c.requires.below (c.made.ensures ∙ ap Some c.in-Base.is)
    ∙ ap (λ seen. Some (record { item = c.args.found.now.item; seen = seen })) (sym c.requires.row)

pub returns-then-not-raise_all-clause-none : goal.returns-then-not-raise_all-clause-none
returns-then-not-raise_all-clause-none t c = λ _.
    let nodes = c.args.nodes.now.made in
    let is = c.made.ensures ∙ ap Some c.in-Over.is in
    let known = known_parts nodes c.args.n c.in-Over.parent c.in-Over.step c.requires.below is c.requires.known in
    found_none nodes c.args.n c.in-Over.parent c.in-Over.step c.args.found.now.item c.requires.below known.0 is (c.raise_all.ensures.none c.if-not-raise_all.true)

pub returns-then-left_out-clause-none : goal.returns-then-left_out-clause-none
returns-then-left_out-clause-none t c = λ _.
    let nodes = c.args.nodes.now.made in
    let is = c.made.ensures ∙ ap Some c.in-Over.is in
    let known = known_parts nodes c.args.n c.in-Over.parent c.in-Over.step c.requires.below is c.requires.known in
    let below = c.raise_all.new.found in
    found_some nodes c.args.n c.in-Over.parent c.in-Over.step c.args.found.now.item below c.requires.below known.0 is (c.raise_all.ensures.some c.if-not-raise_all.false)
    ∙ ap (λ b. cond b None (Some (found_above c.in-Over.step below))) (sym c.left_out.ensures ∙ c.if-left_out.true)

pub returns-else-left_out-clause-some : goal.returns-else-left_out-clause-some
returns-else-left_out-clause-some t c = λ _.
    let nodes = c.args.nodes.now.made in
    let is = c.made.ensures ∙ ap Some c.in-Over.is in
    let known = known_parts nodes c.args.n c.in-Over.parent c.in-Over.step c.requires.below is c.requires.known in
    let below = c.raise_all.new.found in
    found_some nodes c.args.n c.in-Over.parent c.in-Over.step c.args.found.now.item below c.requires.below known.0 is (c.raise_all.ensures.some c.if-not-raise_all.false)
    ∙ ap (λ b. cond b None (Some (found_above c.in-Over.step below))) (sym c.left_out.ensures ∙ c.if-left_out.false)
    ∙ ap Some (sym c.raise.ensures)
