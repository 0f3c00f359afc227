use Rattle.std.proofs.Common.{◌≡◌, ◌+◌, ◌<◌, ◌∙◌, sym, arith}
use Rattle.std.proofs.lemmas.Option.{same_Some}
use Rattle.vocabulary.specs.Limits.{longest_path}
use Rattle.vocabulary.specs.Steps.{steps_in}
use Rattle.machine.specs.Views.{path}
use Rattle.view_steps.proofs.KnownLemmas.{one_step}
use Rattle.base_store.specs.Facts.{facts_at}
use Rattle.base_store.specs.Stored.{Stored, view_in}
use Rattle.base_store.proofs.BuiltLemmas.{sound_view}
use Rattle.base_store.proofs.NodeLemmas.{added_step}
use Rattle.base_store.proofs.store.Store.new_view.Goals as goal

pub invariant_of-self : goal.invariant_of-self
invariant_of-self c =
    let s : Stored = record { world = c.self.inside.slots.items; nodes = c.self.inside.nodes.made; lasting = c.self.inside.nodes.lasting; handles = c.self.inside.handles } in
    let within = rw (← c.self.view_is) at c.requires.parent in
    let below : c.facts.result.now ≡ facts_at s.world (view_in s c.args.parent) = same_Some _ _ (sym (rw c.number.ensures at c.facts.ensures) ∙ c.self.invariant.kept.each c.args.parent within) in
    let short : path (view_in s c.args.parent) + steps_in c.args.step.now < longest_path + 1 = omega (arith, rw (← c.self.view_is) at c.requires.short, one_step c.args.step.now c.requires.known) in
    rw (c.push_step.ensures, c.number-2.ensures)
    (sound_view s c.self.inside.nodes.facts c.self.inside.rows c.args.parent c.args.step.now c.over-facts.result c.requires.known c.self.invariant within
    (record { given = rw (← c.self.view_is) at c.requires.given; kept = rw (← c.self.view_is) at c.requires.kept; short = short })
    (c.over-facts.ensures s.world (view_in s c.args.parent) below))

pub returns-clause-view : goal.returns-clause-view
returns-clause-view c =
    let within = rw (← c.self.view_is) at c.requires.parent in
    rw (c.at.ensures, c.count-number.ensures.count, c.push_step.ensures, c.number-2.ensures, ← c.self.view_is)
    (added_step _ c.args.step.now c.args.parent 0 within)
