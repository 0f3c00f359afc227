use Rattle.std.proofs.Common.{◌≡◌, ◌∷◌, [], ◌++◌, length, refl}
use Rattle.std.specs.Prelude.{map}
use Rattle.std.proofs.lemmas.List.{append_assoc, map-append}
use Rattle.base_store.specs.declared.store.kept.Kept.{Kept}
use Rattle.base_store.specs.declared.store.kept.KeptMade.TheVariants as node
use Rattle.base_store.specs.KeptSteps.{MadeStands, facts_in, parts_of, step_in}
use Rattle.base_store.proofs.KeptLemmas.{made_push, tabled_push}
use Rattle.base_store.proofs.store.nodes.Nodes.push_step.Goals as goal

pub invariant_of-self : goal.invariant_of-self
invariant_of-self c =
    let it : Kept = record { made = node.Over c.kept_step-kept.result c.args.parent; facts = c.args.facts } in
    let more = parts_of c.args.step.now in
    let stands : MadeStands (length c.self.inside.parts.items) (c.self.inside.temporary_parts.items ++ more) it.made = rw (c.as_slice-from.ensures.value, c.kept_step-kept.ensures.parts) at c.kept_step-kept.ensures.stands in
    rw (c.push.ensures.items, c.kept_step-kept.ensures.parts)
    (tabled_push c.self.inside.parts.items c.self.inside.temporary_parts.items more c.self.inside.lasting.items c.self.inside.temporary.items it c.self.invariant c.kept_step-kept.ensures.few stands)

pub returns : goal.returns
returns c =
    let it : Kept = record { made = node.Over c.kept_step-kept.result c.args.parent; facts = c.args.facts } in
    let more = parts_of c.args.step.now in
    let is : step_in (length c.self.inside.parts.items) (c.self.inside.temporary_parts.items ++ more) c.kept_step-kept.result ≡ c.args.step.now = rw (c.as_slice-from.ensures.value, c.kept_step-kept.ensures.parts) at c.kept_step-kept.ensures.step in
    let all = made_push c.self.inside.parts.items c.self.inside.temporary_parts.items more c.self.inside.lasting.items c.self.inside.temporary.items it c.self.invariant in
    rw (← c.self.view_is, c.push.ensures.items, c.kept_step-kept.ensures.parts, all, is, map-append facts_in c.self.inside.temporary.items (it ∷ []), append_assoc (map facts_in c.self.inside.lasting.items) (map facts_in c.self.inside.temporary.items) (c.args.facts ∷ [])) refl
