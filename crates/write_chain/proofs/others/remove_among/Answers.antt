use Rattle.std.proofs.Common.{ap, subst}
use Rattle.std.specs.Prelude.{Ok}
use Rattle.base_store.specs.Stored.{view_in}
use Rattle.vocabulary.specs.declared.answers.Answer.{Answer}
use Rattle.vocabulary.specs.declared.answers.Answer.TheVariants.{Truth}
use Rattle.machine.specs.CallEdits.{all_hits}
use Rattle.machine.specs.Views.{candidates}
use Rattle.view_steps.specs.KnownViews.{number_under}
use Rattle.write_chain.specs.Calls.{Came, removed}
use Rattle.write_chain.specs.Members.{among_passes}
use Rattle.view_steps.proofs.ChangeLemmas.{room}
use Rattle.write_chain.proofs.MemberLemmas.{among_key}
use Rattle.write_chain.proofs.RemoveLemmas.{gone_came}
use Rattle.write_chain.proofs.others.remove_among.Goals as goal

pub drop_of_keys-requires : goal.drop_of_keys-requires
drop_of_keys-requires g c = record {
  node = c.requires.node;
  keyed = c.looks_up.ensures.keyed c.if-looks_up.true;
  keys = among_key c.args.test.now (c.looks_up.ensures.among c.if-looks_up.true);
  change = room c.args.store.now.world (number_under (view_in c.args.store.now c.args.n)) c.requires.change;
}

pub drop_shown-requires-clause-change : goal.drop_shown-requires-clause-change
drop_shown-requires-clause-change g c = room c.args.store.now.world (number_under (view_in c.args.store.now c.args.n)) c.requires.change

pub returns-then-looks_up : goal.returns-then-looks_up
returns-then-looks_up g c =
    let s = c.args.store.now in
    let v = view_in s c.args.n in
    let gone = all_hits (among_passes c.args.test.now) (candidates s.world v) in
    let found = c.drop_of_keys.result in
    let now = c.drop_of_keys.new.self in
    subst (λ (a : Answer). Came (Ok (Truth found)) s now (removed s.world v gone a)) (ap Truth c.drop_of_keys.ensures.any)
    (gone_came s now v gone (Truth found) c.drop_of_keys.ensures.after c.drop_of_keys.ensures.few)

pub returns-else-looks_up : goal.returns-else-looks_up
returns-else-looks_up g c =
    let s = c.args.store.now in
    let v = view_in s c.args.n in
    let gone = all_hits (among_passes c.args.test.now) (candidates s.world v) in
    let found = c.drop_shown.result in
    let now = c.drop_shown.new.self in
    subst (λ (a : Answer). Came (Ok (Truth found)) s now (removed s.world v gone a)) (ap Truth c.drop_shown.ensures.any)
    (gone_came s now v gone (Truth found) c.drop_shown.ensures.after c.drop_shown.ensures.few)
