use Rattle.std.proofs.Common.{ℕ, ◌≤◌, List, length, arith, Bool, Ok, refl, ◌∙◌, ap}
use Rattle.script_text.specs.Parts.{part_in}
use Rattle.session.specs.declared.typing.Typed.{Typed}
use Rattle.session.specs.declared.typing.Typed.TheVariants as typed
use Rattle.session.specs.Environment.{named}
use Rattle.session.specs.Following.{parts_in}
use Rattle.machine.specs.Languages.{known}
use Rattle.machine.specs.Meanings.{calls, calls_with, typed_word}
use Rattle.machine.specs.Parts.{text_at}
use Rattle.base_store.specs.Stored.{view_in}
use Rattle.session.proofs.FollowLemmas.{at_end, at_fault, at_refused, at_step, end_call, end_with, followed_start, knows_step, names_in}
use Rattle.session.proofs.TextLemmas.{text_short}
use Rattle.session.proofs.following.follow.Goals as goal

pub type_word-typed-requires-clause-names : goal.type_word-typed-requires-clause-names
type_word-typed-requires-clause-names c = names_in c.args.names.now.entries c.args.purpose c.args.store.now c.loop-rest.store c.args.head c.loop-rest.node (parts_in c.args.line.now c.args.parts.now) (parts_in c.args.line.now c.loop-rest.rest.now) c.loop-rest.invariant c.requires.names

pub take_step-requires-clause-short : goal.take_step-requires-clause-short
take_step-requires-clause-short c = let le : length c.args.line.now ≤ 1024 = c.requires.short in omega (arith, le, text_short c.args.line.now c.part-item.result 0, ap (λ (xs : List ℕ). length xs) c.argument.ensures)

pub take_step-requires-clause-known : goal.take_step-requires-clause-known
take_step-requires-clause-known c =
    knows_step c.args.names.now.entries c.args.purpose c.args.store.now c.loop-rest.store c.args.head c.loop-rest.node (parts_in c.args.line.now c.args.parts.now) c.args.line.now c.loop-rest.rest.now c.part-item.result c.shape.result c.type_word-typed.result
    (record {
      within = c.requires.names;
      ok = c.requires.typed;
      followed = c.loop-rest.invariant;
      there = c.in-len1-up.len_at_least;
      item = c.part-item.is;
      shape = c.shape.ensures;
      meant = c.type_word-typed.ensures.meaning ∙ ap (λ (last : Bool). typed_word known c.loop-rest.store.world (named c.loop-rest.store.nodes c.args.names.now.entries) c.args.purpose last c.shape.result (part_in c.args.line.now c.part-item.result)) c.is_empty.ensures;
      typed = c.type_word-typed.ensures.typed;
    })
    c.in-Step.form c.in-Step.field-1 (c.in-Ok.is ∙ ap (λ (x : Typed). Ok x) c.in-Step.is)

pub loop-rest-preserved : goal.loop-rest-preserved
loop-rest-preserved c =
    at_step c.args.names.now.entries c.args.purpose c.args.store.now c.loop-rest.store c.args.head c.loop-rest.node (parts_in c.args.line.now c.args.parts.now) c.args.line.now c.loop-rest.rest.now c.part-item.result c.shape.result c.type_word-typed.result
    (record {
      within = c.requires.names;
      ok = c.requires.typed;
      followed = c.loop-rest.invariant;
      there = c.in-len1-up.len_at_least;
      item = c.part-item.is;
      shape = c.shape.ensures;
      meant = c.type_word-typed.ensures.meaning ∙ ap (λ (last : Bool). typed_word known c.loop-rest.store.world (named c.loop-rest.store.nodes c.args.names.now.entries) c.args.purpose last c.shape.result (part_in c.args.line.now c.part-item.result)) c.is_empty.ensures;
      typed = c.type_word-typed.ensures.typed;
    })
    c.in-Step.form c.in-Step.field-1 (c.in-Ok.is ∙ ap (λ (x : Typed). Ok x) c.in-Step.is) c.take_step.new.store c.argument.result.now c.in-Ok-take_step.made c.argument.ensures c.in-Ok-take_step.ensures

pub returns-in-Err-clause-led : goal.returns-in-Err-clause-led
returns-in-Err-clause-led c =
    (at_refused c.args.names.now.entries c.args.purpose c.args.store.now c.loop-rest.store c.args.head c.loop-rest.node (parts_in c.args.line.now c.args.parts.now) c.args.line.now c.loop-rest.rest.now c.part-item.result c.shape.result c.type_word-typed.result
    (record {
      within = c.requires.names;
      ok = c.requires.typed;
      followed = c.loop-rest.invariant;
      there = c.in-len1-up.len_at_least;
      item = c.part-item.is;
      shape = c.shape.ensures;
      meant = c.type_word-typed.ensures.meaning ∙ ap (λ (last : Bool). typed_word known c.loop-rest.store.world (named c.loop-rest.store.nodes c.args.names.now.entries) c.args.purpose last c.shape.result (part_in c.args.line.now c.part-item.result)) c.is_empty.ensures;
      typed = c.type_word-typed.ensures.typed;
    })
    c.in-Step.form c.in-Step.field-1 (c.in-Ok.is ∙ ap (λ (x : Typed). Ok x) c.in-Step.is) c.take_step.new.store c.argument.result.now c.in-Err.refusal c.argument.ensures c.in-Err.ensures).led

pub returns-in-Call-clause-end : goal.returns-in-Call-clause-end
returns-in-Call-clause-end c =
    end_call c.loop-rest.store c.loop-rest.node c.shape.result (text_at (part_in c.args.line.now c.part-item.result).args 0) c.type_word-typed.result c.loop-rest.invariant.stands c.shape.ensures c.type_word-typed.ensures.typed c.in-Call.call (c.in-Ok.is ∙ ap (λ (x : Typed). Ok x) c.in-Call.is)

pub returns-in-Call-clause-led : goal.returns-in-Call-clause-led
returns-in-Call-clause-led c =
    at_end c.args.names.now.entries c.args.purpose c.args.store.now c.loop-rest.store c.args.head c.loop-rest.node (parts_in c.args.line.now c.args.parts.now) c.args.line.now c.loop-rest.rest.now c.part-item.result c.shape.result c.type_word-typed.result
    (record {
      within = c.requires.names;
      ok = c.requires.typed;
      followed = c.loop-rest.invariant;
      there = c.in-len1-up.len_at_least;
      item = c.part-item.is;
      shape = c.shape.ensures;
      meant = c.type_word-typed.ensures.meaning ∙ ap (λ (last : Bool). typed_word known c.loop-rest.store.world (named c.loop-rest.store.nodes c.args.names.now.entries) c.args.purpose last c.shape.result (part_in c.args.line.now c.part-item.result)) c.is_empty.ensures;
      typed = c.type_word-typed.ensures.typed;
    })
    (typed.Call c.in-Call.call) (calls (Ok c.in-Call.call)) (c.in-Ok.is ∙ ap (λ (x : Typed). Ok x) c.in-Call.is) refl

pub returns-in-With-clause-end : goal.returns-in-With-clause-end
returns-in-With-clause-end c =
    end_with c.loop-rest.store c.loop-rest.node c.shape.result (text_at (part_in c.args.line.now c.part-item.result).args 0) c.type_word-typed.result c.loop-rest.invariant.stands c.shape.ensures c.type_word-typed.ensures.typed c.in-With.word c.in-With.other (c.in-Ok.is ∙ ap (λ (x : Typed). Ok x) c.in-With.is)

pub returns-in-With-clause-led : goal.returns-in-With-clause-led
returns-in-With-clause-led c =
    at_end c.args.names.now.entries c.args.purpose c.args.store.now c.loop-rest.store c.args.head c.loop-rest.node (parts_in c.args.line.now c.args.parts.now) c.args.line.now c.loop-rest.rest.now c.part-item.result c.shape.result c.type_word-typed.result
    (record {
      within = c.requires.names;
      ok = c.requires.typed;
      followed = c.loop-rest.invariant;
      there = c.in-len1-up.len_at_least;
      item = c.part-item.is;
      shape = c.shape.ensures;
      meant = c.type_word-typed.ensures.meaning ∙ ap (λ (last : Bool). typed_word known c.loop-rest.store.world (named c.loop-rest.store.nodes c.args.names.now.entries) c.args.purpose last c.shape.result (part_in c.args.line.now c.part-item.result)) c.is_empty.ensures;
      typed = c.type_word-typed.ensures.typed;
    })
    (typed.With c.in-With.word c.in-With.other) (calls_with c.in-With.word (view_in c.loop-rest.store c.in-With.other)) (c.in-Ok.is ∙ ap (λ (x : Typed). Ok x) c.in-With.is) refl

pub returns-in_default-typed-clause-led : goal.returns-in_default-typed-clause-led
returns-in_default-typed-clause-led c =
    absurd (at_fault c.args.names.now.entries c.args.purpose c.args.store.now c.loop-rest.store c.args.head c.loop-rest.node (parts_in c.args.line.now c.args.parts.now) c.args.line.now c.loop-rest.rest.now c.part-item.result c.shape.result c.type_word-typed.result
    (record {
      within = c.requires.names;
      ok = c.requires.typed;
      followed = c.loop-rest.invariant;
      there = c.in-len1-up.len_at_least;
      item = c.part-item.is;
      shape = c.shape.ensures;
      meant = c.type_word-typed.ensures.meaning ∙ ap (λ (last : Bool). typed_word known c.loop-rest.store.world (named c.loop-rest.store.nodes c.args.names.now.entries) c.args.purpose last c.shape.result (part_in c.args.line.now c.part-item.result)) c.is_empty.ensures;
      typed = c.type_word-typed.ensures.typed;
    })
    c.in_default-typed.field-0 c.in_default-typed.is)

pub loop-rest-init : goal.loop-rest-init
loop-rest-init c = followed_start c.args.names.now.entries c.args.purpose c.args.store.now c.args.head (parts_in c.args.line.now c.args.parts.now) c.requires.head c.requires.still
