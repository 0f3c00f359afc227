use Rattle.std.proofs.Common.{Some, sym, ◌∙◌, ap}
use Rattle.session.specs.declared.bound.Bound.{Bound as Held}
use Rattle.session.specs.declared.bound.Bound.TheVariants.{View}
use Rattle.std.specs.Option.{option_copied}
use Rattle.vocabulary.specs.Fits.{fits_with}
use Rattle.session.proofs.NameLemmas.{found_within}
use Rattle.session.proofs.TypingLemmas.{name_bound, name_iterates, name_unbound, no_name}
use Rattle.session.proofs.typing.type_other.Goals as goal

pub returns-in_default-clause-meaning : goal.returns-in_default-clause-meaning
returns-in_default-clause-meaning c first = let s = c.args.store.now in no_name s.world s.nodes c.args.names.now.entries c.args.on c.args.word c.args.text.now c.in_default.ensures

pub returns-in_default-get-clause-meaning : goal.returns-in_default-get-clause-meaning
returns-in_default-get-clause-meaning c first =
    let s = c.args.store.now in
    name_unbound s.world s.nodes c.args.names.now.entries c.args.on c.args.word c.in-Some.name c.args.text.now c.in-Some.ensures (sym c.get.ensures.value ∙ ap option_copied c.in_default-get.is)

pub returns-in_default-bound-clause-meaning : goal.returns-in_default-bound-clause-meaning
returns-in_default-bound-clause-meaning c first =
    let s = c.args.store.now in
    name_iterates s.world s.nodes c.args.names.now.entries c.args.on c.args.word c.in-Some.name c.args.text.now c.in-Some.ensures c.in-Some-get.bound.now (sym c.get.ensures.value ∙ ap option_copied c.in-Some-get.is) c.in_default-bound.not-View

pub shape-requires : goal.shape-requires
shape-requires c = found_within _ c.args.names.now.entries c.in-Some.name (View c.in-View.other) c.requires.names (sym c.get.ensures.value ∙ ap option_copied c.in-Some-get.is ∙ ap (λ (b : Held). Some b) c.in-View.is)

pub returns-then-fits_with-clause-meaning : goal.returns-then-fits_with-clause-meaning
returns-then-fits_with-clause-meaning c first =
    let s = c.args.store.now in
    name_bound s.world s.nodes c.args.names.now.entries c.args.on c.args.word c.in-Some.name c.args.text.now c.in-Some.ensures c.in-View.other _ _ (sym c.get.ensures.value ∙ ap option_copied c.in-Some-get.is ∙ ap (λ (b : Held). Some b) c.in-View.is) c.if-fits_with.ensures c.shape.ensures

pub returns-then-fits_with-clause-typed : goal.returns-then-fits_with-clause-typed
returns-then-fits_with-clause-typed c first = (
  found_within _ c.args.names.now.entries c.in-Some.name (View c.in-View.other) c.requires.names (sym c.get.ensures.value ∙ ap option_copied c.in-Some-get.is ∙ ap (λ (b : Held). Some b) c.in-View.is),
  sym (c.if-fits_with.ensures ∙ ap (fits_with c.args.on c.args.word) c.shape.ensures),
  c.requires.known,
)

pub returns-else-fits_with-clause-meaning : goal.returns-else-fits_with-clause-meaning
returns-else-fits_with-clause-meaning c first =
    let s = c.args.store.now in
    name_bound s.world s.nodes c.args.names.now.entries c.args.on c.args.word c.in-Some.name c.args.text.now c.in-Some.ensures c.in-View.other _ _ (sym c.get.ensures.value ∙ ap option_copied c.in-Some-get.is ∙ ap (λ (b : Held). Some b) c.in-View.is) c.if-fits_with.ensures c.shape.ensures
