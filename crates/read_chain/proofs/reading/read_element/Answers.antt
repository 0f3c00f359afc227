use Rattle.std.proofs.Common.{◌∙◌, ap, sym}
use Rattle.base_store.specs.Stored.{view_in}
use Rattle.vocabulary.specs.declared.calls.OnElement.{OnElement}
use Rattle.vocabulary.specs.Fits.{fits_element}
use Rattle.machine.specs.Views.{shape_at}
use Rattle.view_steps.proofs.KnownLemmas.{known_shape}
use Rattle.read_chain.proofs.ShapeLemmas.{has_key_shape}
use Rattle.read_chain.proofs.UnderLemmas.{kind_under}
use Rattle.read_chain.proofs.reading.read_element.Goals as goal

pub has_key-requires-clause-keyed : goal.has_key-requires-clause-keyed
has_key-requires-clause-keyed g c =
    let s = c.args.store.now in
    let v = view_in s c.args.n in
    has_key_shape (shape_at s.world v) (known_shape s.world v c.base_of-base.ensures.known (kind_under s.world v c.base_of-base.result c.base_of-base.ensures.known c.base_of-base.ensures.base c.base_of-base.ensures.kind))
    (ap (λ (word : OnElement). fits_element (shape_at s.world v) word) (sym c.in-ContainsKey.is) ∙ c.requires.fits)
