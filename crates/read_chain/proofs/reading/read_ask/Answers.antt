use Rattle.std.proofs.Common.{◌∙◌, inl, inr, ap, sym, length}
use Rattle.std.specs.Prelude.{Ok}
use Rattle.base_store.specs.Stored.{view_in}
use Rattle.read_chain.specs.Reads.{element_told, shown_in, told}
use Rattle.vocabulary.specs.declared.answers.Answer.TheVariants.{Number}
use Rattle.vocabulary.specs.declared.calls.Ask.{Ask}
use Rattle.vocabulary.specs.declared.calls.Call.TheVariants as calls
use Rattle.machine.specs.Views.{shape_at}
use Rattle.view_steps.proofs.KnownLemmas.{known_shape}
use Rattle.read_chain.proofs.ShapeLemmas.{counts_all, last_told}
use Rattle.read_chain.proofs.UnderLemmas.{kind_under}
use Rattle.read_chain.proofs.reading.read_ask.Goals as goal

pub returns-in-Size : goal.returns-in-Size
returns-in-Size g c =
    let s = c.args.store.now in
    let v = view_in s c.args.n in
    ap (λ n. Ok (Number n))
    (c.size.ensures ∙ counts_all (shape_at s.world v) (length (shown_in s c.args.n)) (known_shape s.world v c.base_of-base.ensures.known (kind_under s.world v c.base_of-base.result c.base_of-base.ensures.known c.base_of-base.ensures.base c.base_of-base.ensures.kind)))
    ∙ ap (λ (word : Ask). told s.world v (calls.Ask word)) (sym c.in-Size.is)

pub returns-in-Last : goal.returns-in-Last
returns-in-Last g c =
    let s = c.args.store.now in
    let v = view_in s c.args.n in
    c.tell_element-in-Last.ensures ∙ ap element_told c.last.ensures ∙ last_told (shown_in s c.args.n)
    ∙ elim c.in-Last.is [
      | inl is ↦ ap (λ (word : Ask). told s.world v (calls.Ask word)) (sym is)
      | inr is ↦ ap (λ (word : Ask). told s.world v (calls.Ask word)) (sym is)
    ]
