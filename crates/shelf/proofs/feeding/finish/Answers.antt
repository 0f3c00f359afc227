use Rattle.std.proofs.Common.{◌≡◌, ℕ, List, [], ◌∷◌, Option, None, Some, true, false, refl, sym, ◌∙◌, ap, subst}
use Rattle.std.proofs.lemmas.List.{append-nil}
use Rattle.elem.specs.Outside.{Takes}
use Rattle.machine.specs.State.{State}
use Rattle.machine.specs.Languages.{known}
use Rattle.machine.specs.Lines.{step}
use Rattle.machine.specs.Outcomes.{written}
use Rattle.session.specs.Replying.{Wrote}
use Rattle.shelf.specs.Feed.{replies_with, replies_on}
use Rattle.shelf.proofs.feeding.finish.Goals as goal

none_left : (s : State) (line : List ℕ) (told : Option (List ℕ)) → line ≡ [] → Takes told told (replies_on s line [])
unfolding replies_with
none_left s [] None e = tt
none_left s [] (Some xs) e = ap Some (sym (append-nil xs))
none_left s (b ∷ bs) told e = cc

one_left : (s : State) (line : List ℕ) → (line ≡ [] → ⊥) → written (step known s line).reply ≡ replies_on s line []
unfolding replies_with
one_left s [] h = absurd (h refl)
one_left s (b ∷ bs) h = refl

pub returns-then-is_empty-clause-reply : goal.returns-then-is_empty-clause-reply
returns-then-is_empty-clause-reply g c = none_left c.args.session.now c.args.line.now (g.S.Sink.taken c.args.sink.now) (c.is_empty.ensures.0 c.if-is_empty.true)

pub returns-clause-reply : goal.returns-clause-reply
returns-clause-reply g c =
    let some : c.args.line.now ≡ [] → ⊥ = λ e. let yes : c.is_empty.result ≡ true = c.is_empty.ensures.1 e in let no : c.is_empty.result ≡ false = c.if-is_empty.false in cc in
    subst (λ (text : List ℕ). Wrote c.exec.result (g.S.Sink.taken c.args.sink.now) (g.S.Sink.taken c.exec.new.out) text)
    (ap (λ l. written (step known c.args.session.now l).reply) c.bytes.ensures ∙ one_left c.args.session.now c.args.line.now some) c.exec.ensures.reply
