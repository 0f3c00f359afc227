use Rattle.std.proofs.Common.{sym, ◌∙◌, arith}
use Rattle.std.proofs.lemmas.List.{length-take}
use Rattle.elem.proofs.TokenLaws.{token_found, token_again, kind_within, at_no_kind, at_no_token, at_token}
use Rattle.elem.proofs.tokens.next_token.Goals as goal

pub returns-in_err-kind-clause-only : goal.returns-in_err-kind-clause-only
returns-in_err-kind-clause-only c = λ t len at. c.from_residual.ensures ∙ sym (at_no_kind c.args.text.now c.in_err-kind.ensures) ∙ token_again c.args.text.now t len at

pub slice_bounds-token_of-end : goal.slice_bounds-token_of-end
slice_bounds-token_of-end c = omega (arith, kind_within c.args.text.now _ (sym c.in_ok-kind.ensures), length-take c.in_ok-kind.len c.args.text.now)

pub returns-in_err-token-clause-only : goal.returns-in_err-token-clause-only
returns-in_err-token-clause-only c = λ t len at.
    c.from_residual-in_err-token.ensures ∙ sym (at_no_token c.args.text.now c.in_ok-kind.kind c.in_ok-kind.len c.in_ok-kind.ensures c.in_err-token.ensures) ∙ token_again c.args.text.now t len at

pub returns-clause-found : goal.returns-clause-found
returns-clause-found c =
    token_found c.args.text.now c.in_ok-token.token c.in_ok-kind.len (at_token c.args.text.now c.in_ok-kind.kind c.in_ok-kind.len c.in_ok-token.token c.in_ok-kind.ensures c.in_ok-token.ensures)

pub returns-clause-only : goal.returns-clause-only
returns-clause-only c = λ t len at.
    sym (at_token c.args.text.now c.in_ok-kind.kind c.in_ok-kind.len c.in_ok-token.token c.in_ok-kind.ensures c.in_ok-token.ensures) ∙ token_again c.args.text.now t len at
