use Rattle.std.proofs.Common.{◌<◌, length, drop, ap, sym, ◌∙◌, arith, length-append, length-drop}
use Rattle.elem.specs.Tokens.{token_text}
use Rattle.elem.proofs.LexingLaws.{from_end, from_token, from_fault, rest_is, token_length}
use Rattle.elem.proofs.lexing.next_lexeme.Goals as goal

pub returns-then-start-text-clause-ahead : goal.returns-then-start-text-clause-ahead
returns-then-start-text-clause-ahead c = sym c.behind_spaces-start.ensures.same ∙ from_end c.args.text.now c.behind_spaces-start.result c.if-start-text.true

pub returns-in-Some-clause-ahead : goal.returns-in-Some-clause-ahead
returns-in-Some-clause-ahead c =
    let lt : c.behind_spaces-start.result < length c.args.text.now = omega arith in
    sym c.behind_spaces-start.ensures.same ∙ from_token c.args.text.now c.behind_spaces-start.result c.in-Some.token c.in-Some.len lt (c.behind_spaces-start.ensures.stop lt) (rw rest_is at (sym c.in-Some.ensures.exact))

pub returns-in-Some-clause-place : goal.returns-in-Some-clause-place
returns-in-Some-clause-place c =
    let at = rw rest_is at c.in-Some.ensures.found in
    let lt : c.behind_spaces-start.result < length c.args.text.now = omega arith in
    let some : 0 < length (token_text c.in-Some.token) = token_length c.in-Some.token at.token in
    (c.behind_spaces-start.ensures.within.0, omega (arith, at.len_is, some), omega (arith, at.len_is, ap length at.is, length-append (token_text c.in-Some.token) (drop c.in-Some.len (drop c.behind_spaces-start.result c.args.text.now)), length-drop c.behind_spaces-start.result c.args.text.now))

pub returns-in-None-clause-ahead : goal.returns-in-None-clause-ahead
returns-in-None-clause-ahead c =
    let lt : c.behind_spaces-start.result < length c.args.text.now = omega arith in
    sym c.behind_spaces-start.ensures.same ∙ from_fault c.args.text.now c.behind_spaces-start.result lt (c.behind_spaces-start.ensures.stop lt) (rw rest_is at (sym c.in-None.ensures.exact))
