use Rattle.fn_lang.proofs.ReadingLaws.{finds_value, finds_too_large, finds_none, finds_one, func_finds}
use Rattle.fn_lang.proofs.readers.read_func.Goals as goal

pub returns-clause-found : goal.returns-clause-found
returns-clause-found c = finds_value (func_finds c.args.text.now) _ c.func_of.ensures

pub returns-clause-too_large : goal.returns-clause-too_large
returns-clause-too_large c = finds_too_large (func_finds c.args.text.now) _ c.func_of.ensures

pub returns-clause-not_grammar : goal.returns-clause-not_grammar
returns-clause-not_grammar c = finds_none (func_finds c.args.text.now) _ c.func_of.ensures

pub returns-clause-one : goal.returns-clause-one
returns-clause-one c = finds_one (func_finds c.args.text.now)
