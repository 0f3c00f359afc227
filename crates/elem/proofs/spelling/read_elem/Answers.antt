use Rattle.elem.proofs.SpellingLaws.{only_elem}
use Rattle.elem.proofs.spelling.read_elem.Goals as goal

pub returns-clause-only : goal.returns-clause-only
returns-clause-only c = only_elem c.args.text.now _ c.spelled_elem.ensures.exact
