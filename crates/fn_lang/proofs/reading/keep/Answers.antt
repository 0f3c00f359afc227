use Rattle.fn_lang.proofs.StackLaws.{kept_full, kept_more}
use Rattle.fn_lang.proofs.reading.keep.Goals as goal

pub returns-then-not-is_full-clause-items : goal.returns-then-not-is_full-clause-items
returns-then-not-is_full-clause-items g c = λ found e. rw (c.push.ensures.items, c.in-Some.is) (kept_more c.args.items.now.items found c.in-Some.item e c.if-not-is_full.ensures.value c.if-not-is_full.ensures.fits)

pub returns-else-not-is_full-clause-items : goal.returns-else-not-is_full-clause-items
returns-else-not-is_full-clause-items g c = λ found e. rw c.in-Some.is (kept_full c.args.items.now.items found c.in-Some.item e c.if-not-is_full.ensures.value)
