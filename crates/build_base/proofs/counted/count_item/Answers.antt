use Rattle.std.proofs.Common.{◌+◌, ap, ◌∙◌, sym}
use Rattle.std.specs.Map.{count_at}
use Rattle.std.specs.HashMap as hash
use Rattle.elem.specs.Elements.{same}
use Rattle.build_base.specs.Built.{count_in}
use Rattle.build_base.proofs.BuiltLemmas.{counted_more}
use Rattle.build_base.proofs.counted.count_item.Goals as goal

pub returns-in_ok-write_count-in-Counted-clause-ok : goal.returns-in_ok-write_count-in-Counted-clause-ok
returns-in_ok-write_count-in-Counted-clause-ok c = λ q.
    counted_more (hash.get same c.args.counts.now) (hash.get same c.write_count.new.counts) c.in-Counted.x c.in-Counted.n c.count_at-before.result c.count_at-before.ensures c.in_ok-write_count-in-Counted.ensures.ok q
    ∙ ap (λ r. count_at (hash.get same c.args.counts.now) q + count_in q r) (sym c.in-Counted.is)
