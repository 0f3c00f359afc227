use Rattle.std.specs.Map.{keys_of}
use Rattle.base_rows.proofs.KeyLemmas.{no_window, follows_nothing}
use Rattle.base_rows.proofs.base_rows.reading.keys.linked_row.Goals as goal

pub returns-in-Within-clause-next : goal.returns-in-Within-clause-next
returns-in-Within-clause-next g c = absurd (no_window c.args.ask.now _ _ c.requires.ask c.in-Within.is)

pub returns-in-Nothing-clause-next : goal.returns-in-Nothing-clause-next
returns-in-Nothing-clause-next g c = follows_nothing (keys_of (g.K.FoundRows.rows c.args.rows.now)) c.args.ask.now c.args.back c.args.from c.in-Nothing.is
