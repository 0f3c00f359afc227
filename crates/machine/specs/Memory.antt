-- Which calls may want memory.
use Rattle.std.specs.Prelude.{Bool, true, false, not, ◌||◌, nat_lt, Result, Ok, Err}
use Rattle.vocabulary.specs.declared.calls.Call.{Call}
use Rattle.vocabulary.specs.declared.calls.Call.TheVariants as call
use Rattle.vocabulary.specs.declared.calls.OnElement.TheVariants.{RemoveGroup, RemoveValues}
use Rattle.vocabulary.specs.declared.calls.OnOther.{OnOther}
use Rattle.vocabulary.specs.declared.calls.OnOther.TheVariants.{ContainsAll, Equals}
use Rattle.vocabulary.specs.declared.calls.OnPair.TheVariants.{Put, ForcePut}
use Rattle.vocabulary.specs.declared.calls.OnValues.{OnValues}
use Rattle.vocabulary.specs.declared.shapes.Shape.{Shape}
use Rattle.vocabulary.specs.Needs.{needs_for, needs_with}
use Rattle.vocabulary.specs.Shapes.{is_bimap}
use Rattle.vocabulary.specs.Steps.{lacks}
use Rattle.machine.specs.Answering.{Answered}
use Rattle.machine.specs.Bases.{World}
use Rattle.machine.specs.RowCounts.{rows_in}
use Rattle.machine.specs.Views.{View, flags_at, shape_at}

-- whether a call leaves more rows than there were
abbrev pub adds_rows : World → Answered → Bool
adds_rows before (Ok done) = nat_lt (rows_in before) (rows_in done.1)
adds_rows before (Err why) = false

-- whether a call may want memory though no row more is left: it answers with rows that are gone by then, or it turns the
-- pair of a bimap into another
abbrev pub gathers : Shape → Call → Bool
gathers of (call.Element RemoveGroup k) = true
gathers of (call.Element RemoveValues k) = true
gathers of (call.Pair Put k w) = is_bimap of
gathers of (call.Pair ForcePut k w) = is_bimap of
gathers of other = false

-- whether a call may want memory that comes to this
abbrev pub wants_memory : World → View → Call → Answered → Bool
wants_memory world v call done = adds_rows world done || gathers (shape_at world v) call

-- whether a call with another view may: one that adds or removes, on a view that allows it
abbrev pub wants_memory_with : World → View → OnOther → Bool
wants_memory_with world v ContainsAll = false
wants_memory_with world v Equals = false
wants_memory_with world v word = not (lacks (flags_at world v) (needs_with word))

-- and a call with a key and another view
abbrev pub wants_memory_for : World → View → OnValues → Bool
wants_memory_for world v word = not (lacks (flags_at world v) (needs_for word))
