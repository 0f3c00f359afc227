use Rattle.std.proofs.Common.{◌≡◌, length}
use Rattle.session.specs.Environment.{named}
use Rattle.session.specs.Following.{parts_in}
use Rattle.session.specs.Targets.{shape_of}
use Rattle.machine.specs.Languages.{known}
use Rattle.machine.specs.Typing.{typed_words}
use Rattle.session.proofs.typing.type_words.Given as goal

-- all words lead to the shape to which those lead that are left, or have their fault
abbrev pub invariant-loop-rest : goal.invariant-loop-rest
invariant-loop-rest l = shape_of (typed_words known l.store.world (named l.store.nodes l.names.entries) l.purpose l.fn.shape (parts_in l.line l.parts)) ≡ shape_of (typed_words known l.store.world (named l.store.nodes l.names.entries) l.purpose l.on (parts_in l.line l.rest))

abbrev pub decreases-loop-rest : goal.decreases-loop-rest
decreases-loop-rest l = length l.rest
