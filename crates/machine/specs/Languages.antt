-- How much of the language a machine knows.
use Rattle.std.specs.Prelude.{Bool, true, false, Option, None, Some, if◌then◌else◌}
use Rattle.vocabulary.specs.declared.kinds.Kind.{Kind}
use Rattle.vocabulary.specs.declared.words.Action.{Action}
use Rattle.vocabulary.specs.Known.{is_known, is_known_kind}

-- the kinds and the words that a machine knows, and whether views give iterators
pub record Language : Type 0 where
  pub kinds : Kind → Bool
  pub words : Action → Bool
  pub iterators : Bool

-- all there are
abbrev pub whole : Language
whole = record { kinds = λ kind. true; words = λ action. true; iterators = true }

-- the part whose code stands
abbrev pub known : Language
known = record { kinds = is_known_kind; words = is_known; iterators = true }

-- what passes a test, where there is something
abbrev pub only_if : {X : Type 0} → (X → Bool) → Option X → Option X
only_if test None = None
only_if test (Some x) = if test x then Some x else None
