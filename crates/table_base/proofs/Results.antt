-- What an answer tells, where a test says which it is.
use Rattle.std.proofs.Common.{◌≡◌, Option, Some, None}
use Rattle.std.specs.Prelude.{IsSome}

pub never_none : {A : Type 0} (x : Option A) → IsSome x → x ≡ None → ⊥
never_none None s e = cc
never_none (Some a) s e = cc
