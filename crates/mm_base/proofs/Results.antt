-- What a result tells, where a test says which it is.
use Rattle.std.proofs.Common.{◌≡◌, true, false}
use Rattle.std.specs.Prelude.{is_err, OnErr, OnOk, Result, Ok, Err}

pub on_err_of : {A E P : Type 0} (r : Result A E) → is_err r ≡ true → OnErr r P → P
on_err_of (Ok a) e h = absurd (cc)
on_err_of (Err x) e h = h

pub on_ok_of : {A E P : Type 0} (r : Result A E) → is_err r ≡ false → OnOk r P → P
on_ok_of (Ok a) e h = h
on_ok_of (Err x) e h = absurd (cc)

pub on_ok_map : {A E P Q : Type 0} (r : Result A E) → (P → Q) → OnOk r P → OnOk r Q
on_ok_map (Ok a) f h = f h
on_ok_map (Err x) f h = h

-- what holds either way
pub either_way : {A E P Q X : Type 0} (r : Result A E) → OnOk r P → OnErr r Q → (P → X) → (Q → X) → X
either_way (Ok a) h k f g = f h
either_way (Err x) h k f g = g k
