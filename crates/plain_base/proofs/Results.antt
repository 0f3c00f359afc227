-- What a result tells, in other words.
use Rattle.std.proofs.Common.{◌≡◌, true, false}
use Rattle.std.specs.Prelude.{is_err, OnErr, OnOk, Result, Ok, Err}

pub on_err : {A E P Q : Type 0} (r : Result A E) → OnErr r P → (P → Q) → OnErr r Q
on_err (Ok a) h f = tt
on_err (Err x) h f = f h

pub on_ok : {A E P Q : Type 0} (r : Result A E) → OnOk r P → (P → Q) → OnOk r Q
on_ok (Ok a) h f = f h
on_ok (Err x) h f = tt

pub on_err_of : {A E P : Type 0} (r : Result A E) → is_err r ≡ true → OnErr r P → P
on_err_of (Ok a) e h = absurd (cc)
on_err_of (Err x) e h = h

pub on_ok_of : {A E P : Type 0} (r : Result A E) → is_err r ≡ false → OnOk r P → P
on_ok_of (Ok a) e h = h
on_ok_of (Err x) e h = absurd (cc)
