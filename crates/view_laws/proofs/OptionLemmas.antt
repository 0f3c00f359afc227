-- What holds of a value, if there is one.
use Rattle.std.proofs.Common.{◌≡◌, subst}
use Rattle.std.specs.Prelude.{Option, Some, None, option_map}
use Rattle.std.specs.Option.{IfSome, option_and_then}

pub if_any : {X : Type 0} (P : X → Type 0) (o : Option X) → ((x : X) → P x) → IfSome o P
if_any P None h = tt
if_any P (Some x) h = h x

pub if_as : {X : Type 0} (P Q : X → Type 0) (o : Option X) → IfSome o P → ((x : X) → P x → Q x) → IfSome o Q
if_as P Q None a h = tt
if_as P Q (Some x) a h = h x a

pub if_both : {X : Type 0} (P Q : X → Type 0) (o : Option X) → IfSome o P → IfSome o Q → IfSome o (λ x. P x × Q x)
if_both P Q None a b = tt
if_both P Q (Some x) a b = (a, b)

pub if_all : {X Z : Type 0} (P : Z → X → Type 0) (o : Option X) → ((z : Z) → IfSome o (P z)) → IfSome o (λ x. (z : Z) → P z x)
if_all P None h = tt
if_all P (Some x) h = h

pub if_map : {X Y : Type 0} (f : X → Y) (P : X → Type 0) (Q : Y → Type 0) (o : Option X) → IfSome o P → ((x : X) → P x → Q (f x)) → IfSome (option_map f o) Q
if_map f P Q None a h = tt
if_map f P Q (Some x) a h = h x a

pub if_then : {X Y : Type 0} (f : X → Option Y) (P : X → Type 0) (Q : Y → Type 0) (o : Option X) → IfSome o P → ((x : X) → P x → IfSome (f x) Q) → IfSome (option_and_then f o) Q
if_then f P Q None a h = tt
if_then f P Q (Some x) a h = h x a

pub if_is : {X : Type 0} (P : X → Type 0) (o : Option X) (x : X) → o ≡ Some x → IfSome o P → P x
if_is P o x e a = subst (λ q. IfSome q P) e a
