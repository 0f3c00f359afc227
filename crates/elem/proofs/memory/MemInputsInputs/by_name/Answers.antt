use Rattle.std.proofs.Common.{◌≡◌, ℕ, Bool, false, ◌||◌, List, [], Option, Some, sym, ◌∙◌, ap, subst}
use Rattle.std.specs.Option.{is_none}
use Rattle.elem.specs.Outside.{Gives}
use Rattle.elem.proofs.MemoryLemmas.{opens_file, opens_none}
use Rattle.elem.proofs.memory.MemInputsInputs.by_name.Goals as goal

-- an open that is not listed does not fail where its path names a file
succeeds : (told : Option (List ℕ)) (bytes : List ℕ) (listed : Bool) → told ≡ Some bytes → listed ≡ false → false ≡ (is_none told || listed)
succeeds told bytes listed e l = sym l ∙ ap (λ t. is_none t || listed) (sym e)

-- what a file that was opened gives
gives : (told : Option (List ℕ)) (left : List ℕ) → told ≡ Some left → Gives told (Some left) []
gives told left e = subst (λ (t : Option (List ℕ)). Gives t (Some left) []) (sym e) (λ i. left)

pub returns-clause-fails : goal.returns-clause-fails
returns-clause-fails c =
    let found = rw (c.deref.ensures.value, c.as_bytes.ensures.value, c.deref-2.ensures.value, c.saturating_add-self-inside.ensures) at c.in-Some.ensures in
    let there = opens_file _ c.args.path.now c.self.inside.files.items c.in-Some.file found in
    rw (← c.self.view_is) (succeeds _ _ _ there.1 there.0)

pub returns-clause-ok : goal.returns-clause-ok
returns-clause-ok c =
    let found = rw (c.deref.ensures.value, c.as_bytes.ensures.value, c.deref-2.ensures.value, c.saturating_add-self-inside.ensures) at c.in-Some.ensures in
    let there = opens_file _ c.args.path.now c.self.inside.files.items c.in-Some.file found in
    rw (← c.self.view_is, there.1) (cc)

pub returns-clause-left : goal.returns-clause-left
returns-clause-left c =
    let found = rw (c.deref.ensures.value, c.as_bytes.ensures.value, c.deref-2.ensures.value, c.saturating_add-self-inside.ensures) at c.in-Some.ensures in
    let there = opens_file _ c.args.path.now c.self.inside.files.items c.in-Some.file found in
    rw (← c.self.view_is) (gives _ _ there.1)

pub returns-in_default-clause-fails : goal.returns-in_default-clause-fails
returns-in_default-clause-fails c =
    let found = rw (c.deref.ensures.value, c.as_bytes.ensures.value, c.deref-2.ensures.value, c.saturating_add-self-inside.ensures) at c.in_default.ensures in
    rw (← c.self.view_is) (opens_none _ c.args.path.now c.self.inside.files.items found)
