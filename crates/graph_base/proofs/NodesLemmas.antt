-- Nodes as the rows of a map: put, taken back and written.
use Rattle.std.proofs.Common.{◌≡◌, Bool, true, false, cond, not, List, Some, None, sym, ap, ◌∙◌}
use Rattle.std.specs.Prelude.{IsSome}
use Rattle.std.specs.Map.{lookup, set_value, keys_of}
use Rattle.std.proofs.lemmas.Map.{lookup-set_value, keys-set_value}
use Rattle.elem.specs.declared.elements.Elem.{Elem}
use Rattle.elem.specs.Elements.{same}
use Rattle.elem.specs.ElementLaws.{same-Decides, same_equiv}
use Rattle.elem.specs.Keyed.{without}
use Rattle.mm_base.specs.KeyedRows.{contains}
use Rattle.mm_base.proofs.KeyedRowsLemmas.{contains_keys, taken_back, none_of, not_not}
use Rattle.graph_base.specs.declared.degrees.Degrees.{Degrees}
use Rattle.graph_base.specs.Counted.{no_degrees, with_new}

-- a key is in no row
pub absent_key : (nodes : List (Elem × Degrees)) (a : Elem) → contains a (keys_of nodes) ≡ false → lookup (same a) nodes ≡ None
absent_key nodes a e = none_of (lookup (same a) nodes) (sym (contains_keys a nodes) ∙ e)

pub taken_new : (nodes mid : List (Elem × Degrees)) (a : Elem) (new : Bool) → new ≡ not (contains a (keys_of nodes)) → mid ≡ with_new new a nodes → cond new (without mid a) mid ≡ nodes
taken_new nodes mid a true e f = ap (λ es. without es a) f ∙ taken_back nodes a no_degrees (absent_key nodes a (sym (not_not (contains a (keys_of nodes))) ∙ ap not (sym e)))
taken_new nodes mid a false e f = f

module _ (nodes : List (Elem × Degrees)) (a : Elem) (w : Degrees) where
  pub written_keys : keys_of (set_value (same a) nodes w) ≡ keys_of nodes
  written_keys = keys-set_value (same a) nodes w

  pub written_finds : IsSome (lookup (same a) nodes) → (x : Elem) → lookup (same x) (set_value (same a) nodes w) ≡ cond (same a x) (Some w) (lookup (same x) nodes)
  written_finds s x = lookup-set_value same_equiv (same a) (λ y z e. ap (λ u. same u z) ((same-Decides a y).0 e)) x w nodes s
