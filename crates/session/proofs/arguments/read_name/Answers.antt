use Rattle.std.proofs.Common.{◌≡◌, ℕ, ◌&&◌, Bool, true, false, List, Option, None, Some, cond, refl, ◌∙◌}
use Rattle.script_text.specs.Names.{is_name}
use Rattle.session.proofs.arguments.read_name.Goals as goal

-- what is no word is no name
no_word : (b c : Bool) (text : List ℕ) → (let none : Option (List ℕ) = None in none) ≡ cond b (Some text) None → (let none : Option (List ℕ) = None in none) ≡ cond (b && c) (Some text) None
no_word true c text e = cc
no_word false c text e = refl

pub returns-in_err-word : goal.returns-in_err-word
unfolding is_name
returns-in_err-word c = c.from_residual.ensures ∙ no_word _ _ c.args.text.now c.in_err-word.ensures
