-- The parts that are read of a text, and what is found along them.
use Rattle.std.proofs.Common.{◌≡◌, ℕ, ◌-◌, ◌<◌, ◌≤◌, Bool, true, false, List, [], ◌∷◌, ◌++◌, length, take, Option, Some, None, Ok, Err, refl, sym, ap, ◌∙◌, arith}
use Rattle.std.specs.Prelude.{nat_lt}
use Rattle.std.proofs.lemmas.Bool.Decides.{nat_tests}
use Rattle.std.proofs.lemmas.List.{take_all}
use Rattle.elem.specs.Lexing.{lexed}
use Rattle.fn_lang.specs.declared.names.Sort.{Sort}
use Rattle.fn_lang.specs.declared.steps.Want.TheVariants as wants
use Rattle.elem.specs.Lexing.{kinds_of}
use Rattle.elem.specs.declared.lexing.Lexeme.{Lexeme}
use Rattle.elem.specs.declared.tokens.Token.{Token}
use Rattle.fn_lang.specs.declared.faults.FnFault.TheVariants.{NotGrammar, TooLarge}
use Rattle.fn_lang.specs.declared.names.Sort.TheVariants as sorts
use Rattle.fn_lang.specs.Grammar.{is_padded}
use Rattle.fn_lang.specs.Reading.{parse_all, parts_of, reading}
use Rattle.fn_lang.proofs.FoundLaws.{Reads, some_parts, parsed_reads}
use Rattle.fn_lang.specs.declared.parts.Part.{Part}
use Rattle.fn_lang.specs.Flat.{IsSort, IsPred, IsPairPred, IsFunc}
use Rattle.elem.specs.declared.elements.Elem.{Elem}
use Rattle.fn_lang.specs.PartTrees.{pred_of, pair_of, func_of, pred_of-parts, pair_of-parts, func_of-parts}
use Rattle.fn_lang.specs.Trees.{PredTree, PairTree, FuncTree, pred_parts, pair_parts, func_parts}
use Rattle.fn_lang.specs.Meaning.{pred_holds, pair_holds, func_value, HoldsAlong, PairHoldsAlong, GivesAlong}
use Rattle.fn_lang.proofs.TreeLaws.{along_all, pair_all, gives_all}

short_parts : (xs ps : List Part) → xs ≡ take 64 ps → length ps ≤ 64 → xs ≡ ps
short_parts xs ps e h = e ∙ take_all 64 ps h

few : (n : ℕ) → n ≤ 64 → nat_lt 64 n ≡ false
few n h = grind (arith, nat_tests)

many : (n : ℕ) → 64 < n → nat_lt 64 n ≡ true
many n h = grind (arith, nat_tests)

pub padded_none : (s : Sort) (text : List ℕ) → true ≡ is_padded text → reading s text ≡ Err NotGrammar
unfolding parts_of
padded_none s text p = rw (sym p) refl

pub unparsed_none : (s : Sort) (text : List ℕ) → false ≡ is_padded text → parse_all false (wants.Tree s ∷ []) (lexed text) ≡ None → reading s text ≡ Err NotGrammar
unfolding parts_of
unparsed_none s text p e = rw (sym p, e) refl

pub reading_found : (s : Sort) (text : List ℕ) (xs ps : List Part) → false ≡ is_padded text → parse_all false (wants.Tree s ∷ []) (lexed text) ≡ Some ps → xs ≡ take 64 ps → length ps ≤ 64 → reading s text ≡ Ok xs
unfolding parts_of
reading_found s text xs ps p e k h = rw (sym p, e, short_parts xs ps k h, few (length ps) h) refl

pub reading_large : (s : Sort) (text : List ℕ) (ps : List Part) → false ≡ is_padded text → parse_all false (wants.Tree s ∷ []) (lexed text) ≡ Some ps → 64 < length ps → reading s text ≡ Err TooLarge
unfolding parts_of
reading_large s text ps p e h = rw (sym p, e, many (length ps) h) refl

is_sort : (s : Sort) (ps : List Part) (ts : List Token) → Reads s ps ts → IsSort s ps
is_sort sorts.Pred ps ts (p, e, h) = (p, e)
is_sort sorts.PairPred ps ts (p, e, h) = (p, e)
is_sort sorts.Func ps ts (p, e, h) = (p, e)

sort_as : (s : Sort) (ps qs : List Part) → ps ≡ qs → IsSort s qs → IsSort s ps
sort_as s ps qs e h = rw e h

parsed_is : (s : Sort) (o : Option (List Lexeme)) (ps : List Part) → parse_all false (wants.Tree s ∷ []) o ≡ some_parts ps → IsSort s ps
parsed_is s None ps h = absurd cc
parsed_is s (Some xs) ps h = is_sort s ps (kinds_of xs) (parsed_reads s (kinds_of xs) ps h)

pub reading_sort : (s : Sort) (text : List ℕ) (xs ps : List Part) → parse_all false (wants.Tree s ∷ []) (lexed text) ≡ Some ps → xs ≡ take 64 ps → length ps ≤ 64 → IsSort s xs
reading_sort s text xs ps e k h = sort_as s xs ps (short_parts xs ps k h) (parsed_is s (lexed text) ps e)

-- ---- what is found along the parts is the meaning of the tree that they are

pub pred_meaning : (x : Elem) (ps rest : List Part) (truth : Bool) (tree : PredTree) → HoldsAlong x ps truth rest → IsPred ps → pred_of ps ≡ tree → truth ≡ pred_holds tree x
pred_meaning x ps rest truth tree along (p, e) is = along_all x ps rest truth p along e ∙ ap (λ (q : PredTree). pred_holds q x) (sym (pred_of-parts p) ∙ ap pred_of (sym e) ∙ is)

pub pair_meaning : (k v : Elem) (ps rest : List Part) (truth : Bool) (tree : PairTree) → PairHoldsAlong k v ps truth rest → IsPairPred ps → pair_of ps ≡ tree → truth ≡ pair_holds tree k v
pair_meaning k v ps rest truth tree along (p, e) is = pair_all k v ps rest truth p along e ∙ ap (λ (q : PairTree). pair_holds q k v) (sym (pair_of-parts p) ∙ ap pair_of (sym e) ∙ is)

pub func_meaning : (x : Elem) (ps rest : List Part) (value : Elem) (tree : FuncTree) → GivesAlong x ps value rest → IsFunc ps → func_of ps ≡ tree → value ≡ func_value tree x
func_meaning x ps rest value tree along (f, e) is = gives_all x ps rest value f along e ∙ ap (λ (g : FuncTree). func_value g x) (sym (func_of-parts f) ∙ ap func_of (sym e) ∙ is)
