-- What a reader gives, in terms of the trees that the text is.
use Rattle.std.proofs.Common.{◌≡◌, ◌↔◌, ℕ, ◌<◌, ◌≤◌, Bool, true, false, cond, List, [], ◌∷◌, length, Option, Some, None, Result, Ok, Err, refl, sym, ap, ◌∙◌, arith}
use Rattle.std.specs.Prelude.{nat_lt}
use Rattle.std.proofs.lemmas.Bool.Decides.{nat_tests}
use Rattle.elem.specs.declared.lexing.Lexeme.{Lexeme}
use Rattle.elem.specs.declared.tokens.Token.{Token}
use Rattle.elem.specs.Lexing.{lexed, kinds_of}
use Rattle.elem.proofs.LexingLaws.{lexed_spells, spells_lexed}
use Rattle.fn_lang.specs.declared.faults.FnFault.{FnFault}
use Rattle.fn_lang.specs.declared.faults.FnFault.TheVariants.{NotGrammar, TooLarge}
use Rattle.fn_lang.specs.declared.parts.Part.{Part}
use Rattle.fn_lang.specs.declared.names.Sort.{Sort}
use Rattle.fn_lang.specs.declared.names.Sort.TheVariants as sorts
use Rattle.fn_lang.specs.declared.steps.Want.TheVariants as wants
use Rattle.fn_lang.specs.Trees.{PredTree, PairTree, FuncTree, pred_parts, pair_parts, func_parts}
use Rattle.fn_lang.specs.Grammar.{HasTokens, is_padded, IsPredText, IsPairText, IsFuncText}
use Rattle.fn_lang.specs.Reading.{parse_all, parts_of, at_most_64, with_parts}
use Rattle.fn_lang.proofs.FoundLaws.{Reads, some_parts, parsed_reads}
use Rattle.fn_lang.proofs.AgainLaws.{parsed_again}
use Rattle.fn_lang.proofs.PartLaws.{pred_one, pair_one, func_one}

-- the text has tokens that spell a tree of the sort with these parts
abbrev HasReading : Sort → List ℕ → List Part → Type 0
HasReading s text ps = (ts : List Token) × HasTokens text ts × Reads s ps ts

tokens_read : (s : Sort) (text : List ℕ) (o : Option (List Lexeme)) (ps : List Part) → is_padded text ≡ false → lexed text ≡ o → parse_all false (wants.Tree s ∷ []) o ≡ some_parts ps → HasReading s text ps
tokens_read s text None ps p e h = absurd cc
tokens_read s text (Some xs) ps p e h = (kinds_of xs, record { lexemes = xs; spelled = lexed_spells 0 0 text xs e; tokens = refl; unpadded = p }, parsed_reads s (kinds_of xs) ps h)

text_read : (s : Sort) (text : List ℕ) (ps : List Part) (padded : Bool) → is_padded text ≡ padded → cond padded None (parse_all false (wants.Tree s ∷ []) (lexed text)) ≡ some_parts ps → HasReading s text ps
text_read s text ps true p h = absurd cc
text_read s text ps false p h = tokens_read s text (lexed text) ps p refl h

read : (s : Sort) (text : List ℕ) (ps : List Part) → parts_of s text ≡ some_parts ps → HasReading s text ps
unfolding parts_of
read s text ps h = text_read s text ps (is_padded text) refl h

again : (s : Sort) (text : List ℕ) (ps : List Part) → HasReading s text ps → parts_of s text ≡ some_parts ps
unfolding parts_of
again s text ps (ts, has, h) =
    let lex : lexed text ≡ Some has.lexemes = spells_lexed 0 0 text has.lexemes has.spelled in
    rw (has.unpadded, lex, has.tokens) (parsed_again s ps ts h)

-- ---- a reader of trees

-- what is found is the parts of the one tree that stands there
pub record Finds (T : Type 0) (parts : T → List Part) (stands : T → Type 0) (found : Option (List Part)) : Type 0 where
  pub read : (ps : List Part) → found ≡ some_parts ps → (tree : T) × stands tree × (ps ≡ parts tree)
  pub again : (tree : T) → stands tree → found ≡ some_parts (parts tree)
  pub same : (a b : T) → parts a ≡ parts b → a ≡ b

abbrev some_result : List Part → Result (List Part) FnFault
some_result ps = Ok ps

abbrev fault : FnFault → Result (List Part) FnFault
fault e = Err e

few : (n : ℕ) → n ≤ 64 → nat_lt 64 n ≡ false
few n h = grind (arith, nat_tests)

many : (n : ℕ) → 64 < n → nat_lt 64 n ≡ true
many n h = grind (arith, nat_tests)

by_few : (n : ℕ) → nat_lt 64 n ≡ false → n ≤ 64
by_few n h = grind (arith, nat_tests)

by_many : (n : ℕ) → nat_lt 64 n ≡ true → 64 < n
by_many n h = grind (arith, nat_tests)

kept : (qs ps : List Part) (large : Bool) → nat_lt 64 (length qs) ≡ large → cond large (fault TooLarge) (some_result qs) ≡ some_result ps → (qs ≡ ps) × (length ps ≤ 64)
kept qs ps true e h = absurd cc
kept qs ps false e h = let f : qs ≡ ps = cc in (f, by_few (length ps) (rw f at e))

not_kept : (qs : List Part) (large : Bool) → nat_lt 64 (length qs) ≡ large → cond large (fault TooLarge) (some_result qs) ≡ fault TooLarge → 64 < length qs
not_kept qs true e h = by_many (length qs) e
not_kept qs false e h = absurd cc

kept_none : (qs : List Part) (large : Bool) → cond large (fault TooLarge) (some_result qs) ≡ fault NotGrammar → ⊥
kept_none qs true h = cc
kept_none qs false h = cc

-- where the answer is these parts, they were found
answered : (o : Option (List Part)) (ps : List Part) → at_most_64 o ≡ some_result ps → (o ≡ some_parts ps) × (length ps ≤ 64)
answered None ps h = absurd cc
answered (Some qs) ps h = let k = kept qs ps (nat_lt 64 (length qs)) refl h in (ap Some k.0, k.1)

too_many : (o : Option (List Part)) → at_most_64 o ≡ fault TooLarge → (ps : List Part) × (o ≡ some_parts ps) × (64 < length ps)
too_many None h = absurd cc
too_many (Some qs) h = (qs, refl, not_kept qs (nat_lt 64 (length qs)) refl h)

no_parts : (o : Option (List Part)) → at_most_64 o ≡ fault NotGrammar → o ≡ None
no_parts None h = refl
no_parts (Some qs) h = absurd (kept_none qs (nat_lt 64 (length qs)) h)

is_none : (o : Option (List Part)) → ((ps : List Part) → o ≡ some_parts ps → ⊥) → o ≡ None
is_none None h = refl
is_none (Some ps) h = absurd (h ps refl)

none_some : (ps : List Part) → None ≡ some_parts ps → ⊥
none_some ps h = cc

-- where its parts are the answer, the tree is
answer_is : {T : Type 0} (parts : T → List Part) (r : Result T FnFault) (ps : List Part) → with_parts parts r ≡ some_result ps → (tree : T) × (r ≡ Ok tree) × (parts tree ≡ ps)
answer_is parts (Ok tree) ps h = (tree, refl, cc)
answer_is parts (Err e) ps h = absurd cc

fault_is : {T : Type 0} (parts : T → List Part) (r : Result T FnFault) (e : FnFault) → with_parts parts r ≡ fault e → r ≡ Err e
fault_is parts (Ok tree) e h = absurd cc
fault_is parts (Err d) e h = cc

some_is : (ps qs : List Part) → some_parts ps ≡ some_parts qs → ps ≡ qs
some_is ps qs h = cc

pub finds_value : {T : Type 0} {parts : T → List Part} {stands : T → Type 0} {found : Option (List Part)} → Finds T parts stands found → (r : Result T FnFault) → with_parts parts r ≡ at_most_64 found → (tree : T) → (r ≡ Ok tree) ↔ (stands tree × (length (parts tree) ≤ 64))
finds_value {T} {parts} {stands} {found} f r is tree = (
  (λ h. let a = answered found (parts tree) (sym is ∙ ap (with_parts parts) h) in let t = f.read (parts tree) a.0 in (rw (sym (f.same tree t.0 t.2)) at t.1, a.1)),
  (λ (s, short). let g : found ≡ some_parts (parts tree) = f.again tree s in let a = answer_is parts r (parts tree) (is ∙ rw (g, few (length (parts tree)) short) refl) in a.1 ∙ ap Ok (f.same a.0 tree a.2)),
)

pub finds_too_large : {T : Type 0} {parts : T → List Part} {stands : T → Type 0} {found : Option (List Part)} → Finds T parts stands found → (r : Result T FnFault) → with_parts parts r ≡ at_most_64 found → (r ≡ Err TooLarge) ↔ ((tree : T) × stands tree × (64 < length (parts tree)))
finds_too_large {T} {parts} {stands} {found} f r is = (
  (λ h. let a = too_many found (sym is ∙ ap (with_parts parts) h) in let t = f.read a.0 a.1 in (t.0, t.1, rw t.2 at a.2)),
  (λ (t, s, long). let g : found ≡ some_parts (parts t) = f.again t s in fault_is parts r TooLarge (is ∙ rw (g, many (length (parts t)) long) refl)),
)

pub finds_none : {T : Type 0} {parts : T → List Part} {stands : T → Type 0} {found : Option (List Part)} → Finds T parts stands found → (r : Result T FnFault) → with_parts parts r ≡ at_most_64 found → (r ≡ Err NotGrammar) ↔ ((tree : T) → stands tree → ⊥)
finds_none {T} {parts} {stands} {found} f r is = (
  (λ h t s. none_some (parts t) (sym (no_parts found (sym is ∙ ap (with_parts parts) h)) ∙ f.again t s)),
  (λ none. let g : found ≡ None = is_none found (λ ps h. let t = f.read ps h in none t.0 t.1) in fault_is parts r NotGrammar (is ∙ rw g refl)),
)

pub finds_one : {T : Type 0} {parts : T → List Part} {stands : T → Type 0} {found : Option (List Part)} → Finds T parts stands found → (a b : T) → stands a → stands b → a ≡ b
finds_one {T} {parts} {stands} {found} f a b s t = f.same a b (some_is (parts a) (parts b) (sym (f.again a s) ∙ f.again b t))

-- ---- the three sorts

pub pred_finds : (text : List ℕ) → Finds PredTree pred_parts (IsPredText text) (parts_of sorts.Pred text)
pred_finds text = record {
  read = λ ps h. let (ts, has, (p, e, i)) = read sorts.Pred text ps h in (p, (ts, has, i), e);
  again = λ p (ts, has, i). again sorts.Pred text (pred_parts p) (ts, has, (p, refl, i));
  same = pred_one;
}

pub pair_finds : (text : List ℕ) → Finds PairTree pair_parts (IsPairText text) (parts_of sorts.PairPred text)
pair_finds text = record {
  read = λ ps h. let (ts, has, (p, e, i)) = read sorts.PairPred text ps h in (p, (ts, has, i), e);
  again = λ p (ts, has, i). again sorts.PairPred text (pair_parts p) (ts, has, (p, refl, i));
  same = pair_one;
}

pub func_finds : (text : List ℕ) → Finds FuncTree func_parts (IsFuncText text) (parts_of sorts.Func text)
func_finds text = record {
  read = λ ps h. let (ts, has, (f, e, i)) = read sorts.Func text ps h in (f, (ts, has, i), e);
  again = λ f (ts, has, i). again sorts.Func text (func_parts f) (ts, has, (f, refl, i));
  same = func_one;
}
