-- The tokens that spell a tree are read as its parts.
use Rattle.std.proofs.Common.{◌≡◌, inl, inr, ℕ, Bool, true, false, List, [], ◌∷◌, ◌++◌, Some, refl, ap, ◌∙◌, append_assoc}
use Rattle.std.proofs.lemmas.List.{append-nil}
use Rattle.std.specs.Prelude.{codes}
use Rattle.std.specs.Option.{option_map}
use Rattle.elem.specs.declared.elements.Elem.{Elem}
use Rattle.elem.specs.declared.elements.Elem.TheVariants.{Int, Text}
use Rattle.elem.specs.declared.tokens.Token.{Token}
use Rattle.elem.specs.declared.tokens.Token.TheVariants as tokens
use Rattle.elem.specs.declared.tokens.Sign.TheVariants as signs
use Rattle.elem.specs.SpanTexts.{element_of, element_token}
use Rattle.fn_lang.specs.declared.leaves.Test.{Test}
use Rattle.fn_lang.specs.declared.leaves.Test.TheVariants as tests
use Rattle.fn_lang.specs.declared.leaves.Map.{Map}
use Rattle.fn_lang.specs.declared.leaves.Map.TheVariants as maps
use Rattle.fn_lang.specs.declared.parts.Part.{Part}
use Rattle.fn_lang.specs.declared.parts.Part.TheVariants as parts
use Rattle.fn_lang.specs.declared.names.Sort.{Sort}
use Rattle.fn_lang.specs.declared.names.Sort.TheVariants as sorts
use Rattle.fn_lang.specs.declared.names.Given.{Given}
use Rattle.fn_lang.specs.declared.names.Given.TheVariants as given
use Rattle.fn_lang.specs.declared.names.Inner.TheVariants.{One, Two, Three}
use Rattle.fn_lang.specs.declared.steps.Want.{Want}
use Rattle.fn_lang.specs.declared.steps.Want.TheVariants as wants
use Rattle.fn_lang.specs.declared.names.Shape.TheVariants as shapes
use Rattle.fn_lang.specs.Trees.{PredTree, PairTree, FuncTree, One as Single, And, Or, Not, OfKey, OfValue, Both, Either, Neither, Leaf, Then, When, pred_parts, pair_parts, func_parts}
use Rattle.fn_lang.specs.Grammar.{applied, with_comma, IsAlone, SpellsTest, SpellsMap, SpellsPred, SpellsPair, SpellsFunc}
use Rattle.fn_lang.specs.Reading.{shape_of, pred_shape, pair_shape, func_shape, given_part, parse, is_open}
use Rattle.fn_lang.proofs.FoundLaws.{Reads, some_parts, some_part}

abbrev bracket : Token
bracket = tokens.Sign signs.Open

abbrev comma : Token
comma = tokens.Sign signs.Comma

abbrev shut : Token
shut = tokens.Sign signs.Close

abbrev opens : List Token → Bool
opens [] = false
opens (t ∷ ts) = is_open t

-- where no bracket is next, empty brackets are not
bare_plain : (ws : List Want) (rest : List Token) → opens rest ≡ false → parse true ws rest ≡ parse false ws rest
unfolding parse
bare_plain ws [] h = refl
bare_plain ws (t ∷ ts) h = rw h refl

-- the tokens are read as these parts, whatever follows but a bracket
unfoldable Again : Sort → List Part → List Token → Type 0
Again s ps ts = (ws : List Want) (rest : List Token) (qs : List Part) → opens rest ≡ false → parse false ws rest ≡ some_parts qs → parse false (wants.Tree s ∷ ws) (ts ++ rest) ≡ some_parts (ps ++ qs)

-- ---- one token

closes : (ws : List Want) (rest : List Token) (qs : List Part) → parse false ws rest ≡ some_parts qs → parse false (wants.Close ∷ ws) (shut ∷ rest) ≡ some_parts qs
unfolding parse
closes ws rest qs h = rw h refl

name_bare : (s : Sort) (w : List ℕ) (p : Part) (ws : List Want) (rest : List Token) (qs : List Part) → shape_of s w ≡ Some (shapes.Alone p) → parse true ws rest ≡ some_parts qs → parse false (wants.Tree s ∷ ws) (tokens.Word w ∷ rest) ≡ some_parts (p ∷ qs)
unfolding parse
name_bare s w p ws rest qs e h = rw (e, h) refl

brackets_bare : (ws : List Want) (rest : List Token) (qs : List Part) → parse false (wants.Close ∷ ws) rest ≡ some_parts qs → parse true ws (bracket ∷ rest) ≡ some_parts qs
unfolding parse
brackets_bare ws rest qs h = h

name_given : (s : Sort) (w : List ℕ) (g : Given) (t : Token) (p : Part) (ws : List Want) (rest : List Token) (qs : List Part) → shape_of s w ≡ Some (shapes.Given g) → given_part g t ≡ some_part p → parse false (wants.Close ∷ ws) rest ≡ some_parts qs
    → parse false (wants.Tree s ∷ ws) (tokens.Word w ∷ bracket ∷ t ∷ rest) ≡ some_parts (p ∷ qs)
unfolding parse
name_given s w g t p ws rest qs e f h = rw (e, f, h) refl

name_one : (s a : Sort) (w : List ℕ) (p : Part) (ws : List Want) (rest : List Token) (qs : List Part) → shape_of s w ≡ Some (shapes.Node p (One a)) → parse false (wants.Tree a ∷ wants.Close ∷ ws) rest ≡ some_parts qs
    → parse false (wants.Tree s ∷ ws) (tokens.Word w ∷ bracket ∷ rest) ≡ some_parts (p ∷ qs)
unfolding parse
name_one s a w p ws rest qs e h = rw (e, h) refl

name_two : (s a b : Sort) (w : List ℕ) (p : Part) (ws : List Want) (rest : List Token) (qs : List Part) → shape_of s w ≡ Some (shapes.Node p (Two a b)) → parse false (wants.Tree a ∷ wants.Comma (One b) ∷ ws) rest ≡ some_parts qs
    → parse false (wants.Tree s ∷ ws) (tokens.Word w ∷ bracket ∷ rest) ≡ some_parts (p ∷ qs)
unfolding parse
name_two s a b w p ws rest qs e h = rw (e, h) refl

name_three : (s a b c : Sort) (w : List ℕ) (p : Part) (ws : List Want) (rest : List Token) (qs : List Part) → shape_of s w ≡ Some (shapes.Node p (Three a b c)) → parse false (wants.Tree a ∷ wants.Comma (Two b c) ∷ ws) rest ≡ some_parts qs
    → parse false (wants.Tree s ∷ ws) (tokens.Word w ∷ bracket ∷ rest) ≡ some_parts (p ∷ qs)
unfolding parse
name_three s a b c w p ws rest qs e h = rw (e, h) refl

comma_one : (a : Sort) (ws : List Want) (rest : List Token) (qs : List Part) → parse false (wants.Tree a ∷ wants.Close ∷ ws) rest ≡ some_parts qs → parse false (wants.Comma (One a) ∷ ws) (comma ∷ rest) ≡ some_parts qs
unfolding parse
comma_one a ws rest qs h = rw h refl

comma_two : (a b : Sort) (ws : List Want) (rest : List Token) (qs : List Part) → parse false (wants.Tree a ∷ wants.Comma (One b) ∷ ws) rest ≡ some_parts qs → parse false (wants.Comma (Two a b) ∷ ws) (comma ∷ rest) ≡ some_parts qs
unfolding parse
comma_two a b ws rest qs h = rw h refl

-- ---- one name with its brackets

alone_again : (s : Sort) (w : List ℕ) (p : Part) (ts : List Token) → shape_of s w ≡ Some (shapes.Alone p) → IsAlone w ts → Again s (p ∷ []) ts
unfolding Again
alone_again s w p ts e (inl is) ws rest qs plain h = rw is (name_bare s w p ws rest qs e (bare_plain ws rest plain ∙ h))
alone_again s w p ts e (inr is) ws rest qs plain h = rw is (name_bare s w p ws (bracket ∷ shut ∷ rest) qs e (brackets_bare ws (shut ∷ rest) qs (closes ws rest qs h)))

given_again : (s : Sort) (w : List ℕ) (g : Given) (t : Token) (p : Part) (ts : List Token) → shape_of s w ≡ Some (shapes.Given g) → given_part g t ≡ some_part p → ts ≡ applied w (t ∷ []) → Again s (p ∷ []) ts
unfolding Again
given_again s w g t p ts e f is ws rest qs plain h = rw is (name_given s w g t p ws (shut ∷ rest) qs e f (closes ws rest qs h))

-- the last of those in brackets
last_again : (a : Sort) (f : List Part) (u : List Token) (ws : List Want) (rest : List Token) (qs : List Part) → Again a f u → parse false ws rest ≡ some_parts qs → parse false (wants.Tree a ∷ wants.Close ∷ ws) (u ++ (shut ∷ rest)) ≡ some_parts (f ++ qs)
unfolding Again
last_again a f u ws rest qs again h = again (wants.Close ∷ ws) (shut ∷ rest) qs refl (closes ws rest qs h)

-- the last two
two_again : (a b : Sort) (f g : List Part) (u v : List Token) (ws : List Want) (rest : List Token) (qs : List Part) → Again a f u → Again b g v → parse false ws rest ≡ some_parts qs
    → parse false (wants.Tree a ∷ wants.Comma (One b) ∷ ws) (u ++ (comma ∷ (v ++ (shut ∷ rest)))) ≡ some_parts (f ++ (g ++ qs))
unfolding Again
two_again a b f g u v ws rest qs first second h = first (wants.Comma (One b) ∷ ws) (comma ∷ (v ++ (shut ∷ rest))) (g ++ qs) refl (comma_one b ws (v ++ (shut ∷ rest)) (g ++ qs) (last_again b g v ws rest qs second h))

three_again : (a b c : Sort) (f g i : List Part) (u v w : List Token) (ws : List Want) (rest : List Token) (qs : List Part) → Again a f u → Again b g v → Again c i w → parse false ws rest ≡ some_parts qs
    → parse false (wants.Tree a ∷ wants.Comma (Two b c) ∷ ws) (u ++ (comma ∷ (v ++ (comma ∷ (w ++ (shut ∷ rest)))))) ≡ some_parts (f ++ (g ++ (i ++ qs)))
unfolding Again
three_again a b c f g i u v w ws rest qs first second third h =
    first (wants.Comma (Two b c) ∷ ws) (comma ∷ (v ++ (comma ∷ (w ++ (shut ∷ rest))))) (g ++ (i ++ qs)) refl (comma_two b c ws (v ++ (comma ∷ (w ++ (shut ∷ rest)))) (g ++ (i ++ qs)) (two_again b c g i v w ws rest qs second third h))

one_tokens : (u rest : List Token) → (u ++ (shut ∷ [])) ++ rest ≡ u ++ (shut ∷ rest)
one_tokens u rest = append_assoc u (shut ∷ []) rest

two_tokens : (u v rest : List Token) → (with_comma u v ++ (shut ∷ [])) ++ rest ≡ u ++ (comma ∷ (v ++ (shut ∷ rest)))
two_tokens u v rest = one_tokens (with_comma u v) rest ∙ append_assoc u (comma ∷ v) (shut ∷ rest)

three_tokens : (u v w rest : List Token) → (with_comma u (with_comma v w) ++ (shut ∷ [])) ++ rest ≡ u ++ (comma ∷ (v ++ (comma ∷ (w ++ (shut ∷ rest)))))
three_tokens u v w rest = two_tokens u (with_comma v w) rest ∙ ap (λ (l : List Token). u ++ (comma ∷ l)) (append_assoc v (comma ∷ w) (shut ∷ rest))

node_one : (s a : Sort) (w : List ℕ) (p : Part) (f : List Part) (u ts : List Token) → shape_of s w ≡ Some (shapes.Node p (One a)) → Again a f u → ts ≡ applied w u → Again s (p ∷ f) ts
unfolding Again
node_one s a w p f u ts e first is ws rest qs plain h =
    rw (is, one_tokens u rest) (name_one s a w p ws (u ++ (shut ∷ rest)) (f ++ qs) e (last_again a f u ws rest qs first h))

node_two : (s a b : Sort) (w : List ℕ) (p : Part) (f g : List Part) (u v ts : List Token) → shape_of s w ≡ Some (shapes.Node p (Two a b)) → ts ≡ applied w (with_comma u v) → Again a f u → Again b g v → Again s (p ∷ (f ++ g)) ts
unfolding Again
node_two s a b w p f g u v ts e is first second ws rest qs plain h =
    rw (is, two_tokens u v rest, append_assoc f g qs) (name_two s a b w p ws (u ++ (comma ∷ (v ++ (shut ∷ rest)))) (f ++ (g ++ qs)) e (two_again a b f g u v ws rest qs first second h))

node_three : (s a b c : Sort) (w : List ℕ) (p : Part) (f g i : List Part) (u v x ts : List Token) → shape_of s w ≡ Some (shapes.Node p (Three a b c)) → ts ≡ applied w (with_comma u (with_comma v x)) → Again a f u → Again b g v → Again c i x → Again s (p ∷ (f ++ (g ++ i))) ts
unfolding Again
node_three s a b c w p f g i u v x ts e is first second third ws rest qs plain h =
    rw (is, three_tokens u v x rest, append_assoc f (g ++ i) qs, append_assoc g i qs) (name_three s a b c w p ws (u ++ (comma ∷ (v ++ (comma ∷ (x ++ (shut ∷ rest)))))) (f ++ (g ++ (i ++ qs))) e (three_again a b c f g i u v x ws rest qs first second third h))

-- ---- trees

element_again : (x : Elem) → element_of (element_token x) ≡ Some x
element_again (Int n) = refl
element_again (Text w) = refl

test_again : (ts : List Token) (t : Test) → SpellsTest ts t → Again sorts.Pred (parts.Test t ∷ []) ts
unfolding pred_shape
test_again ts tests.Any h = alone_again sorts.Pred (codes "any") (parts.Test tests.Any) ts refl h
test_again ts tests.IsInt h = alone_again sorts.Pred (codes "isInt") (parts.Test tests.IsInt) ts refl h
test_again ts tests.Even h = alone_again sorts.Pred (codes "even") (parts.Test tests.Even) ts refl h
test_again ts tests.Odd h = alone_again sorts.Pred (codes "odd") (parts.Test tests.Odd) ts refl h
test_again ts (tests.Below x) h = given_again sorts.Pred (codes "lt") given.Below (element_token x) (parts.Test (tests.Below x)) ts refl (ap (option_map (λ y. parts.Test (tests.Below y))) (element_again x)) h
test_again ts (tests.Above x) h = given_again sorts.Pred (codes "gt") given.Above (element_token x) (parts.Test (tests.Above x)) ts refl (ap (option_map (λ y. parts.Test (tests.Above y))) (element_again x)) h
test_again ts (tests.Same x) h = given_again sorts.Pred (codes "eq") given.Same (element_token x) (parts.Test (tests.Same x)) ts refl (ap (option_map (λ y. parts.Test (tests.Same y))) (element_again x)) h
test_again ts (tests.Starts t) h = given_again sorts.Pred (codes "starts") given.Starts (tokens.Word t) (parts.Test (tests.Starts t)) ts refl refl h

map_again : (ts : List Token) (m : Map) → SpellsMap ts m → Again sorts.Func (parts.Map m ∷ []) ts
unfolding func_shape
map_again ts (maps.Plus n) h = given_again sorts.Func (codes "plus") given.Plus (tokens.Number n) (parts.Map (maps.Plus n)) ts refl refl h
map_again ts (maps.Times n) h = given_again sorts.Func (codes "times") given.Times (tokens.Number n) (parts.Map (maps.Times n)) ts refl refl h
map_again ts maps.Negate h = alone_again sorts.Func (codes "neg") (parts.Map maps.Negate) ts refl h
map_again ts maps.Length h = alone_again sorts.Func (codes "len") (parts.Map maps.Length) ts refl h
map_again ts (maps.Const x) h = given_again sorts.Func (codes "const") given.Const (element_token x) (parts.Map (maps.Const x)) ts refl (ap (option_map (λ y. parts.Map (maps.Const y))) (element_again x)) h
map_again ts (maps.Prefix t) h = given_again sorts.Func (codes "prefix") given.Prefix (tokens.Word t) (parts.Map (maps.Prefix t)) ts refl refl h

pred_again : (p : PredTree) (ts : List Token) → SpellsPred ts p → Again sorts.Pred (pred_parts p) ts
unfolding pred_shape
pred_again (Single t) ts h = test_again ts t h
pred_again (And p q) ts (a, b, e, f, g) = node_two sorts.Pred sorts.Pred sorts.Pred (codes "and") parts.And (pred_parts p) (pred_parts q) a b ts refl e (pred_again p a f) (pred_again q b g)
pred_again (Or p q) ts (a, b, e, f, g) = node_two sorts.Pred sorts.Pred sorts.Pred (codes "or") parts.Or (pred_parts p) (pred_parts q) a b ts refl e (pred_again p a f) (pred_again q b g)
pred_again (Not p) ts (a, e, f) = node_one sorts.Pred sorts.Pred (codes "not") parts.Not (pred_parts p) a ts refl (pred_again p a f) e

pair_again : (p : PairTree) (ts : List Token) → SpellsPair ts p → Again sorts.PairPred (pair_parts p) ts
unfolding pair_shape
pair_again (OfKey p) ts (a, e, f) = node_one sorts.PairPred sorts.Pred (codes "key") parts.Key (pred_parts p) a ts refl (pred_again p a f) e
pair_again (OfValue p) ts (a, e, f) = node_one sorts.PairPred sorts.Pred (codes "value") parts.Value (pred_parts p) a ts refl (pred_again p a f) e
pair_again (Both p q) ts (a, b, e, f, g) = node_two sorts.PairPred sorts.PairPred sorts.PairPred (codes "and") parts.And (pair_parts p) (pair_parts q) a b ts refl e (pair_again p a f) (pair_again q b g)
pair_again (Either p q) ts (a, b, e, f, g) = node_two sorts.PairPred sorts.PairPred sorts.PairPred (codes "or") parts.Or (pair_parts p) (pair_parts q) a b ts refl e (pair_again p a f) (pair_again q b g)
pair_again (Neither p) ts (a, e, f) = node_one sorts.PairPred sorts.PairPred (codes "not") parts.Not (pair_parts p) a ts refl (pair_again p a f) e

func_again : (f : FuncTree) (ts : List Token) → SpellsFunc ts f → Again sorts.Func (func_parts f) ts
unfolding func_shape
func_again (Leaf m) ts h = map_again ts m h
func_again (Then f g) ts (a, b, e, i, j) = node_two sorts.Func sorts.Func sorts.Func (codes "then") parts.Then (func_parts f) (func_parts g) a b ts refl e (func_again f a i) (func_again g b j)
func_again (When p f g) ts (a, b, c, e, h, i, j) = node_three sorts.Func sorts.Pred sorts.Func sorts.Func (codes "when") parts.When (pred_parts p) (func_parts f) (func_parts g) a b c ts refl e (pred_again p a h) (func_again f b i) (func_again g c j)

-- ---- whole texts

reads_again : (s : Sort) (ps : List Part) (ts : List Token) → Reads s ps ts → Again s ps ts
reads_again sorts.Pred ps ts (p, e, h) = rw e (pred_again p ts h)
reads_again sorts.PairPred ps ts (p, e, h) = rw e (pair_again p ts h)
reads_again sorts.Func ps ts (f, e, h) = rw e (func_again f ts h)

nothing_left : parse false [] [] ≡ some_parts []
unfolding parse
nothing_left = refl

whole_again : (s : Sort) (ps : List Part) (ts : List Token) → Again s ps ts → parse false (wants.Tree s ∷ []) ts ≡ some_parts ps
unfolding Again
whole_again s ps ts again =
    let h = again [] [] [] refl nothing_left in
    let e : ts ++ [] ≡ ts = append-nil ts in
    let f : ps ++ [] ≡ ps = append-nil ps in
    rw (e, f) at h

pub parsed_again : (s : Sort) (ps : List Part) (ts : List Token) → Reads s ps ts → parse false (wants.Tree s ∷ []) ts ≡ some_parts ps
parsed_again s ps ts h = whole_again s ps ts (reads_again s ps ts h)
