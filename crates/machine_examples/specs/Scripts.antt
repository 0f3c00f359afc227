-- Scripts: each line with its reply.
use Prim.Native.String.{String}
use Rattle.std.specs.Prelude.{◌≡◌, ℕ, nat_eq, if◌then◌else◌, List, [], ◌∷◌, map, flat_map, Option, None, Some, ⊤, codes}
use Rattle.std.specs.Fmt.{digits}
use Rattle.std.specs.Int.{int_wrap}
use Rattle.elem.specs.Cuts.{same_cut}
use Rattle.elem.specs.Elements.{same, natural_order}
use Rattle.elem.specs.Lexing.{lexed_past}
use Rattle.elem.specs.Orders.{length_order}
use Rattle.elem.specs.SpanTexts.{extent, span_of, span_text}
use Rattle.elem.specs.Spelling.{number_of}
use Rattle.elem.specs.Tokens.{begins_infinity, begins_dot, sign_of, kind_at}
use Rattle.elem.specs.Words.{starts_word, is_digit, continues_word, is_word}
use Rattle.fn_lang.specs.Reading.{pred_shape, pair_shape, func_shape, parse, parts_of}
use Rattle.fn_lang.specs.Trees.{uncons}
use Rattle.script_text.specs.Lines.{is_comment, placed_line}
use Rattle.script_text.specs.Names.{is_name, is_kind}
use Rattle.script_text.specs.Stages.{reading}
use Rattle.vocabulary.specs.Kinds as kinds
use Rattle.vocabulary.specs.Words as words
use Rattle.machine.specs.Languages.{whole}
use Rattle.machine.specs.Lines.{replies}
use Rattle.machine.specs.Meanings.{typed_word}
use Rattle.machine.specs.State.{State, empty}

-- what is unfolded to compute a script
unfoldable pub literally : ⊤
unfolding digits int_wrap same_cut same natural_order lexed_past length_order extent span_of span_text number_of begins_infinity begins_dot sign_of kind_at starts_word is_digit continues_word is_word pred_shape pair_shape func_shape parse parts_of uncons is_comment placed_line is_name is_kind reading kinds.chosen words.chosen words.rows_of words.signature typed_word
literally = tt

-- the bytes of a sign: `∞` has three, any other one
abbrev pub bytes_of_sign : ℕ → List ℕ
bytes_of_sign c = if nat_eq c 8734 then 226 ∷ 136 ∷ 158 ∷ [] else c ∷ []

abbrev pub bytes : String → List ℕ
bytes text = flat_map bytes_of_sign (codes text)

-- the reply that a text is; an empty one is none
abbrev pub reply_in : List ℕ → Option (List ℕ)
reply_in [] = None
reply_in (b ∷ text) = Some (b ∷ text)

-- the lines, one after another from a state, have these replies
abbrev pub RunsFrom : State → List (String × String) → Type 0
RunsFrom state script = replies whole state (map (λ (e : String × String). bytes e.0) script) ≡ map (λ (e : String × String). reply_in (bytes e.1)) script

-- and from the state with nothing in it
abbrev pub Runs : List (String × String) → Type 0
Runs script = RunsFrom empty script

-- the state in which so many handles were taken
abbrev pub with_handles : ℕ → State
with_handles n = record { bases = []; names = []; handles = n }
