-- What the text of an argument is, where it fits its kind.
use Rattle.std.specs.Prelude.{ℕ, ◌^◌, nat_lt, if◌then◌else◌, ℤ, pos, negsuc, Bool, true, false, ◌&&◌, List, Option, None, Some, Result, Ok, Err}
use Rattle.std.specs.Option.{option_map, option_and_then}
use Rattle.elem.specs.declared.cuts.Cut.{Cut}
use Rattle.elem.specs.declared.cuts.Cut.TheVariants.{Start, Below, Above, End}
use Rattle.elem.specs.declared.elements.Elem.{Elem}
use Rattle.elem.specs.declared.elements.Elem.TheVariants.{Int, Text}
use Rattle.elem.specs.declared.span_texts.SpanFault.{SpanFault}
use Rattle.elem.specs.declared.span_texts.SpanFault.TheVariants as span_fault
use Rattle.elem.specs.declared.spans.Span.{Span}
use Rattle.elem.specs.Spelling.{number_of}
use Rattle.elem.specs.SpanTexts.{checked, span_text}
use Rattle.fn_lang.specs.declared.faults.FnFault.{FnFault}
use Rattle.fn_lang.specs.declared.faults.FnFault.TheVariants.{NotGrammar, TooLarge}
use Rattle.fn_lang.specs.declared.parts.Part.{Part}
use Rattle.script_text.specs.Names.{is_name}
use Rattle.vocabulary.specs.declared.refusals.Refusal.{Refusal}
use Rattle.vocabulary.specs.declared.refusals.Refusal.TheVariants.{IllegalArgument, Limit}

-- a number of 32 bits as an index or a count; one below zero is the index of nothing
abbrev pub index_of : ℤ → Option (Option ℕ)
index_of (pos n) = if nat_lt n (2 ^ 31) then Some (Some n) else None
index_of (negsuc n) = if nat_lt n (2 ^ 31) then Some None else None

-- the index that a text is
abbrev pub index_in : List ℕ → Option (Option ℕ)
index_in text = option_and_then index_of (number_of text)

-- the number that a text is, as an element
abbrev pub whole_in : List ℕ → Option Elem
whole_in text = option_map Int (number_of text)

-- the name that a text is
abbrev pub name_in : List ℕ → Option (List ℕ)
name_in text = if is_name text then Some text else None

-- ---- ranges

-- what is made of a range; one whose ends are out of order is refused
abbrev pub of_range : {X : Type 0} → (Span → X) → Result Span SpanFault → Option (Result X Refusal)
of_range make (Ok range) = Some (Ok (make range))
of_range make (Err span_fault.NotGrammar) = None
of_range make (Err span_fault.Invalid) = Some (Err IllegalArgument)

-- an end is a number, or left open
abbrev pub is_whole_end : Cut → Bool
is_whole_end Start = true
is_whole_end (Below (Int n)) = true
is_whole_end (Below (Text w)) = false
is_whole_end (Above (Int n)) = true
is_whole_end (Above (Text w)) = false
is_whole_end End = true

abbrev pub has_whole_ends : Option Span → Bool
has_whole_ends None = false
has_whole_ends (Some range) = is_whole_end range.lo && is_whole_end range.hi

-- what is made of the range that a text is
abbrev pub by_range : {X : Type 0} → (Span → X) → List ℕ → Option (Result X Refusal)
by_range make text = of_range make (checked (span_text text))

-- what is made of the range of numbers that a text is
abbrev pub by_whole_range : {X : Type 0} → (Span → X) → List ℕ → Option (Result X Refusal)
by_whole_range make text = if has_whole_ends (span_text text) then by_range make text else None

-- ---- predicates and functions

-- what is made of the parts of a predicate or a function; one of more than 64 parts is refused
abbrev pub of_parts : {X : Type 0} → (List Part → X) → Result (List Part) FnFault → Option (Result X Refusal)
of_parts make (Ok parts) = Some (Ok (make parts))
of_parts make (Err NotGrammar) = None
of_parts make (Err TooLarge) = Some (Err Limit)
