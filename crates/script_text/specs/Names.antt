-- Names, and the words of kinds.
use Rattle.std.specs.Prelude.{ℕ, Bool, not, ◌&&◌, ◌||◌, ◌==◌, List, nat_eq, codes}
use Rattle.std.specs.Cmp.Lexicographic.{pointwise}
use Rattle.std.specs.List.{list_all}
use Rattle.elem.specs.Words.{is_word}
use Rattle.script_text.specs.declared.kinds.KindName.{KindName}
use Rattle.script_text.specs.declared.kinds.KindName.TheVariants.{Word, Long}
use Rattle.script_text.specs.declared.kinds.LongKind.{LongKind}
use Rattle.script_text.specs.declared.kinds.LongKind.TheVariants.{UndirectedValueGraphLoops, ImmutableSetMultimapBuilder, ImmutableListMultimapBuilder}

-- two texts are the same
abbrev pub same_codes : List ℕ → List ℕ → Bool
same_codes = pointwise nat_eq

abbrev pub is_keyword : List ℕ → Bool
is_keyword w = same_codes w (codes "new") || same_codes w (codes "let") || same_codes w (codes "it")

abbrev pub has_no_minus : List ℕ → Bool
has_no_minus w = list_all (λ b. not (b == 45)) w

-- a word without `-` that is none of the three keywords
unfoldable pub is_name : List ℕ → Bool
is_name w = is_word w && (has_no_minus w && not (is_keyword w))

abbrev pub long_text : LongKind → List ℕ
long_text UndirectedValueGraphLoops = codes "UndirectedValueGraphLoops"
long_text ImmutableSetMultimapBuilder = codes "ImmutableSetMultimapBuilder"
long_text ImmutableListMultimapBuilder = codes "ImmutableListMultimapBuilder"

abbrev pub kind_text : KindName → List ℕ
kind_text (Word w) = w
kind_text (Long k) = long_text k

-- one of the three names that are longer than a word
abbrev pub is_long_kind : List ℕ → Bool
is_long_kind k = same_codes k (long_text UndirectedValueGraphLoops) || same_codes k (long_text ImmutableSetMultimapBuilder) || same_codes k (long_text ImmutableListMultimapBuilder)

-- what may stand for a kind
unfoldable pub is_kind : List ℕ → Bool
is_kind k = is_word k || is_long_kind k
