use Rattle.std.proofs.Common.{ap, sym, ◌∙◌}
use Rattle.elem.specs.Lexing.{lexed_from}
use Rattle.script_text.specs.Trees.{map_tree, part_of}
use Rattle.script_text.specs.Lines.{tree_or_fault, form_of}
use Rattle.script_text.proofs.ReaderLaws.{form_word}
use Rattle.script_text.proofs.reader.statement.Goals as goal

pub returns-in-Word : goal.returns-in-Word
returns-in-Word c =
    c.with_word.ensures
    ∙ ap (map_tree part_of) (sym (ap (tree_or_fault form_of) c.in-Next.ensures.ahead ∙ form_word c.in-Next.token c.in-Word.word (lexed_from c.args.line.now c.in-Next.token.end) c.in-Word.is))
