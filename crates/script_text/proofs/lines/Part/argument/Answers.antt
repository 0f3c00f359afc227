use Rattle.std.proofs.Common.{◌∙◌, sym, map}
use Rattle.std.proofs.Math.ListN.{get_or-map}
use Rattle.script_text.specs.Trees.{piece, no_slice}
use Rattle.script_text.proofs.PartTexts.{so_many-there, so_many-missing}
use Rattle.script_text.proofs.lines.Part.argument.Goals as goal

pub returns-then-i-self : goal.returns-then-i-self
returns-then-i-self c =
    c.of.ensures
    ∙ sym (so_many-there c.args.self.now.count (map (piece c.args.line.now) c.args.self.now.args) c.args.i c.if-i-self.true ∙ get_or-map (piece c.args.line.now) c.args.self.now.args c.args.i no_slice)

pub returns-else-i-self : goal.returns-else-i-self
returns-else-i-self c = sym (so_many-missing c.args.self.now.count (map (piece c.args.line.now) c.args.self.now.args) c.args.i c.if-i-self.false)
