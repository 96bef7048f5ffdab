use Rattle.std.proofs.Common.{◌≡◌, inr, rules}
use Rattle.wave_grammar.specs.declared.form.NodeType.TheVariants as kind
use Rattle.wave_grammar.proofs.NodeTexts.Chars.{char_none}
use Rattle.wave_leaf.specs.Leaves.{leaf_node}
use Rattle.wave_leaf.proofs.LeafReading.BetweenQuotes.{leaf_inside}
use Rattle.wave_leaf.proofs.leaf.LeafToken.as_char.Goals as goal

pub returns-in-None-char_in-clause-gives : goal.returns-in-None-char_in-clause-gives
returns-in-None-char_in-clause-gives c = λ source here.
    let is : c.args.self.now.ty ≡ kind.Char = search rules in
    inr (is, char_none source (leaf_node c.args.self.now) c.in-Some.inside.now is (leaf_inside kind.Char source c.args.self.now c.in-Some.inside.now is here c.in-Some.ensures) c.in-None-char_in.ensures, c.error-in-None-char_in.ensures)
