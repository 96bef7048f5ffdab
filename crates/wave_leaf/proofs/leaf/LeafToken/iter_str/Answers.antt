use Rattle.std.proofs.Common.{inl, ap}
use Rattle.wave_lex.specs.Parts.{left_of}
use Rattle.wave_grammar.specs.declared.form.NodeType.TheVariants as kind
use Rattle.wave_leaf.proofs.LeafReading.BetweenQuotes.{leaf_inside, not_bare, opened}
use Rattle.wave_leaf.proofs.leaf.LeafToken.iter_str.Goals as goal

pub returns-in-Some : goal.returns-in-Some
returns-in-Some c = λ source here quoted.
    (c.in-Some.inside.now, leaf_inside kind.String source c.args.self.now c.in-Some.inside.now c.in-String.is here c.in-Some.ensures, inl (c.in-String.is, ap left_of c.new.ensures))

pub returns-in-None : goal.returns-in-None
returns-in-None c = λ source here quoted. absurd (not_bare kind.String c.args.self.now c.in-String.is quoted c.in-None.ensures)

pub returns-in-Some-inside : goal.returns-in-Some-inside
returns-in-Some-inside c = λ source here quoted.
    opened source c.args.self.now c.in-Some-inside.inside.now c.new_multiline.result c.in-MultilineString.is (leaf_inside kind.MultilineString source c.args.self.now c.in-Some-inside.inside.now c.in-MultilineString.is here c.in-Some-inside.ensures) c.new_multiline.ensures

pub returns-in-None-inside : goal.returns-in-None-inside
returns-in-None-inside c = λ source here quoted. absurd (not_bare kind.MultilineString c.args.self.now c.in-MultilineString.is quoted c.in-None-inside.ensures)
