use Rattle.std.proofs.Common.{ℕ, List, [], ◌∷◌, ◌++◌, ◌∙◌, map, append_assoc, append-nil, refl, ap, sym, subst, arith}
use Rattle.std.specs.declared.ops.Range.{Range}
use Rattle.wave_lex.specs.declared.lex.Token.TheVariants.{Comma, Number}
use Rattle.wave_grammar.specs.NodeTree.{NodeTree, node, no_nodes}
use Rattle.wave_grammar.specs.SpannedTree.{slice}
use Rattle.wave_grammar.specs.declared.form.NodeType.TheVariants as kind
use Rattle.wave_grammar.proofs.Fields.Lookup.{map_last}
use Rattle.wave_tree.specs.Private.ParsedNodes.{number_node}
use Rattle.wave_tree.proofs.ParserCorrectness.BuiltNodes.{source_item}
use Rattle.wave_tree.proofs.ParserCorrectness.NumbersInTurn.{numbers_more, one_asked}
use Rattle.wave_tree.proofs.ParserCorrectness.Steps.{token_less}
use Rattle.wave_tree.proofs.tokens.Tokens.push_number_run.Goals as goal

pub numbers-smaller : goal.numbers-smaller
numbers-smaller g c =
    let (comma, comma_there, number_there) = c.take_number.ensures.taken c.if-not-take_number.false in
    let one = token_less c.numbers.self.place comma Comma comma_there in
    let two = token_less comma c.take_number.new.self.place Number number_there in
    omega arith

pub numbers-init : goal.numbers-init
numbers-init g c = record {
  asks = λ n h. omega arith;
  kept = record {
    places = [];
    turn = refl;
    added = λ of children takes are. subst (λ (z : List NodeTree). g.P.Builder.are_parts c.args.builder c.args.self.now.place.lexer.source of z c.args.parts.now) (sym (append-nil children)) are;
  };
}

pub numbers-preserved : goal.numbers-preserved
numbers-preserved g c =
    let kept = c.numbers.invariant.kept in
    let takes = c.take_number.ensures.taken c.if-not-take_number.false in
    let (comma, comma_there, number_there) = takes in
    let here = c.numbers.self.place in
    let same = source_item comma c.take_number.new.self.place Number number_there ∙ source_item here comma Comma comma_there in record {
      asks = one_asked kept.places c.args.self.now c.numbers.self c.take_number.new.self kept.turn c.numbers.invariant.asks takes (c.take_number.ensures.ahead c.if-not-take_number.false).1;
      kept = record {
        places = kept.places ++ here ∷ [];
        turn = numbers_more kept.places c.args.self.now.place here c.take_number.new.self.place kept.turn takes;
        added = λ of children takes_part are.
            let before = children ++ map number_node kept.places in
            let one = c.in-Ok.ensures.kept here.lexer.source of before (c.slice-text.ensures ∙ ap (slice here.lexer.source) (sym c.span-span.ensures)) (takes_part before) (kept.added of children takes_part are) in
            let placed = subst (λ (z : Range ℕ). g.P.Builder.are_parts c.args.builder here.lexer.source of (before ++ node kind.Number z no_nodes ∷ []) c.push_leaf.new.parts) c.span-span.ensures one in
            let joined = append_assoc children (map number_node kept.places) (number_node here ∷ []) ∙ ap (λ (z : List NodeTree). children ++ z) (sym (map_last number_node kept.places here)) in
            subst (λ (z : List ℕ). g.P.Builder.are_parts c.args.builder z of (children ++ map number_node (kept.places ++ here ∷ [])) c.push_leaf.new.parts) (sym same)
            (subst (λ (z : List NodeTree). g.P.Builder.are_parts c.args.builder here.lexer.source of z c.push_leaf.new.parts) joined placed);
      };
    }

pub returns-in-Err-clause-takes : goal.returns-in-Err-clause-takes
returns-in-Err-clause-takes g c = λ of children takes are.
    let kept = c.numbers.invariant.kept in
    c.in-Err.ensures.memory c.numbers.self.place.lexer.source of (children ++ map number_node kept.places) (kept.added of children takes are)

pub returns-in-Err-clause-asks : goal.returns-in-Err-clause-asks
returns-in-Err-clause-asks g c =
    let kept = c.numbers.invariant.kept in
    one_asked kept.places c.args.self.now c.numbers.self c.take_number.new.self kept.turn c.numbers.invariant.asks (c.take_number.ensures.taken c.if-not-take_number.false) (c.take_number.ensures.ahead c.if-not-take_number.false).1
