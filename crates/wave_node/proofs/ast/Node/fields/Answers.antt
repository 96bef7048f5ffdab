use Rattle.std.proofs.Common.{arith, map, take, refl}
use Rattle.wave_grammar.specs.NodeAccessors.{node_pairs}
use Rattle.wave_grammar.specs.NodeFields.{field_of, RefusesFields}
use Rattle.wave_grammar.proofs.ByKind.Lists.{HasAt}
use Rattle.wave_grammar.proofs.Fields.Lookup.{pair_has, key_parsed, new_name, old_name, refused_label, refused_name, fields_whole, held_whole, fields_kept, field_held, err_handed}
use Rattle.wave_grammar.specs.ErrorSpans.{RefusesIn}
use Rattle.wave_grammar.proofs.Elaboration.ParamsInTurn.{error_handed}
use Rattle.wave_lex.specs.declared.error.ParserErrorKind.TheVariants as because
use Rattle.wave_grammar.proofs.ErrorSpans.Nodes.{deeper, key_belongs, at_in, form_at, said_here, memory_here, memory_or_said}
use Rattle.wave_node.proofs.ast.Node.fields.Goals as goal

pub field_name-requires : goal.field_name-requires
field_name-requires c =
    let here : HasAt (node_pairs c.nodes-nodes.result.now) c.loop-i.i (c.index-nodes-i.result, c.index-nodes-i-in-loop-i.result) = pair_has c.nodes-nodes.result.now c.loop-i.i c.index-nodes-i.result c.index-nodes-i-in-loop-i.result (omega arith) c.index-nodes-i.is c.index-nodes-i-in-loop-i.is in
    key_parsed c.args.src.now c.args.self.now c.nodes-nodes.result.now c.loop-i.i c.index-nodes-i.result c.index-nodes-i-in-loop-i.result c.requires c.in_ok-ensure_type.ensures c.nodes-nodes.ensures here

pub returns-in_err-name-clause-refused : goal.returns-in_err-name-clause-refused
returns-in_err-name-clause-refused c =
    let here : HasAt (node_pairs c.nodes-nodes.result.now) c.loop-i.i (c.index-nodes-i.result, c.index-nodes-i-in-loop-i.result) = pair_has c.nodes-nodes.result.now c.loop-i.i c.index-nodes-i.result c.index-nodes-i-in-loop-i.result (omega arith) c.index-nodes-i.is c.index-nodes-i-in-loop-i.is in
    err_handed (RefusesFields c.args.src.now c.args.self.now) c.from_residual-in_err-name.result c.in_err-name.field-0.0 c.from_residual-in_err-name.ensures.1
    (refused_label c.args.src.now c.args.self.now c.nodes-nodes.result.now c.loop-i.i c.index-nodes-i.result c.index-nodes-i-in-loop-i.result c.in_err-name.field-0.0 c.in_ok-ensure_type.ensures c.nodes-nodes.ensures here c.loop-i.invariant.so_far c.in_err-name.ensures)

pub returns-in-Ok-Some-clause-refused : goal.returns-in-Ok-Some-clause-refused
returns-in-Ok-Some-clause-refused c =
    let here : HasAt (node_pairs c.nodes-nodes.result.now) c.loop-i.i (c.index-nodes-i.result, c.index-nodes-i-in-loop-i.result) = pair_has c.nodes-nodes.result.now c.loop-i.i c.index-nodes-i.result c.index-nodes-i-in-loop-i.result (omega arith) c.index-nodes-i.is c.index-nodes-i-in-loop-i.is in
    let there = rw c.in-Ok-Some.field-0-is at c.in-Ok-Some.ensures in
    refused_name c.args.src.now c.args.self.now c.nodes-nodes.result.now c.loop-i.i c.index-nodes-i.result c.index-nodes-i-in-loop-i.result c.in_ok-name.name.now c.repeated.result c.in_ok-ensure_type.ensures c.nodes-nodes.ensures here c.loop-i.invariant.so_far c.in_ok-name.ensures.0 c.in_ok-name.ensures.1
    (old_name c.loop-i.by_name (map (field_of c.args.src.now) (take c.loop-i.i (node_pairs c.nodes-nodes.result.now))) c.in_ok-name.name.now c.in-Ok-Some.field-0-0 c.loop-i.invariant.holds there.old) c.repeated.ensures.refusal

pub loop-i-preserved : goal.loop-i-preserved
loop-i-preserved c =
    let here : HasAt (node_pairs c.nodes-nodes.result.now) c.loop-i.i (c.index-nodes-i.result, c.index-nodes-i-in-loop-i.result) = pair_has c.nodes-nodes.result.now c.loop-i.i c.index-nodes-i.result c.index-nodes-i-in-loop-i.result (omega arith) c.index-nodes-i.is c.index-nodes-i-in-loop-i.is in
    let there = rw c.in-Ok-None.field-0-is at c.in-Ok-None.ensures in
    let apart = new_name c.loop-i.by_name (map (field_of c.args.src.now) (take c.loop-i.i (node_pairs c.nodes-nodes.result.now))) c.in_ok-name.name.now c.loop-i.invariant.holds there.old in
    record {
      so_far = fields_kept c.args.src.now c.nodes-nodes.result.now c.loop-i.i c.index-nodes-i.result c.index-nodes-i-in-loop-i.result c.in_ok-name.name.now c.loop-i.invariant.so_far here c.in_ok-name.ensures.0 c.in_ok-name.ensures.1 apart;
      holds = field_held c.loop-i.by_name c.insert.new.self c.args.src.now c.nodes-nodes.result.now c.loop-i.i c.index-nodes-i.result c.index-nodes-i-in-loop-i.result c.in_ok-name.name.now _ refl c.loop-i.invariant.holds here c.in_ok-name.ensures.1 apart there.updates;
    }

pub returns-clause-given : goal.returns-clause-given
returns-clause-given c = fields_whole c.args.src.now c.args.self.now c.nodes-nodes.result.now c.loop-i.i c.in_ok-ensure_type.ensures c.nodes-nodes.ensures (omega arith) c.loop-i.invariant.so_far

pub returns-clause-held : goal.returns-clause-held
returns-clause-held c = held_whole c.args.src.now c.args.self.now c.nodes-nodes.result.now c.loop-i.i c.loop-i.by_name c.nodes-nodes.ensures (omega arith) c.loop-i.invariant.holds

pub returns-in_err-ensure_type-clause-within : goal.returns-in_err-ensure_type-clause-within
returns-in_err-ensure_type-clause-within c =
    error_handed (RefusesIn c.args.self.now) c.from_residual.result c.in_err-ensure_type.field-0.0 c.from_residual.ensures.1 (at_in c.args.src.now c.args.self.now c.in_err-ensure_type.field-0.0 c.requires (form_at c.args.self.now c.in_err-ensure_type.field-0.0 c.in_err-ensure_type.ensures.1))

pub returns-in_err-name-clause-within : goal.returns-in_err-name-clause-within
returns-in_err-name-clause-within c =
    let here : HasAt (node_pairs c.nodes-nodes.result.now) c.loop-i.i (c.index-nodes-i.result, c.index-nodes-i-in-loop-i.result) = pair_has c.nodes-nodes.result.now c.loop-i.i c.index-nodes-i.result c.index-nodes-i-in-loop-i.result (omega arith) c.index-nodes-i.is c.index-nodes-i-in-loop-i.is in
    error_handed (RefusesIn c.args.self.now) c.from_residual-in_err-name.result c.in_err-name.field-0.0 c.from_residual-in_err-name.ensures.1 (deeper c.args.self.now c.index-nodes-i.result c.in_err-name.field-0.0 (key_belongs c.args.src.now c.args.self.now c.nodes-nodes.result.now c.loop-i.i c.index-nodes-i.result c.index-nodes-i-in-loop-i.result c.requires c.in_ok-ensure_type.ensures c.nodes-nodes.ensures here) (at_in c.args.src.now c.index-nodes-i.result c.in_err-name.field-0.0 (key_parsed c.args.src.now c.args.self.now c.nodes-nodes.result.now c.loop-i.i c.index-nodes-i.result c.index-nodes-i-in-loop-i.result c.requires c.in_ok-ensure_type.ensures c.nodes-nodes.ensures here) (said_here c.index-nodes-i.result c.in_err-name.field-0.0 because.InvalidType _ (λ was. cc) tt c.in_err-name.ensures.1)))

pub returns-in-Ok-Some-clause-within : goal.returns-in-Ok-Some-clause-within
returns-in-Ok-Some-clause-within c =
    let here : HasAt (node_pairs c.nodes-nodes.result.now) c.loop-i.i (c.index-nodes-i.result, c.index-nodes-i-in-loop-i.result) = pair_has c.nodes-nodes.result.now c.loop-i.i c.index-nodes-i.result c.index-nodes-i-in-loop-i.result (omega arith) c.index-nodes-i.is c.index-nodes-i-in-loop-i.is in
    deeper c.args.self.now c.index-nodes-i.result c.repeated.result (key_belongs c.args.src.now c.args.self.now c.nodes-nodes.result.now c.loop-i.i c.index-nodes-i.result c.index-nodes-i-in-loop-i.result c.requires c.in_ok-ensure_type.ensures c.nodes-nodes.ensures here) (at_in c.args.src.now c.index-nodes-i.result c.repeated.result (key_parsed c.args.src.now c.args.self.now c.nodes-nodes.result.now c.loop-i.i c.index-nodes-i.result c.index-nodes-i-in-loop-i.result c.requires c.in_ok-ensure_type.ensures c.nodes-nodes.ensures here) (memory_or_said c.index-nodes-i.result c.repeated.result because.DuplicateField _ (λ was. cc) tt c.repeated.ensures.refusal c.repeated.ensures.span))

pub returns-in-Err-clause-within : goal.returns-in-Err-clause-within
returns-in-Err-clause-within c = at_in c.args.src.now c.args.self.now c.out_of_memory.result c.requires (memory_here c.args.self.now c.out_of_memory.result c.out_of_memory.ensures.kind c.out_of_memory.ensures.span)
