use Rattle.std.proofs.Common.{rules, ◌≡◌, List, [], ◌∷◌, ◌++◌, ◌+◌, ap, sym, ◌∙◌, subst, refl, arith, codes, map, length, get_or, drop}
use Rattle.std.specs.Prelude.{All}
use Rattle.std.specs.Fmt.{HasWritten}
use Rattle.std.proofs.lemmas.Grind.{put_three, put_four}
use Rattle.std.proofs.Output.{has_written_of_eq}
use Rattle.wave_wasm.specs.Commas.{enclosed, joined, behind_name, in_parens, in_braces}
use Rattle.wave_wasm.specs.Keywords.{case_label}
use Rattle.wave_grammar.specs.LeafTokens.{name_of}
use Rattle.wave_grammar.specs.NodeAccessors.{node_text}
use Rattle.wave_grammar.specs.NodeTree.{NodeTree, type_of}
use Rattle.wave_grammar.specs.TypedReading.{IsValueOf}
use Rattle.wave_grammar.specs.Nodes.{IsParsedFrom}
use Rattle.wave_tree.specs.NodeDisplay.{display_at}
use Rattle.wave_tree.specs.Private.NodeDisplay.{name_at, entries_at, braces_at, payload_at, AreEntriesOf}
use Rattle.wave_grammar.specs.declared.form.NodeType.TheVariants as kind
use Rattle.wave_grammar.proofs.ChildNodes.Trees.{node_below}
use Rattle.wave_wasm.proofs.Displays.JoinedTexts.{separator_more, joined_turn, all_joined, left, left_turn}
use Rattle.wave_tree.proofs.Displays.Nodes.{plain_display, word_display, tuple_display, list_display, fields_display, some_display, ok_display, err_display, flags_display, case_display, children_deep, entries_two, entry_at}
use Rattle.wave_tree.proofs.untyped.display.+display.Goals as goal

pub write_node-write_listed-requires : goal.write_node-write_listed-requires
write_node-write_listed-requires g t c κs within =
    let value : IsValueOf c.args.src.now c.args.node.now = search rules in
    let it = tuple_display c.args.src.now c.args.node.now value (sym c.ty.ensures ∙ c.in-Tuple.is) in
    let deep = children_deep c.args.node.now c.nodes.result.now c.nodes.ensures in
    (omega (arith, deep), (within, subst (All (IsValueOf c.args.src.now)) (sym c.nodes.ensures) it.0))

pub write_node-returns-in-Tuple : goal.write_node-returns-in-Tuple
write_node-returns-in-Tuple g t c = λ p ok.
    let value : IsValueOf c.args.src.now c.args.node.now = search rules in
    let it = tuple_display c.args.src.now c.args.node.now value (sym c.ty.ensures ∙ c.in-Tuple.is) in
    has_written_of_eq _ _ _ _ _ (ap (λ (ns : List NodeTree). enclosed (codes "(") (map (display_at c.args.src.now) ns) (codes ")")) c.nodes.ensures ∙ it.1) (c.write_listed.ensures p ok)

pub write_node-write_listed-requires-in-List : goal.write_node-write_listed-requires-in-List
write_node-write_listed-requires-in-List g t c κs within =
    let value : IsValueOf c.args.src.now c.args.node.now = search rules in
    let it = list_display c.args.src.now c.args.node.now value (sym c.ty.ensures ∙ c.in-List.is) in
    let deep = children_deep c.args.node.now c.nodes-in-List.result.now c.nodes-in-List.ensures in
    (omega (arith, deep), (within, subst (All (IsValueOf c.args.src.now)) (sym c.nodes-in-List.ensures) it.0))

pub write_node-returns-in-List : goal.write_node-returns-in-List
write_node-returns-in-List g t c = λ p ok.
    let value : IsValueOf c.args.src.now c.args.node.now = search rules in
    let it = list_display c.args.src.now c.args.node.now value (sym c.ty.ensures ∙ c.in-List.is) in
    has_written_of_eq _ _ _ _ _ (ap (λ (ns : List NodeTree). enclosed (codes "[") (map (display_at c.args.src.now) ns) (codes "]")) c.nodes-in-List.ensures ∙ it.1) (c.write_listed-in-List.ensures p ok)

pub write_node-write_fields-requires : goal.write_node-write_fields-requires
write_node-write_fields-requires g t c κs within =
    let value : IsValueOf c.args.src.now c.args.node.now = search rules in
    let it = fields_display c.args.src.now c.args.node.now value (sym c.ty.ensures ∙ c.in-TupleSet.is) in
    let deep = children_deep c.args.node.now c.nodes-in-TupleSet.result.now c.nodes-in-TupleSet.ensures in
    (omega (arith, deep), (within, subst (AreEntriesOf c.args.src.now) (sym c.nodes-in-TupleSet.ensures) it.0))

pub write_node-returns-in-TupleSet : goal.write_node-returns-in-TupleSet
write_node-returns-in-TupleSet g t c = λ p ok.
    let value : IsValueOf c.args.src.now c.args.node.now = search rules in
    let it = fields_display c.args.src.now c.args.node.now value (sym c.ty.ensures ∙ c.in-TupleSet.is) in
    has_written_of_eq _ _ _ _ _ (ap (λ (ns : List NodeTree). braces_at c.args.src.now ns) c.nodes-in-TupleSet.ensures ∙ it.1) (c.write_fields.ensures p ok)

pub write_node-write_payload-requires : goal.write_node-write_payload-requires
write_node-write_payload-requires g t c κs within =
    let value : IsValueOf c.args.src.now c.args.node.now = search rules in
    let it = some_display c.args.src.now c.args.node.now value (sym c.ty.ensures ∙ c.in-OptionSome.is) in
    let deep = children_deep c.args.node.now c.nodes-in-OptionSome.result.now c.nodes-in-OptionSome.ensures in
    (omega (arith, deep), (within, subst (All (IsValueOf c.args.src.now)) (sym c.nodes-in-OptionSome.ensures) it.0))

pub write_node-returns-in-OptionSome : goal.write_node-returns-in-OptionSome
write_node-returns-in-OptionSome g t c = λ p ok.
    let value : IsValueOf c.args.src.now c.args.node.now = search rules in
    let it = some_display c.args.src.now c.args.node.now value (sym c.ty.ensures ∙ c.in-OptionSome.is) in
    has_written_of_eq _ _ _ _ _ (ap (λ (ns : List NodeTree). codes "some" ++ payload_at c.args.src.now ns) c.nodes-in-OptionSome.ensures ∙ it.1) (c.write_payload.ensures p ok)

pub write_node-write_payload-requires-in-ResultOk : goal.write_node-write_payload-requires-in-ResultOk
write_node-write_payload-requires-in-ResultOk g t c κs within =
    let value : IsValueOf c.args.src.now c.args.node.now = search rules in
    let it = ok_display c.args.src.now c.args.node.now value (sym c.ty.ensures ∙ c.in-ResultOk.is) in
    let deep = children_deep c.args.node.now c.nodes-in-ResultOk.result.now c.nodes-in-ResultOk.ensures in
    (omega (arith, deep), (within, subst (All (IsValueOf c.args.src.now)) (sym c.nodes-in-ResultOk.ensures) it.0))

pub write_node-returns-in-ResultOk : goal.write_node-returns-in-ResultOk
write_node-returns-in-ResultOk g t c = λ p ok.
    let value : IsValueOf c.args.src.now c.args.node.now = search rules in
    let it = ok_display c.args.src.now c.args.node.now value (sym c.ty.ensures ∙ c.in-ResultOk.is) in
    has_written_of_eq _ _ _ _ _ (ap (λ (ns : List NodeTree). codes "ok" ++ payload_at c.args.src.now ns) c.nodes-in-ResultOk.ensures ∙ it.1) (c.write_payload-in-ResultOk.ensures p ok)

pub write_node-write_payload-requires-in-ResultErr : goal.write_node-write_payload-requires-in-ResultErr
write_node-write_payload-requires-in-ResultErr g t c κs within =
    let value : IsValueOf c.args.src.now c.args.node.now = search rules in
    let it = err_display c.args.src.now c.args.node.now value (sym c.ty.ensures ∙ c.in-ResultErr.is) in
    let deep = children_deep c.args.node.now c.nodes-in-ResultErr.result.now c.nodes-in-ResultErr.ensures in
    (omega (arith, deep), (within, subst (All (IsValueOf c.args.src.now)) (sym c.nodes-in-ResultErr.ensures) it.0))

pub write_node-returns-in-ResultErr : goal.write_node-returns-in-ResultErr
write_node-returns-in-ResultErr g t c = λ p ok.
    let value : IsValueOf c.args.src.now c.args.node.now = search rules in
    let it = err_display c.args.src.now c.args.node.now value (sym c.ty.ensures ∙ c.in-ResultErr.is) in
    has_written_of_eq _ _ _ _ _ (ap (λ (ns : List NodeTree). codes "err" ++ payload_at c.args.src.now ns) c.nodes-in-ResultErr.ensures ∙ it.1) (c.write_payload-in-ResultErr.ensures p ok)

pub write_node-write_flags-requires : goal.write_node-write_flags-requires
write_node-write_flags-requires g t c =
    let value : IsValueOf c.args.src.now c.args.node.now = search rules in
    let it = flags_display c.args.src.now c.args.node.now value (sym c.ty.ensures ∙ c.in-Flags.is) in
    subst (All (IsParsedFrom c.args.src.now)) (sym c.nodes-in-Flags.ensures) it.0

pub write_node-returns-in-Flags : goal.write_node-returns-in-Flags
write_node-returns-in-Flags g t c = λ p ok.
    let value : IsValueOf c.args.src.now c.args.node.now = search rules in
    let it = flags_display c.args.src.now c.args.node.now value (sym c.ty.ensures ∙ c.in-Flags.is) in
    has_written_of_eq _ _ _ _ _ (ap (λ (ns : List NodeTree). in_braces (joined (map (name_at c.args.src.now) ns))) c.nodes-in-Flags.ensures ∙ it.1) (c.write_flags.ensures p ok)

pub write_node-returns-in-BoolTrue : goal.write_node-returns-in-BoolTrue
write_node-returns-in-BoolTrue g t c = λ p ok.
    let value : IsValueOf c.args.src.now c.args.node.now = search rules in
    has_written_of_eq _ _ _ _ _ (word_display kind.BoolTrue _ c.args.src.now c.args.node.now refl value (sym c.ty.ensures ∙ c.in-BoolTrue.is)) (c.write_str.ensures.writes p ok)

pub write_node-returns-in-BoolFalse : goal.write_node-returns-in-BoolFalse
write_node-returns-in-BoolFalse g t c = λ p ok.
    let value : IsValueOf c.args.src.now c.args.node.now = search rules in
    has_written_of_eq _ _ _ _ _ (word_display kind.BoolFalse _ c.args.src.now c.args.node.now refl value (sym c.ty.ensures ∙ c.in-BoolFalse.is)) (c.write_str-in-BoolFalse.ensures.writes p ok)

pub write_node-returns-in-EmptySet : goal.write_node-returns-in-EmptySet
write_node-returns-in-EmptySet g t c = λ p ok.
    let value : IsValueOf c.args.src.now c.args.node.now = search rules in
    has_written_of_eq _ _ _ _ _ (word_display kind.EmptySet _ c.args.src.now c.args.node.now refl value (sym c.ty.ensures ∙ c.in-EmptySet.is)) (c.write_str-in-EmptySet.ensures.writes p ok)

pub write_node-returns-in-OptionNone : goal.write_node-returns-in-OptionNone
write_node-returns-in-OptionNone g t c = λ p ok.
    let value : IsValueOf c.args.src.now c.args.node.now = search rules in
    has_written_of_eq _ _ _ _ _ (word_display kind.OptionNone _ c.args.src.now c.args.node.now refl value (sym c.ty.ensures ∙ c.in-OptionNone.is)) (c.write_str-in-OptionNone.ensures.writes p ok)

pub write_node-returns-in-Number : goal.write_node-returns-in-Number
write_node-returns-in-Number g t c = λ p ok.
    let value : IsValueOf c.args.src.now c.args.node.now = search rules in
    has_written_of_eq _ _ _ _ _ (c.slice.ensures ∙ plain_display c.args.src.now c.args.node.now c.ty.result c.ty.ensures c.in-Number.is value) (c.write_str-in-Number.ensures.writes p ok)

pub write_case-bounds-nodes-0 : goal.write_case-bounds-nodes-0
write_case-bounds-nodes-0 g t c =
    let value : IsValueOf c.args.src.now c.args.node.now = search rules in
    let ty : type_of c.args.node.now ≡ kind.VariantWithPayload = search rules in
    let it = case_display c.args.src.now c.args.node.now value ty in
    omega (arith, ap length (c.nodes-nodes.ensures ∙ it.children))

pub write_case-bounds-nodes-1 : goal.write_case-bounds-nodes-1
write_case-bounds-nodes-1 g t c =
    let value : IsValueOf c.args.src.now c.args.node.now = search rules in
    let ty : type_of c.args.node.now ≡ kind.VariantWithPayload = search rules in
    let it = case_display c.args.src.now c.args.node.now value ty in
    omega (arith, ap length (c.nodes-nodes.ensures ∙ it.children))

pub write_case-slice-requires : goal.write_case-slice-requires
write_case-slice-requires g t c =
    let value : IsValueOf c.args.src.now c.args.node.now = search rules in
    let ty : type_of c.args.node.now ≡ kind.VariantWithPayload = search rules in
    let it = case_display c.args.src.now c.args.node.now value ty in
    subst (IsParsedFrom c.args.src.now) (sym (c.index-nodes-0.is ∙ ap (λ (ns : List NodeTree). get_or ns 0 c.index-nodes-0.result) (c.nodes-nodes.ensures ∙ it.children))) it.named

pub write_case-write_node-requires : goal.write_case-write_node-requires
write_case-write_node-requires g t c κs within =
    let value : IsValueOf c.args.src.now c.args.node.now = search rules in
    let ty : type_of c.args.node.now ≡ kind.VariantWithPayload = search rules in
    let it = case_display c.args.src.now c.args.node.now value ty in
    let deep = children_deep c.args.node.now c.nodes-nodes.result.now c.nodes-nodes.ensures in
    let below = node_below c.nodes-nodes.result.now 1 c.index-nodes-1.result (omega (arith, ap length (c.nodes-nodes.ensures ∙ it.children))) c.index-nodes-1.is in
    (omega (arith, deep, below), (within, subst (IsValueOf c.args.src.now) (sym (c.index-nodes-1.is ∙ ap (λ (ns : List NodeTree). get_or ns 1 c.index-nodes-1.result) (c.nodes-nodes.ensures ∙ it.children))) it.value))

pub write_case-returns : goal.write_case-returns
write_case-returns g t c = λ p ok.
    let value : IsValueOf c.args.src.now c.args.node.now = search rules in
    let ty : type_of c.args.node.now ≡ kind.VariantWithPayload = search rules in
    let it = case_display c.args.src.now c.args.node.now value ty in
    let took = g.W.Write.write_str_gives in
    let nodes : c.nodes-nodes.result.now ≡ it.name ∷ it.payload ∷ [] = c.nodes-nodes.ensures ∙ it.children in
    let label : c.index-nodes-0.result ≡ it.name = c.index-nodes-0.is ∙ ap (λ (ns : List NodeTree). get_or ns 0 c.index-nodes-0.result) nodes in
    let payload : c.index-nodes-1.result ≡ it.payload = c.index-nodes-1.is ∙ ap (λ (ns : List NodeTree). get_or ns 1 c.index-nodes-1.result) nodes in
    let name : c.label_name.result.now ≡ name_at c.args.src.now it.name = c.label_name.ensures ∙ (ap name_of c.slice.ensures ∙ ap (name_at c.args.src.now) label) in
    let first : HasWritten took c.args.f.now (case_label c.label_name.result.now) c.write_label.new.f = search rules in
    let start : HasWritten took c.write_label.new.f (codes "(") c.write_str.new.self = search rules in
    let inner : HasWritten took c.write_str.new.self (display_at c.args.src.now c.index-nodes-1.result) c.write_node.new.f = search rules in
    let end : HasWritten took c.write_node.new.f (codes ")") c.write_str-2.new.self = search rules in
    put_four _ _ _ _ _ _ _ _ _ _ _ first start inner end ((λ i. case_label (name i) ++ in_parens (display_at c.args.src.now (payload i))) ∙ it.shows)

pub write_items-write_node-requires : goal.write_items-write_node-requires
write_items-write_node-requires g t c κs within =
    let values : All (IsValueOf c.args.src.now) c.args.nodes.now = search rules in
    let below = node_below c.args.nodes.now c.loop-node.node-index c.node-item.result c.loop-node-test.true c.node-item.is in
    (omega (arith, below), (within, subst (IsValueOf c.args.src.now) (sym c.node-item.is) (values c.loop-node.node-index c.node-item.result c.loop-node-test.true)))

pub write_items-loop-node-preserved : goal.write_items-loop-node-preserved
write_items-loop-node-preserved g t c =
    let text = display_at c.args.src.now in
    let i = c.loop-node.node-index in
    let took = g.W.Write.write_str_gives in (
      separator_more text c.args.nodes.now i c.node-item.result c.loop-node-test.true,
      λ p.
          let before = c.loop-node.invariant.1 p in
          let comma : HasWritten took c.loop-node.f c.loop-node.separator.now c.write_str.new.self = search rules in
          let part : HasWritten took c.write_str.new.self (text c.node-item.result) c.write_node.new.f = search rules in
          put_three _ _ _ _ _ _ _ _ _ before comma part (joined_turn text c.args.nodes.now i c.loop-node.separator.now c.node-item.result c.loop-node-test.true c.loop-node.invariant.0 c.node-item.is),
    )

pub write_items-returns : goal.write_items-returns
write_items-returns g t c = λ p ok. has_written_of_eq _ _ _ _ _ (all_joined (display_at c.args.src.now) c.args.nodes.now c.args.nodes.now c.loop-node.node-index refl c.loop-node-test.false) (c.loop-node.invariant.1 p)

pub write_entries-write_entry-requires : goal.write_entries-write_entry-requires
write_entries-write_entry-requires g t c κs within =
    let ns = c.args.nodes.now in
    let two = entries_two c.args.src.now ns c.loop-i.i c.loop-i-test.true c.loop-i.invariant.1 in
    let here = subst (AreEntriesOf c.args.src.now) (entry_at c.args.src.now ns c.loop-i.i c.index-nodes-i.result c.index-nodes-i-in-loop-i.result two c.index-nodes-i.is c.index-nodes-i-in-loop-i.is) c.loop-i.invariant.1 in
    let below = node_below ns (c.loop-i.i + 1) c.index-nodes-i-in-loop-i.result two c.index-nodes-i-in-loop-i.is in
    (omega (arith, below), (within, (here.0, here.1)))

pub write_entries-loop-i-preserved : goal.write_entries-loop-i-preserved
write_entries-loop-i-preserved g t c =
    let ns = c.args.nodes.now in
    let source = c.args.src.now in
    let took = g.W.Write.write_str_gives in
    let two = entries_two source ns c.loop-i.i c.loop-i-test.true c.loop-i.invariant.1 in
    let is = entry_at source ns c.loop-i.i c.index-nodes-i.result c.index-nodes-i-in-loop-i.result two c.index-nodes-i.is c.index-nodes-i-in-loop-i.is in
    let here = subst (AreEntriesOf source) is c.loop-i.invariant.1 in
    let x = behind_name (node_text source c.index-nodes-i.result) (display_at source c.index-nodes-i-in-loop-i.result) in (
      search rules,
      here.2,
      λ p.
          let (w, before, whole) = c.loop-i.invariant.2 p in
          let comma : HasWritten took c.loop-i.f c.loop-i.separator.now c.write_str.new.self = search rules in
          let part : HasWritten took c.write_str.new.self x c.write_entry.new.f = search rules in (
            w ++ (c.loop-i.separator.now ++ x),
            put_three _ _ _ _ _ _ _ _ _ before comma part refl,
            left_turn w c.loop-i.separator.now x (entries_at source (drop (c.loop-i.i + 2) ns)) (joined (entries_at source ns)) (subst (λ (z : List NodeTree). w ++ left c.loop-i.separator.now (entries_at source z) ≡ joined (entries_at source ns)) is whole),
          ),
    )
