use Rattle.std.proofs.Common.{inr, refl, sym, ap, ◌∙◌}
use Rattle.std.specs.Map.{keys_of}
use Rattle.wave_wasm.specs.Borrowed.{texts}
use Rattle.wave_grammar.specs.NodeTree.{node, no_nodes}
use Rattle.wave_grammar.specs.declared.form.NodeType.TheVariants as kind
use Rattle.wave_read.proofs.MapReading.Entries.{none_built}
use Rattle.wave_read.proofs.PayloadReading.KindsWithoutForm.{none_empty}
use Rattle.wave_read.proofs.parts.read_empty.Goals as goal

pub returns-in-Flags : goal.returns-in-Flags
returns-in-Flags g c = λ o w source takes. c.read_flags.ensures.read o w source (node kind.EmptySet c.args.span no_nodes) (inr refl) refl (sym (ap (λ es. texts (keys_of es)) c.new.ensures.empty))

pub returns-in-Map : goal.returns-in-Map
returns-in-Map g c = λ o w source takes.
    none_built g.V.WasmValue.tree g.V.WasmValue.is_of g.V.WasmValue.is_full o w (g.V.Type.WasmType.tree c.args.ty.now) source c.args.span c.new-in-Map.result.items c.make_map.result c.or_error_at.result (sym c.kind.ensures ∙ c.in-Map.is) g.met.V.WasmValue.of_fits c.new-in-Map.ensures.items c.make_map.ensures.built c.make_map.ensures.full (c.or_error_at.ensures (node kind.EmptySet c.args.span no_nodes) refl)

pub returns-in_default : goal.returns-in_default
returns-in_default g c = λ o w source takes. absurd (none_empty (g.V.Type.WasmType.tree c.args.ty.now) c.kind.result c.kind.ensures c.in_default.not-Flags c.in_default.not-Map takes)
