use Rattle.std.proofs.Common.{◌∙◌, sym, subst}
use Rattle.wave_leaf.specs.Leaves.{leaf_node}
use Rattle.wave_grammar.specs.NodeParts.{IsOneToken}
use Rattle.wave_read.proofs.LeafReading.RefusedForms.{leaf_refused, others_simple}
use Rattle.wave_read.proofs.PayloadReading.Options.{other_option}
use Rattle.wave_read.proofs.PayloadReading.Results.{other_result}
use Rattle.wave_read.proofs.leaves.read_directly.Goals as goal

pub returns-in-List : goal.returns-in-List
returns-in-List g c = λ o w source token here.
    leaf_refused g.V.WasmValue.tree g.V.WasmValue.is_of g.V.WasmValue.is_full o w (g.V.Type.WasmType.tree c.args.ty.now) c.kind.result c.kind.ensures source (leaf_node c.args.leaf.now) c.error.result c.error.ensures token c.in-List.is

pub returns-in-OptionNone : goal.returns-in-OptionNone
returns-in-OptionNone g c = λ o w source token here. c.read_none.ensures o w source

pub returns-in_default-ty : goal.returns-in_default-ty
returns-in_default-ty g c = λ o w source token here.
    other_option g.V.WasmValue.tree g.V.WasmValue.is_of g.V.WasmValue.is_full o w (g.V.Type.WasmType.tree c.args.ty.now) source (leaf_node c.args.leaf.now) c.error-in_default-ty.result (sym c.kind.ensures ∙ c.in-Option.is)
    (λ e. subst IsOneToken e token) c.in_default-ty.not-OptionNone c.requires c.error-in_default-ty.ensures

pub returns-in-ResultOk : goal.returns-in-ResultOk
returns-in-ResultOk g c = λ o w source token here. c.read_alone.ensures o w source

pub returns-in-ResultErr : goal.returns-in-ResultErr
returns-in-ResultErr g c = λ o w source token here. c.read_alone-in-ResultErr.ensures o w source

pub returns-in_default-ty-2 : goal.returns-in_default-ty-2
returns-in_default-ty-2 g c = λ o w source token here.
    other_result g.V.WasmValue.tree g.V.WasmValue.is_of g.V.WasmValue.is_full o w (g.V.Type.WasmType.tree c.args.ty.now) source (leaf_node c.args.leaf.now) c.error-in_default-ty-2.result (sym c.kind.ensures ∙ c.in-Result.is)
    c.in_default-ty-2.not-ResultOk c.in_default-ty-2.not-ResultErr c.requires c.error-in_default-ty-2.ensures

pub returns-in_default : goal.returns-in_default
returns-in_default g c = c.read_simple.ensures (others_simple (g.V.Type.WasmType.tree c.args.ty.now) c.kind.result c.kind.ensures c.in_default.not-List c.in_default.not-FixedLengthList c.in_default.not-Record c.in_default.not-Tuple c.in_default.not-Variant c.in_default.not-Enum c.in_default.not-Option c.in_default.not-Result c.in_default.not-Flags c.in_default.not-Map)
