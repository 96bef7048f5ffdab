use Rattle.std.proofs.Common.{refl, sym, ◌∙◌}
use Rattle.wave_read.proofs.RecordReading.FieldSteps.{no_value_alone, value_taken}
use Rattle.wave_read.proofs.records.Fields+V+Type+V.push_part.Goals as goal

pub returns-in_default : goal.returns-in_default
returns-in_default g c = λ w T source children n expected h read.
    no_value_alone g.V.WasmValue.tree g.V.WasmValue.is_of g.V.WasmValue.is_full w g.V.Type.WasmType.tree T source children c.args.self.now h expected (sym c.take.ensures.value ∙ c.in_default.is)

pub returns-in-Some : goal.returns-in-Some
returns-in-Some g c = λ w T source children n expected h read.
    value_taken g.V.WasmValue.tree g.V.WasmValue.is_of g.V.WasmValue.is_full w g.V.Type.WasmType.tree T source children c.args.self.now h n _ c.args.val (c.in-Some.i, c.in-Some.field-0-1) c.take.new.self c.keep.new.fields c.saturating_add-self.result (sym c.take.ensures.value ∙ c.in-Some.is) refl read c.take.ensures.after c.keep.ensures
