use Rattle.wave_grammar.specs.FaultOrder.{in_text}
use Rattle.std.proofs.Common.{refl, sym, ap, ◌∙◌, ◌++◌, ◌∷◌, []}
use Rattle.wave_read.proofs.MapReading.EntrySteps.{value_taken, no_value_alone}
use Rattle.wave_read.proofs.maps.Entries+V+Type+V.push_part.Goals as goal

pub returns-in_ok-reserve : goal.returns-in_ok-reserve
returns-in_ok-reserve g c = λ w T source children n expected h read.
    value_taken g.V.WasmValue.tree g.V.WasmValue.is_of g.V.WasmValue.is_full in_text w g.V.Type.WasmType.tree T source children c.args.self.now h n _ c.in-Some.key c.args.val c.take.new.self c.push_reserved.new.self (sym c.take.ensures.value ∙ c.in-Some.is) refl read c.take.ensures.after (c.push_reserved.ensures.items ∙ ap (λ xs. xs ++ (c.in-Some.key, c.args.val) ∷ []) c.reserve.ensures.items)

pub returns-in_default : goal.returns-in_default
returns-in_default g c = λ w T source children n expected h read.
    no_value_alone g.V.WasmValue.tree g.V.WasmValue.is_of g.V.WasmValue.is_full in_text w g.V.Type.WasmType.tree T source children c.args.self.now h expected (sym c.take.ensures.value ∙ c.in_default.is)
