use Rattle.std.proofs.lemmas.Result.{IfErr-weaker}
use Rattle.wave_wasm.specs.ConstructorContracts.{FullRecord}
use Rattle.wave_wasm.specs.Borrowed.{named}
use Rattle.wave_value.specs.FullTypes.{IsFull}
use Rattle.wave_value.specs.RecordConstructor.{RefusesRecord}
use Rattle.wave_value.specs.ConstructorRules.{own_text}
use Rattle.wave_value.specs.TypedValue.{IsAt}
use Rattle.wave_value.proofs.Lawful.Records.{full_record}
use Rattle.wave_value.proofs.value.wasm_value.ValueWasmValue.make_record.Goals as goal

pub returns-clause-full : goal.returns-clause-full
returns-clause-full c =
    IfErr-weaker c.record_of.result (RefusesRecord own_text c.args.ty.now (named c.args.fields.items)) (FullRecord (λ v T. IsAt T v) IsFull c.args.ty.now c.args.fields.items) (λ e r. full_record own_text c.args.ty.now c.args.fields.items e r) c.record_of.ensures.refused
