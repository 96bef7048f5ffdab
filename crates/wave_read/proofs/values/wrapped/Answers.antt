use Rattle.std.proofs.Common.{Option, Bor, subst}
use Rattle.wave_read.specs.Flat.{IsOfPartWithin}
use Rattle.wave_read.proofs.PayloadReading.Surrounding.{wrapped_read, alone_read}
use Rattle.wave_read.proofs.values.wrapped.Goals as goal

pub wrap-requires : goal.wrap-requires
wrap-requires g c = subst (λ (o : Option (Bor g.row.V-Type.Denot)). IsOfPartWithin g.V.Type.WasmType.tree g.V.WasmValue.is_of o c.args.built) c.in-Some.is c.requires

pub returns-in-Some : goal.returns-in-Some
returns-in-Some g c = λ o w T source n is place read.
    wrapped_read g.V.Type.WasmType.tree g.V.WasmValue.tree g.V.WasmValue.is_of g.V.WasmValue.is_full o w T source n c.args.whole c.args.ty c.args.built is read c.in-Some.whole c.wrap.result c.in-Some.is
    (λ flat. c.wrap.ensures o w source n (g.V.Type.WasmType.tree c.args.ty.now) flat place read)

pub returns-in-None : goal.returns-in-None
returns-in-None g c = λ o w T source n is place read.
    alone_read g.V.Type.WasmType.tree g.V.WasmValue.tree g.V.WasmValue.is_of g.V.WasmValue.is_full o w T source n c.args.whole c.args.ty c.args.built is read c.in-None.is
