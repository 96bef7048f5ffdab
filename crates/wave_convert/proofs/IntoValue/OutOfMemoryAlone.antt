-- Parts that a constructor takes: it refuses them for lack of memory alone.
use Rattle.std.proofs.Common.{◌≡◌, ℕ, suc, List, [], ◌∷◌, length, codes, sym, ap, ◌∙◌, refl, Option, Some, None, Result, Ok, Err}
use Rattle.wave_wasm.specs.Lists.{AllOf}
use Rattle.wave_wasm.specs.Types as type
use Rattle.wave_wasm.specs.Types.{TypeTree, Types, type_list, type_option}
use Rattle.wave_wasm.specs.ConstructorContracts.{IsMemory}
use Rattle.wave_wasm.specs.declared.wasm.WasmTypeKind.TheVariants as kinds
use Rattle.wave_wasm.specs.declared.wasm.WasmValueError.{WasmValueError}
use Rattle.wave_wasm.specs.declared.wasm.WasmValueError.TheVariants as error
use Rattle.wave_value.specs.TypedValue.{TypedValue}
use Rattle.wave_value.specs.ConstructorRules.{EachOwn, PayloadOwn, TakesTuple, TakesOption, TakesResult, value_text, option_stated, each_stated, RefusesParts, RefusesTuple, RefusesPayload, RefusesResult}
use Rattle.wave_value.proofs.Lawful.Values.{IsAsStated, none_other, no_refusal}

-- ---- options

own_payload : (P : TypeTree) (p : Option TypedValue) → TakesOption (type.option P) p → AllOf IsAsStated (option_stated (type.option P) p)
own_payload P None h = tt
own_payload P (Some v) h = (h, tt)

pub option_memory : (T : TypeTree) (p : Option TypedValue) (e : WasmValueError) → TakesOption T p → RefusesParts value_text kinds.Option T (option_stated T p) e → IsMemory e
option_memory (type.option P) p e h r = no_refusal value_text kinds.Option (type.option P) (option_stated (type.option P) p) e refl (own_payload P p h) r
option_memory _ p e h r = absurd h

-- ---- tuples

own_parts : (Ts : List TypeTree) (vs : List TypedValue) → EachOwn Ts vs → AllOf IsAsStated (each_stated Ts vs) × (length vs ≡ length Ts)
own_parts [] [] h = (tt, refl)
own_parts [] (v ∷ vs) h = absurd h
own_parts (T ∷ Ts) [] h = absurd h
own_parts (T ∷ Ts) (v ∷ vs) h = let more = own_parts Ts vs h.1 in ((h.0, more.0), ap suc more.1)

parts_memory : (Ts : Types) (vs : List TypedValue) (e : WasmValueError) → EachOwn (type_list Ts) vs → RefusesTuple value_text (type.tuple Ts) vs e → IsMemory e
parts_memory Ts vs (error.WrongTypeKind k s) h r = absurd (r.0 refl)
parts_memory Ts vs (error.WrongNumberOfTupleValues want got) h r = absurd (r.3 (r.1 ∙ (sym (own_parts (type_list Ts) vs h).1 ∙ sym r.2)))
parts_memory Ts vs (error.WrongValueType s q) h r = absurd (none_other value_text _ _ (each_stated (type_list Ts) vs) (own_parts (type_list Ts) vs h).0 r.2)
parts_memory Ts vs (error.Memory e) h r = tt
parts_memory Ts vs _ h r = absurd r

pub tuple_memory : (T : TypeTree) (vs : List TypedValue) (e : WasmValueError) → TakesTuple T vs → RefusesTuple value_text T vs e → IsMemory e
tuple_memory (type.tuple Ts) vs e h r = parts_memory Ts vs e h r
tuple_memory _ vs e h r = absurd h

-- ---- results

payload_memory : (n : List ℕ) (P : Option TypeTree) (p : Option TypedValue) (e : WasmValueError) → PayloadOwn P p → RefusesPayload value_text n P p e → IsMemory e
payload_memory n None None (error.MissingPayload m) h r = absurd r.1
payload_memory n (Some T) (Some v) (error.MissingPayload m) h r = absurd r.1
payload_memory n None None (error.UnexpectedPayload m) h r = absurd r.1
payload_memory n (Some T) (Some v) (error.UnexpectedPayload m) h r = absurd r.1
payload_memory n None None (error.WrongValueType s q) h r = absurd r
payload_memory n (Some T) (Some v) (error.WrongValueType s q) h r = absurd (r.0 h)
payload_memory n None (Some v) e h r = absurd h
payload_memory n (Some T) None e h r = absurd h
payload_memory n P p (error.Memory e) h r = tt
payload_memory n P p _ h r = absurd r

pub result_memory : (T : TypeTree) (o : Result (Option TypedValue) (Option TypedValue)) (e : WasmValueError) → TakesResult T o → RefusesResult value_text T o e → IsMemory e
result_memory (type.result A B) o (error.WrongTypeKind k s) h r = absurd (r.0 refl)
result_memory (type.result A B) o (error.Memory e) h r = tt
result_memory (type.result A B) (Ok p) e h r = payload_memory (codes "ok") (type_option A) p e h r.1
result_memory (type.result A B) (Err p) e h r = payload_memory (codes "err") (type_option B) p e h r.1
result_memory _ o e h r = absurd h
