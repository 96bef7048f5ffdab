-- What converting the parts of a type says of the whole.
use Rattle.std.proofs.Common.{ℕ, ◌≡◌, ◌<◌, ◌≤◌, ◌+◌, Bool, true, false, ◌&&◌, Bor, map, drop, length, get_or, append_assoc, append-nil, if◌then◌else◌, Option, Some, None, List, [], ◌∷◌, ◌++◌, refl, sym, ap, ◌∙◌}
use Rattle.std.specs.List.{list_all}
use Rattle.wave_wasm.specs.Types as type
use Rattle.wave_wasm.specs.Types.{TypeTree, Types, Fields, Cases, MaybeType, types_of, type_list, fields_of, field_list, cases_of, case_list, maybe_type, type_option, kind_of, tuple_parts, record_parts, variant_parts, is_representable, every_type, every_field, every_case, every_maybe, can_be_built}
use Rattle.wave_wasm.specs.declared.wasm.WasmTypeKind.TheVariants as kinds
use Rattle.std.proofs.lemmas.List.{map-append}
use Rattle.wave_wasm.specs.Borrowed.{named}
use Rattle.wave_wasm.proofs.CanonicalText.Sequences.{at_item, at_end}
use Rattle.wave_wasm.proofs.TypesOfValues.TypeOfKind.{formed_as}
use Rattle.wave_type.specs.TypeConstructors.{tuple_type, record_type, variant_type}
use Rattle.wave_type.specs.TypeConversion.{converted_type}
use Rattle.wave_type.specs.Private.TypeConversion.{converted_payload}
use Rattle.std.specs.Prelude.{option_map}

-- the payload's type, where there is one, is a tree of `Type`
abbrev pub can_be_payload : List ℕ × Option TypeTree → Bool
can_be_payload c = every_maybe can_be_built (maybe_type c.1)

-- what is made of the parts that are done and of those that are left, none where one of these can't be converted
abbrev pub remaining : {X : Type 0} → (X → Bool) → (List X → Option TypeTree) → List X → List X → Option TypeTree
remaining ok make done left = if list_all ok left then make (done ++ left) else None

types_convert : (Ts : List TypeTree) → every_type can_be_built (types_of Ts) ≡ list_all is_representable Ts
types_convert [] = refl
types_convert (T ∷ Ts) = ap (λ b. is_representable T && b) (types_convert Ts)

fields_convert : (fs : List (List ℕ × TypeTree)) → every_field can_be_built (fields_of fs) ≡ list_all (λ f. is_representable f.1) fs
fields_convert [] = refl
fields_convert (f ∷ fs) = ap (λ b. is_representable f.1 && b) (fields_convert fs)

cases_convert : (cs : List (List ℕ × Option TypeTree)) → every_case can_be_built (cases_of cs) ≡ list_all can_be_payload cs
cases_convert [] = refl
cases_convert (c ∷ cs) = ap (λ b. can_be_payload c && b) (cases_convert cs)

types_back : (Ts : Types) → types_of (type_list Ts) ≡ Ts
types_back type.no_types = refl
types_back (type.type_and T more) = ap (type.type_and T) (types_back more)

fields_back : (fs : Fields) → fields_of (field_list fs) ≡ fs
fields_back type.no_fields = refl
fields_back (type.field name T more) = ap (type.field name T) (fields_back more)

payload_back : (p : MaybeType) → maybe_type (type_option p) ≡ p
payload_back type.no_type = refl
payload_back (type.a_type T) = refl

cases_back : (cs : Cases) → cases_of (case_list cs) ≡ cs
cases_back type.no_cases = refl
cases_back (type.case_of name payload more) = λ i. type.case_of name (payload_back payload i) (cases_back more i)

tuple_from : (Ts : List TypeTree) → converted_type (type.tuple (types_of Ts)) ≡ remaining is_representable tuple_type [] Ts
tuple_from [] = refl
tuple_from (T ∷ Ts) = ap (λ b. if b then Some (type.tuple (types_of (T ∷ Ts))) else None) (types_convert (T ∷ Ts))

record_from : (fs : List (List ℕ × TypeTree)) → converted_type (type.record_type (fields_of fs)) ≡ remaining (λ f. is_representable f.1) record_type [] fs
record_from [] = refl
record_from (f ∷ fs) = ap (λ b. if b then Some (type.record_type (fields_of (f ∷ fs))) else None) (fields_convert (f ∷ fs))

variant_from : (cs : List (List ℕ × Option TypeTree)) → converted_type (type.variant (cases_of cs)) ≡ remaining can_be_payload variant_type [] cs
variant_from [] = refl
variant_from (c ∷ cs) = ap (λ b. if b then Some (type.variant (cases_of (c ∷ cs))) else None) (cases_convert (c ∷ cs))

-- a tuple type, of which all parts are left
pub tuple_start : (T : TypeTree) (parts done : List TypeTree) → kind_of T ≡ kinds.Tuple → parts ≡ tuple_parts T → done ≡ [] → converted_type T ≡ remaining is_representable tuple_type done parts
tuple_start T parts done k e none =
    let f = formed_as kinds.Tuple T (sym k) in
    let built : T ≡ type.tuple (types_of parts) = f.1 ∙ ap type.tuple (sym (types_back f.0) ∙ ap types_of (sym (e ∙ ap tuple_parts f.1))) in
    ap converted_type built ∙ (tuple_from parts ∙ ap (λ ds. remaining is_representable tuple_type ds parts) (sym none))

-- a record type
pub record_start : (T : TypeTree) (parts done : List (List ℕ × TypeTree)) → kind_of T ≡ kinds.Record → parts ≡ record_parts T → done ≡ [] → converted_type T ≡ remaining (λ f. is_representable f.1) record_type done parts
record_start T parts done k e none =
    let f = formed_as kinds.Record T (sym k) in
    let built : T ≡ type.record_type (fields_of parts) = f.1 ∙ ap type.record_type (sym (fields_back f.0) ∙ ap fields_of (sym (e ∙ ap record_parts f.1))) in
    ap converted_type built ∙ (record_from parts ∙ ap (λ ds. remaining (λ f. is_representable f.1) record_type ds parts) (sym none))

-- a variant type
pub variant_start : (T : TypeTree) (parts done : List (List ℕ × Option TypeTree)) → kind_of T ≡ kinds.Variant → parts ≡ variant_parts T → done ≡ [] → converted_type T ≡ remaining can_be_payload variant_type done parts
variant_start T parts done k e none =
    let f = formed_as kinds.Variant T (sym k) in
    let built : T ≡ type.variant (cases_of parts) = f.1 ∙ ap type.variant (sym (cases_back f.0) ∙ ap cases_of (sym (e ∙ ap variant_parts f.1))) in
    ap converted_type built ∙ (variant_from parts ∙ ap (λ ds. remaining can_be_payload variant_type ds parts) (sym none))

converted_by : (representable : Bool) (T U : TypeTree) → Some U ≡ (if representable then Some T else None) → (representable ≡ true) × (U ≡ T)
converted_by true T U e = (refl, cc)
converted_by false T U e = absurd (cc)

refused_by : (representable : Bool) (T : TypeTree) → None ≡ (if representable then Some T else None) → representable ≡ false
refused_by true T e = absurd (cc)
refused_by false T e = refl

-- a type that was converted is a tree of `Type`, and what was made is the type
pub converted_is : (T U : TypeTree) (built : Option TypeTree) → built ≡ converted_type T → built ≡ Some U → (is_representable T ≡ true) × (U ≡ T)
converted_is T U built e some = converted_by (is_representable T) T U (sym some ∙ e)

-- a type that was not converted is none
pub refused_is : (T : TypeTree) (built : Option TypeTree) → built ≡ converted_type T → built ≡ None → is_representable T ≡ false
refused_is T built e none = refused_by (is_representable T) T (sym none ∙ e)

-- what was pushed is what was to be made
pub pushed : {X : Type 0} (done more : List X) (x y : X) → more ≡ done ++ (x ∷ []) → x ≡ y → more ≡ done ++ (y ∷ [])
pushed done more x y e is = e ∙ ap (λ z. done ++ (z ∷ [])) is

-- the same beside a borrowed name
pub named_pushed : {X : Type 0} (done more : List (Bor (List ℕ) × X)) (name : Bor (List ℕ)) (x y : X) → more ≡ done ++ ((name, x) ∷ []) → x ≡ y → named more ≡ named done ++ ((name.now, y) ∷ [])
named_pushed done more name x y e is = ap named e ∙ (map-append _ done ((name, x) ∷ []) ∙ ap (λ z. named done ++ ((name.now, z) ∷ [])) is)

-- the next part was converted
pub remaining_more : {X Y : Type 0} (ok : Y → Bool) (make : List Y → Option TypeTree) (f : X → Y) (xs : List X) (i : ℕ) (x : X) (done more : List Y) (whole : Option TypeTree) → whole ≡ remaining ok make done (map f (drop i xs)) → i < length xs → x ≡ get_or xs i x → ok (f x) ≡ true → more ≡ done ++ (f x ∷ [])
    → whole ≡ remaining ok make more (map f (drop (i + 1) xs))
remaining_more ok make f xs i x done more whole before lt is converts same =
    let left = map f (drop (i + 1) xs) in
    before ∙ (at_item (λ l. remaining ok make done (map f l)) xs i x lt is
    ∙ (ap (λ b. if b && list_all ok left then make (done ++ (f x ∷ left)) else None) converts
    ∙ ap (λ zs. if list_all ok left then make zs else None) (sym (append_assoc done (f x ∷ []) left) ∙ ap (λ d. d ++ left) (sym same))))

-- the next part can't be converted
pub remaining_none : {X Y : Type 0} (ok : Y → Bool) (make : List Y → Option TypeTree) (f : X → Y) (xs : List X) (i : ℕ) (x : X) (done : List Y) (whole : Option TypeTree) → whole ≡ remaining ok make done (map f (drop i xs)) → i < length xs → x ≡ get_or xs i x → ok (f x) ≡ false → None ≡ whole
remaining_none ok make f xs i x done whole before lt is refused =
    let left = map f (drop (i + 1) xs) in
    sym (before ∙ (at_item (λ l. remaining ok make done (map f l)) xs i x lt is ∙ ap (λ b. if b && list_all ok left then make (done ++ (f x ∷ left)) else None) refused))

-- all parts were converted
pub remaining_done : {X Y : Type 0} (ok : Y → Bool) (make : List Y → Option TypeTree) (f : X → Y) (xs : List X) (i : ℕ) (done : List Y) (whole : Option TypeTree) → whole ≡ remaining ok make done (map f (drop i xs)) → length xs ≤ i → make done ≡ whole
remaining_done ok make f xs i done whole before le = sym (before ∙ (at_end (λ l. remaining ok make done (map f l)) xs i le ∙ ap make (append-nil done)))

payload_by : (representable : Bool) (T : TypeTree) (payload : Option TypeTree) → Some payload ≡ option_map (λ U. Some U) (if representable then Some T else None) → (representable ≡ true) × (payload ≡ Some T)
payload_by true T payload e = (refl, cc)
payload_by false T payload e = absurd (cc)

refused_payload_by : (representable : Bool) (T : TypeTree) → None ≡ option_map (λ U. Some U) (if representable then Some T else None) → representable ≡ false
refused_payload_by true T e = absurd (cc)
refused_payload_by false T e = refl

-- a payload that was converted, likewise
pub payload_is : (given payload : Option TypeTree) (built : Option (Option TypeTree)) → built ≡ converted_payload given → built ≡ Some payload → (every_maybe can_be_built (maybe_type given) ≡ true) × (payload ≡ given)
payload_is None payload built e some = (refl, cc)
payload_is (Some T) payload built e some = payload_by (is_representable T) T payload (sym some ∙ e)

-- a payload that was not converted
pub refused_payload : (given : Option TypeTree) (built : Option (Option TypeTree)) → built ≡ converted_payload given → built ≡ None → every_maybe can_be_built (maybe_type given) ≡ false
refused_payload None built e none = absurd (cc)
refused_payload (Some T) built e none = refused_payload_by (is_representable T) T (sym none ∙ e)
