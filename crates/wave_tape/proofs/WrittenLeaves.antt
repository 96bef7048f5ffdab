-- Values of one token that were written.
use Rattle.std.proofs.Common.{◌≡◌, ℕ, ℤ, pos, Bool, true, false, cond, List, [], ◌++◌, Result, Ok, Err, Bor, refl, sym, ap, subst, ◌∙◌, append_assoc, codes, decimal}
use Rattle.std.specs.Prelude.{IfOk, IfErr}
use Rattle.wave_wasm.specs.ConstructorContracts.{MakesLeaf, FullLeaf}
use Rattle.wave_wasm.specs.Text.{bool_text, leaf_text, quoted, text}
use Rattle.wave_wasm.specs.TextParts.{whole_text}
use Rattle.wave_wasm.specs.Types as type
use Rattle.wave_wasm.specs.Types.{TypeTree, Simple, Whole, simple_kind, whole_kind}
use Rattle.wave_wasm.specs.Values as value
use Rattle.wave_wasm.specs.Values.{Leaf, Value, leaf_type}
use Rattle.wave_wasm.specs.declared.wasm.WasmTypeKind.{WasmTypeKind}
use Rattle.wave_wasm.specs.declared.wasm.WasmTypeKind.TheVariants as kinds
use Rattle.wave_wasm.specs.declared.wasm.WasmValueError.{WasmValueError}
use Rattle.wave_wasm.proofs.TypesOfValues.TypeOfKind.{simple_is}
use Rattle.wave_tape.specs.Tape.{width_of}
use Rattle.wave_tape.specs.Reading.{Reading, ◌>>=◌, number_at, text_at, leaf_at, whole_of}
use Rattle.wave_tape.specs.Private.Readers.{IsFaultOf, Fails}
use Rattle.wave_tape.specs.Private.TextWriters.{WritesRead, IsLeafWritten, IsMadeWritten, IsWholeRead}
use Rattle.wave_tape.specs.declared.error.Stop.{Stop}
use Rattle.wave_tape.specs.declared.error.Stop.TheVariants as stops
use Rattle.wave_tape.proofs.Readings.{stops_at, fault_of, fault_on, read_as}

simple_same : (R S : Simple) → type.simple R ≡ type.simple S → R ≡ S
simple_same R S e = cc

whole_same : (R S : Whole) → type.whole R ≡ type.whole S → R ≡ S
whole_same R S e = cc

module _ (Full : TypeTree → Type 0) where
  -- what is written at a simple type
  abbrev pub IsLeafAt : Simple → List ℕ → List ℕ → List ℕ → Result (Bor (List ℕ)) Stop → Type 0
  IsLeafAt S bytes old new r = WritesRead leaf_text (Unit {0}) (Full (type.simple S)) (leaf_at S bytes) old new r

  pub leaf_as : (kind : WasmTypeKind) (R : Simple) (bytes old new : List ℕ) (r : Result (Bor (List ℕ)) Stop) → kind ≡ simple_kind R → IsLeafAt R bytes old new r → IsLeafWritten Full kind bytes old new r
  leaf_as kind R bytes old new r is h = λ S e. subst (λ (Q : Simple). IsLeafAt Q bytes old new r) (simple_same R S (simple_is S (type.simple R) (sym e ∙ is))) h

  pub leaf_stopped : {A : Type 0} (kind : WasmTypeKind) (R : Simple) (bytes : List ℕ) (s : Stop) (part : Reading A) (f : A × List ℕ → Reading Leaf) → kind ≡ simple_kind R → leaf_at R bytes ≡ (part >>= f) → IsFaultOf s part → (S : Simple) → kind ≡ simple_kind S → Unit {0} → Fails (Full (type.simple S)) s (leaf_at S bytes)
  leaf_stopped kind R bytes s part f is reads h = λ S e.
      subst (λ (Q : Simple). Unit {0} → Fails (Full (type.simple Q)) s (leaf_at Q bytes)) (simple_same R S (simple_is S (type.simple R) (sym e ∙ is))) (λ n. fault_of (Full (type.simple R)) s part (leaf_at R bytes) (λ x e. reads ∙ stops_at part f x e) h)

  -- what a constructor made was written
  pub made_written : {S : Type 0} (tree : S → Value) (of : S → TypeTree → Type 0) (one : Leaf) (bytes rest old new : List ℕ) (made : Result S WasmValueError) (r : Result (Bor (List ℕ)) Stop) → leaf_at (leaf_type one) bytes ≡ Ok (one, rest) → IsMadeWritten tree made rest old new r → IfOk made (MakesLeaf tree of one) → IfErr made (FullLeaf Full one) → IsLeafAt (leaf_type one) bytes old new r
  made_written tree of one bytes rest old new (Ok v) (Ok behind) reads b ok err = (one, reads ∙ ap (λ (s : List ℕ). read_as one s) (sym b.0), b.1 ∙ ap (λ (w : Value). old ++ text w) ok.means)
  made_written tree of one bytes rest old new (Ok v) (Err s) reads b ok err = λ n. subst (λ (x : Stop). Fails (Full (type.simple (leaf_type one))) x (leaf_at (leaf_type one) bytes)) (sym b) tt
  made_written tree of one bytes rest old new (Err e) (Ok behind) reads b ok err = absurd b
  made_written tree of one bytes rest old new (Err e) (Err stops.Memory) reads b ok err = λ n. tt
  made_written tree of one bytes rest old new (Err e) (Err (stops.Refused left)) reads b ok err = λ n full. b (err full)
  made_written tree of one bytes rest old new (Err e) (Err (stops.Fault kind left)) reads b ok err = absurd b

  -- so a whole number
  signed : (b : Bool) (d : ℕ) → cond b (codes "-") [] ++ decimal d ≡ whole_text b d
  signed true d = refl
  signed false d = refl

  pub whole_written : (kind : WasmTypeKind) (bytes old mid new : List ℕ) (x : Bool × ℕ × Bor (List ℕ)) → (kind ≡ kinds.Bool → ⊥) → (kind ≡ kinds.Char → ⊥) → (kind ≡ kinds.String → ⊥) → IsWholeRead kind bytes (Ok x) → mid ≡ old ++ cond x.0 (codes "-") [] → new ≡ mid ++ decimal x.1 → IsLeafWritten Full kind bytes old new (Ok x.2)
  whole_written kind bytes old mid new x bool char string h sign digits type.bool e = absurd (bool e)
  whole_written kind bytes old mid new x bool char string h sign digits type.char e = absurd (char e)
  whole_written kind bytes old mid new x bool char string h sign digits type.string e = absurd (string e)
  whole_written kind bytes old mid new x bool char string h sign digits (type.whole W) e =
      let read = h W e in
      (read.0, read.1, digits ∙ (ap (λ (s : List ℕ). s ++ decimal x.1) sign ∙ (append_assoc old (cond x.0 (codes "-") []) (decimal x.1) ∙ ap (λ (s : List ℕ). old ++ s) (signed x.0 x.1 ∙ sym read.2))))

  pub whole_stopped : (kind : WasmTypeKind) (bytes : List ℕ) (s : Stop) → (kind ≡ kinds.Bool → ⊥) → (kind ≡ kinds.Char → ⊥) → (kind ≡ kinds.String → ⊥) → IsWholeRead kind bytes (Err s) → (S : Simple) → kind ≡ simple_kind S → Unit {0} → Fails (Full (type.simple S)) s (leaf_at S bytes)
  whole_stopped kind bytes s bool char string h type.bool e = absurd (bool e)
  whole_stopped kind bytes s bool char string h type.char e = absurd (char e)
  whole_stopped kind bytes s bool char string h type.string e = absurd (string e)
  whole_stopped kind bytes s bool char string h (type.whole W) e = λ n. fault_of (Full (type.simple (type.whole W))) s (leaf_at (type.whole W) bytes) (leaf_at (type.whole W) bytes) (λ x f. f) (h W e)

  -- a string of plain bytes was written
  pub plain_written : (bytes s old a b new : List ℕ) (rest : Bor (List ℕ)) → text_at bytes ≡ Ok (s, rest.now) → quoted s ≡ codes "\"" ++ (s ++ codes "\"") → a ≡ old ++ codes "\"" → b ≡ a ++ s → new ≡ b ++ codes "\"" → IsLeafWritten Full kinds.String bytes old new (Ok rest)
  plain_written bytes s old a b new rest reads plain first second third =
      leaf_as kinds.String type.string bytes old new (Ok rest) refl (
        value.string s,
        ap (λ (q : Reading (List ℕ)). q >>= λ x. read_as (value.string x.0) x.1) reads,
        third ∙ (ap (λ (z : List ℕ). z ++ codes "\"") (second ∙ ap (λ (z : List ℕ). z ++ s) first) ∙ (append_assoc (old ++ codes "\"") s (codes "\"") ∙ (append_assoc old (codes "\"") (s ++ codes "\"") ∙ ap (λ (z : List ℕ). old ++ z) (sym plain)))),
      )

pub bool_said : (b : Bool) → cond b (codes "true") (codes "false") ≡ bool_text b
bool_said true = refl
bool_said false = refl

-- ---- whole numbers

-- the number of this type, read so
abbrev IsWholeAt : Whole → List ℕ → Bool → ℕ → List ℕ → Type 0
IsWholeAt W bytes b d rest = (one : Leaf) × (leaf_at (type.whole W) bytes ≡ Ok (one, rest)) × (leaf_text one ≡ whole_text b d)

pub unsigned_read : (kind : WasmTypeKind) (W : Whole) (bytes : List ℕ) (n d : ℕ) (rest : Bor (List ℕ)) → kind ≡ whole_kind W → d ≡ n → whole_of W n ≡ pos n → number_at (width_of W) bytes ≡ Ok (n, rest.now) → IsWholeRead kind bytes (Ok (false, d, rest))
unsigned_read kind W bytes n d rest is same plain reads = λ R e.
    subst (λ (Q : Whole). IsWholeAt Q bytes false d rest.now) (whole_same W R (simple_same (type.whole W) (type.whole R) (simple_is (type.whole R) (type.simple (type.whole W)) (sym e ∙ is)))) (
      value.whole W (pos n),
      ap (λ (q : Reading ℕ). q >>= λ x. read_as (value.whole W (whole_of W x.0)) x.1) reads ∙ ap (λ (z : ℤ). read_as (value.whole W z) rest.now) plain,
      ap decimal (sym same),
    )

pub signed_read_so : (kind : WasmTypeKind) (W : Whole) (bytes : List ℕ) (n : ℕ) (z : ℤ) (x : Bool × ℕ × Bor (List ℕ)) (rest : List ℕ) → kind ≡ whole_kind W → z ≡ whole_of W n → whole_text x.0 x.1 ≡ leaf_text (value.whole W z) → x.2.now ≡ rest → number_at (width_of W) bytes ≡ Ok (n, rest) → IsWholeRead kind bytes (Ok x)
signed_read_so kind W bytes n z x rest is same said behind reads = λ R e.
    subst (λ (Q : Whole). IsWholeAt Q bytes x.0 x.1 x.2.now) (whole_same W R (simple_same (type.whole W) (type.whole R) (simple_is (type.whole R) (type.simple (type.whole W)) (sym e ∙ is)))) (
      value.whole W z,
      ap (λ (q : Reading ℕ). q >>= λ y. read_as (value.whole W (whole_of W y.0)) y.1) reads ∙ (ap (λ (y : ℤ). read_as (value.whole W y) rest) (sym same) ∙ ap (λ (s : List ℕ). read_as (value.whole W z) s) (sym behind)),
      sym said,
    )

pub whole_fault : (kind : WasmTypeKind) (W : Whole) (bytes : List ℕ) (s : Stop) → kind ≡ whole_kind W → IsFaultOf s (number_at (width_of W) bytes) → IsWholeRead kind bytes (Err s)
whole_fault kind W bytes s is h = λ R e.
    subst (λ (Q : Whole). IsFaultOf s (leaf_at (type.whole Q) bytes)) (whole_same W R (simple_same (type.whole W) (type.whole R) (simple_is (type.whole R) (type.simple (type.whole W)) (sym e ∙ is))))
    (fault_on s (number_at (width_of W) bytes) (leaf_at (type.whole W) bytes) (λ x f. ap (λ (q : Reading ℕ). q >>= λ y. read_as (value.whole W (whole_of W y.0)) y.1) f) h)

-- a kind of no whole number
pub no_whole : (kind : WasmTypeKind) (bytes : List ℕ) (s : Stop) → ((W : Whole) → kind ≡ whole_kind W → ⊥) → IsWholeRead kind bytes (Err s)
no_whole kind bytes s none = λ W e. absurd (none W e)
