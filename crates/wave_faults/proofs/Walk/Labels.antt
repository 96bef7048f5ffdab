-- What is told of the name of an enum's case, and of each flag.
use Rattle.std.proofs.Common.{ℕ, ◌≡◌, List, [], ◌∷◌, Some, None, refl, sym, ap, ◌∙◌, subst}
use Rattle.std.specs.List.{position}
use Rattle.std.specs.Str.{bytes_eq}
use Rattle.std.specs.declared.ops.Range.{Range}
use Rattle.wave_wasm.specs.Names.{IsNoneOf}
use Rattle.wave_wasm.specs.Types as type
use Rattle.wave_wasm.specs.Types.{TypeTree, flags_names, kind_of}
use Rattle.wave_wasm.specs.declared.wasm.WasmTypeKind.TheVariants as kinds
use Rattle.wave_wasm.proofs.TypesOfValues.TypeOfKind.{formed_as}
use Rattle.wave_wasm.specs.ValueErrors.{unknown_case}
use Rattle.wave_lex.specs.Errors.{Diagnostic, caused}
use Rattle.wave_grammar.specs.LeafTokens.{name_of}
use Rattle.wave_grammar.specs.SpannedTree.{SpannedTree}
use Rattle.wave_grammar.specs.TypeErrors.{Fault}
use Rattle.wave_grammar.specs.NodeTree.{NodeTree, type_of, place_of, children_of}
use Rattle.wave_grammar.specs.Nodes.{placed_of, IsNodeOf}
use Rattle.wave_grammar.specs.NodeAccessors.{node_text}
use Rattle.wave_grammar.specs.NodeFlags.{names_at, AreFlags}
use Rattle.wave_grammar.specs.declared.form.NodeType.TheVariants as kind
use Rattle.wave_read.proofs.FlagReading.PlacedNames.{none_there}
use Rattle.wave_faults.specs.AllFaults.{Alone, InTurn, AreFaults}
use Rattle.wave_faults.specs.Private.Told.{Adds, AddsOne, AddsCause}
use Rattle.wave_faults.specs.Private.FlagFaults.{UnknownFlag}
use Rattle.wave_faults.proofs.Walk.Adding.{adds_none, adds_one, adds_so, blamed_so, Leads, lead_start, lead_on, lead_end}
use Rattle.wave_faults.proofs.Walk.Cases.{OfFlag, enum_unknown, flag_fine, flags_told, one_at}

-- a label that is no case
pub enum_added : (source : List ℕ) (n : NodeTree) (t : SpannedTree) (names : List (List ℕ)) (name text : List ℕ) (old new : List Diagnostic) → placed_of source n ≡ Some t → type_of n ≡ kind.Label → name ≡ name_of (node_text source n) → IsNoneOf names name → text ≡ name → AddsCause (unknown_case text) (place_of n) old new → Adds (AreFaults (type.enum names) t) old new
enum_added source n t names name text old new is ty named none same added =
    let blamed : AddsOne (Fault (type.enum names) t) old new =
    blamed_so (λ k q f. enum_unknown source n t names name k q is ty named none (f.0 ∙ ap (λ (w : List ℕ). caused (unknown_case w)) same, f.1)) added in
    adds_one blamed

-- a flag that the type has
pub flag_known : (names : List (List ℕ)) (p : Range ℕ) (name : List ℕ) (place : ℕ) (old : List Diagnostic) → Some place ≡ position (bytes_eq name) names → Adds (Alone (UnknownFlag names name p)) old old
flag_known names p name place old e = adds_none old (flag_fine names p name (one_at names name place e))

-- a flag that it hasn't
pub flag_added : (names : List (List ℕ)) (p : Range ℕ) (name text : List ℕ) (old new : List Diagnostic) → None ≡ position (bytes_eq name) names → text ≡ name → AddsCause (unknown_case text) p old new → Adds (Alone (UnknownFlag names name p)) old new
flag_added names p name text old new e same added =
    let blamed : AddsOne (UnknownFlag names name p) old new =
    blamed_so (λ k q f. (none_there names name e, (f.0 ∙ ap (λ (w : List ℕ). caused (unknown_case w)) same, f.1))) added in
    adds_one blamed

-- what is left of the flags at the start
pub flags_start : (names : List (List ℕ)) (p : Range ℕ) (all left : List (List ℕ)) (old : List Diagnostic) → left ≡ all → Leads (InTurn (OfFlag names p) all) (InTurn (OfFlag names p) left) old old
flags_start names p all left old is = subst (λ (ns : List (List ℕ)). Leads (InTurn (OfFlag names p) all) (InTurn (OfFlag names p) ns) old old) (sym is) (lead_start old)

-- after one flag more
pub flags_next : (names : List (List ℕ)) (p : Range ℕ) (all left more : List (List ℕ)) (name : List ℕ) (old told new : List Diagnostic) → left ≡ name ∷ more → Leads (InTurn (OfFlag names p) all) (InTurn (OfFlag names p) left) old told → Adds (Alone (UnknownFlag names name p)) told new → Leads (InTurn (OfFlag names p) all) (InTurn (OfFlag names p) more) old new
flags_next names p all left more name old told new is l h =
    let here : Leads (InTurn (OfFlag names p) all) (InTurn (OfFlag names p) (name ∷ more)) old told = subst (λ (ns : List (List ℕ)). Leads (InTurn (OfFlag names p) all) (InTurn (OfFlag names p) ns) old told) is l in
    lead_on here h

-- where none is left, all flags were told
pub flags_end : (source : List ℕ) (n : NodeTree) (t : SpannedTree) (T : TypeTree) (names left : List (List ℕ)) (old told : List Diagnostic) → T ≡ type.flags names → IsNodeOf source n t → AreFlags n → left ≡ [] → Leads (InTurn (OfFlag names (place_of n)) (names_at source (children_of n))) (InTurn (OfFlag names (place_of n)) left) old told → Adds (AreFaults T t) old told
flags_end source n t T names left old told is h are none l =
    let all : Adds (InTurn (OfFlag names (place_of n)) (names_at source (children_of n))) old told = lead_end l (subst (λ (ns : List (List ℕ)). InTurn (OfFlag names (place_of n)) ns []) (sym none) refl) in
    subst (λ (U : TypeTree). Adds (AreFaults U t) old told) (sym is) (adds_so (λ errors f. flags_told source n t names errors h are f) all)

-- a type of the kind of flags is that of its names
pub flags_are_of : (T : TypeTree) → kind_of T ≡ kinds.Flags → T ≡ type.flags (flags_names T)
flags_are_of T e = let (names, is) = formed_as kinds.Flags T (sym e) in is ∙ ap (λ (U : TypeTree). type.flags (flags_names U)) (sym is)
