use Rattle.wave_grammar.specs.FaultOrder.{in_text}
use Rattle.std.proofs.Common.{inl, [], refl, sym, subst}
use Rattle.wave_grammar.specs.NodeTree.{node, node_trees}
use Rattle.wave_grammar.specs.declared.form.NodeType.{NodeType}
use Rattle.wave_grammar.specs.declared.form.NodeType.TheVariants as kind
use Rattle.wave_wasm.specs.Types.{TypeTree}
use Rattle.wave_leaf.specs.PlainReading.{IsPlain}
use Rattle.wave_leaf.specs.Reading.{IsReadAs}
use Rattle.wave_read.specs.PartsOfKinds.{AreParts, AreBareOrRead}
use Rattle.wave_read.specs.declared.parts.Partial.{Partial}
use Rattle.wave_read.proofs.ReadErrors.RejectedValues.{reported}
use Rattle.wave_read.proofs.PartByPart.ReadByKind.{items_read, row_read, some_was_read, result_was_read, case_read, fields_read, entries_read}
use Rattle.wave_read.proofs.parts.Partial+V+Type+V.finish.Goals as goal

pub finish-requires : goal.finish-requires
finish-requires g c =
    items_read g.V.Type.WasmType.tree g.V.WasmValue.tree g.V.WasmValue.is_of g.V.WasmValue.is_full c.in-Items.items (subst (AreBareOrRead g.V.Type.WasmType.tree g.V.WasmValue.tree g.V.WasmValue.is_of g.V.WasmValue.is_full) c.in-Items.is c.requires)

pub finish-requires-in-TupleItems : goal.finish-requires-in-TupleItems
finish-requires-in-TupleItems g c =
    row_read g.V.Type.WasmType.tree g.V.WasmValue.tree g.V.WasmValue.is_of g.V.WasmValue.is_full c.in-TupleItems.row (subst (AreBareOrRead g.V.Type.WasmType.tree g.V.WasmValue.tree g.V.WasmValue.is_of g.V.WasmValue.is_full) c.in-TupleItems.is c.requires)

pub finish-requires-in-OfSome : goal.finish-requires-in-OfSome
finish-requires-in-OfSome g c =
    some_was_read g.V.Type.WasmType.tree g.V.WasmValue.tree g.V.WasmValue.is_of g.V.WasmValue.is_full c.in-OfSome.payload (subst (AreBareOrRead g.V.Type.WasmType.tree g.V.WasmValue.tree g.V.WasmValue.is_of g.V.WasmValue.is_full) c.in-OfSome.is c.requires)

pub finish-requires-in-OfResult : goal.finish-requires-in-OfResult
finish-requires-in-OfResult g c =
    result_was_read g.V.Type.WasmType.tree g.V.WasmValue.tree g.V.WasmValue.is_of g.V.WasmValue.is_full c.in-OfResult.payload (subst (AreBareOrRead g.V.Type.WasmType.tree g.V.WasmValue.tree g.V.WasmValue.is_of g.V.WasmValue.is_full) c.in-OfResult.is c.requires)

pub finish-requires-in-OfCase : goal.finish-requires-in-OfCase
finish-requires-in-OfCase g c =
    case_read g.V.Type.WasmType.tree g.V.WasmValue.tree g.V.WasmValue.is_of g.V.WasmValue.is_full c.in-OfCase.payload (subst (AreBareOrRead g.V.Type.WasmType.tree g.V.WasmValue.tree g.V.WasmValue.is_of g.V.WasmValue.is_full) c.in-OfCase.is c.requires)

pub finish-requires-in-Fields : goal.finish-requires-in-Fields
finish-requires-in-Fields g c =
    fields_read g.V.Type.WasmType.tree g.V.WasmValue.tree g.V.WasmValue.is_of g.V.WasmValue.is_full c.in-Fields.fields (subst (AreBareOrRead g.V.Type.WasmType.tree g.V.WasmValue.tree g.V.WasmValue.is_of g.V.WasmValue.is_full) c.in-Fields.is c.requires)

pub finish-requires-in-Entries : goal.finish-requires-in-Entries
finish-requires-in-Entries g c =
    entries_read g.V.Type.WasmType.tree g.V.WasmValue.tree g.V.WasmValue.is_of g.V.WasmValue.is_full c.in-Entries.entries (subst (AreBareOrRead g.V.Type.WasmType.tree g.V.WasmValue.tree g.V.WasmValue.is_of g.V.WasmValue.is_full) c.in-Entries.is c.requires)

pub returns-in-Faulty-clause-read : goal.returns-in-Faulty-clause-read
returns-in-Faulty-clause-read g c = λ w T source of children parts.
    let h = subst (λ (x : Partial g.row.V-Type.Denot g.row.V.Denot). AreParts g.V.Type.WasmType.tree g.V.WasmValue.tree g.V.WasmValue.is_of g.V.WasmValue.is_full w T source of children x) c.in-Faulty.is parts in
    reported g.V.WasmValue.tree g.V.WasmValue.is_of g.V.WasmValue.is_full in_text w T source of children c.in-Faulty.fault c.args.span c.report.result h c.report.ensures

pub returns-in-Simple-clause-read : goal.returns-in-Simple-clause-read
returns-in-Simple-clause-read g c = λ w T source of children parts.
    let h = subst (λ (x : Partial g.row.V-Type.Denot g.row.V.Denot). AreParts g.V.Type.WasmType.tree g.V.WasmValue.tree g.V.WasmValue.is_of g.V.WasmValue.is_full w T source of children x) c.in-Simple.is parts in
    subst (λ (U : TypeTree). IsReadAs g.V.WasmValue.tree g.V.WasmValue.is_of g.V.WasmValue.is_full in_text w U source (node of c.args.span (node_trees children)) c.refuse_form.result) h.0
    (c.refuse_form.ensures.read in_text w source (node of c.args.span (node_trees children)) refl (inl h.2) (rw h.0 h.1))

pub returns-in-Empty-clause-read : goal.returns-in-Empty-clause-read
returns-in-Empty-clause-read g c = λ w T source of children parts.
    let h = subst (λ (x : Partial g.row.V-Type.Denot g.row.V.Denot). AreParts g.V.Type.WasmType.tree g.V.WasmValue.tree g.V.WasmValue.is_of g.V.WasmValue.is_full w T source of children x) c.in-Empty.is parts in
    rw (h.0, h.1) (subst (λ (U : TypeTree). IsReadAs g.V.WasmValue.tree g.V.WasmValue.is_of g.V.WasmValue.is_full in_text w U source (node kind.EmptySet c.args.span (node_trees [])) c.read_empty.result) h.2 (c.read_empty.ensures in_text w source (rw h.2 h.3)))

pub returns-in-Items-clause-read : goal.returns-in-Items-clause-read
returns-in-Items-clause-read g c = λ w T source of children parts.
    let h = subst (λ (x : Partial g.row.V-Type.Denot g.row.V.Denot). AreParts g.V.Type.WasmType.tree g.V.WasmValue.tree g.V.WasmValue.is_of g.V.WasmValue.is_full w T source of children x) c.in-Items.is parts in
    subst (λ (k : NodeType). IsReadAs g.V.WasmValue.tree g.V.WasmValue.is_of g.V.WasmValue.is_full in_text w T source (node k c.args.span (node_trees children)) c.finish.result) (sym h.0) (c.finish.ensures w T source children h.1)

pub returns-in-TupleItems-clause-read : goal.returns-in-TupleItems-clause-read
returns-in-TupleItems-clause-read g c = λ w T source of children parts.
    let h = subst (λ (x : Partial g.row.V-Type.Denot g.row.V.Denot). AreParts g.V.Type.WasmType.tree g.V.WasmValue.tree g.V.WasmValue.is_of g.V.WasmValue.is_full w T source of children x) c.in-TupleItems.is parts in
    subst (λ (k : NodeType). IsReadAs g.V.WasmValue.tree g.V.WasmValue.is_of g.V.WasmValue.is_full in_text w T source (node k c.args.span (node_trees children)) c.finish-in-TupleItems.result) (sym h.0) (c.finish-in-TupleItems.ensures w T source children h.1)

pub returns-in-OfSome-clause-read : goal.returns-in-OfSome-clause-read
returns-in-OfSome-clause-read g c = λ w T source of children parts.
    let h = subst (λ (x : Partial g.row.V-Type.Denot g.row.V.Denot). AreParts g.V.Type.WasmType.tree g.V.WasmValue.tree g.V.WasmValue.is_of g.V.WasmValue.is_full w T source of children x) c.in-OfSome.is parts in
    subst (λ (k : NodeType). IsReadAs g.V.WasmValue.tree g.V.WasmValue.is_of g.V.WasmValue.is_full in_text w T source (node k c.args.span (node_trees children)) c.finish-in-OfSome.result) (sym h.0) (c.finish-in-OfSome.ensures w T source children h.1)

pub returns-in-OfResult-clause-read : goal.returns-in-OfResult-clause-read
returns-in-OfResult-clause-read g c = λ w T source of children parts.
    let h = subst (λ (x : Partial g.row.V-Type.Denot g.row.V.Denot). AreParts g.V.Type.WasmType.tree g.V.WasmValue.tree g.V.WasmValue.is_of g.V.WasmValue.is_full w T source of children x) c.in-OfResult.is parts in
    subst (λ (k : NodeType). IsReadAs g.V.WasmValue.tree g.V.WasmValue.is_of g.V.WasmValue.is_full in_text w T source (node k c.args.span (node_trees children)) c.finish-in-OfResult.result) (sym h.0) (c.finish-in-OfResult.ensures in_text w T source children h.1)

pub returns-in-OfCase-clause-read : goal.returns-in-OfCase-clause-read
returns-in-OfCase-clause-read g c = λ w T source of children parts.
    let h = subst (λ (x : Partial g.row.V-Type.Denot g.row.V.Denot). AreParts g.V.Type.WasmType.tree g.V.WasmValue.tree g.V.WasmValue.is_of g.V.WasmValue.is_full w T source of children x) c.in-OfCase.is parts in
    subst (λ (k : NodeType). IsReadAs g.V.WasmValue.tree g.V.WasmValue.is_of g.V.WasmValue.is_full in_text w T source (node k c.args.span (node_trees children)) c.finish-in-OfCase.result) (sym h.0) (c.finish-in-OfCase.ensures w T source children h.1)

pub returns-in-Fields-clause-read : goal.returns-in-Fields-clause-read
returns-in-Fields-clause-read g c = λ w T source of children parts.
    let h = subst (λ (x : Partial g.row.V-Type.Denot g.row.V.Denot). AreParts g.V.Type.WasmType.tree g.V.WasmValue.tree g.V.WasmValue.is_of g.V.WasmValue.is_full w T source of children x) c.in-Fields.is parts in
    subst (λ (k : NodeType). IsReadAs g.V.WasmValue.tree g.V.WasmValue.is_of g.V.WasmValue.is_full in_text w T source (node k c.args.span (node_trees children)) c.finish-in-Fields.result) (sym h.0) (c.finish-in-Fields.ensures w T source children h.1)

pub returns-in-Entries-clause-read : goal.returns-in-Entries-clause-read
returns-in-Entries-clause-read g c = λ w T source of children parts.
    let h = subst (λ (x : Partial g.row.V-Type.Denot g.row.V.Denot). AreParts g.V.Type.WasmType.tree g.V.WasmValue.tree g.V.WasmValue.is_of g.V.WasmValue.is_full w T source of children x) c.in-Entries.is parts in
    subst (λ (k : NodeType). IsReadAs g.V.WasmValue.tree g.V.WasmValue.is_of g.V.WasmValue.is_full in_text w T source (node k c.args.span (node_trees children)) c.finish-in-Entries.result) (sym h.0) (c.finish-in-Entries.ensures w T source children h.1)

pub returns-in-Simple-clause-plain : goal.returns-in-Simple-clause-plain
returns-in-Simple-clause-plain g c = λ T plain simple.
    let same = rw c.in-Simple.is at simple in
    c.refuse_form.ensures.plain (subst IsPlain (sym same) plain)

pub returns-in-Faulty-clause-plain : goal.returns-in-Faulty-clause-plain
returns-in-Faulty-clause-plain g c = λ T plain simple. absurd (rw c.in-Faulty.is at simple)

pub returns-in-Empty-clause-plain : goal.returns-in-Empty-clause-plain
returns-in-Empty-clause-plain g c = λ T plain simple. absurd (rw c.in-Empty.is at simple)

pub returns-in-Items-clause-plain : goal.returns-in-Items-clause-plain
returns-in-Items-clause-plain g c = λ T plain simple. absurd (rw c.in-Items.is at simple)

pub returns-in-TupleItems-clause-plain : goal.returns-in-TupleItems-clause-plain
returns-in-TupleItems-clause-plain g c = λ T plain simple. absurd (rw c.in-TupleItems.is at simple)

pub returns-in-OfSome-clause-plain : goal.returns-in-OfSome-clause-plain
returns-in-OfSome-clause-plain g c = λ T plain simple. absurd (rw c.in-OfSome.is at simple)

pub returns-in-OfResult-clause-plain : goal.returns-in-OfResult-clause-plain
returns-in-OfResult-clause-plain g c = λ T plain simple. absurd (rw c.in-OfResult.is at simple)

pub returns-in-OfCase-clause-plain : goal.returns-in-OfCase-clause-plain
returns-in-OfCase-clause-plain g c = λ T plain simple. absurd (rw c.in-OfCase.is at simple)

pub returns-in-Fields-clause-plain : goal.returns-in-Fields-clause-plain
returns-in-Fields-clause-plain g c = λ T plain simple. absurd (rw c.in-Fields.is at simple)

pub returns-in-Entries-clause-plain : goal.returns-in-Entries-clause-plain
returns-in-Entries-clause-plain g c = λ T plain simple. absurd (rw c.in-Entries.is at simple)
