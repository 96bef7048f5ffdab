-- What is known of parts that were read, kind by kind.
use Rattle.std.proofs.Common.{inl, inr}
use Rattle.wave_wasm.specs.Types.{TypeTree}
use Rattle.wave_wasm.specs.Values.{Value}
use Rattle.wave_read.specs.ListParts.{AreItems}
use Rattle.wave_read.specs.TupleParts.{IsRow}
use Rattle.wave_read.specs.Payloads.{AreOfSome, AreOfResult}
use Rattle.wave_read.specs.CaseParts.{AreCaseParts}
use Rattle.wave_read.specs.RecordParts.{AreFields}
use Rattle.wave_read.specs.MapParts.{AreEntries}
use Rattle.wave_read.specs.Private.PartSteps.{WereRead}
use Rattle.wave_read.specs.PartsOfKinds.{AreBareOrRead}
use Rattle.wave_read.specs.declared.lists.Items.{Items}
use Rattle.wave_read.specs.declared.tuples.TupleItems.{TupleItems}
use Rattle.wave_read.specs.declared.options.SomePayload.{SomePayload}
use Rattle.wave_read.specs.declared.results.ResultPayload.{ResultPayload}
use Rattle.wave_read.specs.declared.variants.CasePayload.{CasePayload}
use Rattle.wave_read.specs.declared.records.Fields.{Fields}
use Rattle.wave_read.specs.declared.maps.Entries.{Entries}
use Rattle.wave_read.specs.declared.parts.Partial.TheVariants as parts

module _ {S V : Type 0} (type_tree : S → TypeTree) (tree : V → Value) (of : V → TypeTree → Type 0) (Full : TypeTree → Type 0) where
  -- the items of a list
  pub items_read : (x : Items S V) → AreBareOrRead type_tree tree of Full (parts.Items x) → WereRead AreItems type_tree tree of Full x
  items_read x (inl bare) = absurd bare
  items_read x (inr (w, T, source, ty, children, h)) = (w, T, source, children, h.1)

  -- those of a tuple
  pub row_read : (x : TupleItems S V) → AreBareOrRead type_tree tree of Full (parts.TupleItems x) → WereRead IsRow type_tree tree of Full x
  row_read x (inl bare) = absurd bare
  row_read x (inr (w, T, source, ty, children, h)) = (w, T, source, children, h.1)

  -- the payload of an option
  pub some_was_read : (x : SomePayload S V) → AreBareOrRead type_tree tree of Full (parts.OfSome x) → WereRead AreOfSome type_tree tree of Full x
  some_was_read x (inl bare) = absurd bare
  some_was_read x (inr (w, T, source, ty, children, h)) = (w, T, source, children, h.1)

  -- that of a result
  pub result_was_read : (x : ResultPayload S V) → AreBareOrRead type_tree tree of Full (parts.OfResult x) → WereRead AreOfResult type_tree tree of Full x
  result_was_read x (inl bare) = absurd bare
  result_was_read x (inr (w, T, source, ty, children, h)) = (w, T, source, children, h.1)

  -- a case and its payload
  pub case_read : (x : CasePayload S V) → AreBareOrRead type_tree tree of Full (parts.OfCase x) → WereRead AreCaseParts type_tree tree of Full x
  case_read x (inl bare) = absurd bare
  case_read x (inr (w, T, source, ty, children, h)) = (w, T, source, children, h.1)

  -- the fields of a record
  pub fields_read : (x : Fields S V) → AreBareOrRead type_tree tree of Full (parts.Fields x) → WereRead AreFields type_tree tree of Full x
  fields_read x (inl bare) = absurd bare
  fields_read x (inr (w, T, source, ty, children, h)) = (w, T, source, children, h.1)

  -- the entries of a map
  pub entries_read : (x : Entries S V) → AreBareOrRead type_tree tree of Full (parts.Entries x) → WereRead AreEntries type_tree tree of Full x
  entries_read x (inl bare) = absurd bare
  entries_read x (inr (w, T, source, ty, children, h)) = (w, T, source, children, h.1)
