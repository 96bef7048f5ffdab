use Rattle.std.proofs.Common.{◌∙◌, ap, sym, string_bytes}
use Rattle.std.specs.BTreeMap.{get_by_text}
use Rattle.std.specs.Str.{bytes_eq}
use Rattle.wave_type.specs.TypeModel.{by_bytes}
use Rattle.wave_wasm.proofs.Names.MappedSearch.{position-map}
use Rattle.wave_type.proofs.TypeTrees.Lists.{field_list-fields_of}
use Rattle.wave_type.proofs.ty.places.field_place.Goals as goal

pub returns-in-Record : goal.returns-in-Record
returns-in-Record c =
    let fields = c.in-Record.fields.value.0.items in
    let name = c.args.name.now in
    rw (← c.ty.view_is) (rw c.in-Record.is (rw field_list-fields_of (
    c.first_place.ensures ∙ (ap (λ p. get_by_text p.1 name) c.deref.ensures ∙ ((rw c.in-Record.is at c.ty.invariant.places) name
    ∙ (position-map (bytes_eq name) (λ x. string_bytes x.0) fields ∙ sym (position-map (λ n. bytes_eq name n.0) by_bytes fields)))))))
