-- An empty slot owns nothing but its fields.
use Rattle.std.specs.Prelude.{None}
use Rattle.std_heap.specs.contracts.Global as heap
use Rattle.wave_handle.specs.contracts.func.slot.FuncTypeSlot as slot
use Rattle.wave_handle.specs.contracts.func.slot.FuncTypeSlot.empty as F
use Rattle.wave_handle.proofs.func.slot.FuncTypeSlot.empty.Statement.{statement}
use Rattle.wave_handle.proofs.func.slot.FuncTypeSlot.empty.Code as code
use Rattle.wave_handle.proofs.Boxes.{function_type_box as E}
use Rattle.wave_handle.proofs.Emptying.{null_word, empties_slot, owns_null}
use Rattle.wave_handle.proofs.Steps.{[], ◌∷◌, refl, emp, id⊢, ftrue, fsep, tables, ‵, raw, ◌⊛◌, ◌$◌, ◌∵◌, !, qed, by, done, move, keep, drop, use1, split, join, fsplit, fjoin, suffices, yes, null_ptr, Slot, plain, nothing, shape, to, Struct, Stays, walk_of, says, stay_dropped, Goes-dropped, ends_at, proved_at}

abbrev From : Slot 0
From = plain (λ _. heap.the_row)

abbrev stayed : Stays F.ended.signature.params F.ended.kept
stayed = (stay_dropped From yes, tt)

pub empty_spec : {M : Type 1} → statement M
empty_spec 𝓤 𝓛 𝓜 𝓡 wired =
    let c = F.clauses 𝓛 𝓜.mem 𝓡.returns in let W = walk_of 𝓛 F.ended stayed c in let 𝓣 = tables 𝓤 𝓛.H 𝓜 𝓡 𝓡.env in
    proved_at 𝓛 F.ended stayed c 𝓜 𝓡 (Goes-dropped 𝓛 0 From yes (λ κs x f. refl), tt) F.Key.name code.function (code.unfolded 𝓤 𝓛.H 𝓜 𝓡 wired) (λ y are.
    let a = y.0.3.0 in
    let made : slot.the_row.Denot = record { at = null_ptr; alloc = a; value = None } in
    qed 𝓛 ((‵ ftrue ⊛ ‵ (fsep (heap.the_row.own_val a y.0.4.0) ftrue)) ∷ raw (emp 𝓤) ∷ []) ∵ split ! $ drop ! $ fsplit ! $ keep ! (0 ∷ []) $
    by ! (empties_slot E slot.the_type.name 𝓛 𝓣.C 𝓣.Λ (W.post y) a y.0.4.0 (λ hv.
    let w = null_word hv in let fields = to slot.the_type made in
    qed 𝓛 (‵ (heap.the_row.own_val a (hv ∷ [])) ∷ []) ∵
    use1 𝓛 (‵ ((Struct (shape slot.the_type)).own_val fields (w ∷ []))) (owns_null slot.the_type.name heap.the_field.row 𝓛 fields.1.0 hv) $
    nothing ! $ move ! (1 ∷ 0 ∷ []) $ fjoin ! $ use1 𝓛 (‵ (slot.the_row.own_val made (w ∷ []))) (id⊢ 𝓤 _) $
    suffices ! _ (ends_at 𝓛 F.ended stayed c y w made (tt, tt) (tt, tt)) $ says ! refl $
    nothing ! $ nothing ! $ fjoin ! $ join ! $ nothing ! $ join ! $ done !)))
