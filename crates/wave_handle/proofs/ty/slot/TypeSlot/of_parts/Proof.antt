-- The slot owns what the parts did.
use Rattle.std.specs.Prelude.{Some}
use Rattle.wave_handle.specs.contracts.parts.Parts as parts
use Rattle.wave_handle.specs.contracts.ty.slot.TypeSlot as slot
use Rattle.wave_handle.specs.contracts.ty.slot.TypeSlot.of_parts as F
use Rattle.wave_handle.proofs.ty.slot.TypeSlot.of_parts.Statement.{statement}
use Rattle.wave_handle.proofs.ty.slot.TypeSlot.of_parts.Code as code
use Rattle.wave_handle.proofs.Boxes.{type_box as E, box_at}
use Rattle.wave_handle.proofs.Rewrapping.{rewraps_box}
use Rattle.wave_handle.proofs.Steps.{[], ◌∷◌, refl, emp, ftrue, fsep, tables, ‵, raw, ◌⊛◌, ◌$◌, ◌∵◌, !, qed, by, done, keep, drop, split, join, fsplit, fjoin, suffices, yes, Slot, plain, nothing, Stays, walk_of, says, stay_dropped, Goes-dropped, ends_at, proved_at, B}

abbrev From : Slot 0
From = plain (λ _. parts.the_row E.row E.al.row E.al.g)

abbrev stayed : Stays F.ended.signature.params F.ended.kept
stayed = (stay_dropped From yes, tt)

pub of_parts_spec : {M : Type 1} → statement M
of_parts_spec 𝓤 𝓛 𝓜 𝓡 wired =
    let c = F.clauses 𝓛 𝓜.mem 𝓡.returns in let W = walk_of 𝓛 F.ended stayed c in let 𝓣 = tables 𝓤 𝓛.H 𝓜 𝓡 𝓡.env in
    proved_at 𝓛 F.ended stayed c 𝓜 𝓡 (Goes-dropped 𝓛 0 From yes (λ κs x f. refl), tt) F.Key.name code.function (code.unfolded 𝓤 𝓛.H 𝓜 𝓡 wired) (λ y are.
    let p = y.0.3.0 in
    let boxed = box_at E p.at p.alloc p.value in
    let made : slot.the_row.Denot = record { at = p.at; alloc = p.alloc; value = Some p.value } in
    qed 𝓛 ((‵ ftrue ⊛ ‵ (fsep ((B E).own_val boxed y.0.4.0) ftrue)) ∷ raw (emp 𝓤) ∷ []) ∵ split ! $ drop ! $ fsplit ! $ keep ! (0 ∷ []) $
    by ! (rewraps_box E _ _ 𝓛 𝓣.C 𝓣.Λ (W.post y) boxed y.0.4.0 (λ w.
    qed 𝓛 (‵ (slot.the_row.own_val made (w ∷ [])) ∷ []) ∵
    suffices ! _ (ends_at 𝓛 F.ended stayed c y w made (tt, tt) (tt, tt)) $ says ! refl $
    nothing ! $ nothing ! $ fjoin ! $ join ! $ nothing ! $ join ! $ done !)))
