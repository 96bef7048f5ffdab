-- The parts own what a slot that is not empty did.
use Rattle.std.specs.Prelude.{is_some, true, Option}
use Rattle.wave_handle.specs.contracts.parts.Parts as parts
use Rattle.wave_handle.specs.contracts.func.slot.FuncTypeSlot as slot
use Rattle.wave_handle.specs.contracts.func.slot.FuncTypeSlot.into_parts as F
use Rattle.wave_handle.proofs.func.slot.FuncTypeSlot.into_parts.Statement.{statement}
use Rattle.wave_handle.proofs.func.slot.FuncTypeSlot.into_parts.Code as code
use Rattle.wave_handle.proofs.Boxes.{function_type_box as E, box_at, some_of}
use Rattle.wave_handle.proofs.Rewrapping.{rewraps_box}
use Rattle.wave_handle.proofs.Steps.{[], ◌∷◌, ◌≡◌, refl, ftrue, fsep, fact, tables, ‵, raw, ◌⊛◌, ◌$◌, ◌∵◌, !, qed, by, done, move, keep, drop, split, join, fsplit, fjoin, rewrite, suffices, yes, RattleType, Slot, plain, nothing, heard, Stays, walk_of, says, stay_dropped, Goes-dropped, ends_at, proved_at}

abbrev From : Slot 0
From = plain (λ _. slot.the_row)

abbrev To : RattleType
To = parts.the_row E.row E.al.row E.al.g

abbrev stayed : Stays F.ended.signature.params F.ended.kept
stayed = (stay_dropped From yes, tt)

pub into_parts_spec : {M : Type 1} → statement M
into_parts_spec 𝓤 𝓛 𝓜 𝓡 wired =
    let c = F.clauses 𝓛 𝓜.mem 𝓡.returns in let W = walk_of 𝓛 F.ended stayed c in let 𝓣 = tables 𝓤 𝓛.H 𝓜 𝓡 𝓡.env in
    proved_at 𝓛 F.ended stayed c 𝓜 𝓡 (Goes-dropped 𝓛 0 From yes (λ κs x f. refl), tt) F.Key.name code.function (code.unfolded 𝓤 𝓛.H 𝓜 𝓡 wired) (λ y are.
    let s = y.0.3.0 in
    qed 𝓛 ((‵ ftrue ⊛ ‵ (fsep (slot.the_row.own_val s y.0.4.0) ftrue)) ∷ raw (fact 𝓤 (is_some s.value ≡ true)) ∷ []) ∵
    move ! (1 ∷ []) $ heard ! (is_some s.value ≡ true) (λ full. let content = some_of s.value full in
    let boxed = box_at E s.at s.alloc content.0 in
    let made : To.Denot = record { at = s.at; alloc = s.alloc; value = content.0 } in
    split ! $ drop ! $ fsplit ! $ keep ! (0 ∷ []) $
    rewrite ! 0 (λ (o : Option E.row.Denot). ‵ (slot.the_row.own_val (record s { value = o }) y.0.4.0)) content.1 refl $
    by ! (rewraps_box E _ _ 𝓛 𝓣.C 𝓣.Λ (W.post y) boxed y.0.4.0 (λ w.
    qed 𝓛 (‵ (To.own_val made (w ∷ [])) ∷ []) ∵
    suffices ! _ (ends_at 𝓛 F.ended stayed c y w made (tt, tt) (tt, tt)) $ says ! content.1 $
    nothing ! $ nothing ! $ fjoin ! $ join ! $ nothing ! $ join ! $ done !))))
