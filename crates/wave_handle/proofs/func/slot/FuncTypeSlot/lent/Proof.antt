-- What a slot that is not empty holds is lent.
use Rattle.std.specs.Prelude.{is_some, true, Option}
use Rattle.wave_type.specs.contracts.func.FuncType as content
use Rattle.wave_handle.specs.Private.FuncTypeSlot.{with_function_type}
use Rattle.wave_handle.specs.contracts.func.slot.FuncTypeSlot as slot
use Rattle.wave_handle.specs.contracts.func.slot.FuncTypeSlot.lent as F
use Rattle.wave_handle.proofs.func.slot.FuncTypeSlot.lent.Statement.{statement}
use Rattle.wave_handle.proofs.func.slot.FuncTypeSlot.lent.Code as code
use Rattle.wave_handle.proofs.Boxes.{function_type_box as E, some_of}
use Rattle.wave_handle.proofs.Lending.{lends_value}
use Rattle.wave_handle.proofs.Steps.{[], ◌∷◌, ◌≡◌, refl, named, vptr, ftrue, flft, fobs, fact, tables, ‵, raw, ◌⊛◌, ◌$◌, ◌∵◌, !, qed, by, done, move, keep, drop, split, join, fsplit3, fjoin, rewrite, suffices, frame, no, follows, RattleType, MutRef, mut_vals, mut_Tells, plain, mut_ref_to, nothing, heard, Stays, walk_of, says, stay_dropped, Goes-spent_ref, ends_at, proved}

abbrev S : RattleType
S = slot.the_row

abbrev stayed : Stays F.ended.signature.params F.ended.kept
stayed = (stay_dropped (mut_ref_to (0 ∷ []) tt (plain (λ _. S))) no, tt)

pub lent_spec : {M : Type 1} → statement M
lent_spec 𝓤 𝓛 𝓜 𝓡 wired =
    let c = F.clauses 𝓛 𝓜.mem 𝓡.returns in let W = walk_of 𝓛 F.ended stayed c in let 𝓣 = tables 𝓤 𝓛.H 𝓜 𝓡 𝓡.env in
    proved 𝓛 F.ended stayed c 𝓜 𝓡 (Goes-spent_ref 𝓛 1 (0 ∷ []) tt (plain (λ _. S)), tt) F.Key.name code.function (code.unfolded 𝓤 𝓛.H 𝓜 𝓡 wired)
    (λ κs. (mut_vals, tt)) (λ κs. (mut_Tells (named 0) κs.0 S, tt)) (λ κs qs bounds a g are.
    let κ = κs.0 in let q = qs.0 in let self = a.0 in let s = self.now in let rb = self.ref_ptr.0 in let ro = self.ref_ptr.1 in
    let y : W.Ghost = ((κs, qs, bounds, a, (mut_vals self, tt)), tt) in
    qed 𝓛 (((‵ (flft κ q) ⊛ ‵ ftrue) ⊛ ‵ ((MutRef (named 0) κ S).own_val self (mut_vals self)) ⊛ ‵ ftrue) ∷ raw (fact 𝓤 (is_some s.value ≡ true)) ∷ []) ∵
    move ! (1 ∷ []) $ heard ! (is_some s.value ≡ true) (λ full. let held = some_of s.value full in
    split ! $ split ! $ move ! (2 ∷ []) $ split ! $ keep ! (0 ∷ 2 ∷ []) $ fsplit3 ! $ drop ! $
    rewrite ! 0 (λ (o : Option E.row.Denot). ‵ (fobs self.ghost_name (S.coded.code (record s { value = o })))) held.1 refl $
    by ! (lends_value E slot.the_type.name S s.at s.alloc (with_function_type s) refl (λ x vs. refl) 𝓛 _ _ _ 𝓣.C 𝓣.Λ (W.post y) κ q self.ghost_name rb ro held.0 (λ b o γ'.
    qed 𝓛 (‵ ((MutRef (named 0) κ content.the_row).own_val (record { ref_ptr = (b, o); ghost_name = γ'; now = held.0 }) (vptr b o ∷ [])) ∷ ‵ (flft κ q) ∷ ‵ (follows S content.the_row self.ghost_name γ' (with_function_type s)) ∷ []) ∵
    suffices ! _ (ends_at 𝓛 F.ended stayed c y (vptr b o) (record { ref_ptr = (b, o); ghost_name = γ'; now = held.0 }) (tt, tt) (tt, tt)) $
    nothing ! $ nothing ! $ fjoin ! $ join ! $ nothing ! $ move ! (2 ∷ 0 ∷ []) $ join ! $ join ! $ frame ! $ says ! held.1 $ done !))))
