-- A box is taken apart, and its parts own what it owned.
use Rattle.std_alloc.specs.contracts.boxed.Box.into_raw_with_allocator as into_raw
use Rattle.std_alloc.proofs.boxed.Box.into_raw_with_allocator.Met.{met}
use Rattle.wave_handle.specs.contracts.parts.Parts as parts
use Rattle.wave_handle.specs.contracts.parts.Parts.of as F
use Rattle.wave_handle.proofs.parts.Parts.of.Statement.{statement}
use Rattle.wave_handle.proofs.parts.Parts.of.Code as code
use Rattle.wave_handle.proofs.Boxes.{box_at, is_word}
use Rattle.wave_handle.proofs.Steps.{List, [], ◌∷◌, ◌++◌, ◌≡◌, refl, ap, ◌∙◌, Fn, Args, Dict, dcons, dnil, a_type, inst_fn, bare, Val, vstruct, of_list, id⊢, never, fst∗, ftrue, fsep, flft, WpFn, ◌⊑◌, fact, tables, Item, ‵, raw, ◌⊛◌, some, later, prop, ◌$◌, ◌∵◌, !, qed, done, move, drop, use1, split, split3, join, fsplit, fjoin, fpick, feq_l, pick, await, rewrite, regoal, suffices, sem, whole, sub, agg, enter, of_opd, stop, fld, no_more, and_then, returns, alloc_all, pass_all, free_all, look_at, get, get_in, sets, lands_as, no, bounded, RattleType, Ptr, RawPtr, block_ptr, null_ptr, ptr_val, in_a_block, Slot, plain, nothing, heard, only, Tuple, calls_at, Ended, triple_of, Contract, framed, Stays, walk_of, says, stay_dropped, ends_at, token, handle_tells, Goes-blank, proved_at, Bx, R, P, B, τ, word, box_typed, box_in, box_owns}

module _ (E : Bx) (glue : Dict) where
  abbrev given : Args
  given = bounded (a_type ∷ a_type ∷ []) (E.row, (E.al.row, tt)) (dcons E.al.d (dcons E.al.drops (dcons glue dnil)))

  abbrev fn : Fn
  fn = inst_fn given code.function

  abbrev ended : Ended
  ended = F.ended E.row E.al.row E.al.g E.al.d E.al.drops glue

  abbrev From : Slot 2
  From = plain (λ _. B E)

  abbrev To : RattleType
  To = parts.the_row (R E) (P E) E.al.g

  abbrev stayed : Stays ended.signature.params ended.kept
  stayed = (stay_dropped From no, tt)

pub of_spec : {M : Type 1} → statement M
of_spec 𝓤 𝓛 𝓜 𝓡 wired X Z LX LZ g d drops glue allocator dropped glued =
    let E : Bx = record { row = X; laws = LX; al = record { row = Z; laws = LZ; g = g; d = d; drops = drops } } in
    let 𝓣 = tables 𝓤 𝓛.H 𝓜 𝓡 𝓡.env in let c = F.clauses X Z g d drops glue 𝓛 𝓜.mem 𝓡.returns in let W = walk_of 𝓛 (ended E glue) (stayed E glue) c in
    let Called : Contract 𝓤 = triple_of 𝓛 (into_raw.signature X Z g d drops glue) (into_raw.spec X Z g d drops glue 𝓛 𝓜.mem 𝓡.returns) in
    let meets = met 𝓤 𝓛 𝓜 𝓡 (code.calls-std_alloc::boxed::Box::into_raw_with_allocator 𝓡.env wired) X Z LX LZ g d drops glue allocator dropped glued in
    proved_at 𝓛 (ended E glue) (stayed E glue) c 𝓜 𝓡 (Goes-blank 𝓛 2 (From E glue) no (λ κs x f. tt), tt) (F.Key.name (given E glue)) (fn E glue) (code.unfolded 𝓤 𝓛.H 𝓜 𝓡 wired (X, (Z, tt)) d drops glue) (λ z are.
    let κs = z.0.0 in let qs = z.0.1 in let v = z.0.3.0 in let a = v.alloc in
    let tokens : Item 𝓤 = ‵ (flft κs.0 qs.0) ⊛ ‵ (flft κs.1.0 qs.1.0) ⊛ ‵ ftrue in
    let alive : Item 𝓤 = raw (fact 𝓤 (κs.0 ⊑ X.lives)) ⊛ raw (fact 𝓤 (κs.1.0 ⊑ Z.lives)) ⊛ ‵ ftrue in
    qed 𝓛 ((tokens ⊛ ‵ (fsep ((B E).own_val v z.0.4.0) ftrue)) ∷ alive ∷ []) ∵ split ! $ move ! (1 ∷ []) $ fsplit ! $
    is_word E ! v z.0.4.0 (λ b o hv ws fits.
    regoal ! (λ (us : List Val). prop (WpFn 𝓤 𝓛.H 𝓣.C 𝓣.Λ (fn E glue) (us ++ []) (W.post z))) ws refl $
    let w = word E hv b o in
    enter ! 𝓣.C 𝓣.Λ (fn E glue) (w ∷ []) (W.post z) $ alloc_all ! (λ l. pass_all ! refl (box_typed E hv b o fits, tt) $
    sets ! (of_opd ! (get ! refl)) refl (box_typed E hv b o fits) $
    -- [the box; true; the tokens; that they are alive]: the call is handed all of it
    fjoin ! $ move ! (1 ∷ 0 ∷ []) $ join ! $ join ! $
    let y : Called.Ghost = ((κs, qs, tt, (v, tt), (w ∷ [], tt)), tt) in
    use1 𝓛 (raw (Called.pre y)) (id⊢ 𝓤 _) $
    calls_at ! (framed 𝓤 𝓛.H 𝓜 𝓣) Called meets y (and_then ! (get ! refl) (no_more !)) (λ u.
    use1 𝓛 (later (some (λ (r : Ptr × Z.Denot). (tokens ⊛ ‵ ((Tuple (RawPtr ∷ P E ∷ [])).own_val r (u ∷ []))) ⊛ some (λ (_ : (Unit {0} × (Unit {0} × Unit {0})) × Unit {0}). ‵ (fsep (fsep ftrue (fsep ftrue ftrue)) ftrue) ⊛ (raw (fact 𝓤 (r.1 ≡ a)) ⊛ ‵ (box_owns (token E.al a) (R E) r.0 v.value)))))) (id⊢ 𝓤 _) $
    await ! tt $ pick ! (λ r. split ! $ move ! (1 ∷ []) $ pick ! (λ _. split3 ! $ drop ! $ heard ! (r.1 ≡ a) (λ same.
    in_a_block ! r.0 (λ p. box_owns (token E.al a) (R E) p v.value) (fst∗ 𝓤 (never 𝓤) (sem 𝓛 (token E.al a (bare (τ E)) null_ptr))) (λ b' o' at.
    -- [what the pointer owns; the tokens with the pair]: the pair is taken apart
    move ! (1 ∷ []) $ split ! $ move ! (1 ∷ []) $ fpick ! (λ vss. fsplit ! $ feq_l ! (λ eu. fsplit ! $ feq_l ! (λ ep. fsplit ! $
    rewrite ! 0 (λ (s : Z.Denot). ‵ (Z.own_val s vss.1.0)) same refl $ handle_tells E.al ! a vss.1.0 (λ hw eh fits'.
    let made : (To E glue).Denot = record { at = block_ptr b' o'; alloc = a; value = v.value } in
    let typed = box_typed E hw b' o' fits' in
    lands_as ! (ap only (eu ∙ (λ j. vstruct (of_list ((ep ∙ ap (λ (p : Ptr). ptr_val p ∷ []) at) j ++ (eh j ++ []))) ∷ []))) refl typed $
    sets ! (of_opd ! (get_in ! (fld ! refl (stop !)) (sub ! 0 refl (whole !)))) refl (tt, tt) $
    sets ! (of_opd ! (get_in ! (fld ! refl (stop !)) (sub ! 1 refl (whole !)))) refl fits' $
    sets ! (of_opd ! (get ! refl)) refl fits' $
    sets ! (agg ! (and_then ! (get ! refl) (and_then ! (get ! refl) (no_more !)))) refl typed $ returns ! (look_at ! 0 refl) $ free_all ! refl $
    -- [the allocator; true; the tokens; what the pointer owns]
    move ! (3 ∷ []) $ fsplit ! $ box_in E ! (box_at E (block_ptr b' o') a v.value) b' o' v.value refl refl $
    use1 𝓛 (‵ ((To E glue).own_val made (word E hw b' o' ∷ []))) (id⊢ 𝓤 _) $ move ! (1 ∷ []) $ drop ! $
    suffices ! _ (ends_at 𝓛 (ended E glue) (stayed E glue) c z (word E hw b' o') made ((tt, (tt, tt)), tt) (tt, tt)) $ says ! refl $
    nothing ! $ nothing ! $ fjoin ! $ join ! $ move ! (1 ∷ 0 ∷ []) $ join ! $ done !))))))))))))
