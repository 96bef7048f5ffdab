use Rattle.std.proofs.Common.{rules, arith, ◌≡◌, ◌≤◌, ◌<◌, ◌+◌, ◌-◌, ◌∷◌, length, get_or, ap, sym, subst, ◌∙◌, drop, suc}
use Rattle.std.proofs.lemmas.Grind.{common_steps}
use Rattle.wave_type.specs.Private.TypeTokens.{item_of, items_of}
use Rattle.wave_type.specs.TypeItems.{AreItems, StandsAtFirst}
use Rattle.wave_type.proofs.TypeReading.TextTokens.{items_within, drop_kept}
use Rattle.wave_type.proofs.ty.parse.refusal.Goals as goal

pub overflow_add-token : goal.overflow_add-token
overflow_add-token c =
    let tokens = c.deref.result.now in
    let are : AreItems c.args.text.now 0 (items_of tokens) = subst (λ ts. AreItems c.args.text.now 0 (items_of ts)) (sym c.deref.ensures.value) c.requires in
    let within : c.in-Some.token.now.start + length c.in-Some.token.now.text.now ≤ 0 + length c.args.text.now = items_within c.args.text.now 0 c.saturating_sub.result tokens c.in-Some.token.now are c.in-Some.ensures.lookup.3.0 c.in-Some.ensures.lookup.1 in
    first_of (omega arith, first_of (search rules, grind (arith, common_steps)))

pub returns-in-Some : goal.returns-in-Some
returns-in-Some c =
    let tokens = c.deref.result.now in
    let n = c.saturating_sub.result in
    let t = c.in-Some.token.now in
    let are : AreItems c.args.text.now 0 (items_of tokens) = subst (λ ts. AreItems c.args.text.now 0 (items_of ts)) (sym c.deref.ensures.value) c.requires in
    let fits : n < length tokens = c.in-Some.ensures.lookup.3.0 in
    let is : t ≡ get_or tokens n t = c.in-Some.ensures.lookup.1 in
    let within : t.start + length t.text.now ≤ 0 + length c.args.text.now = items_within c.args.text.now 0 n tokens t are fits is in
    let place : length c.args.tokens.now.items - c.args.left ≡ n = omega (arith, ap length c.deref.ensures.value, c.len.ensures, c.saturating_sub.ensures) in
    let first : drop (length c.args.tokens.now.items - c.args.left) (items_of c.args.tokens.now.items) ≡ item_of t ∷ drop (suc n) (items_of tokens) = (λ i. drop (place i) (items_of (sym c.deref.ensures.value i))) ∙ drop_kept tokens n t fits is in
    let kind = c.new-in-Some.ensures.kind ∙ c.kind_at.ensures in
    record {
      stands = record {
        memory = λ e. absurd (c.in_default.not-OutOfMemory e);
        stands = λ other. subst (λ l. StandsAtFirst c.args.text.now l c.args.kind c.new-in-Some.result) (sym first) (kind, c.new-in-Some.ensures.span);
      };
      within = (omega (arith, ap (λ r. r.start) c.new-in-Some.ensures.span, ap (λ r. r.end) c.new-in-Some.ensures.span), omega (arith, within, ap (λ r. r.end) c.new-in-Some.ensures.span));
    }
