use Rattle.std.proofs.Common.{ℕ, ◌∷◌, rules, arith, codes, inl, inr, refl, sym, ap, subst, ◌∙◌}
use Rattle.wave.specs.Requests.{IsLimitWord}
use Rattle.wave.proofs.Misused.{no_texts, length_texts, text_at, no_type_said, none_read, none_read_within, type_said, read_limit_said, too_many_said}
use Rattle.wave.proofs.Requested.{one_word, two_words}
use Rattle.wave.proofs.misuse.read_misuse.Goals as goal

pub returns-in-empty : goal.returns-in-empty
returns-in-empty c = no_type_said c.from_str.result _ (no_texts c.args.rest.now c.in-empty.len_below) c.from_str.ensures.ok

pub bad_type-requires : goal.bad_type-requires
bad_type-requires c = none_read _ _ (one_word c.args.rest.now c.ty-item.result _ c.in-len1.len_at_least c.in-len1.len_below c.ty-item.is c.as_str.ensures.value) c.requires

pub returns-in-len1 : goal.returns-in-len1
returns-in-len1 c =
    type_said c.bad_type.result _ c.as_str.result.now (inl (ap (λ r. codes "read" ∷ r) (one_word c.args.rest.now c.ty-item.result _ c.in-len1.len_at_least c.in-len1.len_below c.ty-item.is c.as_str.ensures.value)))
    c.bad_type.ensures

pub bad_type-requires-in-Some : goal.bad_type-requires-in-Some
bad_type-requires-in-Some c =
    none_read_within _ _ c.as_str-in-len2.result.now c.in-Some.field-0
    (two_words c.args.rest.now _ _ _ _ c.in-len2.len_at_least c.in-len2.len_below c.ty-item-then-rest-lt3.is c.limit-item.is c.as_str-in-Some.ensures.value c.as_str-in-len2.ensures.value) c.in-Some.ensures c.requires

pub returns-in-Some : goal.returns-in-Some
returns-in-Some c =
    let are = two_words c.args.rest.now _ _ _ _ c.in-len2.len_at_least c.in-len2.len_below c.ty-item-then-rest-lt3.is c.limit-item.is c.as_str-in-Some.ensures.value c.as_str-in-len2.ensures.value in
    type_said c.bad_type-in-Some.result _ c.as_str-in-Some.result.now (inr (c.as_str-in-len2.result.now, c.in-Some.field-0, ap (λ r. codes "read" ∷ r) are, c.in-Some.ensures)) c.bad_type-in-Some.ensures

pub returns-in-len3-up : goal.returns-in-len3-up
returns-in-len3-up c =
    let count = length_texts c.args.rest.now in
    let many = c.in-len3-up.len_at_least in
    too_many_said c.quoting-in-len3-up.result (codes "read") _ 3 c.as_str-in-len3-up.result.now (search rules) (omega (arith, count, many)) (text_at c.args.rest.now 2 c.extra-item.result _ (omega (arith, many)) c.extra-item.is c.as_str-in-len3-up.ensures.value) c.quoting-in-len3-up.ensures

pub returns-in-None : goal.returns-in-None
returns-in-None c =
    read_limit_said c.quoting.result _ _ c.as_str-in-None.result.now
    (two_words c.args.rest.now _ _ _ _ c.in-len2.len_at_least c.in-len2.len_below c.ty-item-then-rest-lt3.is c.limit-item.is refl c.as_str-in-None.ensures.value)
    (subst (λ w. (n : ℕ) → IsLimitWord w n → ⊥) (c.as_str-in-len2.ensures.value ∙ sym c.as_str-in-None.ensures.value) c.in-None.ensures) c.quoting.ensures
