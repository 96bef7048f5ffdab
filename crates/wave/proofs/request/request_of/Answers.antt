use Rattle.std.proofs.Common.{rules, IfErr, sym, subst}
use Rattle.wave.specs.Requests.{HaveType}
use Rattle.wave.proofs.Requested.{two_words, three_words, unknown_none, unknown_many}
use Rattle.wave.proofs.request.request_of.Goals as goal
use Rattle.wave.proofs.request.request_of.Goals.{in_default-via-then-words-lt1, in_default-via-else-words-lt1+else-words-lt2+else-words-lt3+else-words-lt4}

pub returns-in-len2-clause-memory : goal.returns-in-len2-clause-memory
returns-in-len2-clause-memory c =
    let is = two_words c.args.words.now _ _ _ _ c.in-len2.len_at_least c.in-len2.len_below c.first-item.is c.second-item.is c.as_str-in-len2.ensures.value c.as_str-in-len2-2.ensures.value in
    subst (λ ws. IfErr c.two_words.result (λ e. HaveType ws)) (sym is) c.two_words.ensures.memory

pub returns-in-len3-clause-memory : goal.returns-in-len3-clause-memory
returns-in-len3-clause-memory c =
    let is =
    three_words c.args.words.now _ _ _ _ _ _ c.in-len3.len_at_least c.in-len3.len_below c.first-item-then-words-lt4.is c.second-item-then-words-lt4.is c.third-item.is c.as_str-in-len3.ensures.value
    c.as_str-in-len3-2.ensures.value c.as_str-in-len3-3.ensures.value in
    subst (λ ws. IfErr c.three_words.result (λ e. HaveType ws)) (sym is) c.three_words.ensures.memory

pub returns-in_default-clause-built : goal.returns-in_default-clause-built
returns-in_default-clause-built c =
    elim c.in_default.branch [
      | in_default-via-then-words-lt1 w ↦ unknown_none c.args.words.now (search rules)
      | in_default-via-else-words-lt1+else-words-lt2+else-words-lt3+else-words-lt4 w ↦ unknown_many c.args.words.now (search rules)
    ]
