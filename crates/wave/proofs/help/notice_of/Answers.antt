use Rattle.std.proofs.Common.{MatchOption, sym, subst}
use Rattle.wave.specs.Help.{IsNotice, IsNoNotice}
use Rattle.wave.proofs.Requested.{one_word, two_words}
use Rattle.wave.proofs.help.notice_of.Goals as goal

pub returns-in-len1 : goal.returns-in-len1
returns-in-len1 c =
    let is = one_word c.args.words.now c.word-item.result c.as_str.result.now c.in-len1.len_at_least c.in-len1.len_below c.word-item.is c.as_str.ensures.value in
    subst (λ ws. MatchOption c.notice.result (IsNoNotice ws) (λ said. IsNotice ws said.now)) (sym is) c.notice.ensures

pub returns-in-len2 : goal.returns-in-len2
returns-in-len2 c =
    let is = two_words c.args.words.now _ _ c.as_str-in-len2.result.now c.as_str-in-len2-2.result.now c.in-len2.len_at_least c.in-len2.len_below c.first-item.is c.second-item.is c.as_str-in-len2.ensures.value c.as_str-in-len2-2.ensures.value in
    subst (λ ws. MatchOption c.notice_of_two.result (IsNoNotice ws) (λ said. IsNotice ws said.now)) (sym is) c.notice_of_two.ensures
