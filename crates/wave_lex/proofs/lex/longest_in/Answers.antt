use Rattle.wave_lex.proofs.lex.longest_in.Goals as goal

pub returns-in-BraceOpen : goal.returns-in-BraceOpen
returns-in-BraceOpen c = rw c.in-BraceOpen.is c.mark_at.ensures

pub returns-in-BraceClose : goal.returns-in-BraceClose
returns-in-BraceClose c = rw c.in-BraceClose.is c.mark_at-in-BraceClose.ensures

pub returns-in-ParenOpen : goal.returns-in-ParenOpen
returns-in-ParenOpen c = rw c.in-ParenOpen.is c.mark_at-in-ParenOpen.ensures

pub returns-in-ParenClose : goal.returns-in-ParenClose
returns-in-ParenClose c = rw c.in-ParenClose.is c.mark_at-in-ParenClose.ensures

pub returns-in-BracketOpen : goal.returns-in-BracketOpen
returns-in-BracketOpen c = rw c.in-BracketOpen.is c.mark_at-in-BracketOpen.ensures

pub returns-in-BracketClose : goal.returns-in-BracketClose
returns-in-BracketClose c = rw c.in-BracketClose.is c.mark_at-in-BracketClose.ensures

pub returns-in-Colon : goal.returns-in-Colon
returns-in-Colon c = rw c.in-Colon.is c.mark_at-in-Colon.ensures

pub returns-in-Comma : goal.returns-in-Comma
returns-in-Comma c = rw c.in-Comma.is c.mark_at-in-Comma.ensures

pub returns-in-Number : goal.returns-in-Number
returns-in-Number c = rw c.in-Number.is c.number_at.ensures

pub returns-in-LabelOrKeyword : goal.returns-in-LabelOrKeyword
returns-in-LabelOrKeyword c = rw c.in-LabelOrKeyword.is c.label_at.ensures

pub returns-in-Char : goal.returns-in-Char
returns-in-Char c = rw c.in-Char.is c.char_at.ensures

pub returns-in-String : goal.returns-in-String
returns-in-String c = rw c.in-String.is c.string_at.ensures

pub returns-in-MultilineString : goal.returns-in-MultilineString
returns-in-MultilineString c = rw c.in-MultilineString.is c.multiline_at.ensures
