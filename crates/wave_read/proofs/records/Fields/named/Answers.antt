use Rattle.std.proofs.Common.{ℕ, ◌≡◌, List, rules, inr, sym, ap, ◌∙◌, subst}
use Rattle.wave_lex.specs.Errors.{repeated_name}
use Rattle.wave_lex.specs.declared.error.ParserErrorKind.TheVariants.{DuplicateField}
use Rattle.wave_grammar.specs.declared.form.NodeType.TheVariants as kind
use Rattle.wave_read.specs.Private.RecordParts.{IsReportedAs}
use Rattle.wave_read.proofs.RecordReading.Fields.{got_same, none_there, some_there}
use Rattle.wave_read.proofs.records.Fields.named.Goals as goal

pub returns-then-is_some : goal.returns-then-is_some
returns-then-is_some g c =
    let label : c.args.ty ≡ kind.Label = search rules in
    let (f, there, named) = c.in-Some.ensures in
    let same = got_same c.args.self.now.fields.items c.in-Some.i f c.index-field.result.now there c.index-field.ensures in
    let (v, is) = some_there c.index-field.result.now.value (sym c.is_some.ensures ∙ c.if-is_some.true) in
    inr (inr (label, (c.in-Some.i, f, v, there, named ∙ c.label_name-name.ensures, ap (λ f. f.value) same ∙ is), subst (λ (w : List ℕ). IsReportedAs DuplicateField c.args.span (repeated_name w) c.in_ok-repeated.field-0) c.label_name-name.ensures c.in_ok-repeated.ensures))

pub returns : goal.returns
returns g c =
    let label : c.args.ty ≡ kind.Label = search rules in
    let (f, there, named) = c.in-Some.ensures in
    let same = got_same c.args.self.now.fields.items c.in-Some.i f c.index-field.result.now there c.index-field.ensures in
    (label, (f, there, named ∙ c.label_name-name.ensures, ap (λ f. f.ty) same, ap (λ f. f.value) same ∙ none_there c.index-field.result.now.value (sym c.is_some.ensures ∙ c.if-is_some.false)))
