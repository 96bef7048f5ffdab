use Rattle.std.proofs.Common.{ℕ, ◌≡◌, List, false, sym, subst, ◌∙◌, rules}
use Rattle.std.specs.List.{list_any}
use Rattle.wave_grammar.specs.declared.form.NodeType.TheVariants as kind
use Rattle.wave_leaf.proofs.LeafReading.ReadAtOnce.{is_backslash, run_stands}
use Rattle.wave_leaf.proofs.leaf.LeafToken.run.Goals as goal

pub returns : goal.returns
returns c = λ source here.
    let is : c.args.self.now.ty ≡ kind.String = search rules in
    let none : list_any is_backslash c.as_bytes.result.now ≡ false = sym c.contains.ensures.value ∙ c.if-contains.false in
    run_stands source c.args.self.now c.in_ok-inside.inside.now is here c.in_ok-inside.ensures (subst (λ (bytes : List ℕ). list_any is_backslash bytes ≡ false) c.as_bytes.ensures.value none)
