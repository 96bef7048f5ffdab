use Rattle.std.proofs.Common.{◌≡◌, sym, ap, subst, ◌∙◌}
use Rattle.std.specs.Prelude.{IfOk}
use Rattle.wave_wasm.specs.Borrowed.{denoted_all}
use Rattle.wave_wasm.specs.Values.{list_items}
use Rattle.wave_example_settings.specs.BareTree.{tree}
use Rattle.wave_example_settings.proofs.Lawful.{items_listed, items_fixed}
use Rattle.wave_example_settings.proofs.bare.BareWasmValue.unwrap_list.Goals as goal

pub returns-in-List : goal.returns-in-List
returns-in-List c =
    subst (λ all. IfOk c.borrowed.result (λ v. denoted_all tree v.items ≡ all)) (sym (ap (λ b. list_items (tree b)) c.in-List.is ∙ items_listed _)) c.borrowed.ensures

pub returns-in-Fixed : goal.returns-in-Fixed
returns-in-Fixed c =
    subst (λ all. IfOk c.borrowed-in-Fixed.result (λ v. denoted_all tree v.items ≡ all)) (sym (ap (λ b. list_items (tree b)) c.in-Fixed.is ∙ items_fixed _)) c.borrowed-in-Fixed.ensures
