use Rattle.std.proofs.Common.{◌≡◌, sym, subst}
use Rattle.wave_lex.specs.Errors.{Diagnostic}
use Rattle.wave_leaf.specs.Errors.{IsRefusedBy}
use Rattle.wave_leaf.proofs.ReadErrors.HandedOn.{refused_or_memory}
use Rattle.wave_leaf.proofs.fault.caused.Goals as goal

pub returns : goal.returns
returns c = λ p e tells. subst (λ (d : Diagnostic). IsRefusedBy c.args.cause d × (d.span ≡ p)) (sym tells) (refused_or_memory c.args.cause p _ (c.new.ensures p))
