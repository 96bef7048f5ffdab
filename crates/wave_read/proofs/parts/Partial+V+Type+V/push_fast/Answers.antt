use Rattle.std.proofs.Common.{sym, ap, ◌∙◌}
use Rattle.wave_read.proofs.PartByPart.OneMore.{where_ok, where_added, no_items}
use Rattle.wave_read.specs.declared.parts.Partial.TheVariants as parts
use Rattle.wave_read.proofs.parts.Partial+V+Type+V.push_fast.Goals as goal

pub returns-in-Items-clause-grown : goal.returns-in-Items-clause-grown
returns-in-Items-clause-grown g c = where_ok _ _ c.push_fast.result (λ added step. where_added _ _ _ _ added
    (λ grown w T source of children here takes parts. let h = rw c.in-Items.is at parts in (h.0, grown w T source children here h.1))
    (λ same. ap parts.Items same ∙ sym c.in-Items.is) step)
    c.push_fast.ensures

pub push_other_fast-requires : goal.push_other_fast-requires
push_other_fast-requires g c = no_items c.args.self.now c.in_default.not-Items
