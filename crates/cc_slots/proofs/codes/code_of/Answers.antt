use Rattle.std.proofs.Common.{ℕ, refl, subst}
use Rattle.cc_code.specs.Codings.{IsCodingOf}
use Rattle.cc_slots.specs.Reasons.{IsCoded, IsNotCoded}
use Rattle.cc_slots.proofs.codes.code_of.Goals as goal

pub returns-in-None-clause-bits : goal.returns-in-None-clause-bits
returns-in-None-clause-bits c = IsNotCoded (c.coding.ensures.none.0 c.in-None.is) refl

pub returns-in-Some-clause-bits : goal.returns-in-Some-clause-bits
returns-in-Some-clause-bits c =
    IsCoded c.in-Some.found.0 (subst (λ (least : ℕ). IsCodingOf c.args.values.now least c.in-Some.found) c.least_bits.ensures c.in-Some.ensures.coding)
