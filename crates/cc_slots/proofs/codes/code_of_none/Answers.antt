use Rattle.std.proofs.Common.{◌∙◌, ℕ, refl, subst, sym}
use Rattle.cc_slots.specs.Reasons.{AreBits, IsNotCoded}
use Rattle.cc_slots.proofs.CodeLemmas.{none_coded}
use Rattle.cc_slots.proofs.codes.code_of_none.Goals as goal

pub returns-then-is_exact-clause-bits : goal.returns-then-is_exact-clause-bits
returns-then-is_exact-clause-bits c =
    subst (λ (bits : ℕ). AreBits c.args.key c.args.values.now c.args.bytes bits) (sym c.least_bits.ensures)
    (none_coded c.args.key c.args.values.now c.args.bytes c.requires.none (sym c.is_exact.ensures ∙ c.if-is_exact.true))

pub returns-else-is_exact-clause-bits : goal.returns-else-is_exact-clause-bits
returns-else-is_exact-clause-bits c = IsNotCoded (sym c.is_exact.ensures ∙ c.if-is_exact.false) refl
