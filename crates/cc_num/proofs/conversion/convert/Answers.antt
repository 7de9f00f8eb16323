use Rattle.std.proofs.Common.{rules, ◌≡◌, FitsSigned, to_z-of_z, ◌∙◌, sym, ap}
use Rattle.std.specs.Int.{w128}
use Rattle.cc_num.specs.Integers.{converted, residue_from, truth_of}
use Rattle.cc_num.proofs.Conversions.{converted-Bool, converted_by_residue}
use Rattle.cc_num.proofs.conversion.convert.Goals as goal

pub returns-in-Bool : goal.returns-in-Bool
returns-in-Bool c =
    let v : FitsSigned w128 c.args.v = c.ranges.v in
    let r : FitsSigned w128 c.truth.result = search rules in
    let e : c.truth.result ≡ truth_of c.args.v = simp to_z-of_z at c.truth.ensures in
    rw to_z-of_z (e ∙ sym (converted-Bool c.args.v c.args.target.now) ∙ ap (λ t. converted c.args.v t c.args.target.now) (sym c.in-Bool.is))

pub returns-in_default : goal.returns-in_default
returns-in_default c =
    let v : FitsSigned w128 c.args.v = c.ranges.v in
    let low : FitsSigned w128 c.least.result = search rules in
    let r : FitsSigned w128 c.residue.result = search rules in
    let e : c.residue.result ≡ residue_from c.least.result c.bits.result c.args.v = simp to_z-of_z at c.residue.ensures in
    rw to_z-of_z (converted_by_residue c.args.v c.least.result c.residue.result c.bits.result c.args.to c.args.target.now c.in_default.not-Bool c.least.ensures.value c.bits.ensures.value e)
