-- The difference and the sum fit, so that each is that of the numbers.
use Rattle.std.proofs.Common.{rules, ◌≡◌, ◌^◌, pos, ◌-ℤ◌, FitsSigned, to_z, of_z, arith, to_z-of_z, ◌∙◌, ap}
use Rattle.std.proofs.lemmas.Int.{ints}
use Rattle.std.specs.Int.{w128, int_rem_euclid}
use Rattle.cc_num.proofs.Residues.{residue_by_steps}
use Rattle.cc_num.proofs.conversion.residue.Goals as goal

pub returns : goal.returns
returns c =
    let v : FitsSigned w128 c.args.v = c.ranges.v in
    let least : FitsSigned w128 c.args.least = c.ranges.least in
    let first : FitsSigned w128 c.remainder-first.result = search rules in
    let e : c.remainder-first.result ≡ int_rem_euclid c.args.v (pos (2 ^ c.args.bits)) = simp to_z-of_z at c.remainder-first.ensures.value in
    let d : to_z w128 (of_z w128 (to_z w128 (of_z w128 c.remainder-first.result) -ℤ to_z w128 (of_z w128 c.args.least))) ≡ c.remainder-first.result -ℤ c.args.least = omega (arith, ints) in
    let f : c.remainder-second.result ≡ int_rem_euclid (c.remainder-first.result -ℤ c.args.least) (pos (2 ^ c.args.bits)) = c.remainder-second.ensures.value ∙ ap (λ x. int_rem_euclid x (pos (2 ^ c.args.bits))) d in
    let r = residue_by_steps c.args.v c.args.least c.remainder-first.result c.remainder-second.result c.args.bits e f in
    omega (arith, ints, r)
