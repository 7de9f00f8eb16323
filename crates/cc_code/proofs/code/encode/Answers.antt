use Rattle.std.proofs.Common.{ℤ, FitsSigned, rules, subst, sym, to_z-of_z}
use Rattle.std.specs.Int.{w128}
use Rattle.cc_code.specs.declared.kinds.Coding.{Coding}
use Rattle.cc_code.specs.Codes.{IsAbove, IsShortCodingOf}
use Rattle.cc_code.proofs.CodeLemmas.{biased_above, direct_above, direct_code, listed_in}
use Rattle.cc_code.proofs.code.encode.Goals as goal

pub distance-requires : goal.distance-requires
distance-requires c = direct_above c.args.values.now c.args.v.now (subst (IsShortCodingOf c.args.values.now) c.in-Direct.is c.requires.coded) c.requires.member

pub distance-requires-in-Biased : goal.distance-requires-in-Biased
distance-requires-in-Biased c =
    let fits : FitsSigned w128 c.in-Biased.low = search rules in
    subst (λ (low : ℤ). IsAbove low c.args.v.now) (sym (to_z-of_z fits))
    (biased_above c.args.values.now c.in-Biased.low c.args.v.now (subst (IsShortCodingOf c.args.values.now) c.in-Biased.is c.requires.coded) c.requires.member)

pub place_of-requires-clause-told : goal.place_of-requires-clause-told
place_of-requires-clause-told c = c.requires.coded.coded.told

pub place_of-requires-clause-listed : goal.place_of-requires-clause-listed
place_of-requires-clause-listed c = listed_in c.args.values.now (subst (IsShortCodingOf c.args.values.now) c.in-Table.is c.requires.coded)

pub returns-in-Direct : goal.returns-in-Direct
returns-in-Direct c = rw c.in-Direct.is (direct_code c.args.v.now c.distance.result c.distance.ensures)
