-- Members that are told one by one are few.
use Rattle.std.proofs.Common.{◌≡◌, ◌≤◌, true, length, arith}
use Rattle.std.proofs.lemmas.List.{length-map}
use Rattle.cc_code.specs.Members.{has_coding, members_of}
use Rattle.cc_code.proofs.MemberLemmas.{few_addresses}
use Rattle.cc_rules_flows.specs.CcPlaces.declared.abs.Abs.{Abs}
use Rattle.cc_rules_flows.specs.CcPlaces.declared.abs.Abs.TheVariants.{Ints, Addrs}
use Rattle.cc_program.specs.declared.value.Value.TheVariants as value
use Rattle.cc_sets.specs.declared.vals.Vals.{Vals}
use Rattle.cc_sets.specs.declared.vals.Vals.TheVariants.{Few, Many}

pub few_members : (values : Abs Vals) → has_coding values ≡ true → length (members_of values) ≤ 64
few_members (Ints (Few s)) t = let f = s.few in let n = length-map s.items.items value.Int in omega (arith, f, n)
few_members (Ints (Many r)) t = omega arith
few_members (Addrs s) t = let f = few_addresses s t in let n = length-map s.members value.Place in omega (arith, f, n)
