use Rattle.std.proofs.Common.{◌≡◌, ◌++◌, take}
use Rattle.cc_state_facts.specs.declared.facts.Key.TheVariants as key
use Rattle.cc_state_keys.specs.Keys.{has_member_key}
use Rattle.cc_state_keys.specs.Lists.{made_from}
use Rattle.cc_state_keys.proofs.listed.put_members.Given as goal

abbrev pub invariant-loop-m : goal.invariant-loop-m
invariant-loop-m l = l.keys.items ≡ l.fn.keys.items ++ made_from has_member_key (key.Member l.id) 0 (take l.m l.member-items)
