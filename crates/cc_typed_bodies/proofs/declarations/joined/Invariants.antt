use Rattle.std.proofs.Common.{◌≡◌, ◌++◌, take}
use Rattle.cc_typed_bodies.proofs.declarations.joined.Given as goal

abbrev pub invariant-loop-m : goal.invariant-loop-m
invariant-loop-m l = l.all.items ≡ take l.m-index l.before

abbrev pub invariant-loop-m-2 : goal.invariant-loop-m-2
invariant-loop-m-2 l = l.all.items ≡ l.before ++ l.yielded
