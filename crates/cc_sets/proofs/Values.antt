-- Values of types and results of operators are in reach, and exact in 128 bits.
use Rattle.std.proofs.Common.{ℕ, ◌<◌, ℤ, List, length, get_or, Option, Some, None, sym, subst, arith, to_z, of_z}
use Rattle.std.specs.Int.{w128}
use Rattle.std.specs.Option.{IfSome}
use Rattle.std.specs.List.{Contains}
use Rattle.std.proofs.lemmas.Int.{ints}
use Rattle.std.proofs.lemmas.List.Elements.{Contains-get_or}
use Rattle.cc_num.specs.declared.int_type.IntType.{IntType}
use Rattle.cc_num.specs.declared.target.Target.{Target}
use Rattle.cc_num.specs.Integers.{IsValueOf}
use Rattle.cc_lattice.specs.Domains.{IsIntValue, IsInReach}
use Rattle.cc_lattice.proofs.IntValues.{value_is_int}
use Rattle.cc_explicit.specs.Sets.{AreInReach}
use Rattle.cc_explicit.proofs.Reach.{read_same}

pub int_reach : (v : ℤ) → IsIntValue v → IsInReach v
int_reach v h = let l = h.least in let m = h.most in record { least = omega (arith, ints); most = m }

pub value_reach : (v : ℤ) (t : IntType) (target : Target) → IsValueOf t target v → IsInReach v
value_reach v t target h = int_reach v (value_is_int v t target h)

pub some_reach : (r : Option ℤ) (t : IntType) (target : Target) → IfSome r (IsValueOf t target) → IfSome r IsInReach
some_reach None t target h = h
some_reach (Some v) t target h = value_reach v t target h

pub values_reach : (xs : List ℤ) (t : IntType) (target : Target) → ((v : ℤ) → Contains xs v → IsValueOf t target v) → AreInReach xs
values_reach xs t target h v k = value_reach v t target (h v k)

-- an element that is read, as it comes back from 128 bits
pub read_has : (P : ℤ → Type 0) (xs : List ℤ) (i : ℕ) (d : ℤ) → AreInReach xs → i < length xs → ((v : ℤ) → Contains xs v → P v) → P (to_z w128 (of_z w128 (get_or xs i d)))
read_has P xs i d r l h = subst P (sym (read_same xs i d r l)) (h (get_or xs i d) (Contains-get_or xs i d l))
