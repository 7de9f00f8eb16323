-- Elements of an array whose subscript may lie outside it.
use Rattle.std.specs.Prelude.{◌≡◌, ◌⊎◌, ℕ, ℤ, pos, ◌<ℤ◌, ◌≤ℤ◌, Option, Some}
use Rattle.cc_rules_flows.specs.CcPlaces.declared.abs.Abs.{Abs}
use Rattle.cc_rules_flows.specs.CcPlaces.Abstract.{HasValue}
use Rattle.cc_program.specs.declared.expr.Expr.{Expr}
use Rattle.cc_program.specs.declared.expr.Expr.TheOpen as one
use Rattle.cc_program.specs.declared.expr.Place.{Place, out-Place}
use Rattle.cc_program.specs.declared.func.Func.{Func}
use Rattle.cc_program.specs.declared.program.Program.{Program}
use Rattle.cc_program.specs.declared.value.Value.TheVariants as value
use Rattle.cc_slots_accesses.specs.Accesses.{NamesByForm}
use Rattle.cc_slots_accesses.specs.Arrays.{array_length}
use Rattle.cc_rules_flows.specs.CcStateFacts.declared.facts.Key.{Key}
use Rattle.cc_rules_flows.specs.CcStateOperators.Domains.{Domain}
use Rattle.cc_rules_flows.specs.CcStateValues.declared.context.Context.{Context}
use Rattle.cc_rules_flows.specs.CcStateValues.Contexts.{set_in}
use Rattle.cc_rules_flows.specs.CcStateValues.Values.{IsVal}

-- a number that is no subscript of an array of so many elements
abbrev pub IsOutside : ℕ → ℤ → Type 0
IsOutside count n = (n <ℤ pos 0) ⊎ (pos count ≤ℤ n)

abbrev pub HasOutside : {I : Type 0} → Domain I → Abs I → ℕ → Type 0
HasOutside d values count = (n : ℤ) × HasValue d.has values (value.Int n) × IsOutside count n

-- a place is an element of the array of a key, and its subscript may be such a number
pub record MayBeOutside {I : Type 0} (d : Domain I) (p : Program) (id : ℕ) (f : Func) (register : ℕ → Option (Abs I)) (a : Place) (k : Key) : Type 0 where
  pub array : Place
  pub subscript : Expr
  pub count : ℕ
  pub values : Abs I
  pub form : out-Place a ≡ one.Element array subscript
  pub names : NamesByForm p id f array k
  pub is_array : array_length p k ≡ Some count
  pub is_value : IsVal d p id f register subscript values
  pub outside : HasOutside d values count

-- where expressions are worked, as the code has it
abbrev pub MayBeOutsideIn : {I : Type 0} → Domain I → Context I → Place → Key → Type 0
MayBeOutsideIn d c a k = MayBeOutside d c.program.now c.id c.func.now (set_in c) a k
