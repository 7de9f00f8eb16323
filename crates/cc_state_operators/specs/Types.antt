-- Values of a type.
use Rattle.cc_program.specs.CcNum.declared.target.Target.{Target}
use Rattle.cc_places.specs.declared.abs.Abs.{Abs}
use Rattle.cc_places.specs.declared.abs.Abs.TheVariants as abs
use Rattle.cc_state_operators.specs.Domains.{Domain, AllOf}
use Rattle.cc_eval.specs.CcSyntax.Values.{ValueType, NoValue, Integer, ToObject, ToFunction}

-- integers of an integer type, and addresses for a pointer
abbrev pub AreOf : {I : Type 0} → Domain I → Target → ValueType → Abs I → Type 0
AreOf d target NoValue y = ⊥
AreOf d target (Integer t) (abs.Ints x) = AllOf d t target x
AreOf d target (Integer t) (abs.Addrs s) = ⊥
AreOf d target (ToObject constant volatile to) (abs.Ints x) = ⊥
AreOf d target (ToObject constant volatile to) (abs.Addrs s) = Unit {0}
AreOf d target (ToFunction sig) (abs.Ints x) = ⊥
AreOf d target (ToFunction sig) (abs.Addrs s) = Unit {0}
