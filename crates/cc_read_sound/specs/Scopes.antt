-- The scope of a function's parameters, which is that of its body in a definition (C99 6.2.1, 4; 6.9.1, 5 and 9).
use Rattle.std.specs.Prelude.{◌≡◌, Bool, true, List, Some, slice_get, is_some}
use Rattle.std.specs.List.{list_all}
use Rattle.cc_program.specs.CcNum.declared.int_type.IntType.TheVariants as int
use Rattle.cc_program.specs.CcNum.declared.target.Target.{Target}
use Rattle.cc_program.specs.CcNum.Integers.{is_value_of}
use Rattle.cc_type.specs.CcScopes.State.{State, Name, Scope, find_name}
use Rattle.cc_type.specs.CcScopes.declared.designated.Designated.{Designated}
use Rattle.cc_type.specs.CcScopes.declared.designated.Designated.TheVariants as means
use Rattle.cc_type.specs.CcScopes.declared.designated.Tagged.{Tagged}
use Rattle.cc_sound_terms.specs.Growing.{IsTag}
use Rattle.cc_type.specs.CcSpecifiers.declared.derivation.Parameter.{Parameter}

abbrev pub have_names : List Parameter → Bool
have_names ps = list_all (λ (p : Parameter). is_some p.name) ps

-- the parameter of this number, with its type; or an enumeration constant
abbrev pub IsParameterIn : Target → List Parameter → Designated → Type 0
IsParameterIn target ps (means.Automatic n t) = (p : Parameter) × (slice_get ps n ≡ Some p) × (p.ctype ≡ t)
IsParameterIn target ps (means.Enumerator n) = is_value_of int.Int target n ≡ true
IsParameterIn target ps (means.Linked i) = ⊥
IsParameterIn target ps (means.TypeNamed t) = ⊥

-- behind them, names in it designate nothing else, and tags no structure that there isn't
pub record IsParameterScope (target : Target) (ps : List Parameter) (scope : Scope) (s : State) : Type 0 where
  pub names : (x : Name) (d : Designated) → find_name x scope.names ≡ Some d → IsParameterIn target ps d
  pub tags : (x : Name) (t : Tagged) → find_name x scope.tags ≡ Some t → IsTag s.structures t
