-- Parameters (C99 6.7.5.3), once their types are known.
use Rattle.std.specs.Prelude.{ℕ, Bool, Option, Some, None, Ok}
use Rattle.cc_scopes.specs.CcOperands.Verdicts.{must}
use Rattle.cc_scopes.specs.CcOperands.declared.rule.Rule.TheVariants as rule
use Rattle.cc_program.specs.declared.program.Roles.{Roles}
use Rattle.cc_program.specs.declared.types.CType.{CType}
use Rattle.cc_scopes.specs.State.{State, Name, bind}
use Rattle.cc_scopes.specs.declared.designated.Designated.TheVariants as means
use Rattle.cc_scopes.specs.Verdicts.{Found, whole, and_then}
use Rattle.cc_specifiers.specs.declared.derivation.Parameter.{Parameter}
use Rattle.cc_typed_terms.specs.Names.{new_name}

abbrev pub parameter : ℕ → Option Name → CType → Parameter
parameter at x t = record { name = x; ctype = t; at = at }

-- at this position it is bound to its name; in a function definition each has one (6.9.1, 5)
abbrev pub parameter_bound : Roles → Bool → ℕ → Parameter → State → Option Name → Found Parameter
parameter_bound roles unnamed i p s None = whole p.at s (must unnamed rule.DeclaredTwice (Ok p))
parameter_bound roles unnamed i p s (Some x) = and_then (whole p.at s (new_name roles x s)) (λ x s. Ok (p, bind x (means.Automatic i p.ctype) s))
