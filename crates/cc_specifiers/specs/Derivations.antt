-- Declarators: a name, and what is derived for it (C99 6.7.5).
use Rattle.std.specs.Prelude.{ℕ, ◌-◌, Bool, true, false, List, [], ◌∷◌, ◌++◌, Option, Some, None, length, slice_get, Ok, Err, if◌then◌else◌}
use Rattle.std.specs.List.{list_any}
use Rattle.cc_operands.specs.declared.rule.Rule.{Rule}
use Rattle.cc_operands.specs.declared.rule.Rule.TheVariants as rule
use Rattle.cc_specifiers.specs.Places.{JudgedAt, Checked, checked}
use Rattle.cc_specifiers.specs.declared.derivation.Allowed.{Allowed}
use Rattle.cc_specifiers.specs.declared.derivation.Declarator.{Declarator}
use Rattle.cc_specifiers.specs.declared.derivation.Derivation.{Derivation}
use Rattle.cc_specifiers.specs.declared.derivation.Derivation.TheVariants as to
use Rattle.cc_tree.specs.declared.at.At.{At}
use Rattle.cc_program.specs.CcWords.declared.word.Word.{Word}
use Rattle.cc_program.specs.CcWords.declared.word.Word.TheVariants as w

abbrev pub with_derivation : {S : Type 0} → ℕ → Derivation S → Declarator S → Declarator S
with_derivation at d x = record { name = x.name; derivations = x.derivations ++ record { at = at; node = d } ∷ [] }

abbrev pub nothing_more : Allowed
nothing_more = record { unbounded = false; void = false; unnamed = true }

-- in a parameter; in the type name of a cast; in a function definition (6.9.1, 5)
abbrev pub in_parameter : Allowed
in_parameter = record { unbounded = true; void = false; unnamed = true }

abbrev pub in_type_name : Bool → Allowed
in_type_name cast = record { unbounded = false; void = cast; unnamed = true }

abbrev pub in_definition : Allowed
in_definition = record { unbounded = false; void = false; unnamed = false }

abbrev pub is_next_to_name : {S : Type 0} → List (At (Derivation S)) → Bool
is_next_to_name [] = true
is_next_to_name (d ∷ ds) = false

-- ---- what may stand behind a declarator: a function gives no array and no function, and an array has no functions
-- (6.7.5.3, 1; 6.7.5.2, 1)

abbrev pub suffix_breach : {S : Type 0} → Bool → Derivation S → Option Rule
suffix_breach function (to.Pointer constant volatile) = None
suffix_breach function (to.Array n) = if function then Some rule.NoObjectType else None
suffix_breach function (to.Function ps scope) = Some rule.FunctionResult

abbrev pub unless_broken : ℕ → Option Rule → JudgedAt Checked
unless_broken at None = Ok checked
unless_broken at (Some broken) = Err (record { at = at; node = broken })

abbrev pub outermost : {S : Type 0} → List (At (Derivation S)) → Option (At (Derivation S))
outermost ds = slice_get ds (length ds - 1)

-- the flag says that a function stands behind it, and else an array
abbrev pub suffix_judged : {S : Type 0} → Bool → Option (At (Derivation S)) → JudgedAt Checked
suffix_judged function None = Ok checked
suffix_judged function (Some d) = unless_broken d.at (suffix_breach function d.node)

abbrev pub suffix_found : {S : Type 0} → Bool → List (At (Derivation S)) → JudgedAt Checked
suffix_found function ds = suffix_judged function (outermost ds)

-- ---- qualifiers of a pointer (6.7.5.1)

abbrev pub says_const : Word → Bool
says_const w.Const = true
says_const _ = false

abbrev pub says_volatile : Word → Bool
says_volatile w.Volatile = true
says_volatile _ = false

abbrev pub pointer_derivation : {S : Type 0} → List Word → Derivation S
pointer_derivation words = to.Pointer (list_any says_const words) (list_any says_volatile words)
