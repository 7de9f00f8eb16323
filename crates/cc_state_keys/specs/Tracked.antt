-- What is known by point: of each function the registers, and of static objects the tracked cells.
use Rattle.std.specs.Prelude.{ℕ, ◌==◌, Bool, not, ◌&&◌, ◌||◌, is_some, List, take, Option, position}
use Rattle.cc_program.specs.declared.func.Func.{Func}
use Rattle.cc_program.specs.declared.object.Object.{Object}
use Rattle.cc_program.specs.declared.program.Program.{Program}
use Rattle.cc_program.specs.Qualifiers.{is_const, is_volatile}
use Rattle.cc_state_facts.specs.declared.facts.Key.{Key}
use Rattle.cc_state_keys.specs.Addressed.{is_object_among, taken_keys}
use Rattle.cc_state_keys.specs.Lists.{made_from}
use Rattle.cc_eval.specs.CcSyntax.Registers.{is_register}
use Rattle.cc_eval.specs.CcSyntax.Types.{Named}
use Rattle.cc_eval.specs.CcSyntax.Values.{scalar_value}

-- the numbers of the things that pass, ascending
abbrev pub numbers : {A : Type 0} → (ℕ → A → Bool) → List A → List ℕ
numbers passes list = made_from passes (λ n. n) 0 list

-- the locals of a function that are registers
abbrev pub registers : Func → List ℕ
registers f = numbers (λ r (l : Named). is_register f r) f.locals

-- the most tracked cells
abbrev pub most_tracked : ℕ
most_tracked = 128

-- whether a static object is a scalar that is neither const nor volatile, and whose address is not taken
abbrev pub may_be_tracked : List Key → ℕ → Object → Bool
may_be_tracked taken i o = is_some (scalar_value o.ctype) && (not (is_const o.ctype || is_volatile o.ctype) && not (is_object_among taken i))

-- the tracked cells: the first of these
abbrev pub tracked : Program → List ℕ
tracked p = take most_tracked (numbers (may_be_tracked (taken_keys p)) p.objects)

-- by their position there: of a local among the registers of its function, and of an object among the tracked cells
abbrev pub register_number : Func → ℕ → Option ℕ
register_number f local = position (λ r. r == local) (registers f)

abbrev pub tracked_number : Program → ℕ → Option ℕ
tracked_number p object = position (λ i. i == object) (tracked p)
