-- Main among the functions of a program.
use Rattle.std.proofs.Common.{arith, ◌≡◌, ◌<◌, true, List, length, Option, Some, None, slice_get, refl}
use Rattle.std.proofs.lemmas.Option.{slice_get_within}
use Rattle.cc_program.specs.declared.func.Func.{Func}
use Rattle.cc_program.specs.declared.program.Program.{Program}
use Rattle.cc_rules_constraints.proofs.Lists.{there}
use Rattle.cc_rules_functions.specs.declared.functions.Function.{Function}
use Rattle.cc_rules_functions.specs.Functions.{AreFunctionsOf}
use Rattle.cc_rules_asked.proofs.CcSyntax.NameRules.{sound-typed}
use Rattle.cc_rules_asked.specs.CcSyntax.Normal.{IsNormal}
use Rattle.cc_rules_asked.specs.CcSyntax.Sound.{is_main_there}

main_by : (p : Program) (x : Option Func) → slice_get p.funcs p.main ≡ x → is_main_there x ≡ true → p.main < length p.funcs
main_by p None e h = absurd (cc)
main_by p (Some f) e h = slice_get_within p.funcs p.main f e

pub main_there : (p : Program) → IsNormal p → (functions : List Function) → AreFunctionsOf p functions → (f : Function) × (slice_get functions p.main ≡ Some f)
main_there p normal functions are =
    let count = are.count in
    let l = main_by p (slice_get p.funcs p.main) refl (sound-typed p normal.sound).main in
    there functions p.main (omega (arith, count, l))
