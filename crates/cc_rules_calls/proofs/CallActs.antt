-- Which statement is a call.
use Rattle.std.proofs.Common.{◌≡◌, ℕ, List, Option, Some, ap}
use Rattle.cc_program.specs.declared.expr.Expr.{Expr}
use Rattle.cc_rules_calls.specs.Here.{called}
use Rattle.cc_state_points.specs.CcRulesFlows.Acts.{Act, Sets, Reads, Writes, Calls, Saves, Turns, Restores, Tests, Chooses, Returns, Passes}

same : {X : Type 0} (x y : X) → Some x ≡ Some y → x ≡ y
same x y h = cc

pub as_call : (act : Act) (result : Option ℕ) (g : Expr) (args : List Expr) → called act ≡ Some (result, (g, args)) → act ≡ Calls result g args
as_call (Sets r x) result g args h = absurd (cc)
as_call (Reads r b) result g args h = absurd (cc)
as_call (Writes b x) result g args h = absurd (cc)
as_call (Calls r x xs) result g args h = ap (λ (t : Option ℕ × (Expr × List Expr)). Calls t.0 t.1.0 t.1.1) (same {X = Option ℕ × (Expr × List Expr)} (r, (x, xs)) (result, (g, args)) h)
as_call (Saves r) result g args h = absurd (cc)
as_call (Turns on) result g args h = absurd (cc)
as_call (Restores x) result g args h = absurd (cc)
as_call (Tests x these those) result g args h = absurd (cc)
as_call (Chooses x cases) result g args h = absurd (cc)
as_call (Returns x) result g args h = absurd (cc)
as_call Passes result g args h = absurd (cc)
