-- An activation before its first step, from the parts that it is made of.
use Rattle.std.proofs.Common.{◌≡◌, ℕ, Bool, List, [], Option, ap, ◌∙◌}
use Rattle.cc_control.specs.Control.{Control, close}
use Rattle.cc_eval.specs.declared.mark.Mark.{Mark}
use Rattle.cc_program.specs.declared.func.Func.{Func}
use Rattle.cc_program.specs.declared.program.Program.{Program}
use Rattle.cc_program.specs.declared.value.Value.{Value}
use Rattle.cc_steps.specs.State.{Active, locals_with}
use Rattle.cc_steps.specs.Step.{activation, begun_at}

abbrev made : ℕ → ℕ → Bool → List (List (Option Value)) → Control → List Mark → Active
made number id handler locals at marks = record { number = number; func = id; handler = handler; locals = locals; here = at.0; around = at.1; marks = marks }

pub begun-activation : (p : Program) (number id : ℕ) (handler : Bool) (args : List Value) (f : Func) (body to : Control) (locals : List (List (Option Value))) (marks : List Mark) →
    body ≡ close f.body 0 [] → to ≡ begun_at p number id body → locals ≡ locals_with p args f.locals → marks ≡ [] → made number id handler locals to marks ≡ activation p number id handler args f
begun-activation p number id handler args f body to locals marks b t l m =
    ap (λ (cells : List (List (Option Value))). made number id handler cells to marks) l ∙
    ap (λ (at : Control). made number id handler (locals_with p args f.locals) at marks) (t ∙ ap (begun_at p number id) b) ∙
    ap (made number id handler (locals_with p args f.locals) (begun_at p number id (close f.body 0 []))) m
