-- What is handed to the frame that is taken.
use Rattle.std.proofs.Common.{◌≡◌, ◌∙◌, List, [], ◌∷◌, Result, Ok, Err, refl, ap}
use Rattle.cc_tree.specs.declared.state.Frame.{Frame}
use Rattle.cc_tree.specs.declared.stop.Stop.{Stop}
use Rattle.cc_tree.specs.Machine.{hands, stays}
use Rattle.cc_machine.specs.Taken.{taken}
use Rattle.cc_tree.specs.Tokens.{Tokens}
use Rattle.cc_tree.specs.Turns.{Turn, Went}

abbrev passes : {A : Type 0} → (A → Frame → Turn) → Result (List Frame × Frame × A) Stop → Result (List Frame × Went) Stop
passes give (Err e) = Err e
passes give (Ok r) = stays r.0 (give r.2 r.1)

hands-passes : {A : Type 0} (give : A → Frame → Turn) (fs : List Frame) (x : A) (ts : Tokens) → hands (give x) fs ts ≡ passes give (taken fs x ts)
hands-passes give [] x ts = refl
hands-passes give (f ∷ fs) x ts = refl

-- what is taken is given
pub hands-taken : {A : Type 0} (give : A → Frame → Turn) (fs gs : List Frame) (x y : A) (f : Frame) (ts : Tokens) (t : Went) → taken fs x ts ≡ Ok (gs, f, y) → give y f ≡ Ok t → hands (give x) fs ts ≡ Ok (gs, t)
hands-taken give fs gs x y f ts t h k = hands-passes give fs x ts ∙ (ap (passes give) h ∙ ap (stays gs) k)
