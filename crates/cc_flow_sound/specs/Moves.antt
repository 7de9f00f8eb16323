-- How a turn moves activations among the points of a program: it leaves all where they are, or the running one goes to a next point, or
-- one is opened at an entry, or the running one ends and its caller stays at its point, or goes to a next one.
use Rattle.std.specs.Prelude.{◌≡◌, ◌⊎◌, ℕ, List, [], ◌∷◌, map, Some, get_or, slice_get}
use Rattle.std.specs.List.{Contains}
use Rattle.cc_program.specs.declared.func.Func.{Func}
use Rattle.cc_program.specs.declared.program.Program.{Program}
use Rattle.cc_states.specs.CcControl.Control.{Control, path_of}
use Rattle.cc_flow.specs.declared.types.Point.{Point}
use Rattle.cc_flow.specs.Points.{flow_of}
use Rattle.cc_states.specs.CcSteps.State.{Active}

-- the function of an activation, and where in it its next step is
abbrev pub Standing : Type 0
Standing = ℕ × Control

abbrev pub standing : Active → Standing
standing a = (a.func, (a.here, a.around))

abbrev pub standings : List Active → List Standing
standings stack = map standing stack

module _ (p : Program) where
  -- the number of a function's first point, where it is entered
  abbrev pub entry : ℕ → ℕ
  entry func = get_or (flow_of p).first func 0

  -- the point of this number is the one where an activation stands: that of its function whose path leads to its next step
  pub record IsAt (at : Standing) (n : ℕ) : Type 0 where
    pub point : Point
    pub numbered : slice_get (flow_of p).points n ≡ Some point
    pub function : point.func ≡ at.0
    pub path : point.path ≡ path_of at.1

  -- each activation stands at a point
  abbrev pub AreAt : List Standing → Type 0
  AreAt [] = Unit {0}
  AreAt (at ∷ below) = ((n : ℕ) × IsAt at n) × AreAt below

  -- from a point to a next one
  pub record IsNext (at to : Standing) : Type 0 where
    pub from : ℕ
    pub here : IsAt at from
    pub next : ℕ
    pub is_next : Contains here.point.next next
    pub there : IsAt to next

  abbrev pub StaysOrGoes : Standing → Standing → Type 0
  StaysOrGoes at to = (to ≡ at) ⊎ IsNext at to

  pub data IsMove : List Standing → List Standing → Type 0 where
    Goes : {xs ys : List Standing} (at to : Standing) (below : List Standing) → xs ≡ at ∷ below → ys ≡ to ∷ below → StaysOrGoes at to → IsMove xs ys
    -- of a function that is called, or of a handler
    Opens : {xs ys : List Standing} (func : ℕ) (f : Func) (at : Control) → slice_get p.funcs func ≡ Some f → ys ≡ (func, at) ∷ xs → IsAt (func, at) (entry func) → IsMove xs ys
    Backs : {xs ys : List Standing} (x at to : Standing) (below : List Standing) → xs ≡ x ∷ at ∷ below → ys ≡ to ∷ below → StaysOrGoes at to → IsMove xs ys
    Ends : {xs ys : List Standing} (x : Standing) → xs ≡ x ∷ [] → ys ≡ [] → IsMove xs ys
    -- where a run has ended, or ends by a trap or for want of inputs
    Stands : {xs ys : List Standing} → ys ≡ xs → IsMove xs ys
