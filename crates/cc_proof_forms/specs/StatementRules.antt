-- What facts have to say for each form of statement in normal form, at its point.
use Rattle.std.specs.Prelude.{◌≡◌, ℕ, ℤ, Bool, true, false, List, [], ◌∷◌, Option, Some, None, slice_get}
use Rattle.std.specs.List.{Contains}
use Rattle.cc_flow_sound.specs.CcCells.Cells.{scalar_in}
use Rattle.cc_flow_sound.specs.CcEval.Context.{reached}
use Rattle.cc_flow_sound.specs.CcEval.declared.mark.Mark.{Mark}
use Rattle.cc_flow_sound.specs.CcEval.declared.spots.Spot.{Spot}
use Rattle.cc_flow_sound.specs.CcEval.Eval.{meaning, designation}
use Rattle.cc_flow_sound.specs.CcEval.Marks.{Works}
use Rattle.cc_flow_sound.specs.CcEval.Progress.{Known}
use Rattle.cc_flow_sound.specs.CcFlow.declared.next.Site.{Site}
use Rattle.cc_flow_sound.specs.CcFlow.declared.types.Point.{Point}
use Rattle.cc_flow_sound.specs.CcFlow.Points.{flow_of}
use Rattle.cc_flow_sound.specs.Sites.{arm_point, nexts}
use Rattle.cc_flow_sound.specs.Statements.{statement_at}
use Rattle.cc_program.specs.CcNum.Results.{one_if}
use Rattle.cc_program.specs.declared.expr.Expr.TheOpen as one
use Rattle.cc_program.specs.declared.expr.Expr.{Expr, out-Expr}
use Rattle.cc_program.specs.declared.expr.Intr.TheVariants as intr
use Rattle.cc_program.specs.declared.expr.Place.{Place as PlaceOf}
use Rattle.cc_program.specs.declared.func.Func.{Func}
use Rattle.cc_program.specs.declared.program.Program.{Program}
use Rattle.cc_program.specs.declared.stmt.Case.{Case}
use Rattle.cc_program.specs.declared.stmt.Stmt.TheOpen as is
use Rattle.cc_program.specs.declared.stmt.Stmt.{Stmt, out-Stmt}
use Rattle.cc_program.specs.declared.value.Address.TheVariants as address
use Rattle.cc_program.specs.declared.value.Cell.TheVariants as cell
use Rattle.cc_program.specs.declared.value.Cell.{Cell}
use Rattle.cc_program.specs.declared.value.Root.TheVariants as root
use Rattle.cc_program.specs.declared.value.Value.TheVariants.{Place}
use Rattle.cc_program.specs.declared.value.Value.{Value}
use Rattle.cc_proof_covers.specs.Covers.{IsDeviceValue}
use Rattle.cc_proof_covers.specs.Invariant.{exit_of, IsCurrent}
use Rattle.cc_proof_covers.specs.Operands.{IsOperandStep}
use Rattle.cc_proof_covers.specs.Rules.{Flows, KeepsFlag, IsHere}
use Rattle.cc_proof_covers.specs.Views.{View}
use Rattle.cc_proof_forms.specs.Branches.{switch_point, LeadsOut}
use Rattle.cc_proof_forms.specs.CallRules.{CallRule, SaveRule}
use Rattle.cc_proof_forms.specs.Refined.{AtMember, MayLead, Refines}
use Rattle.cc_proof_forms.specs.Sets.{OperandSets, Good}
use Rattle.cc_flow_sound.specs.CcStates.States.{expression_of, context_in}
use Rattle.cc_flow_sound.specs.CcSteps.State.{Active, Memory}
use Rattle.cc_flow_sound.specs.CcSteps.Step.{progress_of, is_return, gives_nothing, number_in, cell_position}
use Rattle.cc_flow_sound.specs.CcSyntax.Effects.{Registers, place_effects_of}
use Rattle.cc_flow_sound.specs.CcSyntax.Programs.{place_type}
use Rattle.cc_flow_sound.specs.CcSyntax.Registers.{is_register}
use Rattle.cc_flow_sound.specs.CcSyntax.Values.{PlaceType}
use Rattle.cc_flow_sound.specs.CcValues.Values.{is_true, truth}

-- at the point n of the function id
module _ (p : Program) (v : View) (o : OperandSets) (id : ℕ) (f : Func) (n : ℕ) where
  -- ---- operands

  -- in each activation at the point the expression asks for steps of operands alone, and a good value of it is in its set
  abbrev pub IsOperand : Expr → Type 0
  IsOperand e =
      (m : Memory) (a : Active) → a.func ≡ id → IsHere p v m a f n → (later : Registers) → Works (IsCurrent p v m a f n) (IsOperandStep (context_in p a f)) (Good (o.holds n e)) ((meaning (context_in p a f) e).next later)

  -- and a place leads to where it may
  abbrev pub Leads : PlaceOf → Type 0
  Leads d = (m : Memory) (a : Active) → a.func ≡ id → IsHere p v m a f n → (later : Registers) → Works (IsCurrent p v m a f n) (IsOperandStep (context_in p a f)) (o.leads n d) ((designation (context_in p a f) d).leads later)

  -- a cell to which it may lead
  abbrev pub IsCellOf : PlaceOf → Cell → Type 0
  IsCellOf d to = (s : Option Spot) × o.leads n d s × (reached p (place_type p f.locals d) s ≡ Some to)

  -- the outcome of a statement's test is one that it may have, also with any register at what it holds
  abbrev pub Passes : Stmt → (Value → ℤ) → Type 0
  Passes s outcome =
      (m : Memory) (a : Active) → a.func ≡ id → IsHere p v m a f n → (rest : List Stmt) → a.here.rest ≡ s ∷ rest → (w : Value) (ms : List Mark) → progress_of p a (expression_of a) ≡ Known (Some w) ms →
      o.passes n (outcome w) × ((r : ℕ) (x : Value) → ((q : ℕ) (u : Value) → is_register f q ≡ true → scalar_in a.locals q 0 ≡ Some (Some u) → AtMember v n r x q u) → o.passes_with n r x (outcome w))

  -- ---- reads

  -- what was read in a cell is in its set
  abbrev pub WasReadIn : Cell → Value → Type 0
  WasReadIn (cell.Device d) x = IsDeviceValue p d x
  WasReadIn (cell.At (root.Static i) path) x = v.static_at i (cell_position p (root.Static i) path) x × (v.tracked i ≡ true → v.cell n i x)
  WasReadIn (cell.At (root.Auto number g r) path) x = (h : Func) → slice_get p.funcs g ≡ Some h → is_register h r ≡ false → v.local_at g r (cell_position p (root.Auto number g r) path) x

  -- tracked objects are read whole, and so are registers of its own
  abbrev pub IsReadWhole : Cell → Type 0
  IsReadWhole (cell.Device d) = Unit {0}
  IsReadWhole (cell.At (root.Static i) path) = v.tracked i ≡ true → cell_position p (root.Static i) path ≡ 0
  IsReadWhole (cell.At (root.Auto number g r) path) = g ≡ id → is_register f r ≡ true → cell_position p (root.Auto number g r) path ≡ 0

  -- ---- statements that go on to the point k

  module _ (k : ℕ) where
    -- a register gets a value
    pub record GetsRegister (r : ℕ) (w : Value) : Type 0 where
      pub flows : Flows p v n k (Some r) None
      pub keeps : KeepsFlag p v n k
      pub value : v.local k r w

    pub record WritesOf (object : Option ℕ) : Type 0 where
      pub flows : Flows p v n k None object
      pub keeps : KeepsFlag p v n k

    -- a scalar of a static object gets it
    pub record GetsStatic (i position : ℕ) (w : Value) : Type 0 where
      pub writes : WritesOf (Some i)
      pub value : v.static_at i position w
      pub tracked : v.tracked i ≡ true → (position ≡ 0) × v.cell k i w × ((l : ℕ) → v.reached_from id l → v.written_by i l)

    -- one of a local that is no register
    pub record GetsLocal (g r position : ℕ) (w : Value) : Type 0 where
      pub writes : WritesOf None
      pub other : (h : Func) → slice_get p.funcs g ≡ Some h → is_register h r ≡ false
      pub value : v.local_at g r position w

    abbrev pub WriteRule : Cell → Value → Type 0
    WriteRule (cell.Device d) w = WritesOf None
    WriteRule (cell.At (root.Static i) path) w = GetsStatic i (cell_position p (root.Static i) path) w
    WriteRule (cell.At (root.Auto number g r) path) w = GetsLocal g r (cell_position p (root.Auto number g r) path) w

    -- arguments by their places
    abbrev pub AreOperands : List Expr → Type 0
    AreOperands args = (i : ℕ) (arg : Expr) → slice_get args i ≡ Some arg → IsOperand arg

    abbrev pub argument : List Expr → ℕ → Value → Type 0
    argument args i w = (arg : Expr) × (slice_get args i ≡ Some arg) × o.holds n arg w

    -- each function that may be called
    abbrev pub AreCallRules : Expr → List Expr → Option ℕ → Type 0
    AreCallRules fe args result = (g : ℕ) (function : Func) → slice_get p.funcs g ≡ Some function → o.holds n fe (Place (address.Func g)) → CallRule p v id f n k (argument args) g function result

    -- `register = ..`; where it gets what a tracked object is it may be the same from then on
    pub data RegisterRule (d : PlaceOf) (r : ℕ) (x : Expr) : Type 0 where
      GetsOperand : IsOperand x → ((w : Value) → o.holds n x w → GetsRegister r w) → ((i : ℕ) → v.same k r i → ⊥) → RegisterRule d r x
      GetsRead : (b : PlaceOf) → out-Expr x ≡ one.Load b → Leads b → ((to : Cell) → IsCellOf b to → IsReadWhole to) → ((to : Cell) (w : Value) → IsCellOf b to → WasReadIn to w → GetsRegister r w) →
          ((to : Cell) (i : ℕ) → IsCellOf b to → v.same k r i → (v.tracked i ≡ true) × (to ≡ cell.At (root.Static i) [])) → RegisterRule d r x
      GetsResult : (fe : Expr) (args : List Expr) → out-Expr x ≡ one.Call fe args → IsOperand fe → AreOperands args → (t : PlaceType) → place_type p f.locals d ≡ Some t → AreCallRules fe args (Some r) → RegisterRule d r x
      GetsFlag : out-Expr x ≡ one.Intr intr.Save None → (t : PlaceType) → place_type p f.locals d ≡ Some t → SaveRule p v n k (Some r) → RegisterRule d r x

    pub data ExpressionRule (e : Expr) : Type 0 where
      ToRegister : (d : PlaceOf) (x : Expr) (r : ℕ) → out-Expr e ≡ one.Assign d x → (place_effects_of f d).register ≡ Some r → RegisterRule d r x → ExpressionRule e
      ToPlace : (d : PlaceOf) (x : Expr) → out-Expr e ≡ one.Assign d x → Leads d → IsOperand x → ((to : Cell) (w : Value) → IsCellOf d to → o.holds n x w → WriteRule to w) → ExpressionRule e
      Calls : (fe : Expr) (args : List Expr) → out-Expr e ≡ one.Call fe args → IsOperand fe → AreOperands args → AreCallRules fe args None → ExpressionRule e
      TurnsOff : out-Expr e ≡ one.Intr intr.Off None → Flows p v n k None None → v.may_be k false → ExpressionRule e
      TurnsOn : out-Expr e ≡ one.Intr intr.On None → Flows p v n k None None → v.may_be k true → ExpressionRule e
      Restores : (x : Expr) → out-Expr e ≡ one.Intr intr.Restore (Some x) → IsOperand x → ((w : Value) (b : Bool) → o.holds n x w → truth (Some w) ≡ Some b → Flows p v n k None None × v.may_be k b) → ExpressionRule e
      Saves : out-Expr e ≡ one.Intr intr.Save None → SaveRule p v n k None → ExpressionRule e

  -- ---- all statements, by their site

  module _ (s : Stmt) (site : Site) where
    pub data StatementRule : Type 0 where
      AtExpression : (e : Expr) → out-Stmt s ≡ is.Do e → ExpressionRule site.behind e → StatementRule
      -- a jump, or a test that refines nothing
      AtJump : is_return (out-Stmt s) ≡ false → ((e : Expr) → out-Stmt s ≡ is.Do e → ⊥) → ((k : ℕ) → Contains (nexts (out-Stmt s) site) k → Flows p v n k None None × KeepsFlag p v n k) → StatementRule
      AtIf : (e : Expr) (these those : List Stmt) → out-Stmt s ≡ is.If e these those → Passes s (λ w. one_if (is_true w)) →
          ((b : Bool) → MayLead v f n (o.passes n) (o.passes_with n) (one_if b) → Refines v f n (o.passes n) (o.passes_with n) (one_if b) (arm_point b these those site)) → StatementRule
      AtSwitch : (e : Expr) (cases : List Case) → out-Stmt s ≡ is.Switch e cases → Passes s number_in →
          ((z : ℤ) → MayLead v f n (o.passes n) (o.passes_with n) z → Refines v f n (o.passes n) (o.passes_with n) z (switch_point z cases site)) → StatementRule
      AtReturn : (e : Expr) → out-Stmt s ≡ is.Return (Some e) → IsOperand e → ((x : Value) → o.holds n e x → v.result id x) → Flows p v n (exit_of p id f) None None → KeepsFlag p v n (exit_of p id f) → StatementRule
      AtEnd : out-Stmt s ≡ is.Return None → gives_nothing (Some f) ≡ true → Flows p v n (exit_of p id f) None None → KeepsFlag p v n (exit_of p id f) → StatementRule

-- each reached point that is no exit, with its statement and a site of its next points, which leads out of it and to the exit of its function,
-- has what that asks
abbrev pub AreStatementRules : Program → View → OperandSets → Type 0
AreStatementRules p v o =
    (n : ℕ) (q : Point) (f : Func) (s : Stmt) → slice_get (flow_of p).points n ≡ Some q → slice_get p.funcs q.func ≡ Some f → statement_at f.body q.path ≡ Some s → v.reached n →
    (site : Site) → site.number ≡ n → nexts (out-Stmt s) site ≡ q.next → LeadsOut s site → site.exit ≡ exit_of p q.func f → StatementRule p v o q.func f n s site
