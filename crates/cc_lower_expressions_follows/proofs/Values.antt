-- What is left of an expression gives its value quietly.
use Rattle.std.proofs.Common.{◌≡◌, ℕ, ℤ, Bool, true, false, not, [], Option, Some, None, refl, ap, sym, ◌∙◌, subst, if◌then◌else◌}
use Rattle.cc_program.specs.CcNum.declared.int_type.IntType.{IntType}
use Rattle.cc_program.specs.CcNum.declared.op.BinOp.{BinOp}
use Rattle.cc_program.specs.CcNum.declared.op.UnOp.{UnOp}
use Rattle.cc_program.specs.declared.expr.Expr.{Expr, Const, Load, Un, Bin, Conv, Qualify, Move, Gap, Compare}
use Rattle.cc_program.specs.declared.expr.Place.{Local}
use Rattle.cc_program.specs.declared.types.CType.{CType}
use Rattle.cc_program.specs.declared.value.Cell.{Cell}
use Rattle.cc_program.specs.declared.value.Cell.TheVariants as cell
use Rattle.cc_program.specs.declared.value.Root.TheVariants as root
use Rattle.cc_program.specs.declared.value.Value.{Value}
use Rattle.cc_program.specs.declared.value.Value.TheVariants.{Int}
use Rattle.cc_states.specs.CcSyntax.Effects.{Registers, no_one, also, is_soft}
use Rattle.cc_states.specs.CcSyntax.Registers.{is_register}
use Rattle.cc_states.specs.CcSyntax.Values.{PlaceType}
use Rattle.cc_states.specs.CcEval.declared.action.Action.TheVariants.{Read}
use Rattle.cc_states.specs.CcEval.declared.action.Manner.{Manner}
use Rattle.cc_states.specs.CcEval.declared.mark.Mark.TheVariants.{Gave}
use Rattle.cc_states.specs.CcEval.declared.spots.Spot.{Spot}
use Rattle.cc_states.specs.CcEval.declared.spots.Spot.TheVariants as spot
use Rattle.cc_states.specs.CcEval.Context.{Context, is_seen, reached}
use Rattle.cc_states.specs.CcEval.Eval.{Meaning, Designation, meaning, designation, from_one, from_two, fetched, manner}
use Rattle.cc_states.specs.CcEval.Progress.{Get, known, ask, bind, needs, given}
use Rattle.cc_states.specs.CcValues.Values.{binary, unary, conversion, movement, gap, comparison}
use Rattle.cc_lower_expressions_follows.specs.Trees.{Regs, Setting, context_q, register_cell, Other, Runs, Is, Steps, Reads}
use Rattle.cc_lower_expressions_follows.specs.Relation.{Gives}
use Rattle.cc_lower_expressions_follows.proofs.TreeLaws.{runs_bind}
use Rattle.cc_lower_expressions_follows.proofs.Opened.{at-Const, at-Load, at-Un, at-Bin, at-Conv, at-Qualify, at-Move, at-Gap, at-Compare, at-Local}
use Rattle.cc_lower_expressions_follows.proofs.Fetched.{fetch, of_register}

-- ---- a register

abbrev pub register_cell_of : Context → ℕ → Cell
register_cell_of c i = cell.At (root.Auto c.number c.id i) []

module _ (c : Context) (i : ℕ) where
  abbrev pub its_spot : Option Spot
  its_spot = Some (spot.Object (root.Auto c.number c.id i) [])

  pub local_leads : (later : Registers) → (designation c (Local i)).leads later ≡ known its_spot
  local_leads later = ap (λ (a : Designation). a.leads later) (at-Local c i)

module _ (c : Context) (i : ℕ) (register : is_register c.func i ≡ true) (t : PlaceType) (typed : (designation c (Local i)).ctype ≡ Some t) (unseen : is_seen (Some t) ≡ false) where
  pub local_register : (designation c (Local i)).effects.register ≡ Some i
  local_register = ap (λ (a : Designation). a.effects.register) (at-Local c i) ∙ ap (λ (b : Bool). if b then Some i else None) register

  pub local_manner : (later : Registers) → manner (designation c (Local i)) later ≡ of_register (not (later i))
  local_manner later =
      ap (λ (u : Option PlaceType). manner (record (designation c (Local i)) { ctype = u }) later) typed ∙
      ap (λ (b : Bool). record { is_event = b; may_be_bad = is_soft (designation c (Local i)).effects.register later }) unseen ∙
      ap (λ (r : Option ℕ). record { is_event = false; may_be_bad = is_soft r later }) local_register

  pub local_next : (later : Registers) → (meaning c (Load (Local i))).next later ≡ fetch (Some (register_cell_of c i)) (of_register (not (later i)))
  local_next later =
      ap (λ (m : Meaning). m.next later) (at-Load c (Local i)) ∙
      ap (λ (g : Get (Option Spot)). bind g (fetched c (designation c (Local i)) later)) (local_leads c i later) ∙
      ap (λ (u : Option PlaceType). needs (reached c.program u (its_spot c i)) (λ cell. ask (Read cell (manner (designation c (Local i)) later)) given)) typed ∙
      ap (λ (m : Manner). fetch (Some (register_cell_of c i)) m) (local_manner later)

module _ (w : Setting) where
  abbrev cq : Context
  cq = context_q w

  -- ---- a lemma for each way to work operands

  pub runs_one : {A : Type 0} (f : Option Value → A) (a : Expr) (x : Option Value) (s : Regs) → Gives w a x s → Runs w (f x) s (from_one f (meaning cq a) no_one) s
  runs_one f a x s d = runs_bind (Other w) (λ v. known (f v)) d (Is refl)

  none_assigned : (a b : Expr) → (meaning cq b).effects.assigned ≡ no_one → (meaning cq a).next (also (meaning cq b).effects.assigned no_one) ≡ (meaning cq a).next no_one
  none_assigned a b h = ap (λ (xs : Registers). (meaning cq a).next (also xs no_one)) h

  pub runs_two : {A : Type 0} (f : Option Value → Option Value → A) (a b : Expr) (x y : Option Value) (s : Regs) → (meaning cq b).effects.assigned ≡ no_one → Gives w a x s → Gives w b y s →
      Runs w (f x y) s (from_two f (meaning cq a) (meaning cq b) no_one) s
  runs_two f a b x y s h d e =
      runs_bind (Other w) (λ p. known (f p.0 p.1))
      (runs_bind (Other w) (λ v. bind ((meaning cq b).next no_one) (λ u. known (v, u))) (subst (λ g. Runs w x s g s) (sym (none_assigned a b h)) d)
      (runs_bind (Other w) (λ u. known (x, u)) e (Is refl)))
      (Is refl)

  -- ---- a lemma for each kind

  pub gives_Const : (n : ℤ) (t : IntType) (s : Regs) → Gives w (Const n t) (Some (Int n)) s
  gives_Const n t s = Is (ap (λ (m : Meaning). m.next no_one) (at-Const cq n t))

  pub gives_Un : (o : UnOp) (t : IntType) (a : Expr) (x : Option Value) (s : Regs) → Gives w a x s → Gives w (Un o t a) (unary o t w.q.target x) s
  gives_Un o t a x s d =
      subst (λ (m : Meaning). Runs w (unary o t w.q.target x) s (m.next no_one) s) (sym (at-Un cq o t a)) (runs_one (unary o t w.q.target) a x s d)

  pub gives_Bin : (o : BinOp) (t : IntType) (a b : Expr) (x y : Option Value) (s : Regs) → (meaning cq b).effects.assigned ≡ no_one → Gives w a x s → Gives w b y s →
      Gives w (Bin o t a b) (binary o t w.q.target x y) s
  gives_Bin o t a b x y s h d e =
      subst (λ (m : Meaning). Runs w (binary o t w.q.target x y) s (m.next no_one) s) (sym (at-Bin cq o t a b)) (runs_two (binary o t w.q.target) a b x y s h d e)

  -- a register of q
  pub gives_local : (i : ℕ) (t : PlaceType) (s : Regs) → is_register w.to i ≡ true → (designation cq (Local i)).ctype ≡ Some t → is_seen (Some t) ≡ false → Gives w (Load (Local i)) (s i) s
  gives_local i t s register typed unseen =
      subst (λ g. Runs w (s i) s g s) (sym (local_next cq i register t typed unseen no_one))
      (Steps s (Read (register_cell w i) (of_register true)) (Gave (s i)) refl (Reads i (of_register true) refl register refl tt refl refl) (Is refl))

  pub gives_Conv : (t : IntType) (a : Expr) (x : Option Value) (s : Regs) → Gives w a x s → Gives w (Conv t a) (conversion t w.q.target x) s
  gives_Conv t a x s d =
      subst (λ (m : Meaning). Runs w (conversion t w.q.target x) s (m.next no_one) s) (sym (at-Conv cq t a)) (runs_one (conversion t w.q.target) a x s d)

  pub gives_Qualify : (t : CType) (a : Expr) (x : Option Value) (s : Regs) → Gives w a x s → Gives w (Qualify t a) x s
  gives_Qualify t a x s d =
      subst (λ (m : Meaning). Runs w x s (m.next no_one) s) (sym (at-Qualify cq t a)) (runs_one (λ v. v) a x s d)

  pub gives_Move : (a b : Expr) (back : Bool) (x y : Option Value) (s : Regs) → (meaning cq b).effects.assigned ≡ no_one → Gives w a x s → Gives w b y s → Gives w (Move a b back) (movement back x y) s
  gives_Move a b back x y s h d e =
      subst (λ (m : Meaning). Runs w (movement back x y) s (m.next no_one) s) (sym (at-Move cq a b back)) (runs_two (movement back) a b x y s h d e)

  pub gives_Gap : (a b : Expr) (x y : Option Value) (s : Regs) → (meaning cq b).effects.assigned ≡ no_one → Gives w a x s → Gives w b y s → Gives w (Gap a b) (gap w.q.target x y) s
  gives_Gap a b x y s h d e =
      subst (λ (m : Meaning). Runs w (gap w.q.target x y) s (m.next no_one) s) (sym (at-Gap cq a b)) (runs_two (gap w.q.target) a b x y s h d e)

  pub gives_Compare : (o : BinOp) (a b : Expr) (x y : Option Value) (s : Regs) → (meaning cq b).effects.assigned ≡ no_one → Gives w a x s → Gives w b y s → Gives w (Compare o a b) (comparison o x y) s
  gives_Compare o a b x y s h d e =
      subst (λ (m : Meaning). Runs w (comparison o x y) s (m.next no_one) s) (sym (at-Compare cq o a b)) (runs_two (comparison o) a b x y s h d e)
