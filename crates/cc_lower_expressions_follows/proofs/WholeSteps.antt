-- Quiet steps of trees are steps of local states that nothing else can see, and where trees end, local states trap.
use Rattle.std.proofs.Common.{◌≡◌, ◌∙◌, ◌∷◌, ◌==◌, ℕ, zero, suc, Bool, true, false, List, [], Option, Some, None, refl, ap, sym, subst, if◌then◌else◌, arith}
use Rattle.std.proofs.lemmas.Bool.Decides.{nat_tests}
use Rattle.std.proofs.Math.Path.{fun_ext}
use Rattle.std.specs.Prelude.{option_and_then, slice_get, slice_set}
use Rattle.cc_states.specs.CcCells.Cells.{scalar_in, set_scalar, with_scalar}
use Rattle.cc_program.specs.declared.func.Func.{Func}
use Rattle.cc_program.specs.declared.program.Program.{Program}
use Rattle.cc_program.specs.declared.value.Cell.{Cell}
use Rattle.cc_program.specs.declared.value.Cell.TheVariants as cell
use Rattle.cc_program.specs.declared.value.Root.TheVariants as root
use Rattle.cc_program.specs.declared.value.Value.{Value}
use Rattle.cc_states.specs.CcEval.declared.action.Action.{Action}
use Rattle.cc_states.specs.CcEval.declared.action.Action.TheVariants.{Read, Write}
use Rattle.cc_states.specs.CcEval.declared.action.Manner.{Manner}
use Rattle.cc_states.specs.CcEval.declared.mark.Mark.{Mark}
use Rattle.cc_states.specs.CcEval.declared.mark.Mark.TheVariants.{Gave, Did}
use Rattle.cc_states.specs.CcSteps.declared.content.Content.TheVariants.{Unwritten}
use Rattle.cc_states.specs.CcSteps.Access.{content}
use Rattle.cc_states.specs.CcSyntax.Registers.{is_register}
use Rattle.cc_meaning_simulations.specs.LocalSteps.{LocalStep, Locals, ReadHidden, ReadUnwritten, WriteHidden, Branch, TrapsNext, ReadingUnwritten, local_state, own_local}
use Rattle.cc_meaning_simulations.specs.Transitions.{ControlState, Performs, marked_control, transition}
use Rattle.cc_lower_expressions_follows.specs.Trees.{Regs, with_reg, Setting, CanGive, register_cell, IsQuiet, Reads, Writes, Chooses, Fails}
use Rattle.cc_lower_expressions_follows.specs.Registered.{flat, regs_in}
use Rattle.cc_lower_expressions_follows.specs.WholePlaces.{AllThere}

-- ---- scalars

get_set : {A : Type 0} (xs : List A) (i : ℕ) (y x : A) → slice_get xs i ≡ Some y → slice_get (slice_set xs i x) i ≡ Some x
get_set [] i y x e = absurd (cc)
get_set (z ∷ xs) zero y x e = refl
get_set (z ∷ xs) (suc i) y x e = get_set xs i y x e

get_other : {A : Type 0} (xs : List A) (i j : ℕ) (x : A) → (i ≡ j → ⊥) → slice_get (slice_set xs i x) j ≡ slice_get xs j
get_other [] i j x n = refl
get_other (z ∷ xs) zero zero x n = absurd (n refl)
get_other (z ∷ xs) zero (suc j) x n = refl
get_other (z ∷ xs) (suc i) zero x n = refl
get_other (z ∷ xs) (suc i) (suc j) x n = get_other xs i j x (λ e. n (ap suc e))

module _ {A : Type 0} (cells : List (List A)) (i : ℕ) (x : A) where
  there : (o : Option (List A)) → slice_get cells i ≡ o → (y : A) → option_and_then (λ scalars. slice_get scalars 0) o ≡ Some y → scalar_in (set_scalar cells i 0 x o) i 0 ≡ Some x
  there None e y f = absurd (cc)
  there (Some scalars) e y f =
      ap (option_and_then (λ scalars. slice_get scalars 0)) (get_set cells i scalars (slice_set scalars 0 x) e) ∙ get_set scalars 0 y x f

  pub scalar_there : (y : A) → scalar_in cells i 0 ≡ Some y → scalar_in (with_scalar cells i 0 x) i 0 ≡ Some x
  scalar_there y f = there (slice_get cells i) refl y f

-- any scalar of a local
module _ {A : Type 0} (cells : List (List A)) (i k : ℕ) (x : A) where
  elsewhere : (o : Option (List A)) (j : ℕ) → (i ≡ j → ⊥) → scalar_in (set_scalar cells i k x o) j 0 ≡ scalar_in cells j 0
  elsewhere None j n = refl
  elsewhere (Some scalars) j n = ap (option_and_then (λ scalars. slice_get scalars 0)) (get_other cells i j (slice_set scalars k x) n)

  pub scalar_elsewhere : (j : ℕ) → (i ≡ j → ⊥) → scalar_in (with_scalar cells i k x) j 0 ≡ scalar_in cells j 0
  scalar_elsewhere j n = elsewhere (slice_get cells i) j n

equal : (i j : ℕ) → (i == j) ≡ true → i ≡ j
equal i j h = grind (arith, nat_tests)

differ : (i j : ℕ) → (i == j) ≡ false → i ≡ j → ⊥
differ i j h e = grind (arith, nat_tests)

module _ (f : Func) (locals : List (List (Option Value))) (i : ℕ) (v : Value) (register : is_register f i ≡ true) (o : Option Value) (here : scalar_in locals i 0 ≡ Some o) where
  at_same : (j : ℕ) → i ≡ j → regs_in f (with_scalar locals i 0 (Some v)) j ≡ Some v
  at_same j e = subst (λ j. regs_in f (with_scalar locals i 0 (Some v)) j ≡ Some v) e
      (ap (λ (b : Bool). if b then flat (scalar_in (with_scalar locals i 0 (Some v)) i 0) else None) register ∙ ap flat (scalar_there locals i (Some v) o here))

  at_other : (j : ℕ) → (i ≡ j → ⊥) → regs_in f (with_scalar locals i 0 (Some v)) j ≡ regs_in f locals j
  at_other j n = ap (λ (x : Option (Option Value)). if is_register f j then flat x else None) (scalar_elsewhere locals i 0 (Some v) j n)

  at_reg : (j : ℕ) (b : Bool) → (i == j) ≡ b → regs_in f (with_scalar locals i 0 (Some v)) j ≡ (if b then Some v else regs_in f locals j)
  at_reg j true e = at_same j (equal i j e)
  at_reg j false e = at_other j (differ i j e)

  -- a register is written
  regs_written : regs_in f (with_scalar locals i 0 (Some v)) ≡ with_reg (regs_in f locals) i v
  regs_written = fun_ext (λ j. at_reg j (i == j) refl)

module _ (w : Setting) (hidden : ℕ → ℕ → Bool) (p : Program) (f : Func) (hides : (i : ℕ) → is_register f i ≡ true → hidden w.id i ≡ true) where
  -- the control of an activation of the function
  pub record IsOf (c : ControlState) : Type 0 where
    pub number : c.number ≡ w.number
    pub func : c.func ≡ w.id

  -- where a quiet step leads
  pub record Leads (c : ControlState) (l : Locals) (m : Mark) (r' : Regs) : Type 0 where
    pub locals : Locals
    pub step : LocalStep hidden p (local_state c l) (local_state (marked_control p c m) locals)
    pub regs : regs_in f locals ≡ r'
    pub has : AllThere f locals

  module _ (c : ControlState) (l : Locals) (of : IsOf c) (has : AllThere f l) where
    its_cell : (i : ℕ) → register_cell w i ≡ own_local c i
    its_cell i = λ j. cell.At (root.Auto (sym of.number j) (sym of.func j) i) []

    hides_it : (i : ℕ) → is_register f i ≡ true → hidden c.func i ≡ true
    hides_it i h = ap (λ (id : ℕ). hidden id i) of.func ∙ hides i h

    register_value : (i : ℕ) → is_register f i ≡ true → regs_in f l i ≡ flat (scalar_in l i 0)
    register_value i h = ap (λ (b : Bool). if b then flat (scalar_in l i 0) else None) h

    may_be_bad : (b : Bool) → CanGive b None → b ≡ true
    may_be_bad true h = refl
    may_be_bad false h = absurd h

    -- a read
    module _ (i : ℕ) (manner : Manner) (reads : transition p c ≡ Performs (Read (register_cell w i) manner)) (register : is_register f i ≡ true) where
      reads_own : transition p c ≡ Performs (Read (own_local c i) manner)
      reads_own = reads ∙ ap (λ (x : Cell). Performs (Read x manner)) (its_cell i)

      read_of : (v : Option Value) → scalar_in l i 0 ≡ Some v → manner.is_event ≡ false → CanGive manner.may_be_bad v → Leads c l (Gave v) (regs_in f l)
      read_of None e n g = record {
        locals = l;
        step = ReadUnwritten c l i manner reads_own (hides_it i register) (may_be_bad manner.may_be_bad g) (ap content e);
        regs = refl;
        has = has;
      }
      read_of (Some v) e n g = record { locals = l; step = ReadHidden c l i manner v reads_own (hides_it i register) n (ap content e); regs = refl; has = has }

      read_leads : manner.is_event ≡ false → CanGive manner.may_be_bad (regs_in f l i) → Leads c l (Gave (regs_in f l i)) (regs_in f l)
      read_leads n g =
          let x = has i register in
          let e : regs_in f l i ≡ x.0 = register_value i register ∙ ap flat x.1 in
          subst (λ (v : Option Value). Leads c l (Gave v) (regs_in f l)) (sym e) (read_of x.0 x.1 n (subst (CanGive manner.may_be_bad) e g))

      unwritten_traps : manner.may_be_bad ≡ false → regs_in f l i ≡ None → TrapsNext hidden p (local_state c l)
      unwritten_traps hard none = ReadingUnwritten c l i manner reads_own (hides_it i register) hard (by_value (has i register).0 (has i register).1 (sym (register_value i register) ∙ none))
        where
          by_value : (v : Option Value) → scalar_in l i 0 ≡ Some v → flat (scalar_in l i 0) ≡ None → content (scalar_in l i 0) ≡ Unwritten
          by_value None e n = ap content e
          by_value (Some v) e n = let k : Some v ≡ None = sym (ap flat e) ∙ n in absurd (cc)

    -- a write
    write_leads : (i : ℕ) (v : Value) → transition p c ≡ Performs (Write (register_cell w i) false v) → is_register f i ≡ true → Leads c l Did (with_reg (regs_in f l) i v)
    write_leads i v e register = record {
      locals = with_scalar l i 0 (Some v);
      step = WriteHidden c l i v (e ∙ ap (λ (x : Cell). Performs (Write x false v)) (its_cell i)) (hides_it i register);
      regs = regs_written f l i v register (has i register).0 (has i register).1;
      has = still_there;
    }
      where
        by_test : (j : ℕ) (b : Bool) → (i == j) ≡ b → is_register f j ≡ true → (u : Option Value) × (scalar_in (with_scalar l i 0 (Some v)) j 0 ≡ Some u)
        by_test j true h k = subst (λ (j : ℕ). (u : Option Value) × (scalar_in (with_scalar l i 0 (Some v)) j 0 ≡ Some u)) (equal i j h) (Some v, scalar_there l i (Some v) (has i register).0 (has i register).1)
        by_test j false h k = ((has j k).0, scalar_elsewhere l i 0 (Some v) j (differ i j h) ∙ (has j k).1)

        still_there : AllThere f (with_scalar l i 0 (Some v))
        still_there j k = by_test j (i == j) refl k

    -- a quiet step of the tree is one that nothing else can see
    pub quiet_leads : (action : Action) (m : Mark) (r' : Regs) → transition p c ≡ Performs action → IsQuiet w f action (regs_in f l) m r' → Leads c l m r'
    quiet_leads action m r' e (Reads i manner a register event can mark t) =
        subst (λ (x : Regs). Leads c l m x) (sym t)
        (subst (λ (x : Mark). Leads c l x (regs_in f l)) (sym mark) (read_leads i manner (e ∙ ap (λ (x : Action). Performs x) a) register event can))
    quiet_leads action m r' e (Writes i v a register mark t) =
        subst (λ (x : Regs). Leads c l m x) (sym t)
        (subst (λ (x : Mark). Leads c l x (with_reg (regs_in f l) i v)) (sym mark) (write_leads i v (e ∙ ap (λ (x : Action). Performs x) a) register))
    quiet_leads action m r' e (Chooses b a mark t) =
        subst (λ (x : Regs). Leads c l m x) (sym t)
        (subst (λ (x : Mark). Leads c l x (regs_in f l)) (sym mark)
        (record { locals = l; step = Branch c l b (e ∙ ap (λ (x : Action). Performs x) a); regs = refl; has = has }))

    -- a register that was not written is read where that traps
    pub fails_traps : (action : Action) → transition p c ≡ Performs action → Fails w f action (regs_in f l) → TrapsNext hidden p (local_state c l)
    fails_traps action e x = unwritten_traps x.register x.manner (e ∙ ap (λ (a : Action). Performs a) x.reads) x.is_one x.traps x.unwritten

-- ---- a write of a local that is no register changes none

module _ (f : Func) (l : Locals) (local i : ℕ) (v : Value) (other : is_register f local ≡ false) where
  not_it : (j : ℕ) → is_register f j ≡ true → local ≡ j → ⊥
  not_it j h e = let k : true ≡ false = sym h ∙ ap (is_register f) (sym e) ∙ other in absurd (cc)

  same_at : (j : ℕ) (b : Bool) → is_register f j ≡ b → (if b then flat (scalar_in (with_scalar l local i (Some v)) j 0) else None) ≡ (if b then flat (scalar_in l j 0) else None)
  same_at j true h = ap flat (scalar_elsewhere l local i (Some v) j (not_it j h))
  same_at j false h = refl

  pub regs_elsewhere : regs_in f (with_scalar l local i (Some v)) ≡ regs_in f l
  regs_elsewhere = fun_ext (λ j. same_at j (is_register f j) refl)

  pub there_elsewhere : AllThere f l → AllThere f (with_scalar l local i (Some v))
  there_elsewhere h j k = ((h j k).0, scalar_elsewhere l local i (Some v) j (not_it j k) ∙ (h j k).1)
