-- Each step of the running activation keeps the facts.
use Rattle.std.proofs.Common.{◌≡◌, ℕ, Bool, true, false, List, [], ◌∷◌, Option, Some, None, refl, ap, sym, ◌∙◌, subst, slice_get}
use Rattle.std.proofs.lemmas.Bool.{eqb-true, eq-eqb}
use Rattle.std.proofs.lemmas.Option.{same_Some}
use Rattle.std.specs.Prelude.{if◌then◌else◌, ◌==◌}
use Rattle.cc_flow_sound.specs.CcCells.Cells.{scalar_in, with_scalar}
use Rattle.cc_flow_sound.specs.CcControl.Control.{level, close}
use Rattle.cc_flow_sound.specs.CcControl.declared.phase.Phase.TheVariants.{First}
use Rattle.cc_flow_sound.proofs.CcEval.MarkLemmas.{nothing_in}
use Rattle.cc_flow_sound.specs.CcEval.declared.action.Action.TheVariants.{Read, Write, Choose, Call, Flag, Save}
use Rattle.cc_flow_sound.specs.CcEval.declared.action.Action.{Action}
use Rattle.cc_flow_sound.specs.CcEval.declared.mark.Mark.TheVariants.{Did}
use Rattle.cc_flow_sound.specs.CcEval.declared.mark.Mark.{Mark}
use Rattle.cc_flow_sound.proofs.Goes.{goes_at}
use Rattle.cc_flow_sound.proofs.Numbered.{entered_at}
use Rattle.cc_flow_sound.proofs.Opened.{all_normal}
use Rattle.cc_flow_sound.proofs.Places.{body_at}
use Rattle.cc_flow_sound.specs.Moves.{entry}
use Rattle.cc_flow_sound.specs.Sites.{base_of, number_at}
use Rattle.cc_program.specs.declared.func.Func.{Func}
use Rattle.cc_program.specs.declared.program.Program.{Program}
use Rattle.cc_program.specs.declared.value.Cell.TheVariants as cell
use Rattle.cc_program.specs.declared.value.Cell.{Cell}
use Rattle.cc_program.specs.declared.value.Part.{Part}
use Rattle.cc_program.specs.declared.value.Root.TheVariants as root
use Rattle.cc_program.specs.declared.value.Value.{Value}
use Rattle.cc_proof_covers.proofs.Below.{all_same, under_below}
use Rattle.cc_proof_covers.proofs.Marks.{marked_locals}
use Rattle.cc_proof_covers.proofs.Written.{scalar_kept, scalar_at}
use Rattle.cc_proof_covers.specs.Covers.{Running, AreLocalsIn, AreRegistersIn, IsReached, Interrupted, WasIn, Waiting, AreStaticsIn, under}
use Rattle.cc_proof_covers.specs.Invariant.{AreCurrent, ActivationFits, IsPending, AreReadIn, IsCurrentAt, IsAtPoint, StackFits, RunsAbove, EndsAt, Fits, IsReadIn, IsCurrent}
use Rattle.cc_proof_covers.specs.Pending.{value_in}
use Rattle.cc_proof_covers.specs.Rules.{IsClosed}
use Rattle.cc_proof_covers.specs.Views.{View}
use Rattle.cc_flow_sound.proofs.CcStates.ListLemmas.{not_equal}
use Rattle.cc_flow_sound.proofs.CcSteps.MarkLemmas.{marked_call, marked_with}
use Rattle.cc_flow_sound.specs.CcSteps.Access.{with_locals, is_open, with_local}
use Rattle.cc_flow_sound.specs.CcSteps.State.{Active, Memory, State, locals_with}
use Rattle.cc_flow_sound.specs.CcSteps.State.{IsSameCall}
use Rattle.cc_flow_sound.specs.CcSteps.Step.{stopped, with_stack, with_event, written, marked, on_top, did, cell_position, has_written, write, activation}
use Rattle.cc_flow_sound.specs.CcSteps.declared.event.End.{End}
use Rattle.cc_flow_sound.specs.CcSteps.declared.event.Event.TheVariants as event
use Rattle.cc_flow_sound.specs.CcSteps.declared.event.Event.{Event}
use Rattle.cc_flow_sound.specs.CcSyntax.Registers.{is_register}

yes_no : (b : Bool) → b ≡ true → b ≡ false → ⊥
yes_no b h k = cc

registers_apart : (f : Func) (r q : ℕ) → r ≡ q → is_register f r ≡ true → is_register f q ≡ false → ⊥
registers_apart f r q same h k = let e : is_register f q ≡ true = ap (is_register f) (sym same) ∙ h in yes_no (is_register f q) e k

pub none_some : {A : Type 0} (x : A) → None ≡ Some x → ⊥
none_some x e = cc

module _ (p : Program) (v : View) where
  -- ---- what stays with the call that an activation is of

  pub runs_again : (a b : Active) (below : List Active) → IsSameCall b a → RunsAbove p v a.handler a.func below → RunsAbove p v b.handler b.func below
  runs_again a b below s h = subst (λ (c : Bool). RunsAbove p v c b.func below) (sym s.handler) (subst (λ (g : ℕ). RunsAbove p v a.handler g below) (sym s.func) h)

  pub under_again : (a b : Active) (m : Memory) (below : List Active) → IsSameCall b a → StackFits p v (under a) m below → StackFits p v (under b) m below
  under_again a b m below s h =
      subst (λ (c : Bool). StackFits p v (if c then Interrupted else Waiting b.func) m below) (sym s.handler) (subst (λ (g : ℕ). StackFits p v (if a.handler then Interrupted else Waiting g) m below) (sym s.func) h)

  pub no_marks : (m : Memory) (b : Active) (f : Func) (n : ℕ) → b.marks ≡ [] → AreCurrent p v m b f n
  no_marks m b f n e front back mark split = absurd (nothing_in front back mark (sym e ∙ split))

  -- what was read is in the sets of the point
  module _ (m : Memory) (a : Active) (f : Func) (n : ℕ) (registers : AreRegistersIn p v f n (value_in None a)) where
    read_at : (at : Cell) (x : Value) → IsCurrentAt p v m a f n at x → WasIn p v a f n at x
    read_at (cell.Device d) x h = h
    read_at (cell.At (root.Static i) path) x h = (h.0, λ t. (h.1 t).0)
    read_at (cell.At (root.Auto number id r) path) x h = ((λ same reg. registers r x reg (h.0 same reg)), h.1)

    read_by : (action : Action) (mark : Mark) → IsCurrent p v m a f n action mark → IsReadIn p v a f n action mark
    read_by (Read at manner) mark h = (h.0, h.1, λ x e. read_at at x (h.2 x e))
    read_by (Write at is_event w) mark h = h
    read_by (Choose b) mark h = h
    read_by (Call callee args) mark h = h
    read_by (Flag on) mark h = h
    read_by Save mark h = h

    pub reads_of : AreCurrent p v m a f n → AreReadIn p v a f n
    reads_of h front back mark split = let w = h front back mark split in (w.0, w.1, read_by w.0 mark w.2)

  pub others_again : (a b : Active) (f : Func) → IsSameCall b a → b.locals ≡ a.locals → AreLocalsIn p v f a → AreLocalsIn p v f b
  others_again a b f s l h r k x o e = subst (λ (g : ℕ). v.local_at g r k x) (sym s.func) (h r k x o (ap (λ (ls : List (List (Option Value))). scalar_in ls r k) (sym l) ∙ e))

  -- an activation that goes on at a point
  pub fit_at : (m : Memory) (a b : Active) (below : List Active) (f : Func) (k : ℕ) → IsSameCall b a → slice_get p.funcs a.func ≡ Some f → RunsAbove p v a.handler a.func below → IsAtPoint p f b k → b.marks ≡ [] → v.reached k →
      AreRegistersIn p v f k (value_in None b) → v.may_be k m.flag → ((i : ℕ) (x : Value) → v.tracked i ≡ true → scalar_in m.statics i 0 ≡ Some x → v.cell k i x) →
      ((r i : ℕ) (x : Value) → v.same k r i → scalar_in b.locals r 0 ≡ Some (Some x) → scalar_in m.statics i 0 ≡ Some x) → AreLocalsIn p v f b → ActivationFits p v Running m b below
  fit_at m a b below f k s function runs there marks reached registers flag cells sames others = record {
    func = f;
    function = ap (slice_get p.funcs) s.func ∙ function;
    runs = runs_again a b below s runs;
    point = k;
    result = None;
    counts = there;
    reached = reached;
    registers = registers;
    others = others;
    memory = record { flag = flag; cells = cells; sames = sames; marks = λ e. no_marks m b f k marks };
  }

  value_by : (b : Active) (r : ℕ) (x : Value) (q : ℕ) (y : Value) (c : Bool) → (P : Value → Type 0) → (if c then Some (Some x) else scalar_in b.locals q 0) ≡ Some (Some y) → (c ≡ true → P x) → (c ≡ false → scalar_in b.locals q 0 ≡ Some (Some y) → P y) → P y
  value_by b r x q y true P e h k = subst P (same_Some x y (same_Some (Some x) (Some y) e)) (h refl)
  value_by b r x q y false P e h k = k refl e

  -- an activation whose result has still to be written
  pub fit_pending : (m : Memory) (a b : Active) (below : List Active) (f : Func) (k r : ℕ) (x : Value) → IsSameCall b a → slice_get p.funcs a.func ≡ Some f → RunsAbove p v a.handler a.func below → IsPending p f b k r x → v.reached k → v.local k r x →
      ((q : ℕ) (y : Value) → (r ≡ q → ⊥) → is_register f q ≡ true → scalar_in b.locals q 0 ≡ Some (Some y) → v.local k q y) → v.may_be k m.flag →
      ((i : ℕ) (y : Value) → v.tracked i ≡ true → scalar_in m.statics i 0 ≡ Some y → v.cell k i y) → ((i : ℕ) → v.same k r i → ⊥) →
      ((q i : ℕ) (y : Value) → (r ≡ q → ⊥) → v.same k q i → scalar_in b.locals q 0 ≡ Some (Some y) → scalar_in m.statics i 0 ≡ Some y) → AreLocalsIn p v f b → ActivationFits p v Running m b below
  fit_pending m a b below f k r x s function runs there reached result registers flag cells none sames others = record {
    func = f;
    function = ap (slice_get p.funcs) s.func ∙ function;
    runs = runs_again a b below s runs;
    point = k;
    result = Some (r, x);
    counts = there;
    reached = reached;
    registers = λ q y reg e. value_by b r x q y (q == r) (v.local k q) e (λ c. subst (λ (z : ℕ). v.local k z x) (sym (eqb-true q r c)) result) (λ c g. registers q y (λ same. not_equal q r (sym same) c) reg g);
    others = others;
    memory = record {
      flag = flag;
      cells = cells;
      sames = λ q i y h e. value_by b r x q y (q == r) (λ z. scalar_in m.statics i 0 ≡ Some z) e (λ c. absurd (none i (subst (λ (z : ℕ). v.same k z i) (eqb-true q r c) h))) (λ c g. sames q i y (λ same. not_equal q r (sym same) c) h g);
      marks = λ e. absurd (none_some (r, x) (sym e));
    };
  }

  -- a state, by its running activation and those below
  pub fits_by : (t : State) (b : Active) (below : List Active) → t.stack ≡ b ∷ below → AreStaticsIn p v t.memory.statics → ActivationFits p v Running t.memory b below → StackFits p v (under b) t.memory below → Fits p v t
  fits_by t b below e h k l = record { statics = h; stack = subst (StackFits p v Running t.memory) (sym e) (k, l) }

  pub did_keeps : (t : State) (c : Active) (below : List Active) (mark : Mark) → t.stack ≡ c ∷ below → AreStaticsIn p v t.memory.statics → ActivationFits p v Running t.memory (marked p c mark) below → StackFits p v (under c) t.memory below →
      Fits p v (did p t mark)
  did_keeps t c below mark e h k l =
      fits_by (did p t mark) (marked p c mark) below (ap (λ (st : List Active). on_top p st mark) e) h k (under_again c (marked p c mark) t.memory below (marked_call p c mark) l)

  pub stopped_keeps : (s : State) (end : End) → Fits p v s → Fits p v (stopped s end)
  stopped_keeps s end h = record { statics = h.statics; stack = h.stack }

  pub reached_on : (o : Option ℕ) (f g : ℕ) → (v.by_main f → v.by_main g) → (v.by_handler f → v.by_handler g) → ((l : ℕ) → v.reached_from f l → v.reached_from g l) → IsReached p v o f → IsReached p v o g
  reached_on None f g h k l c = h c
  reached_on (Some n) f g h k l c = (k c.0, l n c.1)

  pub from_innermost : (o : Option ℕ) (f l : ℕ) → IsReached p v o f → o ≡ Some l → v.reached_from f l
  from_innermost None f l c e = absurd (none_some l e)
  from_innermost (Some n) f l c e = subst (v.reached_from f) (same_Some n l e) c.1

  -- ---- a register is written, and the statement is done

  module _ (m : Memory) (a : Active) (below : List Active) (f : Func) (k r : ℕ) (x : Value) (function : slice_get p.funcs a.func ≡ Some f) (runs : RunsAbove p v a.handler a.func below) (ends : EndsAt p f a k Did) (reached : v.reached k) (register : is_register f r ≡ true) (held : AreLocalsIn p v f a) (value : v.local k r x)
      (others : (q : ℕ) (y : Value) → (r ≡ q → ⊥) → is_register f q ≡ true → scalar_in a.locals q 0 ≡ Some (Some y) → v.local k q y) (flag : v.may_be k m.flag)
      (cells : (i : ℕ) (y : Value) → v.tracked i ≡ true → scalar_in m.statics i 0 ≡ Some y → v.cell k i y) (own_pairs : (i : ℕ) → v.same k r i → scalar_in m.statics i 0 ≡ Some x)
      (pairs : (q i : ℕ) (y : Value) → (r ≡ q → ⊥) → v.same k q i → scalar_in a.locals q 0 ≡ Some (Some y) → scalar_in m.statics i 0 ≡ Some y) where
    abbrev locals : List (List (Option Value))
    locals = with_scalar a.locals r 0 (Some x)

    abbrev pub written_a : Active
    written_a = with_locals a locals

    same_call : IsSameCall (marked p written_a Did) a
    same_call = let c = marked_call p written_a Did in record { number = c.number; func = c.func; handler = c.handler }

    its_locals : (marked p written_a Did).locals ≡ locals
    its_locals = marked_locals p written_a Did

    ends_there : IsAtPoint p f (marked p written_a Did) k
    ends_there = subst (λ (b : Active). IsAtPoint p f b k) (sym (marked_with p a Did locals)) ends.0

    ends_marks : (marked p written_a Did).marks ≡ []
    ends_marks = ap (λ (b : Active). b.marks) (marked_with p a Did locals) ∙ ends.1

    by_number : (P : ℕ → Value → Type 0) → P r x → ((q : ℕ) (y : Value) → (r ≡ q → ⊥) → scalar_in a.locals q 0 ≡ Some (Some y) → P q y) → (q : ℕ) (y : Value) → (c : Bool) → q == r ≡ c → scalar_in locals q 0 ≡ Some (Some y) → P q y
    by_number P h l q y true c e =
        let is : q ≡ r = eqb-true q r c in
        subst (λ (z : ℕ). P z y) (sym is) (subst (P r) (sym (same_Some y x (scalar_at a.locals r 0 (Some x) (Some y) (subst (λ (z : ℕ). scalar_in locals z 0 ≡ Some (Some y)) is e)))) h)
    by_number P h l q y false c e =
        let apart : r ≡ q → ⊥ = λ same. not_equal q r (sym same) c in
        l q y apart (sym (scalar_kept a.locals r 0 (Some x) q 0 apart) ∙ e)

    its : (q : ℕ) (y : Value) → scalar_in (marked p written_a Did).locals q 0 ≡ Some (Some y) → scalar_in locals q 0 ≡ Some (Some y)
    its q y e = ap (λ (l : List (List (Option Value))). scalar_in l q 0) (sym its_locals) ∙ e

    others_by : (q c : ℕ) (y : Value) → is_register f q ≡ false → scalar_in locals q c ≡ Some (Some y) → scalar_in a.locals q c ≡ Some (Some y)
    others_by q c y o e = sym (scalar_kept a.locals r 0 (Some x) q c (λ same. registers_apart f r q same register o)) ∙ e

    pub written_fit : ActivationFits p v Running m (marked p written_a Did) below
    written_fit =
        fit_at m a (marked p written_a Did) below f k same_call function runs ends_there ends_marks reached
        (λ q y reg e. by_number (λ q y. is_register f q ≡ true → v.local k q y) (λ g. value) (λ q y apart g reg. others q y apart reg g) q y (q == r) refl (its q y e) reg)
        flag cells
        (λ q i y h e. by_number (λ q y. v.same k q i → scalar_in m.statics i 0 ≡ Some y) (λ g. own_pairs i g) (λ q y apart g h. pairs q i y apart h g) q y (q == r) refl (its q y e) h)
        (λ q c y o e. subst (λ (g : ℕ). v.local_at g q c y) (sym same_call.func) (held q c y o (others_by q c y o (ap (λ (l : List (List (Option Value))). scalar_in l q c) (sym its_locals) ∙ e))))

  module _ (closed : IsClosed p v) (normal : (g : ℕ) (f : Func) → slice_get p.funcs g ≡ Some f → all_normal p.target f f.body ≡ true) where
    pub entry_there : (number g : ℕ) (handler : Bool) (args : List Value) (f : Func) → slice_get p.funcs g ≡ Some f → IsAtPoint p f (activation p number g handler args f) (entry p g)
    entry_there number g handler args f e =
        let begun : Active = record { number = number; func = g; handler = handler; locals = locals_with p args f.locals; here = level [] 0 First; around = []; marks = [] } in
        subst (IsAtPoint p f (activation p number g handler args f)) (entered_at p g f e)
        (goes_at p.target f (base_of p g f) f.body p begun (close f.body 0 []) (number_at f.body (base_of p g f)) (body_at p.target f (base_of p g f) f.body (normal g f e)))

    module _ (s : State) (fits : Fits p v s) (a : Active) (below : List Active) (top : s.stack ≡ a ∷ below) (rest : StackFits p v (under a) s.memory below) where
      -- the memory with another flag, other inputs and more events
      pub others_same : (m : Memory) → m.statics ≡ s.memory.statics → StackFits p v (under a) m below
      others_same m e = all_same p v closed s.memory m e (under a) (under_below a.handler a.func) below rest

      module _ (f : Func) (k r : ℕ) (x : Value) (function : slice_get p.funcs a.func ≡ Some f) (runs : RunsAbove p v a.handler a.func below) (ends : EndsAt p f a k Did) (reached : v.reached k) (register : is_register f r ≡ true) (held : AreLocalsIn p v f a) (value : v.local k r x)
          (others : (q : ℕ) (y : Value) → (r ≡ q → ⊥) → is_register f q ≡ true → scalar_in a.locals q 0 ≡ Some (Some y) → v.local k q y) (flag : v.may_be k s.memory.flag)
          (cells : (i : ℕ) (y : Value) → v.tracked i ≡ true → scalar_in s.memory.statics i 0 ≡ Some y → v.cell k i y) (own_pairs : (i : ℕ) → v.same k r i → scalar_in s.memory.statics i 0 ≡ Some x)
          (pairs : (q i : ℕ) (y : Value) → (r ≡ q → ⊥) → v.same k q i → scalar_in a.locals q 0 ≡ Some (Some y) → scalar_in s.memory.statics i 0 ≡ Some y) where
        abbrev a' : Active
        a' = with_locals a (with_scalar a.locals r 0 (Some x))

        own_open : (n : ℕ) → n ≡ a.number → is_open s.stack n ≡ true
        own_open n e = ap (λ (st : List Active). is_open st n) top ∙ ap (λ (b : Bool). if b then true else is_open below n) (eq-eqb a.number n (sym e))

        own_local : (n : ℕ) → n ≡ a.number → with_local s.stack n r 0 x ≡ a' ∷ below
        own_local n e = ap (λ (st : List Active). with_local st n r 0 x) top ∙ ap (λ (b : Bool). if b then a' ∷ below else a ∷ with_local below n r 0 x) (eq-eqb a.number n (sym e))

        event_keeps : (b : Bool) (e : Event) → Fits p v (did p (with_event b (with_stack s (a' ∷ below)) e) Did)
        event_keeps false e = did_keeps (with_stack s (a' ∷ below)) a' below Did refl fits.statics (written_fit s.memory a below f k r x function runs ends reached register held value others flag cells own_pairs pairs) rest
        event_keeps true e =
            let t = with_event true (with_stack s (a' ∷ below)) e in
            did_keeps t a' below Did refl fits.statics (written_fit t.memory a below f k r x function runs ends reached register held value others flag cells own_pairs pairs) (others_same t.memory refl)

        -- the write of the register, whatever its event is
        pub register_keeps : (n id : ℕ) (path : List Part) (is_event : Bool) → n ≡ a.number → cell_position p (root.Auto n id r) path ≡ 0 → Fits p v (write p s (cell.At (root.Auto n id r) path) is_event x)
        register_keeps n id path is_event e z =
            let at = cell.At (root.Auto n id r) path in
            let found : written s (root.Auto n id r) (cell_position p (root.Auto n id r) path) x ≡ Some (with_stack s (a' ∷ below)) =
            ap (λ (q : ℕ). if is_open s.stack n then Some (with_stack s (with_local s.stack n r q x)) else None) z ∙ ap (λ (b : Bool). if b then Some (with_stack s (with_local s.stack n r 0 x)) else None) (own_open n e)
            ∙ ap (λ (st : List Active). Some (with_stack s st)) (own_local n e) in
            subst (λ (o : Option State). Fits p v (has_written p at is_event x s o)) (sym found) (event_keeps is_event (event.Write at x))
