-- A local that is no register is written, of whatever activation: what facts say of registers, of the memory and of the places stays.
use Rattle.std.proofs.Common.{◌≡◌, ◌⊎◌, inl, inr, ◌<◌, ℕ, Bool, true, false, List, [], ◌∷◌, max, Option, Some, None, refl, ap, sym, ◌∙◌, subst, slice_get}
use Rattle.std.proofs.lemmas.Bool.{eqb-true}
use Rattle.std.proofs.lemmas.Option.{same_Some}
use Rattle.std.specs.Prelude.{if◌then◌else◌, ◌==◌}
use Rattle.cc_flow_sound.specs.CcCells.Cells.{scalar_in, with_scalar}
use Rattle.cc_flow_sound.specs.CcEval.declared.action.Action.TheVariants.{Read, Write, Choose, Call, Flag, Save}
use Rattle.cc_flow_sound.specs.CcEval.declared.action.Action.{Action}
use Rattle.cc_flow_sound.specs.CcEval.declared.mark.Mark.{Mark}
use Rattle.cc_program.specs.declared.func.Func.{Func}
use Rattle.cc_program.specs.declared.program.Program.{Program}
use Rattle.cc_program.specs.declared.value.Cell.TheVariants as cell
use Rattle.cc_program.specs.declared.value.Cell.{Cell}
use Rattle.cc_program.specs.declared.value.Root.TheVariants as root
use Rattle.cc_program.specs.declared.value.Value.{Value}
use Rattle.cc_proof_covers.proofs.Written.{scalar_written, scalar_kept}
use Rattle.cc_proof_covers.specs.Covers.{Running, AreLocalsIn, IsReached, Interrupted, Waiting, Role, under, innermost}
use Rattle.cc_proof_covers.specs.Invariant.{Awaits, ActivationFits, CountsAt, IsPending, IsCurrentAt, IsAtPoint, StackFits, RunsAbove, Resumes, EndsAt, IsCurrent, IsReady, MemoryFits}
use Rattle.cc_proof_covers.specs.Pending.{value_in}
use Rattle.cc_proof_covers.specs.Rules.{IsClosed}
use Rattle.cc_proof_covers.specs.Views.{View}
use Rattle.cc_flow_sound.specs.CcStates.States.{IsActive, AreActive}
use Rattle.cc_flow_sound.proofs.CcSteps.MarkLemmas.{marked_with}
use Rattle.cc_flow_sound.specs.CcSteps.Access.{content, local_content, with_locals, with_local}
use Rattle.cc_flow_sound.specs.CcSteps.State.{Active, Memory}
use Rattle.cc_flow_sound.specs.CcSteps.Step.{with_mark, return_mark}
use Rattle.cc_flow_sound.specs.CcSteps.Turn.{level_of, running_level}
use Rattle.cc_flow_sound.specs.CcSteps.declared.content.Content.TheVariants.{Holds}
use Rattle.cc_flow_sound.specs.CcSyntax.Registers.{is_register}

abbrev Locals : Type 0
Locals = List (List (Option Value))

yes_no : (b : Bool) → b ≡ true → b ≡ false → ⊥
yes_no b h k = cc

module _ (p : Program) (v : View) (closed : IsClosed p v) where
  -- ---- an activation with other locals, whose registers are as before

  module _ (b : Active) (f : Func) (l : Locals) (kept : (q : ℕ) → is_register f q ≡ true → scalar_in l q 0 ≡ scalar_in b.locals q 0) where
    abbrev b' : Active
    b' = with_locals b l

    value_kept : (o : Option (ℕ × Value)) (q : ℕ) → is_register f q ≡ true → value_in o b' q ≡ value_in o b q
    value_kept None q reg = kept q reg
    value_kept (Some o) q reg = ap (λ (z : Option (Option Value)). if q == o.0 then Some (Some o.1) else z) (kept q reg)

    ends_kept : (k : ℕ) (mark : Mark) → EndsAt p f b k mark → EndsAt p f b' k mark
    ends_kept k mark h = (subst (λ (z : Active). IsAtPoint p f z k) (sym (marked_with p b mark l)) h.0, ap (λ (z : Active). z.marks) (marked_with p b mark l) ∙ h.1)

    pending_kept : (k r : ℕ) (x : Value) → IsPending p f b k r x → IsPending p f b' k r x
    pending_kept k r x h = record { given = h.given; register = h.register; event = h.event; waits = h.waits; ends = ends_kept k _ h.ends }

    counts_kept : (n : ℕ) (o : Option (ℕ × Value)) → CountsAt p f b n o → CountsAt p f b' n o
    counts_kept n None h = h
    counts_kept n (Some o) h = pending_kept n o.0 o.1 h

    module _ (m : Memory) (n : ℕ) where
      cell_kept : (at : Cell) (x : Value) → IsCurrentAt p v m b f n at x → IsCurrentAt p v m b' f n at x
      cell_kept (cell.Device d) x h = h
      cell_kept (cell.At (root.Static i) path) x h = h
      cell_kept (cell.At (root.Auto number id r) path) x h = ((λ same reg. kept r reg ∙ h.0 same reg), h.1)

      mark_kept : (action : Action) (mark : Mark) → IsCurrent p v m b f n action mark → IsCurrent p v m b' f n action mark
      mark_kept (Read at manner) mark h = (h.0, h.1, (λ x e. cell_kept at x (h.2 x e)), h.3)
      mark_kept (Write at is_event w) mark h = h
      mark_kept (Choose c) mark h = h
      mark_kept (Call callee args) mark h = h
      mark_kept (Flag on) mark h = h
      mark_kept Save mark h = h

      ready_kept : (on : Bool) (o : Option (ℕ × Value)) → ((r i : ℕ) → v.same n r i → is_register f r ≡ true) → IsReady p v m on b f n o → IsReady p v m on b' f n o
      ready_kept on o regs h = record {
        flag = h.flag;
        cells = h.cells;
        sames = λ r i x s e. h.sames r i x s (sym (value_kept o r (regs r i s)) ∙ e);
        marks = λ e front back mark split. let w = h.marks e front back mark split in (w.0, w.1, mark_kept w.0 mark w.2);
      }

    resumes_kept : (k : ℕ) (o : Option ℕ) (mark : Mark) → Resumes p v f b k o mark → Resumes p v f b' k o mark
    resumes_kept k None mark h = ends_kept k mark h
    resumes_kept k (Some r) mark h = λ x e. let w = h x e in (pending_of k r x mark w.0, marked_with p b mark l ∙ ap (λ (z : Active). with_locals z l) w.1)
      where
        pending_of : (k r : ℕ) (x : Value) (mark : Mark) → IsPending p f (with_mark b mark) k r x → IsPending p f (with_mark b' mark) k r x
        pending_of k r x mark h = record {
          given = h.given;
          register = h.register;
          event = h.event;
          waits = h.waits;
          ends = (
            subst (λ (z : Active). IsAtPoint p f z k) (sym (marked_with p (with_mark b mark) _ l)) h.ends.0,
            ap (λ (z : Active). z.marks) (marked_with p (with_mark b mark) _ l) ∙ h.ends.1,
          );
        }

    awaits_kept : (n g : ℕ) → Awaits p v b f n g → Awaits p v b' f n g
    awaits_kept n g h = record { function = h.function; there = h.there; next = h.next; result = h.result; back = h.back; gives = h.gives; resumes = λ x. resumes_kept h.next h.result (return_mark p g x) (h.resumes x) }

    memory_kept : (role : Role) (m : Memory) (n : ℕ) (o : Option (ℕ × Value)) → ((r i : ℕ) → v.same n r i → is_register f r ≡ true) → MemoryFits p v role m b f n o → MemoryFits p v role m b' f n o
    memory_kept Running m n o regs h = ready_kept m n m.flag o regs h
    memory_kept Interrupted m n o regs h = ready_kept m n true o regs h
    memory_kept (Waiting g) m n o regs h = (h.0, awaits_kept n g h.1, h.2)

  -- ---- the stack, with a local that is no register written

  module _ (openings : List ℕ) (number id r k : ℕ) (x : Value) (opened : slice_get openings number ≡ Some id) (other : (g : Func) → slice_get p.funcs id ≡ Some g → is_register g r ≡ false) (value : v.local_at id r k x) where
    abbrev new : Active → Locals
    new b = with_scalar b.locals r k (Some x)

    owner : (b : Active) → IsActive p openings b → b.number == number ≡ true → b.func ≡ id
    owner b h e = same_Some b.func id (sym h.number ∙ ap (slice_get openings) (eqb-true b.number number e) ∙ opened)

    pub registers_kept : (b : Active) (f : Func) → slice_get p.funcs b.func ≡ Some f → b.func ≡ id → (q : ℕ) → is_register f q ≡ true → scalar_in (new b) q 0 ≡ scalar_in b.locals q 0
    registers_kept b f function e q reg =
        scalar_kept b.locals r k (Some x) q 0 (λ same. yes_no (is_register f q) reg (ap (is_register f) (sym same) ∙ other f (ap (slice_get p.funcs) (sym e) ∙ function)))

    pub others_kept : (b : Active) (f : Func) → b.func ≡ id → AreLocalsIn p v f b → AreLocalsIn p v f (with_locals b (new b))
    others_kept b f e h q c y o w = by (scalar_written b.locals r k (Some x) q c (Some y) w)
      where
        by : ((q ≡ r) × (c ≡ k) × (Some y ≡ Some x)) ⊎ (scalar_in b.locals q c ≡ Some (Some y)) → v.local_at b.func q c y
        by (inl i) = subst (λ (g : ℕ). v.local_at g q c y) (sym e) (subst (λ (z : ℕ). v.local_at id z c y) (sym i.0) (subst (λ (z : ℕ). v.local_at id r z y) (sym i.1) (subst (v.local_at id r k) (sym (same_Some y x i.2)) value)))
        by (inr i) = h q c y o i

    levels_same : (stack : List Active) → (innermost p (with_local stack number r k x) ≡ innermost p stack) × (running_level p (with_local stack number r k x) ≡ running_level p stack)
    levels_same [] = (refl, refl)
    levels_same (b ∷ rest) = by (b.number == number) (levels_same rest)
      where
        by : (c : Bool) → (innermost p (with_local rest number r k x) ≡ innermost p rest) × (running_level p (with_local rest number r k x) ≡ running_level p rest) →
            (innermost p (if c then with_locals b (new b) ∷ rest else b ∷ with_local rest number r k x) ≡ innermost p (b ∷ rest)) ×
            (running_level p (if c then with_locals b (new b) ∷ rest else b ∷ with_local rest number r k x) ≡ running_level p (b ∷ rest))
        by true h = (refl, refl)
        by false h = (ap (λ (o : Option ℕ). if b.handler then Some (level_of p b.func) else o) h.0, ap (λ (n : ℕ). if b.handler then max (level_of p b.func) n else n) h.1)

    pub runs_kept : (c : Bool) (g : ℕ) (below : List Active) → RunsAbove p v c g below → RunsAbove p v c g (with_local below number r k x)
    runs_kept c g below h =
        let e = levels_same below in
        record {
          from = subst (λ (o : Option ℕ). IsReached p v (if c then Some (level_of p g) else o) g) (sym e.0) h.from;
          level = subst (λ (n : ℕ). v.runs_at g (if c then max (level_of p g) n else n)) (sym e.1) h.level;
          enters = λ t. subst (λ (n : ℕ). (level_of p g ≡ 0) ⊎ (n < level_of p g)) (sym e.1) (h.enters t);
        }

    pub below_fits : (role : Role) (m : Memory) (b : Active) (rest : List Active) → ActivationFits p v role m b rest → ActivationFits p v role m b (with_local rest number r k x)
    below_fits role m b rest h = record {
      func = h.func;
      function = h.function;
      runs = runs_kept b.handler b.func rest h.runs;
      point = h.point;
      result = h.result;
      counts = h.counts;
      reached = h.reached;
      registers = h.registers;
      others = h.others;
      memory = h.memory;
    }

    own_fits : (role : Role) (m : Memory) (b : Active) (rest : List Active) → b.func ≡ id → ActivationFits p v role m b rest → ActivationFits p v role m (with_locals b (new b)) rest
    own_fits role m b rest e h =
        let regs = registers_kept b h.func h.function e in
        record {
          func = h.func;
          function = h.function;
          runs = h.runs;
          point = h.point;
          result = h.result;
          counts = counts_kept b h.func (new b) regs h.point h.result h.counts;
          reached = h.reached;
          registers = λ q y reg w. h.registers q y reg (sym (value_kept b h.func (new b) regs h.result q reg) ∙ w);
          others = others_kept b h.func e h.others;
          memory = memory_kept b h.func (new b) regs role m h.point h.result (closed.pair_registers b h.func h.point h.result h.function h.counts) h.memory;
        }

    pub stack_kept : (role : Role) (m : Memory) (stack : List Active) → AreActive p openings stack → StackFits p v role m stack → StackFits p v role m (with_local stack number r k x)
    stack_kept role m [] a h = tt
    stack_kept role m (b ∷ rest) a h = by (b.number == number) refl (stack_kept (under b) m rest a.1 h.1)
      where
        by : (c : Bool) → b.number == number ≡ c → StackFits p v (under b) m (with_local rest number r k x) → StackFits p v role m (if c then with_locals b (new b) ∷ rest else b ∷ with_local rest number r k x)
        by true e next = (own_fits role m b rest (owner b a.0 e) h.0, h.1)
        by false e next = (below_fits role m b rest h.0, next)

  -- what a local that is no register holds is in its set
  local_content_is : (o : Option (Option Value)) (x : Value) → content o ≡ Holds x → o ≡ Some (Some x)
  local_content_is None x h = absurd (cc)
  local_content_is (Some None) x h = absurd (cc)
  local_content_is (Some (Some y)) x h = let e : y ≡ x = cc in ap (λ (z : Value). Some (Some z)) e

  module _ (openings : List ℕ) (number id r k : ℕ) (x : Value) (opened : slice_get openings number ≡ Some id) (g : Func) (there : slice_get p.funcs id ≡ Some g) (other : is_register g r ≡ false) where
    pub content_in : (role : Role) (m : Memory) (stack : List Active) → AreActive p openings stack → StackFits p v role m stack → local_content stack number r k ≡ Holds x → v.local_at id r k x
    content_in role m [] a h e = absurd (cc)
    content_in role m (b ∷ rest) a h e = by (b.number == number) refl (λ w. content_in (under b) m rest a.1 h.1 w) e
      where
        by : (c : Bool) → b.number == number ≡ c → (local_content rest number r k ≡ Holds x → v.local_at id r k x) → (if c then content (scalar_in b.locals r k) else local_content rest number r k) ≡ Holds x → v.local_at id r k x
        by true t next w =
            let is : b.func ≡ id = same_Some b.func id (sym a.0.number ∙ ap (slice_get openings) (eqb-true b.number number t) ∙ opened) in
            let same : h.0.func ≡ g = same_Some h.0.func g (sym h.0.function ∙ ap (slice_get p.funcs) is ∙ there) in
            subst (λ (z : ℕ). v.local_at z r k x) is (h.0.others r k x (ap (λ (z : Func). is_register z r) same ∙ other) (local_content_is (scalar_in b.locals r k) x w))
        by false t next w = next w
