-- What the running activation writes keeps the facts of all activations below it: a handler that may write an object is one that may
-- enter where they were interrupted, and there the object has its whole set.
use Rattle.std.proofs.Common.{arith, ◌≡◌, ◌⊎◌, inl, inr, ◌<◌, ℕ, Bool, true, false, List, [], ◌∷◌, max, Option, Some, refl, ap, sym, ◌∙◌, subst, slice_get}
use Rattle.std.proofs.lemmas.Bool.{eqb-true}
use Rattle.std.specs.Prelude.{if◌then◌else◌, ◌==◌}
use Rattle.cc_flow_sound.specs.CcCells.Cells.{scalar_in, with_scalar}
use Rattle.cc_flow_sound.specs.CcEval.declared.action.Action.TheVariants.{Read, Write, Choose, Call, Flag, Save}
use Rattle.cc_flow_sound.specs.CcEval.declared.action.Action.{Action}
use Rattle.cc_flow_sound.specs.CcEval.declared.mark.Mark.{Mark}
use Rattle.cc_program.specs.declared.func.Func.{Func}
use Rattle.cc_program.specs.declared.program.Program.{Program}
use Rattle.cc_program.specs.declared.value.Cell.TheVariants as cell
use Rattle.cc_program.specs.declared.value.Cell.{Cell}
use Rattle.cc_program.specs.declared.value.Root.TheVariants as root
use Rattle.cc_program.specs.declared.value.Value.{Value}
use Rattle.cc_proof_covers.proofs.Written.{scalar_written, scalar_kept}
use Rattle.cc_proof_covers.specs.Covers.{Running, Interrupted, Waiting, Role, under, innermost}
use Rattle.cc_proof_covers.specs.Invariant.{MayBeWritten, AreCurrent, ActivationFits, CountsAt, IsCurrentAt, StackFits, IsCurrent, IsReady, MemoryFits}
use Rattle.cc_proof_covers.specs.Pending.{value_in}
use Rattle.cc_proof_covers.specs.Rules.{IsStable, IsClosed}
use Rattle.cc_proof_covers.specs.Views.{View}
use Rattle.cc_flow_sound.proofs.CcStates.ListLemmas.{not_equal}
use Rattle.cc_flow_sound.specs.CcSteps.State.{Active, Memory}
use Rattle.cc_flow_sound.specs.CcSteps.Turn.{level_of, running_level}

-- a list, as a role that is not the running one
abbrev pub IsBelow : Role → Type 0
IsBelow Running = ⊥
IsBelow Interrupted = Unit {0}
IsBelow (Waiting g) = Unit {0}

pub under_below : (b : Bool) (g : ℕ) → IsBelow (if b then Interrupted else Waiting g)
under_below true g = tt
under_below false g = tt

module _ (p : Program) (v : View) (closed : IsClosed p v) where
  -- a handler of this level may enter above these activations
  abbrev pub MayEnter : ℕ → List Active → Type 0
  MayEnter l stack = (l ≡ 0) ⊎ (running_level p stack < l)

  level_down : (b : Bool) (n m l : ℕ) → (if b then max n m else m) < l → m < l
  level_down true n m l h = omega (arith, h)
  level_down false n m l h = h

  pub enters_below : (l : ℕ) (a : Active) (below : List Active) → MayEnter l (a ∷ below) → MayEnter l below
  enters_below l a below (inl h) = inl h
  enters_below l a below (inr h) = inr (level_down a.handler (level_of p a.func) (running_level p below) l h)

  may_be_written_there : (role : Role) (m : Memory) (b : Active) (rest : List Active) (i l : ℕ) → ActivationFits p v role m b rest → v.written_by i l → MayEnter l (b ∷ rest) → MayBeWritten p v b.func i
  may_be_written_there role m b rest i l h w (inl e) = (l, w, inl e)
  may_be_written_there role m b rest i l h w (inr e) = (l, w, inr (running_level p (b ∷ rest), h.runs.level, e))

  -- ---- one scalar of a static object is written, by a handler of this level or by what it calls

  module _ (m m' : Memory) (i k : ℕ) (x : Value) (statics : m'.statics ≡ with_scalar m.statics i k x) (value : v.static_at i k x) (single : v.tracked i ≡ true → k ≡ 0) where
    kept_at : (j q : ℕ) → (i ≡ j → ⊥) → scalar_in m'.statics j q ≡ scalar_in m.statics j q
    kept_at j q n = ap (λ (l : List (List Value)). scalar_in l j q) statics ∙ scalar_kept m.statics i k x j q n

    written_at : (j q : ℕ) (y : Value) → scalar_in m'.statics j q ≡ Some y → ((j ≡ i) × (q ≡ k) × (y ≡ x)) ⊎ (scalar_in m.statics j q ≡ Some y)
    written_at j q y e = scalar_written m.statics i k x j q y (ap (λ (l : List (List Value)). scalar_in l j q) (sym statics) ∙ e)

    whole : v.tracked i ≡ true → v.static_at i 0 x
    whole t = subst (λ (q : ℕ). v.static_at i q x) (single t) value

    module _ (b : Active) (f : Func) (n : ℕ) (o : Option (ℕ × Value)) (function : slice_get p.funcs b.func ≡ Some f) (counts : CountsAt p f b n o) (reached : v.reached n) (ready : IsReady p v m true b f n o)
        (may_be_written : v.tracked i ≡ true → MayBeWritten p v b.func i) where
      abbrev stable_there : (t : v.tracked i ≡ true) → IsStable p v n i
      stable_there t = closed.stable b f n (record { result = o; function = function; counts = counts; reached = reached; on = ready.flag }) i t (may_be_written t)

      cell_by : (j : ℕ) (y : Value) → v.tracked j ≡ true → ((j ≡ i) × (0 ≡ k) × (y ≡ x)) ⊎ (scalar_in m.statics j 0 ≡ Some y) → v.cell n j y
      cell_by j y t (inl e) =
          let there : v.tracked i ≡ true = subst (λ (q : ℕ). v.tracked q ≡ true) e.0 t in
          subst (λ (q : ℕ). v.cell n q y) (sym e.0) (subst (v.cell n i) (sym e.2) ((stable_there there).whole x (whole there)))
      cell_by j y t (inr e) = ready.cells j y t e

      same_by : (r j : ℕ) (y : Value) → v.same n r j → value_in o b r ≡ Some (Some y) → (c : Bool) → i == j ≡ c → scalar_in m'.statics j 0 ≡ Some y
      same_by r j y h e true c = absurd (let same : i ≡ j = eqb-true i j c in let there : v.same n r i = subst (λ (q : ℕ). v.same n r q) (sym same) h in (stable_there (closed.pairs n r i there)).sames r there)
      same_by r j y h e false c = kept_at j 0 (λ same. not_equal i j same c) ∙ ready.sames r j y h e

      abbrev Still : ℕ → Value → Memory → Type 0
      Still j y mem = (scalar_in mem.statics j 0 ≡ Some y) ⊎ (v.may_be n true × MayBeWritten p v b.func j)

      still : (j : ℕ) (y : Value) → v.tracked j ≡ true → Still j y m → (c : Bool) → i == j ≡ c → Still j y m'
      still j y t h true c =
          let same : i ≡ j = eqb-true i j c in
          inr (ready.flag, subst (MayBeWritten p v b.func) same (may_be_written (subst (λ (q : ℕ). v.tracked q ≡ true) (sym same) t)))
      still j y t (inl e) false c = inl (kept_at j 0 (λ same. not_equal i j same c) ∙ e)
      still j y t (inr e) false c = inr e

      cell_kept : (at : Cell) (y : Value) → IsCurrentAt p v m b f n at y → IsCurrentAt p v m' b f n at y
      cell_kept (cell.Device d) y h = h
      cell_kept (cell.At (root.Static j) path) y h = (h.0, λ t. let w = h.1 t in (w.0, still j y t w.1 (i == j) refl))
      cell_kept (cell.At (root.Auto number id r) path) y h = h

      mark_kept : (action : Action) (mark : Mark) → IsCurrent p v m b f n action mark → IsCurrent p v m' b f n action mark
      mark_kept (Read at manner) mark h = (h.0, h.1, (λ y e. cell_kept at y (h.2 y e)), h.3)
      mark_kept (Write at is_event w) mark h = h
      mark_kept (Choose c) mark h = h
      mark_kept (Call callee args) mark h = h
      mark_kept (Flag on) mark h = h
      mark_kept Save mark h = h

      marks_kept : AreCurrent p v m b f n → AreCurrent p v m' b f n
      marks_kept h front back mark split = let w = h front back mark split in (w.0, w.1, mark_kept w.0 mark w.2)

      pub ready_kept : IsReady p v m' true b f n o
      ready_kept = record {
        flag = ready.flag;
        cells = λ j y t e. cell_by j y t (written_at j 0 y e);
        sames = λ r j y h e. same_by r j y h e (i == j) refl;
        marks = λ e. marks_kept (ready.marks e);
      }

    memory_kept : (role : Role) → IsBelow role → (b : Active) (rest : List Active) → (h : ActivationFits p v role m b rest) → (v.tracked i ≡ true → MayBeWritten p v b.func i) → MemoryFits p v role m' b h.func h.point h.result
    memory_kept Running below b rest h u = absurd below
    memory_kept Interrupted below b rest h u = ready_kept b h.func h.point h.result h.function h.counts h.reached h.memory u
    memory_kept (Waiting g) below b rest h u = h.memory

    pub fits_kept : (role : Role) → IsBelow role → (b : Active) (rest : List Active) → ActivationFits p v role m b rest → (v.tracked i ≡ true → MayBeWritten p v b.func i) → ActivationFits p v role m' b rest
    fits_kept role below b rest h u = record {
      func = h.func;
      function = h.function;
      runs = h.runs;
      point = h.point;
      result = h.result;
      counts = h.counts;
      reached = h.reached;
      registers = h.registers;
      others = h.others;
      memory = memory_kept role below b rest h u;
    }

    -- of all that a handler of this level has interrupted
    all_kept : (l : ℕ) → (v.tracked i ≡ true → v.written_by i l) → (role : Role) → IsBelow role → (stack : List Active) → StackFits p v role m stack → MayEnter l stack → StackFits p v role m' stack
    all_kept l writes role below [] h e = tt
    all_kept l writes role below (b ∷ rest) h e = (
      fits_kept role below b rest h.0 (λ t. may_be_written_there role m b rest i l h.0 (writes t) e),
      all_kept l writes (under b) (under_below b.handler b.func) rest h.1 (enters_below l b rest e),
    )

    -- of all below the running one: first those that wait for it, and then those that its handler has interrupted
    below_by : (a : Active) (below : List Active) (c : Bool) → a.handler ≡ c → (c ≡ true → (level_of p a.func ≡ 0) ⊎ (running_level p below < level_of p a.func)) →
        ((l : ℕ) → (if c then Some (level_of p a.func) else innermost p below) ≡ Some l → v.tracked i ≡ true → v.written_by i l) → StackFits p v (if c then Interrupted else Waiting a.func) m below →
        StackFits p v (if c then Interrupted else Waiting a.func) m' below
    below_by a below true e enters writes h = all_kept (level_of p a.func) (writes (level_of p a.func) refl) Interrupted tt below h (enters refl)
    below_by a [] false e enters writes h = tt
    below_by a (b ∷ rest) false e enters writes h = (
      fits_waiting h.0,
      below_by b rest b.handler refl h.0.runs.enters writes h.1,
    )
      where
        fits_waiting : ActivationFits p v (Waiting a.func) m b rest → ActivationFits p v (Waiting a.func) m' b rest
        fits_waiting w = record {
          func = w.func;
          function = w.function;
          runs = w.runs;
          point = w.point;
          result = w.result;
          counts = w.counts;
          reached = w.reached;
          registers = w.registers;
          others = w.others;
          memory = w.memory;
        }

    pub below_kept : (role : Role) (a : Active) (below : List Active) → ActivationFits p v role m a below → ((l : ℕ) → innermost p (a ∷ below) ≡ Some l → v.tracked i ≡ true → v.written_by i l) → StackFits p v (under a) m below → StackFits p v (under a) m' below
    below_kept role a below h writes k = below_by a below a.handler refl h.runs.enters writes k

  -- ---- the static objects are as before

  module _ (m m' : Memory) (statics : m'.statics ≡ m.statics) where
    abbrev at_same : (j q : ℕ) → scalar_in m'.statics j q ≡ scalar_in m.statics j q
    at_same j q = ap (λ (l : List (List Value)). scalar_in l j q) statics

    module _ (b : Active) (f : Func) (n : ℕ) where
      cell_same : (at : Cell) (y : Value) → IsCurrentAt p v m b f n at y → IsCurrentAt p v m' b f n at y
      cell_same (cell.Device d) y h = h
      cell_same (cell.At (root.Static j) path) y h = (h.0, λ t. let w = h.1 t in (w.0, still w.1))
        where
          still : (scalar_in m.statics j 0 ≡ Some y) ⊎ (v.may_be n true × MayBeWritten p v b.func j) → (scalar_in m'.statics j 0 ≡ Some y) ⊎ (v.may_be n true × MayBeWritten p v b.func j)
          still (inl e) = inl (at_same j 0 ∙ e)
          still (inr e) = inr e
      cell_same (cell.At (root.Auto number id r) path) y h = h

      pub mark_same : (action : Action) (mark : Mark) → IsCurrent p v m b f n action mark → IsCurrent p v m' b f n action mark
      mark_same (Read at manner) mark h = (h.0, h.1, (λ y e. cell_same at y (h.2 y e)), h.3)
      mark_same (Write at is_event w) mark h = h
      mark_same (Choose c) mark h = h
      mark_same (Call callee args) mark h = h
      mark_same (Flag on) mark h = h
      mark_same Save mark h = h

      pub ready_same : (flag flag' : Bool) (o : Option (ℕ × Value)) → v.may_be n flag' → IsReady p v m flag b f n o → IsReady p v m' flag' b f n o
      ready_same flag flag' o may h = record {
        flag = may;
        cells = λ j y t e. h.cells j y t (sym (at_same j 0) ∙ e);
        sames = λ r j y s e. at_same j 0 ∙ h.sames r j y s e;
        marks = λ e front back mark split. let w = h.marks e front back mark split in (w.0, w.1, mark_same w.0 mark w.2);
      }

    memory_same : (role : Role) → IsBelow role → (b : Active) (rest : List Active) → (h : ActivationFits p v role m b rest) → MemoryFits p v role m' b h.func h.point h.result
    memory_same Running below b rest h = absurd below
    memory_same Interrupted below b rest h = ready_same b h.func h.point true true h.result h.memory.flag h.memory
    memory_same (Waiting g) below b rest h = h.memory

    pub all_same : (role : Role) → IsBelow role → (stack : List Active) → StackFits p v role m stack → StackFits p v role m' stack
    all_same role below [] h = tt
    all_same role below (b ∷ rest) h = (
      record {
        func = h.0.func;
        function = h.0.function;
        runs = h.0.runs;
        point = h.0.point;
        result = h.0.result;
        counts = h.0.counts;
        reached = h.0.reached;
        registers = h.0.registers;
        others = h.0.others;
        memory = memory_same role below b rest h.0;
      },
      all_same (under b) (under_below b.handler b.func) rest h.1,
    )
