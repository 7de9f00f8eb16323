-- Where a program whose `do`s have flags stands while its source stands at a statement.
use Rattle.std.proofs.Common.{◌≡◌, ◌≤◌, ◌<◌, ℕ, ◌+◌, ◌==◌, Bool, true, false, List, [], ◌∷◌, Option, Some, option_map, option_and_then, slice_get, slice_set, refl, ap, sym, ◌∙◌, subst}
use Rattle.std.specs.Prelude.{pos}
use Rattle.std.proofs.lemmas.Bool.{eq-eqb, eqb-true}
use Rattle.cc_states.specs.CcCells.Cells.{scalar_in, with_scalar}
use Rattle.cc_states.specs.CcControl.declared.phase.Phase.{Phase}
use Rattle.cc_states.specs.CcControl.declared.phase.Phase.TheVariants.{First, Test}
use Rattle.cc_states.specs.CcControl.Control.{behind_body}
use Rattle.cc_states.specs.CcEval.declared.mark.Mark.{Mark}
use Rattle.cc_program.specs.declared.expr.Expr.{Expr}
use Rattle.cc_program.specs.declared.func.Func.{Func}
use Rattle.cc_program.specs.declared.program.Program.{Program}
use Rattle.cc_program.specs.declared.stmt.Case.{Case}
use Rattle.cc_program.specs.declared.stmt.Stmt.{Stmt, out-Stmt}
use Rattle.cc_program.specs.declared.stmt.Stmt.TheOpen as is
use Rattle.cc_program.specs.declared.value.Value.{Value}
use Rattle.cc_program.specs.declared.value.Value.TheVariants.{Int}
use Rattle.cc_states.specs.CcSteps.Access.{content}
use Rattle.cc_states.specs.CcSteps.declared.content.Content.TheVariants.{Holds}
use Rattle.cc_meaning_simulations.specs.Continuations.{Remainder, remainder}
use Rattle.cc_meaning_simulations.specs.LocalSteps.{LocalState, Locals, local_state}
use Rattle.cc_meaning_simulations.specs.NamedLocals.{names_below}
use Rattle.cc_states.proofs.CcSteps.CellsApart.{elsewhere, written_here}
use Rattle.cc_lower_follows.proofs.Relation.{control_of, loop_remainder}
use Rattle.cc_lower_continues.specs.Continues.{flagged_body, flagged_do, flags_of, leave_unless}
use Rattle.cc_lower_continues_follows.proofs.Copies.{Copies, Mirrors, first, flag_hidden, hidden, is_flag}

abbrev pub holds_at : Locals → ℕ → Value → Type 0
holds_at l r v = content (scalar_in l r 0) ≡ Holds v

module _ (low top : ℕ) where
  -- the levels around: the same ones with copied parts, and for a `do` with a flag its loop and its block
  pub data AreAround : List Remainder → List Remainder → Type 0 where
    Outside : AreAround [] []
    Inside : (s t : Stmt) (rest rest' : List Stmt) (phase : Phase) (x y : is.Stmt-F Stmt Case) (around around' : List Remainder) → out-Stmt s ≡ x → out-Stmt t ≡ y → Mirrors low top x y → phase ≡ behind_body x →
        Copies low top rest rest' → AreAround around around' → AreAround (remainder (s ∷ rest) phase ∷ around) (remainder (t ∷ rest') phase ∷ around')
    InFlagged : (s : Stmt) (rest rest' : List Stmt) (u : Stmt) (a : List Stmt) (e : Expr) (k : ℕ) (a' : List Stmt) (around around' : List Remainder) → names_below low e ≡ true → out-Stmt s ≡ is.DoWhile (u ∷ a) e → low ≤ k → k < top → Copies low top (u ∷ a) a' →
        Copies low top rest rest' → AreAround around around' → AreAround (remainder (s ∷ rest) Test ∷ around) (loop_remainder (flagged_body k e a') [] ∷ remainder (flagged_do k e a' ∷ rest') First ∷ around')

  -- in each of those loops the first turn is over
  abbrev pub AreZero : Locals → (around around' : List Remainder) → AreAround around around' → Type 0
  AreZero l _ _ Outside = Unit {0}
  AreZero l _ _ (Inside s t rest rest' phase x y around around' e h m b c w) = AreZero l around around' w
  AreZero l _ _ (InFlagged s rest rest' u a e k a' around around' ne h i j c d w) = holds_at l k (Int (pos 0)) × AreZero l around around' w

module _ (P : Program) where
  -- each flag is there
  abbrev pub FlagsExist : ℕ → Locals → Type 0
  FlagsExist f l = (r : ℕ) → is_flag P f r ≡ true → (x : Option Value) × (xs : List (Option Value)) × (slice_get l r ≡ Some (x ∷ xs))

  pub set_now : (f : ℕ) (l : Locals) → FlagsExist f l → (r : ℕ) (v : Value) → is_flag P f r ≡ true → holds_at (with_scalar l r 0 (Some v)) r v
  set_now f l h r v i =
      let x = h r i in
      ap (λ (o : Option (List (Option Value))). content (option_and_then (λ scalars. slice_get scalars 0) o)) (written_here l r 0 (Some v) ∙ ap (option_map (λ (s : List (Option Value)). slice_set s 0 (Some v))) x.2)

  pub has_set : (f : ℕ) (l : Locals) → FlagsExist f l → (k : ℕ) (v : Value) → FlagsExist f (with_scalar l k 0 (Some v))
  has_set f l h k v r i = by_eq (k == r) refl
    where
      by_eq : (b : Bool) → (k == r) ≡ b → (x : Option Value) × (xs : List (Option Value)) × (slice_get (with_scalar l k 0 (Some v)) r ≡ Some (x ∷ xs))
      by_eq true e =
          let same : k ≡ r = eqb-true k r e in
          let x = h r i in
          (Some v, x.1, ap (λ (n : ℕ). slice_get (with_scalar l n 0 (Some v)) r) same ∙ written_here l r 0 (Some v) ∙ ap (option_map (λ (s : List (Option Value)). slice_set s 0 (Some v))) x.2)
      by_eq false e =
          let x = h r i in
          (x.0, x.1, elsewhere l k r 0 (Some v) (λ z. (let y : false ≡ true = sym e ∙ eq-eqb k r z in absurd (cc))) ∙ x.2)

  differ_at : (f local r : ℕ) → hidden P f local ≡ false → is_flag P f r ≡ true → local ≡ r → ⊥
  differ_at f local r h i e = (let y : false ≡ true = sym h ∙ ap (hidden P f) e ∙ flag_hidden P f r i in absurd (cc))

  pub has_elsewhere : (f : ℕ) (l : Locals) → FlagsExist f l → (local i : ℕ) (v : Value) → hidden P f local ≡ false → FlagsExist f (with_scalar l local i (Some v))
  has_elsewhere f l h local i v k r j = let x = h r j in (x.0, x.1, elsewhere l local r i (Some v) (differ_at f local r k j) ∙ x.2)

  module _ (f : ℕ) (low top : ℕ) (within : (k : ℕ) → low ≤ k → k < top → is_flag P f k ≡ true) where
    pub zeros_by : (l m : Locals) → ((r : ℕ) → is_flag P f r ≡ true → holds_at l r (Int (pos 0)) → holds_at m r (Int (pos 0))) → (around around' : List Remainder) (w : AreAround low top around around') → AreZero low top l around around' w →
        AreZero low top m around around' w
    zeros_by l m h _ _ Outside z = tt
    zeros_by l m h _ _ (Inside s t rest rest' phase x y around around' e i n b c w) z = zeros_by l m h around around' w z
    zeros_by l m h _ _ (InFlagged s rest rest' u a e k a' around around' ne i from to c d w) z = (h k (within k from to) z.0, zeros_by l m h around around' w z.1)

    -- a flag that is set to 1 and back
    pub zeros_back : (l : Locals) → FlagsExist f l → (k : ℕ) → is_flag P f k ≡ true → (r : ℕ) → is_flag P f r ≡ true → holds_at l r (Int (pos 0)) → holds_at (with_scalar (with_scalar l k 0 (Some (Int (pos 1)))) k 0 (Some (Int (pos 0)))) r (Int (pos 0))
    zeros_back l h k i r j z = by_eq (k == r) refl
      where
        by_eq : (b : Bool) → (k == r) ≡ b → holds_at (with_scalar (with_scalar l k 0 (Some (Int (pos 1)))) k 0 (Some (Int (pos 0)))) r (Int (pos 0))
        by_eq true e = subst (λ (n : ℕ). holds_at (with_scalar (with_scalar l k 0 (Some (Int (pos 1)))) k 0 (Some (Int (pos 0)))) n (Int (pos 0))) (eqb-true k r e) (set_now f (with_scalar l k 0 (Some (Int (pos 1)))) (has_set f l h k (Int (pos 1))) k (Int (pos 0)) i)
        by_eq false e =
            let apart : k ≡ r → ⊥ = λ x. (let y : false ≡ true = sym e ∙ eq-eqb k r x in absurd (cc)) in
            ap (λ (o : Option (List (Option Value))). content (option_and_then (λ scalars. slice_get scalars 0) o))
            (elsewhere (with_scalar l k 0 (Some (Int (pos 1)))) k r 0 (Some (Int (pos 0))) apart ∙ elsewhere l k r 0 (Some (Int (pos 1))) apart) ∙ z

    pub zeros_elsewhere : (l : Locals) (local i : ℕ) (v : Value) → hidden P f local ≡ false → (r : ℕ) → is_flag P f r ≡ true → holds_at l r (Int (pos 0)) → holds_at (with_scalar l local i (Some v)) r (Int (pos 0))
    zeros_elsewhere l local i v h r j z =
        ap (λ (o : Option (List (Option Value))). content (option_and_then (λ scalars. slice_get scalars 0) o)) (elsewhere l local r i (Some v) (differ_at f local r h j)) ∙ z

  -- ---- related positions

  -- a position in a function whose flags are there
  pub record IsHere (f : ℕ) (around around' : List Remainder) (l : Locals) : Type 0 where
    pub body : Func
    pub function : slice_get P.funcs f ≡ Some body
    pub levels : AreAround (first body) (first body + flags_of body.body) around around'
    pub zero_flags : AreZero (first body) (first body + flags_of body.body) l around around' levels
    pub has : FlagsExist f l

  pub data Match (q p : LocalState) : Type 0 where
    AtStatement : (n f : ℕ) (s t : Stmt) (rest rest' : List Stmt) (phase : Phase) (x y : is.Stmt-F Stmt Case) (around around' : List Remainder) (ms : List Mark) (l m : Locals) (h : IsHere f around around' l) → out-Stmt s ≡ x → out-Stmt t ≡ y →
        Mirrors (first h.body) (first h.body + flags_of h.body.body) x y → Copies (first h.body) (first h.body + flags_of h.body.body) rest rest' →
        p ≡ local_state (control_of n f (remainder (s ∷ rest) phase) around ms) m → q ≡ local_state (control_of n f (remainder (t ∷ rest') phase) around' ms) l → Match q p
    AtFunctionEnd : (n f : ℕ) (ms : List Mark) (l m : Locals) → p ≡ local_state (control_of n f (remainder [] First) [] ms) m → q ≡ local_state (control_of n f (remainder [] First) [] ms) l → Match q p
    -- at the test of a `do` with a flag
    AtTest : (n f : ℕ) (s : Stmt) (rest rest' : List Stmt) (u : Stmt) (a : List Stmt) (e : Expr) (k : ℕ) (a' : List Stmt) (around around' : List Remainder) (ms : List Mark) (l m : Locals) (h : IsHere f around around' l) → names_below (first h.body) e ≡ true → out-Stmt s ≡ is.DoWhile (u ∷ a) e →
        first h.body ≤ k → k < first h.body + flags_of h.body.body → Copies (first h.body) (first h.body + flags_of h.body.body) (u ∷ a) a' → Copies (first h.body) (first h.body + flags_of h.body.body) rest rest' → holds_at l k (Int (pos 0)) →
        p ≡ local_state (control_of n f (remainder (s ∷ rest) Test) around ms) m →
        q ≡ local_state (control_of n f (remainder (leave_unless e ∷ []) First) (remainder (flagged_body k e a') First ∷ loop_remainder (flagged_body k e a') [] ∷ remainder (flagged_do k e a' ∷ rest') First ∷ around') ms) l → Match q p
