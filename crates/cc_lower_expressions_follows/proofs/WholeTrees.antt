-- What the next steps of two trees say of how the one does what the other does: where one of them is quiet, it may be done first.
use Rattle.std.proofs.Common.{◌≡◌, ◌∙◌, ℕ, Bool, true, false, List, [], Option, Some, None, refl, ap, sym, subst}
use Rattle.cc_program.specs.declared.func.Func.{Func}
use Rattle.cc_program.specs.declared.value.Value.{Value}
use Rattle.cc_states.specs.CcEval.declared.action.Action.{Action}
use Rattle.cc_states.specs.CcEval.declared.action.Action.TheVariants.{Read, Write, Choose}
use Rattle.cc_states.specs.CcEval.declared.action.Manner.{Manner}
use Rattle.cc_states.specs.CcEval.declared.mark.Mark.{Mark}
use Rattle.cc_states.specs.CcEval.declared.mark.Mark.TheVariants.{Gave, Chose}
use Rattle.cc_states.specs.CcEval.Progress.{Progress, Known, Waits, Traps, Get, known}
use Rattle.cc_states.specs.Answers.{IsMarkOf}
use Rattle.cc_states.specs.CcSyntax.Registers.{is_register}
use Rattle.cc_lower_expressions_follows.specs.Trees.{Regs, with_reg, Setting, after, CanGive, register_cell, IsQuiet, Reads, Writes, Chooses, Fails, Stuck, Refused, is_own, IsShared}
use Rattle.cc_lower_expressions_follows.specs.WholeTrees.{Does, Finish, OfP, OfQ, OfBoth, NoMore}

abbrev waiting : {A : Type 0} → Action → Progress A
waiting action = Waits action

pub same_waits : {A : Type 0} (x : Progress A) (a b : Action) → x ≡ Waits a → x ≡ Waits b → a ≡ b
same_waits {A} x a b e f = inside (sym e ∙ f)
  where
    inside : waiting {A = A} a ≡ waiting b → a ≡ b
    inside g = cc

pub known_no_wait : {A B : Type 0} (a : A) (g : Get A) (action : Action) → g ≡ known a → g [] ≡ Waits action → B
known_no_wait {A} {B} a g action e f = absurd (differ (sym (ap (λ (g : Get A). g []) e) ∙ f))
  where
    differ : Known a [] ≡ Waits action → ⊥
    differ h = absurd (cc)

pub trap_no_wait : {A B : Type 0} (ms : List Mark) (x : Progress A) (action : Action) → x ≡ Traps ms → x ≡ Waits action → B
trap_no_wait {A} {B} ms x action e f = absurd (differ (sym e ∙ f))
  where
    differ : ◌≡◌ {A = Progress A} (Traps ms) (Waits action) → ⊥
    differ h = absurd (cc)

pub known_no_trap : {A B : Type 0} (a : A) (g : Get A) (ms : List Mark) → g ≡ known a → g [] ≡ Traps ms → B
known_no_trap {A} {B} a g ms e f = absurd (differ (sym (ap (λ (g : Get A). g []) e) ∙ f))
  where
    differ : Known a [] ≡ Traps ms → ⊥
    differ h = absurd (cc)

module _ (w : Setting) where
  -- ---- a quiet step is one step

  reads_writes : {B : Type 0} (i j : ℕ) (manner : Manner) (v : Value) → Read (register_cell w i) manner ≡ Write (register_cell w j) false v → B
  reads_writes i j manner v e = absurd (cc)

  reads_chooses : {B : Type 0} (i : ℕ) (manner : Manner) (b : Option Bool) → Read (register_cell w i) manner ≡ Choose b → B
  reads_chooses i manner b e = absurd (cc)

  writes_chooses : {B : Type 0} (i : ℕ) (v : Value) (b : Option Bool) → Write (register_cell w i) false v ≡ Choose b → B
  writes_chooses i v b e = absurd (cc)

  read_same : (i j : ℕ) (m n : Manner) → Read (register_cell w i) m ≡ Read (register_cell w j) n → (i ≡ j) × (m ≡ n)
  read_same i j m n e = (cc, cc)

  write_same : (i j : ℕ) (u v : Value) → Write (register_cell w i) false u ≡ Write (register_cell w j) false v → (i ≡ j) × (u ≡ v)
  write_same i j u v e = (cc, cc)

  choose_same : (b c : Option Bool) → Choose b ≡ Choose c → b ≡ c
  choose_same b c e = cc

  module _ (f : Func) (action : Action) (r : Regs) where
    pub quiet_same : (m n : Mark) (t u : Regs) → IsQuiet w f action r m t → IsQuiet w f action r n u → (m ≡ n) × (t ≡ u)
    quiet_same m n t u (Reads i manner e f v c k x) (Reads j other e' f' v' c' k' x') =
        let s = read_same i j manner other (sym e ∙ e') in
        (k ∙ ap (λ (i : ℕ). Gave (r i)) s.0 ∙ sym k', x ∙ sym x')
    quiet_same m n t u (Reads i manner e f v c k x) (Writes j y e' f' k' x') = reads_writes i j manner y (sym e ∙ e')
    quiet_same m n t u (Reads i manner e f v c k x) (Chooses b e' k' x') = reads_chooses i manner b (sym e ∙ e')
    quiet_same m n t u (Writes i y e f k x) (Reads j other e' f' v' c' k' x') = reads_writes j i other y (sym e' ∙ e)
    quiet_same m n t u (Writes i y e f k x) (Writes j z e' f' k' x') =
        let s = write_same i j y z (sym e ∙ e') in
        (k ∙ sym k', x ∙ ap (λ (i : ℕ). with_reg r i y) s.0 ∙ ap (with_reg r j) s.1 ∙ sym x')
    quiet_same m n t u (Writes i y e f k x) (Chooses b e' k' x') = writes_chooses i y b (sym e ∙ e')
    quiet_same m n t u (Chooses b e k x) (Reads j other e' f' v' c' k' x') = reads_chooses j other b (sym e' ∙ e)
    quiet_same m n t u (Chooses b e k x) (Writes j y e' f' k' x') = writes_chooses j y b (sym e' ∙ e)
    quiet_same m n t u (Chooses b e k x) (Chooses c e' k' x') = (k ∙ ap (λ (b : Option Bool). Chose b) (choose_same b c (sym e ∙ e')) ∙ sym k', x ∙ sym x')

    no_value : {B : Type 0} (b : Bool) (v : Option Value) → b ≡ false → v ≡ None → CanGive b v → B
    no_value true v e h c = absurd (cc)
    no_value false None e h c = absurd c
    no_value false (Some v) e h c = absurd (cc)

    -- and does not trap
    pub quiet_goes_on : {B : Type 0} (m : Mark) (t : Regs) → IsQuiet w f action r m t → Fails w f action r → B
    quiet_goes_on m t (Reads i manner e g v c k x) z =
        let s = read_same i z.register manner z.manner (sym e ∙ z.reads) in
        no_value manner.may_be_bad (r i) (ap (λ (n : Manner). n.may_be_bad) s.1 ∙ z.traps) (ap r s.0 ∙ z.unwritten) c
    quiet_goes_on m t (Writes i y e g k x) z = reads_writes z.register i z.manner y (sym z.reads ∙ e)
    quiet_goes_on m t (Chooses b e k x) z = reads_chooses z.register z.manner b (sym z.reads ∙ e)

  -- ---- what is shared is no such step

  -- which registers a function has: those of p, or locals behind them
  abbrev pub HasOwn : Func → Type 0
  HasOwn f = (i : ℕ) → is_register f i ≡ true → is_own w.from w.base i ≡ true

  not_own : {B : Type 0} (i : ℕ) → is_own w.from w.base i ≡ true → (w.number ≡ w.number → is_own w.from w.base i ≡ false) → B
  not_own i h k = let e = k refl in absurd (cc)

  module _ (f : Func) (own : HasOwn f) where
    pub shared_not_quiet : {B : Type 0} (action : Action) (r t : Regs) (m : Mark) → IsShared w action → IsQuiet w f action r m t → B
    shared_not_quiet action r t m s (Reads i manner e g v c k x) = not_own i (own i g) (subst (IsShared w) e s)
    shared_not_quiet action r t m s (Writes i y e g k x) = not_own i (own i g) (subst (IsShared w) e s)
    shared_not_quiet action r t m s (Chooses b e k x) = absurd (subst (IsShared w) e s)

    pub shared_goes_on : {B : Type 0} (action : Action) (r : Regs) → IsShared w action → Fails w f action r → B
    shared_goes_on action r s z = not_own z.register (own z.register z.is_one) (subst (IsShared w) z.reads s)

  -- ---- where a step is quiet, it may come first

  module _ {A B : Type 0} (Q : A → B → Regs → Regs → Type 0) (own_p : HasOwn w.from) (own_q : HasOwn w.to) where
    pub first_of_p : {g : Get A} {r : Regs} {h : Get B} {s : Regs} → Does w Q g r h s → (action : Action) (m : Mark) (r' : Regs) → g [] ≡ Waits action → IsQuiet w w.from action r m r' → IsMarkOf w.p w.openings action m → Does w Q (after g m) r' h s
    first_of_p {g} (Finish a b eg eh x) action m r' e q fit = known_no_wait a g action eg e
    first_of_p {g} {r} {h} {s} (OfP t other n e' q' d) action m r' e q fit =
        let same : other ≡ action = same_waits (g []) other action e' e in
        let k = quiet_same w.from action r n m t r' (subst (λ (a : Action). IsQuiet w w.from a r n t) same q') q in
        subst (λ (x : Regs). Does w Q (after g m) x h s) k.1
        (subst (λ (x : Mark). Does w Q (after g x) t h s) k.0
        (d (subst (λ (x : Mark). IsMarkOf w.p w.openings other x) (sym k.0) (subst (λ (a : Action). IsMarkOf w.p w.openings a m) (sym same) fit))))
    first_of_p (OfQ s' other n e' q' d) action m r' e q fit = OfQ s' other n e' q' (first_of_p d action m r' e q fit)
    first_of_p {g} {r} (OfBoth other shared eg eh d) action m r' e q fit =
        shared_not_quiet w.from own_p action r r' m (subst (IsShared w) (same_waits (g []) other action eg e) shared) q
    first_of_p {g} (NoMore (Stuck ms x) y) action m r' e q fit = trap_no_wait ms (g []) action x e
    first_of_p {g} {r} (NoMore (Refused other e' z) y) action m r' e q fit =
        quiet_goes_on w.from action r m r' q (subst (λ (a : Action). Fails w w.from a r) (same_waits (g []) other action e' e) z)

    pub first_of_q : {g : Get A} {r : Regs} {h : Get B} {s : Regs} → Does w Q g r h s → (action : Action) (m : Mark) (s' : Regs) → h [] ≡ Waits action → IsQuiet w w.to action s m s' → Does w Q g r (after h m) s'
    first_of_q {h = h} (Finish a b eg eh x) action m s' e q = known_no_wait b h action eh e
    first_of_q (OfP t other n e' q' d) action m s' e q = OfP t other n e' q' (λ fit. first_of_q (d fit) action m s' e q)
    first_of_q {g} {r} {h} {s} (OfQ t other n e' q' d) action m s' e q =
        let same : other ≡ action = same_waits (h []) other action e' e in
        let k = quiet_same w.to action s n m t s' (subst (λ (a : Action). IsQuiet w w.to a s n t) same q') q in
        subst (λ (x : Regs). Does w Q g r (after h m) x) k.1 (subst (λ (x : Mark). Does w Q g r (after h x) t) k.0 d)
    first_of_q {h = h} {s = s} (OfBoth other shared eg eh d) action m s' e q =
        shared_not_quiet w.to own_q action s s' m (subst (IsShared w) (same_waits (h []) other action eh e) shared) q
    first_of_q {h = h} (NoMore x (Stuck ms y)) action m s' e q = trap_no_wait ms (h []) action y e
    first_of_q {h = h} {s = s} (NoMore x (Refused other e' z)) action m s' e q =
        quiet_goes_on w.to action s m s' q (subst (λ (a : Action). Fails w w.to a s) (same_waits (h []) other action e' e) z)

    -- where both wait for the same shared step, they go on behind it
    pub behind_both : {g : Get A} {r : Regs} {h : Get B} {s : Regs} → Does w Q g r h s → (action : Action) → IsShared w action → g [] ≡ Waits action → h [] ≡ Waits action → (m : Mark) → IsMarkOf w.p w.openings action m → Does w Q (after g m) r (after h m) s
    behind_both {g} (Finish a b eg eh x) action shared e f m fit = known_no_wait a g action eg e
    behind_both {g} {r} (OfP t other n e' q' d) action shared e f m fit =
        shared_not_quiet w.from own_p other r t n (subst (IsShared w) (sym (same_waits (g []) other action e' e)) shared) q'
    behind_both {h = h} {s = s} (OfQ t other n e' q' d) action shared e f m fit =
        shared_not_quiet w.to own_q other s t n (subst (IsShared w) (sym (same_waits (h []) other action e' f)) shared) q'
    behind_both {g} (OfBoth other shared' eg eh d) action shared e f m fit = d m (subst (λ (a : Action). IsMarkOf w.p w.openings a m) (sym (same_waits (g []) other action eg e)) fit)
    behind_both {g} (NoMore (Stuck ms x) y) action shared e f m fit = trap_no_wait ms (g []) action x e
    behind_both {g} {r} (NoMore (Refused other e' z) y) action shared e f m fit =
        shared_goes_on w.from own_p other r (subst (IsShared w) (sym (same_waits (g []) other action e' e)) shared) z
