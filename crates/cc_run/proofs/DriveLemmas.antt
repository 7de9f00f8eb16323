-- Turns that are made one after another: what is left of the run, from the present state on, gives the whole.
use Rattle.std.proofs.Common.{◌≡◌, ◌∙◌, ◌<◌, ◌≤◌, ◌+◌, ◌-◌, ℕ, suc, Bool, true, false, List, [], ◌∷◌, refl, ap, sym, subst, Option, Some, None, arith}
use Rattle.std.proofs.lemmas.Bool.Decides.{nat_tests}
use Rattle.std.specs.Prelude.{◌&&◌, nat_eq, nat_lt, if◌then◌else◌}
use Rattle.cc_program.specs.declared.program.Program.{Program}
use Rattle.cc_states.specs.CcSteps.State.{State}
use Rattle.cc_states.specs.CcSteps.declared.event.Took.TheVariants.{Entered, Stepped, Ended}
use Rattle.cc_states.specs.CcSteps.Turn.{is_going, entering, enters, turn_by, turn, took}
use Rattle.cc_states.specs.CcSteps.Runs.{run}
use Rattle.cc_run.specs.Driven.{turns_ascend, arrival_at, arrivals_for, first_of, left_behind}

-- a run that has ended stays as it is
ended_turn : (p : Program) (s : State) (a : Option ℕ) → is_going s.end ≡ false → turn p s a ≡ s
ended_turn p s None h = rw h refl
ended_turn p s (Some a) h = let none : entering p s (Some a) ≡ None = rw h refl in ap (turn_by p s) none ∙ rw h refl

pub ended_run : (p : Program) (s : State) (rest : List (Option ℕ)) → is_going s.end ≡ false → run p s rest ≡ s
ended_run p s [] h = refl
ended_run p s (a ∷ rest) h = ap (λ t. run p t rest) (ended_turn p s a h) ∙ ended_run p s rest h

-- tests
equal_of : (m n : ℕ) → nat_eq m n ≡ true → m ≡ n
equal_of m n h = grind (arith, nat_tests)

below_of : (m n : ℕ) → nat_lt m n ≡ true → m < n
below_of m n h = grind (arith, nat_tests)

is_below : (m n : ℕ) → m < n → nat_lt m n ≡ true
is_below m n h = grind (arith, nat_tests)

not_equal : (m n : ℕ) → m < n → nat_eq m n ≡ false
not_equal m n h = grind (arith, nat_tests)

not_equal_back : (m n : ℕ) → n < m → nat_eq m n ≡ false
not_equal_back m n h = grind (arith, nat_tests)

apart : (m n : ℕ) → nat_eq m n ≡ false → m ≡ n → ⊥
apart m n h e = grind (arith, nat_tests)

both : (a b : Bool) → a && b ≡ true → (a ≡ true) × (b ≡ true)
both true b h = (refl, h)
both false b h = cc

-- nobody arrives at a turn before those of all arrivals
none_yet : (arrivals : List (ℕ × ℕ)) (last t : ℕ) → turns_ascend last arrivals ≡ true → t ≤ last → arrival_at arrivals t ≡ None
none_yet [] last t h l = refl
none_yet (a ∷ arrivals) last t h l =
    let k = both (nat_lt last a.0) (turns_ascend a.0 arrivals) h in
    let m = below_of last a.0 k.0 in
    rw (not_equal_back a.0 t (omega (arith, m, l))) (none_yet arrivals a.0 t k.1 (omega (arith, m, l)))

-- those that are left come behind so many turns, and are all that come then
pub record Ahead (arrivals left : List (ℕ × ℕ)) (made : ℕ) : Type 0 where
  pub ascend : turns_ascend made left ≡ true
  pub same : (t : ℕ) → made < t → arrival_at arrivals t ≡ arrival_at left t

pub ahead_first : (arrivals left : List (ℕ × ℕ)) → turns_ascend 0 arrivals ≡ true → left ≡ arrivals → Ahead arrivals left 0
ahead_first arrivals left h e = record { ascend = ap (turns_ascend 0) e ∙ h; same = λ t l. ap (λ x. arrival_at x t) (sym e) }

abbrev Next : List (ℕ × ℕ) → List (ℕ × ℕ) → ℕ → Type 0
Next arrivals left made = Ahead arrivals (left_behind left (made + 1)) (made + 1) × (arrival_at arrivals (made + 1) ≡ first_of left (made + 1))

next_by : (arrivals : List (ℕ × ℕ)) (a : ℕ × ℕ) (left : List (ℕ × ℕ)) (made : ℕ) (b : Bool) → nat_eq a.0 (made + 1) ≡ b → Ahead arrivals (a ∷ left) made → Next arrivals (a ∷ left) made
next_by arrivals a left made true e c =
    let k = both (nat_lt made a.0) (turns_ascend a.0 left) c.ascend in
    let here = equal_of a.0 (made + 1) e in (
      rw e (record {
        ascend = ap (λ n. turns_ascend n left) (sym here) ∙ k.1;
        same = λ t l. c.same t (omega (arith, l)) ∙ rw (not_equal a.0 t (omega (arith, l, here))) refl;
      }),
      c.same (made + 1) (omega arith) ∙ rw e refl,
    )
next_by arrivals a left made false e c =
    let k = both (nat_lt made a.0) (turns_ascend a.0 left) c.ascend in
    let m = below_of made a.0 k.0 in
    let other = apart a.0 (made + 1) e in
    let later : made + 1 < a.0 = omega (arith, m, other) in (
      rw e (record {
        ascend = rw (is_below (made + 1) a.0 later) k.1;
        same = λ t l. c.same t (omega (arith, l));
      }),
      c.same (made + 1) (omega arith) ∙ rw e (none_yet left a.0 (made + 1) k.1 (omega (arith, later))),
    )

next : (arrivals left : List (ℕ × ℕ)) (made : ℕ) → Ahead arrivals left made → Next arrivals left made
next arrivals [] made c = (record { ascend = refl; same = λ t l. c.same t (omega (arith, l)) }, c.same (made + 1) (omega arith))
next arrivals (a ∷ left) made c = next_by arrivals a left made (nat_eq a.0 (made + 1)) refl c

pub ahead_next : (arrivals left behind : List (ℕ × ℕ)) (made : ℕ) → Ahead arrivals left made → behind ≡ left_behind left (made + 1) → Ahead arrivals behind (made + 1)
ahead_next arrivals left behind made c e = subst (λ l. Ahead arrivals l (made + 1)) (sym e) (next arrivals left made c).0

pub arrives : (arrivals left : List (ℕ × ℕ)) (made : ℕ) (arrival : Option ℕ) → Ahead arrivals left made → arrival ≡ first_of left (made + 1) → arrival ≡ arrival_at arrivals (made + 1)
arrives arrivals left made arrival c e = e ∙ sym (next arrivals left made c).1

-- what is left of so many turns gives the whole
abbrev pub GivesWhole : Program → State → State → List (ℕ × ℕ) → ℕ → ℕ → Type 0
GivesWhole p whole s arrivals made turns = whole ≡ run p s (arrivals_for arrivals (made + 1) (turns - made))

counts_down : (made turns : ℕ) → made < turns → turns - made ≡ suc (turns - (made + 1))
counts_down made turns h = omega arith

pub one_made : (p : Program) (whole s t : State) (arrivals : List (ℕ × ℕ)) (made turns : ℕ) (arrival : Option ℕ) → made < turns → GivesWhole p whole s arrivals made turns
    → arrival ≡ arrival_at arrivals (made + 1) → t ≡ turn p s arrival → GivesWhole p whole t arrivals (made + 1) turns
one_made p whole s t arrivals made turns arrival h w a e =
    w ∙ ap (λ n. run p s (arrivals_for arrivals (made + 1) n)) (counts_down made turns h)
    ∙ ap (λ b. run p (turn p s b) (arrivals_for arrivals (made + 1 + 1) (turns - (made + 1)))) (sym a)
    ∙ ap (λ u. run p u (arrivals_for arrivals (made + 1 + 1) (turns - (made + 1)))) (sym e)

pub all_made : (p : Program) (whole s : State) (arrivals : List (ℕ × ℕ)) (made turns : ℕ) → turns ≤ made → GivesWhole p whole s arrivals made turns → s ≡ whole
all_made p whole s arrivals made turns h w =
    let none : turns - made ≡ 0 = omega arith in
    sym (w ∙ ap (λ n. run p s (arrivals_for arrivals (made + 1) n)) none)

pub ended_made : (p : Program) (whole s t : State) (arrivals : List (ℕ × ℕ)) (made turns : ℕ) → is_going s.end ≡ false → t ≡ s → GivesWhole p whole s arrivals made turns → t ≡ whole
ended_made p whole s t arrivals made turns h e w = e ∙ sym (w ∙ ended_run p s (arrivals_for arrivals (made + 1) (turns - made)) h)

ended_by : (enters going : Bool) → (if enters then Entered else (if going then Stepped else Ended)) ≡ Ended → going ≡ false
ended_by true going h = cc
ended_by false true h = cc
ended_by false false h = refl

pub is_over : (p : Program) (s : State) (arrival : Option ℕ) → took p s arrival ≡ Ended → is_going s.end ≡ false
is_over p s arrival h = ended_by (enters p s arrival) (is_going s.end) h

pub ruleset of_turns = (ahead_first, ahead_next, all_made)
