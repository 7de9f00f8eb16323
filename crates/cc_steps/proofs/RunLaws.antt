-- How one program is shown to do what another does. Both orders hold of a program and itself, and
-- compose. A relation between the states of two programs that each turn keeps gives the orders: the
-- runs are walked turn by turn, and the turns that answer are put one behind another.
use Rattle.std.specs.Prelude.{◌≡◌, ℤ, ℕ, true, List, [], ◌∷◌, ◌++◌, Option, refl}
use Rattle.std.proofs.Common.{sym, ◌∙◌, subst}
use Rattle.cc_program.specs.declared.program.Program.{Program}
use Rattle.cc_steps.specs.State.{State}
use Rattle.cc_steps.specs.Turn.{start, turn, enters}
use Rattle.cc_steps.specs.Runs.{Arrivals, run, Same, Follows, Answers, EntersAtBoundaries, IsBoundary}

pub run-append : (p : Program) (s : State) (xs ys : Arrivals) → run p s (xs ++ ys) ≡ run p (run p s xs) ys
run-append p s [] ys = refl
run-append p s (x ∷ xs) ys = run-append p (turn p s x) xs ys

pub EntersAtBoundaries-append : (p : Program) (s : State) (xs ys : Arrivals) → EntersAtBoundaries p s xs → EntersAtBoundaries p (run p s xs) ys → EntersAtBoundaries p s (xs ++ ys)
EntersAtBoundaries-append p s [] ys h k = k
EntersAtBoundaries-append p s (x ∷ xs) ys h k = (h.0, EntersAtBoundaries-append p (turn p s x) xs ys h.1 k)

pub Same-refl : (p : Program) (s : State) → Same p p s s
Same-refl p s = record { trace = refl; end = refl }

pub Same-trans : (r q p : Program) (s t u : State) → Same r q s t → Same q p t u → Same r p s u
Same-trans r q p s t u a b = record { trace = a.trace ∙ b.trace; end = a.end ∙ b.end }

pub Follows-refl : (p : Program) → Follows p p
Follows-refl p inputs arrivals = (arrivals, Same-refl p _)

pub Follows-trans : (r q p : Program) → Follows r q → Follows q p → Follows r p
Follows-trans r q p h k inputs arrivals =
    let x = h inputs arrivals in let y = k inputs x.0 in (y.0, Same-trans r q p _ _ _ x.1 y.1)

pub Answers-refl : (p : Program) → Answers p p
Answers-refl p inputs arrivals h = (arrivals, h, Same-refl p _)

pub Answers-trans : (r q p : Program) → Answers r q → Answers q p → Answers r p
Answers-trans r q p h k inputs arrivals e =
    let x = k inputs arrivals e in let y = h inputs x.0 x.1 in (y.0, y.1, Same-trans r q p _ _ _ y.2 x.2)

module _ (q p : Program) (Related : State → State → Type 0)
    (same : (s t : State) → Related s t → Same q p s t)
    (starts : (inputs : List ℤ) → Related (start q inputs) (start p inputs))
  where
    -- each turn of q, with any arrival or none, is answered by turns of p
    abbrev pub Simulates : Type 0
    Simulates = (s t : State) → Related s t → (arrival : Option ℕ) → (others : Arrivals) × Related (turn q s arrival) (run p t others)

    follows_from : Simulates → (s t : State) → Related s t → (arrivals : Arrivals) → (others : Arrivals) × Related (run q s arrivals) (run p t others)
    follows_from step s t r [] = ([], r)
    follows_from step s t r (a ∷ rest) =
        let x = step s t r a in
        let y = follows_from step (turn q s a) (run p t x.0) x.1 rest in
        (x.0 ++ y.0, subst (λ u. Related (run q (turn q s a) rest) u) (sym (run-append p t x.0 y.0)) y.1)

    pub Follows-by_simulation : Simulates → Follows q p
    Follows-by_simulation step inputs arrivals =
        let x = follows_from step (start q inputs) (start p inputs) (starts inputs) arrivals in (x.0, same _ _ x.1)

    -- each turn of p that makes no entry, or makes one at a boundary, is answered by turns of q that
    -- enter at boundaries alone
    abbrev pub SimulatesBack : Type 0
    SimulatesBack = (s t : State) → Related s t → (arrival : Option ℕ) → (enters p t arrival ≡ true → IsBoundary t) →
        (others : Arrivals) × EntersAtBoundaries q s others × Related (run q s others) (turn p t arrival)

    answers_from : SimulatesBack → (s t : State) → Related s t → (arrivals : Arrivals) → EntersAtBoundaries p t arrivals →
        (others : Arrivals) × EntersAtBoundaries q s others × Related (run q s others) (run p t arrivals)
    answers_from step s t r [] e = ([], tt, r)
    answers_from step s t r (a ∷ rest) e =
        let x = step s t r a e.0 in
        let y = answers_from step (run q s x.0) (turn p t a) x.2 rest e.1 in
        (x.0 ++ y.0, EntersAtBoundaries-append q s x.0 y.0 x.1 y.1, subst (λ u. Related u (run p (turn p t a) rest)) (sym (run-append q s x.0 y.0)) y.2)

    pub Answers-by_simulation : SimulatesBack → Answers q p
    Answers-by_simulation step inputs arrivals e =
        let x = answers_from step (start q inputs) (start p inputs) (starts inputs) arrivals e in (x.0, x.1, same _ _ x.2)
