-- A construct carries the first fault of its parts, or breaks a rule itself at its place: so the fault is carried by a
-- construct whose parts break none, behind others that break none.
use Rattle.std.proofs.Common.{◌≡◌, ◌∙◌, ℕ, List, [], ◌∷◌, ◌++◌, map, Result, Ok, Err, refl, sym, subst, append_assoc}
use Rattle.std.proofs.lemmas.List.{append-nil}
use Rattle.cc_typed_bodies.specs.CcOperands.Verdicts.{Judged}
use Rattle.cc_program.proofs.Each.{Each}
use Rattle.cc_typed_bodies.specs.CcScopes.State.{State}
use Rattle.cc_typed_bodies.specs.CcScopes.Verdicts.{Found, whole, and_then}
use Rattle.cc_typed_bodies.specs.CcScopes.declared.verdict.Fault.{Fault}
use Rattle.cc_typed_bodies.specs.CcTerms.InTurn.{in_turn}
use Rattle.cc_first_faults.specs.FirstFaults.{forget, after, parts_in_turn, BreaksNone, BreakNone, IsCarried, Itself, InPart, IsWithin, Whole, PartOf}

-- its own fault stands at this place
abbrev pub Own : ℕ → Result State Fault → Type 0
Own at (Ok s) = Unit {0}
Own at (Err fault) = fault.at ≡ at

-- behind a part: its fault is that of the whole
abbrev pub goes_on : Result State Fault → Type 0 → Result State Fault → Type 0
goes_on (Ok s) next all = next
goes_on (Err fault) next all = all ≡ Err fault

pub own-whole : {A : Type 0} (at : ℕ) (s : State) (j : Judged A) → Own at (forget (whole at s j))
own-whole at s (Ok x) = tt
own-whole at s (Err rule) = refl

-- a rule that is kept, and what is judged behind it
pub own-then : {A B : Type 0} (at : ℕ) (m : Found A) (next : A → State → Found B) → Own at (forget m) → ((x : A) (t : State) → Own at (forget (next x t))) → Own at (forget (and_then m next))
own-then at (Ok found) next o h = h found.0 found.1
own-then at (Err fault) next o h = o

-- what leaves the state as it is
pub same-state : {A B : Type 0} (m : Found A) (f : A → B) → forget m ≡ forget (and_then m (λ x t. Ok (f x, t)))
same-state (Ok found) f = refl
same-state (Err fault) f = refl

no-both : (r : Result State Fault) (t : State) (fault : Fault) → r ≡ Ok t → r ≡ Err fault → ⊥
no-both r t fault h k = cc

module _ (C : Type 0) (place : C → ℕ) (behind : C → State → Result State Fault) (parts : C → State → List (C × State)) where
  abbrev pub IsFirst : C → State → Type 0
  IsFirst c s = (fault : Fault) → behind c s ≡ Err fault → IsCarried C place behind parts fault c s

  -- of a construct at this place, by the parts that are left, and what is known behind it
  abbrev pub Lawful : ℕ → List (C × State) → Result State Fault → Type 0
  Lawful at [] all = Own at all
  Lawful at (p ∷ ps) all = IsFirst p.0 p.1 × goes_on (behind p.0 p.1) (Lawful at ps all) all

  abbrev pub IsLawful : C → State → Type 0
  IsLawful c s = Lawful (place c) (parts c s) (behind c s)

  -- ---- which fault is carried

  none-more : (before : List (C × State)) (p : C × State) → BreakNone C place behind parts before → BreaksNone (behind p.0 p.1) → BreakNone C place behind parts (before ++ p ∷ [])
  none-more [] p b h = (h, tt)
  none-more (q ∷ qs) p b h = (b.0, none-more qs p b.1 h)

  turn : (c : C) (s : State) (before : List (C × State)) (p : C × State) (ps : List (C × State)) (r : Result State Fault) (fault : Fault) → behind p.0 p.1 ≡ r → parts c s ≡ before ++ p ∷ ps →
      BreakNone C place behind parts before → IsFirst p.0 p.1 → goes_on r (Lawful (place c) ps (behind c s)) (behind c s) → behind c s ≡ Err fault →
      ((t : State) → behind p.0 p.1 ≡ Ok t → Lawful (place c) ps (behind c s) → IsCarried C place behind parts fault c s) → IsCarried C place behind parts fault c s
  turn c s before p ps (Ok t) fault is e b first l h next = next t is l
  turn c s before p ps (Err f) fault is e b first l h next = InPart c s p before ps e b (first fault (is ∙ (sym l ∙ h)))

  walk : (c : C) (s : State) (before ps : List (C × State)) (fault : Fault) → parts c s ≡ before ++ ps → BreakNone C place behind parts before →
      Lawful (place c) ps (behind c s) → behind c s ≡ Err fault → IsCarried C place behind parts fault c s
  walk c s before [] fault e b l h = Itself c s h (subst (BreakNone C place behind parts) (sym (e ∙ append-nil before)) b) (subst (Own (place c)) h l)
  walk c s before (p ∷ ps) fault e b l h =
      turn c s before p ps (behind p.0 p.1) fault refl e b l.0 l.1 h
      (λ t is l. walk c s (before ++ p ∷ []) ps fault (e ∙ sym (append_assoc before (p ∷ []) ps)) (none-more before p b (t, is)) l h)

  pub first-of : (c : C) (s : State) → IsLawful c s → IsFirst c s
  first-of c s l fault h = walk c s [] (parts c s) fault refl tt l h

  -- ---- it is the only one

  reaches : (at : ℕ) (before : List (C × State)) (p : C × State) (rest : List (C × State)) (all : Result State Fault) (fault : Fault) → Lawful at (before ++ p ∷ rest) all → BreakNone C place behind parts before →
      behind p.0 p.1 ≡ Err fault → all ≡ Err fault
  reaches at [] p rest all fault l b h = subst (λ r. goes_on r (Lawful at rest all) all) h l.1
  reaches at (q ∷ qs) p rest all fault l b h = reaches at qs p rest all fault (subst (λ r. goes_on r (Lawful at (qs ++ p ∷ rest) all) all) b.0.1 l.1) b.1 h

  pub alone : ((c : C) (s : State) → IsLawful c s) → (fault : Fault) (c : C) (s : State) → IsCarried C place behind parts fault c s → behind c s ≡ Err fault
  alone law fault _ _ (Itself c s h b at) = h
  alone law fault _ _ (InPart c s p before rest e b carried) =
      reaches (place c) before p rest (behind c s) fault (subst (λ ps. Lawful (place c) ps (behind c s)) e (law c s)) b (alone law fault p.0 p.1 carried)

  -- ---- what is in a construct that breaks none breaks none

  holds-turn : (at : ℕ) (p : C × State) (ps : List (C × State)) (all r : Result State Fault) (t : State) → behind p.0 p.1 ≡ r → all ≡ Ok t → goes_on r (Lawful at ps all) all →
      (Lawful at ps all → BreakNone C place behind parts ps) → BreakNone C place behind parts (p ∷ ps)
  holds-turn at p ps all (Ok u) t is h l rest = ((u, is), rest l)
  holds-turn at p ps all (Err f) t is h l rest = absurd (no-both all t f h l)

  holds : (at : ℕ) (ps : List (C × State)) (all : Result State Fault) (t : State) → all ≡ Ok t → Lawful at ps all → BreakNone C place behind parts ps
  holds at [] all t h l = tt
  holds at (p ∷ ps) all t h l = holds-turn at p ps all (behind p.0 p.1) t refl h l.1 (λ l. holds at ps all t h l)

  among : (before : List (C × State)) (p : C × State) (rest : List (C × State)) → BreakNone C place behind parts (before ++ p ∷ rest) → BreaksNone (behind p.0 p.1)
  among [] p rest b = b.0
  among (q ∷ qs) p rest b = among qs p rest b.1

  pub within : ((c : C) (s : State) → IsLawful c s) → (d : C) (u : State) (c : C) (s : State) → IsWithin C place behind parts d u c s → BreaksNone (behind c s) → BreaksNone (behind d u)
  within law d u _ _ Whole h = h
  within law d u _ _ (PartOf c s p before rest e inner) h =
      within law d u p.0 p.1 inner (among before p rest (subst (BreakNone C place behind parts) e (holds (place c) (parts c s) (behind c s) h.0 h.1 (law c s))))

  -- ---- how the law is shown of a construct: part by part

  itself : (at : ℕ) (r : Result State Fault) → goes_on r (Own at r) r
  itself at (Ok t) = tt
  itself at (Err fault) = refl

  pub of-one : {A : Type 0} (at : ℕ) (c : C) (s : State) (m : Found A) → behind c s ≡ forget m → IsFirst c s → Lawful at ((c, s) ∷ []) (forget m)
  of-one at c s m is first = (first, subst (λ (b : Result State Fault). goes_on b (Own at (forget m)) (forget m)) (sym is) (itself at (forget m)))

  go-further : (r : Result State Fault) (P Q : Type 0) (t : State) (all : Result State Fault) → goes_on r P (Ok t) → (P → Q) → goes_on r Q all
  go-further (Ok u) P Q t all l h = h l
  go-further (Err f) P Q t all l h = absurd (no-both (Ok t) t f refl l)

  joined : (at : ℕ) (ps qs : List (C × State)) (t : State) (all : Result State Fault) → Lawful at ps (Ok t) → Lawful at qs all → Lawful at (ps ++ qs) all
  joined at [] qs t all l h = h
  joined at (p ∷ ps) qs t all l h =
      (l.0, go-further (behind p.0 p.1) (Lawful at ps (Ok t)) (Lawful at (ps ++ qs) all) t all l.1 (λ l. joined at ps qs t all l h))

  -- parts, and those behind them
  pub of-then : {A B : Type 0} (at : ℕ) (ps : List (C × State)) (m : Found A) (next : A → State → Found B) (rest : A → State → List (C × State)) → Lawful at ps (forget m) →
      ((x : A) (t : State) → Lawful at (rest x t) (forget (next x t))) → Lawful at (ps ++ after m rest) (forget (and_then m next))
  of-then at ps (Ok found) next rest l h = joined at ps (rest found.0 found.1) found.1 (forget (next found.0 found.1)) l (h found.0 found.1)
  of-then at ps (Err fault) next rest l h = subst (λ (qs : List (C × State)). Lawful at qs (Err fault)) (sym (append-nil ps)) l

  -- the last parts, and what the construct breaks itself
  pub of-last : {A B : Type 0} (at : ℕ) (ps : List (C × State)) (m : Found A) (next : A → State → Found B) → Lawful at ps (forget m) →
      ((x : A) (t : State) → Own at (forget (next x t))) → Lawful at ps (forget (and_then m next))
  of-last at ps (Ok found) next l h = subst (λ (qs : List (C × State)). Lawful at qs (forget (next found.0 found.1))) (append-nil ps) (joined at ps [] found.1 (forget (next found.0 found.1)) l (h found.0 found.1))
  of-last at ps (Err fault) next l h = l

  -- the elements of a list, each behind what those before it gave; f is what one means
  pub of-turn : {A B D : Type 0} (at : ℕ) (f : A → D) (find : D → B → State → Found B) (construct : A → B → C) → ((x : A) (before : B) (s : State) → behind (construct x before) s ≡ forget (find (f x) before s)) →
      (xs : List A) → Each (λ (x : A). (before : B) (s : State) → IsFirst (construct x before) s) xs → (before : B) (s : State) →
      Lawful at (parts_in_turn (λ (x : A). find (f x)) construct xs before s) (forget (in_turn find (map f xs) before s))
  of-turn at f find construct is [] h before s = tt
  of-turn at f find construct is (x ∷ xs) h before s =
      of-then at ((construct x before, s) ∷ []) (find (f x) before s) (in_turn find (map f xs)) (parts_in_turn (λ x. find (f x)) construct xs)
      (of-one at (construct x before) s (find (f x) before s) (is x before s) (h.0 before s))
      (λ y t. of-turn at f find construct is xs h.1 y t)

  -- the same of elements that mean themselves
  pub of-list : {A B : Type 0} (at : ℕ) (find : A → B → State → Found B) (construct : A → B → C) → ((x : A) (before : B) (s : State) → behind (construct x before) s ≡ forget (find x before s)) →
      (xs : List A) → ((x : A) (before : B) (s : State) → IsFirst (construct x before) s) → (before : B) (s : State) →
      Lawful at (parts_in_turn find construct xs before s) (forget (in_turn find xs before s))
  of-list at find construct is [] h before s = tt
  of-list at find construct is (x ∷ xs) h before s =
      of-then at ((construct x before, s) ∷ []) (find x before s) (in_turn find xs) (parts_in_turn find construct xs)
      (of-one at (construct x before) s (find x before s) (is x before s) (h x before s))
      (λ y t. of-list at find construct is xs h y t)
