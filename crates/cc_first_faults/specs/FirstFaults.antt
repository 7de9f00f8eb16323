-- Which fault is carried: that of a construct which breaks a rule while its parts break none, where nothing that is read
-- in front of it breaks one. Constructs are told by a table: where each begins; what is known behind it, or the fault that
-- it carries; and its parts in the order in which they are read, each with what is known in front of it.
use Rattle.std.specs.Prelude.{◌≡◌, ℕ, List, [], ◌∷◌, ◌++◌, Result, Ok, Err}
use Rattle.cc_typed_bodies.specs.CcScopes.State.{State}
use Rattle.cc_typed_bodies.specs.CcScopes.Verdicts.{Found}
use Rattle.cc_typed_bodies.specs.CcScopes.declared.verdict.Fault.{Fault}

-- the state alone
abbrev pub forget : {A : Type 0} → Found A → Result State Fault
forget (Ok found) = Ok found.1
forget (Err fault) = Err fault

-- parts behind one that breaks none; behind one that does nothing is known
abbrev pub after : {A C : Type 0} → Found A → (A → State → List (C × State)) → List (C × State)
after (Ok found) next = next found.0 found.1
after (Err fault) next = []

-- the elements of a list, each behind what those before it gave
abbrev pub parts_in_turn : {A B C : Type 0} → (A → B → State → Found B) → (A → B → C) → List A → B → State → List (C × State)
parts_in_turn find construct [] before s = []
parts_in_turn find construct (x ∷ xs) before s = (construct x before, s) ∷ after (find x before s) (parts_in_turn find construct xs)

abbrev pub BreaksNone : Result State Fault → Type 0
BreaksNone r = (s : State) × (r ≡ Ok s)

module _ (C : Type 0) (place : C → ℕ) (behind : C → State → Result State Fault) (parts : C → State → List (C × State)) where
  abbrev pub BreakNone : List (C × State) → Type 0
  BreakNone [] = Unit {0}
  BreakNone (p ∷ ps) = BreaksNone (behind p.0 p.1) × BreakNone ps

  -- by the construct itself, at its place, or in a part of it
  pub data IsCarried (fault : Fault) : C → State → Type 0 where
    Itself : (c : C) (s : State) → behind c s ≡ Err fault → BreakNone (parts c s) → fault.at ≡ place c → IsCarried fault c s
    InPart : (c : C) (s : State) (part : C × State) (before rest : List (C × State)) → parts c s ≡ before ++ part ∷ rest → BreakNone before →
        IsCarried fault part.0 part.1 → IsCarried fault c s

  -- a construct in others, however deep
  pub data IsWithin (d : C) (t : State) : C → State → Type 0 where
    Whole : IsWithin d t d t
    PartOf : (c : C) (s : State) (part : C × State) (before rest : List (C × State)) → parts c s ≡ before ++ part ∷ rest → IsWithin d t part.0 part.1 → IsWithin d t c s
