-- The law for constructs of units, and how it is shown of one.
use Rattle.std.proofs.Common.{◌≡◌, ℕ, List, [], ◌∷◌, ◌++◌, map}
use Rattle.cc_first_faults.proofs.Lawful.{Own, IsFirst, Lawful, IsLawful, first-of, of-one, of-then, of-last, of-turn, of-list}
use Rattle.cc_first_faults.specs.FirstFaults.{forget, after, parts_in_turn}
use Rattle.cc_program.specs.CcNum.declared.target.Target.{Target}
use Rattle.cc_program.proofs.Each.{Each}
use Rattle.cc_program.specs.declared.program.Roles.{Roles}
use Rattle.cc_type.specs.CcScopes.State.{State, Name}
use Rattle.cc_type.specs.CcScopes.Verdicts.{Found, and_then}
use Rattle.cc_type.specs.CcTerms.InTurn.{in_turn}
use Rattle.cc_unit_faults.specs.Behind.{behind}
use Rattle.cc_unit_faults.specs.Constructs.{Construct, place}
use Rattle.cc_unit_faults.specs.Parts.{parts}

module _ (target : Target) (roles : Roles) (defined : List Name) where
  abbrev pub First : Construct → State → Type 0
  First c s = IsFirst Construct place (behind target roles defined) (parts target roles defined) c s

  abbrev pub Law : Construct → State → Type 0
  Law c s = IsLawful Construct place (behind target roles defined) (parts target roles defined) c s

  -- of a construct at this place, by the parts that are left and what is found of them
  abbrev pub Told : {A : Type 0} → ℕ → List (Construct × State) → Found A → Type 0
  Told at ps m = Lawful Construct place (behind target roles defined) (parts target roles defined) at ps (forget m)

  pub first : (c : Construct) (s : State) → Law c s → First c s
  first c s l = first-of Construct place (behind target roles defined) (parts target roles defined) c s l

  pub single : {A : Type 0} (at : ℕ) (c : Construct) (s : State) (m : Found A) → behind target roles defined c s ≡ forget m → First c s → Told at ((c, s) ∷ []) m
  single at c s m is h = of-one Construct place (behind target roles defined) (parts target roles defined) at c s m is h

  pub followed : {A B : Type 0} (at : ℕ) (ps : List (Construct × State)) (m : Found A) (next : A → State → Found B) (rest : A → State → List (Construct × State)) →
      Told at ps m → ((x : A) (t : State) → Told at (rest x t) (next x t)) → Told at (ps ++ after m rest) (and_then m next)
  followed at ps m next rest l h = of-then Construct place (behind target roles defined) (parts target roles defined) at ps m next rest l h

  pub last : {A B : Type 0} (at : ℕ) (ps : List (Construct × State)) (m : Found A) (next : A → State → Found B) →
      Told at ps m → ((x : A) (t : State) → Own at (forget (next x t))) → Told at ps (and_then m next)
  last at ps m next l own = of-last Construct place (behind target roles defined) (parts target roles defined) at ps m next l own

  pub turns : {A B D : Type 0} (at : ℕ) (f : A → D) (find : D → B → State → Found B) (construct : A → B → Construct) →
      ((x : A) (before : B) (s : State) → behind target roles defined (construct x before) s ≡ forget (find (f x) before s)) →
      (xs : List A) → Each (λ (x : A). (before : B) (s : State) → First (construct x before) s) xs → (before : B) (s : State) →
      Told at (parts_in_turn (λ (x : A). find (f x)) construct xs before s) (in_turn find (map f xs) before s)
  turns at f find construct is xs h before s = of-turn Construct place (behind target roles defined) (parts target roles defined) at f find construct is xs h before s

  pub each : {A B : Type 0} (at : ℕ) (find : A → B → State → Found B) (construct : A → B → Construct) →
      ((x : A) (before : B) (s : State) → behind target roles defined (construct x before) s ≡ forget (find x before s)) →
      (xs : List A) → ((x : A) (before : B) (s : State) → First (construct x before) s) → (before : B) (s : State) →
      Told at (parts_in_turn find construct xs before s) (in_turn find xs before s)
  each at find construct is xs h before s = of-list Construct place (behind target roles defined) (parts target roles defined) at find construct is xs h before s
