-- Constructs of a list, one behind another, as a loop takes them.
use Rattle.std.proofs.Common.{◌≡◌, ◌∙◌, ℕ, List, ◌∷◌, Ok, Err, ap, sym, map, drop, length, get_or, ◌+◌, ◌<◌}
use Rattle.std.proofs.lemmas.List.{drop_more}
use Rattle.cc_scopes.specs.Outcomes.{Gives}
use Rattle.cc_scopes.specs.State.{State}
use Rattle.cc_scopes.specs.Verdicts.{Found, and_then}
use Rattle.cc_scopes.specs.declared.verdict.Stop.{Stop}
use Rattle.cc_scopes.specs.declared.verdict.Stop.TheVariants as stop
use Rattle.cc_terms.specs.InTurn.{in_turn}

module _ {A B C : Type 0} (find : A → B → State → Found B) (part : C → A) where
  -- what is found from the i-th on, behind what was found before
  abbrev pub left : List C → ℕ → B → State → Found B
  left xs i before s = in_turn find (map part (drop i xs)) before s

  from_next : (xs : List C) (i : ℕ) (x : C) (before : B) (s : State) → i < length xs → x ≡ get_or xs i x →
      left xs i before s ≡ and_then (find (part x) before s) (λ b t. left xs (i + 1) b t)
  from_next xs i x before s h is = ap (λ xs. in_turn find (map part xs) before s) (drop_more xs i x h ∙ ap (λ d. d ∷ drop (i + 1) xs) (sym is))

  -- one turn of the loop: a part is found
  pub left-next : (xs : List C) (i : ℕ) (x : C) (before behind : B) (s t : State) (whole : Found B) → i < length xs → x ≡ get_or xs i x →
      find (part x) before s ≡ Ok (behind, t) → left xs i before s ≡ whole → left xs (i + 1) behind t ≡ whole
  left-next xs i x before behind s t whole h is f w = sym (ap (λ m. and_then m (λ b t. left xs (i + 1) b t)) f) ∙ sym (from_next xs i x before s h is) ∙ w

  -- .. or the loop ends at its fault
  pub left-stops : {D : Type 0} (view : D → B) (xs : List C) (i : ℕ) (x : C) (before : B) (s t : State) (why : Stop) (whole : Found B) → i < length xs → x ≡ get_or xs i x →
      Gives {A = D} view (Err why) t (find (part x) before s) → left xs i before s ≡ whole → Gives {A = D} view (Err why) t whole
  left-stops view xs i x before s t (stop.Broken fault) whole h is f w = sym w ∙ from_next xs i x before s h is ∙ ap (λ m. and_then m (λ b t. left xs (i + 1) b t)) f
  left-stops view xs i x before s t stop.NoMemory whole h is f w = tt

pub ruleset of_turns = (left-next, left-stops)
