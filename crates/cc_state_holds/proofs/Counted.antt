-- Points that are gathered: those at which an activation stands, and their next ones.
use Rattle.std.proofs.Common.{arith, ◌≡◌, ◌⊎◌, inl, inr, ◌<◌, ◌≤◌, ◌+◌, ℕ, List, [], ◌∷◌, ◌++◌, length, Some, None, refl, ap, sym, ◌∙◌, subst, slice_get}
use Rattle.std.specs.Prelude.{◌↔◌}
use Rattle.std.specs.List.{Contains}
use Rattle.std.proofs.lemmas.List.Elements.{Contains-append_cases}
use Rattle.std.proofs.lemmas.Option.{same_Some, none-some, slice_get_within}
use Rattle.cc_flow_sound.specs.CcFlow.declared.types.Flow.{Flow}
use Rattle.cc_flow_sound.specs.CcFlow.declared.types.Point.{Point}
use Rattle.cc_flow_sound.specs.CcFlow.Points.{flow_of}
use Rattle.cc_flow_sound.specs.Moves.{IsAt, standing}
use Rattle.cc_program.specs.declared.program.Program.{Program}
use Rattle.cc_program.specs.declared.value.Value.{Value}
use Rattle.cc_proof_covers.specs.Covers.{StandsAtPoint}
use Rattle.cc_state.proofs.Lists.{at_contained, contains_at, only_one, no_member}
use Rattle.cc_state_holds.specs.Parts.{IsAdded, IsNextOf}
use Rattle.cc_state_scalars.proofs.Rows.{get_before, get_after}
use Rattle.cc_steps.specs.State.{Active}

-- ---- lists, one behind the other

pub in_first : {A : Type 0} (xs ys : List A) (x : A) → Contains xs x → Contains (xs ++ ys) x
in_first xs ys x c = let w = at_contained xs x c in contains_at (xs ++ ys) w.0 x (get_before xs ys w.0 (slice_get_within xs w.0 x w.1) ∙ w.1)

pub in_second : {A : Type 0} (xs ys : List A) (x : A) → Contains ys x → Contains (xs ++ ys) x
in_second xs ys x c = let w = at_contained ys x c in contains_at (xs ++ ys) (length xs + w.0) x (get_after xs ys w.0 (length xs + w.0) refl ∙ w.1)

-- ---- those of some numbers that pass

abbrev pub ArePassed : (ℕ → Type 0) → List ℕ → ℕ → Type 0
ArePassed P points n = (m : ℕ) → Contains points m ↔ ((m < n) × P m)

pub passed_none : (P : ℕ → Type 0) → ArePassed P [] 0
passed_none P m = ((λ c. no_member m c), (λ h. absurd (let l = h.0 in omega (arith, l))))

before_or_last : (n m : ℕ) → n < m + 1 → (n < m) ⊎ (n ≡ m)
before_or_last n m l = grind (arith, l)

pub added_none : (P : ℕ → Type 0) (points : List ℕ) (n : ℕ) → (P n → ⊥) → IsAdded P points n points
added_none P points n fails m = ((λ c. inl c), back)
  where
    back : Contains points m ⊎ ((m ≡ n) × P m) → Contains points m
    back (inl c) = c
    back (inr w) = absurd (fails (subst P w.0 w.1))

pub added_one : (P : ℕ → Type 0) (points all : List ℕ) (n : ℕ) → P n → all ≡ points ++ n ∷ [] → IsAdded P points n all
added_one P points all n is e m = (to, back)
  where
    to : Contains all m → Contains points m ⊎ ((m ≡ n) × P m)
    to c = elim (Contains-append_cases points (n ∷ []) m (subst (λ (xs : List ℕ). Contains xs m) e c)) [
      | inl w ↦ inl w
      | inr w ↦ let k : n ≡ m = only_one n m w in inr (sym k, subst P k is)
    ]

    back : Contains points m ⊎ ((m ≡ n) × P m) → Contains all m
    back (inl c) = subst (λ (xs : List ℕ). Contains xs m) (sym e) (in_first points (n ∷ []) m c)
    back (inr w) = subst (λ (xs : List ℕ). Contains xs m) (sym e) (in_second points (n ∷ []) m (contains_at (n ∷ []) 0 m (ap Some (sym w.0))))

pub passed_step : (P : ℕ → Type 0) (points all : List ℕ) (n : ℕ) → IsAdded P points n all → ArePassed P points n → ArePassed P all (n + 1)
passed_step P points all n added h m = ((λ c. to ((added m).0 c)), (λ w. (added m).1 (back w.1 (before_or_last m n w.0))))
  where
    to : Contains points m ⊎ ((m ≡ n) × P m) → (m < n + 1) × P m
    to (inl c) = let k = (h m).0 c in let l = k.0 in (omega (arith, l), k.1)
    to (inr w) = let e = w.0 in (omega (arith, e), w.1)

    back : P m → (m < n) ⊎ (m ≡ n) → Contains points m ⊎ ((m ≡ n) × P m)
    back q (inl l) = inl ((h m).1 (l, q))
    back q (inr e) = inr (e, q)

pub passed_all : (p : Program) (a : Active) (points : List ℕ) (n : ℕ) → length (flow_of p).points ≤ n → ArePassed (IsAt p (standing a)) points n → (m : ℕ) → Contains points m ↔ IsAt p (standing a) m
passed_all p a points n long h m = (
  (λ c. ((h m).0 c).1),
  (λ at. (h m).1 ((let k = slice_get_within (flow_of p).points m at.point at.numbered in omega (arith, long, k)), at)),
)

-- ---- next points

module _ (flow : Flow) where
  pub next_nowhere : (points : List ℕ) (m n : ℕ) → None ≡ slice_get flow.points m → Contains points n ↔ (Contains points n ⊎ IsNextOf flow m n)
  next_nowhere points m n e = ((λ c. inl c), back)
    where
      back : Contains points n ⊎ IsNextOf flow m n → Contains points n
      back (inl c) = c
      back (inr w) = absurd (none-some w.0 (e ∙ w.1))

  pub next_there : (points all : List ℕ) (m n : ℕ) (point : Point) → slice_get flow.points m ≡ Some point → all ≡ points ++ point.next → Contains all n ↔ (Contains points n ⊎ IsNextOf flow m n)
  next_there points all m n point there e = (to, back)
    where
      to : Contains all n → Contains points n ⊎ IsNextOf flow m n
      to c = elim (Contains-append_cases points point.next n (subst (λ (xs : List ℕ). Contains xs n) e c)) [ inl w ↦ inl w | inr w ↦ inr (point, there, w) ]

      back : Contains points n ⊎ IsNextOf flow m n → Contains all n
      back (inl c) = subst (λ (xs : List ℕ). Contains xs n) (sym e) (in_first points point.next n c)
      back (inr w) = subst (λ (xs : List ℕ). Contains xs n) (sym e) (in_second points point.next n (subst (λ (q : Point). Contains q.next n) (same_Some w.0 point (sym w.1 ∙ there)) w.2))

  abbrev pub AreNextOf : List ℕ → List ℕ → Type 0
  AreNextOf all points = (n : ℕ) → Contains all n ↔ ((m : ℕ) × Contains points m × IsNextOf flow m n)

  pub next_none : AreNextOf [] []
  next_none n = ((λ c. no_member n c), (λ w. no_member w.0 w.1))

  pub next_more : (points all more : List ℕ) (m : ℕ) → AreNextOf all points → ((n : ℕ) → Contains more n ↔ (Contains all n ⊎ IsNextOf flow m n)) → AreNextOf more (points ++ m ∷ [])
  next_more points all more m h k n = (to, back)
    where
      to_by : Contains all n ⊎ IsNextOf flow m n → (j : ℕ) × Contains (points ++ m ∷ []) j × IsNextOf flow j n
      to_by (inl c) = let w = (h n).0 c in (w.0, in_first points (m ∷ []) w.0 w.1, w.2)
      to_by (inr w) = (m, in_second points (m ∷ []) m (contains_at (m ∷ []) 0 m refl), w)

      to : Contains more n → (j : ℕ) × Contains (points ++ m ∷ []) j × IsNextOf flow j n
      to c = to_by ((k n).0 c)

      back : (j : ℕ) × Contains (points ++ m ∷ []) j × IsNextOf flow j n → Contains more n
      back w = elim (Contains-append_cases points (m ∷ []) w.0 w.1) [
        | inl c ↦ (k n).1 (inl ((h n).1 (w.0, c, w.2)))
        | inr c ↦ (k n).1 (inr (subst (λ (j : ℕ). IsNextOf flow j n) (sym (only_one m w.0 c)) w.2))
      ]

-- where a result is not written yet, the next points count
pub counted_next : (p : Program) (flow : Flow) (a : Active) (result : ℕ × Value) (own all : List ℕ) → flow ≡ flow_of p → ((m : ℕ) → Contains own m ↔ IsAt p (standing a) m) → AreNextOf flow all own → (n : ℕ) → Contains all n ↔ StandsAtPoint p a (Some result) n
counted_next p flow a result own all e h k n = (to, back)
  where
    to_by : (m : ℕ) × Contains own m × IsNextOf flow m n → StandsAtPoint p a (Some result) n
    to_by (m, c, (point, there, next)) =
        let at = (h m).0 c in
        (m, at, subst (λ (q : Point). Contains q.next n) (same_Some point at.point (sym there ∙ (ap (λ (f : Flow). slice_get f.points m) e ∙ at.numbered))) next)

    to : Contains all n → StandsAtPoint p a (Some result) n
    to c = to_by ((k n).0 c)

    back : StandsAtPoint p a (Some result) n → Contains all n
    back (m, at, next) = (k n).1 (m, (h m).1 at, (at.point, ap (λ (f : Flow). slice_get f.points m) e ∙ at.numbered, next))
