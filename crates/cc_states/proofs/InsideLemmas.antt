-- Where an activation goes on, it stands inside the body of its function.
use Rattle.std.proofs.Common.{arith, ◌≡◌, inl, inr, ◌+◌, ℕ, ℤ, Bool, true, false, ◌||◌, List, [], ◌∷◌, ◌++◌, length, length-append, append_assoc, Option, Some, None, refl, ap, sym, ◌∙◌, subst, if◌then◌else◌}
use Rattle.std.proofs.lemmas.Option.{same_Some}
use Rattle.std.specs.List.{list_any}
use Rattle.std.specs.Option.{option_or}
use Rattle.cc_program.specs.declared.expr.Expr.{Expr}
use Rattle.cc_program.specs.declared.func.Func.{Func}
use Rattle.cc_program.specs.declared.program.Program.{Program}
use Rattle.cc_program.specs.declared.stmt.Case.{Case}
use Rattle.cc_program.specs.declared.stmt.Stmt.{Stmt, out-Stmt}
use Rattle.cc_program.specs.declared.stmt.Stmt.TheOpen as is
use Rattle.cc_program.specs.declared.value.Value.{Value}
use Rattle.cc_steps.specs.CcControl.Control.{Level, Control, level, counted, is_loop, is_left_by_break, behind_body, opening, begun, behind_first, first_is, around_list, close, behind, broken, continued, arm, bodies, from_label, is_label, is_default}
use Rattle.cc_steps.proofs.CcControl.Begun.{begun_stands, begun_enters}
use Rattle.cc_steps.specs.State.{Active}
use Rattle.cc_steps.specs.Step.{in_case, looped, is_passed, next_place, number_in}
use Rattle.cc_steps.specs.CcValues.Values.{is_true}
use Rattle.cc_states.specs.Inside.{IsListIn, IsListInFirst, IsLeft, StandsIn, AreInside}
use Rattle.cc_states.specs.States.{may_break, may_continue, AreSound}
use Rattle.cc_states.proofs.Openings.{by_opening}
use Rattle.cc_states.proofs.ControlLemmas.{may_break_there, may_continue_there}

-- ---- positions

no_more : (n : ℕ) → counted n ≡ counted (n + 0)
no_more n = ap counted (omega arith)

pub one_on : (first n m : ℕ) → m ≡ n + 1 → counted (counted (first + n) + 1) ≡ counted (first + m)
one_on first n m e = omega (arith, e)

from_front : (list : List Stmt) (first : ℕ) → IsLeft list first list (counted first)
from_front list first = record { front = []; whole = refl; counts = no_more first }

zero_counted : 0 ≡ counted 0
zero_counted = omega arith

whole_left : (list : List Stmt) → IsLeft list 0 list 0
whole_left list = record { front = []; whole = refl; counts = zero_counted ∙ no_more 0 }

-- behind the first statement that is left
pub next_left : (list rest : List Stmt) (first position : ℕ) (s : Stmt) → IsLeft list first (s ∷ rest) position → IsLeft list first rest (counted (position + 1))
next_left list rest first position s h = record {
  front = h.front ++ s ∷ [];
  whole = h.whole ∙ sym (append_assoc h.front (s ∷ []) rest);
  counts = ap (λ (n : ℕ). counted (n + 1)) h.counts ∙ one_on first (length h.front) (length (h.front ++ s ∷ [])) (length-append h.front (s ∷ []));
}

-- ---- the bodies of a switch

abbrev Labelled : (List (Option ℤ) → Bool) → ℕ → List Case → ℕ × List Stmt → Type 0
Labelled has n cases at = (front : List Stmt) × (bodies cases ≡ front ++ at.1) × (at.0 ≡ n + length front)

label_by : (has : List (Option ℤ) → Bool) (n : ℕ) (k : Case) (cases : List Case) (at : ℕ × List Stmt) (b : Bool) → (from_label has (n + length k.body) cases ≡ Some at → Labelled has (n + length k.body) cases at) →
    (if b then Some (n, bodies (k ∷ cases)) else from_label has (n + length k.body) cases) ≡ Some at → Labelled has n (k ∷ cases) at
label_by has n k cases at true h e =
    let same : (n, bodies (k ∷ cases)) ≡ at = same_Some (n, bodies (k ∷ cases)) at e in
    ([], ap (λ (x : ℕ × List Stmt). x.1) same, sym (ap (λ (x : ℕ × List Stmt). x.0) same) ∙ omega arith)
label_by has n k cases at false h e =
    let found = h e in
    let l = length-append k.body found.0 in
    let c = found.2 in
    (k.body ++ found.0, ap (λ (xs : List Stmt). k.body ++ xs) found.1 ∙ sym (append_assoc k.body found.0 at.1), omega (arith, l, c))

label_left : (has : List (Option ℤ) → Bool) (n : ℕ) (cases : List Case) (at : ℕ × List Stmt) → from_label has n cases ≡ Some at → Labelled has n cases at
label_left has n [] at e = absurd (cc)
label_left has n (k ∷ cases) at e = label_by has n k cases at (has k.labels) (λ f. label_left has (n + length k.body) cases at f) e

abbrev InCases : List Case → ℕ × List Stmt → Type 0
InCases cases at = (front : List Stmt) × (bodies cases ≡ front ++ at.1) × (at.0 ≡ 0 + length front)

either_label : (cases : List Case) (x y : Option (ℕ × List Stmt)) (at : ℕ × List Stmt) → ((at : ℕ × List Stmt) → x ≡ Some at → InCases cases at) → ((at : ℕ × List Stmt) → y ≡ Some at → InCases cases at) → option_or x y ≡ Some at → InCases cases at
either_label cases None y at h k e = k at e
either_label cases (Some x) y at h k e = h at e

in_cases : (cases : List Case) (at : ℕ × List Stmt) → InCases cases at → IsLeft (bodies cases) 0 at.1 (counted at.0)
in_cases cases at h = record { front = h.0; whole = h.1; counts = ap counted h.2 }

abbrev pub HasFirst : List Stmt → Type 0
HasFirst list = (s : Stmt) × (rest : List Stmt) × (list ≡ s ∷ rest)

module _ (body : List Stmt) where
  abbrev Inside : Control → Type 0
  Inside at = AreInside body (at.0 ∷ at.1)

  -- ---- blocks that are entered at once

  opening_in : (x : is.Stmt-F Stmt Case) (t : Stmt) (ts : List Stmt) → opening x ≡ t ∷ ts → IsListIn x (t ∷ ts) 0
  opening_in (is.Do e) t ts h = absurd (cc)
  opening_in (is.If e these those) t ts h = absurd (cc)
  opening_in (is.While e body) t ts h = absurd (cc)
  opening_in (is.DoWhile body e) t ts h = (sym h, refl)
  opening_in (is.For first test again body) t ts h = absurd (cc)
  opening_in (is.Switch e cases) t ts h = absurd (cc)
  opening_in is.Break t ts h = absurd (cc)
  opening_in is.Continue t ts h = absurd (cc)
  opening_in (is.Return e) t ts h = absurd (cc)
  opening_in is.Empty t ts h = absurd (cc)
  opening_in (is.Block body) t ts h = (sym h, refl)

  abbrev Begins : Stmt → Type 0
  Begins s = (n : ℕ) (rest : List Stmt) (around : List Level) → StandsIn body around (s ∷ rest) n → AreInside body around → Inside (begun s n rest around)

  begins_by : (s : Stmt) (o : List Stmt) → opening (out-Stmt s) ≡ o → ((t : Stmt) (ts : List Stmt) → opening (out-Stmt s) ≡ t ∷ ts → Begins t) → Begins s
  begins_by s [] e h n rest around k l = subst Inside (sym (begun_stands s n rest around e)) (k, l)
  begins_by s (t ∷ ts) e h n rest around k l =
      subst Inside (sym (begun_enters s t n rest ts around e))
      (h t ts e 0 ts (level (s ∷ rest) n (behind_body (out-Stmt s)) ∷ around) (t ∷ ts, 0, opening_in (out-Stmt s) t ts e, whole_left (t ∷ ts)) (k, l))

  begins : (s : Stmt) → Begins s
  begins = by_opening Begins (λ s h. begins_by s (opening (out-Stmt s)) refl h)

  -- ---- lists that are done

  next_stands : (around : List Level) (s : Stmt) (rest : List Stmt) (position : ℕ) → StandsIn body around (s ∷ rest) position → StandsIn body around rest (counted (position + 1))
  next_stands [] s rest position h = next_left body rest 0 position s h
  next_stands (at ∷ around) s rest position h = (h.0, h.1, h.2, next_left h.0 rest h.1 position s h.3)

  -- a level around has a statement
  tail_stands : (around : List Level) (list inner : List Stmt) (first position : ℕ) → IsListInFirst list inner first → StandsIn body around list position → StandsIn body around (behind_first list) (counted (position + 1))
  tail_stands around [] inner first position h k = absurd h
  tail_stands around (s ∷ rest) inner first position h k = next_stands around s rest position k

  either_way : (b : Bool) (these those : Control) → Inside these → Inside those → Inside (if b then these else those)
  either_way true these those h k = h
  either_way false these those h k = k

  close_inside : (list : List Stmt) (n : ℕ) (around : List Level) → StandsIn body around list n → AreInside body around → Inside (close list n around)
  close_inside (s ∷ rest) n around h k = begins s n rest around h k
  close_inside [] n [] h k = (h, tt)
  close_inside [] n (at ∷ around) h k =
      either_way (first_is is_loop at.rest) (at, around) (close (behind_first at.rest) (counted (at.position + 1)) around) k
      (close_inside (behind_first at.rest) (counted (at.position + 1)) around (tail_stands around at.rest h.0 h.1 at.position h.2 k.0) k.1)

  first_of_test : (property : is.Stmt-F Stmt Case → Bool) (list : List Stmt) → first_is property list ≡ true → HasFirst list
  first_of_test property [] h = absurd (cc)
  first_of_test property (s ∷ rest) h = (s, rest, refl)

  behind_stands : (around : List Level) (list : List Stmt) (position : ℕ) → HasFirst list → StandsIn body around list position → StandsIn body around (behind_first list) (counted (position + 1))
  behind_stands around list position f h =
      subst (λ (l : List Stmt). StandsIn body around (behind_first l) (counted (position + 1))) (sym f.2) (next_stands around f.0 f.1 position (subst (λ (l : List Stmt). StandsIn body around l position) f.2 h))

  pub behind_inside : (at : Level) (around : List Level) → HasFirst at.rest → AreInside body (at ∷ around) → Inside (behind at around)
  behind_inside at around f k = close_inside (behind_first at.rest) (counted (at.position + 1)) around (behind_stands around at.rest at.position f k.0) k.1

  broken_by : (at : Level) (around : List Level) (b : Bool) → first_is is_left_by_break at.rest ≡ b → b || may_break around ≡ true → AreInside body (at ∷ around) → (may_break around ≡ true → Inside (broken around)) →
      Inside (if b then behind at around else broken around)
  broken_by at around true e m k next = behind_inside at around (first_of_test is_left_by_break at.rest e) k
  broken_by at around false e m k next = next m

  broken_inside : (around : List Level) → may_break around ≡ true → AreInside body around → Inside (broken around)
  broken_inside [] m k = absurd (cc)
  broken_inside (at ∷ around) m k = broken_by at around (first_is is_left_by_break at.rest) refl m k (λ n. broken_inside around n k.1)

  continued_by : (at : Level) (around : List Level) (b : Bool) → b || may_continue around ≡ true → AreInside body (at ∷ around) → (may_continue around ≡ true → Inside (continued around)) → Inside (if b then (at, around) else continued around)
  continued_by at around true m k next = k
  continued_by at around false m k next = next m

  continued_inside : (around : List Level) → may_continue around ≡ true → AreInside body around → Inside (continued around)
  continued_inside [] m k = absurd (cc)
  continued_inside (at ∷ around) m k = continued_by at around (first_is is_loop at.rest) m k (λ n. continued_inside around n k.1)

  -- ---- where a statement goes on

  module _ (p : Program) (f : Func) (a : Active) (s : Stmt) (rest : List Stmt) (here : a.here.rest ≡ s ∷ rest) (sound : AreSound p f (a.here ∷ a.around)) (places : AreInside body (a.here ∷ a.around)) where
    abbrev within : List Level
    within = around_list a.here ∷ a.around

    within_inside : AreInside body within
    within_inside = (places.0, places.1)

    stands_within : (x : is.Stmt-F Stmt Case) → out-Stmt s ≡ x → (list rest : List Stmt) (first position : ℕ) → IsListIn x list first → IsLeft list first rest position → StandsIn body within rest position
    stands_within x e list rest' first position h l =
        (list, first, subst (λ (r : List Stmt). IsListInFirst r list first) (sym here) (subst (λ y. IsListIn y list first) (sym e) h), l)

    on_behind : Inside (behind a.here a.around)
    on_behind = behind_inside a.here a.around (s, rest, here) places

    arm_inside : (b : Bool) (e : Expr) (these those : List Stmt) → out-Stmt s ≡ is.If e these those → Inside (arm b these those within)
    arm_inside true e these those k = close_inside these 0 within (stands_within (is.If e these those) k these these 0 0 (inl (refl, refl)) (whole_left these)) within_inside
    arm_inside false e these those k =
        close_inside those (counted (length these)) within (stands_within (is.If e these those) k those those (length these) (counted (length these)) (inr (refl, refl)) (from_front those (length these))) within_inside

    looped_inside : (b : Bool) (list : List Stmt) → StandsIn body within list 0 → Inside (looped b list a)
    looped_inside true list h = close_inside list 0 within h within_inside
    looped_inside false list h = on_behind

    case_inside : (x : Option (ℕ × List Stmt)) → ((at : ℕ × List Stmt) → x ≡ Some at → StandsIn body within at.1 (counted at.0)) → Inside (in_case a x)
    case_inside None h = on_behind
    case_inside (Some at) h = close_inside at.1 (counted at.0) within (h at refl) within_inside

    next_by : (x : is.Stmt-F Stmt Case) (v : Value) → out-Stmt s ≡ x → Inside (next_place x a v)
    next_by (is.Do e) v k = on_behind
    next_by (is.If e these those) v k = arm_inside (is_true v) e these those k
    next_by (is.While e list) v k = looped_inside (is_true v) list (stands_within (is.While e list) k list list 0 0 (refl, refl) (whole_left list))
    next_by (is.DoWhile list e) v k = looped_inside (is_true v) list (stands_within (is.DoWhile list e) k list list 0 0 (refl, refl) (whole_left list))
    next_by (is.For first test again list) v k = looped_inside (is_passed test v) list (stands_within (is.For first test again list) k list list 0 0 (refl, refl) (whole_left list))
    next_by (is.Switch e cases) v k =
        case_inside (option_or (from_label (list_any (is_label (number_in v))) 0 cases) (from_label (list_any is_default) 0 cases))
        (λ at i. stands_within (is.Switch e cases) k (bodies cases) at.1 0 (counted at.0) (refl, refl)
        (in_cases cases at (either_label cases (from_label (list_any (is_label (number_in v))) 0 cases) (from_label (list_any is_default) 0 cases) at
        (λ at j. label_left (list_any (is_label (number_in v))) 0 cases at j) (λ at j. label_left (list_any is_default) 0 cases at j) i)))
    next_by is.Break v k = broken_inside a.around (may_break_there p f a s rest here sound k) places.1
    next_by is.Continue v k = continued_inside a.around (may_continue_there p f a s rest here sound k) places.1
    next_by (is.Return e) v k = on_behind
    next_by is.Empty v k = on_behind
    next_by (is.Block list) v k = on_behind

    pub next_inside : (v : Value) → Inside (next_place (out-Stmt s) a v)
    next_inside v = next_by (out-Stmt s) v refl

  -- a function begins with its body
  pub body_inside : Inside (close body 0 [])
  body_inside = close_inside body 0 [] (whole_left body) tt
