-- Where control goes from an `if` and a `switch`: to the starts of their lists.
use Rattle.std.proofs.Common.{arith, ◌≡◌, inl, inr, ◌+◌, ℕ, ℤ, Bool, true, false, ◌||◌, List, [], ◌∷◌, ◌++◌, nat_eq, nat_le, map, length, length-append, append_assoc, Contains, Option, Some, None, is_none, refl, ap, sym, ◌∙◌, subst}
use Rattle.std.specs.Prelude.{if◌then◌else◌}
use Rattle.std.specs.List.{list_any}
use Rattle.std.proofs.lemmas.List.Elements.{Contains-append_left, Contains-append_right}
use Rattle.std.proofs.lemmas.List.Sums.{sum_by-cons}
use Rattle.std.proofs.lemmas.Option.{same_Some}
use Rattle.cc_program.specs.declared.stmt.Case.{Case, out-Case}
use Rattle.cc_program.specs.declared.stmt.Stmt.{Stmt}
use Rattle.cc_states.specs.CcControl.Control.{bodies, from_label, is_default}
use Rattle.cc_flow.specs.declared.next.Site.{Site}
use Rattle.cc_flow.specs.Laws.{start, starts}
use Rattle.cc_flow.specs.Next.{reached, head, heads, branches, may_pass}
use Rattle.cc_flow.specs.Points.{total_of}
use Rattle.cc_flow.specs.View.{case_total, total_of_cases}
use Rattle.cc_flow.proofs.Starts.{switch_goes}
use Rattle.cc_flow.proofs.Tests.{zero_of, some_of}
use Rattle.cc_flow_sound.specs.Sites.{has_default}
use Rattle.cc_flow_sound.proofs.Opened.{total-append, total-bodies}
use Rattle.cc_flow_sound.proofs.Places.{reached_some}

pub is_here : (n : ℕ) (ns : List ℕ) → Contains (n ∷ ns) n
is_here n ns = (0, omega arith, refl)

later_in : (n m : ℕ) (ns : List ℕ) → Contains ns m → Contains (n ∷ ns) m
later_in n m ns h = Contains-append_right (n ∷ []) ns m h

-- ---- branches

behind_in : (own : Site) (counts : List ℕ) → Contains (branches true own counts) own.behind
behind_in own counts = by (nat_le own.behind own.number)
  where
    by : (b : Bool) → Contains (if b then own.behind ∷ heads (own.number + 1) counts else heads (own.number + 1) counts ++ own.behind ∷ []) own.behind
    by true = is_here own.behind (heads (own.number + 1) counts)
    by false = Contains-append_right (heads (own.number + 1) counts) (own.behind ∷ []) own.behind (is_here own.behind [])

head_in : (passes : Bool) (own : Site) (counts : List ℕ) (m : ℕ) → Contains (heads (own.number + 1) counts) m → Contains (branches passes own counts) m
head_in false own counts m h = h
head_in true own counts m h = by (nat_le own.behind own.number)
  where
    by : (b : Bool) → Contains (if b then own.behind ∷ heads (own.number + 1) counts else heads (own.number + 1) counts ++ own.behind ∷ []) m
    by true = later_in own.behind m (heads (own.number + 1) counts) h
    by false = Contains-append_left (heads (own.number + 1) counts) (own.behind ∷ []) m h

pub first_arm : (own : Site) (c d : ℕ) → Contains (branches (nat_eq c 0 || nat_eq d 0) own (c ∷ d ∷ [])) (reached c (own.number + 1) own.behind)
first_arm own c d = by (nat_eq c 0) refl
  where
    by : (b : Bool) → nat_eq c 0 ≡ b → Contains (branches (b || nat_eq d 0) own (c ∷ d ∷ [])) (if b then own.behind else own.number + 1)
    by true e = behind_in own (c ∷ d ∷ [])
    by false e =
        head_in (nat_eq d 0) own (c ∷ d ∷ []) (own.number + 1)
        (subst (λ (t : Bool). Contains ((if t then [] else (own.number + 1) ∷ []) ++ heads (own.number + 1 + c) (d ∷ [])) (own.number + 1)) (sym e) (is_here (own.number + 1) (heads (own.number + 1 + c) (d ∷ []))))

pub second_arm : (own : Site) (c d : ℕ) → Contains (branches (nat_eq c 0 || nat_eq d 0) own (c ∷ d ∷ [])) (reached d (own.number + 1 + c) own.behind)
second_arm own c d = by (nat_eq c 0) (nat_eq d 0) refl
  where
    last : (t : Bool) → nat_eq d 0 ≡ false → Contains (branches t own (c ∷ d ∷ [])) (own.number + 1 + c)
    last t e =
        head_in t own (c ∷ d ∷ []) (own.number + 1 + c)
        (Contains-append_right (head (own.number + 1) c) (heads (own.number + 1 + c) (d ∷ [])) (own.number + 1 + c)
        (subst (λ (t : Bool). Contains ((if t then [] else (own.number + 1 + c) ∷ []) ++ []) (own.number + 1 + c)) (sym e) (is_here (own.number + 1 + c) [])))

    by : (t b : Bool) → nat_eq d 0 ≡ b → Contains (branches (t || b) own (c ∷ d ∷ [])) (if b then own.behind else own.number + 1 + c)
    by true true e = behind_in own (c ∷ d ∷ [])
    by false true e = behind_in own (c ∷ d ∷ [])
    by true false e = last true e
    by false false e = last false e

-- ---- cases

start_by : (number behind : ℕ) (k : Case) (cases : List Case) → start number behind (map case_total cases) ≡ reached (total_of_cases cases) number behind → (b : Bool) → nat_eq (case_total k) 0 ≡ b →
    (if b then start number behind (map case_total cases) else number) ≡ reached (total_of_cases (k ∷ cases)) number behind
start_by number behind k cases h true e = h ∙ ap (λ n. reached n number behind) (let z = zero_of (case_total k) e in let one = sum_by-cons case_total k cases in omega (arith, z, one))
start_by number behind k cases h false e = sym (reached_some (total_of_cases (k ∷ cases)) number behind (let z = some_of (case_total k) e in let one = sum_by-cons case_total k cases in omega (arith, z, one)))

start_is : (number behind : ℕ) (cases : List Case) → start number behind (map case_total cases) ≡ reached (total_of_cases cases) number behind
start_is number behind [] = refl
start_is number behind (k ∷ cases) = start_by number behind k cases (start_is number behind cases) (nat_eq (case_total k) 0) refl

-- statements from a label on: those before them, and where they start
pub record IsLabelled (number behind n : ℕ) (cases : List Case) (at : ℕ × List Stmt) : Type 0 where
  pub front : List Stmt
  pub whole : bodies cases ≡ front ++ at.1
  pub counts : at.0 ≡ n + length front
  pub starts_there : Contains (starts number behind (map case_total cases)) (reached (total_of at.1) (number + total_of front) behind)

labelled_first : (number behind n : ℕ) (k : Case) (cases : List Case) → IsLabelled number behind n (k ∷ cases) (n, bodies (k ∷ cases))
labelled_first number behind n k cases = record {
  front = [];
  whole = refl;
  counts = omega arith;
  starts_there =
      subst (Contains (starts number behind (map case_total (k ∷ cases))))
      (start_is number behind (k ∷ cases) ∙ ap (λ m. reached m number behind) (sym (total-bodies (k ∷ cases))) ∙ ap (λ m. reached (total_of (bodies (k ∷ cases))) m behind) (none_more number))
      (is_here (start number behind (map case_total (k ∷ cases))) (starts (number + case_total k) behind (map case_total cases)));
}
  where
    none_more : (m : ℕ) → m ≡ m + 0
    none_more m = omega arith

labelled_later : (number behind n : ℕ) (k : Case) (cases : List Case) (at : ℕ × List Stmt) → IsLabelled (number + case_total k) behind (n + length (out-Case k).body) cases at → IsLabelled number behind n (k ∷ cases) at
labelled_later number behind n k cases at h = record {
  front = (out-Case k).body ++ h.front;
  whole = ap (λ (xs : List Stmt). (out-Case k).body ++ xs) h.whole ∙ sym (append_assoc (out-Case k).body h.front at.1);
  counts = (let l = length-append (out-Case k).body h.front in let c = h.counts in omega (arith, l, c));
  starts_there =
      later_in (start number behind (map case_total (k ∷ cases))) (reached (total_of at.1) (number + total_of ((out-Case k).body ++ h.front)) behind) (starts (number + case_total k) behind (map case_total cases))
      (subst (λ m. Contains (starts (number + case_total k) behind (map case_total cases)) (reached (total_of at.1) m behind)) (let t = total-append (out-Case k).body h.front in omega (arith, t)) h.starts_there);
}

labelled_by : (has : List (Option ℤ) → Bool) (number behind n : ℕ) (k : Case) (cases : List Case) (at : ℕ × List Stmt) (b : Bool) →
    (from_label has (n + length k.body) cases ≡ Some at → IsLabelled (number + case_total k) behind (n + length (out-Case k).body) cases at) →
    (if b then Some (n, bodies (k ∷ cases)) else from_label has (n + length k.body) cases) ≡ Some at → IsLabelled number behind n (k ∷ cases) at
labelled_by has number behind n k cases at true next e = subst (IsLabelled number behind n (k ∷ cases)) (same_Some (n, bodies (k ∷ cases)) at e) (labelled_first number behind n k cases)
labelled_by has number behind n k cases at false next e = labelled_later number behind n k cases at (next e)

pub labelled : (has : List (Option ℤ) → Bool) (number behind n : ℕ) (cases : List Case) (at : ℕ × List Stmt) → from_label has n cases ≡ Some at → IsLabelled number behind n cases at
labelled has number behind n [] at e = absurd (cc)
labelled has number behind n (k ∷ cases) at e =
    labelled_by has number behind n k cases at (has k.labels) (λ f. labelled has (number + case_total k) behind (n + length k.body) cases at f) e

-- ---- no default

default_same : (labels : List (Option ℤ)) → list_any is_default labels ≡ list_any is_none labels
default_same [] = refl
default_same (None ∷ labels) = refl
default_same (Some n ∷ labels) = default_same labels

undefaulted_by : (n : ℕ) (k : Case) (cases : List Case) (b : Bool) → list_any is_default k.labels ≡ b → (from_label (list_any is_default) (n + length k.body) cases ≡ None → has_default cases ≡ false) →
    (if b then Some (n, bodies (k ∷ cases)) else from_label (list_any is_default) (n + length k.body) cases) ≡ None → has_default (k ∷ cases) ≡ false
undefaulted_by n k cases true e next h = absurd (cc)
undefaulted_by n k cases false e next h = ap (λ (b : Bool). b || has_default cases) (sym (default_same (out-Case k).labels) ∙ e) ∙ next h

pub undefaulted : (n : ℕ) (cases : List Case) → from_label (list_any is_default) n cases ≡ None → has_default cases ≡ false
undefaulted n [] h = refl
undefaulted n (k ∷ cases) h = undefaulted_by n k cases (list_any is_default k.labels) refl (λ e. undefaulted (n + length k.body) cases e) h

pub start_goes : (own : Site) (cases : List Case) (m : ℕ) → Contains (starts (own.number + 1) own.behind (map case_total cases)) m → Contains (branches (may_pass (has_default cases) (map case_total cases)) own (map case_total cases)) m
start_goes own cases m h = (switch_goes (has_default cases) own (map case_total cases) m).1 (inl h)

pub behind_goes : (own : Site) (cases : List Case) → has_default cases ≡ false → Contains (branches (may_pass (has_default cases) (map case_total cases)) own (map case_total cases)) own.behind
behind_goes own cases e = (switch_goes (has_default cases) own (map case_total cases) own.behind).1 (inr (e, refl))
