-- Where tests lead, by the next points of their statement: to the starts of its lists, and behind it.
use Rattle.std.proofs.Common.{arith, ◌≡◌, ◌≤◌, ◌<◌, ◌⊎◌, inl, inr, ◌+◌, ◌-◌, ℕ, suc, ℤ, Bool, true, false, not, ◌||◌, nat_eq, nat_le, List, [], ◌∷◌, ◌++◌, map, length, Contains, Option, Some, None, slice_get, refl, ap, sym, ◌∙◌, subst}
use Rattle.std.specs.Prelude.{if◌then◌else◌, is_some}
use Rattle.std.specs.List.{list_any}
use Rattle.std.specs.Option.{option_or}
use Rattle.std.specs.Ordering.{int_eq}
use Rattle.std.proofs.lemmas.Bool.Decides.{Decides-int_eq}
use Rattle.std.proofs.lemmas.List.Elements.{Contains-append_left, Contains-append_right, Contains-append_cases}
use Rattle.std.proofs.lemmas.List.Sums.{sum_by-cons}
use Rattle.std.proofs.lemmas.Option.{same_Some}
use Rattle.cc_state_values_sound.specs.CcControl.Control.{bodies, from_label, is_label, is_default}
use Rattle.cc_rules.proofs.CcFlow.Tests.{zero_of, some_of, le_of, above_of}
use Rattle.cc_rules.specs.CcFlow.declared.next.Site.{Site}
use Rattle.cc_rules.specs.CcFlow.Laws.{start, starts}
use Rattle.cc_rules.specs.CcFlow.Next.{reached, head, heads, branches, is_zero, may_pass}
use Rattle.cc_rules.specs.CcFlow.Points.{total_of}
use Rattle.cc_rules.specs.CcFlow.View.{case_total, total_of_cases}
use Rattle.cc_rules.proofs.CcFlowSound.Opened.{total-append, total-bodies}
use Rattle.cc_rules.proofs.CcFlowSound.Places.{reached_some}
use Rattle.cc_rules.proofs.CcFlowSound.Starts.{first_arm, second_arm, labelled, undefaulted, start_goes, behind_goes}
use Rattle.cc_rules.specs.CcFlowSound.Sites.{arm_point, has_default}
use Rattle.cc_program.specs.declared.stmt.Case.{Case, out-Case}
use Rattle.cc_program.specs.declared.stmt.Stmt.{Stmt}
use Rattle.cc_proof_forms.specs.Branches.{case_point, switch_point}
use Rattle.cc_proof_rules.proofs.Lists.{in_first, in_rest, no_member, first_or_rest}
use Rattle.cc_proof_rules.specs.Outcomes.{test_of}
use Rattle.cc_rules.specs.CcRulesFlows.Nexts.{behind_in, side, label_test, all_constants, case_tests, choices, sides}
use Rattle.cc_rules.specs.CcRulesFlows.Tests.{Test, Is, Equals, Differs}

-- ---- the one next point that is not inside

abbrev all_of : List ℕ → ℕ
all_of [] = 0
all_of (count ∷ counts) = count + all_of counts

total_is : (cases : List Case) → all_of (map case_total cases) ≡ total_of_cases cases
total_is [] = refl
total_is (k ∷ cases) = let t = total_is cases in let s = sum_by-cons case_total k cases in omega (arith, t, s)

only_member : (n m : ℕ) → Contains (n ∷ []) m → n ≡ m
only_member n m c = elim (first_or_rest n [] m c) [ inl e ↦ e | inr r ↦ no_member m r ]

-- first points of lists are inside
heads_by : (number count m : ℕ) (counts : List ℕ) (b : Bool) → nat_eq count 0 ≡ b → (Contains (heads (number + count) counts) m → (number + count ≤ m) × (m < number + count + all_of counts)) →
    Contains (if b then [] else number ∷ []) m ⊎ Contains (heads (number + count) counts) m → (number ≤ m) × (m < number + (count + all_of counts))
heads_by number count m counts b e more (inr k) = let w = more k in (let l = w.0 in omega (arith, l), let l = w.1 in omega (arith, l))
heads_by number count m counts true e more (inl k) = no_member m k
heads_by number count m counts false e more (inl k) = let s = some_of count e in let same = only_member number m k in (omega (arith, same), omega (arith, same, s))

heads_in : (number : ℕ) (counts : List ℕ) (m : ℕ) → Contains (heads number counts) m → (number ≤ m) × (m < number + all_of counts)
heads_in number [] m h = no_member m h
heads_in number (count ∷ counts) m h = heads_by number count m counts (nat_eq count 0) refl (λ k. heads_in (number + count) counts m k) (Contains-append_cases (head number count) (heads (number + count) counts) m h)

abbrev pub IsOut : ℕ → ℕ → ℕ → Type 0
IsOut n size behind = (behind < n) ⊎ (n + size ≤ behind)

abbrev IsIn : ℕ → ℕ → ℕ → ℕ → Type 0
IsIn n size behind m = (m ≡ behind) ⊎ ((n < m) × (m < n + size))

clash : {C : Type 0} (n size behind k : ℕ) → IsOut n size behind → k ≡ behind → n < k → k < n + size → C
clash n size behind k (inl out) same low high = absurd (omega (arith, out, same, low))
clash n size behind k (inr out) same low high = absurd (omega (arith, out, same, high))

found_by : (n size behind k : ℕ) (next : List ℕ) → IsOut n size behind → IsIn n size behind k → (k ≡ behind) ⊎ Contains next behind → (Contains next behind → behind_in n size next ≡ behind) → (b c : Bool) → nat_le k n ≡ b → nat_le (n + size) k ≡ c →
    (if b || c then k else behind_in n size next) ≡ behind
found_by n size behind k next out (inl same) there more true c e g = same
found_by n size behind k next out (inr w) there more true c e g = absurd (let l = le_of k n e in let a = w.0 in omega (arith, l, a))
found_by n size behind k next out (inl same) there more false true e g = same
found_by n size behind k next out (inr w) there more false true e g = absurd (let l = le_of (n + size) k g in let a = w.1 in omega (arith, l, a))
found_by n size behind k next out inside (inl same) more false false e g = clash n size behind k out same (above_of k n e) (above_of (n + size) k g)
found_by n size behind k next out inside (inr there) more false false e g = more there

found_behind : (n size behind : ℕ) (next : List ℕ) → IsOut n size behind → ((m : ℕ) → Contains next m → IsIn n size behind m) → Contains next behind → behind_in n size next ≡ behind
found_behind n size behind [] out each there = no_member behind there
found_behind n size behind (k ∷ next) out each there =
    found_by n size behind k next out (each k (in_first k next)) (first_or_rest k next behind there) (λ c. found_behind n size behind next out (λ m i. each m (in_rest k next m i)) c) (nat_le k n) (nat_le (n + size) k) refl refl

branches_each : (own : Site) (counts : List ℕ) (m : ℕ) → Contains (branches true own counts) m → (m ≡ own.behind) ⊎ Contains (heads (own.number + 1) counts) m
branches_each own counts m h = by (nat_le own.behind own.number) h
  where
    by : (b : Bool) → Contains (if b then own.behind ∷ heads (own.number + 1) counts else heads (own.number + 1) counts ++ own.behind ∷ []) m → (m ≡ own.behind) ⊎ Contains (heads (own.number + 1) counts) m
    by true k = elim (first_or_rest own.behind (heads (own.number + 1) counts) m k) [ inl e ↦ inl (sym e) | inr r ↦ inr r ]
    by false k = elim (Contains-append_cases (heads (own.number + 1) counts) (own.behind ∷ []) m k) [ inl r ↦ inr r | inr r ↦ inl (sym (only_member own.behind m r)) ]

branches_has : (own : Site) (counts : List ℕ) → Contains (branches true own counts) own.behind
branches_has own counts = by (nat_le own.behind own.number)
  where
    by : (b : Bool) → Contains (if b then own.behind ∷ heads (own.number + 1) counts else heads (own.number + 1) counts ++ own.behind ∷ []) own.behind
    by true = in_first own.behind (heads (own.number + 1) counts)
    by false = Contains-append_right (heads (own.number + 1) counts) (own.behind ∷ []) own.behind (in_first own.behind [])

branches_behind : (passes : Bool) (own : Site) (counts : List ℕ) (size : ℕ) → size ≡ 1 + all_of counts → IsOut own.number size own.behind → passes ≡ true → behind_in own.number size (branches passes own counts) ≡ own.behind
branches_behind false own counts size e out h = absurd (cc)
branches_behind true own counts size e out h = found_behind own.number size own.behind (branches true own counts) out (λ m c. by m (branches_each own counts m c)) (branches_has own counts)
  where
    by : (m : ℕ) → (m ≡ own.behind) ⊎ Contains (heads (own.number + 1) counts) m → IsIn own.number size own.behind m
    by m (inl k) = inl k
    by m (inr k) = let w = heads_in (own.number + 1) counts m k in inr (let l = w.0 in omega (arith, l), let l = w.1 in omega (arith, l, e))

-- ---- an `if`

module _ (these those : List Stmt) (own : Site) where
  abbrev c : ℕ
  c = total_of these

  abbrev d : ℕ
  d = total_of those

  abbrev pub if_nexts : List ℕ
  if_nexts = branches (nat_eq c 0 || nat_eq d 0) own (c ∷ d ∷ [])

  or_true : (b : Bool) → (b || true) ≡ true
  or_true true = refl
  or_true false = refl

  pub side_is : (b : Bool) → IsOut own.number (1 + (c + d)) own.behind → side b own.number these those if_nexts ≡ arm_point b these those own
  side_is true out = by (nat_eq c 0) refl
    where
      by : (t : Bool) → nat_eq c 0 ≡ t → (if t then behind_in own.number (1 + (c + d)) if_nexts else own.number + 1) ≡ (if t then own.behind else own.number + 1)
      by true e = branches_behind (nat_eq c 0 || nat_eq d 0) own (c ∷ d ∷ []) (1 + (c + d)) (omega arith) out (ap (λ (t : Bool). t || nat_eq d 0) e)
      by false e = refl
  side_is false out = by (nat_eq d 0) refl
    where
      by : (t : Bool) → nat_eq d 0 ≡ t → (if t then behind_in own.number (1 + (c + d)) if_nexts else own.number + 1 + c) ≡ (if t then own.behind else own.number + 1 + c)
      by true e = branches_behind (nat_eq c 0 || nat_eq d 0) own (c ∷ d ∷ []) (1 + (c + d)) (omega arith) out (ap (λ (t : Bool). nat_eq c 0 || t) e ∙ or_true (nat_eq c 0))
      by false e = refl

  pub side_found : (b : Bool) → IsOut own.number (1 + (c + d)) own.behind → Contains {X = Test × ℕ} (sides own.number these those if_nexts) (Is b, arm_point b these those own)
  side_found true out = subst (λ (k : ℕ). Contains {X = Test × ℕ} (sides own.number these those if_nexts) (Is true, k)) (side_is true out) (in_first (Is true, side true own.number these those if_nexts) ((Is false, side false own.number these those if_nexts) ∷ []))
  side_found false out =
      subst (λ (k : ℕ). Contains {X = Test × ℕ} (sides own.number these those if_nexts) (Is false, k)) (side_is false out)
      (in_rest (Is true, side true own.number these those if_nexts) ((Is false, side false own.number these those if_nexts) ∷ []) (Is false, side false own.number these those if_nexts)
      (in_first (Is false, side false own.number these those if_nexts) []))

  pub arm_next : (b : Bool) → Contains if_nexts (arm_point b these those own)
  arm_next true = first_arm own c d
  arm_next false = second_arm own c d

-- ---- where the cases of a `switch` start, whatever is behind it, if the last one has statements

abbrev last_is_empty : List ℕ → Bool
last_is_empty counts = is_zero (slice_get counts (length counts - 1))

last_skips : (c d : ℕ) (counts : List ℕ) → last_is_empty (c ∷ d ∷ counts) ≡ last_is_empty (d ∷ counts)
last_skips c d counts =
    let e : length (c ∷ d ∷ counts) - 1 ≡ suc (length (d ∷ counts) - 1) = omega arith in
    ap (λ n. is_zero (slice_get (c ∷ d ∷ counts) n)) e

start_other : (number b c count : ℕ) (counts : List ℕ) → last_is_empty (count ∷ counts) ≡ false → start number b (count ∷ counts) ≡ start number c (count ∷ counts)
start_other number b c count [] h = ap (λ (t : Bool). if t then b else number) h ∙ sym (ap (λ (t : Bool). if t then c else number) h)
start_other number b c count (k ∷ counts) h = ap (λ (s : ℕ). if nat_eq count 0 then s else number) (start_other number b c k counts (sym (last_skips count k counts) ∙ h))

starts_other : (number b c : ℕ) (counts : List ℕ) → last_is_empty counts ≡ false → starts number b counts ≡ starts number c counts
starts_other number b c [] h = refl
starts_other number b c (count ∷ []) h = ap (λ (s : ℕ). s ∷ []) (start_other number b c count [] h)
starts_other number b c (count ∷ k ∷ counts) h =
    ap (λ (s : ℕ). s ∷ starts (number + count) b (k ∷ counts)) (start_other number b c count (k ∷ counts) h)
    ∙ ap (λ (l : List ℕ). start number c (count ∷ k ∷ counts) ∷ l) (starts_other (number + count) b c (k ∷ counts) (sym (last_skips count k counts) ∙ h))

start_by : (number behind : ℕ) (k : Case) (cases : List Case) → start number behind (map case_total cases) ≡ reached (total_of_cases cases) number behind → (b : Bool) → nat_eq (case_total k) 0 ≡ b →
    (if b then start number behind (map case_total cases) else number) ≡ reached (total_of_cases (k ∷ cases)) number behind
start_by number behind k cases h true e = h ∙ ap (λ n. reached n number behind) (let z = zero_of (case_total k) e in let one = sum_by-cons case_total k cases in omega (arith, z, one))
start_by number behind k cases h false e = sym (reached_some (total_of_cases (k ∷ cases)) number behind (let z = some_of (case_total k) e in let one = sum_by-cons case_total k cases in omega (arith, z, one)))

start_is : (number behind : ℕ) (cases : List Case) → start number behind (map case_total cases) ≡ reached (total_of_cases cases) number behind
start_is number behind [] = refl
start_is number behind (k ∷ cases) = start_by number behind k cases (start_is number behind cases) (nat_eq (case_total k) 0) refl

-- ---- the tests of a `switch`, by its own site

abbrev others : List Case → ℕ → List (Test × ℕ)
others cases behind = if has_default cases then [] else (Differs (all_constants cases), behind) ∷ []

abbrev tests_at : List Case → List ℕ → List (Test × ℕ)
tests_at cases points = case_tests (all_constants cases) cases points

module _ (cases : List Case) (own : Site) where
  abbrev counts : List ℕ
  counts = map case_total cases

  abbrev pub switch_nexts : List ℕ
  switch_nexts = branches (may_pass (has_default cases) counts) own counts

  abbrev found : ℕ
  found = behind_in own.number (1 + total_of_cases cases) switch_nexts

  abbrev choices_with : ℕ → List (Test × ℕ)
  choices_with behind = tests_at cases (starts (own.number + 1) behind counts) ++ others cases behind

  by_found : IsOut own.number (1 + total_of_cases cases) own.behind → may_pass (has_default cases) counts ≡ true → choices_with found ≡ choices_with own.behind
  by_found out h =
      ap choices_with (branches_behind (may_pass (has_default cases) counts) own counts (1 + total_of_cases cases) (let t = total_is cases in omega (arith, t)) out h)

  choices_by : IsOut own.number (1 + total_of_cases cases) own.behind → (b c : Bool) → has_default cases ≡ b → last_is_empty counts ≡ c → choices_with found ≡ choices_with own.behind
  choices_by out false c e g = by_found out (ap (λ (t : Bool). not t || last_is_empty counts) e)
  choices_by out true true e g = by_found out (ap (λ (t : Bool). not t || last_is_empty counts) e ∙ g)
  choices_by out true false e g =
      ap (λ (l : List ℕ). tests_at cases l ++ others cases found) (starts_other (own.number + 1) found own.behind counts g)
      ∙ ap (λ (t : Bool). tests_at cases (starts (own.number + 1) own.behind counts) ++ (if t then [] else (Differs (all_constants cases), found) ∷ [])) e
      ∙ sym (ap (λ (t : Bool). tests_at cases (starts (own.number + 1) own.behind counts) ++ (if t then [] else (Differs (all_constants cases), own.behind) ∷ [])) e)

  choices_are : IsOut own.number (1 + total_of_cases cases) own.behind → choices own.number cases switch_nexts ≡ choices_with own.behind
  choices_are out = choices_by out (has_default cases) (last_is_empty counts) refl refl

-- ---- labels

label_by : (all : List ℤ) (z n : ℤ) (labels : List (Option ℤ)) (k : ℕ) → (list_any (is_label z) labels ≡ true → Contains {X = Test × ℕ} (map (λ (l : Option ℤ). (label_test all l, k)) labels) (Equals z, k)) → (b : Bool) → int_eq z n ≡ b →
    (b || list_any (is_label z) labels) ≡ true → Contains {X = Test × ℕ} ((Equals n, k) ∷ map (λ (l : Option ℤ). (label_test all l, k)) labels) (Equals z, k)
label_by all z n labels k more true e h =
    subst (λ (m : ℤ). Contains {X = Test × ℕ} ((Equals m, k) ∷ map (λ (l : Option ℤ). (label_test all l, k)) labels) (Equals z, k)) ((Decides-int_eq z n).0 e) (in_first (Equals z, k) (map (λ (l : Option ℤ). (label_test all l, k)) labels))
label_by all z n labels k more false e h = in_rest (Equals n, k) (map (λ (l : Option ℤ). (label_test all l, k)) labels) (Equals z, k) (more h)

label_found : (all : List ℤ) (z : ℤ) (labels : List (Option ℤ)) (k : ℕ) → list_any (is_label z) labels ≡ true → Contains {X = Test × ℕ} (map (λ (l : Option ℤ). (label_test all l, k)) labels) (Equals z, k)
label_found all z [] k h = absurd (cc)
label_found all z (None ∷ labels) k h = in_rest (Differs all, k) (map (λ (l : Option ℤ). (label_test all l, k)) labels) (Equals z, k) (label_found all z labels k h)
label_found all z (Some n ∷ labels) k h = label_by all z n labels k (λ g. label_found all z labels k g) (int_eq z n) refl h

default_found : (all : List ℤ) (labels : List (Option ℤ)) (k : ℕ) → list_any is_default labels ≡ true → Contains {X = Test × ℕ} (map (λ (l : Option ℤ). (label_test all l, k)) labels) (Differs all, k)
default_found all [] k h = absurd (cc)
default_found all (None ∷ labels) k h = in_first (Differs all, k) (map (λ (l : Option ℤ). (label_test all l, k)) labels)
default_found all (Some n ∷ labels) k h = in_rest (Equals n, k) (map (λ (l : Option ℤ). (label_test all l, k)) labels) (Differs all, k) (default_found all labels k h)

labelled_by : (has : List (Option ℤ) → Bool) (n : ℕ) (k : Case) (cases : List Case) (o : Option (ℕ × List Stmt)) (b : Bool) → (from_label has (n + length k.body) cases ≡ o → list_any (λ (c : Case). has c.labels) cases ≡ is_some o) →
    (if b then Some (n, bodies (k ∷ cases)) else from_label has (n + length k.body) cases) ≡ o → (b || list_any (λ (c : Case). has c.labels) cases) ≡ is_some o
labelled_by has n k cases o true more e = ap is_some e
labelled_by has n k cases o false more e = more e

-- a case has such a label where there is one from which on control goes
labelled_is : (has : List (Option ℤ) → Bool) (n : ℕ) (cases : List Case) (o : Option (ℕ × List Stmt)) → from_label has n cases ≡ o → list_any (λ (c : Case). has c.labels) cases ≡ is_some o
labelled_is has n [] o e = ap is_some e
labelled_is has n (k ∷ cases) o e = labelled_by has n k cases o (has k.labels) (λ g. labelled_is has (n + length k.body) cases o g) e

-- ---- the test of a case stands with the start of the case

pub record IsChosen (test : Test) (all : List ℤ) (number behind : ℕ) (cases : List Case) (at : ℕ × List Stmt) : Type 0 where
  pub front : ℕ
  pub whole : total_of (bodies cases) ≡ front + total_of at.1
  pub there : Contains {X = Test × ℕ} (case_tests all cases (starts number behind (map case_total cases))) (test, reached (total_of at.1) (number + front) behind)

module _ (has : List (Option ℤ) → Bool) (test : Test) (all : List ℤ) (picks : (labels : List (Option ℤ)) (k : ℕ) → has labels ≡ true → Contains {X = Test × ℕ} (map (λ (l : Option ℤ). (label_test all l, k)) labels) (test, k)) where
  chosen_first : (number behind n : ℕ) (k : Case) (cases : List Case) → has k.labels ≡ true → IsChosen test all number behind (k ∷ cases) (n, bodies (k ∷ cases))
  chosen_first number behind n k cases h = record {
    front = 0;
    whole = omega arith;
    there =
        subst (λ (m : ℕ). Contains {X = Test × ℕ} (case_tests all (k ∷ cases) (starts number behind (map case_total (k ∷ cases)))) (test, m)) same
        (Contains-append_left (map (λ (l : Option ℤ). (label_test all l, first)) k.labels) (case_tests all cases (starts (number + case_total k) behind (map case_total cases))) (test, first) (picks k.labels first h));
  }
    where
      first : ℕ
      first = start number behind (map case_total (k ∷ cases))

      none_more : (m : ℕ) → m ≡ m + 0
      none_more m = omega arith

      same : start number behind (map case_total (k ∷ cases)) ≡ reached (total_of (bodies (k ∷ cases))) (number + 0) behind
      same =
          start_is number behind (k ∷ cases) ∙ ap (λ (m : ℕ). reached m number behind) (sym (total-bodies (k ∷ cases)))
          ∙ ap (λ (m : ℕ). reached (total_of (bodies (k ∷ cases))) m behind) (none_more number)

  chosen_later : (number behind : ℕ) (k : Case) (cases : List Case) (at : ℕ × List Stmt) → IsChosen test all (number + case_total k) behind cases at → IsChosen test all number behind (k ∷ cases) at
  chosen_later number behind k cases at h = record {
    front = case_total k + h.front;
    whole = (let t = total-append (out-Case k).body (bodies cases) in let w = h.whole in omega (arith, t, w));
    there =
        subst (λ (m : ℕ). Contains {X = Test × ℕ} (case_tests all (k ∷ cases) (starts number behind (map case_total (k ∷ cases)))) (test, reached (total_of at.1) m behind)) (together number (case_total k) h.front)
        (Contains-append_right (map (λ (l : Option ℤ). (label_test all l, start number behind (map case_total (k ∷ cases)))) k.labels) (case_tests all cases (starts (number + case_total k) behind (map case_total cases)))
        (test, reached (total_of at.1) (number + case_total k + h.front) behind) h.there);
  }
    where
      together : (a b c : ℕ) → a + b + c ≡ a + (b + c)
      together a b c = omega arith

  chosen_by : (number behind n : ℕ) (k : Case) (cases : List Case) (at : ℕ × List Stmt) (b : Bool) → has k.labels ≡ b → (from_label has (n + length k.body) cases ≡ Some at → IsChosen test all (number + case_total k) behind cases at) →
      (if b then Some (n, bodies (k ∷ cases)) else from_label has (n + length k.body) cases) ≡ Some at → IsChosen test all number behind (k ∷ cases) at
  chosen_by number behind n k cases at true h more e = subst (IsChosen test all number behind (k ∷ cases)) (same_Some (n, bodies (k ∷ cases)) at e) (chosen_first number behind n k cases h)
  chosen_by number behind n k cases at false h more e = chosen_later number behind k cases at (more e)

  chosen : (number behind n : ℕ) (cases : List Case) (at : ℕ × List Stmt) → from_label has n cases ≡ Some at → IsChosen test all number behind cases at
  chosen number behind n [] at e = absurd (cc)
  chosen number behind n (k ∷ cases) at e = chosen_by number behind n k cases at (has k.labels) refl (λ g. chosen (number + case_total k) behind (n + length k.body) cases at g) e

-- ---- where a `switch` leads by a number, by its test

module _ (z : ℤ) (cases : List Case) (own : Site) where
  abbrev all : List ℤ
  all = all_constants cases

  abbrev tests : List (Test × ℕ)
  tests = tests_at cases (starts (own.number + 1) own.behind (map case_total cases))

  less_is : (number front whole part : ℕ) → whole ≡ front + part → number + 1 + front ≡ number + 1 + (whole - part)
  less_is number front whole part e = omega (arith, e)

  in_cases : (test : Test) (at : ℕ × List Stmt) → IsChosen test all (own.number + 1) own.behind cases at → Contains {X = Test × ℕ} (choices_with cases own own.behind) (test, case_point cases own (Some at))
  in_cases test at h =
      Contains-append_left tests (others cases own.behind) (test, case_point cases own (Some at))
      (subst (λ (m : ℕ). Contains {X = Test × ℕ} tests (test, reached (total_of at.1) m own.behind)) (less_is own.number h.front (total_of (bodies cases)) (total_of at.1) h.whole) h.there)

  -- by whether a case has a label of the number
  abbrev TestBy : Bool → ℕ → Type 0
  TestBy b k = Contains {X = Test × ℕ} (choices_with cases own own.behind) (if b then Equals z else Differs all, k)

  test_by : (x y : Option (ℕ × List Stmt)) → from_label (list_any (is_label z)) 0 cases ≡ x → from_label (list_any is_default) 0 cases ≡ y →
      Contains {X = Test × ℕ} (choices_with cases own own.behind) (test_of z cases, case_point cases own (option_or x y))
  test_by (Some at) y e g =
      subst (λ (b : Bool). TestBy b (case_point cases own (Some at))) (sym (labelled_is (list_any (is_label z)) 0 cases (Some at) e))
      (in_cases (Equals z) at (chosen (list_any (is_label z)) (Equals z) all (λ labels k h. label_found all z labels k h) (own.number + 1) own.behind 0 cases at e))
  test_by None (Some at) e g =
      subst (λ (b : Bool). TestBy b (case_point cases own (Some at))) (sym (labelled_is (list_any (is_label z)) 0 cases None e))
      (in_cases (Differs all) at (chosen (list_any is_default) (Differs all) all (λ labels k h. default_found all labels k h) (own.number + 1) own.behind 0 cases at g))
  test_by None None e g =
      subst (λ (b : Bool). TestBy b own.behind) (sym (labelled_is (list_any (is_label z)) 0 cases None e))
      (Contains-append_right tests (others cases own.behind) (Differs all, own.behind)
      (subst (λ (b : Bool). Contains {X = Test × ℕ} (if b then [] else (Differs all, own.behind) ∷ []) (Differs all, own.behind)) (sym (undefaulted 0 cases g)) (in_first (Differs all, own.behind) [])))

  pub choice_found : IsOut own.number (1 + total_of_cases cases) own.behind → Contains {X = Test × ℕ} (choices own.number cases (switch_nexts cases own)) (test_of z cases, switch_point z cases own)
  choice_found out =
      subst (λ (l : List (Test × ℕ)). Contains {X = Test × ℕ} l (test_of z cases, switch_point z cases own)) (sym (choices_are cases own out))
      (test_by (from_label (list_any (is_label z)) 0 cases) (from_label (list_any is_default) 0 cases) refl refl)

  in_nexts : (has : List (Option ℤ) → Bool) (at : ℕ × List Stmt) → from_label has 0 cases ≡ Some at → Contains (switch_nexts cases own) (case_point cases own (Some at))
  in_nexts has at e =
      let h = labelled has (own.number + 1) own.behind 0 cases at e in
      let w : total_of (bodies cases) ≡ total_of h.front + total_of at.1 = ap total_of h.whole ∙ total-append h.front at.1 in
      subst (λ (m : ℕ). Contains (switch_nexts cases own) (reached (total_of at.1) m own.behind)) (less_is own.number (total_of h.front) (total_of (bodies cases)) (total_of at.1) w)
      (start_goes own cases (reached (total_of at.1) (own.number + 1 + total_of h.front) own.behind) h.starts_there)

  next_by : (x y : Option (ℕ × List Stmt)) → from_label (list_any (is_label z)) 0 cases ≡ x → from_label (list_any is_default) 0 cases ≡ y → Contains (switch_nexts cases own) (case_point cases own (option_or x y))
  next_by (Some at) y e g = in_nexts (list_any (is_label z)) at e
  next_by None (Some at) e g = in_nexts (list_any is_default) at g
  next_by None None e g = behind_goes own cases (undefaulted 0 cases g)

  pub choice_next : Contains (switch_nexts cases own) (switch_point z cases own)
  choice_next = next_by (from_label (list_any (is_label z)) 0 cases) (from_label (list_any is_default) 0 cases) refl refl
