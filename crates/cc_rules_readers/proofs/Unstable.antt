-- Tracked cells that handlers may write, function by function; and constraints that read what keys have in the whole run.
use Rattle.std.proofs.Common.{arith, ◌≡◌, ◌≤◌, ◌<◌, ◌+◌, ℕ, zero, suc, Bool, true, false, ◌&&◌, ◌||◌, List, [], ◌∷◌, ◌++◌, map, length, drop, get_or, append_assoc, append-nil, Option, Some, None, option_map, slice_get, unwrap_or, refl, sym, ap, ◌∙◌}
use Rattle.std.specs.Prelude.{option_and_then}
use Rattle.std.specs.List.{list_any}
use Rattle.std.proofs.lemmas.List.{at_drop_more, at_drop_all}
use Rattle.std.proofs.lemmas.List.Sums.{sum_by-cons}
use Rattle.std.proofs.lemmas.Option.{slice_get-map, slice_get-get_or, slice_get_within}
use Rattle.cc_rules_asked.proofs.CcFlow.Paths.{all_counted}
use Rattle.cc_rules_asked.specs.CcFlow.declared.types.Point.{Point}
use Rattle.cc_rules_asked.specs.CcFlow.Points.{count_in, body_count, flow_of}
use Rattle.cc_program.specs.declared.func.Func.{Func}
use Rattle.cc_program.specs.declared.program.Program.{Program}
use Rattle.cc_rules_asked.specs.CcRules.Constraints.{Flow, Stability}
use Rattle.cc_rules_again.specs.Again.{number_at, ids, at_each, does, does_in, read, through_pointers, is_entered, is_unstable}
use Rattle.cc_rules_again.specs.Named as is
use Rattle.cc_rules_asked.specs.Unstable.{AreCellKeysOf, key_at}
use Rattle.cc_rules_made.specs.declared.rules.Rules.{Rules}
use Rattle.cc_rules_made.specs.Rules.{AreOf}
use Rattle.cc_rules_asked.specs.CcRulesNeeds.Flowing.{numbers}
use Rattle.cc_rules_readers.specs.declared.deeds.Deed.{Deed}
use Rattle.cc_rules_readers.specs.declared.index.Index.{Index}
use Rattle.cc_rules_readers.specs.declared.naming.Named.{Named}
use Rattle.cc_rules_readers.specs.Index.{IsIndexOf}
use Rattle.cc_rules_readers.specs.Points.{points_that, reads_in, is_entered_by, concern_any, numbers_concerned, few_functions}
use Rattle.cc_rules_readers.specs.View.{named_view, IsDeedAt, AreDeeds}
use Rattle.cc_rules_readers.proofs.Doing.{as_long, at_those, read_deed}
use Rattle.cc_rules_readers.proofs.Numbers.{none_passes}
use Rattle.cc_rules_asked.specs.CcStateFacts.declared.facts.Facts.{Facts}
use Rattle.cc_rules_asked.specs.CcStateFacts.declared.facts.Key.TheVariants as key
use Rattle.cc_rules_asked.specs.CcStateFacts.Facts.{mark_of}
use Rattle.cc_rules_asked.specs.CcStateKeys.Keys.{key_number}
use Rattle.cc_rules_asked.specs.CcStateKeys.Lists.{only_if}
use Rattle.cc_rules_asked.specs.CcStateKeys.Tracked.{tracked}

-- ---- a loop that looks for one that passes

pub any_on : (test : ℕ → Bool) (xs : List ℕ) (i : ℕ) (b : Bool) → i < length xs → test (get_or xs i 0) ≡ false → list_any test (drop i xs) ≡ b → list_any test (drop (i + 1) xs) ≡ b
any_on test xs i b l f h = sym (ap (λ t. t || list_any test (drop (i + 1) xs)) f) ∙ (sym (at_drop_more (list_any test) xs i 0 l) ∙ h)

pub any_here : (test : ℕ → Bool) (xs : List ℕ) (i : ℕ) (b : Bool) → i < length xs → test (get_or xs i 0) ≡ true → list_any test (drop i xs) ≡ b → true ≡ b
any_here test xs i b l t h = sym (ap (λ t. t || list_any test (drop (i + 1) xs)) t) ∙ (sym (at_drop_more (list_any test) xs i 0 l) ∙ h)

pub any_none : (test : ℕ → Bool) (xs : List ℕ) (i : ℕ) (b : Bool) → length xs ≤ i → list_any test (drop i xs) ≡ b → false ≡ b
any_none test xs i b past h = sym (at_drop_all (list_any test) xs i past) ∙ h

-- ---- cells

entered_same : {I : Type 0} (p : Program) (facts : Facts I) (id : ℕ) (o : Option ℕ) → is_entered_by facts id o ≡ is_entered p facts id o
entered_same p facts id None = refl
entered_same p facts id (Some k) = refl

key_opened : (f : ℕ → Option ℕ) (x : Option ℕ) (i : ℕ) → x ≡ Some i → option_and_then (λ (k : Option ℕ). k) (option_map f x) ≡ f i
key_opened f x i e = ap (λ (y : Option ℕ). option_and_then (λ (k : Option ℕ). k) (option_map f y)) e

key_of_cell : (p : Program) (keys : List (Option ℕ)) (cells : List ℕ) (cell : ℕ) → AreCellKeysOf p keys → cells ≡ tracked p → cell < length cells → key_at keys cell ≡ key_number p (key.Object (get_or cells cell 0))
key_of_cell p keys cells cell are e l =
    ap (λ ks. key_at ks cell) are
    ∙ (ap (option_and_then (λ (k : Option ℕ). k)) (slice_get-map (λ i. key_number p (key.Object i)) (tracked p) cell)
    ∙ key_opened (λ i. key_number p (key.Object i)) (slice_get (tracked p) cell) (get_or cells cell 0) (ap (λ (xs : List ℕ). slice_get xs cell) (sym e) ∙ slice_get-get_or cells cell 0 l))

-- ---- the keys of tracked cells among some

pub put_among : (p : Program) (keys : is.Named) (xs : List ℕ) (i : ℕ) (found next whole : List (Option ℕ)) (b : Bool) (k : Option ℕ) → i < length xs → b ≡ is.concerns keys (key.Object (get_or xs i 0)) → k ≡ key_number p (key.Object (get_or xs i 0)) →
    next ≡ found ++ only_if b k → found ++ numbers_concerned p keys (drop i xs) ≡ whole → next ++ numbers_concerned p keys (drop (i + 1) xs) ≡ whole
put_among p keys xs i found next whole b k l among same put h =
    ap (λ (ns : List (Option ℕ)). ns ++ numbers_concerned p keys (drop (i + 1) xs)) put
    ∙ (append_assoc found (only_if b k) (numbers_concerned p keys (drop (i + 1) xs))
    ∙ (ap (λ (c : Bool). found ++ (only_if c k ++ numbers_concerned p keys (drop (i + 1) xs))) among
    ∙ (ap (λ (m : Option ℕ). found ++ (only_if (is.concerns keys (key.Object (get_or xs i 0))) m ++ numbers_concerned p keys (drop (i + 1) xs))) same
    ∙ (sym (at_drop_more (λ (ys : List ℕ). found ++ numbers_concerned p keys ys) xs i 0 l) ∙ h))))

pub all_among : (p : Program) (keys : is.Named) (xs : List ℕ) (i : ℕ) (found whole : List (Option ℕ)) → length xs ≤ i → found ++ numbers_concerned p keys (drop i xs) ≡ whole → found ≡ whole
all_among p keys xs i found whole past h =
    sym (append-nil found) ∙ (sym (at_drop_all (λ (ys : List ℕ). found ++ numbers_concerned p keys ys) xs i past) ∙ h)

pub number_of_cell : (p : Program) (rules : Rules) (cells : List ℕ) (keys : List (Option ℕ)) (cell : ℕ) (number : Option ℕ) → AreOf p rules → cells ≡ rules.tracked → keys ≡ rules.cell_keys → cell < length cells → number ≡ key_at keys cell →
    number ≡ key_number p (key.Object (get_or cells cell 0))
number_of_cell p rules cells keys cell number are e f l same =
    same ∙ key_of_cell p keys cells cell (f ∙ are.cell_keys) (e ∙ are.tracked) l

any_of : (test : Option ℕ → Bool) (b : Bool) (k : Option ℕ) (ks : List (Option ℕ)) → list_any test (only_if b k ++ ks) ≡ ((b && test k) || list_any test ks)
any_of test true k ks = refl
any_of test false k ks = refl

-- one of them may be written exactly where a tracked cell among the keys may
pub entered_concerned : {I : Type 0} (p : Program) (facts : Facts I) (keys : is.Named) (id : ℕ) (xs : List ℕ) → list_any (is_entered_by facts id) (numbers_concerned p keys xs) ≡ list_any (λ i. is.concerns keys (key.Object i) && is_entered p facts id (key_number p (key.Object i))) xs
entered_concerned p facts keys id [] = refl
entered_concerned p facts keys id (x ∷ xs) =
    any_of (is_entered_by facts id) (is.concerns keys (key.Object x)) (key_number p (key.Object x)) (numbers_concerned p keys xs)
    ∙ (ap (λ (c : Bool). (is.concerns keys (key.Object x) && c) || list_any (is_entered_by facts id) (numbers_concerned p keys xs)) (entered_same p facts id (key_number p (key.Object x)))
    ∙ ap (λ (c : Bool). (is.concerns keys (key.Object x) && is_entered p facts id (key_number p (key.Object x))) || c) (entered_concerned p facts keys id xs))

-- ---- functions

number_at_place : (k n i : ℕ) → i < n → slice_get (numbers k n) i ≡ Some (k + i)
number_at_place k zero i l = absurd (omega (arith, l))
number_at_place k (suc n) zero l = ap Some (omega arith)
number_at_place k (suc n) (suc i) l = number_at_place (suc k) n i (omega (arith, l)) ∙ ap Some (omega arith)

mark_made : (f : ℕ → Bool) (n i : ℕ) → i < n → mark_of (map f (numbers 0 n)) i ≡ f i
mark_made f n i l =
    ap (λ (o : Option Bool). unwrap_or o false) (slice_get-map f (numbers 0 n) i ∙ ap (option_map f) (number_at_place 0 n i l))
    ∙ ap f (omega arith)

within_count : (funcs : List Func) → length funcs ≤ count_in funcs
within_count [] = omega arith
within_count (f ∷ funcs) = let r = within_count funcs in let s = sum_by-cons (λ (f : Func). body_count f.body) f funcs in omega (arith, r, s)

pub functions_few : (p : Program) (rules : Rules) (index : Index) → AreOf p rules → IsIndexOf p index → few_functions rules
functions_few p rules index are is =
    let c = are.functions.count in
    let w = within_count p.funcs in
    let l = as_long (IsDeedAt p) (flow_of p).points index.deeds is.deeds in
    let all = all_counted p in
    let few = is.lists.few in
    omega (arith, c, w, l, all, few)

-- ---- constraints at points

module _ {I : Type 0} (p : Program) (facts : Facts I) (keys : is.Named) where
  abbrev unstable : ℕ → Bool
  unstable id = is_unstable p facts keys id

  none_by : (b c rest : Bool) (others : Bool) → (b || rest) ≡ false → (rest ≡ false → others ≡ false) → ((b && c) || others) ≡ false
  none_by true c rest others h k = absurd (let e : true ≡ false = h in cc)
  none_by false c rest others h k = k h

  none_any : (objects : List ℕ) → concern_any keys objects ≡ false → (other : ℕ → Bool) → list_any (λ i. is.concerns keys (key.Object i) && other i) objects ≡ false
  none_any [] h other = refl
  none_any (i ∷ objects) h other =
      none_by (is.concerns keys (key.Object i)) (other i) (concern_any keys objects) (list_any (λ i. is.concerns keys (key.Object i) && other i) objects) h (λ k. none_any objects k other)

  not_unstable : concern_any keys (tracked p) ≡ false → (id : ℕ) → unstable id ≡ false
  not_unstable h id = none_any (tracked p) h (λ i. is_entered p facts id (key_number p (key.Object i)))

  pub none_unstable : concern_any keys (tracked p) ≡ false → at_each p Stability (λ id act. unstable id) ≡ []
  none_unstable h = ap (map (number_at Stability)) (none_passes (λ n. does p (λ id act. unstable id) (slice_get (flow_of p).points n)) 0 (length (flow_of p).points) (λ g l m. by (slice_get (flow_of p).points g)))
    where
      in_function : (q : Point) (o : Option Func) → does_in p (λ id act. unstable id) q o ≡ false
      in_function q None = refl
      in_function q (Some f) = not_unstable h q.func

      by : (o : Option Point) → does p (λ id act. unstable id) o ≡ false
      by None = refl
      by (Some q) = in_function q (slice_get p.funcs q.func)

  pub unstable_at : (deeds : List Deed) (marks : List Bool) → AreDeeds p deeds → marks ≡ map unstable (ids p) → at_each p Stability (λ id act. unstable id) ≡ map (number_at Stability) (points_that deeds (λ deed. mark_of marks deed.func))
  unstable_at deeds marks are e =
      at_those p deeds are (λ id act. unstable id) (λ deed. mark_of marks deed.func)
      (λ id f act deed there by. sym (ap (mark_of marks) by.func ∙ (ap (λ (ms : List Bool). mark_of ms id) e ∙ mark_made unstable (length p.funcs) id (slice_get_within p.funcs id f there)))) Stability

module _ (p : Program) (deeds : List Deed) (are : AreDeeds p deeds) where
  pub each_stability : at_each p Stability (λ id act. true) ≡ map (number_at Stability) (points_that deeds (λ deed. true))
  each_stability = at_those p deeds are (λ id act. true) (λ deed. true) (λ id f act deed there by. refl) Stability

  pub pointer_reads : through_pointers p ≡ map (number_at Flow) (points_that deeds (λ deed. is.is_each (named_view deed.read)))
  pointer_reads = at_those p deeds are (λ id act. is.is_each (read p id act)) (λ deed. is.is_each (named_view deed.read)) (λ id f act deed there by. ap is.is_each (sym (read_deed p id act deed by))) Flow

  pub named_reads : (keys : Named) → at_each p Flow (λ id act. is.is_named (named_view keys) (read p id act)) ≡ map (number_at Flow) (points_that deeds (reads_in keys))
  named_reads keys = at_those p deeds are (λ id act. is.is_named (named_view keys) (read p id act)) (reads_in keys) (λ id f act deed there by. ap (is.is_named (named_view keys)) (sym (read_deed p id act deed by))) Flow
