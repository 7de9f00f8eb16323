-- The first row that breaks a rule, as rows are gone over one after another.
use Rattle.std.proofs.Common.{◌≡◌, ◌∙◌, ◌<◌, ◌≤◌, ◌+◌, ℕ, Bool, true, false, List, [], ◌∷◌, ◌++◌, length, get_or, take, drop, map, refl, ap, sym, Some, None, arith, append_assoc, length-append}
use Rattle.std.specs.Option.{is_some}
use Rattle.std.specs.Prelude.{filter_map, if◌then◌else◌, codes}
use Rattle.std.proofs.lemmas.List.{drop_more, map-append, at_drop_all}
use Rattle.std.proofs.lemmas.List.Elements.{filter_map-append}
use Rattle.cc_cost.specs.declared.setting.Setting.{Setting}
use Rattle.cc_cost.specs.declared.setting.Line.{Line}
use Rattle.cc_cost.specs.declared.setting.Line.TheVariants as line
use Rattle.cc_cost.specs.Settings.{Thing, thing_of, given, role_of, settings_of}
use Rattle.cc_cost.specs.Rules.{defaults, taken, line_rule, or_later, first_from}
use Rattle.cc_cost.specs.Sets.{insert_default}
use Rattle.cc_cost.proofs.LineLemmas.{settings-more}

-- ---- the names of intrinsics without a row

default_if : Bool → List ℕ → List (List ℕ)
default_if b name = if b then [] else name ∷ []

inserted : (a b c d : Bool) → insert_default d (codes "irq_restore") (insert_default c (codes "irq_save") (insert_default b (codes "irq_on") (insert_default a (codes "irq_off") [])))
    ≡ (if a then [] else codes "irq_off" ∷ []) ++ (if b then [] else codes "irq_on" ∷ []) ++ (if c then [] else codes "irq_save" ∷ []) ++ (if d then [] else codes "irq_restore" ∷ [])
inserted true true true true = refl
inserted true true true false = refl
inserted true true false true = refl
inserted true true false false = refl
inserted true false true true = refl
inserted true false true false = refl
inserted true false false true = refl
inserted true false false false = refl
inserted false true true true = refl
inserted false true true false = refl
inserted false true false true = refl
inserted false true false false = refl
inserted false false true true = refl
inserted false false true false = refl
inserted false false false true = refl
inserted false false false false = refl

pub defaults-inserted : (s : List Setting) (n1 n2 n3 n4 : List (List ℕ)) → n1 ≡ insert_default (is_some (given (codes "intrinsic") (codes "off") s)) (codes "irq_off") []
    → n2 ≡ insert_default (is_some (given (codes "intrinsic") (codes "on") s)) (codes "irq_on") n1
    → n3 ≡ insert_default (is_some (given (codes "intrinsic") (codes "save") s)) (codes "irq_save") n2
    → n4 ≡ insert_default (is_some (given (codes "intrinsic") (codes "restore") s)) (codes "irq_restore") n3
    → n4 ≡ defaults s
defaults-inserted s n1 n2 n3 n4 h1 h2 h3 h4 =
    rw (h4, h3, h2, h1) (inserted (is_some (given (codes "intrinsic") (codes "off") s)) (is_some (given (codes "intrinsic") (codes "on") s))
    (is_some (given (codes "intrinsic") (codes "save") s)) (is_some (given (codes "intrinsic") (codes "restore") s)))

-- ---- rows that break no rule

-- the first i rows break no rule: what they are for, and the names of roles behind them
pub record Came (lines : List Line) (i row : ℕ) (things : List Thing) (names : List (List ℕ)) : Type 0 where
  pub fault : first_from (settings_of lines) [] lines ≡ first_from (settings_of lines) (settings_of (take i lines)) (drop i lines)
  pub count : length (settings_of (take i lines)) ≡ i
  pub number : row ≡ i
  pub met : things ≡ map thing_of (settings_of (take i lines))
  pub known : names ≡ taken (settings_of lines) (settings_of (take i lines))

pub came-none : (lines : List Line) (things : List Thing) (names : List (List ℕ)) → things ≡ [] → names ≡ defaults (settings_of lines) → Came lines 0 0 things names
came-none lines things names h k = record {
  fault = refl;
  count = refl;
  number = refl;
  met = h;
  known = k ∙ sym (append-nil (defaults (settings_of lines)));
}
  where
    append-nil : (xs : List (List ℕ)) → xs ++ [] ≡ xs
    append-nil [] = refl
    append-nil (x ∷ xs) = ap (λ ys. x ∷ ys) (append-nil xs)

next : (lines : List Line) (i row : ℕ) (l : Line) (things : List Thing) (names : List (List ℕ)) → i < length lines → l ≡ get_or lines i l → Came lines i row things names
    → first_from (settings_of lines) [] lines
    ≡ or_later (line_rule things names l) (i + 1) (first_from (settings_of lines) (settings_of (take i lines) ++ settings_of (l ∷ [])) (drop (i + 1) lines))
unfolding first_from
next lines i row l things names h e c =
    c.fault ∙ ap (first_from (settings_of lines) (settings_of (take i lines))) (drop_more lines i l h ∙ ap (λ m. m ∷ drop (i + 1) lines) (sym e))
    ∙ ap (λ t. or_later (line_rule t (taken (settings_of lines) (settings_of (take i lines))) l) (length (settings_of (take i lines)) + 1) (first_from (settings_of lines) (settings_of (take i lines) ++ settings_of (l ∷ [])) (drop (i + 1) lines))) (sym c.met)
    ∙ ap (λ n. or_later (line_rule things n l) (length (settings_of (take i lines)) + 1) (first_from (settings_of lines) (settings_of (take i lines) ++ settings_of (l ∷ [])) (drop (i + 1) lines))) (sym c.known)
    ∙ ap (λ n. or_later (line_rule things names l) (n + 1) (first_from (settings_of lines) (settings_of (take i lines) ++ settings_of (l ∷ [])) (drop (i + 1) lines))) c.count

-- a row that breaks no rule says something
says-one : (things : List Thing) (names : List (List ℕ)) (l : Line) → line_rule things names l ≡ None → length (settings_of (l ∷ [])) ≡ 1
says-one things names (line.Says s) h = refl
says-one things names (line.Breaks rule) h = cc h

pub came-more : (lines : List Line) (i row : ℕ) (l : Line) (things things2 : List Thing) (names names2 : List (List ℕ)) → i < length lines → l ≡ get_or lines i l → Came lines i row things names
    → None ≡ line_rule things names l → things2 ≡ things ++ map thing_of (settings_of (l ∷ [])) → names2 ≡ names ++ filter_map role_of (settings_of (l ∷ []))
    → Came lines (i + 1) (row + 1) things2 names2
came-more lines i row l things things2 names names2 h e c none t n =
    let before = settings_of (take i lines) in
    let more : settings_of (take (i + 1) lines) ≡ before ++ settings_of (l ∷ []) = settings-more lines i l h ∙ ap (λ m. before ++ settings_of (m ∷ [])) (sym e) in
    let size = says-one things names l (sym none) in
    let joined = length-append before (settings_of (l ∷ [])) in
    let sized = ap length more in
    let counted = c.count in
    record {
      fault = next lines i row l things names h e c ∙ rw (sym none) (rw more refl);
      count = omega (arith, size, joined, sized, counted);
      number = ap (λ k. k + 1) c.number;
      met = t ∙ ap (λ m. m ++ map thing_of (settings_of (l ∷ []))) c.met ∙ sym (map-append thing_of before (settings_of (l ∷ []))) ∙ ap (map thing_of) (sym more);
      known = n ∙ ap (λ m. m ++ filter_map role_of (settings_of (l ∷ []))) c.known
          ∙ append_assoc (defaults (settings_of lines)) (filter_map role_of before) (filter_map role_of (settings_of (l ∷ [])))
          ∙ ap (λ m. defaults (settings_of lines) ++ m) (sym (filter_map-append role_of before (settings_of (l ∷ []))) ∙ ap (filter_map role_of) (sym more));
    }

pub came-fault : (lines : List Line) (i row rule : ℕ) (l : Line) (things : List Thing) (names : List (List ℕ)) → i < length lines → l ≡ get_or lines i l → Came lines i row things names
    → Some rule ≡ line_rule things names l → Some (row + 1, rule) ≡ first_from (settings_of lines) [] lines
came-fault lines i row rule l things names h e c r = sym (next lines i row l things names h e c ∙ rw (sym r) (ap (λ k. Some (k + 1, rule)) (sym c.number)))

pub came-all : (lines : List Line) (i row : ℕ) (things : List Thing) (names : List (List ℕ)) → length lines ≤ i → Came lines i row things names → None ≡ first_from (settings_of lines) [] lines
unfolding first_from
came-all lines i row things names h c = sym (c.fault ∙ at_drop_all (first_from (settings_of lines) (settings_of (take i lines))) lines i h)

pub came-number : (lines : List Line) (i row : ℕ) (things : List Thing) (names : List (List ℕ)) → Came lines i row things names → row ≡ i
came-number lines i row things names c = c.number

pub ruleset of_defaults = (defaults-inserted)

pub ruleset of_faults = (came-none, came-more, came-fault, came-all, came-number)
