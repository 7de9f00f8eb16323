-- Lists of what is asked, and the needs that they stand for; keys among those of a program.
use Rattle.std.proofs.Common.{arith, ◌≡◌, ◌<◌, ◌≤◌, ◌⊎◌, inl, inr, ℕ, ◌+◌, Bool, true, false, true≢false, ◌&&◌, cond, nat_lt, List, [], ◌∷◌, ◌++◌, map, length, take, get_or, append_assoc, All, Contains, Option, Some, None, is_some, ◌==◌, position, refl, ap, sym, subst, ◌∙◌}
use Rattle.std.specs.List.{filter, flat_map, position_or_len}
use Rattle.std.proofs.lemmas.Bool.{eq-eqb, cases_lt}
use Rattle.std.proofs.lemmas.List.{take_more, map_push}
use Rattle.std.proofs.lemmas.List.Elements.{All-contains_itself, All-filter, All-weaker}
use Rattle.std.proofs.lemmas.List.Sums.{fails_before_first}
use Rattle.cc_program.specs.declared.program.Program.{Program}
use Rattle.cc_rules_asked.specs.declared.asked.Asked.{Asked}
use Rattle.cc_rules_asked.specs.declared.asked.Asked.TheVariants as asked
use Rattle.cc_rules_asked.specs.Asked.{needs_of, all_needs}
use Rattle.cc_rules_asked.specs.Asks.{AreNumbered}
use Rattle.cc_rules.specs.CcRulesNeeds.declared.needs.Part.{Part}
use Rattle.cc_rules.specs.CcRulesNeeds.declared.needs.Slot.{Slot}
use Rattle.cc_rules.specs.CcRulesNeeds.Needs.{Needs}
use Rattle.cc_rules.specs.CcStateFacts.declared.facts.Key.{Key}
use Rattle.cc_rules.specs.CcStateFacts.declared.facts.Key.TheVariants as key
use Rattle.cc_rules.specs.CcStateKeys.Keys.{is_key, key_number}

module _ {I : Type 0} (p : Program) where
  -- the same part of each of some slots
  pub parts : {A : Type 0} (slot : A → Slot) (part : A → Part I) (xs : List A) → all_needs p (map (λ x. asked.Part (slot x) (part x)) xs) ≡ map (λ x. (slot x, part x)) xs
  parts slot part [] = refl
  parts slot part (x ∷ xs) = ap (λ rest. (slot x, part x) ∷ rest) (parts slot part xs)

  pub parts_behind : (before behind : List (Asked I)) → all_needs p (before ++ behind) ≡ all_needs p before ++ all_needs p behind
  parts_behind [] behind = refl
  parts_behind (a ∷ before) behind = ap (λ rest. needs_of p a ++ rest) (parts_behind before behind) ∙ sym (append_assoc (needs_of p a) (all_needs p before) (all_needs p behind))

-- ---- a key of a list stands somewhere in it

itself : (k : Key) → is_key k k ≡ true
itself (key.Object i) = eq-eqb i i refl
itself (key.Local f r) = ap (λ b. b && (r == r)) (eq-eqb f f refl) ∙ eq-eqb r r refl
itself (key.Member s m) = ap (λ b. b && (m == m)) (eq-eqb s s refl) ∙ eq-eqb m m refl

first_below : {X : Type 0} (f : X → Bool) (xs : List X) (x : X) (k : ℕ) → k < length xs → get_or xs k x ≡ x → f x ≡ true → (position_or_len f xs < length xs) ⊎ (length xs ≤ position_or_len f xs) → position_or_len f xs < length xs
first_below f xs x k h e t (inl l) = l
first_below f xs x k h e t (inr l) =
    let no : f (get_or xs k x) ≡ false = fails_before_first f xs k x (omega (arith, h, l)) in
    absurd (true≢false (sym t ∙ (ap f (sym e) ∙ no)))

found_by : (n m : ℕ) → n < m → is_some (cond (nat_lt n m) (Some n) None) ≡ true
found_by n m h = grind arith

pub stands_somewhere : (k : Key) (keys : List Key) → Contains keys k → is_some (position (is_key k) keys) ≡ true
stands_somewhere k keys c = found_by (position_or_len (is_key k) keys) (length keys) (first_below (is_key k) keys k c.0 c.1 c.2 (itself k) (cases_lt (position_or_len (is_key k) keys) (length keys)))

pub stand : (keys : List Key) → All (λ k. is_some (position (is_key k) keys) ≡ true) keys
stand keys = All-weaker (Contains keys) (λ k. is_some (position (is_key k) keys) ≡ true) (λ k c. stands_somewhere k keys c) keys (All-contains_itself keys)

-- those that pass some test, too
pub stand_kept : (test : Key → Bool) (keys named : List Key) → named ≡ filter test keys → All (λ k. is_some (position (is_key k) keys) ≡ true) named
stand_kept test keys named e = subst (All (λ k. is_some (position (is_key k) keys) ≡ true)) (sym e) (All-filter test (λ k. is_some (position (is_key k) keys) ≡ true) keys (stand keys))

-- the number of one more key
pub numbered_on : (p : Program) (named : List Key) (now new : List ℕ) (i : ℕ) (d : Key) (n : ℕ) → AreNumbered p (take i named) now → key_number p (get_or named i d) ≡ Some n → new ≡ now ++ (n ∷ []) → i < length named →
    AreNumbered p (take (i + 1) named) new
numbered_on p named now new i d n h k e l =
    ap (map (key_number p)) (take_more named i d l) ∙ (map_push (key_number p) (take i named) (get_or named i d)
    ∙ (ap (λ xs. xs ++ (key_number p (get_or named i d) ∷ [])) h ∙ (ap (λ y. map Some now ++ (y ∷ [])) k ∙ (sym (map_push Some now n) ∙ ap (map Some) (sym e)))))
