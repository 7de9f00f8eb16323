-- No parameter whose number has more than 32 bits has a key.
use Rattle.std.proofs.Common.{arith, ◌≡◌, ◌≤◌, ◌<◌, ◌^◌, ◌+◌, ◌==◌, ◌&&◌, ℕ, Bool, true, false, nat_lt, List, [], ◌∷◌, ◌++◌, length, All, Some, None, refl, sym, subst}
use Rattle.std.specs.Prelude.{cond, position}
use Rattle.std.specs.List.{position_or_len}
use Rattle.std.proofs.lemmas.List.Elements.{All-append, All-cons, All-nil, All-head, All-tail}
use Rattle.std.proofs.lemmas.List.Sums.{position_or_len_is}
use Rattle.cc_program.specs.declared.func.Func.{Func}
use Rattle.cc_program.specs.declared.program.Program.{Program}
use Rattle.cc_program.specs.declared.types.Structure.{Structure}
use Rattle.cc_rules_calls.proofs.Listed.{differ}
use Rattle.cc_state_points.specs.CcStateFacts.declared.facts.Key.{Key}
use Rattle.cc_state_points.specs.CcStateFacts.declared.facts.Key.TheVariants as key
use Rattle.cc_state_points.specs.CcStateKeys.Keys.{is_key, keys_of, key_number, has_object_key, has_local_key, has_member_key, local_keys, member_keys}
use Rattle.cc_state_points.specs.CcStateKeys.Lists.{only_if, made_from, all_from}

not_less : (n : ℕ) → nat_lt n n ≡ false
not_less n = grind arith

none_there : {A : Type 0} (test : A → Bool) (d : A) (xs : List A) → All (λ x. test x ≡ false) xs → position test xs ≡ None
none_there test d xs h =
    let past : position_or_len test xs ≡ length xs = position_or_len_is test xs (length xs) d (omega arith) (λ k l. h k d l) (λ l. absurd (omega (arith, l))) in
    subst (λ n. cond (nat_lt n (length xs)) (Some n) None ≡ None) (sym past) (subst (λ b. cond b (Some (length xs)) None ≡ None) (sym (not_less (length xs))) refl)

one_apart : {B : Type 0} (test : B → Bool) (b : Bool) (x : B) (xs : List B) → test x ≡ false → All (λ x. test x ≡ false) xs → All (λ x. test x ≡ false) (only_if b x ++ xs)
one_apart test true x xs e h = All-cons (λ x. test x ≡ false) x xs e h
one_apart test false x xs e h = h

made_apart : {A B : Type 0} (test : B → Bool) (passes : ℕ → A → Bool) (make : ℕ → B) (n m : ℕ) (list : List A) → n + length list ≤ m → ((q : ℕ) → q < m → test (make q) ≡ false) → All (λ x. test x ≡ false) (made_from passes make n list)
made_apart test passes make n m [] l h = All-nil (λ x. test x ≡ false)
made_apart test passes make n m (a ∷ list) l h =
    one_apart test (passes n a) (make n) (made_from passes make (n + 1) list) (h n (omega (arith, l))) (made_apart test passes make (n + 1) m list (omega (arith, l)) h)

module _ (g r : ℕ) (far : 2 ^ 32 ≤ r) where
  abbrev test : Key → Bool
  test k = is_key (key.Local g r) k

  abbrev Apart : List Key → Type 0
  Apart keys = All (λ k. test k ≡ false) keys

  last_fails : (a b : Bool) → b ≡ false → a && b ≡ false
  last_fails true b e = e
  last_fails false b e = refl

  local_apart : (id : ℕ) (f : Func) → length f.locals < 2 ^ 32 → Apart (local_keys id f)
  local_apart id f few =
      made_apart test (has_local_key f) (key.Local id) 0 (length f.locals) f.locals (omega arith) (λ q l. last_fails (g == id) (r == q) (differ r q (λ e. omega (arith, e, l, few, far))))

  locals_apart : (n : ℕ) (funcs : List Func) → All (λ (f : Func). length f.locals < 2 ^ 32) funcs → Apart (all_from local_keys n funcs)
  locals_apart n [] h = All-nil (λ k. test k ≡ false)
  locals_apart n (f ∷ funcs) h =
      All-append (λ k. test k ≡ false) (local_keys n f) (all_from local_keys (n + 1) funcs) (local_apart n f (All-head (λ (f : Func). length f.locals < 2 ^ 32) f funcs h))
      (locals_apart (n + 1) funcs (All-tail (λ (f : Func). length f.locals < 2 ^ 32) f funcs h))

  members_apart : (n : ℕ) (structures : List Structure) → Apart (all_from member_keys n structures)
  members_apart n [] = All-nil (λ k. test k ≡ false)
  members_apart n (s ∷ structures) =
      All-append (λ k. test k ≡ false) (member_keys n s) (all_from member_keys (n + 1) structures)
      (made_apart test has_member_key (key.Member n) 0 (length s.members) s.members (omega arith) (λ q l. refl)) (members_apart (n + 1) structures)

  pub far_parameter : (p : Program) → All (λ (f : Func). length f.locals < 2 ^ 32) p.funcs → key_number p (key.Local g r) ≡ None
  far_parameter p few =
      none_there test (key.Local g r) (keys_of p)
      (All-append (λ k. test k ≡ false) (made_from has_object_key key.Object 0 p.objects) (all_from local_keys 0 p.funcs ++ all_from member_keys 0 p.structures)
      (made_apart test has_object_key key.Object 0 (length p.objects) p.objects (omega arith) (λ q l. refl))
      (All-append (λ k. test k ≡ false) (all_from local_keys 0 p.funcs) (all_from member_keys 0 p.structures) (locals_apart 0 p.funcs few) (members_apart 0 p.structures)))
