-- An expression does the same where more static objects stand behind those that it may name. Objects behind have two other numbers each, so what is
-- the same by both names none of them.
use Rattle.std.proofs.Common.{◌≡◌, ◌∙◌, ◌<◌, ◌≤◌, ◌+◌, ◌∷◌, ◌⊎◌, inl, inr, arith, ℕ, Bool, true, false, List, [], length, map, Option, Some, None, option_map, slice_get, refl, ap, sym, if◌then◌else◌}
use Rattle.std.specs.Prelude.{nat_lt}
use Rattle.std.proofs.lemmas.Bool.{true≢false, cases_Bool, ltb-true, lt-ltb}
use Rattle.std.proofs.lemmas.Option.{slice_get_past}
use Rattle.cc_states.specs.CcEval.declared.action.Action.{Action}
use Rattle.cc_states.specs.CcEval.declared.action.Action.TheVariants.{Read, Write, Choose, Call, Flag, Save}
use Rattle.cc_states.specs.CcEval.declared.mark.Mark.{Mark}
use Rattle.cc_states.specs.CcEval.declared.mark.Mark.TheVariants.{Gave, Did, Chose}
use Rattle.cc_states.specs.CcEval.Eval.{meaning}
use Rattle.cc_states.specs.CcEval.Progress.{Progress, Known, Waits, Traps}
use Rattle.cc_program.specs.declared.expr.Expr.{Expr}
use Rattle.cc_program.specs.declared.func.Func.{Func}
use Rattle.cc_program.specs.declared.object.Object.{Object}
use Rattle.cc_program.specs.declared.program.Program.{Program}
use Rattle.cc_program.specs.declared.types.CType.{CType}
use Rattle.cc_program.specs.declared.value.Address.{Address}
use Rattle.cc_program.specs.declared.value.Address.TheVariants as address
use Rattle.cc_program.specs.declared.value.Cell.{Cell}
use Rattle.cc_program.specs.declared.value.Cell.TheVariants as cell
use Rattle.cc_program.specs.declared.value.Root.{Root}
use Rattle.cc_program.specs.declared.value.Root.TheVariants as root
use Rattle.cc_program.specs.declared.value.Value.{Value}
use Rattle.cc_program.specs.declared.value.Value.TheVariants.{Int, Place}
use Rattle.cc_states.specs.CcSyntax.Effects.{Registers}
use Rattle.cc_rewrite_addresses.specs.Behind.{StandInFront, is_before, with_objects_behind}
use Rattle.cc_rewrite_addresses.specs.Holds.{Every, MayIn, MarkIn}
use Rattle.cc_rewrite_renamed.specs.Names.{names_in_address, names_in_expr}
use Rattle.cc_rewrite_renamed.specs.Objects.{root_renamed, address_renamed}
use Rattle.cc_rewrite_renamed.specs.Renaming.{value_renamed, may_renamed, cell_renamed, action_renamed, mark_renamed, marks_renamed, progress_renamed, AreRenamed, in_program}
use Rattle.cc_rewrite_renamed.proofs.Laws.{with_these, does_there}
use Rattle.cc_rewrite_renamed.proofs.Stays.{expr_stays}

-- the objects in front keep their numbers, and others have one of two past both lists
abbrev numbered : ℕ → ℕ → ℕ → ℕ → ℕ
numbered n m k i = if nat_lt i n then i else n + m + i + i + k

in_front : (n m k i : ℕ) → nat_lt i n ≡ true → numbered n m k i ≡ i
in_front n m k i e = ap (λ (b : Bool). if b then i else n + m + i + i + k) e

behind : (n m k i : ℕ) → nat_lt i n ≡ false → numbered n m k i ≡ n + m + i + i + k
behind n m k i e = ap (λ (b : Bool). if b then i else n + m + i + i + k) e

not_less : (n i : ℕ) → nat_lt i n ≡ false → n ≤ i
not_less n i e = let k : i < n → ⊥ = λ l. true≢false (sym (lt-ltb i n l) ∙ e) in omega (arith, k)

far : (n m i k : ℕ) → m ≤ n + m + i + i + k
far n m i k = omega arith

module _ (n m : ℕ) where
  abbrev one : ℕ → ℕ
  one i = numbered n m 0 i

  abbrev other : ℕ → ℕ
  other i = numbered n m 1 i

  both_numbers : (i : ℕ) → one i ≡ other i → one i ≡ i
  both_numbers i e = by (cases_Bool (nat_lt i n))
    where
      by : (nat_lt i n ≡ true) ⊎ (nat_lt i n ≡ false) → one i ≡ i
      by (inl t) = in_front n m 0 i t
      by (inr f) = let k = sym (behind n m 0 i f) ∙ e ∙ behind n m 1 i f in absurd (omega (arith, k))

  apart : (k i j : ℕ) → numbered n m k i ≡ numbered n m k j → i ≡ j
  apart k i j e = by (cases_Bool (nat_lt i n)) (cases_Bool (nat_lt j n))
    where
      by : (nat_lt i n ≡ true) ⊎ (nat_lt i n ≡ false) → (nat_lt j n ≡ true) ⊎ (nat_lt j n ≡ false) → i ≡ j
      by (inl t) (inl u) = sym (in_front n m k i t) ∙ e ∙ in_front n m k j u
      by (inl t) (inr u) = let x = sym (in_front n m k i t) ∙ e ∙ behind n m k j u in let l = ltb-true i n t in absurd (omega (arith, x, l))
      by (inr t) (inl u) = let x = sym (behind n m k i t) ∙ e ∙ in_front n m k j u in let l = ltb-true j n u in absurd (omega (arith, x, l))
      by (inr t) (inr u) = let x = sym (behind n m k i t) ∙ e ∙ behind n m k j u in omega (arith, x)

  -- ---- what is the same by both names nothing behind

  root_same : (o : Root) → root_renamed one o ≡ root_renamed other o → root_renamed one o ≡ o
  root_same (root.Static i) e = ap (λ (k : ℕ). root.Static k) (both_numbers i (let x : one i ≡ other i = cc in x))
  root_same (root.Auto number func local) e = refl

  address_same : (a : Address) → address_renamed one a ≡ address_renamed other a → address_renamed one a ≡ a
  address_same address.Null e = refl
  address_same (address.Func f) e = refl
  address_same (address.At o path index count) e = ap (λ (o : Root). address.At o path index count) (root_same o (let x : root_renamed one o ≡ root_renamed other o = cc in x))

  value_same : (v : Value) → value_renamed one v ≡ value_renamed other v → value_renamed one v ≡ v
  value_same (Int k) e = refl
  value_same (Place a) e = ap (λ (a : Address). Place a) (address_same a (let x : address_renamed one a ≡ address_renamed other a = cc in x))

  may_same : (v : Option Value) → may_renamed one v ≡ may_renamed other v → may_renamed one v ≡ v
  may_same None e = refl
  may_same (Some v) e = ap (λ (v : Value). Some v) (value_same v (let x : value_renamed one v ≡ value_renamed other v = cc in x))

  mark_same : (k : Mark) → mark_renamed one k ≡ mark_renamed other k → mark_renamed one k ≡ k
  mark_same (Gave v) e = ap (λ (v : Option Value). Gave v) (may_same v (let x : may_renamed one v ≡ may_renamed other v = cc in x))
  mark_same Did e = refl
  mark_same (Chose b) e = refl

  list_same : {A : Type 0} (f g : A → A) → ((x : A) → f x ≡ g x → f x ≡ x) → (xs : List A) → map f xs ≡ map g xs → map f xs ≡ xs
  list_same f g h [] e = refl
  list_same {A = A} f g h (x ∷ xs) e = λ i. h x (let k : f x ≡ g x = cc in k) i ∷ list_same f g h xs (let k : map f xs ≡ map g xs = cc in k) i

  cell_same : (c : Cell) → cell_renamed one c ≡ cell_renamed other c → cell_renamed one c ≡ c
  cell_same (cell.Device d) e = refl
  cell_same (cell.At o path) e = ap (λ (o : Root). cell.At o path) (root_same o (let x : root_renamed one o ≡ root_renamed other o = cc in x))

  action_same : (a : Action) → action_renamed one a ≡ action_renamed other a → action_renamed one a ≡ a
  action_same (Read at manner) e = ap (λ (c : Cell). Read c manner) (cell_same at (let x : cell_renamed one at ≡ cell_renamed other at = cc in x))
  action_same (Write at is_event v) e =
      λ i. Write (cell_same at (let x : cell_renamed one at ≡ cell_renamed other at = cc in x) i) is_event (value_same v (let x : value_renamed one v ≡ value_renamed other v = cc in x) i)
  action_same (Choose b) e = refl
  action_same (Call callee args) e =
      λ i. Call (address_same callee (let x : address_renamed one callee ≡ address_renamed other callee = cc in x) i)
      (list_same (value_renamed one) (value_renamed other) value_same args (let x : map (value_renamed one) args ≡ map (value_renamed other) args = cc in x) i)
  action_same (Flag on) e = refl
  action_same Save e = refl

  abbrev marks_same : List Mark → Type 0
  marks_same ms = marks_renamed one ms ≡ marks_renamed other ms

  progress_same : (q : Progress (Option Value)) → progress_renamed one (may_renamed one) q ≡ progress_renamed other (may_renamed other) q → progress_renamed one (may_renamed one) q ≡ q
  progress_same (Known v ms) e =
      λ i. Known (may_same v (let x : may_renamed one v ≡ may_renamed other v = cc in x) i) (list_same (mark_renamed one) (mark_renamed other) mark_same ms (let x : marks_renamed one ms ≡ marks_renamed other ms = cc in x) i)
  progress_same (Waits action) e = ap (λ (a : Action). Waits a) (action_same action (let x : action_renamed one action ≡ action_renamed other action = cc in x))
  progress_same (Traps ms) e = ap (λ (ms : List Mark). Traps ms) (list_same (mark_renamed one) (mark_renamed other) mark_same ms (let x : marks_renamed one ms ≡ marks_renamed other ms = cc in x))

module _ (objects : List Object) (p : Program) (there : StandInFront objects p) where
  abbrev n : ℕ
  n = length p.objects

  abbrev m : ℕ
  m = length objects

  abbrev by_number : ℕ → ℕ → ℕ
  by_number k i = numbered n m k i

  abbrev type_of_object : Option Object → Option CType
  type_of_object o = option_map (λ (o : Object). o.ctype) o

  types : (k i : ℕ) → type_of_object (slice_get objects (by_number k i)) ≡ type_of_object (slice_get p.objects i)
  types k i = by (cases_Bool (nat_lt i n))
    where
      by : (nat_lt i n ≡ true) ⊎ (nat_lt i n ≡ false) → type_of_object (slice_get objects (by_number k i)) ≡ type_of_object (slice_get p.objects i)
      by (inl t) = ap (λ (j : ℕ). type_of_object (slice_get objects j)) (in_front n m k i t) ∙ there i (ltb-true i n t)
      by (inr f) =
          let l = not_less n i f in
          ap (λ (j : ℕ). type_of_object (slice_get objects j)) (behind n m k i f) ∙ ap type_of_object (slice_get_past objects (n + m + i + i + k) (far n m i k))
          ∙ ap type_of_object (sym (slice_get_past p.objects i l))

  renamed : (k : ℕ) → AreRenamed (by_number k) objects p
  renamed k = record { types = types k; apart = apart n m k }

  -- ---- marks

  address_kept : (k : ℕ) (a : Address) → names_in_address (is_before p) a ≡ true → address_renamed (by_number k) a ≡ a
  address_kept k address.Null h = refl
  address_kept k (address.Func f) h = refl
  address_kept k (address.At (root.Static i) path index count) h = ap (λ (j : ℕ). address.At (root.Static j) path index count) (in_front n m k i h)
  address_kept k (address.At (root.Auto number func local) path index count) h = refl

  value_kept : (k : ℕ) (v : Option Value) → MayIn (is_before p) v → may_renamed (by_number k) v ≡ v
  value_kept k None h = refl
  value_kept k (Some (Int x)) h = refl
  value_kept k (Some (Place a)) h = ap (λ (a : Address). Some (Place a)) (address_kept k a h)

  mark_kept : (k : ℕ) (x : Mark) → MarkIn (is_before p) x → mark_renamed (by_number k) x ≡ x
  mark_kept k (Gave v) h = ap (λ (v : Option Value). Gave v) (value_kept k v h)
  mark_kept k Did h = refl
  mark_kept k (Chose b) h = refl

  marks_kept : (k : ℕ) (ms : List Mark) → Every (MarkIn (is_before p)) ms → marks_renamed (by_number k) ms ≡ ms
  marks_kept k [] h = refl
  marks_kept k (x ∷ ms) h = λ i. mark_kept k x h.0 i ∷ marks_kept k ms h.1 i

  module _ (number id : ℕ) (f : Func) (e : Expr) (named : names_in_expr (is_before p) e ≡ true) (later : Registers) (ms : List Mark) (h : Every (MarkIn (is_before p)) ms) where
    abbrev here_now : Progress (Option Value)
    here_now = (meaning (in_program p number id f) e).next later ms

    abbrev there_now : Progress (Option Value)
    there_now = (meaning (in_program (with_objects_behind objects p) number id f) e).next later ms

    by_one : (k : ℕ) → there_now ≡ progress_renamed (by_number k) (may_renamed (by_number k)) here_now
    by_one k =
        sym (λ i. (meaning (in_program (with_these (by_number k) objects p (renamed k)) number id f) (expr_stays (is_before p) (by_number k) (in_front n m k) e named i)).next later (marks_kept k ms h i))
        ∙ does_there (by_number k) objects p (renamed k) number id f e later ms

    pub does_behind : there_now ≡ here_now
    does_behind = by_one 0 ∙ progress_same n m here_now (sym (by_one 0) ∙ by_one 1)
