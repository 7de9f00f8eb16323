-- The handlers of a program, function by function.
use Rattle.std.proofs.Common.{arith, ◌≡◌, ◌≤◌, ◌<◌, ◌+◌, nat_le, ℕ, zero, suc, Bool, true, false, ◌&&◌, cond, List, [], ◌∷◌, ◌++◌, length, take, take_all, get_or, append-nil, length-take, Some, slice_get, refl, ap, sym, subst, ◌∙◌}
use Rattle.std.specs.List.{AllZip, list_all}
use Rattle.std.specs.Str.{bytes_eq}
use Rattle.std.proofs.lemmas.List.{take_more}
use Rattle.std.proofs.lemmas.Option.{get_or_from_slice_get}
use Rattle.cc_program.specs.declared.func.Func.{Func}
use Rattle.cc_program.specs.declared.program.Program.{Program}
use Rattle.cc_rules_asked.specs.CcRules.Rules.{handlers_from}
use Rattle.cc_rules_asked.specs.declared.handlers.Handler.{Handler}
use Rattle.cc_rules_asked.specs.Handlers.{IsHandlerOf, AreHandlersOf}
use Rattle.cc_rules_functions.specs.declared.functions.Function.{Function}
use Rattle.cc_rules_functions.specs.Functions.{IsFunctionOf, AreFunctionsOf}
use Rattle.cc_rules_functions.proofs.Gets.{stands}
use Rattle.cc_rules_asked.specs.CcStateKeys.Lists.{only_if}
use Rattle.cc_rules_asked.specs.CcSteps.Turn.{named_level, level_in}
use Rattle.cc_program.specs.CcWords.Names.{is_name}
use Rattle.cc_rules_asked.specs.CcSyntax.Operators.{is_handler}

-- ---- one more function

last : (b : Bool) (n m : ℕ) → n ≡ m → cond b (n ∷ []) [] ≡ only_if b m
last true n m e = ap (λ k. k ∷ []) e
last false n m e = refl

behind : (b : Bool) (n : ℕ) (all some more : List ℕ) → all ≡ some ++ more → cond b (n ∷ all) all ≡ cond b (n ∷ some) some ++ more
behind true n all some more e = ap (λ ks. n ∷ ks) e
behind false n all some more e = e

handlers_put : (n m : ℕ) (fs : List Func) (f : Func) → m ≡ n + length fs → handlers_from n (fs ++ f ∷ []) ≡ handlers_from n fs ++ only_if (is_handler f) m
handlers_put n m [] f e = last (is_handler f) n m (omega (arith, e))
handlers_put n m (g ∷ fs) f e =
    behind (is_handler g) n (handlers_from (suc n) (fs ++ f ∷ [])) (handlers_from (suc n) fs) (only_if (is_handler f) m) (handlers_put (suc n) m fs f (omega (arith, e)))

within_by : {A : Type 0} (xs : List A) (i : ℕ) (x : A) → slice_get xs i ≡ Some x → i < length xs
within_by [] i x h = absurd (cc)
within_by (y ∷ xs) zero x h = omega arith
within_by (y ∷ xs) (suc i) x h = let l = within_by xs i x h in omega (arith, l)

zip_push : {A B : Type 0} (R : A → B → Type 0) (xs : List A) (ys : List B) (x : A) (y : B) → AllZip R xs ys → R x y → AllZip R (xs ++ x ∷ []) (ys ++ y ∷ [])
zip_push R [] [] x y h r = (r, tt)
zip_push R [] (b ∷ ys) x y h r = absurd h
zip_push R (a ∷ xs) [] x y h r = absurd h
zip_push R (a ∷ xs) (b ∷ ys) x y h r = (h.0, zip_push R xs ys x y h.1 r)

pub zip_on : {A B : Type 0} (R : A → B → Type 0) (xs : List A) (ys new : List B) (i : ℕ) (x : A) (y : B) → i < length xs → x ≡ get_or xs i x → AllZip R (take i xs) ys → R x y → new ≡ ys ++ y ∷ [] → AllZip R (take (i + 1) xs) new
zip_on R xs ys new i x y l e z r n =
    subst (λ zs. AllZip R zs new) (ap (λ a. take i xs ++ a ∷ []) e ∙ sym (take_more xs i x l)) (subst (AllZip R (take i xs ++ x ∷ [])) (sym n) (zip_push R (take i xs) ys x y z r))

front : {A : Type 0} (xs : List A) (i : ℕ) → i ≤ length xs → length (take i xs) ≡ i
front xs i l = omega (arith, l, length-take i xs)

pub next_handlers : (p : Program) (functions : List Function) (i : ℕ) (f : Function) (handlers : List Handler) → AreFunctionsOf p functions → i < length functions → f ≡ get_or functions i f →
    AllZip (IsHandlerOf p) handlers (handlers_from 0 (take i p.funcs) ++ only_if (is_handler f.func.now) i) → AllZip (IsHandlerOf p) handlers (handlers_from 0 (take (i + 1) p.funcs))
next_handlers p functions i f handlers are l is z =
    let at : slice_get functions i ≡ Some f = stands functions functions i f refl l is in
    let func : slice_get p.funcs i ≡ Some f.func.now = (are.each i f at).func in
    let lt : i < length p.funcs = within_by p.funcs i f.func.now func in
    let long : i ≡ 0 + length (take i p.funcs) = omega (arith, front p.funcs i (omega arith)) in
    let more : take (i + 1) p.funcs ≡ take i p.funcs ++ f.func.now ∷ [] = take_more p.funcs i f.func.now lt ∙ ap (λ g. take i p.funcs ++ g ∷ []) (get_or_from_slice_get p.funcs i f.func.now f.func.now func) in
    subst (AllZip (IsHandlerOf p) handlers) (sym (ap (handlers_from 0) more ∙ handlers_put 0 i (take i p.funcs) f.func.now long)) z

pub all_handlers : (p : Program) (functions : List Function) (i : ℕ) (handlers : List Handler) → AreFunctionsOf p functions → length functions ≤ i → AllZip (IsHandlerOf p) handlers (handlers_from 0 (take i p.funcs)) → AreHandlersOf p handlers
all_handlers p functions i handlers are past z =
    let count = are.count in
    subst (AllZip (IsHandlerOf p) handlers) (ap (handlers_from 0) (take_all i p.funcs (omega (arith, count, past)))) z

pub none_more : (p : Program) (handlers : List Handler) (b : Bool) (id : ℕ) (ids : List ℕ) → b ≡ false → AllZip (IsHandlerOf p) handlers ids → AllZip (IsHandlerOf p) handlers (ids ++ only_if b id)
none_more p handlers b id ids e z = subst (AllZip (IsHandlerOf p) handlers) (sym (ap (λ b. ids ++ only_if b id) e ∙ append-nil ids)) z

pub one_more : (p : Program) (handlers new : List Handler) (h : Handler) (b : Bool) (id : ℕ) (ids : List ℕ) → b ≡ true → IsHandlerOf p h id → new ≡ handlers ++ h ∷ [] → AllZip (IsHandlerOf p) handlers ids → AllZip (IsHandlerOf p) new (ids ++ only_if b id)
one_more p handlers new h b id ids e is l z =
    subst (λ new. AllZip (IsHandlerOf p) new (ids ++ only_if b id)) (sym l)
    (subst (AllZip (IsHandlerOf p) (handlers ++ h ∷ [])) (sym (ap (λ b. ids ++ only_if b id) e)) (zip_push (IsHandlerOf p) handlers ids h id z is))

-- ---- levels

both_true : (a b : Bool) → a && b ≡ true → (a ≡ true) × (b ≡ true)
both_true true b h = (refl, h)
both_true false b h = absurd (cc)

at_most : (n : ℕ) → nat_le n 7 ≡ true → n ≤ 7
at_most n h = grind arith

chosen : (b : Bool) (m n : ℕ) → m ≤ 7 → n ≤ 7 → cond b m n ≤ 7
chosen true m n a c = a
chosen false m n a c = c

low : (levels : List (List ℕ × ℕ)) (name : List ℕ) → list_all (λ l. is_name l.0 && (nat_le 1 l.1 && nat_le l.1 7)) levels ≡ true → named_level levels name ≤ 7
low [] name t = omega arith
low (l ∷ levels) name t =
    let parts : (is_name l.0 && (nat_le 1 l.1 && nat_le l.1 7) ≡ true) × (list_all (λ l. is_name l.0 && (nat_le 1 l.1 && nat_le l.1 7)) levels ≡ true) = both_true _ _ t in
    chosen (bytes_eq name l.0) l.1 (named_level levels name) (at_most l.1 ((both_true (nat_le 1 l.1) (nat_le l.1 7) ((both_true (is_name l.0) (nat_le 1 l.1 && nat_le l.1 7) parts.0).1)).1)) (low levels name parts.1)

pub is_handler_of : (p : Program) (id : ℕ) (f : Function) (h : Handler) → IsFunctionOf p id f → h.function ≡ id → h.level ≡ level_in p (Some f.func.now) → h.entry ≡ f.entry → h.registers ≡ length f.registers → IsHandlerOf p h id
is_handler_of p id f h is function level entry registers = record {
  function = function;
  level = level ∙ ap (level_in p) (sym is.func);
  low = subst (λ n. n ≤ 7) (sym level) (low p.roles.levels f.func.now.name p.roles.levelled);
  entry = entry ∙ is.entry;
  func = f.func.now;
  there = is.func;
  registers = registers ∙ ap length is.registers;
}
