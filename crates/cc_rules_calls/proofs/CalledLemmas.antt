-- The functions among addresses: all of them, ascending.
use Rattle.std.proofs.Common.{arith, ◌≡◌, ◌<◌, ◌⊎◌, inl, inr, ℕ, zero, suc, nat_le, Bool, true, false, ◌&&◌, IsTrue, List, [], ◌∷◌, length, get_or, All, Contains, is_some, slice_get, refl, ap, sym, subst, ◌∙◌}
use Rattle.std.specs.List.{AllPairs, list_all}
use Rattle.std.proofs.lemmas.Bool.Decides.{nat_tests}
use Rattle.std.specs.Ordering.{nat_cmp, is_lt}
use Rattle.std.proofs.lemmas.List.Elements.{All-nil, All-cons, All-weaker, All-contains_itself, Contains-append_left, Contains-append_right, Contains-append_cases}
use Rattle.std.proofs.lemmas.List.Kept.{AllPairs-cons}
use Rattle.cc_state_points.specs.CcPlaces.declared.abs.Abs.{Abs}
use Rattle.cc_state_points.specs.CcPlaces.declared.abs.Abs.TheVariants as abs
use Rattle.cc_state_points.specs.CcPlaces.Abstract.{HasValue}
use Rattle.cc_state_points.specs.CcPlaces.Kept.{member_for, is_kept, is_starred}
use Rattle.cc_state_points.specs.CcPlaces.Members.{are_members, are_many, most_exact}
use Rattle.cc_state_points.specs.CcPlaces.Order.{ascends, is_before}
use Rattle.cc_state_points.specs.CcPlaces.laws.OrderLaws.{order_by_cases}
use Rattle.cc_program.specs.declared.expr.Expr.{Expr}
use Rattle.cc_program.specs.declared.value.Address.{Address}
use Rattle.cc_program.specs.declared.value.Address.TheVariants as address
use Rattle.cc_program.specs.declared.value.Value.TheVariants as value
use Rattle.cc_rules_asked.proofs.ValuesHere.{value_here}
use Rattle.cc_rules_calls.specs.Called.{function_at, functions_among, functions_in}
use Rattle.cc_rules_functions.specs.Functions.{AreFunctionsOf}
use Rattle.cc_rules_calls.specs.Here.{AreCalledHere, AreFunctionsIn}
use Rattle.cc_rules_functions.specs.declared.functions.Function.{Function}
use Rattle.cc_state_points.specs.CcRulesFlows.declared.after.Here.{Here}
use Rattle.cc_state_points.specs.CcRulesFlows.Here.{IsHere}
use Rattle.cc_state_points.specs.CcStateOperators.Domains.{Domain}
use Rattle.cc_state_points.specs.CcStateValues.Contexts.{IsValIn}

both_true : (a b : Bool) → a && b ≡ true → (a ≡ true) × (b ≡ true)
both_true true b h = (refl, h)
both_true false b h = absurd (cc)

less_is : (a b : ℕ) → is_lt (nat_cmp a b) ≡ true → a < b
less_is a b h = grind (arith, nat_tests)

-- ---- those that are among addresses

only_by : {X : Type 0} (x y : X) (k : ℕ) → k < 1 → get_or (x ∷ []) k y ≡ y → x ≡ y
only_by x y zero h e = e
only_by x y (suc k) h e = absurd (omega (arith, h))

only : {X : Type 0} (x y : X) → Contains (x ∷ []) y → x ≡ y
only x y c = only_by x y c.0 c.1 c.2

itself : {X : Type 0} (x y : X) → x ≡ y → Contains (x ∷ []) y
itself x y e = (0, omega arith, e)

nothing : {X : Type 0} (x : X) → Contains [] x → ⊥
nothing x c = absurd (omega (arith, c.1))

one_among : (a : Address) (h : ℕ) → Contains (function_at a) h → a ≡ address.Func h
one_among address.Null h c = absurd (nothing h c)
one_among (address.Func g) h c = ap address.Func (only g h c)
one_among (address.At object path index count) h c = absurd (nothing h c)

among_by : (a : Address) (ms : List Address) (h : ℕ) → (Contains (functions_among ms) h → Contains ms (address.Func h)) → Contains (function_at a) h ⊎ Contains (functions_among ms) h → Contains (a ∷ ms) (address.Func h)
among_by a ms h ih (inl c) = Contains-append_left (a ∷ []) ms (address.Func h) (itself a (address.Func h) (one_among a h c))
among_by a ms h ih (inr c) = Contains-append_right (a ∷ []) ms (address.Func h) (ih c)

among : (ms : List Address) (h : ℕ) → Contains (functions_among ms) h → Contains ms (address.Func h)
among [] h c = absurd (nothing h c)
among (a ∷ ms) h c = among_by a ms h (among ms h) (Contains-append_cases (function_at a) (functions_among ms) h c)

has_by : (a : Address) (ms : List Address) (h : ℕ) → (Contains ms (address.Func h) → Contains (functions_among ms) h) → Contains (a ∷ []) (address.Func h) ⊎ Contains ms (address.Func h) → Contains (functions_among (a ∷ ms)) h
has_by a ms h ih (inl c) = Contains-append_left (function_at a) (functions_among ms) h (subst (λ a. Contains (function_at a) h) (sym (only a (address.Func h) c)) (itself h h refl))
has_by a ms h ih (inr c) = Contains-append_right (function_at a) (functions_among ms) h (ih c)

has : (ms : List Address) (h : ℕ) → Contains ms (address.Func h) → Contains (functions_among ms) h
has [] h c = absurd (nothing (address.Func h) c)
has (a ∷ ms) h c = has_by a ms h (has ms h) (Contains-append_cases (a ∷ []) ms (address.Func h) c)

-- ---- they ascend as the addresses do

before : (h g : ℕ) → is_before (address.Func h) (address.Func g) ≡ true → h < g
before h g t = less_is h g (ap is_lt (order_by_cases (address.Func h) (address.Func g)) ∙ t)

above : (h : ℕ) (ms : List Address) → list_all (is_before (address.Func h)) ms ≡ true → All (λ g. h < g) (functions_among ms)
above h [] t = All-nil (λ g. h < g)
above h (address.Null ∷ ms) t = above h ms ((both_true (is_before (address.Func h) address.Null) (list_all (is_before (address.Func h)) ms) t).1)
above h (address.Func g ∷ ms) t =
    let w = both_true (is_before (address.Func h) (address.Func g)) (list_all (is_before (address.Func h)) ms) t in
    All-cons (λ g. h < g) g (functions_among ms) (before h g w.0) (above h ms w.1)
above h (address.At object path index count ∷ ms) t = above h ms ((both_true (is_before (address.Func h) (address.At object path index count)) (list_all (is_before (address.Func h)) ms) t).1)

none_ascend : AllPairs (λ g h. g < h) []
none_ascend i j d a b = absurd (omega (arith, b))

ascending : (ms : List Address) → ascends ms ≡ true → AllPairs (λ g h. g < h) (functions_among ms)
ascending [] t = none_ascend
ascending (address.Null ∷ ms) t = ascending ms ((both_true (list_all (is_before address.Null) ms) (ascends ms) t).1)
ascending (address.Func h ∷ ms) t =
    let w = both_true (list_all (is_before (address.Func h)) ms) (ascends ms) t in
    AllPairs-cons (λ g h. g < h) h (functions_among ms) (above h ms w.0) (ascending ms w.1)
ascending (address.At object path index count ∷ ms) t = ascending ms ((both_true (list_all (is_before (address.At object path index count)) ms) (ascends ms) t).1)

listed : (e : Bool) (ms : List Address) → IsTrue (are_members e ms) → ascends ms ≡ true
listed true ms t = (both_true (ascends ms) (list_all is_kept ms && nat_le (length ms) most_exact) t).0
listed false ms t = (both_true (ascends ms) (list_all is_starred ms && are_many ms) t).0

pub there : {A : Type 0} (xs : List A) (i : ℕ) → i < length xs → is_some (slice_get xs i) ≡ true
there [] i l = absurd (omega (arith, l))
there (x ∷ xs) zero l = refl
there (x ∷ xs) (suc i) l = there xs i (omega (arith, l))

-- ---- of a set

pub same_member : (e : Bool) (h : ℕ) → member_for e (address.Func h) ≡ address.Func h
same_member true h = refl
same_member false h = refl

module _ {I : Type 0} (d : Domain I) where
  of_set : (y : Abs I) (h : ℕ) → (Contains (functions_in y) h → HasValue d.has y (value.Place (address.Func h))) × (HasValue d.has y (value.Place (address.Func h)) → Contains (functions_in y) h)
  of_set (abs.Ints x) h = ((λ c. absurd (nothing h c)), (λ v. absurd v))
  of_set (abs.Addrs s) h = (
    (λ c. subst (Contains s.members) (sym (same_member s.is_exact h)) (among s.members h c)),
    (λ v. has s.members h (subst (Contains s.members) (same_member s.is_exact h) v)),
  )

  all_ascend : (y : Abs I) → AllPairs (λ g h. g < h) (functions_in y)
  all_ascend (abs.Ints x) = none_ascend
  all_ascend (abs.Addrs s) = ascending s.members (listed s.is_exact s.members s.listed)

  module _ (here : Here I) where
    pub called_by : (g : Expr) (gs : List ℕ) → IsHere d here → AreFunctionsIn d here g gs → AreCalledHere d here g gs
    called_by g gs h v =
        subst (AreCalledHere d here g) (sym v.2) (record { operand = v.0; given = value_here d here g v.0 h v.1; called = of_set v.0; ascend = all_ascend v.0 })

    -- each is a function of the program
    pub functions_there : (g : Expr) (gs : List ℕ) (functions : List Function) → AreFunctionsIn d here g gs → AreFunctionsOf here.context.program.now functions →
        ((y : Abs I) (h : ℕ) → IsValIn d here.context g y → HasValue d.has y (value.Place (address.Func h)) → h < length here.context.program.now.funcs) → All (λ h. is_some (slice_get functions h) ≡ true) gs
    functions_there g gs functions v are may =
        All-weaker (Contains gs) (λ h. is_some (slice_get functions h) ≡ true)
        (λ h c. there functions h (subst (λ n. h < n) (sym are.count) (may v.0 h v.1 ((of_set v.0 h).0 (subst (λ xs. Contains xs h) v.2 c))))) gs (All-contains_itself gs)
