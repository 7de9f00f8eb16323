-- What gets the result of a call in normal form is a register, and each function has a set of results, where facts are of the program's
-- shape. Main gives an integer where it gives anything (C99 5.1.2.2.1).
use Rattle.std.proofs.Common.{◌≡◌, ◌<◌, ◌==◌, ℕ, Bool, true, false, true≢false, not, ◌&&◌, ◌||◌, Option, Some, None, is_some, List, length, refl, sym, subst, ◌∙◌, slice_get}
use Rattle.std.specs.Prelude.{if◌then◌else◌}
use Rattle.std.proofs.lemmas.Bool.{eqb-true}
use Rattle.std.proofs.lemmas.Option.{same_Some, none-some, slice_get_within, get_or_from_slice_get}
use Rattle.cc_program.specs.CcNum.declared.int_type.IntType.{IntType}
use Rattle.cc_program.specs.CcNum.declared.int_type.IntType.TheVariants as int
use Rattle.cc_state_points.specs.CcPlaces.declared.abs.Abs.{Abs}
use Rattle.cc_state_points.specs.CcPlaces.declared.abs.Abs.TheVariants as abs
use Rattle.cc_state_points.specs.CcPlaces.Abstract.{AreOfOneKind}
use Rattle.cc_program.specs.declared.expr.Expr.{Expr}
use Rattle.cc_program.specs.declared.func.Func.{Func}
use Rattle.cc_program.specs.declared.program.Program.{Program}
use Rattle.cc_program.specs.declared.types.CType.{CType}
use Rattle.cc_program.specs.declared.types.Shape.{Shape, out-Shape}
use Rattle.cc_program.specs.declared.types.Shape.TheOpen as shape
use Rattle.cc_program.specs.declared.types.Sig.{Sig, out-Sig}
use Rattle.cc_rules_calls.proofs.CalledLemmas.{there}
use Rattle.cc_rules_calls.specs.Backs.{gets, MayGetHere}
use Rattle.cc_state_points.specs.CcRulesFlows.declared.after.Here.{Here}
use Rattle.cc_state_points.specs.CcRulesFlows.Acts.{Act, Sets, Reads, Writes, Calls, Saves, Turns, Restores, Tests, Chooses, Returns, Passes}
use Rattle.cc_rules_functions.specs.declared.functions.Function.{Function}
use Rattle.cc_rules_functions.specs.Functions.{IsFunctionOf, AreFunctionsOf}
use Rattle.cc_state_points.specs.CcState.Shape.{IsSetIn, HaveShape}
use Rattle.cc_state_points.specs.CcStateKeys.Tracked.{register_number}
use Rattle.cc_state_points.specs.CcStateOperators.Domains.{Domain}
use Rattle.cc_state_points.specs.Operands.{AreOperands}
use Rattle.cc_state_points.specs.CcSteps.Step.{gives_nothing}
use Rattle.cc_state_points.proofs.CcSyntax.Prefixes.{both_true}
use Rattle.cc_state_points.specs.CcSyntax.Normal.{IsNormal}
use Rattle.cc_state_points.specs.CcSyntax.Operators.{is_handler}
use Rattle.cc_state_points.specs.CcSyntax.SameTypes.{is_int_shape, is_void_shape}
use Rattle.cc_state_points.specs.CcSyntax.Sound.{is_main, is_main_there, form_fits, takes_nothing, is_plain_int, is_plain_void}
use Rattle.cc_state_points.specs.CcSyntax.Operators.{is_unqualified}
use Rattle.cc_state_points.specs.CcSyntax.Values.{ValueType, NoValue, Integer, is_void, result_value, scalar_shape}

-- ---- tests

not_true : (b : Bool) → not b ≡ true → b ≡ false
not_true true h = absurd (true≢false (sym h))
not_true false h = refl

then_true : (b x y : Bool) → (if b then x else y) ≡ true → b ≡ true → x ≡ true
then_true true x y h e = h
then_true false x y h e = absurd (true≢false (sym e))

first_true : (a b c : Bool) → a || (b && c) ≡ true → c ≡ false → a ≡ true
first_true true b c h e = refl
first_true false true true h e = absurd (true≢false e)
first_true false true false h e = absurd (true≢false (sym h))
first_true false false c h e = absurd (true≢false (sym h))

-- ---- what main gives

int_result : (x : shape.Shape-F Shape CType Sig) (t : ValueType) → is_int_shape int.Int x ≡ true → (if is_void_shape x then Some NoValue else scalar_shape x) ≡ Some t → (i : IntType) × (t ≡ Integer i)
int_result (shape.Int i) t h e = (i, sym (same_Some (Integer i) t e))
int_result shape.Void t h e = absurd (true≢false (sym h))
int_result (shape.Pointer to) t h e = absurd (true≢false (sym h))
int_result (shape.Array of n) t h e = absurd (true≢false (sym h))
int_result (shape.Struct s) t h e = absurd (true≢false (sym h))
int_result (shape.Func sig) t h e = absurd (true≢false (sym h))

plain_int : (r : CType) → is_plain_int r || is_plain_void r ≡ true → is_void r ≡ false → is_int_shape int.Int (out-Shape r.shape) ≡ true
plain_int r h e = (both_true (is_unqualified r) (is_int_shape int.Int (out-Shape r.shape)) (first_true (is_plain_int r) (is_unqualified r) (is_void r) h e)).1

main_gives : (f : Func) (t : ValueType) → is_main f ≡ true → form_fits f ≡ true → is_void (out-Sig f.sig).result ≡ false → result_value (out-Sig f.sig).result ≡ Some t → (i : IntType) × (t ≡ Integer i)
main_gives f t main form gives is =
    let r = (out-Sig f.sig).result in
    let fits = both_true (not (is_handler f)) (takes_nothing f && (is_plain_int r || is_plain_void r)) (then_true (is_main f) _ _ form main) in
    let plain = (both_true (takes_nothing f) (is_plain_int r || is_plain_void r) fits.1).1 in
    int_result (out-Shape r.shape) t (plain_int r plain gives) is

main_there : (o : Option Func) (f : Func) → is_main_there o ≡ true → o ≡ Some f → is_main f ≡ true
main_there None f h e = absurd (none-some f e)
main_there (Some g) f h e = subst (λ (z : Func). is_main z ≡ true) (same_Some g f e) h

-- ---- sets of results

module _ {I : Type 0} (d : Domain I) (p : Program) where
  of_integers : (i : IntType) (y : Abs I) (u : I) → IsSetIn p d (Integer i) y → AreOfOneKind y (abs.Ints u)
  of_integers i (abs.Ints x) u k = tt
  of_integers i (abs.Addrs s) u k = absurd k

module _ {I : Type 0} (d : Domain I) (here : Here I) (normal : IsNormal here.context.program.now) (shape : HaveShape d here.context.program.now here.facts.now) where
  module _ (g : ℕ) (f : Function) (is : IsFunctionOf here.context.program.now g f) where
    within : g < length here.context.program.now.funcs
    within = slice_get_within here.context.program.now.funcs g f.func.now is.func

    fits : form_fits f.func.now ≡ true
    fits =
        subst (λ (z : Func). form_fits z ≡ true) (get_or_from_slice_get here.context.program.now.funcs g f.func.now f.func.now is.func) (normal.sound.funcs g f.func.now within).form

    results_kind : (y : Abs I) → f.gives_zero ≡ true → slice_get here.facts.now.results g ≡ Some y → (u : I) → AreOfOneKind y (abs.Ints u)
    results_kind y zero at u =
        let parts = both_true (g == here.context.program.now.main) (not (gives_nothing (Some f.func.now))) (sym is.zero ∙ zero) in
        let own : slice_get here.context.program.now.funcs here.context.program.now.main ≡ Some f.func.now =
        subst (λ n. slice_get here.context.program.now.funcs n ≡ Some f.func.now) (eqb-true g here.context.program.now.main parts.0) is.func in
        let main = main_there (slice_get here.context.program.now.funcs here.context.program.now.main) f.func.now normal.sound.main own in
        let set = shape.results.there g within in
        let same : set.2.0.0 ≡ f.func.now = same_Some set.2.0.0 f.func.now (sym set.2.0.1 ∙ is.func) in
        let typed : result_value (out-Sig f.func.now.sig).result ≡ Some set.0 = subst (λ (z : Func). result_value (out-Sig z.sig).result ≡ Some set.0) same set.2.0.2 in
        let int = main_gives f.func.now set.0 main fits (not_true (gives_nothing (Some f.func.now)) parts.1) typed in
        let known : set.1 ≡ y = same_Some set.1 y (sym set.2.1 ∙ at) in
        subst (λ z. AreOfOneKind z (abs.Ints u)) known (of_integers d here.context.program.now int.0 set.1 u (subst (λ t. IsSetIn here.context.program.now d t set.1) int.1 set.2.2))

  module _ (functions : List Function) (are : AreFunctionsOf here.context.program.now functions) (h : ℕ) (f : Function) (at : slice_get functions h ≡ Some f) where
    by_register : (r : ℕ) → is_some (register_number here.context.func.now r) ≡ true → MayGetHere d here (Some r) h f
    by_register r k = (
      k,
      there here.facts.now.results h (subst (λ n. h < n) (sym shape.result_count) (within h f (are.each h f at))),
      results_kind h f (are.each h f at),
    )

    by_result : (result : Option ℕ) (g : Expr) (args : List Expr) → AreOperands here.context.program.now here.context.func.now (Calls result g args) → MayGetHere d here result h f
    by_result None g args o = tt
    by_result (Some r) g args o = by_register r o.0

    pub may_get : (act : Act) → AreOperands here.context.program.now here.context.func.now act → MayGetHere d here (gets act) h f
    may_get (Calls result g args) o = by_result result g args o
    may_get (Sets r e) o = tt
    may_get (Reads r a) o = tt
    may_get (Writes a e) o = tt
    may_get (Saves result) o = tt
    may_get (Turns on) o = tt
    may_get (Restores e) o = tt
    may_get (Tests e these those) o = tt
    may_get (Chooses e cases) o = tt
    may_get (Returns e) o = tt
    may_get Passes o = tt
