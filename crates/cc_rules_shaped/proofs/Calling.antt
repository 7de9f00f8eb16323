-- What calls ask fits: of the functions that may be called, which are of the type of the operand, and of the points behind the call.
use Rattle.std.proofs.Common.{arith, ◌≡◌, ℕ, zero, suc, ◌+◌, pos, Bool, true, false, true≢false, not, List, [], ◌∷◌, Contains, Option, Some, None, slice_get, refl, ap, sym, ◌∙◌, subst}
use Rattle.std.specs.Prelude.{option_and_then}
use Rattle.std.specs.List.{flat_map}
use Rattle.std.proofs.lemmas.Option.{same_Some, none-some, slice_get_within}
use Rattle.cc_rules_grow.specs.CcFlow.declared.types.Point.{Point}
use Rattle.cc_rules_grow.specs.CcFlowSound.Moves.{entry}
use Rattle.cc_program.proofs.CcNum.ResultLaws.{truth_value}
use Rattle.cc_rules_grow.specs.CcPlaces.Abstract.{AreOfOneKind, IsBelowAbs, HasValue}
use Rattle.cc_rules_grow.specs.CcPlaces.declared.abs.Abs.{Abs}
use Rattle.cc_rules_grow.specs.CcPlaces.declared.abs.Abs.TheVariants as abs
use Rattle.cc_rules_grow.specs.CcPlaces.Kept.{member_for}
use Rattle.cc_rules_grow.specs.CcPlaces.laws.ListLaws.{at_head, behind_head}
use Rattle.cc_program.specs.declared.expr.Expr.{Expr}
use Rattle.cc_program.specs.declared.func.Func.{Func}
use Rattle.cc_program.specs.declared.program.Program.{Program}
use Rattle.cc_program.specs.declared.types.CType.{CType}
use Rattle.cc_program.specs.declared.types.Shape.{out-Shape}
use Rattle.cc_program.specs.declared.types.Sig.{Sig, out-Sig}
use Rattle.cc_program.specs.declared.value.Address.TheVariants as address
use Rattle.cc_program.specs.declared.value.Value.TheVariants as value
use Rattle.cc_rules_grow.specs.CcRules.Rules.{NeedsAt, IsOnly, AreValues, AreCalled, ForEach, parameter, at_entry, need_whole, other_parameters, Entered, IsResult, OfMain, OfOther, of_exit, IsGiven, ToRegister, ToNone, Returned, FromExit, NoExit, CallAsks, OfEntries, OfReturns, OfNoCall}
use Rattle.cc_rules_grow.specs.CcRulesFlows.Acts.{Act}
use Rattle.cc_rules_grow.specs.CcRulesFlows.Flows.{ValueAt}
use Rattle.cc_rules_grow.specs.CcRulesFlows.Nexts.{IsPoint, exit_of}
use Rattle.cc_rules_grow.specs.CcRulesNeeds.declared.needs.Part.TheVariants.{Mark, LevelSet}
use Rattle.cc_rules_grow.specs.CcRulesNeeds.declared.needs.Slot.TheVariants.{ByMain, ByHandler, Levels, From}
use Rattle.cc_rules_grow.specs.CcRulesNeeds.Flowing.{Flowing, of_fact}
use Rattle.cc_rules_grow.specs.CcRulesNeeds.Needs.{Needs, Has}
use Rattle.cc_rules_shaped.proofs.Acting.{IsResultTaken, IsCallTaken, AreTaken}
use Rattle.cc_rules_shaped.proofs.Fit.{register_typed, Known, HaveThem, fit_append, FlowFits, flow_fits, cells_fit}
use Rattle.cc_rules_shaped.proofs.Flowing.{IsTypedFlow, flow_at, fact_typed, local_typed}
use Rattle.cc_rules_shaped.proofs.Here.{its_fact, operand_in, value_in, register_typed as typed_at}
use Rattle.cc_rules_shaped.proofs.Points.{next_there, exit_there}
use Rattle.cc_rules_shaped.proofs.Rules.{entry_there}
use Rattle.cc_rules_shaped.proofs.Types.{one_result_type}
use Rattle.cc_rules_shaped.specs.Shaped.{AreSomeIn, IsPointIn, AreFitBehind, AreFit}
use Rattle.cc_rules_grow.proofs.CcState.Numbered.{key_at}
use Rattle.cc_rules_grow.proofs.CcState.Sets.{its_shape}
use Rattle.cc_rules_grow.specs.CcState.Shape.{MayPoint, OfScalar, declared_type, local_ctype, IsSetIn, IsRegisterType, IsPointFact, HaveShape}
use Rattle.cc_rules_grow.specs.CcStateFacts.declared.facts.Facts.{Facts}
use Rattle.cc_rules_grow.specs.CcStateFacts.declared.facts.Key.TheVariants as key
use Rattle.cc_rules_grow.specs.CcStateFacts.declared.facts.PointFact.{PointFact}
use Rattle.cc_rules_grow.specs.CcStateFacts.Facts.{fact_at, mark_of, levels_of}
use Rattle.cc_rules_grow.specs.CcStateKeys.Keys.{key_number}
use Rattle.cc_rules_grow.specs.CcStateOperators.Domains.{Domain}
use Rattle.cc_rules_grow.proofs.CcStateValues.Rules.{IsPointer, assigned_scalar}
use Rattle.cc_state_values_fit.proofs.Sets.{IsTyping, one_kind, no_ints, wider_set, whole_set, below_in, below_all, has_all}
use Rattle.cc_state_values_fit.specs.Fit.{HasWholes}
use Rattle.cc_rules_grow.proofs.CcStates.TurnLemmas.{function_sound}
use Rattle.cc_rules_grow.proofs.CcSyntax.AlikeLemmas.{function_as}
use Rattle.cc_rules_grow.proofs.CcSyntax.NameRules.{sound-typed}
use Rattle.cc_rules_grow.proofs.CcSyntax.Prefixes.{both_true}
use Rattle.cc_rules_grow.proofs.CcSyntax.SameLemmas.{shape_of_same}
use Rattle.cc_rules_grow.specs.CcSyntax.Normal.{IsNormal}
use Rattle.cc_rules_grow.specs.CcSyntax.Operators.{when, is_handler, function_type}
use Rattle.cc_rules_grow.specs.CcSyntax.SameTypes.{same_shape}
use Rattle.cc_rules_grow.specs.CcSyntax.Sound.{are_parameters}
use Rattle.cc_rules_grow.specs.CcSyntax.Types.{Named}
use Rattle.cc_rules_grow.specs.CcSyntax.Values.{ValueType, NoValue, Integer, ToObject, ToFunction, is_scalar, scalar_shape, scalar_value, result_value, is_assignable_some}

-- ---- parameters, and functions of a type

parameter_at : (ts : List CType) (ls : List Named) → are_parameters ts ls ≡ true → (i : ℕ) (c : CType) → slice_get ts i ≡ Some c → (l : Named) × (slice_get ls i ≡ Some l) × (c.shape ≡ l.1.shape)
parameter_at [] ls h i c e = absurd (none-some c e)
parameter_at (t ∷ ts) [] h i c e = absurd (true≢false (sym h))
parameter_at (t ∷ ts) (l ∷ ls) h zero c e = (l, refl, sym (ap (λ (x : CType). x.shape) (same_Some t c e)) ∙ shape_of_same t l.1 (both_true (same_shape t.shape l.1.shape) (are_parameters ts ls) h).0)
parameter_at (t ∷ ts) (l ∷ ls) h (suc i) c e = parameter_at ts ls (both_true (same_shape t.shape l.1.shape) (are_parameters ts ls) h).1 i c e

one_sig : (s t : Sig) → ToFunction s ≡ ToFunction t → s ≡ t
one_sig s t h = cc

assigned_sig : (b : Bool) (sig own : Sig) → is_assignable_some (Some (ToFunction sig)) (when b (ToFunction own)) ≡ true → own ≡ sig
assigned_sig true sig own h = one_sig own sig (function_as sig (ToFunction own) h)
assigned_sig false sig own h = absurd (true≢false (sym h))

function_member : (b : Bool) (h : ℕ) → member_for b (address.Func h) ≡ address.Func h
function_member true h = refl
function_member false h = refl

not_marked : (a b : Bool) → (a ≡ true → b ≡ true) → b ≡ false → a ≡ false
not_marked true b h e = absurd (true≢false (sym (h refl) ∙ e))
not_marked false b h e = refl

module _ {I : Type 0} (d : Domain I) (p : Program) where
  called_sig : (sig : Sig) (operand : Abs I) (h : ℕ) (callee : Func) → IsSetIn p d (ToFunction sig) operand → HasValue d.has operand (value.Place (address.Func h)) → slice_get p.funcs h ≡ Some callee → callee.sig ≡ sig
  called_sig sig (abs.Ints x) h callee set has function = absurd has
  called_sig sig (abs.Addrs s) h callee set has function =
      let may : MayPoint p (ToFunction sig) (address.Func h) = set (address.Func h) (subst (Contains s.members) (function_member s.is_exact h) has) in
      assigned_sig (not (is_handler callee)) sig callee.sig (subst (λ (o : Option Func). is_assignable_some (Some (ToFunction sig)) (function_type o) ≡ true) function may)

module _ {I : Type 0} (d : Domain I) (typing : IsTyping d) (p : Program) (wholes : HasWholes d p.target) (normal : IsNormal p) (facts : Facts I) (shape : HaveShape d p facts)
    (n id : ℕ) (f : Func) (point : Point) (fact : PointFact I) (is_point : IsPoint p n id f point) (known : fact_at facts n ≡ Some fact) where
  of_point : IsPointFact d p f fact
  of_point = its_fact d typing p wholes normal facts shape n id f point fact is_point known

  each_called : (asks : ℕ → Func → Needs I → Type 0) (gs : List ℕ) → ((g : ℕ) → Contains gs g → (callee : Func) (here : Needs I) → slice_get p.funcs g ≡ Some callee → asks g callee here → (q : Known d p) → AreFitBehind d p q here) → (ns : Needs I) →
      ForEach d p facts n id f point fact asks gs ns → (q : Known d p) → AreFitBehind d p q ns
  each_called asks [] each ns is q = subst (AreFitBehind d p q) (sym is) tt
  each_called asks (g ∷ gs) each ns (callee, here, rest, there, asked, others, is) q =
      subst (AreFitBehind d p q) (sym is)
      (fit_append d p q here rest (each g (at_head g gs) callee here there asked q) (each_called asks gs (λ h c. each h (behind_head g gs h c)) rest others (λ r. q r × HaveThem d p here r)))

  values_at : (es : List Expr) (ys : List (Abs I)) → AreValues d p facts n id f point fact es ys → (i : ℕ) (y : Abs I) → slice_get ys i ≡ Some y → (e : Expr) × (slice_get es i ≡ Some e) × ValueAt d p id f facts point n fact e y
  values_at [] ys is i y e = absurd (none-some y (ap (λ (l : List (Abs I)). slice_get l i) (sym is) ∙ e))
  values_at (x ∷ es) ys (z, rest, val, vals, is) zero y e =
      let same : z ≡ y = same_Some z y (ap (λ (l : List (Abs I)). slice_get l 0) (sym is) ∙ e) in
      (x, refl, subst (ValueAt d p id f facts point n fact x) same val)
  values_at (x ∷ es) ys (z, rest, val, vals, is) (suc i) y e = values_at es rest vals i y (ap (λ (l : List (Abs I)). slice_get l (suc i)) (sym is) ∙ e)

  module _ (result : Option ℕ) (operand : Expr) (args : List Expr) (taken : IsCallTaken p id f result operand args) (gs : List ℕ) (called : AreCalled d p facts n id f point fact operand gs) where
    -- each function that may be called is of the type of the operand
    its_sig : (g : ℕ) → Contains gs g → (callee : Func) → slice_get p.funcs g ≡ Some callee → callee.sig ≡ taken.sig
    its_sig g c callee function =
        called_sig d p taken.sig called.operand g callee
        (operand_in d typing p wholes normal facts shape n id f point fact is_point known (ToFunction taken.sig) operand called.operand taken.is_function refl taken.keys called.given) ((called.called g).0 c) function

    -- ---- entries

    module _ (ys : List (Abs I)) (values : AreValues d p facts n id f point fact args ys) (g : ℕ) (callee : Func) (there : slice_get p.funcs g ≡ Some callee) (sig : callee.sig ≡ taken.sig) where
      -- an argument is of the type of the parameter
      argument_in : (i : ℕ) (y : Abs I) → slice_get ys i ≡ Some y → (l : Named) × (t : ValueType) × (slice_get callee.locals i ≡ Some l) × (scalar_value l.1 ≡ Some t) × IsSetIn p d t y
      argument_in i y e =
          let (x, at, val) = values_at args ys values i y e in
          let (c, t, param, scalar, takes) = taken.arguments i x at in
          let own : slice_get (out-Sig callee.sig).params i ≡ Some c = ap (λ (s : Sig). slice_get (out-Sig s).params i) sig ∙ param in
          let (l, local, same) = parameter_at (out-Sig callee.sig).params callee.locals (function_sound p (sound-typed p normal.sound) g callee there).first i c own in
          (l, t, local, ap (λ s. scalar_shape (out-Shape s)) (sym same) ∙ scalar, value_in d typing p wholes normal facts shape n id f point fact is_point known t x y takes val)

      parameter_in : (r : ℕ) (t : ValueType) → IsRegisterType d p callee r t → AreSomeIn d p t (parameter d p facts n id f point fact ys callee r)
      parameter_in r t (own, l, at, local, scalar) = subst (λ (o : Option ℕ). AreSomeIn d p t (option_and_then (slice_get ys) o)) (sym at) (by (slice_get ys own) refl)
        where
          by : (o : Option (Abs I)) → slice_get ys own ≡ o → AreSomeIn d p t o
          by None e = tt
          by (Some y) e =
              let (m, u, there, its, set) = argument_in own y e in
              let one : m ≡ l = same_Some m l (sym there ∙ local) in
              subst (λ (z : ValueType). IsSetIn p d z y) (same_Some u t (sym its ∙ (ap (λ (z : Named). scalar_value z.1) one ∙ scalar))) set

      entry_flow : FlowFits d p (entry p g) callee (at_entry d p facts n id f point fact ys callee)
      entry_flow = record {
        point = entry_there d p g callee there;
        flag = of_point.flag;
        locals = λ r l. (let (t, is) = register_typed d p callee r l in (t, is, parameter_in r t is));
        cells = cells_fit d p f fact of_point;
      }

      need_fits : (number : Option ℕ) (i : ℕ) (y : Abs I) → key_number p (key.Local g i) ≡ number → (l : Named) (t : ValueType) → slice_get callee.locals i ≡ Some l → scalar_value l.1 ≡ Some t → IsSetIn p d t y → (q : Known d p) →
          AreFitBehind d p q (need_whole d p facts n id f point fact number y)
      need_fits None i y e l t local scalar set q = tt
      need_fits (Some k) i y e l t local scalar set q =
          ((t, (key.Local g i, l.1, key_at p (key.Local g i) k e, ap (local_ctype i) there ∙ ap declared_type local, OfScalar scalar), set), λ h j. tt, tt)

      others_fit : (i : ℕ) (zs : List (Abs I)) → ((j : ℕ) (y : Abs I) → slice_get zs j ≡ Some y → (l : Named) × (t : ValueType) × (slice_get callee.locals (i + j) ≡ Some l) × (scalar_value l.1 ≡ Some t) × IsSetIn p d t y) → (q : Known d p) →
          AreFitBehind d p q (other_parameters d p facts n id f point fact g i zs)
      others_fit i [] each q = tt
      others_fit i (y ∷ zs) each q =
          let (l, t, local, scalar, set) = each 0 y refl in
          let here : i + 0 ≡ i = omega arith in
          fit_append d p q (need_whole d p facts n id f point fact (key_number p (key.Local g i)) y) (other_parameters d p facts n id f point fact g (suc i) zs)
          (need_fits (key_number p (key.Local g i)) i y refl l t (subst (λ (m : ℕ). slice_get callee.locals m ≡ Some l) here local) scalar set q)
          (others_fit (suc i) zs (λ j z e. (let w = each (suc j) z e in let place : i + suc j ≡ suc i + j = omega arith in (w.0, w.1, subst (λ (m : ℕ). slice_get callee.locals m ≡ Some w.0) place w.2, w.3, w.4)))
          (λ r. q r × HaveThem d p (need_whole d p facts n id f point fact (key_number p (key.Local g i)) y) r))

      no_levels : (main handler : Bool) → (mark_of facts.by_main id ≡ true → main ≡ true) → (mark_of facts.by_handler id ≡ true → handler ≡ true) → main ≡ false → handler ≡ false → (levels_of facts.levels id ≡ 0) × (levels_of facts.from id ≡ 0)
      no_levels main handler h l e k = shape.levels_marked id (not_marked (mark_of facts.by_main id) main h e) (not_marked (mark_of facts.by_handler id) handler l k)

      entered_fit : (ns : Needs I) → Entered d p facts n id f point fact ys g callee ns → (q : Known d p) → AreFitBehind d p q ns
      entered_fit ns is q =
          let l = slice_get_within p.funcs g callee there in
          let all : Known d p =
          λ r. (((q r × Has d.below r (ByMain g, Mark (mark_of facts.by_main id))) × Has d.below r (ByHandler g, Mark (mark_of facts.by_handler id))) × Has d.below r (Levels g, LevelSet (levels_of facts.levels id))) × Has d.below r (From g, LevelSet (levels_of facts.from id)) in
          subst (AreFitBehind d p q) (sym is) (
            l,
            λ r i. tt,
            (
              l,
              λ r i. tt,
              (
                l,
                λ r i unmarked none. (no_levels (mark_of r.by_main g) (mark_of r.by_handler g) i.0.1 i.1 unmarked none).0,
                (
                  l,
                  λ r i unmarked none. (no_levels (mark_of r.by_main g) (mark_of r.by_handler g) i.0.0.1 i.0.1 unmarked none).1,
                  fit_append d p all (NeedsAt d p facts (entry p g) callee (at_entry d p facts n id f point fact ys callee)) (other_parameters d p facts n id f point fact g 0 ys)
                      (flow_fits d p (entry p g) callee (at_entry d p facts n id f point fact ys callee) entry_flow all)
                      (others_fit 0 ys (λ j y e. (let w = argument_in j y e in let place : j ≡ 0 + j = omega arith in (w.0, w.1, subst (λ (m : ℕ). slice_get callee.locals m ≡ Some w.0) place w.2, w.3, w.4))) (λ r. all r × HaveThem d p (NeedsAt d p facts (entry p g) callee (at_entry d p facts n id f point fact ys callee)) r)),
                ),
              ),
            ),
          )

    -- ---- returns

    -- what a function may give
    held_result : (g : ℕ) (callee : Func) (u : ValueType) (y : Abs I) → slice_get p.funcs g ≡ Some callee → result_value (out-Sig callee.sig).result ≡ Some u → slice_get facts.results g ≡ Some y → IsSetIn p d u y
    held_result g callee u y function gives at =
        let w = shape.results.there g (slice_get_within p.funcs g callee function) in
        let same : w.1 ≡ y = same_Some w.1 y (sym w.2.1 ∙ at) in
        subst (λ (t : ValueType). IsSetIn p d t y) (one_result_type d p g w.0 u w.2.0 (callee, function, gives)) (subst (IsSetIn p d w.0) same w.2.2)

    -- a set of addresses has no 0
    no_zero : {C : Type 0} (u : ValueType) → IsPointer u → (x least_zero y : Abs I) → IsSetIn p d u x → IsOnly d p facts (value.Int (pos 0)) (Some least_zero) → AreOfOneKind x y → IsBelowAbs d.below least_zero y → C
    no_zero u is (abs.Ints x) least_zero y h only alike above = absurd (no_ints d p u x is h)
    no_zero u is (abs.Addrs r) least_zero (abs.Ints y) h only alike above = absurd alike
    no_zero u is (abs.Addrs r) (abs.Ints z) (abs.Addrs y) h only alike above = absurd above
    no_zero u is (abs.Addrs r) (abs.Addrs z) (abs.Addrs y) h (s, same, has, alone) alike above = absurd (subst (λ (w : Abs I). HasValue d.has w (value.Int (pos 0))) (sym (same_Some (abs.Addrs z) s same)) has)

    -- with 0, where it is of integers
    with_zero : (u : ValueType) (x least_zero y : Abs I) → is_scalar u ≡ true → IsSetIn p d u x → IsOnly d p facts (value.Int (pos 0)) (Some least_zero) → AreOfOneKind x y → IsBelowAbs d.below least_zero y →
        ((s : Abs I) → AreOfOneKind x s → IsBelowAbs d.below x s → IsBelowAbs d.below least_zero s → IsBelowAbs d.below y s) → IsSetIn p d u y
    with_zero NoValue x least_zero y scalar h only alike above least = absurd (true≢false (sym scalar))
    with_zero (Integer i) x least_zero y scalar h (s, is, has, alone) alike above least =
        let whole = whole_set d p typing wholes i in
        let in_whole = below_all d p typing wholes i x h in
        let zero_in : IsBelowAbs d.below least_zero (abs.Ints (wholes i).0) = subst (λ (z : Abs I). IsBelowAbs d.below z (abs.Ints (wholes i).0)) (sym (same_Some least_zero s is)) (alone (abs.Ints (wholes i).0) (has_all d p typing wholes i (pos 0) (truth_value false i p.target))) in
        below_in d p typing wholes i y (least (abs.Ints (wholes i).0) (one_kind d p (Integer i) x (abs.Ints (wholes i).0) h whole) in_whole zero_in)
    with_zero (ToObject c v t) x least_zero y scalar h only alike above least = no_zero (ToObject c v t) tt x least_zero y h only alike above
    with_zero (ToFunction own) x least_zero y scalar h only alike above least = no_zero (ToFunction own) tt x least_zero y h only alike above

    result_in : (g : ℕ) (callee : Func) (u : ValueType) (y : Abs I) → slice_get p.funcs g ≡ Some callee → result_value (out-Sig callee.sig).result ≡ Some u → is_scalar u ≡ true → IsResult d p facts n id f point fact g callee y → IsSetIn p d u y
    result_in g callee u y function gives scalar (OfMain x least_zero is_main some at only alike below above least) = with_zero u x least_zero y scalar (held_result g callee u x function gives at) only alike above least
    result_in g callee u y function gives scalar (OfOther other at) = held_result g callee u y function gives at

    given_flow : (own : Option ℕ) → IsResultTaken p id f own taken.sig → (g : ℕ) (callee : Func) (flow : Flowing I) → slice_get p.funcs g ≡ Some callee → callee.sig ≡ taken.sig → IsGiven d p facts n id f point fact own g callee flow → IsTypedFlow d p f flow
    given_flow own takes g callee flow function sig (ToRegister r number y is at gives same) =
        let (t, u, of_type, of_result, fits) = subst (λ (o : Option ℕ). IsResultTaken p id f o taken.sig) is takes in
        let its = result_in g callee u y function (ap (λ (s : Sig). result_value (out-Sig s).result) sig ∙ of_result) (assigned_scalar t u fits) gives in
        subst (IsTypedFlow d p f) (sym same)
        (local_typed d p f number t y (of_fact fact) (typed_at d typing p wholes normal facts shape n id f point fact is_point known r number t at of_type) (wider_set d p t u y fits its) (fact_typed d p f fact of_point))
    given_flow own takes g callee flow function sig (ToNone is same) = subst (IsTypedFlow d p f) (sym same) (fact_typed d p f fact of_point)

    exit_flow : (callee : Func) (exit : PointFact I) (flow : Flowing I) → IsPointFact d p callee exit → IsTypedFlow d p f flow → IsTypedFlow d p f (of_exit d p facts n id f point fact exit flow)
    exit_flow callee exit flow h l = record { flag = h.flag; locals = l.locals; cells = cells_fit d p callee exit h }

    each_next : (next : List ℕ) → ((k : ℕ) → Contains next k → IsPointIn d p k f) → (flow : Flowing I) → IsTypedFlow d p f flow → (q : Known d p) → AreFitBehind d p q (flat_map (λ k. NeedsAt d p facts k f flow) next)
    each_next [] there flow h q = tt
    each_next (k ∷ next) there flow h q =
        fit_append d p q (NeedsAt d p facts k f flow) (flat_map (λ j. NeedsAt d p facts j f flow) next) (flow_fits d p k f flow (flow_at d p f k flow (there k (at_head k next)) h) q)
        (each_next next (λ j c. there j (behind_head k next j c)) flow h (λ r. q r × HaveThem d p (NeedsAt d p facts k f flow) r))

    returned_fit : (g : ℕ) (callee : Func) → slice_get p.funcs g ≡ Some callee → callee.sig ≡ taken.sig → (ns : Needs I) → Returned d p facts n id f point fact result g callee ns → (q : Known d p) → AreFitBehind d p q ns
    returned_fit g callee function sig ns (FromExit exit flow at given same) q =
        let (last, is_last) = exit_there d p g callee function in
        let its = its_shape d p facts shape (exit_of p g callee) last callee (record { numbered = is_last.numbered; function = ap (slice_get p.funcs) is_last.own ∙ is_last.function }) exit at in
        subst (AreFitBehind d p q) (sym same)
        (each_next point.next (λ k c. next_there d p n id f point is_point k c) (of_exit d p facts n id f point fact exit flow) (exit_flow callee exit flow its (given_flow result taken.result_taken g callee flow function sig given)) q)
    returned_fit g callee function sig ns (NoExit none is) q = subst (AreFitBehind d p q) (sym is) tt

  pub calls_fit : (entering : Bool) (act : Act) → AreTaken p id f act → (ns : Needs I) → CallAsks d p facts n id f point fact entering act ns → AreFit d p ns
  calls_fit entering act taken ns (OfEntries result g args gs ys way is called values each) =
      let takes : IsCallTaken p id f result g args = subst (AreTaken p id f) is taken in
      each_called (Entered d p facts n id f point fact ys) gs (λ h c callee here there asked q. entered_fit result g args takes gs called ys values h callee there (its_sig result g args takes gs called h c callee there) here asked q) ns each (λ q. Unit {0})
  calls_fit entering act taken ns (OfReturns result g args gs way is called each) =
      let takes : IsCallTaken p id f result g args = subst (AreTaken p id f) is taken in
      each_called (Returned d p facts n id f point fact result) gs (λ h c callee here there asked q. returned_fit result g args takes gs called h callee there (its_sig result g args takes gs called h c callee there) here asked q) ns each (λ q. Unit {0})
  calls_fit entering act taken ns (OfNoCall none is) = subst (AreFit d p) (sym is) tt
