-- What calls ask grows with the facts: of the functions that may be called, and of the points behind the call.
use Rattle.std.proofs.Common.{◌≡◌, ◌⊎◌, inl, inr, ℕ, suc, ◌<◌, pos, Bool, true, true≢false, List, [], ◌∷◌, length, Contains, Option, Some, None, slice_get, ap, sym, ◌∙◌, subst}
use Rattle.std.specs.Prelude.{option_and_then}
use Rattle.std.specs.List.{AllZip}
use Rattle.std.proofs.lemmas.Option.{same_Some}
use Rattle.cc_rules.specs.CcFlow.declared.types.Point.{Point}
use Rattle.cc_rules.specs.CcFlowSound.Moves.{entry}
use Rattle.cc_rules.specs.CcPlaces.Abstract.{IsBelowAbs}
use Rattle.cc_rules.specs.CcPlaces.declared.abs.Abs.{Abs}
use Rattle.cc_program.specs.declared.expr.Expr.{Expr}
use Rattle.cc_program.specs.declared.func.Func.{Func}
use Rattle.cc_program.specs.declared.program.Program.{Program}
use Rattle.cc_program.specs.declared.value.Address.TheVariants as address
use Rattle.cc_program.specs.declared.value.Value.{Value}
use Rattle.cc_program.specs.declared.value.Value.TheVariants as value
use Rattle.cc_rules.specs.Rules.{NeedsAt, IsOnly, AreValues, AreCalled, ForEach, parameter, at_entry, need_whole, other_parameters, Entered, IsResult, OfMain, OfOther, of_exit, IsGiven, ToRegister, ToNone, Returned, FromExit, NoExit, CallAsks, OfEntries, OfReturns, OfNoCall}
use Rattle.cc_rules.specs.CcRulesFlows.Acts.{Act, Calls}
use Rattle.cc_rules.specs.CcRulesFlows.Nexts.{exit_of}
use Rattle.cc_rules_grow.proofs.Asking.{ValuesMore, for_each_more}
use Rattle.cc_rules_grow.proofs.Below.{IsFactBelow, IsFlowBelow, IsFullBelow, values_of, fact_flows, less_full, local_below, Had, part_had, flow_had}
use Rattle.cc_rules_grow.proofs.Elements.{each_append, each_split, each_flat}
use Rattle.cc_rules_grow.proofs.Kept.{IsKept, abs_through, kind_through, value_grows}
use Rattle.cc_rules.proofs.CcRulesNeeds.Zips.{AreSome, some_at}
use Rattle.cc_rules.specs.CcRulesNeeds.Flowing.{Flowing, of_fact, with_local}
use Rattle.cc_rules.specs.CcRulesNeeds.declared.needs.Part.TheVariants.{Mark, LevelSet, Flags, Values}
use Rattle.cc_rules.specs.CcRulesNeeds.declared.needs.Slot.TheVariants.{Whole, Result, ByMain, ByHandler, Levels, From, CellAt, Flag}
use Rattle.cc_rules.specs.CcRulesNeeds.Needs.{flags_in, Needs, AreValuesBelow, IsBelowPart, Has, IsBelow}
use Rattle.cc_rules.specs.CcStateFacts.declared.facts.Facts.{Facts}
use Rattle.cc_rules.specs.CcStateFacts.declared.facts.Key.TheVariants as key
use Rattle.cc_rules.specs.CcStateFacts.declared.facts.PointFact.{PointFact}
use Rattle.cc_rules.specs.CcStateFacts.Facts.{fact_at, cell_of, cell_at, mark_of, levels_of}
use Rattle.cc_rules.specs.CcStateKeys.Keys.{key_number}
use Rattle.cc_rules.specs.CcStateKeys.Tracked.{registers, register_number, tracked}
use Rattle.cc_rules.specs.CcStateOperators.Domains.{Domain}
use Rattle.cc_state_points.proofs.CcStateValuesGrow.Images.{kind_below}

one_result : (r s : Option ℕ) (g h : Expr) (xs ys : List Expr) → Calls r g xs ≡ Calls s h ys → (r ≡ s) × (g ≡ h) × (xs ≡ ys)
one_result r s g h xs ys e = (cc, cc, cc)

module _ {I : Type 0} (d : Domain I) (k : IsKept d) (p : Program) (facts others holder : Facts I) (less : IsBelow d.below facts others) (n id : ℕ) (f : Func) (point : Point) (fact other : PointFact I)
    (below : IsFactBelow d (length (registers f)) (length (tracked p)) fact other) (values : ValuesMore d k p facts others holder less n id f point fact other) where
  abbrev AreHad : Needs I → Type 0
  AreHad ns = Had d k holder ns

  -- ---- the functions that may be called, and the arguments

  pub called_more : (e : Expr) (gs hs : List ℕ) → AreCalled d p facts n id f point fact e gs → AreCalled d p others n id f point other e hs → (g : ℕ) → Contains gs g → Contains hs g
  called_more e gs hs l m g c = (m.called g).1 (value_grows d k l.operand m.operand (values e l.operand m.operand l.given m.given) (value.Place (address.Func g)) ((l.called g).0 c))

  arguments_more : (es : List Expr) (ys zs : List (Abs I)) → AreValues d p facts n id f point fact es ys → AreValues d p others n id f point other es zs → AllZip (IsBelowAbs d.below) ys zs
  arguments_more [] ys zs is is' = subst (λ (l : List (Abs I)). AllZip (IsBelowAbs d.below) l zs) (sym is) (subst (λ (l : List (Abs I)). AllZip (IsBelowAbs d.below) [] l) (sym is') tt)
  arguments_more (e ∷ es) ys zs (y, rest, val, vals, is) (z, rest', val', vals', is') =
      subst (λ (l : List (Abs I)). AllZip (IsBelowAbs d.below) l zs) (sym is) (subst (λ (l : List (Abs I)). AllZip (IsBelowAbs d.below) (y ∷ rest) l) (sym is') (values e y z val val', arguments_more es rest rest' vals vals'))

  some_values : (x y : Option (Abs I)) → AreSome (IsBelowAbs d.below) x y → AreValuesBelow d.below x y
  some_values None y h = tt
  some_values (Some x) None h = absurd h
  some_values (Some x) (Some y) h = h

  module _ (ys zs : List (Abs I)) (arguments : AllZip (IsBelowAbs d.below) ys zs) where
    parameter_less : (callee : Func) (number : ℕ) → AreValuesBelow d.below (parameter d p facts n id f point fact ys callee number) (parameter d p others n id f point other zs callee number)
    parameter_less callee number = by (slice_get (registers callee) number)
      where
        by : (r : Option ℕ) → AreValuesBelow d.below (option_and_then (slice_get ys) r) (option_and_then (slice_get zs) r)
        by None = tt
        by (Some r) = some_values (slice_get ys r) (slice_get zs r) (some_at (IsBelowAbs d.below) ys zs arguments r)

    entry_less : (callee : Func) (count : ℕ) → IsFlowBelow d count (length (tracked p)) (at_entry d p facts n id f point fact ys callee) (at_entry d p others n id f point other zs callee)
    entry_less callee count = record {
      off = below.off;
      on = below.on;
      locals = λ r l. parameter_less callee r;
      cells_below = λ j l. values_of d (cell_of fact j) (cell_of other j) (below.cells_below j l);
      pairs = λ r j h. h;
    }

  whole_had : (number : Option ℕ) (y z : Abs I) → IsBelowAbs d.below y z → AreHad (need_whole d p others n id f point other number z) → AreHad (need_whole d p facts n id f point fact number y)
  whole_had None y z h had = tt
  whole_had (Some q) y z h had = (part_had d k holder (Whole q) (Values (Some y)) (Values (Some z)) h had.0, tt)

  parameters_had : (g r : ℕ) (ys zs : List (Abs I)) → AllZip (IsBelowAbs d.below) ys zs → AreHad (other_parameters d p others n id f point other g r zs) → AreHad (other_parameters d p facts n id f point fact g r ys)
  parameters_had g r [] zs h had = tt
  parameters_had g r (y ∷ ys) [] h had = absurd h
  parameters_had g r (y ∷ ys) (z ∷ zs) h had =
      let (first, rest) = each_split (Has d.below holder) (need_whole d p others n id f point other (key_number p (key.Local g r)) z) (other_parameters d p others n id f point other g (suc r) zs) had in
      each_append (Has d.below holder) (need_whole d p facts n id f point fact (key_number p (key.Local g r)) y) (other_parameters d p facts n id f point fact g (suc r) ys)
      (whole_had (key_number p (key.Local g r)) y z h.0 first) (parameters_had g (suc r) ys zs h.1 rest)

  entered_more : (ys zs : List (Abs I)) → AllZip (IsBelowAbs d.below) ys zs → (g : ℕ) (callee : Func) (here there : Needs I) → Entered d p facts n id f point fact ys g callee here → Entered d p others n id f point other zs g callee there → AreHad there → AreHad here
  entered_more ys zs arguments g callee here there is is' had =
      let had' = subst AreHad is' had in
      let rest = each_split (Has d.below holder) (NeedsAt d p others (entry p g) callee (at_entry d p others n id f point other zs callee)) (other_parameters d p others n id f point other g 0 zs) had'.1.1.1.1 in
      subst AreHad (sym is) (
        part_had d k holder (ByMain g) (Mark (mark_of facts.by_main id)) (Mark (mark_of others.by_main id)) (less (ByMain id)) had'.0,
        (
          part_had d k holder (ByHandler g) (Mark (mark_of facts.by_handler id)) (Mark (mark_of others.by_handler id)) (less (ByHandler id)) had'.1.0,
          (
            part_had d k holder (Levels g) (LevelSet (levels_of facts.levels id)) (LevelSet (levels_of others.levels id)) (less (Levels id)) had'.1.1.0,
            (
              part_had d k holder (From g) (LevelSet (levels_of facts.from id)) (LevelSet (levels_of others.from id)) (less (From id)) had'.1.1.1.0,
              each_append (Has d.below holder) (NeedsAt d p facts (entry p g) callee (at_entry d p facts n id f point fact ys callee)) (other_parameters d p facts n id f point fact g 0 ys)
                  (flow_had d k holder (entry p g) (length (registers callee)) (length (tracked p)) (at_entry d p facts n id f point fact ys callee) (at_entry d p others n id f point other zs callee) (entry_less ys zs arguments callee (length (registers callee))) rest.0)
                  (parameters_had g 0 ys zs arguments rest.1),
            ),
          ),
        ),
      )

  -- ---- behind the call

  results_less : (g : ℕ) (x y : Abs I) → slice_get facts.results g ≡ Some x → slice_get others.results g ≡ Some y → IsBelowAbs d.below x y
  results_less g x y e h = subst (λ (z : Option (Abs I)). AreValuesBelow d.below (Some x) z) h (subst (λ (z : Option (Abs I)). AreValuesBelow d.below z (slice_get others.results g)) e (less (Result g)))

  only_less : (v : Value) (x y : Abs I) → IsOnly d p facts v (Some x) → IsOnly d p others v (Some y) → IsBelowAbs d.below x y
  only_less v x y (x', is, has, least) (y', is', has', least') =
      subst (λ (z : Abs I). IsBelowAbs d.below z y) (same_Some x' x (sym is)) (subst (λ (z : Abs I). IsBelowAbs d.below x' z) (same_Some y' y (sym is')) (least y' has'))

  result_less : (g : ℕ) (callee : Func) (y z : Abs I) → IsResult d p facts n id f point fact g callee y → IsResult d p others n id f point other g callee z → IsBelowAbs d.below y z
  result_less g callee y z (OfMain x nought main gives is only alike above over least) (OfMain x' nought' main' gives' is' only' alike' above' over' least') =
      let h = results_less g x x' is is' in
      least z (kind_through x x' z (kind_below d.below x x' h) alike') (abs_through d k x x' z h above') (abs_through d k nought nought' z (only_less (value.Int (pos 0)) nought nought' only only') over')
  result_less g callee y z (OfMain x nought main gives is only alike above over least) (OfOther other' is') = absurd (true≢false (sym (other' main) ∙ gives))
  result_less g callee y z (OfOther other is) (OfMain x' nought' main' gives' is' only' alike' above' over' least') = absurd (true≢false (sym (other main') ∙ gives'))
  result_less g callee y z (OfOther other is) (OfOther other' is') = results_less g y z is is'

  -- how the registers are there
  abbrev LocalsBelow : Flowing I → Flowing I → Type 0
  LocalsBelow a b = (r : ℕ) → r < length (registers f) → AreValuesBelow d.below (a.local r) (b.local r)

  locals_of : (a b : Flowing I) → IsFullBelow d (length (registers f)) (length (tracked p)) a b → LocalsBelow a b
  locals_of a b l = (less_full d (length (registers f)) (length (tracked p)) a b l).locals

  here_below : IsFullBelow d (length (registers f)) (length (tracked p)) (of_fact fact) (of_fact other)
  here_below = fact_flows d (length (registers f)) (length (tracked p)) fact other below

  given_less : (result : Option ℕ) (g : ℕ) (callee : Func) (a b : Flowing I) → IsGiven d p facts n id f point fact result g callee a → IsGiven d p others n id f point other result g callee b → LocalsBelow a b
  given_less result g callee a b (ToNone none is) (ToNone none' is') =
      subst (λ (x : Flowing I). LocalsBelow x b) (sym is) (subst (λ (x : Flowing I). LocalsBelow (of_fact fact) x) (sym is') (locals_of (of_fact fact) (of_fact other) here_below))
  given_less result g callee a b (ToNone none is) (ToRegister r m y some number given is') = absurd (let e : None ≡ Some r = sym none ∙ some in cc)
  given_less result g callee a b (ToRegister r m y some number given is) (ToNone none is') = absurd (let e : None ≡ Some r = sym none ∙ some in cc)
  given_less result g callee a b (ToRegister r m y some number given is) (ToRegister r' m' y' some' number' given' is') =
      let same_r : r' ≡ r = same_Some r' r (sym some' ∙ some) in
      let same : m' ≡ m = same_Some m' m (sym number' ∙ (ap (register_number f) same_r ∙ number)) in
      subst (λ (x : Flowing I). LocalsBelow x b) (sym is)
      (subst (λ (x : Flowing I). LocalsBelow (with_local m y (of_fact fact)) x) (sym (is' ∙ ap (λ (i : ℕ). with_local i y' (of_fact other)) same))
      (locals_of (with_local m y (of_fact fact)) (with_local m y' (of_fact other)) (local_below d (length (registers f)) (length (tracked p)) m y y' (of_fact fact) (of_fact other) (result_less g callee y y' given given') here_below)))

  module _ (flagged : (g : ℕ) (callee : Func) (exit : PointFact I) → slice_get p.funcs g ≡ Some callee → fact_at facts (exit_of p g callee) ≡ Some exit → (exit.off ≡ true) ⊎ (exit.on ≡ true)) where
    flags_less : (m : ℕ) (x : PointFact I) (y : Option (PointFact I)) → fact_at facts m ≡ Some x → fact_at others m ≡ y → IsBelowPart d.below (Flags x.off x.on) (flags_in y)
    flags_less m x y e h = subst (λ (z : Option (PointFact I)). IsBelowPart d.below (Flags x.off x.on) (flags_in z)) h (subst (λ (z : Option (PointFact I)). IsBelowPart d.below (flags_in z) (flags_in (fact_at others m))) e (less (Flag m)))

    not_reached : {C : Type 0} (x : PointFact I) → (x.off ≡ true) ⊎ (x.on ≡ true) → IsBelowPart d.below (Flags x.off x.on) (flags_in {I = I} None) → C
    not_reached x (inl h) l = absurd (true≢false (sym (l.0 h)))
    not_reached x (inr h) l = absurd (true≢false (sym (l.1 h)))

    cells_less : (m j : ℕ) (x y : PointFact I) → fact_at facts m ≡ Some x → fact_at others m ≡ Some y → AreValuesBelow d.below (cell_of x j) (cell_of y j)
    cells_less m j x y e h =
        subst (λ (z : Option (PointFact I)). AreValuesBelow d.below (cell_of x j) (option_and_then (λ (i : PointFact I). cell_of i j) z)) h
        (subst (λ (z : Option (PointFact I)). AreValuesBelow d.below (option_and_then (λ (i : PointFact I). cell_of i j) z) (cell_at others m j)) e (less (CellAt m j)))

    exit_less : (m : ℕ) (x y : PointFact I) (a b : Flowing I) → fact_at facts m ≡ Some x → fact_at others m ≡ Some y → LocalsBelow a b →
        IsFlowBelow d (length (registers f)) (length (tracked p)) (of_exit d p facts n id f point fact x a) (of_exit d p others n id f point other y b)
    exit_less m x y a b e h locals = record {
      off = (flags_less m x (Some y) e h).0;
      on = (flags_less m x (Some y) e h).1;
      locals = locals;
      cells_below = λ j l. cells_less m j x y e h;
      pairs = λ r j g. g;
    }

    returned_more : (result : Option ℕ) (g : ℕ) (callee : Func) (here there : Needs I) → slice_get p.funcs g ≡ Some callee → Returned d p facts n id f point fact result g callee here → Returned d p others n id f point other result g callee there → AreHad there → AreHad here
    returned_more result g callee here there is_callee (NoExit none is) l had = subst AreHad (sym is) tt
    returned_more result g callee here there is_callee (FromExit exit flow at given is) (NoExit none is') had = not_reached exit (flagged g callee exit is_callee at) (flags_less (exit_of p g callee) exit None at none)
    returned_more result g callee here there is_callee (FromExit exit flow at given is) (FromExit exit' flow' at' given' is') had =
        let l = exit_less (exit_of p g callee) exit exit' flow flow' at at' (given_less result g callee flow flow' given given') in
        subst AreHad (sym is)
        (each_flat (Has d.below holder) (λ m. NeedsAt d p others m f (of_exit d p others n id f point other exit' flow')) (λ m. NeedsAt d p facts m f (of_exit d p facts n id f point fact exit flow)) point.next
        (λ m h. flow_had d k holder m (length (registers f)) (length (tracked p)) (of_exit d p facts n id f point fact exit flow) (of_exit d p others n id f point other exit' flow') l h) (subst AreHad is' had))

    -- ---- both

    pub calls_grow : (entering : Bool) (act : Act) (ns ms : Needs I) → CallAsks d p facts n id f point fact entering act ns → CallAsks d p others n id f point other entering act ms → AreHad ms → AreHad ns
    calls_grow entering act ns ms (OfNoCall never is) l had = subst AreHad (sym is) tt
    calls_grow entering act ns ms (OfEntries r g args gs ys way is called vals each) (OfNoCall never is') had = absurd (never r g args is)
    calls_grow entering act ns ms (OfReturns r g args gs way is called each) (OfNoCall never is') had = absurd (never r g args is)
    calls_grow entering act ns ms (OfEntries r g args gs ys way is called vals each) (OfReturns r' g' args' gs' way' is' called' each') had = absurd (true≢false (sym way ∙ way'))
    calls_grow entering act ns ms (OfReturns r g args gs way is called each) (OfEntries r' g' args' gs' ys' way' is' called' vals' each') had = absurd (true≢false (sym way' ∙ way))
    calls_grow entering act ns ms (OfEntries r g args gs ys way is called vals each) (OfEntries r' g' args' hs zs way' is' called' vals' each') had =
        let (same_r, same_g, same_args) = one_result r' r g' g args' args (sym is' ∙ is) in
        for_each_more d k p facts others holder less n id f point fact other (Entered d p facts n id f point fact ys) (Entered d p others n id f point other zs)
        (λ h callee here there is_callee asked asked' had'. entered_more ys zs (arguments_more args ys zs vals (subst (λ (l : List Expr). AreValues d p others n id f point other l zs) same_args vals')) h callee here there asked asked' had') gs hs ns ms
        (called_more g gs hs called (subst (λ (e : Expr). AreCalled d p others n id f point other e hs) same_g called')) each each' had
    calls_grow entering act ns ms (OfReturns r g args gs way is called each) (OfReturns r' g' args' hs way' is' called' each') had =
        let (same_r, same_g, same_args) = one_result r' r g' g args' args (sym is' ∙ is) in
        for_each_more d k p facts others holder less n id f point fact other (Returned d p facts n id f point fact r) (Returned d p others n id f point other r)
        (λ h callee here there is_callee asked asked' had'. returned_more r h callee here there is_callee asked asked' had') gs hs ns ms
        (called_more g gs hs called (subst (λ (e : Expr). AreCalled d p others n id f point other e hs) same_g called')) each
        (subst (λ (s : Option ℕ). ForEach d p others n id f point other (Returned d p others n id f point other s) hs ms) same_r each') had
