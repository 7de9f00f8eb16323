-- Expressions with the numbers of a unit, and back: what a typed expression names returns, and of its numbers holds what holds of the
-- names of the program.
use Rattle.std.proofs.Common.{◌≡◌, ◌∙◌, ℕ, Bool, true, false, not, List, [], ◌∷◌, ◌++◌, map, Option, Some, None, option_map, is_some, slice_get, refl, ap, sym, subst}
use Rattle.std.specs.Prelude.{if◌then◌else◌}
use Rattle.cc_program.proofs.Each.{Each}
use Rattle.cc_program.proofs.ExprInduction.{Parts, PlaceParts, by_expr}
use Rattle.cc_program.specs.declared.expr.Expr.{Expr, Null, FuncAddr, Load, AddrOf, Un, Bin, Conv, Qualify, Move, Gap, Compare, Both, Either, Choose, Assign, Change, After, Call, Intr, Seq, out-Expr, roll-Expr, out-roll-Expr, map-Expr, fold_out-Expr}
use Rattle.cc_program.specs.declared.expr.Expr.TheOpen as one
use Rattle.cc_program.specs.declared.expr.Expr.TheVariants as rolls
use Rattle.cc_program.specs.declared.expr.Intr.{Intr as IntrOf}
use Rattle.cc_program.specs.declared.expr.Intr.TheVariants as intr
use Rattle.cc_program.specs.declared.expr.Place.{Place, Static, Element, Member, Deref, out-Place, roll-Place, out-roll-Place, map-Place, fold_out-Place}
use Rattle.cc_program.specs.declared.expr.Place.TheVariants as places
use Rattle.cc_program.specs.declared.func.Func.{Func}
use Rattle.cc_program.specs.declared.program.Program.{Program}
use Rattle.cc_program.specs.declared.types.CType.{CType}
use Rattle.cc_program.specs.declared.types.Sig.{out-Sig}
use Rattle.cc_shown_expressions.specs.Numbers.{type_numbered}
use Rattle.cc_shown_expressions.specs.OperationNumbers.{Numbers, expr_numbered, place_numbered}
use Rattle.cc_shown_expressions.specs.OperationNumbers.{expr_step as number_step, place_step as number_place_step}
use Rattle.cc_shown_expressions.proofs.Levels.{one-is, two-is, type-at, place-at, expr-at, place-numbered-at}
use Rattle.cc_printed_programs.specs.Returning.{Returns, HoldsOfNames}
use Rattle.cc_printed_programs.proofs.Types.{comes, null-comes, pointer-stands}
use Rattle.cc_type.proofs.CcSyntax.Prefixes.{both_true}
use Rattle.cc_type.specs.CcSyntax.Expressions.{of_one, of_two, pointer_type}
use Rattle.cc_type.specs.CcSyntax.Operators.{when, when_assignable, function_type, is_handler, unary_type, binary_type, conversion_type, moved_type, gap_type, comparison_type, logical_type, choice_type, assignment_type, change_type, after_type, call_type, intrinsic_type, subscript_type}
use Rattle.cc_type.specs.CcSyntax.Expressions.{qualified_type}
use Rattle.cc_type.specs.CcSyntax.Programs.{expr_step, place_step, type_of, place_type}
use Rattle.cc_type.specs.CcSyntax.Values.{ValueType, NoValue, Integer, ToObject, ToFunction, PlaceType, is_assignable_some, are_assignable, scalar_value, result_value, read_from, written_to, address_of, pointed_to, member_of}
use Rattle.cc_type.specs.CcSyntax.Views.{of_program}
use Rattle.cc_type.specs.CcUnit.Mentioned as mentioned
use Rattle.cc_type.specs.CcUnit.Mentioned.{in_expr, in_place, all_of}
use Rattle.cc_type.specs.CcUnit.Renumbered as renumbered
use Rattle.cc_type.specs.CcUnit.Renumbered.{expr_renumbered, place_renumbered, type_renumbered}
use Rattle.cc_type.specs.CcUnit.declared.ids.Ids.{Ids}

-- ---- what is there

pub each-append : {A : Type 0} (P : A → Type 0) (xs ys : List A) → Each P xs → Each P ys → Each P (xs ++ ys)
each-append P [] ys h k = k
each-append P (x ∷ xs) ys h k = (h.0, each-append P xs ys h.1 k)

pub function-there : (o : Option Func) (r : ValueType) → function_type o ≡ Some r → (f : Func) × (o ≡ Some f) × (is_handler f ≡ false)
function-there None r h = absurd (cc)
function-there (Some f) r h = by (is_handler f) refl h
  where
    by : (b : Bool) → is_handler f ≡ b → when (not b) (ToFunction f.sig) ≡ Some r → (g : Func) × (Some f ≡ Some g) × (is_handler g ≡ false)
    by true e k = absurd (cc)
    by false e k = (f, refl, e)

pub mapped-there : {A B : Type 0} (f : A → B) (o : Option A) (r : B) → option_map f o ≡ Some r → (x : A) × (o ≡ Some x)
mapped-there f None r h = absurd (cc)
mapped-there f (Some x) r h = (x, refl)

assignable-there : (o : Option ValueType) (a r : ValueType) → when_assignable o a ≡ Some r → (s : ValueType) × (o ≡ Some s)
assignable-there None a r h = absurd (cc)
assignable-there (Some s) a r h = (s, refl)

restored-there : (i : IntrOf) (o : Option ValueType) (r : ValueType) → intrinsic_type i (Some o) ≡ Some r → (x : ValueType) × (o ≡ Some x)
restored-there intr.Off o r h = absurd (cc)
restored-there intr.On o r h = absurd (cc)
restored-there intr.Save o r h = absurd (cc)
restored-there intr.Restore None r h = absurd (cc)
restored-there intr.Restore (Some x) r h = (x, refl)

abbrev AllThere : List (Option ValueType) → Type 0
AllThere [] = Unit {0}
AllThere (o ∷ os) = (is_some o ≡ true) × AllThere os

some-assigned : (to o : Option ValueType) → is_assignable_some to o ≡ true → is_some o ≡ true
some-assigned None o h = absurd (cc)
some-assigned (Some to) None h = absurd (cc)
some-assigned (Some to) (Some x) h = refl

all-assigned : (ts : List CType) (os : List (Option ValueType)) → are_assignable ts os ≡ true → AllThere os
all-assigned [] [] h = tt
all-assigned (t ∷ ts) [] h = absurd (cc)
all-assigned [] (o ∷ os) h = absurd (cc)
all-assigned (t ∷ ts) (o ∷ os) h =
    let b = both_true (is_assignable_some (scalar_value t) o) (are_assignable ts os) h in
    (some-assigned (scalar_value t) o b.0, all-assigned ts os b.1)

called-there : (t : ValueType) (os : List (Option ValueType)) (r : ValueType) → call_type t os ≡ Some r → AllThere os
called-there NoValue os r h = absurd (cc)
called-there (Integer i) os r h = absurd (cc)
called-there (ToObject c v t) os r h = absurd (cc)
called-there (ToFunction s) os r h = by (are_assignable (out-Sig s).params os) refl h
  where
    by : (b : Bool) → are_assignable (out-Sig s).params os ≡ b → (if b then result_value (out-Sig s).result else None) ≡ Some r → AllThere os
    by true e k = all-assigned (out-Sig s).params os e
    by false e k = absurd (cc)

pub some-value : {A : Type 0} (o : Option A) → is_some o ≡ true → (x : A) × (o ≡ Some x)
some-value None h = absurd (cc)
some-value (Some x) h = (x, refl)

-- ---- levels with numbers

module _ (n : Numbers) where
  abbrev pub numbered_level : one.Expr-F Expr Place → one.Expr-F Expr Place
  numbered_level (one.Null t) = one.Null (type_numbered n.structure t)
  numbered_level (one.FuncAddr i) = one.FuncAddr (n.func i)
  numbered_level (one.Qualify t a) = one.Qualify (type_numbered n.structure t) (expr_numbered n a)
  numbered_level x = map-Expr Expr Place Expr Place (expr_numbered n) (place_numbered n) x

  abbrev stepped : one.Expr-F Expr Place → Expr
  stepped x = number_step n (map-Expr Expr Place Expr Place (expr_numbered n) (place_numbered n) x)

  outs : (x : one.Expr-F Expr Place) → out-Expr (stepped x) ≡ numbered_level x
  outs (one.Const k t) = rolls.outs-Const k t
  outs (one.Null t) = rolls.outs-Null (type_numbered n.structure t)
  outs (one.FuncAddr i) = rolls.outs-FuncAddr (n.func i)
  outs (one.Load a) = rolls.outs-Load (place_numbered n a)
  outs (one.AddrOf a) = rolls.outs-AddrOf (place_numbered n a)
  outs (one.Un o t a) = rolls.outs-Un o t (expr_numbered n a)
  outs (one.Bin o t a b) = rolls.outs-Bin o t (expr_numbered n a) (expr_numbered n b)
  outs (one.Conv t a) = rolls.outs-Conv t (expr_numbered n a)
  outs (one.Qualify t a) = rolls.outs-Qualify (type_numbered n.structure t) (expr_numbered n a)
  outs (one.Move a b back) = rolls.outs-Move (expr_numbered n a) (expr_numbered n b) back
  outs (one.Gap a b) = rolls.outs-Gap (expr_numbered n a) (expr_numbered n b)
  outs (one.Compare o a b) = rolls.outs-Compare o (expr_numbered n a) (expr_numbered n b)
  outs (one.Both a b) = rolls.outs-Both (expr_numbered n a) (expr_numbered n b)
  outs (one.Either a b) = rolls.outs-Either (expr_numbered n a) (expr_numbered n b)
  outs (one.Choose c a b) = rolls.outs-Choose (expr_numbered n c) (expr_numbered n a) (expr_numbered n b)
  outs (one.Assign a e) = rolls.outs-Assign (place_numbered n a) (expr_numbered n e)
  outs (one.Change a o t e) = rolls.outs-Change (place_numbered n a) o t (expr_numbered n e)
  outs (one.After a down) = rolls.outs-After (place_numbered n a) down
  outs (one.Call g args) = rolls.outs-Call (expr_numbered n g) (map (expr_numbered n) args)
  outs (one.Intr i None) = rolls.outs-Intr i None
  outs (one.Intr i (Some a)) = rolls.outs-Intr i (Some (expr_numbered n a))
  outs (one.Seq a b) = rolls.outs-Seq (expr_numbered n a) (expr_numbered n b)

  pub numbered-out : (x : one.Expr-F Expr Place) → out-Expr (expr_numbered n (roll-Expr x)) ≡ numbered_level x
  numbered-out x = ap out-Expr (expr-at n (roll-Expr x) x (out-roll-Expr x)) ∙ outs x

  pub numbered-roll : (x : one.Expr-F Expr Place) → expr_numbered n (roll-Expr x) ≡ number_step n (map-Expr Expr Place Expr Place (expr_numbered n) (place_numbered n) x)
  numbered-roll x = expr-at n (roll-Expr x) x (out-roll-Expr x)

  abbrev pub numbered_place : one.Place-F Expr Place → one.Place-F Expr Place
  numbered_place (one.Static i) = one.Static (n.object i)
  numbered_place (one.Device i) = one.Device (n.device i)
  numbered_place x = map-Place Expr Place Expr Place (expr_numbered n) (place_numbered n) x

  outs-place : (x : one.Place-F Expr Place) → out-Place (number_place_step n (map-Place Expr Place Expr Place (expr_numbered n) (place_numbered n) x)) ≡ numbered_place x
  outs-place (one.Local r) = places.outs-Local r
  outs-place (one.Static i) = places.outs-Static (n.object i)
  outs-place (one.Device i) = places.outs-Device (n.device i)
  outs-place (one.Element a i) = places.outs-Element (place_numbered n a) (expr_numbered n i)
  outs-place (one.Member a m) = places.outs-Member (place_numbered n a) m
  outs-place (one.Deref e) = places.outs-Deref (expr_numbered n e)

  pub place-out : (x : one.Place-F Expr Place) → out-Place (place_numbered n (roll-Place x)) ≡ numbered_place x
  place-out x = ap out-Place (place-numbered-at n (roll-Place x) x (out-roll-Place x)) ∙ outs-place x

  pub place-roll : (x : one.Place-F Expr Place) → place_numbered n (roll-Place x) ≡ number_place_step n (map-Place Expr Place Expr Place (expr_numbered n) (place_numbered n) x)
  place-roll x = place-numbered-at n (roll-Place x) x (out-roll-Place x)

module _ (ids : Ids) where
  abbrev again : one.Expr-F Expr Place → Expr
  again x = renumbered.expr_step ids (map-Expr Expr Place Expr Place (expr_renumbered ids) (place_renumbered ids) x)

  renumbered-at : (e : Expr) (x : one.Expr-F Expr Place) → out-Expr e ≡ x → expr_renumbered ids e ≡ again x
  unfolding expr_renumbered place_renumbered
  renumbered-at e x h = fold_out-Expr Expr Place (renumbered.expr_step ids) (renumbered.place_step ids) e ∙ ap again h

  abbrev again_place : one.Place-F Expr Place → Place
  again_place x = renumbered.place_step ids (map-Place Expr Place Expr Place (expr_renumbered ids) (place_renumbered ids) x)

  place-renumbered-at : (a : Place) (x : one.Place-F Expr Place) → out-Place a ≡ x → place_renumbered ids a ≡ again_place x
  unfolding expr_renumbered place_renumbered
  place-renumbered-at a x h = fold_out-Place Expr Place (renumbered.expr_step ids) (renumbered.place_step ids) a ∙ ap again_place h

abbrev said : one.Expr-F Expr Place → List ℕ
said x = mentioned.expr_step (map-Expr Expr Place (List ℕ) (List ℕ) in_expr in_place x)

said-at : (e : Expr) (x : one.Expr-F Expr Place) → out-Expr e ≡ x → in_expr e ≡ said x
unfolding in_expr in_place
said-at e x h = fold_out-Expr (List ℕ) (List ℕ) mentioned.expr_step mentioned.place_step e ∙ ap said h

abbrev said_place : one.Place-F Expr Place → List ℕ
said_place x = mentioned.place_step (map-Place Expr Place (List ℕ) (List ℕ) in_expr in_place x)

place-said-at : (a : Place) (x : one.Place-F Expr Place) → out-Place a ≡ x → in_place a ≡ said_place x
unfolding in_expr in_place
place-said-at a x h = fold_out-Place (List ℕ) (List ℕ) mentioned.expr_step mentioned.place_step a ∙ ap said_place h

-- ---- typed expressions

module _ (p : Program) (ids : Ids) (n m : Numbers) (returns : Returns p ids n m) (M : ℕ → Type 0) (holds : HoldsOfNames p n M) where
  pub record ExprComes (e : Expr) : Type 0 where
    pub back : expr_renumbered ids (expr_numbered n e) ≡ expr_numbered m e
    pub said : Each M (in_expr (expr_numbered n e))

  pub record PlaceComes (a : Place) : Type 0 where
    pub back : place_renumbered ids (place_numbered n a) ≡ place_numbered m a
    pub said : Each M (in_place (place_numbered n a))

  type-back : (t : CType) (r : ValueType) → pointer_type (of_program p) t ≡ Some r → type_renumbered ids.structures (type_numbered n.structure t) ≡ type_numbered m.structure t
  type-back t r h = comes p ids.structures n.structure m.structure returns.structures t (pointer-stands p t r h)

  -- in a function
  module _ (f : Func) where
    abbrev old : Expr → Option ValueType
    old e = type_of p f.locals e

    abbrev old_place : Place → Option PlaceType
    old_place a = place_type p f.locals a

    abbrev Claim : Expr → Type 0
    Claim e = (t : ValueType) → type_of p f.locals e ≡ Some t → ExprComes e

    abbrev PlaceClaim : Place → Type 0
    PlaceClaim a = (t : PlaceType) → place_type p f.locals a ≡ Some t → PlaceComes a

    record Level (x : one.Expr-F Expr Place) : Type 0 where
      back : again ids (numbered_level n x) ≡ number_step m (map-Expr Expr Place Expr Place (expr_numbered m) (place_numbered m) x)
      said : Each M (said (numbered_level n x))

    record PlaceLevel (x : one.Place-F Expr Place) : Type 0 where
      back : again_place ids (numbered_place n x) ≡ number_place_step m (map-Place Expr Place Expr Place (expr_numbered m) (place_numbered m) x)
      said : Each M (said_place (numbered_place n x))

    abbrev ren : Expr → Expr
    ren e = expr_renumbered ids (expr_numbered n e)

    both-said : (a b : List ℕ) → Each M a → Each M b → Each M (a ++ b)
    both-said a b h k = each-append M a b h k

    record ArgsCome (es : List Expr) : Type 0 where
      back : map (expr_renumbered ids) (map (expr_numbered n) es) ≡ map (expr_numbered m) es
      said : Each M (all_of (map in_expr (map (expr_numbered n) es)))

    args-come : (es : List Expr) → Each Claim es → AllThere (map old es) → ArgsCome es
    args-come [] h k = record { back = refl; said = tt }
    args-come (e ∷ es) h k =
        let v = some-value (old e) k.0 in
        let c = h.0 v.0 v.1 in
        let rest = args-come es h.1 k.1 in
        record {
          back = ap (λ (x : Expr). x ∷ map (expr_renumbered ids) (map (expr_numbered n) es)) c.back ∙ ap (λ (xs : List Expr). expr_numbered m e ∷ xs) rest.back;
          said = each-append M (in_expr (expr_numbered n e)) (all_of (map in_expr (map (expr_numbered n) es))) c.said rest.said;
        }

    -- two operands
    pair-come : (a b : Expr) (g : ValueType → ValueType → Option ValueType) (t : ValueType) → Claim a → Claim b → of_two (old a) (old b) g ≡ Some t → ExprComes a × ExprComes b
    pair-come a b g t h k e = let q = two-is (old a) (old b) g t e in (h q.0 q.2, k q.1 q.3)

    single-come : (a : Expr) (g : ValueType → Option ValueType) (t : ValueType) → Claim a → of_one (old a) g ≡ Some t → ExprComes a
    single-come a g t h e = let q = one-is (old a) g t e in h q.0 q.1

    place-come : (a : Place) (g : PlaceType → Option ValueType) (t : ValueType) → PlaceClaim a → of_one (old_place a) g ≡ Some t → PlaceComes a
    place-come a g t h e = let q = one-is (old_place a) g t e in h q.0 q.1

    level : (x : one.Expr-F Expr Place) → Parts Claim PlaceClaim x → (t : ValueType) → expr_step p f.locals (map-Expr Expr Place (Option ValueType) (Option PlaceType) old old_place x) ≡ Some t → Level x
    level (one.Const k i) h t e = record { back = refl; said = tt }
    level (one.Null u) h t e = record { back = ap (λ (u : CType). Null u) (null-comes p ids.structures n.structure m.structure returns.structures u t e); said = tt }
    level (one.FuncAddr i) h t e =
        let q = function-there (slice_get p.funcs i) t e in
        record { back = ap (λ (j : ℕ). FuncAddr j) (returns.funcs i q.0 q.1); said = (holds.funcs i q.0 q.1 q.2, tt) }
    level (one.Load a) h t e = let c = place-come a read_from t h e in record { back = ap (λ (b : Place). Load b) c.back; said = c.said }
    level (one.AddrOf a) h t e = let c = place-come a address_of t h e in record { back = ap (λ (b : Place). AddrOf b) c.back; said = c.said }
    level (one.Un o i a) h t e = let c = single-come a (unary_type p.target o i) t h e in record { back = ap (λ (b : Expr). Un o i b) c.back; said = c.said }
    level (one.Bin o i a b) h t e =
        let c = pair-come a b (binary_type p.target o i) t h.0 h.1 e in
        record { back = ap (λ (x : Expr). Bin o i x (ren b)) c.0.back ∙ ap (λ (x : Expr). Bin o i (expr_numbered m a) x) c.1.back; said = both-said (in_expr (expr_numbered n a)) (in_expr (expr_numbered n b)) c.0.said c.1.said }
    level (one.Conv i a) h t e = let c = single-come a (conversion_type i) t h e in record { back = ap (λ (b : Expr). Conv i b) c.back; said = c.said }
    level (one.Qualify u a) h t e =
        let q = one-is (old a) (qualified_type (of_program p) u) t e in
        let c = h q.0 q.1 in
        let s = assignable-there (pointer_type (of_program p) u) q.0 t q.2 in
        record { back = ap (λ (w : CType). Qualify w (ren a)) (type-back u s.0 s.1) ∙ ap (λ (x : Expr). Qualify (type_numbered m.structure u) x) c.back; said = c.said }
    level (one.Move a b back) h t e =
        let c = pair-come a b (moved_type p.structures) t h.0 h.1 e in
        record { back = ap (λ (x : Expr). Move x (ren b) back) c.0.back ∙ ap (λ (x : Expr). Move (expr_numbered m a) x back) c.1.back; said = both-said (in_expr (expr_numbered n a)) (in_expr (expr_numbered n b)) c.0.said c.1.said }
    level (one.Gap a b) h t e =
        let c = pair-come a b (gap_type p.structures p.target) t h.0 h.1 e in
        record { back = ap (λ (x : Expr). Gap x (ren b)) c.0.back ∙ ap (λ (x : Expr). Gap (expr_numbered m a) x) c.1.back; said = both-said (in_expr (expr_numbered n a)) (in_expr (expr_numbered n b)) c.0.said c.1.said }
    level (one.Compare o a b) h t e =
        let c = pair-come a b (comparison_type o) t h.0 h.1 e in
        record { back = ap (λ (x : Expr). Compare o x (ren b)) c.0.back ∙ ap (λ (x : Expr). Compare o (expr_numbered m a) x) c.1.back; said = both-said (in_expr (expr_numbered n a)) (in_expr (expr_numbered n b)) c.0.said c.1.said }
    level (one.Both a b) h t e =
        let c = pair-come a b logical_type t h.0 h.1 e in
        record { back = ap (λ (x : Expr). Both x (ren b)) c.0.back ∙ ap (λ (x : Expr). Both (expr_numbered m a) x) c.1.back; said = both-said (in_expr (expr_numbered n a)) (in_expr (expr_numbered n b)) c.0.said c.1.said }
    level (one.Either a b) h t e =
        let c = pair-come a b logical_type t h.0 h.1 e in
        record { back = ap (λ (x : Expr). Either x (ren b)) c.0.back ∙ ap (λ (x : Expr). Either (expr_numbered m a) x) c.1.back; said = both-said (in_expr (expr_numbered n a)) (in_expr (expr_numbered n b)) c.0.said c.1.said }
    level (one.Choose d a b) h t e =
        let q = one-is (old d) (λ s. of_two (old a) (old b) (choice_type p.target s)) t e in
        let k = h.0 q.0 q.1 in
        let c = pair-come a b (choice_type p.target q.0) t h.1 h.2 q.2 in
        record {
          back = ap (λ (x : Expr). Choose x (ren a) (ren b)) k.back ∙ (ap (λ (x : Expr). Choose (expr_numbered m d) x (ren b)) c.0.back ∙ ap (λ (x : Expr). Choose (expr_numbered m d) (expr_numbered m a) x) c.1.back);
          said = both-said (in_expr (expr_numbered n d)) (in_expr (expr_numbered n a) ++ in_expr (expr_numbered n b)) k.said (both-said (in_expr (expr_numbered n a)) (in_expr (expr_numbered n b)) c.0.said c.1.said);
        }
    level (one.Assign a b) h t e =
        let q = two-is (of_one (old_place a) written_to) (old b) assignment_type t e in
        let c = place-come a written_to q.0 h.0 q.2 in
        let d = h.1 q.1 q.3 in
        record { back = ap (λ (x : Place). Assign x (ren b)) c.back ∙ ap (λ (x : Expr). Assign (place_numbered m a) x) d.back; said = both-said (in_place (place_numbered n a)) (in_expr (expr_numbered n b)) c.said d.said }
    level (one.Change a o i b) h t e =
        let q = two-is (of_one (old_place a) written_to) (old b) (change_type p.structures p.target o i) t e in
        let c = place-come a written_to q.0 h.0 q.2 in
        let d = h.1 q.1 q.3 in
        record { back = ap (λ (x : Place). Change x o i (ren b)) c.back ∙ ap (λ (x : Expr). Change (place_numbered m a) o i x) d.back; said = both-said (in_place (place_numbered n a)) (in_expr (expr_numbered n b)) c.said d.said }
    level (one.After a down) h t e =
        let q = one-is (of_one (old_place a) written_to) (after_type p.structures) t e in
        let c = place-come a written_to q.0 h q.1 in
        record { back = ap (λ (x : Place). After x down) c.back; said = c.said }
    level (one.Call g args) h t e =
        let q = one-is (old g) (λ s. call_type s (map old args)) t e in
        let c = h.0 q.0 q.1 in
        let d = args-come args h.1 (called-there q.0 (map old args) t q.2) in
        record {
          back = ap (λ (x : Expr). Call x (map (expr_renumbered ids) (map (expr_numbered n) args))) c.back ∙ ap (λ (xs : List Expr). Call (expr_numbered m g) xs) d.back;
          said = both-said (in_expr (expr_numbered n g)) (all_of (map in_expr (map (expr_numbered n) args))) c.said d.said;
        }
    level (one.Intr i None) h t e = record { back = refl; said = tt }
    level (one.Intr i (Some a)) h t e =
        let q = restored-there i (old a) t e in
        let c = h q.0 q.1 in
        record { back = ap (λ (x : Expr). Intr i (Some x)) c.back; said = c.said }
    level (one.Seq a b) h t e =
        let c = pair-come a b (λ x y. Some y) t h.0 h.1 e in
        record { back = ap (λ (x : Expr). Seq x (ren b)) c.0.back ∙ ap (λ (x : Expr). Seq (expr_numbered m a) x) c.1.back; said = both-said (in_expr (expr_numbered n a)) (in_expr (expr_numbered n b)) c.0.said c.1.said }

    place_level : (x : one.Place-F Expr Place) → PlaceParts Claim PlaceClaim x → (t : PlaceType) → place_step p f.locals (map-Place Expr Place (Option ValueType) (Option PlaceType) old old_place x) ≡ Some t → PlaceLevel x
    place_level (one.Local r) h t e = record { back = refl; said = tt }
    place_level (one.Static i) h t e =
        let q = mapped-there _ (slice_get p.objects i) t e in
        record { back = ap (λ (j : ℕ). Static j) (returns.objects i q.0 q.1); said = (holds.objects i q.0 q.1, tt) }
    place_level (one.Device i) h t e =
        let q = mapped-there _ (slice_get p.devices i) t e in
        record { back = returns.devices i q.0 q.1; said = (holds.devices i q.0 q.1, tt) }
    place_level (one.Element a i) h t e =
        let q = two-is (old_place a) (old i) subscript_type t e in
        let c = h.0 q.0 q.2 in
        let d = h.1 q.1 q.3 in
        record { back = ap (λ (x : Place). Element x (ren i)) c.back ∙ ap (λ (x : Expr). Element (place_numbered m a) x) d.back; said = both-said (in_place (place_numbered n a)) (in_expr (expr_numbered n i)) c.said d.said }
    place_level (one.Member a k) h t e =
        let q = one-is (old_place a) (member_of p.structures k) t e in
        let c = h q.0 q.1 in
        record { back = ap (λ (x : Place). Member x k) c.back; said = c.said }
    place_level (one.Deref a) h t e =
        let q = one-is (old a) pointed_to t e in
        let c = h q.0 q.1 in
        record { back = ap (λ (x : Expr). Deref x) c.back; said = c.said }

    made : (x : one.Expr-F Expr Place) → Parts Claim PlaceClaim x → Claim (roll-Expr x)
    made x h t e =
        let l = level x h t (sym (type-at p f (roll-Expr x) x (out-roll-Expr x)) ∙ e) in
        let out = numbered-out n x in
        record {
          back = renumbered-at ids (expr_numbered n (roll-Expr x)) (numbered_level n x) out ∙ (l.back ∙ sym (numbered-roll m x));
          said = subst (λ (xs : List ℕ). Each M xs) (sym (said-at (expr_numbered n (roll-Expr x)) (numbered_level n x) out)) l.said;
        }

    made_place : (x : one.Place-F Expr Place) → PlaceParts Claim PlaceClaim x → PlaceClaim (roll-Place x)
    made_place x h t e =
        let l = place_level x h t (sym (place-at p f (roll-Place x) x (out-roll-Place x)) ∙ e) in
        let out = place-out n x in
        record {
          back = place-renumbered-at ids (place_numbered n (roll-Place x)) (numbered_place n x) out ∙ (l.back ∙ sym (place-roll m x));
          said = subst (λ (xs : List ℕ). Each M xs) (sym (place-said-at (place_numbered n (roll-Place x)) (numbered_place n x) out)) l.said;
        }

    pub expr-comes : (e : Expr) (t : ValueType) → type_of p f.locals e ≡ Some t → ExprComes e
    expr-comes = by_expr Claim PlaceClaim made made_place
