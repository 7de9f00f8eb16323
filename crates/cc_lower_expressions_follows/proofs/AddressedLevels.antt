-- Each expression and each place, by its kind.
use Rattle.std.proofs.Common.{◌≡◌, ℕ, ◌+◌, pos, Bool, true, false, ◌||◌, List, [], ◌∷◌, map, length, Option, Some, None, refl, ap, sym, ◌∙◌, subst, if◌then◌else◌}
use Rattle.std.specs.Prelude.{option_and_then}
use Rattle.std.specs.List.{list_any}
use Rattle.cc_program.specs.CcNum.declared.int_type.IntType.{IntType}
use Rattle.cc_program.specs.CcNum.declared.int_type.IntType.TheVariants as int
use Rattle.cc_program.specs.CcNum.declared.op.BinOp.{BinOp}
use Rattle.cc_program.specs.declared.expr.Expr.{Expr, Const, AddrOf, Qualify, Move, Gap, Compare, Call, Intr, roll-Expr, map-Expr, fold-roll-Expr}
use Rattle.cc_program.specs.declared.expr.Expr.TheOpen as one
use Rattle.cc_program.specs.declared.expr.Expr.TheVariants.{rolls-AddrOf, rolls-Qualify, rolls-Gap}
use Rattle.cc_program.specs.declared.expr.Place.{Place, Element, Member, Deref, roll-Place, map-Place, fold-roll-Place}
use Rattle.cc_program.specs.declared.expr.Place.TheVariants.{rolls-Element, rolls-Member, rolls-Deref}
use Rattle.cc_program.specs.declared.func.Func.{Func}
use Rattle.cc_program.specs.declared.program.Program.{Program}
use Rattle.cc_program.specs.declared.types.CType.{CType}
use Rattle.cc_program.proofs.Each.{Each}
use Rattle.cc_program.proofs.ExprInduction.{Parts, PlaceParts, by_expr}
use Rattle.cc_program.proofs.FoldFusion.{place_fused}
use Rattle.cc_states.specs.CcSyntax.Effects.{Registers, also}
use Rattle.cc_states.specs.CcSyntax.Expressions as typing
use Rattle.cc_states.specs.CcSyntax.Expressions.{of_one}
use Rattle.cc_states.specs.CcSyntax.Forms.{form_of}
use Rattle.cc_states.specs.CcSyntax.Operators.{change_type, after_type}
use Rattle.cc_states.specs.CcSyntax.Programs.{expr_step, place_step}
use Rattle.cc_states.specs.CcSyntax.Registers.{PlaceUse, address_step, use_step, is_address_taken, place_use}
use Rattle.cc_states.specs.CcSyntax.Values.{ValueType, NoValue, Integer, ToObject, ToFunction, read_from, written_to}
use Rattle.cc_states.specs.CcEval.Context.{Context}
use Rattle.cc_states.specs.CcEval.Eval.{Meaning, Designation, meaning, designation}
use Rattle.cc_states.proofs.CcEval.Links.{level, place_level, place_type_linked}
use Rattle.cc_states.proofs.GivenLemmas.{read_as_written}
use Rattle.cc_states.proofs.Options.{with_one, with_two}
use Rattle.cc_lower_expressions.specs.Expressions.{Piece, Make, Lowers, Lowering, PlaceLowering, done, ◌>>=◌, fork, emit, temp, set, from_one, from_two, unused, is_callee, value_of, int_value, arm_as, condition_of, branch_alone, is_void_value, intr_operand, choose_void, choose_value, all_args, arguments, truth_of, arm_of, both_value, either_value, call_of, by_temp, call, lower_step, place_lower_step, lowering, place_lowering}
use Rattle.cc_lower_expressions_follows.proofs.Addressed.{takes, place_takes, any, takes-rolled, use-rolled, takes-temp, taken-set, any-append, Has, no_more, has_done, has_then, has_fork, has_both, has_mapped, has_behind, has_branch, or_none, or_grouped}
use Rattle.cc_lower_expressions_follows.proofs.AddressedExpressions.{list_takes, takes-Const, takes-Call, takes-Intr, takes-Move, takes-Compare, takes-un, takes-bin, takes-conv, takes-truth, may_change, SameTaken, SamePlace, stop, stopped, sets, whole_default, effect_default, value_right, alone_right, whole_right_same, unused_by, read_same, whole_read_same, unused_read, step_value_same, step_alone_same, assigned_same, assignment_same, changed_same, change_alone_same}
use Rattle.cc_lower_expressions_follows.proofs.Itself.{itself}
use Rattle.cc_lower_expressions_follows.proofs.Opened.{at_level}
use Rattle.cc_lower_expressions_follows.proofs.Typing.{IsTyped, TypedExpr, TypedPlace, typed_parts, typed_place_parts}

or_between : (a b c : Bool) → a || (b || c) ≡ b || (a || c)
or_between true true c = refl
or_between true false c = refl
or_between false b c = refl

module _ (r : ℕ) (c : Context) (declares : Option ValueType → CType) (is_same : Option ValueType → Option ValueType → Bool) where
  abbrev p : Program
  p = c.program

  abbrev f : Func
  f = c.func

  abbrev lowering_at : Expr → Lowering
  lowering_at e = lowering p f declares is_same e

  abbrev place_lowering_at : Place → PlaceLowering
  place_lowering_at a = place_lowering p f declares is_same a

  abbrev Same : Bool → Lowering → Type 0
  Same taken l = SameTaken r p f declares is_same taken l

  abbrev SameAt : Bool → Bool → PlaceLowering → Type 0
  SameAt taken is_it l = SamePlace r p f declares is_same taken is_it l

  -- ---- arms, arguments and calls

  arm : (taken : Bool) (b : Lowering) → Same taken b → (later : Registers) (n : ℕ) → Has r (no_more r) taken (arm_of p f declares is_same b later n)
  arm taken b h later n =
      has_then r (takes r) (no_more r) taken (b.operand later) (λ v. emit (set n (truth_of p f declares is_same b.ctype v))) (h.operand later)
      (λ v count. sets r p f declares is_same n (truth_of p f declares is_same b.ctype v) count ∙ takes-truth r p f declares is_same b.ctype v)

  constant_arm : (x n : ℕ) → Has r (no_more r) false (arm_as x n)
  constant_arm x n count = sets r p f declares is_same n (Const (pos x) int.Int) count ∙ takes-Const r (pos x) int.Int

  abbrev stop_here : Make (Unit {0})
  stop_here = stop r p f declares is_same

  -- a pure one stays as it is, and alone it is nothing but its value
  alone_by : (taken : Bool) (e : Expr) (impure : Make Expr) (t : Option ValueType) (pure : Bool) → takes r e ≡ taken → Has r (no_more r) taken (impure >>= (λ v. stop_here)) →
      Has r (no_more r) taken (if pure then ((if pure then done e else impure) >>= unused t) else ((if pure then done e else impure) >>= (λ v. stop_here)))
  alone_by taken e impure t true i h count =
      has_then r (takes r) (no_more r) (takes r e) (done e) (unused t) (has_done r (takes r) e) (λ v. unused_by r p f declares is_same taken (λ later. done e) (λ later k. i) t v _ refl) count ∙ i
  alone_by taken e impure t false i h count = h count

  value_by : (taken : Bool) (e : Expr) (impure : Make Expr) (pure : Bool) → takes r e ≡ taken → Has r (takes r) taken impure → Has r (takes r) taken (if pure then done e else impure)
  value_by taken e impure true i h count = i
  value_by taken e impure false i h count = h count

  dropped : (taken : Bool) (m : Make Expr) → Has r (no_more r) taken m → Has r (no_more r) taken (m >>= (λ v. stop_here))
  dropped taken m h = has_then r (no_more r) (no_more r) taken m (λ v. stop_here) h (λ v. stopped r p f declares is_same)

  no_temp : (n : ℕ) → no_more r (temp n) ≡ false
  no_temp n = refl

  AllSame : List Bool → List Lowering → Type 0
  AllSame [] [] = Unit {0}
  AllSame (t ∷ ts) [] = ⊥
  AllSame [] (a ∷ rest) = ⊥
  AllSame (t ∷ ts) (a ∷ rest) = Same t a × AllSame ts rest

  arguments_same : (ts : List Bool) (args : List Lowering) → AllSame ts args → (later : Registers) → Has r (list_takes r) (list_any (λ b. b) ts) (arguments args later)
  unfolding AllSame
  arguments_same [] [] h later count = refl
  arguments_same (t ∷ ts) [] h later count = absurd h
  arguments_same [] (a ∷ rest) h later count = absurd h
  arguments_same (t ∷ ts) (a ∷ rest) h later count =
      has_both r {C = List Expr} (λ x xs. x ∷ xs) (takes r) (list_takes r) (list_takes r) (λ x xs. refl) t (list_any (λ b. b) ts) (a.operand (also (all_args rest) later)) (arguments rest later)
      (h.0.operand (also (all_args rest) later)) (arguments_same ts rest h.1 later) count

  called_by : (b : Bool) (taken : Bool) (t : Option ValueType) (z : Piece (Expr × List Expr)) (k : ℕ) → any r z.stmts || (takes r z.value.0 || list_takes r z.value.1) ≡ taken →
      let y = if b then record { temps = z.temps; stmts = z.stmts; value = call_of p f declares is_same z.value.0 z.value.1 } else by_temp p f declares is_same t z k in any r y.stmts || takes r y.value ≡ taken
  called_by true taken t z k h = ap (λ (x : Bool). any r z.stmts || x) (takes-Call r z.value.0 z.value.1) ∙ h
  called_by false taken t z k h =
      ap (λ (x : Bool). x || takes r (Call (temp k) z.value.1)) (any-append r z.stmts (set k z.value.0 ∷ [])) ∙
      ap (λ (x : Bool). (any r z.stmts || (x || false)) || takes r (Call (temp k) z.value.1)) (taken-set r k z.value.0) ∙
      ap (λ (x : Bool). (any r z.stmts || (takes r z.value.0 || false)) || x) (takes-Call r (temp k) z.value.1) ∙
      ap (λ (x : Bool). (any r z.stmts || (takes r z.value.0 || false)) || (x || list_takes r z.value.1)) (takes-temp r k) ∙
      ap (λ (x : Bool). (any r z.stmts || x) || list_takes r z.value.1) (or_none (takes r z.value.0)) ∙ or_grouped (any r z.stmts) (takes r z.value.0) (list_takes r z.value.1) ∙ h

  call_same : (s : Bool) (ts : List Bool) (g : Lowering) (args : List Lowering) → Same s g → AllSame ts args → (later : Registers) → Has r (takes r) (s || list_any (λ b. b) ts) (call p f declares is_same g args later)
  call_same s ts g args h hs later k =
      let z = from_two (λ e xs. (e, xs)) (all_args args) g.operand (arguments args) later k in
      called_by (is_callee f (form_of z.value.0)) (s || list_any (λ b. b) ts) g.ctype z (k + length z.temps)
      (has_both r {C = Expr × List Expr} (λ e xs. (e, xs)) (takes r) (list_takes r) (λ x. takes r x.0 || list_takes r x.1) (λ e xs. refl) s (list_any (λ b. b) ts) (g.operand (also (all_args args) later)) (arguments args later)
      (h.operand (also (all_args args) later)) (arguments_same ts args hs later) k)

  -- ---- what stands for a part

  at : (e : Expr) (x : one.Expr-F Expr Place) → roll-Expr x ≡ e → takes r e ≡ address_step r (map-Expr Expr Place Bool PlaceUse (is_address_taken r) (place_use r) x)
  at e x h = ap (is_address_taken r) (sym h) ∙ takes-rolled r x

  place_at : (a : Place) (x : one.Place-F Expr Place) → roll-Place x ≡ a → place_use r a ≡ use_step r (map-Place Expr Place Bool PlaceUse (is_address_taken r) (place_use r) x)
  place_at a x h = ap (place_use r) (sym h) ∙ use-rolled r x

  taken_at : (a : Place) (x : one.Place-F Expr Place) → roll-Place x ≡ a → place_takes r a ≡ (use_step r (map-Place Expr Place Bool PlaceUse (is_address_taken r) (place_use r) x)).address_taken
  taken_at a x h = ap (λ (u : PlaceUse). u.address_taken) (place_at a x h)

  its_name : (a : Place) (x : one.Place-F Expr Place) → roll-Place x ≡ a → (place_use r a).is_local ≡ (use_step r (map-Place Expr Place Bool PlaceUse (is_address_taken r) (place_use r) x)).is_local
  its_name a x h = ap (λ (u : PlaceUse). u.is_local) (place_at a x h)

  -- the address of a place
  address_same : (taken is_it : Bool) (a : PlaceLowering) → SameAt taken is_it a → (later : Registers) → Has r (takes r) (is_it || taken) (from_one AddrOf a.operands later)
  address_same taken is_it a h later k =
      let x = a.operands later k in
      ap (λ (b : Bool). any r x.stmts || b) (at (AddrOf x.value) (one.AddrOf x.value) (rolls-AddrOf x.value)) ∙
      ap (λ (b : Bool). any r x.stmts || (b || place_takes r x.value)) (h.named later k) ∙ or_between (any r x.stmts) is_it (place_takes r x.value) ∙ ap (λ (b : Bool). is_it || b) (h.operands later k)

  -- by default
  by_default : (taken : Bool) (l : Lowering) → takes r l.itself ≡ taken → (operand : Lowers Expr) (t : Option ValueType) → ((later : Registers) → Has r (takes r) taken (operand later)) →
      Same taken (record { itself = l.itself; ctype = l.ctype; effects = l.effects; operand = operand; whole = λ u n later. operand later >>= (λ v. emit (set n v)); effect = λ later. operand later >>= unused t })
  by_default taken l i operand t h = record {
    itself = i;
    operand = h;
    whole = λ u n later. whole_default r p f declares is_same taken operand h u n later;
    effect = λ later. effect_default r p f declares is_same taken operand h t later;
  }

  -- ---- by levels

  abbrev level_taken : one.Expr-F Expr Place → Bool
  level_taken x = address_step r (map-Expr Expr Place Bool PlaceUse (is_address_taken r) (place_use r) x)

  abbrev level_use : one.Place-F Expr Place → PlaceUse
  level_use x = use_step r (map-Place Expr Place Bool PlaceUse (is_address_taken r) (place_use r) x)

  abbrev level_lowering : one.Expr-F Expr Place → Lowering
  level_lowering x = lower_step p f declares is_same (map-Expr Expr Place Lowering PlaceLowering lowering_at place_lowering_at x)

  abbrev level_place : one.Place-F Expr Place → PlaceLowering
  level_place x = place_lower_step p f declares is_same (map-Place Expr Place Lowering PlaceLowering lowering_at place_lowering_at x)

  lowering_level : (x : one.Expr-F Expr Place) → lowering_at (roll-Expr x) ≡ level_lowering x
  unfolding lowering place_lowering
  lowering_level x = fold-roll-Expr Lowering PlaceLowering (lower_step p f declares is_same) (place_lower_step p f declares is_same) x

  place_lowering_level : (x : one.Place-F Expr Place) → place_lowering_at (roll-Place x) ≡ level_place x
  unfolding lowering place_lowering
  place_lowering_level x = fold-roll-Place Lowering PlaceLowering (lower_step p f declares is_same) (place_lower_step p f declares is_same) x

  place_type_kept : (a : Place) → (place_lowering_at a).ctype ≡ (designation c a).ctype
  unfolding place_lowering typing.place_type
  place_type_kept a = place_fused (lower_step p f declares is_same) (place_lower_step p f declares is_same) (expr_step p f.locals) (place_step p f.locals) (λ l. l.ctype) (λ l. l.ctype) (λ x. refl) (λ x. refl) a ∙ sym (place_type_linked c a)

  itself_at : (x : one.Expr-F Expr Place) → takes r (level_lowering x).itself ≡ level_taken x
  itself_at x = ap (λ (l : Lowering). takes r l.itself) (sym (lowering_level x)) ∙ ap (is_address_taken r) (itself p f declares is_same (roll-Expr x)) ∙ takes-rolled r x

  abbrev P : Expr → Type 0
  P e = Same (takes r e) (lowering_at e)

  abbrev Q : Place → Type 0
  Q a = SameAt (place_takes r a) (place_use r a).is_local (place_lowering_at a)

  abbrev Level : one.Expr-F Expr Place → Type 0
  Level x = Same (level_taken x) (level_lowering x)

  default_at : (x : one.Expr-F Expr Place) (operand : Lowers Expr) → ((later : Registers) → Has r (takes r) (level_taken x) (operand later)) →
      Same (level_taken x) (record {
        itself = (level_lowering x).itself;
        ctype = (level_lowering x).ctype;
        effects = (level_lowering x).effects;
        operand = operand;
        whole = λ u n later. operand later >>= (λ v. emit (set n v));
        effect = λ later. operand later >>= unused (level_lowering x).ctype;
      })
  default_at x operand h = by_default (level_taken x) (level_lowering x) (itself_at x) operand (level_lowering x).ctype h

  -- one and two operands
  one_same : (make : Expr → Expr) → ((e : Expr) → takes r (make e) ≡ takes r e) → (a : Expr) → P a → (later : Registers) → Has r (takes r) (takes r a) (from_one make (lowering_at a).operand later)
  one_same make maps a h later = has_mapped r make (takes r) (takes r) maps (takes r a) ((lowering_at a).operand later) (h.operand later)

  two_same : (make : Expr → Expr → Expr) → ((d e : Expr) → takes r (make d e) ≡ takes r d || takes r e) → (a b : Expr) → P a → P b → (later : Registers) →
      Has r (takes r) (takes r a || takes r b) (from_two make (lowering_at b).effects.assigned (lowering_at a).operand (lowering_at b).operand later)
  two_same make joins a b h k later =
      has_both r {C = Expr} make (takes r) (takes r) (takes r) joins (takes r a) (takes r b) ((lowering_at a).operand (also (lowering_at b).effects.assigned later)) ((lowering_at b).operand later)
      (h.operand (also (lowering_at b).effects.assigned later)) (k.operand later)

  -- `&&`, `||` and `?:`
  choice_same : (x : one.Expr-F Expr Place) (impure : Lowers Expr) → ((later : Registers) (v : Expr → Bool) → ((n : ℕ) → v (temp n) ≡ false) → Has r v (level_taken x) (impure later)) →
      ((later : Registers) → Has r (takes r) (level_taken x) (if (level_lowering x).effects.pure later then done (level_lowering x).itself else impure later)) ×
      ((later : Registers) → Has r (no_more r) (level_taken x) (if (level_lowering x).effects.pure later then ((if (level_lowering x).effects.pure later then done (level_lowering x).itself else impure later) >>= unused (level_lowering x).ctype)
      else ((if (level_lowering x).effects.pure later then done (level_lowering x).itself else impure later) >>= (λ v. stop_here))))
  choice_same x impure h = (
    (λ later. value_by (level_taken x) (level_lowering x).itself (impure later) ((level_lowering x).effects.pure later) (itself_at x) (h later (takes r) (takes-temp r))),
    (λ later. alone_by (level_taken x) (level_lowering x).itself (impure later) (level_lowering x).ctype ((level_lowering x).effects.pure later) (itself_at x) (dropped (level_taken x) (impure later) (h later (no_more r) no_temp))),
  )

  both_same : (a b : Expr) → P a → P b → (later : Registers) (v : Expr → Bool) → ((n : ℕ) → v (temp n) ≡ false) → Has r v (takes r a || takes r b) (both_value p f declares is_same (lowering_at a) (lowering_at b) later)
  both_same a b h k later v none count =
      has_branch r v none int_value ((lowering_at a).operand (also (lowering_at b).effects.assigned later)) (arm_of p f declares is_same (lowering_at b) later) (arm_as 0) (takes r a) (takes r b) false
      (h.operand (also (lowering_at b).effects.assigned later)) (arm (takes r b) (lowering_at b) k later) (constant_arm 0) count ∙ ap (λ (x : Bool). takes r a || x) (or_none (takes r b))

  either_same : (a b : Expr) → P a → P b → (later : Registers) (v : Expr → Bool) → ((n : ℕ) → v (temp n) ≡ false) → Has r v (takes r a || takes r b) (either_value p f declares is_same (lowering_at a) (lowering_at b) later)
  either_same a b h k later v none =
      has_branch r v none int_value ((lowering_at a).operand (also (lowering_at b).effects.assigned later)) (arm_as 1) (arm_of p f declares is_same (lowering_at b) later) (takes r a) false (takes r b)
      (h.operand (also (lowering_at b).effects.assigned later)) (constant_arm 1) (arm (takes r b) (lowering_at b) k later)

  chosen_same : (d a b : Expr) → P d → P a → P b → (t : Option ValueType) (later : Registers) (v : Expr → Bool) → ((n : ℕ) → v (temp n) ≡ false) →
      Has r v (takes r d || (takes r a || takes r b)) (choose_value t (lowering_at d) (lowering_at a) (lowering_at b) later)
  chosen_same d a b h j k t later v none =
      has_branch r v none t (condition_of (lowering_at d) (lowering_at a) (lowering_at b) later) (λ n. (lowering_at a).whole t n (also (lowering_at b).effects.assigned later)) (λ n. (lowering_at b).whole t n later)
      (takes r d) (takes r a) (takes r b) (h.operand (also (lowering_at a).effects.assigned (also (lowering_at b).effects.assigned later))) (λ n. j.whole t n (also (lowering_at b).effects.assigned later)) (λ n. k.whole t n later)

  void_same : (d a b : Expr) → P d → P a → P b → (later : Registers) → Has r (no_more r) (takes r d || (takes r a || takes r b)) (choose_void (lowering_at d) (lowering_at a) (lowering_at b) later)
  void_same d a b h j k later =
      has_then r (λ v. takes r v || (takes r a || takes r b)) (no_more r) (takes r d || (takes r a || takes r b)) (condition_of (lowering_at d) (lowering_at a) (lowering_at b) later)
      (λ v. fork v ((lowering_at a).effect (also (lowering_at b).effects.assigned later)) ((lowering_at b).effect later))
      (has_behind r (takes r) (takes r d) (takes r a || takes r b) (condition_of (lowering_at d) (lowering_at a) (lowering_at b) later) (h.operand (also (lowering_at a).effects.assigned (also (lowering_at b).effects.assigned later))))
      (λ v. has_fork r v ((lowering_at a).effect (also (lowering_at b).effects.assigned later)) ((lowering_at b).effect later) (takes r a) (takes r b) (j.effect (also (lowering_at b).effects.assigned later)) (k.effect later))

  by_void : (b : Bool) (taken : Bool) (void other : Make (Unit {0})) → Has r (no_more r) taken void → Has r (no_more r) taken other → Has r (no_more r) taken (if b then void else other)
  by_void true taken void other h k count = h count
  by_void false taken void other h k count = k count

  -- behind an expression whose value nobody uses
  behind_effect : (a b : Expr) → P a → (later : Registers) {A : Type 0} (v : A → Bool) (m : Make A) → Has r v (takes r b) m → Has r v (takes r a || takes r b) ((lowering_at a).effect later >>= (λ u. m))
  behind_effect a b h later v m k =
      has_then r (λ (u : Unit {0}). false || takes r b) v (takes r a || takes r b) ((lowering_at a).effect later) (λ u. m) (has_behind r (no_more r) (takes r a) (takes r b) ((lowering_at a).effect later) (h.effect later)) (λ u. k)

  -- what is changed
  abbrev may : ValueType → Bool
  may to = may_change r p f declares is_same (Some to)

  may_by_change : (o : BinOp) (t : IntType) (to from x : ValueType) → change_type p.structures p.target o t to from ≡ Some x → may to ≡ true
  may_by_change o t NoValue from x h = absurd (cc)
  may_by_change o t (Integer s) from x h = refl
  may_by_change o t (ToObject k v to) from x h = refl
  may_by_change o t (ToFunction sig) from x h = absurd (cc)

  may_by_step : (to x : ValueType) → after_type p.structures to ≡ Some x → may to ≡ true
  may_by_step NoValue x h = absurd (cc)
  may_by_step (Integer s) x h = refl
  may_by_step (ToObject k v to) x h = refl
  may_by_step (ToFunction sig) x h = absurd (cc)

  value_is : (a : Place) (to : ValueType) → of_one (designation c a).ctype written_to ≡ Some to → value_of (place_lowering_at a) ≡ Some to
  value_is a to h =
      with_one (value_of (place_lowering_at a) ≡ Some to) (designation c a).ctype written_to to h (λ u e g. ap (option_and_then read_from) (place_type_kept a ∙ e) ∙ read_as_written u to g)

  may_of : (a : Place) (to : ValueType) → of_one (designation c a).ctype written_to ≡ Some to → may to ≡ true → may_change r p f declares is_same (value_of (place_lowering_at a)) ≡ true
  may_of a to e h = ap (may_change r p f declares is_same) (value_is a to e) ∙ h

  all_same : (es : List Expr) → Each P es → AllSame (map (is_address_taken r) es) (map lowering_at es)
  unfolding AllSame
  all_same [] h = tt
  all_same (e ∷ es) h = (h.0, all_same es h.1)

  same_level : (x : one.Expr-F Expr Place) → Parts P Q x → IsTyped (at_level c x).ctype → Level x
  same_level (one.Const n t) h ty = default_at (one.Const n t) (λ later. done (level_lowering (one.Const n t)).itself) (λ later count. itself_at (one.Const n t))
  same_level (one.Null t) h ty = default_at (one.Null t) (λ later. done (level_lowering (one.Null t)).itself) (λ later count. itself_at (one.Null t))
  same_level (one.FuncAddr g) h ty = default_at (one.FuncAddr g) (λ later. done (level_lowering (one.FuncAddr g)).itself) (λ later count. itself_at (one.FuncAddr g))
  same_level (one.Load a) h ty = record {
    itself = itself_at (one.Load a);
    operand = read_same r p f declares is_same (place_takes r a) (place_use r a).is_local (place_lowering_at a) h;
    whole = whole_read_same r p f declares is_same (place_takes r a) (place_use r a).is_local (place_lowering_at a) h;
    effect = unused_read r p f declares is_same (place_takes r a) (place_use r a).is_local (place_lowering_at a) h;
  }
  same_level (one.AddrOf a) h ty = default_at (one.AddrOf a) (from_one AddrOf (place_lowering_at a).operands) (address_same (place_takes r a) (place_use r a).is_local (place_lowering_at a) h)
  same_level (one.Un o t a) h ty = default_at (one.Un o t a) (level_lowering (one.Un o t a)).operand (one_same _ (takes-un r p f declares is_same o t) a h)
  same_level (one.Bin o t a b) h ty = default_at (one.Bin o t a b) (level_lowering (one.Bin o t a b)).operand (two_same _ (takes-bin r p f declares is_same o t) a b h.0 h.1)
  same_level (one.Conv t a) h ty = default_at (one.Conv t a) (level_lowering (one.Conv t a)).operand (one_same _ (takes-conv r p f declares is_same t) a h)
  same_level (one.Qualify t a) h ty = default_at (one.Qualify t a) (level_lowering (one.Qualify t a)).operand (one_same (Qualify t) (λ e. at (Qualify t e) (one.Qualify t e) (rolls-Qualify t e)) a h)
  same_level (one.Move a b back) h ty = default_at (one.Move a b back) (level_lowering (one.Move a b back)).operand (two_same (λ x y. Move x y back) (λ d e. takes-Move r d e back) a b h.0 h.1)
  same_level (one.Gap a b) h ty = default_at (one.Gap a b) (level_lowering (one.Gap a b)).operand (two_same Gap (λ d e. at (Gap d e) (one.Gap d e) (rolls-Gap d e)) a b h.0 h.1)
  same_level (one.Compare o a b) h ty = default_at (one.Compare o a b) (level_lowering (one.Compare o a b)).operand (two_same (Compare o) (takes-Compare r o) a b h.0 h.1)
  same_level (one.Both a b) h ty =
      let x = choice_same (one.Both a b) (both_value p f declares is_same (lowering_at a) (lowering_at b)) (both_same a b h.0 h.1) in
      record { itself = itself_at (one.Both a b); operand = x.0; whole = whole_default r p f declares is_same (level_taken (one.Both a b)) (level_lowering (one.Both a b)).operand x.0; effect = x.1 }
  same_level (one.Either a b) h ty =
      let x = choice_same (one.Either a b) (either_value p f declares is_same (lowering_at a) (lowering_at b)) (either_same a b h.0 h.1) in
      record { itself = itself_at (one.Either a b); operand = x.0; whole = whole_default r p f declares is_same (level_taken (one.Either a b)) (level_lowering (one.Either a b)).operand x.0; effect = x.1 }
  same_level (one.Choose d a b) h ty =
      let x = choice_same (one.Choose d a b) (choose_value (level_lowering (one.Choose d a b)).ctype (lowering_at d) (lowering_at a) (lowering_at b)) (chosen_same d a b h.0 h.1 h.2 (level_lowering (one.Choose d a b)).ctype) in
      record {
        itself = itself_at (one.Choose d a b);
        operand = x.0;
        whole = whole_default r p f declares is_same (level_taken (one.Choose d a b)) (level_lowering (one.Choose d a b)).operand x.0;
        effect = λ later. by_void (is_void_value (level_lowering (one.Choose d a b)).ctype) (level_taken (one.Choose d a b)) (choose_void (lowering_at d) (lowering_at a) (lowering_at b) later)
            (branch_alone (level_lowering (one.Choose d a b)).effects (level_lowering (one.Choose d a b)).ctype (level_lowering (one.Choose d a b)).operand later) (void_same d a b h.0 h.1 h.2 later) (x.1 later);
      }
  same_level (one.Assign a e) h ty =
      let x = assigned_same r p f declares is_same (place_takes r a) (place_use r a).is_local (place_lowering_at a) h.0 (takes r e) (lowering_at e) h.1 in
      record {
        itself = itself_at (one.Assign a e);
        operand = x;
        whole = whole_default r p f declares is_same (level_taken (one.Assign a e)) (level_lowering (one.Assign a e)).operand x;
        effect = assignment_same r p f declares is_same (place_takes r a) (place_use r a).is_local (place_lowering_at a) h.0 (takes r e) (lowering_at e) h.1;
      }
  same_level (one.Change a o t e) h ty =
      let may = with_two (may_change r p f declares is_same (value_of (place_lowering_at a)) ≡ true) (of_one (designation c a).ctype written_to) (meaning c e).ctype (change_type p.structures p.target o t) ty.0 ty.1
      (λ to from g k i. may_of a to g (may_by_change o t to from ty.0 i)) in
      let x = changed_same r p f declares is_same (place_takes r a) (place_use r a).is_local (place_lowering_at a) h.0 (takes r e) (lowering_at e) h.1 o t may in
      record {
        itself = itself_at (one.Change a o t e);
        operand = x;
        whole = whole_default r p f declares is_same (level_taken (one.Change a o t e)) (level_lowering (one.Change a o t e)).operand x;
        effect = change_alone_same r p f declares is_same (place_takes r a) (place_use r a).is_local (place_lowering_at a) h.0 (takes r e) (lowering_at e) h.1 o t may;
      }
  same_level (one.After a down) h ty =
      let may = with_one (may_change r p f declares is_same (value_of (place_lowering_at a)) ≡ true) (of_one (designation c a).ctype written_to) (after_type p.structures) ty.0 ty.1
      (λ to g i. may_of a to g (may_by_step to ty.0 i)) in
      let x = step_value_same r p f declares is_same (place_takes r a) (place_use r a).is_local (place_lowering_at a) h down may in
      record {
        itself = itself_at (one.After a down);
        operand = x;
        whole = whole_default r p f declares is_same (level_taken (one.After a down)) (level_lowering (one.After a down)).operand x;
        effect = step_alone_same r p f declares is_same (place_takes r a) (place_use r a).is_local (place_lowering_at a) h down may;
      }
  same_level (one.Call g es) h ty =
      let x = call_same (takes r g) (map (is_address_taken r) es) (lowering_at g) (map lowering_at es) h.0 (all_same es h.1) in
      record {
        itself = itself_at (one.Call g es);
        operand = value_right r p f declares is_same (level_taken (one.Call g es)) (call p f declares is_same (lowering_at g) (map lowering_at es)) x (level_lowering (one.Call g es)).ctype;
        whole = whole_right_same r p f declares is_same (level_taken (one.Call g es)) (call p f declares is_same (lowering_at g) (map lowering_at es)) x (level_lowering (one.Call g es)).ctype;
        effect = alone_right r p f declares is_same (level_taken (one.Call g es)) (call p f declares is_same (lowering_at g) (map lowering_at es)) x;
      }
  same_level (one.Intr i None) h ty =
      let x : (later : Registers) → Has r (takes r) false (from_one (Intr i) (intr_operand None) later) = λ later count. takes-Intr r i None in
      record {
        itself = itself_at (one.Intr i None);
        operand = value_right r p f declares is_same false (from_one (Intr i) (intr_operand None)) x (level_lowering (one.Intr i None)).ctype;
        whole = whole_right_same r p f declares is_same false (from_one (Intr i) (intr_operand None)) x (level_lowering (one.Intr i None)).ctype;
        effect = alone_right r p f declares is_same false (from_one (Intr i) (intr_operand None)) x;
      }
  same_level (one.Intr i (Some a)) h ty =
      let x : (later : Registers) → Has r (takes r) (takes r a) (from_one (Intr i) (intr_operand (Some (lowering_at a))) later) =
      λ later count. ap (λ (b : Bool). any r ((lowering_at a).operand later count).stmts || b) (takes-Intr r i (Some ((lowering_at a).operand later count).value)) ∙ h.operand later count in
      record {
        itself = itself_at (one.Intr i (Some a));
        operand = value_right r p f declares is_same (takes r a) (from_one (Intr i) (intr_operand (Some (lowering_at a)))) x (level_lowering (one.Intr i (Some a))).ctype;
        whole = whole_right_same r p f declares is_same (takes r a) (from_one (Intr i) (intr_operand (Some (lowering_at a)))) x (level_lowering (one.Intr i (Some a))).ctype;
        effect = alone_right r p f declares is_same (takes r a) (from_one (Intr i) (intr_operand (Some (lowering_at a)))) x;
      }
  same_level (one.Seq a b) h ty = record {
    itself = itself_at (one.Seq a b);
    operand = λ later. behind_effect a b h.0 (also (lowering_at b).effects.assigned later) (takes r) ((lowering_at b).operand later) (h.1.operand later);
    whole = λ u n later. behind_effect a b h.0 (also (lowering_at b).effects.assigned later) (no_more r) ((lowering_at b).whole u n later) (h.1.whole u n later);
    effect = λ later. behind_effect a b h.0 (also (lowering_at b).effects.assigned later) (no_more r) ((lowering_at b).effect later) (h.1.effect later);
  }

  same_place_level : (x : one.Place-F Expr Place) → PlaceParts P Q x → SameAt (level_use x).address_taken (level_use x).is_local (level_place x)
  same_place_level (one.Local i) h = record { operands = λ later count. taken_at (roll-Place (one.Local i)) (one.Local i) refl; named = λ later k. its_name (roll-Place (one.Local i)) (one.Local i) refl; register = λ j e. refl }
  same_place_level (one.Static i) h = record { operands = λ later count. taken_at (roll-Place (one.Static i)) (one.Static i) refl; named = λ later k. its_name (roll-Place (one.Static i)) (one.Static i) refl; register = λ j e. refl }
  same_place_level (one.Device d) h = record { operands = λ later count. taken_at (roll-Place (one.Device d)) (one.Device d) refl; named = λ later k. its_name (roll-Place (one.Device d)) (one.Device d) refl; register = λ j e. refl }
  same_place_level (one.Element a i) h = record {
    operands = λ later.
        has_both r {C = Place} Element (place_takes r) (takes r) (place_takes r) (λ b e. taken_at (Element b e) (one.Element b e) (rolls-Element b e)) (place_takes r a) (takes r i)
        ((place_lowering_at a).operands (also (lowering_at i).effects.assigned later)) ((lowering_at i).operand later) (h.0.operands (also (lowering_at i).effects.assigned later)) (h.1.operand later);
    named = λ later k.
        let x = (place_lowering_at a).operands (also (lowering_at i).effects.assigned later) k in
        let y = (lowering_at i).operand later (k + length x.temps) in
        its_name (Element x.value y.value) (one.Element x.value y.value) (rolls-Element x.value y.value);
    register = λ j e. absurd (cc);
  }
  same_place_level (one.Member a m) h = record {
    operands = λ later. has_mapped r (λ b. Member b m) (place_takes r) (place_takes r) (λ b. taken_at (Member b m) (one.Member b m) (rolls-Member b m)) (place_takes r a) ((place_lowering_at a).operands later) (h.operands later);
    named = λ later k. let b = ((place_lowering_at a).operands later k).value in its_name (Member b m) (one.Member b m) (rolls-Member b m);
    register = λ j e. absurd (cc);
  }
  same_place_level (one.Deref e) h = record {
    operands = λ later. has_mapped r Deref (takes r) (place_takes r) (λ v. taken_at (Deref v) (one.Deref v) (rolls-Deref v)) (takes r e) ((lowering_at e).operand later) (h.operand later);
    named = λ later k. let v = ((lowering_at e).operand later k).value in its_name (Deref v) (one.Deref v) (rolls-Deref v);
    register = λ j i. absurd (cc);
  }

  -- ---- the induction

  abbrev IfTyped : Expr → Type 0
  IfTyped e = TypedExpr c e → P e

  abbrev PlaceIfTyped : Place → Type 0
  PlaceIfTyped a = TypedPlace c a → Q a

  each_typed : (es : List Expr) → Each IfTyped es → Each (TypedExpr c) es → Each P es
  each_typed [] h t = tt
  each_typed (e ∷ es) h t = (h.0 t.0, each_typed es h.1 t.1)

  parts_typed : (x : one.Expr-F Expr Place) → Parts IfTyped PlaceIfTyped x → Parts (TypedExpr c) (TypedPlace c) x → Parts P Q x
  parts_typed (one.Const n t) h k = tt
  parts_typed (one.Null t) h k = tt
  parts_typed (one.FuncAddr g) h k = tt
  parts_typed (one.Load a) h k = h k
  parts_typed (one.AddrOf a) h k = h k
  parts_typed (one.Un o t a) h k = h k
  parts_typed (one.Bin o t a b) h k = (h.0 k.0, h.1 k.1)
  parts_typed (one.Conv t a) h k = h k
  parts_typed (one.Qualify t a) h k = h k
  parts_typed (one.Move a b back) h k = (h.0 k.0, h.1 k.1)
  parts_typed (one.Gap a b) h k = (h.0 k.0, h.1 k.1)
  parts_typed (one.Compare o a b) h k = (h.0 k.0, h.1 k.1)
  parts_typed (one.Both a b) h k = (h.0 k.0, h.1 k.1)
  parts_typed (one.Either a b) h k = (h.0 k.0, h.1 k.1)
  parts_typed (one.Choose d a b) h k = (h.0 k.0, h.1 k.1, h.2 k.2)
  parts_typed (one.Assign a e) h k = (h.0 k.0, h.1 k.1)
  parts_typed (one.Change a o t e) h k = (h.0 k.0, h.1 k.1)
  parts_typed (one.After a down) h k = h k
  parts_typed (one.Call g args) h k = (h.0 k.0, each_typed args h.1 k.1)
  parts_typed (one.Intr i None) h k = tt
  parts_typed (one.Intr i (Some a)) h k = h k
  parts_typed (one.Seq a b) h k = (h.0 k.0, h.1 k.1)

  places_typed : (x : one.Place-F Expr Place) → PlaceParts IfTyped PlaceIfTyped x → PlaceParts (TypedExpr c) (TypedPlace c) x → PlaceParts P Q x
  places_typed (one.Local i) h k = tt
  places_typed (one.Static i) h k = tt
  places_typed (one.Device d) h k = tt
  places_typed (one.Element a i) h k = (h.0 k.0, h.1 k.1)
  places_typed (one.Member a m) h k = h k
  places_typed (one.Deref e) h k = h k

  made : (x : one.Expr-F Expr Place) → Parts IfTyped PlaceIfTyped x → IfTyped (roll-Expr x)
  made x h ty =
      let typed = subst (λ (m : Meaning). IsTyped m.ctype) (level c x) ty in
      subst (λ (l : Lowering). Same (takes r (roll-Expr x)) l) (sym (lowering_level x))
      (subst (λ (b : Bool). Same b (level_lowering x)) (sym (takes-rolled r x)) (same_level x (parts_typed x h (typed_parts c x typed)) typed))

  place_made : (x : one.Place-F Expr Place) → PlaceParts IfTyped PlaceIfTyped x → PlaceIfTyped (roll-Place x)
  place_made x h ty =
      let typed = subst (λ (d : Designation). IsTyped d.ctype) (place_level c x) ty in
      subst (λ (l : PlaceLowering). SameAt (place_takes r (roll-Place x)) (place_use r (roll-Place x)).is_local l) (sym (place_lowering_level x))
      (subst (λ (u : PlaceUse). SameAt u.address_taken u.is_local (level_place x)) (sym (use-rolled r x)) (same_place_level x (places_typed x h (typed_place_parts c x typed))))

  -- what a typed expression becomes takes the addresses of the locals of which it takes them, in its statements and its value
  pub same_taken : (e : Expr) → TypedExpr c e → SameTaken r p f declares is_same (takes r e) (lowering p f declares is_same e)
  same_taken e ty = by_expr IfTyped PlaceIfTyped made place_made e ty
