-- A device that an expression accesses is accessed by what the expression is lowered to.
use Rattle.std.proofs.Common.{◌≡◌, ◌∙◌, ◌+◌, ◌||◌, ℕ, Bool, true, false, List, [], ◌∷◌, map, length, Option, Some, None, is_some, refl, ap, sym, subst, if◌then◌else◌}
use Rattle.std.specs.List.{list_any}
use Rattle.std.specs.Prelude.{nat_eq}
use Rattle.std.proofs.lemmas.Bool.{true≢false, or_left, or_right}
use Rattle.cc_accessed_operands.specs.Accessed.{PlaceAccess, of_place, accesses, place_access}
use Rattle.cc_accessed_operands.proofs.Accesses.{or_either, no, accesses_at, place_access_at, accesses-roll, place-access-roll}
use Rattle.cc_program.specs.CcNum.declared.int_type.IntType.{IntType}
use Rattle.cc_program.specs.CcNum.declared.op.BinOp.{BinOp}
use Rattle.cc_lower_expressions.specs.Expressions.{Piece, Make, done, ◌>>=◌, fresh, emit, fork, temp, set, into, mapped, Lowers, from_one, from_two, Lowering, PlaceLowering, value_of, number_of, all_args, arguments, whole_by, unused, effect_by, place_and, read_at, read, assigned_value, assignment, int_value, arm_as, condition_of, unless_pure, branch_alone, is_void_value, intr_operand, choose_void, choose_value, truth_of, whole_right, whole_read, read_unused, change, changed_value, change_alone, stepped, step_value, step_alone, arm_of, both_value, either_value, call_of, by_temp, called, call, is_callee, folded_un, folded_bin, folded_conv}
use Rattle.cc_lower_expressions.specs.Temporaries.{declared_type, is_same_type}
use Rattle.cc_lower_normal.proofs.AccessedPieces.{IsAt, Has, left, right, head, read_there, Gives, first, second, both_first, both_second, fork_first, fork_second, in_both, into_read, device_read_at, two_give, assigned_place, assigned_whole, assigned_device, changed_first, changed_device, alone_first, alone_device, once_first, once_device, stepped_first, stepped_device, step_alone_first, step_alone_device, branch_condition, branch_first, branch_second}
use Rattle.cc_lower_normal.proofs.IdleOperands.{pure_idle, place_effects_at, place-effects-roll}
use Rattle.cc_lower_numbers_sound.proofs.Orders.{has}
use Rattle.cc_lower_sound.proofs.LoweringParts.{low, place_low, lowered_as, lowered_parts, low-at, place_lowered_as, lowered_place_parts, place-low-at}
use Rattle.cc_program.specs.declared.expr.Expr.{Expr, Load, AddrOf, Qualify, Move, Gap, Compare, Assign, Intr, roll-Expr}
use Rattle.cc_program.specs.declared.expr.Expr.TheOpen as one
use Rattle.cc_program.specs.declared.expr.Place.{Place, Local, Element, roll-Place, out-roll-Place}
use Rattle.cc_program.specs.declared.expr.Intr.{Intr as Intrinsic}
use Rattle.cc_program.specs.declared.func.Func.{Func}
use Rattle.cc_program.specs.declared.program.Program.{Program}
use Rattle.cc_program.specs.declared.stmt.Stmt.{Do}
use Rattle.cc_program.proofs.Each.{Each}
use Rattle.cc_program.proofs.ExprInduction.{Parts, PlaceParts, by_expr}
use Rattle.cc_states.specs.CcSyntax.Effects.{Registers, also, Effects, PlaceEffects, effects_of, place_effects_of}
use Rattle.cc_states.specs.CcSyntax.Expressions.{type_of, place_type}
use Rattle.cc_states.specs.CcSyntax.Forms.{form_of}
use Rattle.cc_states.specs.CcSyntax.Normal.{device_in}
use Rattle.cc_states.specs.CcSyntax.Values.{ValueType, PlaceType}
use Rattle.cc_states.specs.CcSyntax.Views.{of_program}

abbrev call_pair : Expr → List Expr → Expr × List Expr
call_pair e xs = (e, xs)

abbrev place_pair : Place → Expr → Place × Expr
place_pair b v = (b, v)

abbrev before_rest : Expr → List Expr → List Expr
before_rest x xs = x ∷ xs

module _ (d : ℕ) where
  -- where it is accessed, all that is made has it
  pub record KeptBy (accessed : Bool) (l : Lowering) : Type 0 where
    pub operand : accessed ≡ true → (later : Registers) → Gives d (l.operand later)
    pub whole : accessed ≡ true → (t : Option ValueType) (n : ℕ) (later : Registers) → Gives d (l.whole t n later)
    pub effect : accessed ≡ true → (later : Registers) → Gives d (l.effect later)

  pub record PlaceKeptBy (accessed : PlaceAccess) (m : PlaceLowering) : Type 0 where
    pub operands : accessed.inside ≡ true → (later : Registers) → Gives d (m.operands later)
    pub device : accessed.is_device ≡ true → (later : Registers) (k : ℕ) → IsAt d (m.operands later k).value
    pub no_register : of_place accessed ≡ true → m.effects.register ≡ None

  module _ (p : Program) (f : Func) where
    abbrev pub Kept : Expr → Type 0
    Kept e = KeptBy (accesses d e) (low p f e)

    abbrev pub PlaceKept : Place → Type 0
    PlaceKept a = PlaceKeptBy (place_access d a) (place_low p f a)

    abbrev L : Expr → Lowering
    L e = low p f e

    abbrev M : Place → PlaceLowering
    M a = place_low p f a

    abbrev acc : Expr → Bool
    acc e = accesses d e

    abbrev own : Place → Bool
    own a = (place_access d a).is_device

    abbrev inside : Place → Bool
    inside a = (place_access d a).inside

    never : (l : Lowering) → KeptBy false l
    never l = record { operand = λ q later. no q; whole = λ q t n later. no q; effect = λ q later. no q }

    -- ---- by default

    whole_gives : (op : Lowers Expr) (t : Option ValueType) (n : ℕ) (later : Registers) → Gives d (op later) → Gives d (whole_by op t n later)
    whole_gives op t n later h = first d (op later) (λ v. emit (set n v)) h

    effect_gives : (op : Lowers Expr) (t : Option ValueType) (later : Registers) → Gives d (op later) → Gives d (effect_by t op later)
    effect_gives op t later h = first d (op later) (unused t) h

    default : (accessed : Bool) (effects : Effects) (t : Option ValueType) (e : Expr) (op : Lowers Expr) → (accessed ≡ true → (later : Registers) → Gives d (op later)) →
        KeptBy accessed (record { itself = e; ctype = t; effects = effects; operand = op; whole = whole_by op; effect = effect_by t op })
    default accessed effects t e op h = record {
      operand = h;
      whole = λ q o n later. whole_gives op o n later (h q later);
      effect = λ q later. effect_gives op t later (h q later);
    }

    two : (g : Expr → Expr → Expr) (assigned : Registers) (a b : Expr) → Kept a → Kept b → acc a || acc b ≡ true → (later : Registers) → Gives d (from_two g assigned (L a).operand (L b).operand later)
    two g assigned a b h k q later = two_give d g assigned later (L a).operand (L b).operand (acc a) (acc b) h.operand k.operand q

    -- ---- reads

    read_gives : (a : Place) → PlaceKept a → of_place (place_access d a) ≡ true → (later : Registers) → Gives d (read (M a) later)
    read_gives a h q later =
        or_either (own a) (inside a) (λ i. second d ((M a).operands later) (read_at (M a) later) (λ k. device_read_at d (M a) later ((M a).operands later k).value (h.no_register q) (h.device i later k)))
        (λ i. first d ((M a).operands later) (read_at (M a) later) (h.operands i later)) q

    right_whole : (to : Option ValueType) (right : Lowers Expr) (t : Option ValueType) (n : ℕ) (later : Registers) → Gives d (right later) → Gives d (whole_right p f declared_type is_same_type to right t n later)
    right_whole to right t n later h = first d (right later) (λ e. if is_same_type to t then emit (set n e) else (into to e >>= (λ v. emit (set n v)))) h

    read_right : (a : Place) → PlaceKept a → of_place (place_access d a) ≡ true → (t : Option ValueType) (n : ℕ) (later : Registers) → Gives d (whole_right p f declared_type is_same_type (value_of (M a)) (from_one Load (M a).operands) t n later)
    read_right a h q t n later =
        or_either (own a) (inside a)
        (λ i. second d (from_one Load (M a).operands later) (λ e. if is_same_type (value_of (M a)) t then emit (set n e) else (into (value_of (M a)) e >>= (λ v. emit (set n v))))
        (λ k. let b : Place = ((M a).operands later k).value in
        in_both d (is_same_type (value_of (M a)) t) (emit (set n (Load b))) (into (value_of (M a)) (Load b) >>= (λ v. emit (set n v))) (record { at = λ j. head d (set n (Load b)) [] (read_there d (Local n) b (h.device i later k)) })
        (first d (into (value_of (M a)) (Load b)) (λ v. emit (set n v)) (into_read d (value_of (M a)) b (h.device i later k)))))
        (λ i. right_whole (value_of (M a)) (from_one Load (M a).operands) t n later (record { at = λ k. (h.operands i later).at k })) q

    whole_read_gives : (a : Place) → PlaceKept a → of_place (place_access d a) ≡ true → (t : Option ValueType) (n : ℕ) (later : Registers) → Gives d (whole_read p f declared_type is_same_type (M a) t n later)
    whole_read_gives a h q t n later =
        in_both d (is_some (M a).effects.register) (whole_by (read (M a)) t n later) (whole_right p f declared_type is_same_type (value_of (M a)) (from_one Load (M a).operands) t n later)
        (whole_gives (read (M a)) t n later (read_gives a h q later)) (read_right a h q t n later)

    unused_read : (a : Place) → PlaceKept a → of_place (place_access d a) ≡ true → (later : Registers) → Gives d (read_unused p f declared_type is_same_type (M a) later)
    unused_read a h q later =
        second d (fresh (value_of (M a))) (λ n. whole_read p f declared_type is_same_type (M a) (value_of (M a)) n later) (λ k. whole_read_gives a h q (value_of (M a)) k later)

    -- ---- writes

    -- a place, and the operand behind it
    operands_give : (a : Place) (e : Expr) → PlaceKept a → Kept e → inside a || acc e ≡ true → (later : Registers) → Gives d (place_and (M a) (L e) later)
    operands_give a e h k q later = two_give d place_pair (L e).effects.assigned later (M a).operands (L e).operand (inside a) (acc e) h.operands k.operand q

    -- it is the place, or it is among the operands
    device_or : {C : Type 0} (a : Place) (x : Bool) → (own a ≡ true → C) → (inside a || x ≡ true → C) → of_place (place_access d a) || x ≡ true → C
    device_or a x g h q = or_either (of_place (place_access d a)) x (λ z. or_either (own a) (inside a) g (λ y. h (or_left (inside a) x y)) z) (λ z. h (or_right (inside a) x z)) q

    assigned_gives : (a : Place) (e : Expr) → PlaceKept a → Kept e → of_place (place_access d a) || acc e ≡ true → (later : Registers) → Gives d (assigned_value (M a) (L e) later)
    assigned_gives a e h k q later =
        let behind_place : Registers = also (L e).effects.assigned later in
        let m : Make Place = (M a).operands behind_place in
        let w = λ (n : ℕ). (L e).whole (value_of (M a)) n later in
        device_or a (acc e) (λ i. assigned_device d m (value_of (M a)) w (h.device i behind_place))
        (λ i. or_either (inside a) (acc e) (λ j. assigned_place d m (value_of (M a)) w (h.operands j behind_place)) (λ j. assigned_whole d m (value_of (M a)) w (λ n. k.whole j (value_of (M a)) n later)) i) q

    -- the place of an access of the device is no register
    other_assigned : (a : Place) (e : Expr) (later : Registers) → (M a).effects.register ≡ None → Gives d (place_and (M a) (L e) later >>= (λ x. emit (Do (Assign x.0 x.1)))) → Gives d (assignment (M a) (L e) later)
    other_assigned a e later r h =
        subst (λ (o : Option ℕ). Gives d (if is_some o then (L e).whole (value_of (M a)) (number_of o) later else (place_and (M a) (L e) later >>= (λ x. emit (Do (Assign x.0 x.1)))))) (sym r) h

    assignment_gives : (a : Place) (e : Expr) → PlaceKept a → Kept e → of_place (place_access d a) || acc e ≡ true → (later : Registers) → Gives d (assignment (M a) (L e) later)
    assignment_gives a e h k q later =
        let m : Make (Place × Expr) = place_and (M a) (L e) later in
        let idle = λ (x : Place × Expr). done (temp 0) in
        or_either (of_place (place_access d a)) (acc e)
        (λ z. other_assigned a e later (h.no_register z)
        (or_either (own a) (inside a) (λ i. once_device d m None idle (λ n. h.device i (also (L e).effects.assigned later) n)) (λ i. once_first d m None idle (operands_give a e h k (or_left (inside a) (acc e) i) later)) z))
        (λ j. in_both d (is_some (M a).effects.register) ((L e).whole (value_of (M a)) (number_of (M a).effects.register) later) (m >>= (λ x. emit (Do (Assign x.0 x.1))))
        (k.whole j (value_of (M a)) (number_of (M a).effects.register) later) (once_first d m None idle (operands_give a e h k (or_right (inside a) (acc e) j) later))) q

    changed_gives : (a : Place) (o : BinOp) (i : IntType) (e : Expr) → PlaceKept a → Kept e → of_place (place_access d a) || acc e ≡ true → (later : Registers) → Gives d (changed_value p f declared_type is_same_type (M a) o i (L e) later)
    changed_gives a o i e h k q later =
        let m : Make (Place × Expr) = place_and (M a) (L e) later in
        let c = λ (x : Place × Expr). change p f declared_type is_same_type (M a) o i x later in
        device_or a (acc e) (λ z. changed_device d m (value_of (M a)) c (λ n. h.device z (also (L e).effects.assigned later) n)) (λ z. changed_first d m (value_of (M a)) c (operands_give a e h k z later)) q

    change_gives : (a : Place) (o : BinOp) (i : IntType) (e : Expr) → PlaceKept a → Kept e → of_place (place_access d a) || acc e ≡ true → (later : Registers) → Gives d (change_alone p f declared_type is_same_type (M a) o i (L e) later)
    change_gives a o i e h k q later =
        let m : Make (Place × Expr) = place_and (M a) (L e) later in
        let c = λ (x : Place × Expr). change p f declared_type is_same_type (M a) o i x later in
        device_or a (acc e) (λ z. alone_device d m (value_of (M a)) c (λ n. h.device z (also (L e).effects.assigned later) n)) (λ z. alone_first d m (value_of (M a)) c (operands_give a e h k z later)) q

    step_gives : (a : Place) (down : Bool) → PlaceKept a → of_place (place_access d a) ≡ true → (later : Registers) → Gives d (step_value p f declared_type is_same_type (M a) down later)
    step_gives a down h q later =
        let m : Make Place = (M a).operands later in
        let g = λ (old : Expr). stepped p f declared_type is_same_type (M a) down old in
        let r = λ (b : Place). read_at (M a) later b in
        or_either (own a) (inside a) (λ i. stepped_device d m (value_of (M a)) g r (h.device i later)) (λ i. stepped_first d m (value_of (M a)) g r (h.operands i later)) q

    step_alone_gives : (a : Place) (down : Bool) → PlaceKept a → of_place (place_access d a) ≡ true → (later : Registers) → Gives d (step_alone p f declared_type is_same_type (M a) down later)
    step_alone_gives a down h q later =
        let m : Make Place = (M a).operands later in
        let g = λ (old : Expr). stepped p f declared_type is_same_type (M a) down old in
        let r = λ (b : Place). read_at (M a) later b in
        or_either (own a) (inside a) (λ i. step_alone_device d m (value_of (M a)) g r (h.device i later)) (λ i. step_alone_first d m (value_of (M a)) g r (h.operands i later)) q

    -- ---- branches

    arm_gives : (b : Expr) (later : Registers) → Kept b → acc b ≡ true → (n : ℕ) → Gives d (arm_of p f declared_type is_same_type (L b) later n)
    arm_gives b later h q n = first d ((L b).operand later) (λ v. emit (set n (truth_of p f declared_type is_same_type (L b).ctype v))) (h.operand q later)

    both_gives : (a b : Expr) → Kept a → Kept b → acc a || acc b ≡ true → (later : Registers) → Gives d (both_value p f declared_type is_same_type (L a) (L b) later)
    both_gives a b h k q later =
        let c : Make Expr = (L a).operand (also (L b).effects.assigned later) in
        let arm = λ (n : ℕ). arm_of p f declared_type is_same_type (L b) later n in
        or_either (acc a) (acc b) (λ i. branch_condition d int_value c arm (arm_as 0) (h.operand i (also (L b).effects.assigned later))) (λ i. branch_first d int_value c arm (arm_as 0) (arm_gives b later k i)) q

    either_gives : (a b : Expr) → Kept a → Kept b → acc a || acc b ≡ true → (later : Registers) → Gives d (either_value p f declared_type is_same_type (L a) (L b) later)
    either_gives a b h k q later =
        let c : Make Expr = (L a).operand (also (L b).effects.assigned later) in
        let arm = λ (n : ℕ). arm_of p f declared_type is_same_type (L b) later n in
        or_either (acc a) (acc b) (λ i. branch_condition d int_value c (arm_as 1) arm (h.operand i (also (L b).effects.assigned later))) (λ i. branch_second d int_value c (arm_as 1) arm (arm_gives b later k i)) q

    choose_gives : (t : Option ValueType) (c a b : Expr) → Kept c → Kept a → Kept b → acc c || (acc a || acc b) ≡ true → (later : Registers) → Gives d (choose_value t (L c) (L a) (L b) later)
    choose_gives t c a b g h k q later =
        let m : Make Expr = condition_of (L c) (L a) (L b) later in
        let these = λ (n : ℕ). (L a).whole t n (also (L b).effects.assigned later) in
        let those = λ (n : ℕ). (L b).whole t n later in
        or_either (acc c) (acc a || acc b) (λ i. branch_condition d t m these those (g.operand i (also (L a).effects.assigned (also (L b).effects.assigned later))))
        (λ i. or_either (acc a) (acc b) (λ j. branch_first d t m these those (λ n. h.whole j t n (also (L b).effects.assigned later))) (λ j. branch_second d t m these those (λ n. k.whole j t n later)) i) q

    void_gives : (c a b : Expr) → Kept c → Kept a → Kept b → acc c || (acc a || acc b) ≡ true → (later : Registers) → Gives d (choose_void (L c) (L a) (L b) later)
    void_gives c a b g h k q later =
        let m : Make Expr = condition_of (L c) (L a) (L b) later in
        let these : Make (Unit {0}) = (L a).effect (also (L b).effects.assigned later) in
        let those : Make (Unit {0}) = (L b).effect later in
        or_either (acc c) (acc a || acc b) (λ i. first d m (λ v. fork v these those) (g.operand i (also (L a).effects.assigned (also (L b).effects.assigned later))))
        (λ i. second d m (λ v. fork v these those) (λ n. or_either (acc a) (acc b) (λ j. fork_first d (m n).value these those (h.effect j (also (L b).effects.assigned later))) (λ j. fork_second d (m n).value these those (k.effect j later)) i)) q

    -- what is not pure where it is accessed
    module _ (effects : Effects) (accessed : Bool) (idle : (later : Registers) → effects.pure later ≡ true → accessed ≡ true → ⊥) where
      unless_gives : (e : Expr) (op : Lowers Expr) → (accessed ≡ true → (later : Registers) → Gives d (op later)) → accessed ≡ true → (later : Registers) → Gives d (unless_pure effects e op later)
      unless_gives e op h q later = by (effects.pure later) refl
        where
          by : (b : Bool) → effects.pure later ≡ b → Gives d (if b then done e else op later)
          by true z = absurd (idle later z q)
          by false z = h q later

      alone_gives : (t : Option ValueType) (op : Lowers Expr) (later : Registers) → Gives d (op later) → Gives d (branch_alone effects t op later)
      alone_gives t op later h = in_both d (effects.pure later) (effect_by t op later) (op later >>= (λ v. done tt)) (effect_gives op t later h) (first d (op later) (λ v. done tt) h)

    -- ---- calls

    called_gives : (t : Option ValueType) (z : Piece (Expr × List Expr)) (k : ℕ) → Has d z.stmts → Has d (called p f declared_type is_same_type t z k).stmts
    called_gives t z k h = by (is_callee f (form_of z.value.0))
      where
        by : (b : Bool) → Has d (if b then mapped (λ (x : Expr × List Expr). call_of p f declared_type is_same_type x.0 x.1) z else by_temp p f declared_type is_same_type t z (k + length z.temps)).stmts
        by true = h
        by false = left d z.stmts (set (k + length z.temps) z.value.0 ∷ []) h

    arguments_give : (args : List Expr) → Each Kept args → list_any (λ b. b) (map (accesses d) args) ≡ true → (later : Registers) → Gives d (arguments (map (low p f) args) later)
    arguments_give [] h q later = no q
    arguments_give (a ∷ args) h q later =
        let m : Make Expr = (L a).operand (also (all_args (map (low p f) args)) later) in
        let n : Make (List Expr) = arguments (map (low p f) args) later in
        or_either (acc a) (list_any (λ b. b) (map (accesses d) args)) (λ i. both_first d before_rest m n (h.0.operand i (also (all_args (map (low p f) args)) later)))
        (λ i. both_second d before_rest m n (arguments_give args h.1 i later)) q

    call_gives : (g : Expr) (args : List Expr) → Kept g → Each Kept args → acc g || list_any (λ b. b) (map (accesses d) args) ≡ true → (later : Registers) → Gives d (call p f declared_type is_same_type (L g) (map (low p f) args) later)
    call_gives g args h k q later =
        let ls : List Lowering = map (low p f) args in
        let m : Make (Expr × List Expr) = from_two call_pair (all_args ls) (L g).operand (arguments ls) later in
        let s : Gives d m = two_give d call_pair (all_args ls) later (L g).operand (arguments ls) (acc g) (list_any (λ b. b) (map (accesses d) args)) h.operand (arguments_give args k) q in
        record { at = λ n. called_gives (L g).ctype (m n) n (s.at n) }

    -- ---- levels

    optional_there : (i : Intrinsic) (a : Expr) → Kept a → acc a ≡ true → (later : Registers) → Gives d (from_one (Intr i) (intr_operand (Some (L a))) later)
    optional_there i a h q later = record { at = λ k. (h.operand q later).at k }

    module _ (e : Expr) (t : Option ValueType) where
      abbrev now : one.Expr-F Expr Place → Lowering
      now x = lowered_as p f (effects_of f e) t e (lowered_parts p f x)

      by_operand : (x : one.Expr-F Expr Place) (op : Lowers Expr) → (accesses_at d x ≡ true → (later : Registers) → Gives d (op later)) →
          KeptBy (accesses_at d x) (record { itself = e; ctype = t; effects = effects_of f e; operand = op; whole = whole_by op; effect = effect_by t op })
      by_operand x op h = default (accesses_at d x) (effects_of f e) t e op h

      level : (x : one.Expr-F Expr Place) → Parts Kept PlaceKept x → ((later : Registers) → (effects_of f e).pure later ≡ true → accesses_at d x ≡ true → ⊥) → KeptBy (accesses_at d x) (now x)
      level (one.Const n i) h idle = never (now (one.Const n i))
      level (one.Null i) h idle = never (now (one.Null i))
      level (one.FuncAddr g) h idle = never (now (one.FuncAddr g))
      level (one.Load a) h idle = record {
        operand = λ q later. read_gives a h q later;
        whole = λ q o n later. whole_read_gives a h q o n later;
        effect = λ q later. unused_read a h q later;
      }
      level (one.AddrOf a) h idle = by_operand (one.AddrOf a) (from_one AddrOf (M a).operands) (λ q later. record { at = λ k. (h.operands q later).at k })
      level (one.Un o i a) h idle = by_operand (one.Un o i a) (from_one (folded_un p f declared_type is_same_type o i) (L a).operand) (λ q later. record { at = λ k. (h.operand q later).at k })
      level (one.Bin o i a b) h idle = by_operand (one.Bin o i a b) (from_two (folded_bin p f declared_type is_same_type o i) (L b).effects.assigned (L a).operand (L b).operand) (two (folded_bin p f declared_type is_same_type o i) (L b).effects.assigned a b h.0 h.1)
      level (one.Conv i a) h idle = by_operand (one.Conv i a) (from_one (folded_conv p f declared_type is_same_type i) (L a).operand) (λ q later. record { at = λ k. (h.operand q later).at k })
      level (one.Qualify c a) h idle = by_operand (one.Qualify c a) (from_one (Qualify c) (L a).operand) (λ q later. record { at = λ k. (h.operand q later).at k })
      level (one.Move a b back) h idle = by_operand (one.Move a b back) (from_two (λ x y. Move x y back) (L b).effects.assigned (L a).operand (L b).operand) (two (λ x y. Move x y back) (L b).effects.assigned a b h.0 h.1)
      level (one.Gap a b) h idle = by_operand (one.Gap a b) (from_two Gap (L b).effects.assigned (L a).operand (L b).operand) (two Gap (L b).effects.assigned a b h.0 h.1)
      level (one.Compare o a b) h idle = by_operand (one.Compare o a b) (from_two (Compare o) (L b).effects.assigned (L a).operand (L b).operand) (two (Compare o) (L b).effects.assigned a b h.0 h.1)
      level (one.Both a b) h idle =
          let accessed : Bool = acc a || acc b in
          let op : Lowers Expr = unless_pure (effects_of f e) e (both_value p f declared_type is_same_type (L a) (L b)) in
          let k = unless_gives (effects_of f e) accessed idle e (both_value p f declared_type is_same_type (L a) (L b)) (both_gives a b h.0 h.1) in
          record { operand = k; whole = λ q o n later. whole_gives op o n later (k q later); effect = λ q later. alone_gives (effects_of f e) accessed idle t op later (k q later) }
      level (one.Either a b) h idle =
          let accessed : Bool = acc a || acc b in
          let op : Lowers Expr = unless_pure (effects_of f e) e (either_value p f declared_type is_same_type (L a) (L b)) in
          let k = unless_gives (effects_of f e) accessed idle e (either_value p f declared_type is_same_type (L a) (L b)) (either_gives a b h.0 h.1) in
          record { operand = k; whole = λ q o n later. whole_gives op o n later (k q later); effect = λ q later. alone_gives (effects_of f e) accessed idle t op later (k q later) }
      level (one.Choose c a b) h idle =
          let accessed : Bool = acc c || (acc a || acc b) in
          let op : Lowers Expr = unless_pure (effects_of f e) e (choose_value t (L c) (L a) (L b)) in
          let k = unless_gives (effects_of f e) accessed idle e (choose_value t (L c) (L a) (L b)) (choose_gives t c a b h.0 h.1 h.2) in
          record {
            operand = k;
            whole = λ q o n later. whole_gives op o n later (k q later);
            effect = λ q later.
                in_both d (is_void_value t) (choose_void (L c) (L a) (L b) later) (branch_alone (effects_of f e) t op later) (void_gives c a b h.0 h.1 h.2 q later) (alone_gives (effects_of f e) accessed idle t op later (k q later));
          }
      level (one.Assign a b) h idle = record {
        operand = λ q later. assigned_gives a b h.0 h.1 q later;
        whole = λ q o n later. whole_gives (assigned_value (M a) (L b)) o n later (assigned_gives a b h.0 h.1 q later);
        effect = λ q later. assignment_gives a b h.0 h.1 q later;
      }
      level (one.Change a o i b) h idle = record {
        operand = λ q later. changed_gives a o i b h.0 h.1 q later;
        whole = λ q u n later. whole_gives (changed_value p f declared_type is_same_type (M a) o i (L b)) u n later (changed_gives a o i b h.0 h.1 q later);
        effect = λ q later. change_gives a o i b h.0 h.1 q later;
      }
      level (one.After a down) h idle = record {
        operand = λ q later. step_gives a down h q later;
        whole = λ q o n later. whole_gives (step_value p f declared_type is_same_type (M a) down) o n later (step_gives a down h q later);
        effect = λ q later. step_alone_gives a down h q later;
      }
      level (one.Call g args) h idle =
          let c : Lowers Expr = call p f declared_type is_same_type (L g) (map (low p f) args) in
          record {
            operand = λ q later. first d (c later) (into t) (call_gives g args h.0 h.1 q later);
            whole = λ q o n later. right_whole t c o n later (call_gives g args h.0 h.1 q later);
            effect = λ q later. first d (c later) (λ x. emit (Do x)) (call_gives g args h.0 h.1 q later);
          }
      level (one.Intr i None) h idle = record { operand = λ q later. no q; whole = λ q o n later. no q; effect = λ q later. no q }
      level (one.Intr i (Some a)) h idle =
          let c : Lowers Expr = from_one (Intr i) (intr_operand (Some (L a))) in
          let k = λ (q : acc a ≡ true) (later : Registers). optional_there i a h q later in
          record {
            operand = λ q later. first d (c later) (into t) (k q later);
            whole = λ q o n later. right_whole t c o n later (k q later);
            effect = λ q later. first d (c later) (λ x. emit (Do x)) (k q later);
          }
      level (one.Seq a b) h idle = record {
        operand = λ q later. or_either (acc a) (acc b) (λ i. first d ((L a).effect (also (L b).effects.assigned later)) (λ u. (L b).operand later) (h.0.effect i (also (L b).effects.assigned later)))
            (λ i. second d ((L a).effect (also (L b).effects.assigned later)) (λ u. (L b).operand later) (λ k. h.1.operand i later)) q;
        whole = λ q o n later. or_either (acc a) (acc b) (λ i. first d ((L a).effect (also (L b).effects.assigned later)) (λ u. (L b).whole o n later) (h.0.effect i (also (L b).effects.assigned later)))
            (λ i. second d ((L a).effect (also (L b).effects.assigned later)) (λ u. (L b).whole o n later) (λ k. h.1.whole i o n later)) q;
        effect = λ q later. or_either (acc a) (acc b) (λ i. first d ((L a).effect (also (L b).effects.assigned later)) (λ u. (L b).effect later) (h.0.effect i (also (L b).effects.assigned later)))
            (λ i. second d ((L a).effect (also (L b).effects.assigned later)) (λ u. (L b).effect later) (λ k. h.1.effect i later)) q;
      }

    -- ---- places

    abbrev place_now : Place → Option PlaceType → one.Place-F Expr Place → PlaceLowering
    place_now a t x = place_lowered_as p f (place_effects_of f a) t a (lowered_place_parts p f x)

    none_at : (x : one.Place-F Expr Place) → (place_effects_at d f x).register ≡ None → (place_effects_of f (roll-Place x)).register ≡ None
    none_at x h = ap (λ (z : PlaceEffects). z.register) (place-effects-roll d f x) ∙ h

    place_level : (x : one.Place-F Expr Place) → PlaceParts Kept PlaceKept x → (t : Option PlaceType) → PlaceKeptBy (place_access_at d x) (place_now (roll-Place x) t x)
    place_level (one.Local r) h t = record { operands = λ q later. no q; device = λ q later k. no q; no_register = λ q. no q }
    place_level (one.Static i) h t = record { operands = λ q later. no q; device = λ q later k. no q; no_register = λ q. no q }
    place_level (one.Device e) h t = record {
      operands = λ q later. no q;
      device = λ q later k. ap (λ (z : one.Place-F Expr Place). has d (device_in z)) (out-roll-Place (one.Device e)) ∙ or_left (nat_eq d e) false q;
      no_register = λ q. none_at (one.Device e) refl;
    }
    place_level (one.Element a i) h t = record {
      operands = λ q later. two_give d Element (L i).effects.assigned later (M a).operands (L i).operand (inside a) (acc i) h.0.operands h.1.operand q;
      device = λ q later k. no q;
      no_register = λ q. none_at (one.Element a i) refl;
    }
    place_level (one.Member a m) h t = record { operands = λ q later. record { at = λ k. (h.operands q later).at k }; device = λ q later k. no q; no_register = λ q. none_at (one.Member a m) refl }
    place_level (one.Deref e) h t = record { operands = λ q later. record { at = λ k. (h.operand q later).at k }; device = λ q later k. no q; no_register = λ q. none_at (one.Deref e) refl }

    -- ---- all expressions

    made : (x : one.Expr-F Expr Place) → Parts Kept PlaceKept x → Kept (roll-Expr x)
    made x h =
        let e : Expr = roll-Expr x in
        let t : Option ValueType = type_of (of_program p) f.locals (roll-Expr x) in
        subst (λ (b : Bool). KeptBy b (low p f (roll-Expr x))) (sym (accesses-roll d x))
        (subst (λ (l : Lowering). KeptBy (accesses_at d x) l) (sym (low-at p f x t refl)) (level e t x h (λ later q k. true≢false (sym k ∙ sym (accesses-roll d x) ∙ pure_idle d f e later q))))

    place_made : (x : one.Place-F Expr Place) → PlaceParts Kept PlaceKept x → PlaceKept (roll-Place x)
    place_made x h =
        let t : Option PlaceType = place_type (of_program p) f.locals (roll-Place x) in
        subst (λ (b : PlaceAccess). PlaceKeptBy b (place_low p f (roll-Place x))) (sym (place-access-roll d x))
        (subst (λ (l : PlaceLowering). PlaceKeptBy (place_access_at d x) l) (sym (place-low-at p f x t refl)) (place_level x h t))

    pub kept : (e : Expr) → Kept e
    kept e = by_expr Kept PlaceKept made place_made e
