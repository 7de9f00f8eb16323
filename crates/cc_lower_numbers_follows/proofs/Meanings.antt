-- An expression by other numbers asks for the same steps, by other numbers.
use Rattle.std.proofs.Common.{◌≡◌, ◌∙◌, ◌∷◌, ◌==◌, ℕ, ℤ, Bool, true, false, not, List, [], map, Option, Some, None, option_map, option_and_then, slice_get, refl, ap, sym, subst, if◌then◌else◌}
use Rattle.std.specs.Prelude.{pos, is_some}
use Rattle.cc_program.specs.CcNum.declared.int_type.IntType.{IntType}
use Rattle.cc_program.specs.CcNum.declared.op.BinOp.{BinOp}
use Rattle.cc_program.specs.CcNum.declared.target.Target.{Target}
use Rattle.cc_program.specs.declared.expr.Expr.{Expr, roll-Expr, map-Expr, fold-roll-Expr}
use Rattle.cc_program.specs.declared.expr.Expr.TheOpen as one
use Rattle.cc_program.specs.declared.expr.Intr.{Intr}
use Rattle.cc_program.specs.declared.expr.Intr.TheVariants as intr
use Rattle.cc_program.specs.declared.expr.Place.{Place as PlaceOf, roll-Place, map-Place, fold-roll-Place}
use Rattle.cc_program.specs.declared.func.Func.{Func}
use Rattle.cc_program.specs.declared.object.Device.{Device}
use Rattle.cc_program.specs.declared.program.Program.{Program}
use Rattle.cc_program.specs.declared.value.Address.TheVariants as address
use Rattle.cc_program.specs.declared.value.Root.TheVariants as root
use Rattle.cc_program.specs.declared.value.Value.{Value}
use Rattle.cc_program.specs.declared.value.Value.TheVariants.{Int, Place}
use Rattle.cc_program.proofs.Each.{Each}
use Rattle.cc_program.proofs.ExprInduction.{Parts, PlaceParts, by_expr}
use Rattle.cc_states.specs.CcSyntax.Effects.{Registers, no_one, also, Effects, only, of_both, impure, assigned_to, operands}
use Rattle.cc_states.specs.CcSyntax.Expressions.{of_one, of_two}
use Rattle.cc_states.specs.CcSyntax.Operators.{unary_type, binary_type, conversion_type, moved_type, gap_type, comparison_type, logical_type, choice_type, assignment_type, change_type, after_type, call_type, intrinsic_type, subscript_type, function_type, when}
use Rattle.cc_states.specs.CcSyntax.Expressions as typing
use Rattle.cc_states.specs.CcSyntax.Registers.{is_register}
use Rattle.cc_states.specs.CcSyntax.Values.{ValueType, NoValue, Integer, ToObject, ToFunction, PlaceType, DevicePlace, read_from, written_to, address_of as pointer_to_place, pointed_to, member_of}
use Rattle.cc_states.specs.CcSyntax.Views.{of_program}
use Rattle.cc_states.specs.CcEval.declared.action.Action.TheVariants.{Read, Write, Choose, Call, Flag, Save}
use Rattle.cc_states.specs.CcEval.declared.mark.Mark.{Mark}
use Rattle.cc_states.specs.CcEval.declared.spots.Spot.{Spot}
use Rattle.cc_states.specs.CcEval.declared.spots.Spot.TheVariants as spot
use Rattle.cc_states.specs.CcEval.Context.{Context, reached, element, member, is_seen}
use Rattle.cc_states.specs.CcEval.Eval.{Meaning, Designation, manner, from_one, both_values, from_two, place_and_value, branch, outcome, arms, choice, as_condition, both, either, chosen_arm, assigned_by, each, all_good, called_with, called, restored, intrinsic, sequence, is_back, changed, sum_or_difference, one_more_type, address_of, value_type, fetched, stored, changed_with, changed_by, stepped_back, stepped_with, next_step, expr_effects, expr_type, expr_meaning, element_at, leads_to, place_meaning, meaning, designation}
use Rattle.cc_states.specs.CcEval.Progress.{Get, known, ask, bind, given, chosen}
use Rattle.cc_states.specs.CcValues.Values.{integer, address_in, unary, binary, conversion, truth, of_truth, movement, gap, comparison}
use Rattle.cc_lower_numbers.specs.Renamed.{place_with, place_step, expr_renamed, place_renamed}
use Rattle.cc_lower_numbers_follows.specs.Renaming.{Renaming, address_renamed, value_renamed, cell_renamed, spot_renamed, IsFuncRenamed, IsRenamed}
use Rattle.cc_lower_numbers_follows.proofs.Effects.{AreSame, also_same, AreEffectsSame, ArePlaceEffectsSame, only_same, soft_same, nothing_same, both_same, impure_same, assigned_same, plain_same, within_same, operands_same}
use Rattle.cc_lower_numbers_follows.proofs.Gets.{marks_renamed, progress_renamed, AsksSame, known_same, trap_same, bind_same, ask_same, needs_same, given_same, chosen_same}
use Rattle.cc_lower_numbers_follows.proofs.Places.{Q, func_same, local_same, reached_same, address_spot, element_same, member_same, address_of_same}
use Rattle.cc_lower_numbers_follows.proofs.Registers.{register_same}
use Rattle.cc_lower_numbers_follows.proofs.Values.{may_renamed, integer_kept, address_kept, truth_kept, of_truth_kept, unary_kept, binary_kept, conversion_kept, movement_kept, all_good_kept, number_same, gap_kept, comparison_kept}

module _ (r : Renaming) (devices : List Device) (funcs : List Func) (P : Program) (renamed : IsRenamed r devices funcs P) (number id : ℕ) (g f : Func) (alike : IsFuncRenamed (r.local id) r.device g f) where
  abbrev local : ℕ → ℕ
  local i = r.local id i

  pub same_number : (i j : ℕ) → (local i == local j) ≡ (i == j)
  same_number i j = number_same r renamed.apart id i j

  abbrev there_program : Program
  there_program = Q r devices funcs P renamed

  abbrev pub there : Context
  there = record { program = there_program; number = number; id = id; func = g }

  abbrev pub here : Context
  here = record { program = P; number = number; id = id; func = f }

  abbrev may : Option Value → Option Value
  may v = may_renamed r v

  abbrev may_spot : Option Spot → Option Spot
  may_spot s = option_map (spot_renamed r) s

  abbrev Regs : Registers → Registers → Type 0
  Regs s t = AreSame local same_number s t

  abbrev Asks : {A B : Type 0} → (A → B) → Get B → Get A → Type 0
  Asks e x y = AsksSame r e x y

  pub record IsMeaningSame (m n : Meaning) : Type 0 where
    pub ctype : m.ctype ≡ n.ctype
    pub effects : AreEffectsSame local same_number m.effects n.effects
    pub next : (s t : Registers) → Regs s t → Asks may (m.next s) (n.next t)

  pub record IsDesignationSame (a b : Designation) : Type 0 where
    pub ctype : a.ctype ≡ b.ctype
    pub effects : ArePlaceEffectsSame local same_number a.effects b.effects
    pub leads : (s t : Registers) → Regs s t → Asks may_spot (a.leads s) (b.leads t)

  -- ---- operands

  behind : (m n : Meaning) (s t : Registers) → IsMeaningSame m n → Regs s t → Regs (also m.effects.assigned s) (also n.effects.assigned t)
  behind m n s t h k = also_same local same_number m.effects.assigned n.effects.assigned s t h.effects.assigned k

  one_same : {A B : Type 0} (e : A → B) (x : Option Value → B) (y : Option Value → A) → ((v : Option Value) → x (may v) ≡ e (y v)) → (m n : Meaning) → IsMeaningSame m n → (s t : Registers) → Regs s t →
      Asks e (from_one x m s) (from_one y n t)
  one_same e x y h m n k s t q = bind_same r may e (m.next s) (n.next t) (λ v. known (x v)) (λ v. known (y v)) (k.next s t q) (λ v. known_same r e (x (may v)) (y v) (h v))

  abbrev both_renamed : Option Value × Option Value → Option Value × Option Value
  both_renamed p = (may p.0, may p.1)

  both_asked : (a b c d : Meaning) → IsMeaningSame a c → IsMeaningSame b d → (s t : Registers) → Regs s t → Asks both_renamed (both_values a b s) (both_values c d t)
  both_asked a b c d h k s t q =
      bind_same r may both_renamed (a.next (also b.effects.assigned s)) (c.next (also d.effects.assigned t)) _ _
      (h.next (also b.effects.assigned s) (also d.effects.assigned t) (behind b d s t k q))
      (λ v. bind_same r may both_renamed (b.next s) (d.next t) (λ w. known (may v, w)) (λ w. known (v, w)) (k.next s t q) (λ w. known_same r both_renamed (may v, may w) (v, w) refl))

  two_same : (x y : Option Value → Option Value → Option Value) → ((v w : Option Value) → x (may v) (may w) ≡ may (y v w)) → (a b c d : Meaning) → IsMeaningSame a c → IsMeaningSame b d → (s t : Registers) → Regs s t →
      Asks may (from_two x a b s) (from_two y c d t)
  two_same x y e a b c d h k s t q =
      bind_same r both_renamed may (both_values a b s) (both_values c d t) (λ p. known (x p.0 p.1)) (λ p. known (y p.0 p.1)) (both_asked a b c d h k s t q) (λ p. known_same r may (x (may p.0) (may p.1)) (y p.0 p.1) (e p.0 p.1))

  abbrev place_both : Option Spot × Option Value → Option Spot × Option Value
  place_both p = (may_spot p.0, may p.1)

  place_asked : (a b : Designation) (m n : Meaning) → IsDesignationSame a b → IsMeaningSame m n → (s t : Registers) → Regs s t → Asks place_both (place_and_value a m s) (place_and_value b n t)
  place_asked a b m n h k s t q =
      bind_same r may_spot place_both (a.leads (also m.effects.assigned s)) (b.leads (also n.effects.assigned t)) _ _
      (h.leads (also m.effects.assigned s) (also n.effects.assigned t) (behind m n s t k q))
      (λ x. bind_same r may place_both (m.next s) (n.next t) (λ v. known (may_spot x, v)) (λ v. known (x, v)) (k.next s t q) (λ v. known_same r place_both (may_spot x, may v) (x, v) refl))

  -- ---- accesses

  manner_same : (a b : Designation) → IsDesignationSame a b → (s t : Registers) → Regs s t → manner a s ≡ manner b t
  manner_same a b h s t q =
      let soft = soft_same local same_number a.effects.register b.effects.register s t h.effects.register q in
      λ i. record { is_event = is_seen (h.ctype i); may_be_bad = soft i }

  cell_there : (a b : Designation) → IsDesignationSame a b → (x : Option Spot) → reached there_program a.ctype (may_spot x) ≡ option_map (cell_renamed r) (reached P b.ctype x)
  cell_there a b h x = ap (λ y. reached there_program y (may_spot x)) h.ctype ∙ reached_same r devices funcs P renamed b.ctype x

  fetched_same : (a b : Designation) → IsDesignationSame a b → (s t : Registers) → Regs s t → (x : Option Spot) → Asks may (fetched there a s (may_spot x)) (fetched here b t x)
  fetched_same a b h s t q x =
      needs_same r (cell_renamed r) may (reached there_program a.ctype (may_spot x)) (reached P b.ctype x) _ _ (cell_there a b h x)
      (λ cell ms. ap (λ m. ask (Read (cell_renamed r cell) m) given (marks_renamed r ms)) (manner_same a b h s t q) ∙ ask_same r may (Read cell (manner b t)) given given (given_same r) ms)

  stored_same : (a b : Designation) → IsDesignationSame a b → (x : Option Spot) (v w : Option Value) → Asks may (stored there a (may_spot x) (may v) (may w)) (stored here b x v w)
  stored_same a b h x v w =
      needs_same r (cell_renamed r) may (reached there_program a.ctype (may_spot x)) (reached P b.ctype x) _ _ (cell_there a b h x)
      (λ cell. needs_same r (value_renamed r) may (may v) v _ _ refl
      (λ y ms. ap (λ z. ask (Write (cell_renamed r cell) (is_seen z) (value_renamed r y)) (λ m. may w) (marks_renamed r ms)) h.ctype ∙ ask_same r may (Write cell (is_seen b.ctype) y) (λ m. may w) (λ m. w) (λ m. refl) ms))

  integer_changed : (target : Target) (s t : IntType) (o : BinOp) (v w : Option Value) →
      conversion s target (binary o t target (conversion t target (may v)) (may w)) ≡ may (conversion s target (binary o t target (conversion t target v) w))
  integer_changed target s t o v w =
      ap (λ x. conversion s target (binary o t target x (may w))) (conversion_kept r t target v)
      ∙ ap (conversion s target) (binary_kept r o t target (conversion t target v) w)
      ∙ conversion_kept r s target (binary o t target (conversion t target v) w)

  changed_kept : (target : Target) (o : BinOp) (t : IntType) (x : Option ValueType) (v w : Option Value) → changed target o t x (may v) (may w) ≡ may (changed target o t x v w)
  changed_kept target o t None v w = refl
  changed_kept target o t (Some NoValue) v w = refl
  changed_kept target o t (Some (Integer s)) v w = integer_changed target s t o v w
  changed_kept target o t (Some (ToObject constant volatile to)) v w = movement_kept r (is_back o) v w
  changed_kept target o t (Some (ToFunction sig)) v w = refl

  stored_equal : (a b : Designation) → IsDesignationSame a b → (x : Option Spot) (u v w z : Option Value) → u ≡ may v → w ≡ may z → Asks may (stored there a (may_spot x) u w) (stored here b x v z)
  stored_equal a b h x u v w z e k ms = (λ i. stored there a (may_spot x) (e i) (k i) (marks_renamed r ms)) ∙ stored_same a b h x v z ms

  changed_asked : (a b : Designation) (m n : Meaning) (o : BinOp) (t : IntType) → IsDesignationSame a b → IsMeaningSame m n → (s u : Registers) → Regs s u → Asks may (changed_by there a o t m s) (changed_by here b o t n u)
  changed_asked a b m n o t h k s u q =
      bind_same r place_both may (place_and_value a m s) (place_and_value b n u) (changed_with there a o t s) (changed_with here b o t u) (place_asked a b m n h k s u q)
      (λ p. bind_same r may may (fetched there a s (may_spot p.0)) (fetched here b u p.0) _ _ (fetched_same a b h s u q p.0)
      (λ v. let e = ap (λ y. changed P.target o t (option_and_then read_from y) (may v) (may p.1)) h.ctype ∙ changed_kept P.target o t (value_type here b) v p.1 in
      stored_equal a b h p.0 (changed P.target o t (value_type there a) (may v) (may p.1)) (changed P.target o t (value_type here b) v p.1) (changed P.target o t (value_type there a) (may v) (may p.1)) (changed P.target o t (value_type here b) v p.1) e e))

  abbrev stepped : Option PlaceType → Bool → Option Value → Option Value
  stepped y down v = changed P.target (sum_or_difference down) (one_more_type P.target (option_and_then read_from y)) (option_and_then read_from y) v (Some (Int (pos 1)))

  stepped_asked : (a b : Designation) (down : Bool) → IsDesignationSame a b → (s t : Registers) → Regs s t → Asks may (bind (a.leads s) (stepped_with there a down s)) (bind (b.leads t) (stepped_with here b down t))
  stepped_asked a b down h s t q =
      bind_same r may_spot may (a.leads s) (b.leads t) (stepped_with there a down s) (stepped_with here b down t) (h.leads s t q)
      (λ x. bind_same r may may (fetched there a s (may_spot x)) (fetched here b t x) (stepped_back there a down (may_spot x)) (stepped_back here b down x) (fetched_same a b h s t q x)
      (λ v. stored_equal a b h x (stepped a.ctype down (may v)) (stepped b.ctype down v) (may v) v
      (ap (λ y. stepped y down (may v)) h.ctype ∙ changed_kept P.target (sum_or_difference down) (one_more_type P.target (value_type here b)) (value_type here b) v (Some (Int (pos 1)))) refl))

  -- ---- choices

  branch_same : (pure : Bool) (v : Option Value) → Asks (λ (b : Option Bool). b) (branch pure (may v)) (branch pure v)
  branch_same true v = λ ms. ap (λ x. ask (Choose x) chosen (marks_renamed r ms)) (truth_kept r v) ∙ ask_same r (λ (b : Option Bool). b) (Choose (truth v)) chosen chosen (chosen_same r) ms
  branch_same false v =
      needs_same r (λ (b : Bool). b) (λ (b : Option Bool). b) (truth (may v)) (truth v) (λ b. ask (Choose (Some b)) chosen) (λ b. ask (Choose (Some b)) chosen) (truth_kept r v ∙ same (truth v))
      (λ b. ask_same r (λ (b : Option Bool). b) (Choose (Some b)) chosen chosen (chosen_same r))
    where
      same : (o : Option Bool) → o ≡ option_map (λ (b : Bool). b) o
      same None = refl
      same (Some b) = refl

  outcome_same : (pure : Bool) (v : Option Value) → Asks may (outcome pure (may v)) (outcome pure v)
  outcome_same true v = known_same r may (may v) v refl
  outcome_same false v = needs_same r (value_renamed r) may (may v) v (λ w. known (Some w)) (λ w. known (Some w)) refl (λ w. known_same r may (Some (value_renamed r w)) (Some w) refl)

  arms_same : (these those others rest : Get (Option Value)) → Asks may these others → Asks may those rest → (b : Option Bool) → Asks may (arms these those b) (arms others rest b)
  arms_same these those others rest h k None = known_same r may None None refl
  arms_same these those others rest h k (Some true) = h
  arms_same these those others rest h k (Some false) = k

  choice_same : (pure : Bool) (c these those d others rest : Get (Option Value)) → Asks may c d → Asks may these others → Asks may those rest → Asks may (choice pure c these those) (choice pure d others rest)
  choice_same pure c these those d others rest h k l =
      bind_same r may may c d _ _ h
      (λ v. bind_same r (λ (b : Option Bool). b) may (branch pure (may v)) (branch pure v) _ _ (branch_same pure v)
      (arms_same (bind these (outcome pure)) (bind those (outcome pure)) (bind others (outcome pure)) (bind rest (outcome pure))
      (bind_same r may may these others (outcome pure) (outcome pure) k (outcome_same pure)) (bind_same r may may those rest (outcome pure) (outcome pure) l (outcome_same pure))))

  condition_same : (m n : Meaning) → IsMeaningSame m n → (s t : Registers) → Regs s t → Asks may (as_condition m s) (as_condition n t)
  condition_same m n h s t q =
      bind_same r may may (m.next s) (n.next t) (λ v. known (of_truth (truth v))) (λ v. known (of_truth (truth v))) (h.next s t q)
      (λ v. known_same r may (of_truth (truth (may v))) (of_truth (truth v)) (ap of_truth (truth_kept r v) ∙ sym (of_truth_kept r (truth v))))

  both_choice : (x y : Bool) (a b c d : Meaning) → x ≡ y → IsMeaningSame a c → IsMeaningSame b d → (s t : Registers) → Regs s t → Asks may (both x a b s) (both y c d t)
  both_choice x y a b c d e h k s t q ms =
      ap (λ z. both z a b s (marks_renamed r ms)) e
      ∙ choice_same y (a.next (also b.effects.assigned s)) (as_condition b s) (known (Some (Int (pos 0)))) (c.next (also d.effects.assigned t)) (as_condition d t) (known (Some (Int (pos 0))))
      (h.next (also b.effects.assigned s) (also d.effects.assigned t) (behind b d s t k q)) (condition_same b d k s t q) (known_same r may (Some (Int (pos 0))) (Some (Int (pos 0))) refl) ms

  either_choice : (x y : Bool) (a b c d : Meaning) → x ≡ y → IsMeaningSame a c → IsMeaningSame b d → (s t : Registers) → Regs s t → Asks may (either x a b s) (either y c d t)
  either_choice x y a b c d e h k s t q ms =
      ap (λ z. either z a b s (marks_renamed r ms)) e
      ∙ choice_same y (a.next (also b.effects.assigned s)) (known (Some (Int (pos 1)))) (as_condition b s) (c.next (also d.effects.assigned t)) (known (Some (Int (pos 1)))) (as_condition d t)
      (h.next (also b.effects.assigned s) (also d.effects.assigned t) (behind b d s t k q)) (known_same r may (Some (Int (pos 1))) (Some (Int (pos 1))) refl) (condition_same b d k s t q) ms

  chosen_choice : (x y : Bool) (c a b c' a' b' : Meaning) → x ≡ y → IsMeaningSame c c' → IsMeaningSame a a' → IsMeaningSame b b' → (s t : Registers) → Regs s t → Asks may (chosen_arm x c a b s) (chosen_arm y c' a' b' t)
  chosen_choice x y c a b c' a' b' e h k l s t q ms =
      let late = behind b b' s t l q in
      ap (λ z. chosen_arm z c a b s (marks_renamed r ms)) e
      ∙ choice_same y (c.next (also a.effects.assigned (also b.effects.assigned s))) (a.next (also b.effects.assigned s)) (b.next s)
      (c'.next (also a'.effects.assigned (also b'.effects.assigned t))) (a'.next (also b'.effects.assigned t)) (b'.next t)
      (h.next (also a.effects.assigned (also b.effects.assigned s)) (also a'.effects.assigned (also b'.effects.assigned t)) (behind a a' (also b.effects.assigned s) (also b'.effects.assigned t) k late))
      (k.next (also b.effects.assigned s) (also b'.effects.assigned t) late) (l.next s t q) ms

  -- ---- calls

  abbrev AreMeaningsSame : List Meaning → List Meaning → Type 0
  AreMeaningsSame [] [] = Unit {0}
  AreMeaningsSame (m ∷ ms) (n ∷ ns) = IsMeaningSame m n × AreMeaningsSame ms ns
  AreMeaningsSame [] (n ∷ ns) = ⊥
  AreMeaningsSame (m ∷ ms) [] = ⊥

  all_same : (ms ns : List Meaning) → AreMeaningsSame ms ns → Regs (assigned_by ms) (assigned_by ns)
  all_same [] [] h = refl
  all_same (m ∷ ms) (n ∷ ns) h = also_same local same_number m.effects.assigned n.effects.assigned (assigned_by ms) (assigned_by ns) h.0.effects.assigned (all_same ms ns h.1)
  all_same [] (n ∷ ns) h = absurd h
  all_same (m ∷ ms) [] h = absurd h

  types_same : (ms ns : List Meaning) → AreMeaningsSame ms ns → map (λ (m : Meaning). m.ctype) ms ≡ map (λ (m : Meaning). m.ctype) ns
  types_same [] [] h = refl
  types_same (m ∷ ms) (n ∷ ns) h = λ i. h.0.ctype i ∷ types_same ms ns h.1 i
  types_same [] (n ∷ ns) h = absurd h
  types_same (m ∷ ms) [] h = absurd h

  each_same : (ms ns : List Meaning) → AreMeaningsSame ms ns → (s t : Registers) → Regs s t → Asks (map may) (each ms s) (each ns t)
  each_same [] [] h s t q = known_same r (map may) [] [] refl
  each_same (m ∷ ms) (n ∷ ns) h s t q =
      bind_same r may (map may) (m.next (also (assigned_by ms) s)) (n.next (also (assigned_by ns) t)) _ _
      (h.0.next (also (assigned_by ms) s) (also (assigned_by ns) t) (also_same local same_number (assigned_by ms) (assigned_by ns) s t (all_same ms ns h.1) q))
      (λ v. bind_same r (map may) (map may) (each ms s) (each ns t) (λ vs. known (may v ∷ vs)) (λ vs. known (v ∷ vs)) (each_same ms ns h.1 s t q) (λ vs. known_same r (map may) (may v ∷ map may vs) (v ∷ vs) refl))
  each_same [] (n ∷ ns) h s t q = absurd h
  each_same (m ∷ ms) [] h s t q = absurd h

  called_same : (m n : Meaning) (ms ns : List Meaning) → IsMeaningSame m n → AreMeaningsSame ms ns → (s t : Registers) → Regs s t → Asks may (called m ms s) (called n ns t)
  called_same m n ms ns h k s t q =
      bind_same r may may (m.next (also (assigned_by ms) s)) (n.next (also (assigned_by ns) t)) (called_with ms s) (called_with ns t)
      (h.next (also (assigned_by ms) s) (also (assigned_by ns) t) (also_same local same_number (assigned_by ms) (assigned_by ns) s t (all_same ms ns k) q))
      (λ v. bind_same r (map may) may (each ms s) (each ns t) _ _ (each_same ms ns k s t q)
      (λ vs. needs_same r (address_renamed r) may (address_in (may v)) (address_in v) _ _ (address_kept r v)
      (λ callee. needs_same r (map (value_renamed r)) may (all_good (map may vs)) (all_good vs) _ _ (all_good_kept r vs)
      (λ good. ask_same r may (Call callee good) given given (given_same r)))))

  restored_same : (m n : Meaning) → IsMeaningSame m n → (s t : Registers) → Regs s t → Asks may (restored (Some m) s) (restored (Some n) t)
  restored_same m n h s t q =
      bind_same r may may (m.next s) (n.next t) _ _ (h.next s t q)
      (λ v. needs_same r (λ (b : Bool). b) may (truth (may v)) (truth v) (λ b. ask (Flag b) given) (λ b. ask (Flag b) given) (truth_kept r v ∙ same (truth v)) (λ b. ask_same r may (Flag b) given given (given_same r)))
    where
      same : (o : Option Bool) → o ≡ option_map (λ (b : Bool). b) o
      same None = refl
      same (Some b) = refl

  sequence_same : (a b c d : Meaning) → IsMeaningSame a c → IsMeaningSame b d → (s t : Registers) → Regs s t → Asks may (sequence a b s) (sequence c d t)
  sequence_same a b c d h k s t q =
      bind_same r may may (a.next (also b.effects.assigned s)) (c.next (also d.effects.assigned t)) _ _
      (h.next (also b.effects.assigned s) (also d.effects.assigned t) (behind b d s t k q))
      (λ v. needs_same r (value_renamed r) may (may v) v _ _ refl (λ w. k.next s t q))

  -- ---- expressions and places, level by level

  abbrev expr_there : Expr → Expr
  expr_there e = expr_renamed local r.device e

  abbrev place_there : PlaceOf → PlaceOf
  place_there a = place_renamed local r.device a

  abbrev At : Expr → Type 0
  At e = IsMeaningSame (meaning there (expr_there e)) (meaning here e)

  abbrev PlaceAt : PlaceOf → Type 0
  PlaceAt a = IsDesignationSame (designation there (place_there a)) (designation here a)

  abbrev m1 : Expr → Meaning
  m1 e = meaning there (expr_there e)

  abbrev m0 : Expr → Meaning
  m0 e = meaning here e

  abbrev d1 : PlaceOf → Designation
  d1 a = designation there (place_there a)

  abbrev d0 : PlaceOf → Designation
  d0 a = designation here a

  abbrev ms1 : List Expr → List Meaning
  ms1 args = map (meaning there) (map expr_there args)

  abbrev ms0 : List Expr → List Meaning
  ms0 args = map (meaning here) args

  abbrev new : one.Expr-F Expr PlaceOf → one.Expr-F Meaning Designation
  new x = map-Expr Expr PlaceOf Meaning Designation (meaning there) (designation there) (map-Expr Expr PlaceOf Expr PlaceOf expr_there place_there x)

  abbrev old : one.Expr-F Expr PlaceOf → one.Expr-F Meaning Designation
  old x = map-Expr Expr PlaceOf Meaning Designation (meaning here) (designation here) x

  args_same : (args : List Expr) → Each At args → AreMeaningsSame (map (meaning there) (map expr_there args)) (map (meaning here) args)
  args_same [] h = tt
  args_same (a ∷ args) h = (h.0, args_same args h.1)

  functions_same : (i : ℕ) → (of_program there_program).functions i ≡ (of_program P).functions i
  functions_same i =
      func_same r devices funcs P renamed function_type i (λ x y a. λ j. when (not (is_some (a.entry j))) (ToFunction (a.sig j)))

  type_same : (x : one.Expr-F Expr PlaceOf) → Parts At PlaceAt x → expr_type there (new x) ≡ expr_type here (old x)
  type_same (one.Const n t) h = refl
  type_same (one.Null t) h = refl
  type_same (one.FuncAddr i) h = functions_same i
  type_same (one.Load a) h = ap (λ t. of_one t read_from) h.ctype
  type_same (one.AddrOf a) h = ap (λ t. of_one t pointer_to_place) h.ctype
  type_same (one.Un o t a) h = ap (λ x. of_one x (unary_type P.target o t)) h.ctype
  type_same (one.Bin o t a b) h = λ i. of_two (h.0.ctype i) (h.1.ctype i) (binary_type P.target o t)
  type_same (one.Conv t a) h = ap (λ x. of_one x (conversion_type t)) h.ctype
  type_same (one.Qualify t a) h = ap (λ x. of_one x (typing.qualified_type (of_program P) t)) h.ctype
  type_same (one.Move a b back) h = λ i. of_two (h.0.ctype i) (h.1.ctype i) (moved_type P.structures)
  type_same (one.Gap a b) h = λ i. of_two (h.0.ctype i) (h.1.ctype i) (gap_type P.structures P.target)
  type_same (one.Compare o a b) h = λ i. of_two (h.0.ctype i) (h.1.ctype i) (comparison_type o)
  type_same (one.Both a b) h = λ i. of_two (h.0.ctype i) (h.1.ctype i) logical_type
  type_same (one.Either a b) h = λ i. of_two (h.0.ctype i) (h.1.ctype i) logical_type
  type_same (one.Choose c a b) h = λ i. of_one (h.0.ctype i) (λ c. of_two (h.1.ctype i) (h.2.ctype i) (choice_type P.target c))
  type_same (one.Assign a e) h = λ i. of_two (of_one (h.0.ctype i) written_to) (h.1.ctype i) assignment_type
  type_same (one.Change a o t e) h = λ i. of_two (of_one (h.0.ctype i) written_to) (h.1.ctype i) (change_type P.structures P.target o t)
  type_same (one.After a down) h = λ i. of_one (of_one (h.ctype i) written_to) (after_type P.structures)
  type_same (one.Call e args) h =
      λ i. of_one (h.0.ctype i) (λ c. call_type c (types_same (map (meaning there) (map expr_there args)) (map (meaning here) args) (args_same args h.1) i))
  type_same (one.Intr i None) h = refl
  type_same (one.Intr i (Some a)) h = λ j. intrinsic_type i (Some (h.ctype j))
  type_same (one.Seq a b) h = λ i. of_two (h.0.ctype i) (h.1.ctype i) (λ a b. Some b)

  abbrev AreSameEffects : Effects → Effects → Type 0
  AreSameEffects a b = AreEffectsSame local same_number a b

  abbrev assigned_of : Meaning → Registers
  assigned_of m = m.effects.assigned

  impure_both : (a b c d : Registers) → Regs a c → Regs b d → AreSameEffects (impure (also a b)) (impure (also c d))
  impure_both a b c d h k = impure_same local same_number (also a b) (also c d) (also_same local same_number a c b d h k)

  pair_effects : (a b c d : Meaning) → IsMeaningSame a c × IsMeaningSame b d → AreEffectsSame local same_number (of_both a.effects b.effects) (of_both c.effects d.effects)
  pair_effects a b c d h = both_same local same_number a.effects b.effects c.effects d.effects h.0.effects h.1.effects

  assigned_effects : (a b : Designation) (m n : Meaning) → IsDesignationSame a b → IsMeaningSame m n → AreEffectsSame local same_number (impure (assigned_to a.effects m.effects)) (impure (assigned_to b.effects n.effects))
  assigned_effects a b m n h k =
      impure_same local same_number (assigned_to a.effects m.effects) (assigned_to b.effects n.effects) (assigned_same local same_number a.effects b.effects m.effects n.effects h.effects k.effects)

  call_effects : (m n : Meaning) (ms ns : List Meaning) → IsMeaningSame m n → AreMeaningsSame ms ns → AreSameEffects (impure (also m.effects.assigned (assigned_by ms))) (impure (also n.effects.assigned (assigned_by ns)))
  call_effects m n ms ns h k = impure_both m.effects.assigned (assigned_by ms) n.effects.assigned (assigned_by ns) h.effects.assigned (all_same ms ns k)

  load_same : (a b : Designation) → IsDesignationSame a b → (s t : Registers) → Regs s t → Asks may (bind (a.leads s) (fetched there a s)) (bind (b.leads t) (fetched here b t))
  load_same a b h s t q = bind_same r may_spot may (a.leads s) (b.leads t) (fetched there a s) (fetched here b t) (h.leads s t q) (fetched_same a b h s t q)

  pointer_same : (a b : Designation) → IsDesignationSame a b → (s t : Registers) → Regs s t → Asks may (bind (a.leads s) (λ x. known (address_of x))) (bind (b.leads t) (λ x. known (address_of x)))
  pointer_same a b h s t q =
      bind_same r may_spot may (a.leads s) (b.leads t) (λ x. known (address_of x)) (λ x. known (address_of x)) (h.leads s t q) (λ x. known_same r may (address_of (may_spot x)) (address_of x) (address_of_same r devices funcs P renamed x))

  assigned_asked : (a b : Designation) (m n : Meaning) → IsDesignationSame a b → IsMeaningSame m n → (s t : Registers) → Regs s t →
      Asks may (bind (place_and_value a m s) (λ p. stored there a p.0 p.1 p.1)) (bind (place_and_value b n t) (λ p. stored here b p.0 p.1 p.1))
  assigned_asked a b m n h k s t q =
      bind_same r place_both may (place_and_value a m s) (place_and_value b n t) (λ p. stored there a p.0 p.1 p.1) (λ p. stored here b p.0 p.1 p.1) (place_asked a b m n h k s t q) (λ p. stored_same a b h p.0 p.1 p.1)

  effects_same : (x : one.Expr-F Expr PlaceOf) → Parts At PlaceAt x → AreSameEffects (expr_effects there (new x)) (expr_effects here (old x))
  effects_same (one.Const n t) h = nothing_same local same_number
  effects_same (one.Null t) h = nothing_same local same_number
  effects_same (one.FuncAddr i) h = nothing_same local same_number
  effects_same (one.Load a) h = record { assigned = h.effects.assigned; pure = λ s t q. soft_same local same_number (d1 a).effects.register (d0 a).effects.register s t h.effects.register q }
  effects_same (one.AddrOf a) h = record { assigned = h.effects.assigned; pure = h.effects.pure }
  effects_same (one.Un o t a) h = h.effects
  effects_same (one.Bin o t a b) h = pair_effects (m1 a) (m1 b) (m0 a) (m0 b) h
  effects_same (one.Conv t a) h = h.effects
  effects_same (one.Qualify t a) h = h.effects
  effects_same (one.Move a b back) h = pair_effects (m1 a) (m1 b) (m0 a) (m0 b) h
  effects_same (one.Gap a b) h = pair_effects (m1 a) (m1 b) (m0 a) (m0 b) h
  effects_same (one.Compare o a b) h = pair_effects (m1 a) (m1 b) (m0 a) (m0 b) h
  effects_same (one.Both a b) h = pair_effects (m1 a) (m1 b) (m0 a) (m0 b) h
  effects_same (one.Either a b) h = pair_effects (m1 a) (m1 b) (m0 a) (m0 b) h
  effects_same (one.Choose c a b) h =
      both_same local same_number (m1 c).effects (of_both (m1 a).effects (m1 b).effects) (m0 c).effects (of_both (m0 a).effects (m0 b).effects) h.0.effects (pair_effects (m1 a) (m1 b) (m0 a) (m0 b) (h.1, h.2))
  effects_same (one.Assign a e) h = assigned_effects (d1 a) (d0 a) (m1 e) (m0 e) h.0 h.1
  effects_same (one.Change a o t e) h = assigned_effects (d1 a) (d0 a) (m1 e) (m0 e) h.0 h.1
  effects_same (one.After a down) h =
      impure_both (only (d1 a).effects.register) (d1 a).effects.assigned (only (d0 a).effects.register) (d0 a).effects.assigned (only_same local same_number (d1 a).effects.register (d0 a).effects.register h.effects.register) h.effects.assigned
  effects_same (one.Call e args) h =
      subst (λ (x : Effects). AreSameEffects (expr_effects there (new (one.Call e args))) x) refl
      (call_effects (m1 e) (m0 e) (ms1 args) (ms0 args) h.0 (args_same args h.1))
  effects_same (one.Intr i None) h = impure_same local same_number no_one no_one refl
  effects_same (one.Intr i (Some a)) h = impure_same local same_number (assigned_of (m1 a)) (assigned_of (m0 a)) h.effects.assigned
  effects_same (one.Seq a b) h = impure_both (assigned_of (m1 a)) (assigned_of (m1 b)) (assigned_of (m0 a)) (assigned_of (m0 b)) h.0.effects.assigned h.1.effects.assigned

  bare_same : (i : Intr) (s t : Registers) → Asks may (intrinsic i None s) (intrinsic i None t)
  bare_same intr.Off s t = ask_same r may (Flag false) given given (given_same r)
  bare_same intr.On s t = ask_same r may (Flag true) given given (given_same r)
  bare_same intr.Save s t = ask_same r may Save given given (given_same r)
  bare_same intr.Restore s t = trap_same r may

  intrinsic_same : (i : Intr) (m n : Meaning) → IsMeaningSame m n → (s t : Registers) → Regs s t → Asks may (intrinsic i (Some m) s) (intrinsic i (Some n) t)
  intrinsic_same intr.Off m n h s t q = ask_same r may (Flag false) given given (given_same r)
  intrinsic_same intr.On m n h s t q = ask_same r may (Flag true) given given (given_same r)
  intrinsic_same intr.Save m n h s t q = ask_same r may Save given given (given_same r)
  intrinsic_same intr.Restore m n h s t q = restored_same m n h s t q

  next_same : (whole other : Effects) → AreSameEffects whole other → (x : one.Expr-F Expr PlaceOf) → Parts At PlaceAt x → (s t : Registers) → Regs s t → Asks may (next_step there whole (new x) s) (next_step here other (old x) t)
  next_same whole other w (one.Const n t) h s u q = known_same r may (Some (Int n)) (Some (Int n)) refl
  next_same whole other w (one.Null t) h s u q = known_same r may (Some (Place address.Null)) (Some (Place address.Null)) refl
  next_same whole other w (one.FuncAddr i) h s u q = known_same r may (Some (Place (address.Func i))) (Some (Place (address.Func i))) refl
  next_same whole other w (one.Load a) h s u q = load_same (d1 a) (d0 a) h s u q
  next_same whole other w (one.AddrOf a) h s u q = pointer_same (d1 a) (d0 a) h s u q
  next_same whole other w (one.Un o t a) h s u q = one_same may (unary o t P.target) (unary o t P.target) (unary_kept r o t P.target) (m1 a) (m0 a) h s u q
  next_same whole other w (one.Bin o t a b) h s u q = two_same (binary o t P.target) (binary o t P.target) (binary_kept r o t P.target) (m1 a) (m1 b) (m0 a) (m0 b) h.0 h.1 s u q
  next_same whole other w (one.Conv t a) h s u q = one_same may (conversion t P.target) (conversion t P.target) (conversion_kept r t P.target) (m1 a) (m0 a) h s u q
  next_same whole other w (one.Qualify t a) h s u q = one_same may (λ v. v) (λ v. v) (λ v. refl) (m1 a) (m0 a) h s u q
  next_same whole other w (one.Move a b back) h s u q = two_same (movement back) (movement back) (movement_kept r back) (m1 a) (m1 b) (m0 a) (m0 b) h.0 h.1 s u q
  next_same whole other w (one.Gap a b) h s u q = two_same (gap P.target) (gap P.target) (gap_kept r renamed.apart P.target) (m1 a) (m1 b) (m0 a) (m0 b) h.0 h.1 s u q
  next_same whole other w (one.Compare o a b) h s u q = two_same (comparison o) (comparison o) (comparison_kept r renamed.apart o) (m1 a) (m1 b) (m0 a) (m0 b) h.0 h.1 s u q
  next_same whole other w (one.Both a b) h s u q = both_choice (whole.pure s) (other.pure u) (m1 a) (m1 b) (m0 a) (m0 b) (w.pure s u q) h.0 h.1 s u q
  next_same whole other w (one.Either a b) h s u q = either_choice (whole.pure s) (other.pure u) (m1 a) (m1 b) (m0 a) (m0 b) (w.pure s u q) h.0 h.1 s u q
  next_same whole other w (one.Choose d a b) h s u q = chosen_choice (whole.pure s) (other.pure u) (m1 d) (m1 a) (m1 b) (m0 d) (m0 a) (m0 b) (w.pure s u q) h.0 h.1 h.2 s u q
  next_same whole other w (one.Assign a e) h s u q = assigned_asked (d1 a) (d0 a) (m1 e) (m0 e) h.0 h.1 s u q
  next_same whole other w (one.Change a o t e) h s u q = changed_asked (d1 a) (d0 a) (m1 e) (m0 e) o t h.0 h.1 s u q
  next_same whole other w (one.After a down) h s u q = stepped_asked (d1 a) (d0 a) down h s u q
  next_same whole other w (one.Call e args) h s u q = called_same (m1 e) (m0 e) (ms1 args) (ms0 args) h.0 (args_same args h.1) s u q
  next_same whole other w (one.Intr i None) h s u q = bare_same i s u
  next_same whole other w (one.Intr i (Some a)) h s u q = intrinsic_same i (m1 a) (m0 a) h s u q
  next_same whole other w (one.Seq a b) h s u q = sequence_same (m1 a) (m1 b) (m0 a) (m0 b) h.0 h.1 s u q

  meaning_level : (x : one.Expr-F Expr PlaceOf) → Parts At PlaceAt x → IsMeaningSame (expr_meaning there (new x)) (expr_meaning here (old x))
  meaning_level x h = record { ctype = type_same x h; effects = effects_same x h; next = next_same (expr_effects there (new x)) (expr_effects here (old x)) (effects_same x h) x h }

  expr_level : (x : one.Expr-F Expr PlaceOf) → Parts At PlaceAt x → At (roll-Expr x)
  unfolding meaning designation expr_renamed place_renamed
  expr_level x h =
      subst (λ m. IsMeaningSame m (meaning here (roll-Expr x)))
      (sym (ap (meaning there) (fold-roll-Expr Expr PlaceOf roll-Expr (place_step local r.device) x) ∙ fold-roll-Expr Meaning Designation (expr_meaning there) (place_meaning there) (map-Expr Expr PlaceOf Expr PlaceOf expr_there place_there x)))
      (subst (λ m. IsMeaningSame (expr_meaning there (new x)) m) (sym (fold-roll-Expr Meaning Designation (expr_meaning here) (place_meaning here) x)) (meaning_level x h))

  -- ---- places

  abbrev new_place : one.Place-F Expr PlaceOf → one.Place-F Meaning Designation
  new_place x = map-Place Expr PlaceOf Meaning Designation (meaning there) (designation there) (place_with local r.device (map-Place Expr PlaceOf Expr PlaceOf expr_there place_there x))

  abbrev old_place : one.Place-F Expr PlaceOf → one.Place-F Meaning Designation
  old_place x = map-Place Expr PlaceOf Meaning Designation (meaning here) (designation here) x

  place_type_same : (x : one.Place-F Expr PlaceOf) → PlaceParts At PlaceAt x → (place_meaning there (new_place x)).ctype ≡ (place_meaning here (old_place x)).ctype
  place_type_same (one.Local i) h = local_same r devices funcs P renamed (slice_get g.locals (local i)) (slice_get f.locals i) (alike.types i)
  place_type_same (one.Static i) h = refl
  place_type_same (one.Device d) h = ap (option_map (λ d. DevicePlace d.constant d.int)) (renamed.devices_there d)
  place_type_same (one.Element a e) h = λ i. of_two (h.0.ctype i) (h.1.ctype i) subscript_type
  place_type_same (one.Member a m) h = ap (λ t. of_one t (member_of P.structures m)) h.ctype
  place_type_same (one.Deref e) h = ap (λ t. of_one t pointed_to) h.ctype

  register_if : (b c : Bool) (i : ℕ) → b ≡ c → (if b then Some (local i) else None) ≡ option_map local (if c then Some i else None)
  register_if b true i e = ap (λ x. if x then Some (local i) else None) e
  register_if b false i e = ap (λ x. if x then Some (local i) else None) e

  place_effects_same : (x : one.Place-F Expr PlaceOf) → PlaceParts At PlaceAt x → ArePlaceEffectsSame local same_number (place_meaning there (new_place x)).effects (place_meaning here (old_place x)).effects
  place_effects_same (one.Local i) h = plain_same local same_number (if is_register g (local i) then Some (local i) else None) (if is_register f i then Some i else None) (register_if (is_register g (local i)) (is_register f i) i (register_same local r.device same_number i g f alike.body (alike.types i)))
  place_effects_same (one.Static i) h = plain_same local same_number None None refl
  place_effects_same (one.Device d) h = plain_same local same_number None None refl
  place_effects_same (one.Element a e) h =
      within_same local same_number (of_both (operands (d1 a).effects) (m1 e).effects) (of_both (operands (d0 a).effects) (m0 e).effects)
      (both_same local same_number (operands (d1 a).effects) (m1 e).effects (operands (d0 a).effects) (m0 e).effects (operands_same local same_number (d1 a).effects (d0 a).effects h.0.effects) h.1.effects)
  place_effects_same (one.Member a m) h = within_same local same_number (operands (d1 a).effects) (operands (d0 a).effects) (operands_same local same_number (d1 a).effects (d0 a).effects h.effects)
  place_effects_same (one.Deref e) h = within_same local same_number (m1 e).effects (m0 e).effects h.effects

  element_kept : (x y : Option PlaceType) (s : Option Spot) (v : Option Value) → x ≡ y → element_at there x (may_spot s) (may v) ≡ may_spot (element_at here y s v)
  element_kept x y s v e = ap (λ t. element_at there t (may_spot s) (may v)) e ∙ by y s
    where
      by_number : (t : PlaceType) (s : Spot) (n : Option ℤ) → option_and_then (λ n. element there_program n t (spot_renamed r s)) n ≡ may_spot (option_and_then (λ n. element P n t s) n)
      by_number t s None = refl
      by_number t s (Some n) = element_same r devices funcs P renamed n t s

      by : (t : Option PlaceType) (s : Option Spot) → element_at there t (may_spot s) (may v) ≡ may_spot (element_at here t s v)
      by None s = refl
      by (Some t) None = refl
      by (Some t) (Some s) = ap (option_and_then (λ n. element there_program n t (spot_renamed r s))) (integer_kept r v) ∙ by_number t s (integer v)

  leads_same : (x : one.Place-F Expr PlaceOf) → PlaceParts At PlaceAt x → (s t : Registers) → Regs s t → Asks may_spot (leads_to there (new_place x) s) (leads_to here (old_place x) t)
  leads_same (one.Local i) h s t q = known_same r may_spot (Some (spot.Object (root.Auto number id (local i)) [])) (Some (spot.Object (root.Auto number id i) [])) refl
  leads_same (one.Static i) h s t q = known_same r may_spot (Some (spot.Object (root.Static i) [])) (Some (spot.Object (root.Static i) [])) refl
  leads_same (one.Device d) h s t q = known_same r may_spot (Some (spot.Device (r.device d))) (Some (spot.Device d)) refl
  leads_same (one.Element a e) h s t q =
      bind_same r place_both may_spot (place_and_value (d1 a) (m1 e) s) (place_and_value (d0 a) (m0 e) t) (λ p. known (element_at there (d1 a).ctype p.0 p.1)) (λ p. known (element_at here (d0 a).ctype p.0 p.1))
      (place_asked (d1 a) (d0 a) (m1 e) (m0 e) h.0 h.1 s t q)
      (λ p. known_same r may_spot (element_at there (d1 a).ctype (may_spot p.0) (may p.1)) (element_at here (d0 a).ctype p.0 p.1) (element_kept (d1 a).ctype (d0 a).ctype p.0 p.1 h.0.ctype))
  leads_same (one.Member a m) h s t q =
      bind_same r may_spot may_spot ((d1 a).leads s) ((d0 a).leads t) (λ x. known (of_two (d1 a).ctype x (member there_program m))) (λ x. known (of_two (d0 a).ctype x (member P m))) (h.leads s t q)
      (λ x. known_same r may_spot (of_two (d1 a).ctype (may_spot x) (member there_program m)) (of_two (d0 a).ctype x (member P m))
      (ap (λ y. of_two y (may_spot x) (member there_program m)) h.ctype ∙ member_same r devices funcs P renamed m (d0 a).ctype x))
  leads_same (one.Deref e) h s t q =
      one_same may_spot (λ v. option_map spot.Address (address_in v)) (λ v. option_map spot.Address (address_in v)) (λ v. ap (option_map spot.Address) (address_kept r v) ∙ address_spot r devices funcs P renamed (address_in v)) (m1 e) (m0 e) h s t q

  designation_level : (x : one.Place-F Expr PlaceOf) → PlaceParts At PlaceAt x → IsDesignationSame (place_meaning there (new_place x)) (place_meaning here (old_place x))
  designation_level x h = record { ctype = place_type_same x h; effects = place_effects_same x h; leads = leads_same x h }

  place_level : (x : one.Place-F Expr PlaceOf) → PlaceParts At PlaceAt x → PlaceAt (roll-Place x)
  unfolding meaning designation expr_renamed place_renamed
  place_level x h =
      subst (λ m. IsDesignationSame m (designation here (roll-Place x)))
      (sym (ap (designation there) (fold-roll-Place Expr PlaceOf roll-Expr (place_step local r.device) x) ∙ fold-roll-Place Meaning Designation (expr_meaning there) (place_meaning there) (place_with local r.device (map-Place Expr PlaceOf Expr PlaceOf expr_there place_there x))))
      (subst (λ m. IsDesignationSame (place_meaning there (new_place x)) m) (sym (fold-roll-Place Meaning Designation (expr_meaning here) (place_meaning here) x)) (designation_level x h))

  pub meaning_same : (e : Expr) → IsMeaningSame (meaning there (expr_there e)) (meaning here e)
  meaning_same e = by_expr At PlaceAt expr_level place_level e

  -- the next step of a full expression
  pub next_of_same : (e : Expr) (ms : List Mark) → (meaning there (expr_there e)).next no_one (marks_renamed r ms) ≡ progress_renamed r may ((meaning here e).next no_one ms)
  next_of_same e ms = (meaning_same e).next no_one no_one refl ms
