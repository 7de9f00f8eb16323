-- What expressions and places of a typed program see, level by level.
use Rattle.std.proofs.Common.{◌≡◌, ◌∙◌, ◌∷◌, ◌++◌, ◌&&◌, ◌||◌, ◌⊎◌, inl, inr, ℕ, ℤ, Bool, true, false, not, List, [], map, Option, Some, None, option_map, option_and_then, slice_get, refl, ap, sym, subst, if◌then◌else◌}
use Rattle.std.specs.Prelude.{pos, nat_lt, is_some}
use Rattle.std.proofs.lemmas.Option.{same_Some}
use Rattle.cc_states.specs.CcEval.declared.action.Action.TheVariants.{Read, Write, Choose, Call, Flag, Save}
use Rattle.cc_states.specs.CcEval.declared.mark.Mark.{Mark}
use Rattle.cc_states.specs.CcEval.declared.spots.Spot.{Spot}
use Rattle.cc_states.specs.CcEval.declared.spots.Spot.TheVariants as spot
use Rattle.cc_states.specs.CcEval.Context.{Context, has_elements, path_to, named_by, designated, cell_of, reached, element_in, element, member, is_seen}
use Rattle.cc_states.specs.CcEval.Eval.{Meaning, Designation, manner, from_one, both_values, from_two, place_and_value, branch, outcome, arms, choice, as_condition, assigned_by, each, all_good, called_with, called, address_of, fetched, stored, changed_back, changed_with, stepped_back, stepped_with, element_at, expr_meaning, place_meaning, meaning, designation}
use Rattle.cc_states.specs.CcEval.Marks.{UsesFirst}
use Rattle.cc_states.specs.CcEval.Progress.{Progress, Known, Waits, Traps, Get, known, ask, and_then, bind, needs, given, chosen}
use Rattle.cc_states.proofs.CcEval.Uses.{uses_ask, uses_needs, uses_bind}
use Rattle.cc_program.specs.declared.expr.Expr.{Expr, roll-Expr, map-Expr}
use Rattle.cc_program.specs.declared.expr.Expr.TheOpen as one
use Rattle.cc_program.specs.declared.expr.Intr.TheVariants as intr
use Rattle.cc_program.specs.declared.expr.Place.{Place as PlaceOf, roll-Place, map-Place}
use Rattle.cc_program.specs.Qualifiers.{of_element, is_volatile}
use Rattle.cc_program.specs.declared.func.Func.{Func}
use Rattle.cc_program.specs.declared.types.CType.{CType}
use Rattle.cc_program.specs.declared.types.Shape.{Shape, out-Shape}
use Rattle.cc_program.specs.declared.types.Shape.TheOpen as shape
use Rattle.cc_program.specs.declared.types.Sig.{Sig}
use Rattle.cc_program.specs.declared.value.Address.{Address}
use Rattle.cc_program.specs.declared.value.Address.TheVariants as address
use Rattle.cc_program.specs.declared.value.Cell.{Cell}
use Rattle.cc_program.specs.declared.value.Cell.TheVariants as cell
use Rattle.cc_program.specs.declared.value.Part.{Part}
use Rattle.cc_program.specs.declared.value.Part.TheVariants as part
use Rattle.cc_program.specs.declared.value.Root.{Root}
use Rattle.cc_program.specs.declared.value.Root.TheVariants as root
use Rattle.cc_program.specs.declared.value.Value.{Value}
use Rattle.cc_program.specs.declared.value.Value.TheVariants.{Int, Place}
use Rattle.cc_program.proofs.Each.{Each}
use Rattle.cc_program.proofs.ExprInduction.{Parts, PlaceParts, by_expr}
use Rattle.cc_program.proofs.QualifierLemmas.{parts_volatile, volatile-opens}
use Rattle.cc_states.specs.CcSyntax.Effects.{Registers, also}
use Rattle.cc_states.specs.CcSyntax.Expressions.{of_one, of_two}
use Rattle.cc_states.specs.CcSyntax.Registers.{may_be_register, is_register, is_addressed}
use Rattle.cc_states.specs.CcSyntax.Types.{Named}
use Rattle.cc_states.specs.CcSyntax.Values.{ValueType, ToObject, ToFunction, PlaceType, DevicePlace, ObjectPlace, FunctionPlace, object_place, scalar_value, scalar_shape, member_of, member_shape}
use Rattle.cc_states.specs.CcValues.Values.{integer, address_in, truth, of_truth, element_at as element_at_address}
use Rattle.cc_states.specs.Answers.{IsActivation, AreAnswers, TakesAddressesOf, IsMarkOf}
use Rattle.cc_states.specs.Typed.{is_register_in, IsInMemory, IsAddress, IsSpot}
use Rattle.cc_states.proofs.AddressLemmas.{IfTaken, PlaceIfTaken, parts_at, place_parts_at, rolled_takes, rolled_place_takes}
use Rattle.cc_states.proofs.EvalTypes.{designation_typed}
use Rattle.cc_states.proofs.Options.{mapped}
use Rattle.cc_states.proofs.CcEval.Works.{left_answers, gives_made}
use Rattle.cc_states.proofs.CcEval.Links.{level, place_level}
use Rattle.cc_states.specs.CcSyntax.Initial.{bound_of}
use Rattle.cc_program.specs.CcNum.declared.int_type.IntType.{IntType}
use Rattle.cc_program.specs.CcNum.declared.op.BinOp.{BinOp}
use Rattle.cc_lower_numbers_follows.specs.Shown.{IsCellShown}
use Rattle.cc_lower_numbers_follows.proofs.Seen.{IsFine, fine_known, fine_trap, fine_ask, fine_from, fine_bind, fine_needs}

-- ---- a register is no volatile object, and has no members

both_left : (a b : Bool) → (a && b) ≡ true → a ≡ true
both_left true b h = refl
both_left false b h = absurd (cc)

both_right : (a b : Bool) → (a && b) ≡ true → b ≡ true
both_right true b h = h
both_right false b h = absurd (cc)

not_true : (b : Bool) → not b ≡ true → b ≡ false
not_true true h = absurd (cc)
not_true false h = refl

scalar_still : (t : CType) (x : shape.Shape-F Shape CType Sig) → out-Shape t.shape ≡ x → is_some (scalar_shape x) ≡ true → t.volatile ≡ false → is_volatile t ≡ false
scalar_still t shape.Void e h k = absurd (cc)
scalar_still t (shape.Int i) e h k = volatile-opens t ∙ ap (λ y. t.volatile || of_element (parts_volatile y)) e ∙ ap (λ b. b || false) k
scalar_still t (shape.Pointer to) e h k = volatile-opens t ∙ ap (λ y. t.volatile || of_element (parts_volatile y)) e ∙ ap (λ b. b || false) k
scalar_still t (shape.Array of n) e h k = absurd (cc)
scalar_still t (shape.Struct s) e h k = absurd (cc)
scalar_still t (shape.Func sig) e h k = absurd (cc)

scalar_memberless : (c : Context) (constant volatile : Bool) (m : ℕ) (x : shape.Shape-F Shape CType Sig) → is_some (scalar_shape x) ≡ true → member_shape c.program.structures constant volatile m x ≡ None
scalar_memberless c constant volatile m shape.Void h = absurd (cc)
scalar_memberless c constant volatile m (shape.Int i) h = refl
scalar_memberless c constant volatile m (shape.Pointer to) h = refl
scalar_memberless c constant volatile m (shape.Array of n) h = absurd (cc)
scalar_memberless c constant volatile m (shape.Struct s) h = absurd (cc)
scalar_memberless c constant volatile m (shape.Func sig) h = absurd (cc)

module _ (c : Context) (openings : List ℕ) (here : IsActivation c openings) where
  abbrev Fine : {A : Type 0} → Get A → Type 0
  Fine g = IsFine c.program openings g

  abbrev Answered : {A : Type 0} → Get A → List Mark → Type 0
  Answered g ms = AreAnswers c.program openings g ms

  abbrev NoMembers : Option PlaceType → Type 0
  NoMembers t = (m : ℕ) → of_one t (member_of c.program.structures m) ≡ None

  abbrev IsRootFine : Option PlaceType → Root → Type 0
  IsRootFine t o = IsInMemory c.program o ⊎ ((is_seen t ≡ false) × NoMembers t)

  pub record IsPlaceFine (d : Designation) : Type 0 where
    pub fine : (later : Registers) → Fine (d.leads later)
    pub roots : (later : Registers) (ms rest : List Mark) (o : Root) (path : List Part) → Answered (d.leads later) ms → d.leads later ms ≡ Known (Some (spot.Object o path)) rest → IsRootFine d.ctype o
    pub addresses : (later : Registers) (ms rest : List Mark) (a : Address) (u : PlaceType) → d.ctype ≡ Some u → Answered (d.leads later) ms → d.leads later ms ≡ Known (Some (spot.Address a)) rest → IsSpot c.program openings u (spot.Address a)

  abbrev IsMeaningFine : Meaning → Type 0
  IsMeaningFine m = (later : Registers) → Fine (m.next later)

  -- ---- what is named by a pointer is in memory

  named_memory : (to : ValueType) (u : PlaceType) (a : Address) (o : Root × List Part) → IsAddress c.program openings to a → named_by c.program u a ≡ Some o → IsInMemory c.program o.0
  named_memory to u address.Null o h e = absurd (cc)
  named_memory to u (address.Func f) o h e = absurd (cc)
  named_memory to u (address.At object path index count) o h e = by_count (nat_lt index count) e
    where
      by_count : (b : Bool) → (if b then Some (object, path_to (has_elements c.program u object path) path index) else None) ≡ Some o → IsInMemory c.program o.0
      by_count true e = subst (λ (x : Root × List Part). IsInMemory c.program x.0) (same_Some (object, path_to (has_elements c.program u object path) path index) o e) h.2
      by_count false e = absurd (cc)

  spot_memory : (u : PlaceType) (a : Address) (o : Root × List Part) → IsSpot c.program openings u (spot.Address a) → named_by c.program u a ≡ Some o → IsInMemory c.program o.0
  spot_memory (DevicePlace constant t) a o h e = absurd h
  spot_memory (ObjectPlace k v t) a o h e = named_memory (ToObject k v t) (ObjectPlace k v t) a o h e
  spot_memory (FunctionPlace sig) a o h e = named_memory (ToFunction sig) (FunctionPlace sig) a o h e

  -- ---- accesses

  abbrev SeesFit : Designation → Option Spot → Type 0
  SeesFit d s = (at : Cell) → reached c.program d.ctype s ≡ Some at → is_seen d.ctype ≡ true → IsCellShown c.program at

  root_shown : (t : Option PlaceType) (o : Root) (path : List Part) → IsRootFine t o → is_seen t ≡ true → IsCellShown c.program (cell.At o path)
  root_shown t o path (inl h) k = h
  root_shown t o path (inr h) k = absurd (cc)

  sees_by : (d : Designation) → IsPlaceFine d → (later : Registers) (ms rest : List Mark) (t : Option PlaceType) (s : Option Spot) → d.ctype ≡ t → Answered (d.leads later) ms → d.leads later ms ≡ Known s rest →
      (at : Cell) → reached c.program t s ≡ Some at → is_seen t ≡ true → IsCellShown c.program at
  sees_by d h later ms rest None s e answers known at r k = absurd (cc)
  sees_by d h later ms rest (Some u) None e answers known at r k = absurd (cc)
  sees_by d h later ms rest (Some u) (Some (spot.Device i)) e answers known at r k = subst (IsCellShown c.program) (same_Some (cell.Device i) at r) tt
  sees_by d h later ms rest (Some u) (Some (spot.Object o path)) e answers known at r k =
      subst (IsCellShown c.program) (same_Some (cell.At o path) at r) (root_shown (Some u) o path (subst (λ t. IsRootFine t o) e (h.roots later ms rest o path answers known)) k)
  sees_by d h later ms rest (Some u) (Some (spot.Address a)) e answers known at r k =
      let o = mapped cell_of (named_by c.program u a) at r in
      subst (IsCellShown c.program) o.2 (spot_memory u a o.0 (h.addresses later ms rest a u e answers known) o.1)

  sees : (d : Designation) → IsPlaceFine d → (later : Registers) (ms rest : List Mark) (s : Option Spot) → Answered (d.leads later) ms → d.leads later ms ≡ Known s rest → SeesFit d s
  sees d h later ms rest s answers known = sees_by d h later ms rest d.ctype s refl answers known

  reads_by : (d : Designation) (later : Registers) (x : Option Cell) → ((at : Cell) → x ≡ Some at → is_seen d.ctype ≡ true → IsCellShown c.program at) → Fine (needs x (λ at. ask (Read at (manner d later)) given))
  reads_by d later None h = fine_trap c.program openings
  reads_by d later (Some at) h = fine_ask c.program openings (Read at (manner d later)) given (h at refl)

  fetched_fine : (d : Designation) (later : Registers) (s : Option Spot) → SeesFit d s → Fine (fetched c d later s)
  fetched_fine d later s h = reads_by d later (reached c.program d.ctype s) h

  writes_by : (d : Designation) (v answer : Option Value) (x : Option Cell) → ((at : Cell) → x ≡ Some at → is_seen d.ctype ≡ true → IsCellShown c.program at) → Fine (needs x (λ at. needs v (λ w. ask (Write at (is_seen d.ctype) w) (λ m. answer))))
  writes_by d v answer None h = fine_trap c.program openings
  writes_by d v answer (Some at) h = fine_needs c.program openings v (λ w. ask (Write at (is_seen d.ctype) w) (λ m. answer)) (λ w. fine_ask c.program openings (Write at (is_seen d.ctype) w) (λ m. answer) (h at refl))

  stored_fine : (d : Designation) (s : Option Spot) (v answer : Option Value) → SeesFit d s → Fine (stored c d s v answer)
  stored_fine d s v answer h = writes_by d v answer (reached c.program d.ctype s) h

  uses_fetched : (d : Designation) (later : Registers) (s : Option Spot) → UsesFirst (fetched c d later s)
  uses_fetched d later s = uses_needs (reached c.program d.ctype s) (λ at. ask (Read at (manner d later)) given) (λ at. uses_ask (Read at (manner d later)) given)

  uses_stored : (d : Designation) (s : Option Spot) (v answer : Option Value) → UsesFirst (stored c d s v answer)
  uses_stored d s v answer =
      uses_needs (reached c.program d.ctype s) (λ at. needs v (λ w. ask (Write at (is_seen d.ctype) w) (λ m. answer)))
      (λ at. uses_needs v (λ w. ask (Write at (is_seen d.ctype) w) (λ m. answer)) (λ w. uses_ask (Write at (is_seen d.ctype) w) (λ m. answer)))

  load_fine : (d : Designation) → IsPlaceFine d → (later : Registers) → Fine (bind (d.leads later) (fetched c d later))
  load_fine d h later =
      fine_from c.program openings (d.leads later) (fetched c d later) (h.fine later) (λ ms rest s answers e. (fetched_fine d later s (sees d h later ms rest s answers e)).seen) (uses_fetched d later)

  stepped_fine : (d : Designation) (down : Bool) → IsPlaceFine d → (later : Registers) → Fine (bind (d.leads later) (stepped_with c d down later))
  stepped_fine d down h later =
      fine_from c.program openings (d.leads later) (stepped_with c d down later) (h.fine later)
      (λ ms rest s answers e. let k = sees d h later ms rest s answers e in (fine_bind c.program openings (fetched c d later s) (stepped_back c d down s) (fetched_fine d later s k) (λ v. stored_fine d s _ v k)).seen)
      (λ s. uses_bind (fetched c d later s) (stepped_back c d down s) (uses_fetched d later s) (λ v. uses_stored d s _ v))

  -- a place and an operand
  place_fine : (d : Designation) (m : Meaning) → IsPlaceFine d → IsMeaningFine m → (later : Registers) → Fine (place_and_value d m later)
  place_fine d m h k later =
      fine_bind c.program openings (d.leads (also m.effects.assigned later)) (λ s. bind (m.next later) (λ v. known (s, v))) (h.fine (also m.effects.assigned later))
      (λ s. fine_bind c.program openings (m.next later) (λ v. known (s, v)) (k later) (λ v. fine_known c.program openings (s, v)))

  value_led : (s : Option Spot) (q : Progress (Option Value)) (p : Option Spot × Option Value) (rest : List Mark) → and_then q (λ v. known (s, v)) ≡ Known p rest → s ≡ p.0
  value_led s (Known v mid) p rest e = cc
  value_led s (Waits action) p rest e = absurd (cc)
  value_led s (Traps mid) p rest e = absurd (cc)

  led_by : (m : Meaning) (later : Registers) (q : Progress (Option Spot)) (p : Option Spot × Option Value) (rest : List Mark) → and_then q (λ s. bind (m.next later) (λ v. known (s, v))) ≡ Known p rest →
      (mid : List Mark) × (q ≡ Known p.0 mid)
  led_by m later (Known s mid) p rest e = (mid, ap (λ (x : Option Spot). Known x mid) (value_led s (m.next later mid) p rest e))
  led_by m later (Waits action) p rest e = absurd (cc)
  led_by m later (Traps mid) p rest e = absurd (cc)

  place_sees : (d : Designation) (m : Meaning) → IsPlaceFine d → (later : Registers) (ms rest : List Mark) (p : Option Spot × Option Value) → Answered (place_and_value d m later) ms → place_and_value d m later ms ≡ Known p rest → SeesFit d p.0
  place_sees d m h later ms rest p answers e =
      let l = led_by m later (d.leads (also m.effects.assigned later) ms) p rest e in
      sees d h (also m.effects.assigned later) ms l.0 p.0 (left_answers (IsMarkOf c.program openings) (d.leads (also m.effects.assigned later)) (λ s. bind (m.next later) (λ v. known (s, v))) ms answers) l.1

  assigned_fine : (d : Designation) (m : Meaning) → IsPlaceFine d → IsMeaningFine m → (later : Registers) → Fine (bind (place_and_value d m later) (λ p. stored c d p.0 p.1 p.1))
  assigned_fine d m h k later =
      fine_from c.program openings (place_and_value d m later) (λ p. stored c d p.0 p.1 p.1) (place_fine d m h k later)
      (λ ms rest p answers e. (stored_fine d p.0 p.1 p.1 (place_sees d m h later ms rest p answers e)).seen) (λ p. uses_stored d p.0 p.1 p.1)

  changed_fine : (d : Designation) (m : Meaning) (o : BinOp) (t : IntType) → IsPlaceFine d → IsMeaningFine m → (later : Registers) → Fine (bind (place_and_value d m later) (changed_with c d o t later))
  changed_fine d m o t h k later =
      fine_from c.program openings (place_and_value d m later) (changed_with c d o t later) (place_fine d m h k later)
      (λ ms rest p answers e. let l = place_sees d m h later ms rest p answers e in
      (fine_bind c.program openings (fetched c d later p.0) (changed_back c d o t p.0 p.1) (fetched_fine d later p.0 l) (λ v. stored_fine d p.0 _ _ l)).seen)
      (λ p. uses_bind (fetched c d later p.0) (changed_back c d o t p.0 p.1) (uses_fetched d later p.0) (λ v. uses_stored d p.0 _ _))

  -- ---- operands

  one_fine : {A : Type 0} (f : Option Value → A) (m : Meaning) → IsMeaningFine m → (later : Registers) → Fine (from_one f m later)
  one_fine f m h later = fine_bind c.program openings (m.next later) (λ v. known (f v)) (h later) (λ v. fine_known c.program openings (f v))

  two_fine : (f : Option Value → Option Value → Option Value) (m n : Meaning) → IsMeaningFine m → IsMeaningFine n → (later : Registers) → Fine (from_two f m n later)
  two_fine f m n h k later =
      fine_bind c.program openings (both_values m n later) (λ p. known (f p.0 p.1))
      (fine_bind c.program openings (m.next (also n.effects.assigned later)) (λ v. bind (n.next later) (λ w. known (v, w))) (h (also n.effects.assigned later))
      (λ v. fine_bind c.program openings (n.next later) (λ w. known (v, w)) (k later) (λ w. fine_known c.program openings (v, w))))
      (λ p. fine_known c.program openings (f p.0 p.1))

  branch_fine : (pure : Bool) (v : Option Value) → Fine (branch pure v)
  branch_fine true v = fine_ask c.program openings (Choose (truth v)) chosen tt
  branch_fine false v = fine_needs c.program openings (truth v) (λ b. ask (Choose (Some b)) chosen) (λ b. fine_ask c.program openings (Choose (Some b)) chosen tt)

  outcome_fine : (pure : Bool) (v : Option Value) → Fine (outcome pure v)
  outcome_fine true v = fine_known c.program openings v
  outcome_fine false v = fine_needs c.program openings v (λ w. known (Some w)) (λ w. fine_known c.program openings (Some w))

  arms_fine : (these those : Get (Option Value)) → Fine these → Fine those → (b : Option Bool) → Fine (arms these those b)
  arms_fine these those h k None = fine_known c.program openings None
  arms_fine these those h k (Some true) = h
  arms_fine these those h k (Some false) = k

  choice_fine : (pure : Bool) (condition these those : Get (Option Value)) → Fine condition → Fine these → Fine those → Fine (choice pure condition these those)
  choice_fine pure condition these those h k l =
      fine_bind c.program openings condition (λ v. bind (branch pure v) (arms (bind these (outcome pure)) (bind those (outcome pure)))) h
      (λ v. fine_bind c.program openings (branch pure v) (arms (bind these (outcome pure)) (bind those (outcome pure))) (branch_fine pure v)
      (arms_fine (bind these (outcome pure)) (bind those (outcome pure)) (fine_bind c.program openings these (outcome pure) k (outcome_fine pure)) (fine_bind c.program openings those (outcome pure) l (outcome_fine pure))))

  condition_fine : (m : Meaning) → IsMeaningFine m → (later : Registers) → Fine (as_condition m later)
  condition_fine m h later = fine_bind c.program openings (m.next later) (λ v. known (of_truth (truth v))) (h later) (λ v. fine_known c.program openings (of_truth (truth v)))

  AreFine : List Meaning → Type 0
  AreFine [] = Unit {0}
  AreFine (m ∷ ms) = IsMeaningFine m × AreFine ms

  each_fine : (ms : List Meaning) → AreFine ms → (later : Registers) → Fine (each ms later)
  unfolding AreFine
  each_fine [] h later = fine_known c.program openings []
  each_fine (m ∷ ms) h later =
      fine_bind c.program openings (m.next (also (assigned_by ms) later)) (λ v. bind (each ms later) (λ vs. known (v ∷ vs))) (h.0 (also (assigned_by ms) later))
      (λ v. fine_bind c.program openings (each ms later) (λ vs. known (v ∷ vs)) (each_fine ms h.1 later) (λ vs. fine_known c.program openings (v ∷ vs)))

  called_fine : (m : Meaning) (ms : List Meaning) → IsMeaningFine m → AreFine ms → (later : Registers) → Fine (called m ms later)
  called_fine m ms h k later =
      fine_bind c.program openings (m.next (also (assigned_by ms) later)) (called_with ms later) (h (also (assigned_by ms) later))
      (λ v. fine_bind c.program openings (each ms later) (λ vs. needs (address_in v) (λ callee. needs (all_good vs) (λ good. ask (Call callee good) given))) (each_fine ms k later)
      (λ vs. fine_needs c.program openings (address_in v) (λ callee. needs (all_good vs) (λ good. ask (Call callee good) given))
      (λ callee. fine_needs c.program openings (all_good vs) (λ good. ask (Call callee good) given) (λ good. fine_ask c.program openings (Call callee good) given tt))))

  -- ---- level by level

  abbrev At : Expr → Type 0
  At e = IsMeaningFine (meaning c e)

  abbrev PlaceAt : PlaceOf → Type 0
  PlaceAt a = IsPlaceFine (designation c a)

  args_fine : (args : List Expr) → Each At args → AreFine (map (meaning c) args)
  unfolding AreFine
  args_fine [] h = tt
  args_fine (a ∷ args) h = (h.0, args_fine args h.1)

  abbrev opened : one.Expr-F Expr PlaceOf → Meaning
  opened x = expr_meaning c (map-Expr Expr PlaceOf Meaning Designation (meaning c) (designation c) x)

  level_fine : (x : one.Expr-F Expr PlaceOf) → Parts At PlaceAt x → IsMeaningFine (opened x)
  level_fine (one.Const n t) h = λ later. fine_known c.program openings (Some (Int n))
  level_fine (one.Null t) h = λ later. fine_known c.program openings (Some (Place address.Null))
  level_fine (one.FuncAddr f) h = λ later. fine_known c.program openings (Some (Place (address.Func f)))
  level_fine (one.Load a) h = λ later. load_fine (designation c a) h later
  level_fine (one.AddrOf a) h = λ later. fine_bind c.program openings ((designation c a).leads later) (λ s. known (address_of s)) (h.fine later) (λ s. fine_known c.program openings (address_of s))
  level_fine (one.Un o t a) h = λ later. one_fine _ (meaning c a) h later
  level_fine (one.Bin o t a b) h = λ later. two_fine _ (meaning c a) (meaning c b) h.0 h.1 later
  level_fine (one.Conv t a) h = λ later. one_fine _ (meaning c a) h later
  level_fine (one.Qualify t a) h = λ later. one_fine _ (meaning c a) h later
  level_fine (one.Move a b back) h = λ later. two_fine _ (meaning c a) (meaning c b) h.0 h.1 later
  level_fine (one.Gap a b) h = λ later. two_fine _ (meaning c a) (meaning c b) h.0 h.1 later
  level_fine (one.Compare o a b) h = λ later. two_fine _ (meaning c a) (meaning c b) h.0 h.1 later
  level_fine (one.Both a b) h = λ later.
      choice_fine _ _ _ _ (h.0 (also (meaning c b).effects.assigned later)) (condition_fine (meaning c b) h.1 later) (fine_known c.program openings (Some (Int (pos 0))))
  level_fine (one.Either a b) h = λ later.
      choice_fine _ _ _ _ (h.0 (also (meaning c b).effects.assigned later)) (fine_known c.program openings (Some (Int (pos 1)))) (condition_fine (meaning c b) h.1 later)
  level_fine (one.Choose d a b) h = λ later.
      choice_fine _ _ _ _ (h.0 (also (meaning c a).effects.assigned (also (meaning c b).effects.assigned later))) (h.1 (also (meaning c b).effects.assigned later)) (h.2 later)
  level_fine (one.Assign a e) h = λ later. assigned_fine (designation c a) (meaning c e) h.0 h.1 later
  level_fine (one.Change a o t e) h = λ later. changed_fine (designation c a) (meaning c e) o t h.0 h.1 later
  level_fine (one.After a down) h = λ later. stepped_fine (designation c a) down h later
  level_fine (one.Call f args) h = λ later. called_fine (meaning c f) (map (meaning c) args) h.0 (args_fine args h.1) later
  level_fine (one.Intr intr.Off a) h = λ later. fine_ask c.program openings (Flag false) given tt
  level_fine (one.Intr intr.On a) h = λ later. fine_ask c.program openings (Flag true) given tt
  level_fine (one.Intr intr.Save a) h = λ later. fine_ask c.program openings Save given tt
  level_fine (one.Intr intr.Restore None) h = λ later. fine_trap c.program openings
  level_fine (one.Intr intr.Restore (Some a)) h = λ later.
      fine_bind c.program openings ((meaning c a).next later) (λ v. needs (truth v) (λ b. ask (Flag b) given)) (h later)
      (λ v. fine_needs c.program openings (truth v) (λ b. ask (Flag b) given) (λ b. fine_ask c.program openings (Flag b) given tt))
  level_fine (one.Seq a b) h = λ later.
      fine_bind c.program openings ((meaning c a).next (also (meaning c b).effects.assigned later)) (λ v. needs v (λ w. (meaning c b).next later)) (h.0 (also (meaning c b).effects.assigned later))
      (λ v. fine_needs c.program openings v (λ w. (meaning c b).next later) (λ w. h.1 later))

  -- ---- places

  pub record IsLed (d : Designation) : Type 0 where
    pub fine : (later : Registers) → Fine (d.leads later)
    pub roots : (later : Registers) (ms rest : List Mark) (o : Root) (path : List Part) → Answered (d.leads later) ms → d.leads later ms ≡ Known (Some (spot.Object o path)) rest → IsRootFine d.ctype o

  abbrev opened_place : one.Place-F Expr PlaceOf → Designation
  opened_place x = place_meaning c (map-Place Expr PlaceOf Meaning Designation (meaning c) (designation c) x)

  same_root : (s : Spot) (o : Root) (path : List Part) (q : Root) (way : List Part) (ms rest : List Mark) → s ≡ spot.Object q way → Known (Some s) ms ≡ Known (Some (spot.Object o path)) rest → q ≡ o
  same_root s o path q way ms rest e h = cc

  register_may : (f : Func) (r : ℕ) → is_register f r ≡ true → may_be_register (slice_get f.locals r) ≡ true
  unfolding is_register
  register_may f r h = both_left (may_be_register (slice_get f.locals r)) (not (is_addressed f r)) h

  still : (x : Option Named) → may_be_register x ≡ true → (is_seen (option_map (λ l. object_place l.1) x) ≡ false) × NoMembers (option_map (λ l. object_place l.1) x)
  still None h = absurd (cc)
  still (Some l) h =
      let scalar = both_left (is_some (scalar_value l.1)) (not l.1.volatile) h in
      (scalar_still l.1 (out-Shape l.1.shape) refl scalar (not_true l.1.volatile (both_right (is_some (scalar_value l.1)) (not l.1.volatile) h)), λ m. scalar_memberless c _ _ m (out-Shape l.1.shape) scalar)

  local_root : (r : ℕ) (b : Bool) → is_register c.func r ≡ b → IsRootFine (option_map (λ l. object_place l.1) (slice_get c.func.locals r)) (root.Auto c.number c.id r)
  local_root r true e = inr (still (slice_get c.func.locals r) (register_may c.func r e))
  local_root r false e = inl (ap (λ f. is_register_in f r) here.function ∙ e)

  -- what is no object by name
  abbrev IsUnnamed : Option Spot → Type 0
  IsUnnamed None = Unit {0}
  IsUnnamed (Some (spot.Device d)) = Unit {0}
  IsUnnamed (Some (spot.Object o path)) = ⊥
  IsUnnamed (Some (spot.Address a)) = Unit {0}

  unnamed_address : (x : Option Address) → IsUnnamed (option_map spot.Address x)
  unnamed_address None = tt
  unnamed_address (Some a) = tt

  unnamed_in : (bound : Option ℕ) (n : ℤ) (x : Option (Root × List Part)) → IsUnnamed (option_and_then (element_in bound n) x)
  unnamed_in bound n None = tt
  unnamed_in None n (Some o) = tt
  unnamed_in (Some count) n (Some o) = unnamed_address (element_at_address o.0 o.1 n count)

  unnamed_element : (t : Option PlaceType) (s : Option Spot) (v : Option Value) → IsUnnamed (element_at c t s v)
  unnamed_element None s v = tt
  unnamed_element (Some t) None v = tt
  unnamed_element (Some t) (Some s) v = by_number (integer v)
    where
      by_number : (n : Option ℤ) → IsUnnamed (option_and_then (λ n. element c.program n t s) n)
      by_number None = tt
      by_number (Some n) = unnamed_in (bound_of t) n (designated c.program t s)

  member_root : (later : Registers) (m : ℕ) (d : Designation) → IsPlaceFine d → (ms mid : List Mark) (t : Option PlaceType) (s : Option Spot) (o : Root) (path : List Part) → d.ctype ≡ t → Answered (d.leads later) ms → d.leads later ms ≡ Known s mid →
      of_two t s (member c.program m) ≡ Some (spot.Object o path) → IsRootFine (of_one t (member_of c.program.structures m)) o
  member_root later m d h ms mid None s o path e answers known r = absurd (cc)
  member_root later m d h ms mid (Some u) None o path e answers known r = absurd (cc)
  member_root later m d h ms mid (Some u) (Some (spot.Device i)) o path e answers known r = absurd (cc)
  member_root later m d h ms mid (Some u) (Some (spot.Object q way)) o path e answers known r =
      let same : q ≡ o = cc in subst (IsRootFine (of_one (Some u) (member_of c.program.structures m))) same (by (subst (λ t. IsRootFine t q) e (h.roots later ms mid q way answers known)))
    where
      nothing : (t : Option PlaceType) → t ≡ None → (is_seen t ≡ false) × NoMembers t
      nothing t k = (ap is_seen k, λ n. ap (λ t. of_one t (member_of c.program.structures n)) k)

      by : IsRootFine (Some u) q → IsRootFine (of_one (Some u) (member_of c.program.structures m)) q
      by (inl k) = inl k
      by (inr k) = inr (nothing (of_one (Some u) (member_of c.program.structures m)) (k.1 m))
  member_root later m d h ms mid (Some u) (Some (spot.Address a)) o path e answers known r =
      let x = mapped (λ (o : Root × List Part). spot.Object o.0 (o.1 ++ part.Member m ∷ [])) (named_by c.program u a) (spot.Object o path) r in
      let same : x.0.0 ≡ o = let f = x.2 in cc in
      inl (subst (IsInMemory c.program) same (spot_memory u a x.0 (h.addresses later ms mid a u e answers known) x.1))

  member_by : (later : Registers) (m : ℕ) (d : Designation) → IsPlaceFine d → (ms rest : List Mark) (o : Root) (path : List Part) → Answered (d.leads later) ms → (q : Progress (Option Spot)) → d.leads later ms ≡ q →
      and_then q (λ s. known (of_two d.ctype s (member c.program m))) ≡ Known (Some (spot.Object o path)) rest → IsRootFine (of_one d.ctype (member_of c.program.structures m)) o
  member_by later m d h ms rest o path answers (Known s mid) k e = let r : of_two d.ctype s (member c.program m) ≡ Some (spot.Object o path) = cc in member_root later m d h ms mid d.ctype s o path refl answers k r
  member_by later m d h ms rest o path answers (Waits action) k e = absurd (cc)
  member_by later m d h ms rest o path answers (Traps mid) k e = absurd (cc)

  led_level : (x : one.Place-F Expr PlaceOf) → PlaceParts At PlaceAt x → IsLed (opened_place x)
  led_level (one.Local r) h = record {
    fine = λ later. fine_known c.program openings (Some (spot.Object (root.Auto c.number c.id r) []));
    roots = λ later ms rest o path answers e. subst (IsRootFine (option_map (λ l. object_place l.1) (slice_get c.func.locals r))) (same_root _ o path (root.Auto c.number c.id r) [] ms rest refl e) (local_root r (is_register c.func r) refl);
  }
  led_level (one.Static i) h = record {
    fine = λ later. fine_known c.program openings (Some (spot.Object (root.Static i) []));
    roots = λ later ms rest o path answers e. subst (IsRootFine (opened_place (one.Static i)).ctype) (same_root _ o path (root.Static i) [] ms rest refl e) (inl tt);
  }
  led_level (one.Device d) h = record { fine = λ later. fine_known c.program openings (Some (spot.Device d)); roots = λ later ms rest o path answers e. absurd (cc) }
  led_level (one.Element a i) h = record {
    fine = λ later. fine_bind c.program openings (place_and_value (designation c a) (meaning c i) later) (λ p. known (element_at c (designation c a).ctype p.0 p.1)) (place_fine (designation c a) (meaning c i) h.0 h.1 later)
        (λ p. fine_known c.program openings (element_at c (designation c a).ctype p.0 p.1));
    roots = λ later ms rest o path answers e. absurd (gives_made IsUnnamed (place_and_value (designation c a) (meaning c i) later) (λ p. element_at c (designation c a).ctype p.0 p.1) (λ p. unnamed_element (designation c a).ctype p.0 p.1) ms rest (Some (spot.Object o path)) e);
  }
  led_level (one.Member a m) h = record {
    fine = λ later. fine_bind c.program openings ((designation c a).leads later) (λ s. known (of_two (designation c a).ctype s (member c.program m))) (h.fine later) (λ s. fine_known c.program openings (of_two (designation c a).ctype s (member c.program m)));
    roots = λ later ms rest o path answers e.
        member_by later m (designation c a) h ms rest o path (left_answers (IsMarkOf c.program openings) ((designation c a).leads later) (λ s. known (of_two (designation c a).ctype s (member c.program m))) ms answers) ((designation c a).leads later ms) refl e;
  }
  led_level (one.Deref e) h = record {
    fine = λ later. one_fine (λ v. option_map spot.Address (address_in v)) (meaning c e) h later;
    roots = λ later ms rest o path answers k. absurd (gives_made IsUnnamed ((meaning c e).next later) (λ v. option_map spot.Address (address_in v)) (λ v. unnamed_address (address_in v)) ms rest (Some (spot.Object o path)) k);
  }

  abbrev Claim : Expr → Type 0
  Claim e = IfTaken c.func At PlaceAt e

  abbrev PlaceClaim : PlaceOf → Type 0
  PlaceClaim a = PlaceIfTaken c.func At PlaceAt a

  made : (x : one.Expr-F Expr PlaceOf) → Parts Claim PlaceClaim x → Claim (roll-Expr x)
  made x h k = subst IsMeaningFine (sym (level c x)) (level_fine x (parts_at c.func At PlaceAt x h (rolled_takes c.func At PlaceAt x k)))

  place_made : (x : one.Place-F Expr PlaceOf) → PlaceParts Claim PlaceClaim x → PlaceClaim (roll-Place x)
  place_made x h k =
      let l = subst IsLed (sym (place_level c x)) (led_level x (place_parts_at c.func At PlaceAt x h (rolled_place_takes c.func At PlaceAt x k))) in
      record {
        fine = l.fine;
        roots = l.roots;
        addresses = λ later ms rest a u e answers known. ((designation_typed c openings here (roll-Place x) k u e later).known ms rest (Some (spot.Address a)) answers known).1.0;
      }

  pub meaning_fine : (e : Expr) → TakesAddressesOf c.func e → IsMeaningFine (meaning c e)
  meaning_fine = by_expr Claim PlaceClaim made place_made
