-- Expressions that take the address of no object that fails the test give and ask for no address in one.
use Rattle.std.proofs.Common.{◌≡◌, ◌∙◌, ◌∷◌, ◌||◌, ℕ, Bool, true, false, not, List, [], map, Option, Some, None, option_map, refl, sym, subst}
use Rattle.std.specs.Prelude.{pos}
use Rattle.std.proofs.lemmas.Bool.{or_parts}
use Rattle.cc_program.specs.CcNum.declared.int_type.IntType.{IntType}
use Rattle.cc_program.specs.CcNum.declared.op.BinOp.{BinOp}
use Rattle.cc_program.specs.declared.expr.Expr.{Expr, roll-Expr, map-Expr, fold-roll-Expr}
use Rattle.cc_program.specs.declared.expr.Expr.TheOpen as one
use Rattle.cc_program.specs.declared.expr.Intr.{Intr}
use Rattle.cc_program.specs.declared.expr.Intr.TheVariants as intr
use Rattle.cc_program.specs.declared.expr.Place.{Place as PlaceOf, roll-Place, map-Place, fold-roll-Place}
use Rattle.cc_program.specs.declared.value.Address.TheVariants as address
use Rattle.cc_program.specs.declared.value.Value.{Value}
use Rattle.cc_program.specs.declared.value.Value.TheVariants.{Int, Place}
use Rattle.cc_program.specs.declared.value.Root.TheVariants as root
use Rattle.cc_program.proofs.Each.{Each}
use Rattle.cc_program.proofs.ExprInduction.{Parts, PlaceParts, by_expr}
use Rattle.cc_states.specs.CcSyntax.Effects.{Registers, Effects, also}
use Rattle.cc_states.specs.CcSyntax.Expressions.{of_two}
use Rattle.cc_states.specs.CcValues.Values.{address_in, unary, binary, conversion, truth, of_truth, movement, gap, comparison}
use Rattle.cc_states.specs.CcEval.declared.action.Action.TheVariants.{Read, Write, Choose, Call, Flag, Save}
use Rattle.cc_states.specs.CcEval.declared.spots.Spot.{Spot}
use Rattle.cc_states.specs.CcEval.declared.spots.Spot.TheVariants as spot
use Rattle.cc_states.specs.CcEval.Context.{Context, reached, member, is_seen}
use Rattle.cc_states.specs.CcEval.Eval.{Meaning, Designation, manner, from_one, both_values, from_two, place_and_value, branch, outcome, arms, choice, as_condition, assigned_by, each, all_good, called_with, called, intrinsic, sequence, changed, sum_or_difference, one_more_type, address_of, value_type, fetched, stored, assigned, changed_with, changed_by, stepped_back, stepped_with, stepped_by_one, next_step, expr_meaning, element_at, leads_to, meaning, designation}
use Rattle.cc_states.specs.CcEval.Progress.{Get, known, ask, bind, needs, given, chosen}
use Rattle.cc_states.proofs.CcEval.Links.{level, place_level}
use Rattle.cc_rewrite_addresses.specs.Holds.{Every, MayIn}
use Rattle.cc_rewrite_addresses.specs.Takes.{InPlace, any_of, expr_step, place_step, takes_other, in_place}
use Rattle.cc_rewrite_addresses.proofs.Operators.{unary_in, binary_in, conversion_in, of_truth_in, movement_in, gap_in, comparison_in, changed_in, address_of_value, good_in}
use Rattle.cc_rewrite_addresses.proofs.Safe.{Safe, safe_known, safe_trap, safe_ask, safe_bind, safe_needs, given_in}
use Rattle.cc_rewrite_addresses.proofs.Spots.{PlacedIn, SpotIn, element_in_spot, member_in_spot, address_of_in, pointed_in}

module _ (test : ℕ → Bool) (c : Context) where
  abbrev May : Option Value → Type 0
  May v = MayIn test v

  abbrev SafeValue : Get (Option Value) → Type 0
  SafeValue g = Safe test May g

  abbrev IsSafe : Meaning → Type 0
  IsSafe m = (later : Registers) → SafeValue (m.next later)

  abbrev IsSafePlace : Bool → Designation → Type 0
  IsSafePlace own a = (later : Registers) → Safe test (SpotIn test own) (a.leads later)

  -- ---- operands

  one_safe : {A : Type 0} (K : A → Type 0) (f : Option Value → A) → ((v : Option Value) → May v → K (f v)) → (m : Meaning) → IsSafe m → (later : Registers) → Safe test K (from_one f m later)
  one_safe K f k m h later = safe_bind test May K (m.next later) (λ v. known (f v)) (h later) (λ v i. safe_known test K (f v) (k v i))

  abbrev Both : Option Value × Option Value → Type 0
  Both p = May p.0 × May p.1

  two_safe : (f : Option Value → Option Value → Option Value) → ((v w : Option Value) → May v → May w → May (f v w)) → (a b : Meaning) → IsSafe a → IsSafe b → (later : Registers) → SafeValue (from_two f a b later)
  two_safe f k a b h i later =
      safe_bind test Both May (both_values a b later) (λ p. known (f p.0 p.1))
      (safe_bind test May Both (a.next (also b.effects.assigned later)) _ (h (also b.effects.assigned later))
      (λ v x. safe_bind test May Both (b.next later) (λ w. known (v, w)) (i later) (λ w y. safe_known test Both (v, w) (x, y))))
      (λ p q. safe_known test May (f p.0 p.1) (k p.0 p.1 q.0 q.1))

  abbrev PlaceAndValue : Bool → Option Spot × Option Value → Type 0
  PlaceAndValue own p = SpotIn test own p.0 × May p.1

  pair_safe : (own : Bool) (a : Designation) (m : Meaning) → IsSafePlace own a → IsSafe m → (later : Registers) → Safe test (PlaceAndValue own) (place_and_value a m later)
  pair_safe own a m h i later =
      safe_bind test (SpotIn test own) (PlaceAndValue own) (a.leads (also m.effects.assigned later)) _ (h (also m.effects.assigned later))
      (λ s x. safe_bind test May (PlaceAndValue own) (m.next later) (λ v. known (s, v)) (i later) (λ v y. safe_known test (PlaceAndValue own) (s, v) (x, y)))

  -- ---- accesses

  fetched_safe : (a : Designation) (later : Registers) (s : Option Spot) → SafeValue (fetched c a later s)
  fetched_safe a later s = safe_needs test May (reached c.program a.ctype s) (λ cell. ask (Read cell (manner a later)) given) (λ cell e. safe_ask test May (Read cell (manner a later)) given tt (given_in test))

  stored_safe : (a : Designation) (s : Option Spot) (v w : Option Value) → May v → May w → SafeValue (stored c a s v w)
  stored_safe a s v w h k =
      safe_needs test May (reached c.program a.ctype s) (λ cell. needs v (λ x. ask (Write cell (is_seen a.ctype) x) (λ m. w)))
      (λ cell e. safe_needs test May v (λ x. ask (Write cell (is_seen a.ctype) x) (λ m. w)) (λ x i. safe_ask test May (Write cell (is_seen a.ctype) x) (λ m. w) (subst May i h) (λ m j. k)))

  changed_safe : (own : Bool) (a : Designation) (o : BinOp) (t : IntType) (m : Meaning) → IsSafePlace own a → IsSafe m → (later : Registers) → SafeValue (changed_by c a o t m later)
  changed_safe own a o t m h i later =
      safe_bind test (PlaceAndValue own) May (place_and_value a m later) (changed_with c a o t later) (pair_safe own a m h i later)
      (λ p q. safe_bind test May May (fetched c a later p.0) _ (fetched_safe a later p.0)
      (λ v x. let k = changed_in test c.program.target o t (value_type c a) v p.1 x in stored_safe a p.0 (changed c.program.target o t (value_type c a) v p.1) (changed c.program.target o t (value_type c a) v p.1) k k))

  stepped_safe : (own : Bool) (a : Designation) (down : Bool) → IsSafePlace own a → (later : Registers) → SafeValue (stepped_by_one c a down later)
  stepped_safe own a down h later =
      safe_bind test (SpotIn test own) May (a.leads later) (stepped_with c a down later) (h later)
      (λ s x. safe_bind test May May (fetched c a later s) (stepped_back c a down s) (fetched_safe a later s)
      (λ v y. stored_safe a s (changed c.program.target (sum_or_difference down) (one_more_type c.program.target (value_type c a)) (value_type c a) v (Some (Int (pos 1)))) v (changed_in test c.program.target (sum_or_difference down) (one_more_type c.program.target (value_type c a)) (value_type c a) v (Some (Int (pos 1))) y) y))

  -- ---- choices

  abbrev Any : Option Bool → Type 0
  Any b = Unit {0}

  branch_safe : (pure : Bool) (v : Option Value) → Safe test Any (branch pure v)
  branch_safe true v = safe_ask test Any (Choose (truth v)) chosen tt (λ m h. tt)
  branch_safe false v = safe_needs test Any (truth v) (λ b. ask (Choose (Some b)) chosen) (λ b e. safe_ask test Any (Choose (Some b)) chosen tt (λ m h. tt))

  outcome_safe : (pure : Bool) (v : Option Value) → May v → SafeValue (outcome pure v)
  outcome_safe true v h = safe_known test May v h
  outcome_safe false v h = safe_needs test May v (λ w. known (Some w)) (λ w e. safe_known test May (Some w) (subst May e h))

  arms_safe : (these those : Get (Option Value)) → SafeValue these → SafeValue those → (b : Option Bool) → SafeValue (arms these those b)
  arms_safe these those h k None = safe_known test May None tt
  arms_safe these those h k (Some true) = h
  arms_safe these those h k (Some false) = k

  choice_safe : (pure : Bool) (x these those : Get (Option Value)) → SafeValue x → SafeValue these → SafeValue those → SafeValue (choice pure x these those)
  choice_safe pure x these those h k l =
      safe_bind test May May x _ h
      (λ v i. safe_bind test Any May (branch pure v) _ (branch_safe pure v)
      (λ b j. arms_safe (bind these (outcome pure)) (bind those (outcome pure)) (safe_bind test May May these (outcome pure) k (outcome_safe pure)) (safe_bind test May May those (outcome pure) l (outcome_safe pure)) b))

  condition_safe : (m : Meaning) → IsSafe m → (later : Registers) → SafeValue (as_condition m later)
  condition_safe m h later = safe_bind test May May (m.next later) (λ v. known (of_truth (truth v))) (h later) (λ v i. safe_known test May (of_truth (truth v)) (of_truth_in test (truth v)))

  -- ---- calls

  abbrev AreSafe : List Meaning → Type 0
  AreSafe ms = Each IsSafe ms

  each_safe : (ms : List Meaning) → AreSafe ms → (later : Registers) → Safe test (Every May) (each ms later)
  each_safe [] h later = safe_known test (Every May) [] tt
  each_safe (m ∷ ms) h later =
      safe_bind test May (Every May) (m.next (also (assigned_by ms) later)) _ (h.0 (also (assigned_by ms) later))
      (λ v x. safe_bind test (Every May) (Every May) (each ms later) (λ vs. known (v ∷ vs)) (each_safe ms h.1 later) (λ vs y. safe_known test (Every May) (v ∷ vs) (x, y)))

  called_safe : (m : Meaning) (ms : List Meaning) → IsSafe m → AreSafe ms → (later : Registers) → SafeValue (called m ms later)
  called_safe m ms h k later =
      safe_bind test May May (m.next (also (assigned_by ms) later)) (called_with ms later) (h (also (assigned_by ms) later))
      (λ v x. safe_bind test (Every May) May (each ms later) _ (each_safe ms k later)
      (λ vs y. safe_needs test May (address_in v) _
      (λ callee e. safe_needs test May (all_good vs) _
      (λ good i. safe_ask test May (Call callee good) given (address_of_value test v callee e x, good_in test vs good y i) (given_in test)))))

  bare_safe : (i : Intr) (later : Registers) → SafeValue (intrinsic i None later)
  bare_safe intr.Off later = safe_ask test May (Flag false) given tt (given_in test)
  bare_safe intr.On later = safe_ask test May (Flag true) given tt (given_in test)
  bare_safe intr.Save later = safe_ask test May Save given tt (given_in test)
  bare_safe intr.Restore later = safe_trap test May

  intrinsic_safe : (i : Intr) (m : Meaning) → IsSafe m → (later : Registers) → SafeValue (intrinsic i (Some m) later)
  intrinsic_safe intr.Off m h later = safe_ask test May (Flag false) given tt (given_in test)
  intrinsic_safe intr.On m h later = safe_ask test May (Flag true) given tt (given_in test)
  intrinsic_safe intr.Save m h later = safe_ask test May Save given tt (given_in test)
  intrinsic_safe intr.Restore m h later =
      safe_bind test May May (m.next later) _ (h later) (λ v x. safe_needs test May (truth v) _ (λ b e. safe_ask test May (Flag b) given tt (given_in test)))

  sequence_safe : (a b : Meaning) → IsSafe a → IsSafe b → (later : Registers) → SafeValue (sequence a b later)
  sequence_safe a b h k later =
      safe_bind test May May (a.next (also b.effects.assigned later)) _ (h (also b.effects.assigned later)) (λ v x. safe_needs test May v _ (λ w e. k later))

  -- ---- expressions and places, level by level

  abbrev At : Expr → Type 0
  At e = takes_other test e ≡ false → IsSafe (meaning c e)

  abbrev PlaceAt : PlaceOf → Type 0
  PlaceAt a = (in_place test a).taken ≡ false → IsSafePlace (in_place test a).own (designation c a)

  abbrev parts : one.Expr-F Expr PlaceOf → one.Expr-F Bool InPlace
  parts x = map-Expr Expr PlaceOf Bool InPlace (takes_other test) (in_place test) x

  abbrev place_parts : one.Place-F Expr PlaceOf → one.Place-F Bool InPlace
  place_parts x = map-Place Expr PlaceOf Bool InPlace (takes_other test) (in_place test) x

  named : (x : one.Expr-F Expr PlaceOf) → takes_other test (roll-Expr x) ≡ expr_step (parts x)
  unfolding takes_other in_place
  named x = fold-roll-Expr Bool InPlace expr_step (place_step test) x

  named_place : (x : one.Place-F Expr PlaceOf) → in_place test (roll-Place x) ≡ place_step test (place_parts x)
  unfolding takes_other in_place
  named_place x = fold-roll-Place Bool InPlace expr_step (place_step test) x

  args_safe : (args : List Expr) → Each At args → any_of (map (takes_other test) args) ≡ false → AreSafe (map (meaning c) args)
  args_safe [] h k = tt
  args_safe (e ∷ args) h k = let q = or_parts (takes_other test e) (any_of (map (takes_other test) args)) k in (h.0 q.0, args_safe args h.1 q.1)

  abbrev of_parts : one.Expr-F Expr PlaceOf → one.Expr-F Meaning Designation
  of_parts x = map-Expr Expr PlaceOf Meaning Designation (meaning c) (designation c) x

  abbrev place_of_parts : one.Place-F Expr PlaceOf → one.Place-F Meaning Designation
  place_of_parts x = map-Place Expr PlaceOf Meaning Designation (meaning c) (designation c) x

  own_spot : (own : Bool) (s : Option Spot) → own ≡ false → SpotIn test own s → PlacedIn test s
  own_spot true s e h = absurd (cc)
  own_spot false s e h = h

  address_safe : (own : Bool) (a : Designation) → own ≡ false → IsSafePlace own a → (later : Registers) → SafeValue (bind (a.leads later) (λ s. known (address_of s)))
  address_safe own a e h later = safe_bind test (SpotIn test own) May (a.leads later) (λ s. known (address_of s)) (h later) (λ s x. safe_known test May (address_of s) (address_of_in test s (own_spot own s e x)))

  load_safe : (own : Bool) (a : Designation) → IsSafePlace own a → (later : Registers) → SafeValue (bind (a.leads later) (fetched c a later))
  load_safe own a h later = safe_bind test (SpotIn test own) May (a.leads later) (fetched c a later) (h later) (λ s x. fetched_safe a later s)

  assigned_safe : (own : Bool) (a : Designation) (m : Meaning) → IsSafePlace own a → IsSafe m → (later : Registers) → SafeValue (assigned c a m later)
  assigned_safe own a m h i later = safe_bind test (PlaceAndValue own) May (place_and_value a m later) (λ p. stored c a p.0 p.1 p.1) (pair_safe own a m h i later) (λ p q. stored_safe a p.0 p.1 p.1 q.1 q.1)

  level_safe : (whole : Effects) (x : one.Expr-F Expr PlaceOf) → Parts At PlaceAt x → expr_step (parts x) ≡ false → (later : Registers) → SafeValue (next_step c whole (of_parts x) later)
  level_safe whole (one.Const n t) h k later = safe_known test May (Some (Int n)) tt
  level_safe whole (one.Null t) h k later = safe_known test May (Some (Place address.Null)) refl
  level_safe whole (one.FuncAddr f) h k later = safe_known test May (Some (Place (address.Func f))) refl
  level_safe whole (one.Load a) h k later = load_safe (in_place test a).own (designation c a) (h k) later
  level_safe whole (one.AddrOf a) h k later = let q = or_parts (in_place test a).own (in_place test a).taken k in address_safe (in_place test a).own (designation c a) q.0 (h q.1) later
  level_safe whole (one.Un o t a) h k later = one_safe May (unary o t c.program.target) (λ v i. unary_in test o t c.program.target v) (meaning c a) (h k) later
  level_safe whole (one.Bin o t a b) h k later =
      let q = or_parts (takes_other test a) (takes_other test b) k in two_safe (binary o t c.program.target) (λ v w i j. binary_in test o t c.program.target v w) (meaning c a) (meaning c b) (h.0 q.0) (h.1 q.1) later
  level_safe whole (one.Conv t a) h k later = one_safe May (conversion t c.program.target) (λ v i. conversion_in test t c.program.target v) (meaning c a) (h k) later
  level_safe whole (one.Qualify t a) h k later = one_safe May (λ v. v) (λ v i. i) (meaning c a) (h k) later
  level_safe whole (one.Move a b back) h k later =
      let q = or_parts (takes_other test a) (takes_other test b) k in two_safe (movement back) (λ v w i j. movement_in test back v w i) (meaning c a) (meaning c b) (h.0 q.0) (h.1 q.1) later
  level_safe whole (one.Gap a b) h k later =
      let q = or_parts (takes_other test a) (takes_other test b) k in two_safe (gap c.program.target) (λ v w i j. gap_in test c.program.target v w) (meaning c a) (meaning c b) (h.0 q.0) (h.1 q.1) later
  level_safe whole (one.Compare o a b) h k later =
      let q = or_parts (takes_other test a) (takes_other test b) k in two_safe (comparison o) (λ v w i j. comparison_in test o v w) (meaning c a) (meaning c b) (h.0 q.0) (h.1 q.1) later
  level_safe whole (one.Both a b) h k later =
      let q = or_parts (takes_other test a) (takes_other test b) k in
      choice_safe (whole.pure later) ((meaning c a).next (also (meaning c b).effects.assigned later)) (as_condition (meaning c b) later) (known (Some (Int (pos 0)))) (h.0 q.0 (also (meaning c b).effects.assigned later)) (condition_safe (meaning c b) (h.1 q.1) later) (safe_known test May (Some (Int (pos 0))) tt)
  level_safe whole (one.Either a b) h k later =
      let q = or_parts (takes_other test a) (takes_other test b) k in
      choice_safe (whole.pure later) ((meaning c a).next (also (meaning c b).effects.assigned later)) (known (Some (Int (pos 1)))) (as_condition (meaning c b) later) (h.0 q.0 (also (meaning c b).effects.assigned later)) (safe_known test May (Some (Int (pos 1))) tt) (condition_safe (meaning c b) (h.1 q.1) later)
  level_safe whole (one.Choose d a b) h k later =
      let q = or_parts (takes_other test d) (takes_other test a || takes_other test b) k in
      let r = or_parts (takes_other test a) (takes_other test b) q.1 in
      choice_safe (whole.pure later) ((meaning c d).next (also (meaning c a).effects.assigned (also (meaning c b).effects.assigned later))) ((meaning c a).next (also (meaning c b).effects.assigned later)) ((meaning c b).next later) (h.0 q.0 (also (meaning c a).effects.assigned (also (meaning c b).effects.assigned later))) (h.1 r.0 (also (meaning c b).effects.assigned later)) (h.2 r.1 later)
  level_safe whole (one.Assign a e) h k later =
      let q = or_parts (in_place test a).taken (takes_other test e) k in assigned_safe (in_place test a).own (designation c a) (meaning c e) (h.0 q.0) (h.1 q.1) later
  level_safe whole (one.Change a o t e) h k later =
      let q = or_parts (in_place test a).taken (takes_other test e) k in changed_safe (in_place test a).own (designation c a) o t (meaning c e) (h.0 q.0) (h.1 q.1) later
  level_safe whole (one.After a down) h k later = stepped_safe (in_place test a).own (designation c a) down (h k) later
  level_safe whole (one.Call f args) h k later =
      let q = or_parts (takes_other test f) (any_of (map (takes_other test) args)) k in called_safe (meaning c f) (map (meaning c) args) (h.0 q.0) (args_safe args h.1 q.1) later
  level_safe whole (one.Intr i None) h k later = bare_safe i later
  level_safe whole (one.Intr i (Some a)) h k later = intrinsic_safe i (meaning c a) (h k) later
  level_safe whole (one.Seq a b) h k later = let q = or_parts (takes_other test a) (takes_other test b) k in sequence_safe (meaning c a) (meaning c b) (h.0 q.0) (h.1 q.1) later

  expr_made : (x : one.Expr-F Expr PlaceOf) → Parts At PlaceAt x → At (roll-Expr x)
  expr_made x h k = subst IsSafe (sym (level c x)) (level_safe (expr_meaning c (of_parts x)).effects x h (sym (named x) ∙ k))

  root_in : (b : Bool) (i : ℕ) → test i ≡ b → SpotIn test (not b) (Some (spot.Object (root.Static i) []))
  root_in true i e = e
  root_in false i e = tt

  abbrev LevelSafe : one.Place-F Expr PlaceOf → Type 0
  LevelSafe x = (later : Registers) → Safe test (SpotIn test (place_step test (place_parts x)).own) (leads_to c (place_of_parts x) later)

  place_safe : (x : one.Place-F Expr PlaceOf) → PlaceParts At PlaceAt x → (place_step test (place_parts x)).taken ≡ false → LevelSafe x
  place_safe (one.Local l) h k later = safe_known test (SpotIn test false) (Some (spot.Object (root.Auto c.number c.id l) [])) refl
  place_safe (one.Static i) h k later = safe_known test (SpotIn test (not (test i))) (Some (spot.Object (root.Static i) [])) (root_in (test i) i refl)
  place_safe (one.Device d) h k later = safe_known test (SpotIn test false) (Some (spot.Device d)) tt
  place_safe (one.Element a e) h k later =
      let q = or_parts (in_place test a).taken (takes_other test e) k in
      safe_bind test (PlaceAndValue (in_place test a).own) (SpotIn test (in_place test a).own) (place_and_value (designation c a) (meaning c e) later) _ (pair_safe (in_place test a).own (designation c a) (meaning c e) (h.0 q.0) (h.1 q.1) later)
      (λ p y. safe_known test (SpotIn test (in_place test a).own) (element_at c (designation c a).ctype p.0 p.1) (element_in_spot test (in_place test a).own c (designation c a).ctype p.0 p.1 y.0))
  place_safe (one.Member a m) h k later =
      safe_bind test (SpotIn test (in_place test a).own) (SpotIn test (in_place test a).own) ((designation c a).leads later) _ (h k later)
      (λ s y. safe_known test (SpotIn test (in_place test a).own) (of_two (designation c a).ctype s (member c.program m)) (member_in_spot test (in_place test a).own c.program m (designation c a).ctype s y))
  place_safe (one.Deref e) h k later = one_safe (SpotIn test false) (λ v. option_map spot.Address (address_in v)) (λ v i. pointed_in test v i) (meaning c e) (h k) later

  abbrev PlaceResult : InPlace → Designation → Type 0
  PlaceResult u d = u.taken ≡ false → IsSafePlace u.own d

  place_made : (x : one.Place-F Expr PlaceOf) → PlaceParts At PlaceAt x → PlaceAt (roll-Place x)
  place_made x h =
      subst (λ u. PlaceResult u (designation c (roll-Place x))) (sym (named_place x))
      (subst (λ d. PlaceResult (place_step test (place_parts x)) d) (sym (place_level c x)) (place_safe x h))

  pub expression_safe : (e : Expr) → At e
  expression_safe e = by_expr At PlaceAt expr_made place_made e
