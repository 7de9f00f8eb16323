-- Where a test passes, what a register holds stays in what the test leaves of each set that has it.
use Rattle.std.proofs.Common.{arith, ◌≡◌, ◌⊎◌, inl, inr, ℕ, ℤ, Bool, true, false, true≢false, not, int_lt, int_le, List, [], ◌∷◌, Contains, Option, Some, None, refl, ap, sym, ◌∙◌, subst}
use Rattle.std.specs.Prelude.{option_map, if◌then◌else◌, ◌↔◌, IfSome}
use Rattle.std.specs.Ordering.{int_eq}
use Rattle.std.proofs.lemmas.Bool.Decides.{Decides-int_eq}
use Rattle.std.proofs.lemmas.Int.{ints}
use Rattle.std.proofs.lemmas.List.Elements.{Contains-append_right}
use Rattle.std.proofs.lemmas.Option.{same_Some}
use Rattle.cc_state_values_sound.proofs.CcEval.Links.{register_linked}
use Rattle.cc_state_values_sound.proofs.CcEval.Opened.{meaning_at}
use Rattle.cc_state_values_sound.proofs.CcEval.Works.{works_known, works_trap, works_ask, works_bind}
use Rattle.cc_state_values_sound.specs.CcEval.Context.{Context, cell_at}
use Rattle.cc_state_values_sound.specs.CcEval.declared.action.Action.{Action}
use Rattle.cc_state_values_sound.specs.CcEval.declared.action.Action.TheVariants as action
use Rattle.cc_state_values_sound.specs.CcEval.declared.action.Manner.{Manner}
use Rattle.cc_state_values_sound.specs.CcEval.declared.mark.Mark.{Mark}
use Rattle.cc_state_values_sound.specs.CcEval.declared.spots.Spot.{Spot}
use Rattle.cc_state_values_sound.specs.CcEval.declared.spots.Spot.TheVariants as spot
use Rattle.cc_state_values_sound.specs.CcEval.Eval.{Meaning, meaning, designation, opened, manner, fetched, both_values, from_two}
use Rattle.cc_state_values_sound.specs.CcEval.Marks.{Works}
use Rattle.cc_state_values_sound.specs.CcEval.Progress.{Get, known, ask, bind, needs, given}
use Rattle.cc_state_values_sound.proofs.CcLattice.IntValues.{passing as comparison_is}
use Rattle.cc_state_values_sound.specs.CcLattice.Domains.{is_comparison, passes}
use Rattle.cc_program.proofs.CcNum.Conversions.{converted-same}
use Rattle.cc_program.specs.CcNum.declared.int_type.IntType.{IntType}
use Rattle.cc_program.specs.CcNum.declared.op.BinOp.{BinOp}
use Rattle.cc_program.specs.CcNum.declared.op.BinOp.TheVariants as op
use Rattle.cc_program.specs.CcNum.declared.target.Target.{Target}
use Rattle.cc_program.specs.CcNum.Integers.{IsValueOf, converted}
use Rattle.cc_program.specs.CcNum.Results.{one_if, result_of}
use Rattle.cc_state_values_sound.specs.CcPlaces.Abstract.{HasValue}
use Rattle.cc_state_values_sound.specs.CcPlaces.declared.abs.Abs.{Abs}
use Rattle.cc_state_values_sound.specs.CcPlaces.declared.abs.Abs.TheVariants as abs
use Rattle.cc_program.specs.declared.expr.Expr.{Expr, out-Expr}
use Rattle.cc_program.specs.declared.expr.Expr.TheOpen as one
use Rattle.cc_program.specs.declared.expr.Place.{Place as PlaceOf}
use Rattle.cc_program.specs.declared.value.Address.{Address}
use Rattle.cc_program.specs.declared.value.Root.TheVariants as root
use Rattle.cc_program.specs.declared.value.Value.{Value}
use Rattle.cc_program.specs.declared.value.Value.TheVariants.{Int, Place}
use Rattle.cc_proof_covers.proofs.Pure.{register_leads}
use Rattle.cc_rules.specs.CcRulesFlows.Tests.{Test, Passes, turned, passing, with_member, IsCutAs, Cut, Uncut, IsCutBy, ByNone, ByFirst, IsCut, ByComparison, ByLabel, ByLabels, IsLeft, OfMembers, OfRange, OfOther, OfAddresses}
use Rattle.cc_state_values_sound.specs.CcStateOperators.Domains.{Domain}
use Rattle.cc_state_values_sound.specs.CcStateValues.Values.{IsVal}
use Rattle.cc_state_values_sound.specs.Steps.{MayGive, own_cell}
use Rattle.cc_state_values_sound.specs.CcSyntax.Effects.{Registers, also, place_effects_of}
use Rattle.cc_state_values_sound.specs.CcSyntax.Expressions.{of_two}
use Rattle.cc_state_values_sound.specs.CcSyntax.Values.{PlaceType}
use Rattle.cc_state_values_sound.specs.CcValues.Values.{takes_both, binary_result, binary, conversion, is_true}

-- what the laws of a domain say of what tests keep
pub record KeepsMembers {I : Type 0} (d : Domain I) : Type 0 where
  pub keep_has : (o : BinOp) (a b r : I) → is_comparison o ≡ true → d.keep o a b r → (v w : ℤ) → d.has a v → d.has b w → passes o v w ≡ true → d.has r v
  pub members_all : (x : I) (ms : List ℤ) → d.members x ≡ Some ms → (v : ℤ) → d.has x v → Contains ms v

pub members_kept : {I : Type 0} (d : Domain I) → ((o : BinOp) (a b r : I) → is_comparison o ≡ true → d.keep o a b r → (v w : ℤ) → d.has a v → d.has b w → passes o v w ≡ true → d.has r v) →
    ((x : I) → IfSome (d.members x) (λ vs. (v : ℤ) → Contains vs v ↔ d.has x v)) → KeepsMembers d
members_kept d keep members = record {
  keep_has = keep;
  members_all = λ x ms e v h. (subst (λ (o : Option (List ℤ)). IfSome o (λ vs. (v : ℤ) → Contains vs v ↔ d.has x v)) e (members x) v).1 h;
}

-- ---- comparisons

not_less : (a b : ℤ) → int_lt a b ≡ false → int_le b a ≡ true
not_less a b h = grind (arith, ints, h)

not_most : (a b : ℤ) → int_le a b ≡ false → int_lt b a ≡ true
not_most a b h = grind (arith, ints, h)

not_not : (b : Bool) → not b ≡ false → b ≡ true
not_not true h = refl
not_not false h = absurd (true≢false h)

not_false : (b : Bool) → b ≡ false → not b ≡ true
not_false b h = ap not h

equal_back : (a b : ℤ) → int_eq a b ≡ true → int_eq b a ≡ true
equal_back a b h = (Decides-int_eq b a).1 (sym ((Decides-int_eq a b).0 h))

same_eq : (a b : ℤ) (x y : Bool) → int_eq a b ≡ x → int_eq b a ≡ y → x ≡ y
same_eq a b true y h k = sym (sym k ∙ equal_back a b h)
same_eq a b false true h k = absurd (true≢false (sym (equal_back b a k) ∙ h))
same_eq a b false false h k = refl

equal_same : (a b : ℤ) → int_eq a b ≡ int_eq b a
equal_same a b = same_eq a b (int_eq a b) (int_eq b a) refl refl

passing_compares : (b : Bool) (o : BinOp) → is_comparison o ≡ true → is_comparison (passing b o) ≡ true
passing_compares true o h = h
passing_compares false op.Lt h = refl
passing_compares false op.Le h = refl
passing_compares false op.Gt h = refl
passing_compares false op.Ge h = refl
passing_compares false op.Eq h = refl
passing_compares false op.Ne h = refl
passing_compares false _ h = absurd (cc)

-- where a comparison gives this truth
passes_as : (b : Bool) (o : BinOp) (v w : ℤ) → is_comparison o ≡ true → passes o v w ≡ b → passes (passing b o) v w ≡ true
passes_as true o v w h e = e
passes_as false op.Lt v w h e = not_less v w e
passes_as false op.Le v w h e = not_most v w e
passes_as false op.Gt v w h e = not_less w v e
passes_as false op.Ge v w h e = not_most w v e
passes_as false op.Eq v w h e = not_false (int_eq v w) e
passes_as false op.Ne v w h e = not_not (int_eq v w) e
passes_as false _ v w h e = absurd (cc)

turned_compares : (o : BinOp) → is_comparison o ≡ true → is_comparison (turned o) ≡ true
turned_compares op.Lt h = refl
turned_compares op.Le h = refl
turned_compares op.Gt h = refl
turned_compares op.Ge h = refl
turned_compares op.Eq h = refl
turned_compares op.Ne h = refl
turned_compares _ h = absurd (cc)

turned_passes : (o : BinOp) (v w : ℤ) → is_comparison o ≡ true → passes (turned o) v w ≡ passes o w v
turned_passes op.Lt v w h = refl
turned_passes op.Le v w h = refl
turned_passes op.Gt v w h = refl
turned_passes op.Ge v w h = refl
turned_passes op.Eq v w h = equal_same v w
turned_passes op.Ne v w h = ap not (equal_same v w)
turned_passes _ v w h = absurd (cc)

one_truth : (b : Bool) → is_true (Int (one_if b)) ≡ b
one_truth true = refl
one_truth false = refl

if_taken : (b : Bool) (o : Option ℤ) (z : ℤ) → (if b then o else None) ≡ Some z → o ≡ Some z
if_taken true o z e = e
if_taken false o z e = absurd (cc)

-- what a comparison of integers gives
compared_by : (o : BinOp) (t : IntType) (target : Target) (n j : ℤ) (u : Value) → is_comparison o ≡ true → (r : Option ℤ) → binary_result o t target n j ≡ r → option_map Int r ≡ Some u → is_true u ≡ passes o n j
compared_by o t target n j u h None e k = absurd (cc)
compared_by o t target n j u h (Some z) e k =
    let result = if_taken (takes_both o t target n j) (result_of o n j t target) z e in
    let is : z ≡ one_if (passes o n j) = same_Some z (one_if (passes o n j)) (sym result ∙ comparison_is o n j t target h) in
    ap is_true (sym (same_Some (Int z) u k) ∙ ap Int is) ∙ one_truth (passes o n j)

-- ---- what is worked

abbrev pub AnyStep : Action → Type 0
AnyStep asked = Unit {0}

-- this value, where it is good
abbrev IsIt : Value → Option Value → Type 0
IsIt x v = (u : Value) → v ≡ Some u → u ≡ x

int_same : (n m : ℤ) → Int n ≡ Int m → n ≡ m
int_same n m e = cc

ints_same : {I : Type 0} (a b : I) → abs.Ints a ≡ abs.Ints b → a ≡ b
ints_same a b h = cc

works_two : (IsMark : Action → Mark → Type 0) (P Q R : Option Value → Type 0) (f : Option Value → Option Value → Option Value) (a b : Meaning) (later : Registers) → ((l : Registers) → Works IsMark AnyStep P (a.next l)) →
    ((l : Registers) → Works IsMark AnyStep Q (b.next l)) → ((v w : Option Value) → P v → Q w → R (f v w)) → Works IsMark AnyStep R (from_two f a b later)
works_two IsMark P Q R f a b later h k l =
    works_bind IsMark AnyStep Both R (both_values a b later) (λ p. known (f p.0 p.1))
    (works_bind IsMark AnyStep P Both (a.next (also b.effects.assigned later)) (λ v. bind (b.next later) (λ w. known (v, w))) (h (also b.effects.assigned later))
    (λ v m. works_bind IsMark AnyStep Q Both (b.next later) (λ w. known (v, w)) (k later) (λ w n. works_known IsMark AnyStep Both (v, w) (m, n))))
    (λ p m. works_known IsMark AnyStep R (f p.0 p.1) (l p.0 p.1 m.0 m.1))
  where
    Both : Option Value × Option Value → Type 0
    Both p = P p.0 × Q p.1

module _ {I : Type 0} (d : Domain I) (keeps : KeepsMembers d) (c : Context) (IsMark : Action → Mark → Type 0) (register : ℕ → Option (Abs I)) (r : ℕ) (x : Value)
    (reads : (how : Manner) (m : Mark) → IsMark (action.Read (own_cell c r) how) m → (u : Value) → given m ≡ Some u → u ≡ x) where
  -- ---- a read of the register

  fetch_is : (how : Manner) (u : Option PlaceType) → Works IsMark AnyStep (IsIt x) (needs (of_two u (Some (spot.Object (root.Auto c.number c.id r) [])) (cell_at c.program)) (λ cell. ask (action.Read cell how) given))
  fetch_is how None = works_trap IsMark AnyStep (IsIt x)
  fetch_is how (Some u) = works_ask IsMark AnyStep (IsIt x) (action.Read (own_cell c r) how) given tt (λ m k. reads how m k)

  load_is : (a : PlaceOf) → (place_effects_of c.func a).register ≡ Some r → (later : Registers) → Works IsMark AnyStep (IsIt x) (bind ((designation c a).leads later) (fetched c (designation c a) later))
  load_is a e later =
      let l = register_leads c IsMark a r (register_linked c a ∙ e) in
      subst (λ (g : Get (Option Spot)). Works IsMark AnyStep (IsIt x) (bind g (fetched c (designation c a) later))) (sym (l.1 later)) (fetch_is (manner (designation c a) later) (designation c a).ctype)

  abbrev Reads : Expr → Type 0
  Reads a = (place : PlaceOf) × (out-Expr a ≡ one.Load place) × ((place_effects_of c.func place).register ≡ Some r)

  read_is : (a : Expr) → Reads a → (later : Registers) → Works IsMark AnyStep (IsIt x) ((meaning c a).next later)
  read_is a h later = subst (λ (m : Meaning). Works IsMark AnyStep (IsIt x) (m.next later)) (sym (meaning_at c a (one.Load h.0) h.1)) (load_is h.0 h.2 later)

  -- ---- with a member of a set

  module _ (y : I) (m : ℤ) (is : x ≡ Int m) (member : d.has y m) where
    converted_is : (t : IntType) → IsValueOf t c.program.target m → (v : Option Value) → IsIt x v → IsIt (Int m) (conversion t c.program.target v)
    converted_is t fits None k u e = absurd (cc)
    converted_is t fits (Some (Place a)) k u e = absurd (cc)
    converted_is t fits (Some (Int n)) k u e =
        let same : n ≡ m = int_same n m (k (Int n) refl ∙ is) in
        sym (same_Some (Int (converted n t c.program.target)) u e) ∙ ap (λ (z : ℤ). Int (converted z t c.program.target)) same ∙ ap Int (converted-same t c.program.target m fits)

    plain_is : (v : Option Value) → IsIt x v → IsIt (Int m) v
    plain_is v k u e = k u e ∙ is

    abbrev IsSame : Get (Option Value) → Type 0
    IsSame g = Works IsMark AnyStep (IsIt (Int m)) g

    abbrev Operand : Expr → Type 0
    Operand a =
        Reads a ⊎ ((t : IntType) × (b : Expr) × (out-Expr a ≡ one.Conv t b) × (Reads b × ((n : ℤ) → d.has y n → IsValueOf t c.program.target n)))

    operand_is : (a : Expr) → Operand a → (later : Registers) → IsSame ((meaning c a).next later)
    operand_is a (inl h) later =
        let w = read_is a h later in
        record { known = λ ms rest v answers e. (let k = w.known ms rest v answers e in (k.0, plain_is v k.1)); waits = w.waits }
    operand_is a (inr (t, b, o, w)) later =
        let fits = w.1 m member in
        subst (λ (z : Meaning). IsSame (z.next later)) (sym (meaning_at c a (one.Conv t b) o))
        (works_bind IsMark AnyStep (IsIt x) (IsIt (Int m)) ((meaning c b).next later) (λ v. known (conversion t c.program.target v)) (read_is b w.0 later)
        (λ v k. works_known IsMark AnyStep (IsIt (Int m)) (conversion t c.program.target v) (converted_is t fits v k)))

    -- ---- comparisons

    module _ (o : BinOp) (compares : is_comparison o ≡ true) (w : I) where
      -- the other operand is one of these with which the comparison gives what it gives
      abbrev Gives : (ℤ → Bool) → Option Value → Type 0
      Gives test v = (u : Value) → v ≡ Some u → (j : ℤ) × d.has w j × (is_true u ≡ test j)

      left_gives : (t : IntType) (v k : Option Value) → IsIt (Int m) v → MayGive d.has (abs.Ints w) k → Gives (λ j. passes o m j) (binary o t c.program.target v k)
      left_gives t None k h g u e = absurd (cc)
      left_gives t (Some (Place a)) k h g u e = absurd (cc)
      left_gives t (Some (Int n)) None h g u e = absurd (cc)
      left_gives t (Some (Int n)) (Some (Place a)) h g u e = absurd (cc)
      left_gives t (Some (Int n)) (Some (Int j)) h g u e =
          (j, g, compared_by o t c.program.target n j u compares (binary_result o t c.program.target n j) refl e ∙ ap (λ (z : ℤ). passes o z j) (int_same n m (h (Int n) refl)))

      right_gives : (t : IntType) (v k : Option Value) → MayGive d.has (abs.Ints w) v → IsIt (Int m) k → Gives (λ j. passes o j m) (binary o t c.program.target v k)
      right_gives t None k h g u e = absurd (cc)
      right_gives t (Some (Place a)) k h g u e = absurd (cc)
      right_gives t (Some (Int j)) None h g u e = absurd (cc)
      right_gives t (Some (Int j)) (Some (Place a)) h g u e = absurd (cc)
      right_gives t (Some (Int j)) (Some (Int n)) h g u e =
          (j, h, compared_by o t c.program.target j n u compares (binary_result o t c.program.target j n) refl e ∙ ap (λ (z : ℤ). passes o j z) (int_same n m (g (Int n) refl)))

  -- ---- what is left of a set

  module _ (e : Expr) (test : Test) (result : Value)
      (told : (P : Option Value → Type 0) → ((later : Registers) → Works IsMark AnyStep P ((meaning c e).next later)) → P (Some result))
      (passed : Passes test result)
      (parts : (m : ℤ) → x ≡ Int m → (single : I) → d.has single m → (o : BinOp) (t : IntType) (a b : Expr) → out-Expr e ≡ one.Bin o t a b → (k : Expr) → (k ≡ a) ⊎ (k ≡ b) → (w : Abs I) → IsVal d c.program c.id c.func (with_member d c.program c.id c.func register e test r single) k w → (later : Registers) → Works IsMark AnyStep (MayGive d.has w) ((meaning c k).next later))
      (with_it : (m : ℤ) → x ≡ Int m → (single : I) → d.has single m → (w : Abs I) → IsVal d c.program c.id c.func (with_member d c.program c.id c.func register e test r single) e w → HasValue d.has w result) where
    abbrev Leaves : Abs I → Abs I → Type 0
    Leaves y z = IsLeft d c.program c.id c.func register e test r y z

    abbrev Cuts : I → I → Test → Type 0
    Cuts y z t = IsCut d c.program c.id c.func register e test r y z t

    abbrev CutsAs : I → BinOp → Expr → Expr → I → I → Type 0
    CutsAs y o a k u z = IsCutAs d c.program c.id c.func register e test r y o a k u z

    at_meaning : (P : Option Value → Type 0) (y : one.Expr-F Expr PlaceOf) → out-Expr e ≡ y → ((later : Registers) → Works IsMark AnyStep P ((opened c y).next later)) → P (Some result)
    at_meaning P y i h = told P (λ later. subst (λ (z : Meaning). Works IsMark AnyStep P (z.next later)) (sym (meaning_at c e y i)) (h later))

    module _ (y : I) (m : ℤ) (is : x ≡ Int m) (member : d.has y m) where
      -- by the other operand of a comparison
      module _ (b : Bool) (o : BinOp) (t : IntType) (i k : Expr) (is_bin : out-Expr e ≡ one.Bin o t i k) (compares : is_comparison o ≡ true) (truth : is_true result ≡ b) where
        cut_as_left : (u z : I) → d.has u m → CutsAs y (passing b o) i k u z → d.has z m
        cut_as_left u z h (Uncut none same) = subst (λ (q : I). d.has q m) (sym same) h
        cut_as_left u z h (Cut w operand val kept) =
            let g = at_meaning (Gives y m is member o compares w (λ j. passes o m j)) (one.Bin o t i k) is_bin
            (λ later. works_two IsMark (IsIt (Int m)) (MayGive d.has (abs.Ints w)) (Gives y m is member o compares w (λ j. passes o m j)) (binary o t c.program.target) (meaning c i) (meaning c k) later (operand_is y m is member i operand)
            (parts m is y member o t i k is_bin k (inr refl) (abs.Ints w) val) (left_gives y m is member o compares w t)) result refl in
            keeps.keep_has (passing b o) u w z (passing_compares b o compares) kept m g.0 h g.1 (passes_as b o m g.0 compares (sym g.2 ∙ truth))

        cut_as_right : (u z : I) → d.has u m → CutsAs y (turned (passing b o)) k i u z → d.has z m
        cut_as_right u z h (Uncut none same) = subst (λ (q : I). d.has q m) (sym same) h
        cut_as_right u z h (Cut w operand val kept) =
            let g = at_meaning (Gives y m is member o compares w (λ j. passes o j m)) (one.Bin o t i k) is_bin
            (λ later. works_two IsMark (MayGive d.has (abs.Ints w)) (IsIt (Int m)) (Gives y m is member o compares w (λ j. passes o j m)) (binary o t c.program.target) (meaning c i) (meaning c k) later
            (parts m is y member o t i k is_bin i (inl refl) (abs.Ints w) val) (operand_is y m is member k operand) (right_gives y m is member o compares w t)) result refl in
            let passing_is = passing_compares b o compares in
            keeps.keep_has (turned (passing b o)) u w z (turned_compares (passing b o) passing_is) kept m g.0 h g.1
            (turned_passes (passing b o) m g.0 passing_is ∙ passes_as b o g.0 m compares (sym g.2 ∙ truth))

      -- the value of the register is what is tested
      itself : Operand y m is member e → result ≡ Int m
      itself operand = told (IsIt (Int m)) (operand_is y m is member e operand) result refl

      cut_by : (ns : List ℤ) (u z : I) → d.has u m → ((n : ℤ) → Contains ns n → m ≡ n → ⊥) → IsCutBy d c.program c.id c.func register e test ns u z → d.has z m
      cut_by ns u z h differs (ByNone none same) = subst (λ (k : I). d.has k m) (sym same) h
      cut_by ns u z h differs (ByFirst n rest single k whole hull kept more) =
          let in_first : Contains ns n = subst (λ (l : List ℤ). Contains l n) (sym whole) (0, omega arith, refl) in
          cut_by rest k z
          (keeps.keep_has op.Ne u single k refl kept m n h (hull.has_all n refl) (not_false (int_eq m n) (no_equal n (differs n in_first) (int_eq m n) refl)))
          (λ j there same. differs j (subst (λ (l : List ℤ). Contains l j) (sym whole) (in_later n rest j there)) same) more
        where
          no_equal : (n : ℤ) → (m ≡ n → ⊥) → (b : Bool) → int_eq m n ≡ b → int_eq m n ≡ false
          no_equal n h true g = absurd (h ((Decides-int_eq m n).0 g))
          no_equal n h false g = g

          in_later : (n : ℤ) (rest : List ℤ) (j : ℤ) → Contains rest j → Contains (n ∷ rest) j
          in_later n rest j there = Contains-append_right (n ∷ []) rest j there

      cut_has : (z : I) → Cuts y z test → d.has z m
      cut_has z (ByComparison b o t i k u j is_bin compares left right) =
          let truth : is_true result ≡ b = subst (λ (t : Test). Passes t result) j passed in
          cut_as_right b o t i k is_bin compares truth u z (cut_as_left b o t i k is_bin compares truth y u member left) right
      cut_has z (ByLabel n single i operand hull kept) =
          let same : m ≡ n = int_same m n (sym (itself operand) ∙ subst (λ (t : Test). Passes t result) i passed) in
          keeps.keep_has op.Eq y single z refl kept m n member (hull.has_all n refl) ((Decides-int_eq m n).1 same)
      cut_has z (ByLabels ns i operand cuts) =
          let differs = subst (λ (t : Test). Passes t result) i passed in
          cut_by ns y z member (λ n there same. differs n there (itself operand ∙ ap Int same)) cuts

      left_has : (z : Abs I) (y' : Abs I) → y' ≡ abs.Ints y → Leaves y' z → HasValue d.has z (Int m)
      left_has z y' i (OfMembers u k members j listed hull is_z) =
          let same : u ≡ y = ints_same u y (sym j ∙ i) in
          let there = keeps.members_all u members listed m (subst (λ (a : I). d.has a m) (sym same) member) in
          subst (λ (a : Abs I). HasValue d.has a (Int m)) (sym is_z)
          (hull.has_all m (there, λ single w whole val. (result, with_it m is single (whole.has_all m refl) w val, passed)))
      left_has z y' i (OfRange u k j none cut is_z) =
          let same : u ≡ y = ints_same u y (sym j ∙ i) in
          subst (λ (a : Abs I). HasValue d.has a (Int m)) (sym is_z) (cut_has k (subst (λ (a : I). Cuts a k test) same cut))
      left_has z y' i (OfOther u j none other is_z) = subst (λ (a : Abs I). HasValue d.has a (Int m)) (sym (is_z ∙ i)) member
      left_has z y' i (OfAddresses s j is_z) = absurd (let k : abs.Ints y ≡ abs.Addrs s = sym i ∙ j in cc)

    -- ---- whatever the value is

    place_has : (a : Address) (y z : Abs I) → Leaves y z → HasValue d.has y (Place a) → HasValue d.has z (Place a)
    place_has a y z (OfMembers u k members j listed hull is_z) h = absurd (subst (λ (b : Abs I). HasValue d.has b (Place a)) j h)
    place_has a y z (OfRange u k j none cut is_z) h = absurd (subst (λ (b : Abs I). HasValue d.has b (Place a)) j h)
    place_has a y z (OfOther u j none other same) h = absurd (subst (λ (b : Abs I). HasValue d.has b (Place a)) j h)
    place_has a y z (OfAddresses s j same) h = subst (λ (b : Abs I). HasValue d.has b (Place a)) (sym same) h

    stays_at : (v : Value) → x ≡ v → (y z : Abs I) → Leaves y z → HasValue d.has y v → HasValue d.has z v
    stays_at (Int m) is (abs.Ints y) z left h = left_has y m is h z (abs.Ints y) refl left
    stays_at (Int m) is (abs.Addrs s) z left h = absurd h
    stays_at (Place a) is y z left h = place_has a y z left h

    pub stays_left : (y z : Abs I) → Leaves y z → HasValue d.has y x → HasValue d.has z x
    stays_left y z left h = stays_at x refl y z left h
