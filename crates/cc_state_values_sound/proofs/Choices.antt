-- What operators on integers, and choices, give is in the sets that they have. A choice goes as a value of its condition goes.
use Rattle.std.proofs.Common.{◌≡◌, inl, inr, ℤ, pos, Bool, true, false, Option, Some, None, refl, ap, sym, ◌∙◌, subst}
use Rattle.std.proofs.lemmas.Option.{same_Some}
use Rattle.std.specs.Prelude.{option_map, if◌then◌else◌}
use Rattle.cc_state_values.specs.CcEval.declared.action.Action.{Action}
use Rattle.cc_state_values.specs.CcEval.declared.action.Action.TheVariants as action
use Rattle.cc_state_values.specs.CcEval.declared.mark.Mark.{Mark}
use Rattle.cc_state_values.specs.CcEval.declared.mark.Mark.TheVariants.{Chose}
use Rattle.cc_state_values.specs.CcEval.Eval.{Meaning, from_one, both_values, from_two, branch, outcome, arms, choice, as_condition}
use Rattle.cc_state_values.specs.CcEval.Marks.{Works}
use Rattle.cc_state_values.specs.CcEval.Progress.{Get, known, ask, bind, chosen}
use Rattle.cc_state_values.proofs.CcEval.Works.{works_known, works_ask, works_bind, works_needs}
use Rattle.cc_state_values.specs.CcLattice.Domains.{AreOperands, AreOperandsOne}
use Rattle.cc_program.specs.CcNum.declared.int_type.IntType.{IntType}
use Rattle.cc_program.specs.CcNum.declared.op.BinOp.{BinOp}
use Rattle.cc_program.specs.CcNum.declared.op.UnOp.{UnOp}
use Rattle.cc_program.specs.CcNum.declared.target.Target.{Target}
use Rattle.cc_program.specs.CcNum.Integers.{converted}
use Rattle.cc_program.specs.CcNum.Results.{result_of, unary_result_of, one_if}
use Rattle.cc_state_values.specs.CcPlaces.Abstract.{HasValue, IsBelowAbs}
use Rattle.cc_state_values.specs.CcPlaces.declared.abs.Abs.{Abs}
use Rattle.cc_state_values.specs.CcPlaces.declared.abs.Abs.TheVariants as abs
use Rattle.cc_program.specs.declared.value.Value.{Value}
use Rattle.cc_program.specs.declared.value.Value.TheVariants.{Int, Place}
use Rattle.cc_state_values.specs.CcStateOperators.Domains.{Domain, IsHull, IsUnion, MayBe}
use Rattle.cc_state_values.specs.CcStateOperators.Results.{ByBoth, ByEither, IsArm}
use Rattle.cc_state_values_sound.specs.Steps.{MayGive}
use Rattle.cc_state_values.specs.CcSyntax.Effects.{Registers, also}
use Rattle.cc_state_values.specs.CcValues.Values.{takes, takes_both, unary_result, binary_result, unary, binary, conversion, is_true, truth, of_truth}

-- what the laws of a domain say of what its operators give
pub record GivesAll {I : Type 0} (d : Domain I) : Type 0 where
  pub below_has : (x y : I) → d.below x y → (n : ℤ) → d.has x n → d.has y n
  pub op_has : (o : BinOp) (a b r : I) (t : IntType) (target : Target) → AreOperands d.has o a b t target → d.op o a b t target r → (v w z : ℤ) → d.has a v → d.has b w → result_of o v w t target ≡ Some z → d.has r z
  pub op_one_has : (o : UnOp) (a r : I) (t : IntType) (target : Target) → AreOperandsOne d.has a t target → d.op_one o a t target r → (v z : ℤ) → d.has a v → unary_result_of o v t target ≡ Some z → d.has r z
  pub to_has : (a r : I) (t : IntType) (target : Target) → d.to a t target r → (v : ℤ) → d.has a v → d.has r (converted v t target)

pub all_given : {I : Type 0} (d : Domain I) → ((x y : I) → d.below x y → (n : ℤ) → d.has x n → d.has y n) →
    ((o : BinOp) (a b r : I) (t : IntType) (target : Target) → AreOperands d.has o a b t target → d.op o a b t target r → (v w z : ℤ) → d.has a v → d.has b w → result_of o v w t target ≡ Some z → d.has r z) →
    ((o : UnOp) (a r : I) (t : IntType) (target : Target) → AreOperandsOne d.has a t target → d.op_one o a t target r → (v z : ℤ) → d.has a v → unary_result_of o v t target ≡ Some z → d.has r z) →
    ((a r : I) (t : IntType) (target : Target) → d.to a t target r → (v : ℤ) → d.has a v → d.has r (converted v t target)) → GivesAll d
all_given d below op op_one to = record { below_has = below; op_has = op; op_one_has = op_one; to_has = to }

module _ {I : Type 0} (d : Domain I) where
  abbrev pub Among : Abs I → Option Value → Type 0
  Among x v = MayGive d.has x v

  -- ---- operators on integers

  mapped_among : (x : I) (o : Option ℤ) → ((z : ℤ) → o ≡ Some z → d.has x z) → Among (abs.Ints x) (option_map Int o)
  mapped_among x None h = tt
  mapped_among x (Some z) h = h z refl

  if_some : (b : Bool) (o : Option ℤ) (z : ℤ) → (if b then o else None) ≡ Some z → o ≡ Some z
  if_some true o z e = e
  if_some false o z e = absurd (cc)

  module _ (all : GivesAll d) where
    pub unary_gives : (o : UnOp) (t : IntType) (target : Target) (x z : I) → AreOperandsOne d.has x t target → d.op_one o x t target z → (v : Option Value) → Among (abs.Ints x) v → Among (abs.Ints z) (unary o t target v)
    unary_gives o t target x z f g None h = tt
    unary_gives o t target x z f g (Some (Place a)) h = tt
    unary_gives o t target x z f g (Some (Int n)) h = mapped_among z (unary_result o t target n) (λ y e. all.op_one_has o x z t target f g n y h (if_some (takes t target n) (unary_result_of o n t target) y e))

    pub binary_gives : (o : BinOp) (t : IntType) (target : Target) (x y z : I) → AreOperands d.has o x y t target → d.op o x y t target z → (v w : Option Value) → Among (abs.Ints x) v → Among (abs.Ints y) w →
        Among (abs.Ints z) (binary o t target v w)
    binary_gives o t target x y z f g None w h k = tt
    binary_gives o t target x y z f g (Some (Place a)) w h k = tt
    binary_gives o t target x y z f g (Some (Int n)) None h k = tt
    binary_gives o t target x y z f g (Some (Int n)) (Some (Place a)) h k = tt
    binary_gives o t target x y z f g (Some (Int n)) (Some (Int m)) h k =
        mapped_among z (binary_result o t target n m) (λ r e. all.op_has o x y z t target f g n m r h k (if_some (takes_both o t target n m) (result_of o n m t target) r e))

    pub conversion_gives : (t : IntType) (target : Target) (x z : I) → d.to x t target z → (v : Option Value) → Among (abs.Ints x) v → Among (abs.Ints z) (conversion t target v)
    conversion_gives t target x z g None h = tt
    conversion_gives t target x z g (Some (Place a)) h = tt
    conversion_gives t target x z g (Some (Int n)) h = all.to_has x z t target g n h

    below_value : (x y : Abs I) (v : Value) → IsBelowAbs d.below x y → HasValue d.has x v → HasValue d.has y v
    below_value (abs.Ints a) (abs.Ints b) (Int n) h k = all.below_has a b h n k
    below_value (abs.Ints a) (abs.Ints b) (Place q) h k = absurd k
    below_value (abs.Ints a) (abs.Addrs t) v h k = absurd h
    below_value (abs.Addrs s) (abs.Ints b) v h k = absurd h
    below_value (abs.Addrs s) (abs.Addrs t) (Int n) h k = absurd k
    below_value (abs.Addrs s) (abs.Addrs t) (Place q) h k = h q k

    pub below_gives : (x y : Abs I) (v : Option Value) → IsBelowAbs d.below x y → Among x v → Among y v
    below_gives x y None h k = tt
    below_gives x y (Some v) h k = below_value x y v h k

  -- ---- what is worked

  module _ (IsMark : Action → Mark → Type 0) (IsStep : Action → Type 0) where
    abbrev pub Fits : Abs I → Get (Option Value) → Type 0
    Fits x g = Works IsMark IsStep (Among x) g

    pub one_fits : (x z : Abs I) (g : Option Value → Option Value) (a : Meaning) (later : Registers) → Fits x (a.next later) → ((v : Option Value) → Among x v → Among z (g v)) → Fits z (from_one g a later)
    one_fits x z g a later h k = works_bind IsMark IsStep (Among x) (Among z) (a.next later) (λ v. known (g v)) h (λ v m. works_known IsMark IsStep (Among z) (g v) (k v m))

    pub two_fits : (x y z : Abs I) (g : Option Value → Option Value → Option Value) (a b : Meaning) (later : Registers) → ((l : Registers) → Fits x (a.next l)) → ((l : Registers) → Fits y (b.next l)) →
        ((v w : Option Value) → Among x v → Among y w → Among z (g v w)) → Fits z (from_two g a b later)
    two_fits x y z g a b later h k l =
        works_bind IsMark IsStep Both (Among z) (both_values a b later) (λ p. known (g p.0 p.1))
        (works_bind IsMark IsStep (Among x) Both (a.next (also b.effects.assigned later)) (λ v. bind (b.next later) (λ w. known (v, w))) (h (also b.effects.assigned later))
        (λ v m. works_bind IsMark IsStep (Among y) Both (b.next later) (λ w. known (v, w)) (k later) (λ w n. works_known IsMark IsStep Both (v, w) (m, n))))
        (λ p m. works_known IsMark IsStep (Among z) (g p.0 p.1) (l p.0 p.1 m.0 m.1))
      where
        Both : Option Value × Option Value → Type 0
        Both p = Among x p.0 × Among y p.1

    -- ---- choices

    module _ (chooses : (b : Option Bool) → IsStep (action.Choose b)) (choice_is : (b : Option Bool) (m : Mark) → IsMark (action.Choose b) m → m ≡ Chose b) where
      abbrev Truth : Option Value → Option Bool → Type 0
      Truth v b = b ≡ truth v

      branch_fits : (pure : Bool) (v : Option Value) → Works IsMark IsStep (Truth v) (branch pure v)
      branch_fits true v = works_ask IsMark IsStep (Truth v) (action.Choose (truth v)) chosen (chooses (truth v)) (λ m h. ap chosen (choice_is (truth v) m h))
      branch_fits false v =
          works_needs IsMark IsStep (Truth v) (truth v) (λ b. ask (action.Choose (Some b)) chosen)
          (λ b e. works_ask IsMark IsStep (Truth v) (action.Choose (Some b)) chosen (chooses (Some b)) (λ m h. ap chosen (choice_is (Some b) m h) ∙ sym e))

      outcome_fits : (z : Abs I) (pure : Bool) (v : Option Value) → Among z v → Fits z (outcome pure v)
      outcome_fits z true v h = works_known IsMark IsStep (Among z) v h
      outcome_fits z false v h = works_needs IsMark IsStep (Among z) v (λ w. known (Some w)) (λ w e. works_known IsMark IsStep (Among z) (Some w) (subst (Among z) e h))

      chosen_by : (x : Abs I) (b : Bool) (v : Option Value) → Among x v → Some b ≡ truth v → MayBe d b x
      chosen_by x b None h e = absurd (cc)
      chosen_by x b (Some w) h e = (w, h, sym (same_Some b (is_true w) e))

      arms_fit : (x z : Abs I) (these those : Get (Option Value)) (v : Option Value) → Among x v → (MayBe d true x → Fits z these) → (MayBe d false x → Fits z those) → (b : Option Bool) → Truth v b → Fits z (arms these those b)
      arms_fit x z these those v m h k None e = works_known IsMark IsStep (Among z) None tt
      arms_fit x z these those v m h k (Some true) e = h (chosen_by x true v m e)
      arms_fit x z these those v m h k (Some false) e = k (chosen_by x false v m e)

      pub choice_fits : (x z : Abs I) (pure : Bool) (condition these those : Get (Option Value)) → Fits x condition → (MayBe d true x → Fits z these) → (MayBe d false x → Fits z those) → Fits z (choice pure condition these those)
      choice_fits x z pure condition these those g h k =
          works_bind IsMark IsStep (Among x) (Among z) condition (λ v. bind (branch pure v) (arms (bind these (outcome pure)) (bind those (outcome pure)))) g
          (λ v m. works_bind IsMark IsStep (Truth v) (Among z) (branch pure v) (arms (bind these (outcome pure)) (bind those (outcome pure))) (branch_fits pure v)
          (λ b e. arms_fit x z (bind these (outcome pure)) (bind those (outcome pure)) v m (λ w. works_bind IsMark IsStep (Among z) (Among z) these (outcome pure) (h w) (outcome_fits z pure))
          (λ w. works_bind IsMark IsStep (Among z) (Among z) those (outcome pure) (k w) (outcome_fits z pure)) b e))

      truth_gives : (w : Abs I) (z : I) → ((b : Bool) → MayBe d b w → d.has z (one_if b)) → (v : Option Value) → Among w v → Among (abs.Ints z) (of_truth (truth v))
      truth_gives w z h None m = tt
      truth_gives w z h (Some v) m = h (is_true v) (v, m, refl)

      condition_fits : (w : Abs I) (z : I) (b : Meaning) (later : Registers) → Fits w (b.next later) → ((c : Bool) → MayBe d c w → d.has z (one_if c)) → Fits (abs.Ints z) (as_condition b later)
      condition_fits w z b later g h =
          works_bind IsMark IsStep (Among w) (Among (abs.Ints z)) (b.next later) (λ v. known (of_truth (truth v))) g (λ v m. works_known IsMark IsStep (Among (abs.Ints z)) (of_truth (truth v)) (truth_gives w z h v m))

      pub both_fits : (x w : Abs I) (z : I) (pure : Bool) (a : Get (Option Value)) (b : Meaning) (later : Registers) → IsHull d (ByBoth d x w) z → Fits x a → Fits w (b.next later) →
          Fits (abs.Ints z) (choice pure a (as_condition b later) (known (Some (Int (pos 0)))))
      both_fits x w z pure a b later h k l =
          choice_fits x (abs.Ints z) pure a (as_condition b later) (known (Some (Int (pos 0)))) k (λ m. condition_fits w z b later l (λ c n. h.has_all (one_if c) (inr (m, (c, n, refl)))))
          (λ m. works_known IsMark IsStep (Among (abs.Ints z)) (Some (Int (pos 0))) (h.has_all (pos 0) (inl (m, refl))))

      pub either_fits : (x w : Abs I) (z : I) (pure : Bool) (a : Get (Option Value)) (b : Meaning) (later : Registers) → IsHull d (ByEither d x w) z → Fits x a → Fits w (b.next later) →
          Fits (abs.Ints z) (choice pure a (known (Some (Int (pos 1)))) (as_condition b later))
      either_fits x w z pure a b later h k l =
          choice_fits x (abs.Ints z) pure a (known (Some (Int (pos 1)))) (as_condition b later) k (λ m. works_known IsMark IsStep (Among (abs.Ints z)) (Some (Int (pos 1))) (h.has_all (pos 1) (inl (m, refl))))
          (λ m. condition_fits w z b later l (λ c n. h.has_all (one_if c) (inr (m, (c, n, refl)))))

      module _ (all : GivesAll d) where
        widened : (x y : Abs I) (g : Get (Option Value)) → IsBelowAbs d.below x y → Fits x g → Fits y g
        widened x y g h w = record {
          known = λ ms rest a answers e. let u = w.known ms rest a answers e in (u.0, below_gives all x y a h u.1);
          waits = w.waits;
        }

        pub chosen_fits : (x u w y : Abs I) (pure : Bool) (condition these those : Get (Option Value)) → IsUnion d u (IsArm d x u w) y → Fits x condition → Fits u these → Fits w those → Fits y (choice pure condition these those)
        chosen_fits x u w y pure condition these those h k l m =
            choice_fits x y pure condition these those k (λ b. widened u y these (h.above u (inl (b, refl))) l) (λ b. widened w y those (h.above w (inr (b, refl))) m)
