-- What comes of raising facts: they are raised, or had what is needed, or are left as they were; and so for all that is asked, one thing after the
-- other.
use Rattle.std.proofs.Common.{arith, ◌≡◌, ℕ, zero, suc, ◌+◌, ◌<◌, ℤ, Bool, true, false, true≢false, List, [], ◌∷◌, ◌++◌, length, get_or, take, drop, Option, Some, None, Ok, Err, Result, IfOk, OnOk, OnErr, refl, sym, ap, subst, ◌∙◌}
use Rattle.std.specs.Prelude.{IfSome}
use Rattle.cc_rules_asked.specs.CcLattice.Orders.{IsLeastUpperBound}
use Rattle.cc_program.specs.CcNum.declared.int_type.IntType.{IntType}
use Rattle.cc_program.specs.CcNum.declared.target.Target.{Target}
use Rattle.cc_program.specs.CcNum.Integers.{IsValueOf}
use Rattle.cc_rules_asked.specs.CcPlaces.laws.AbstractLaws.{abs_itself, abs_through}
use Rattle.cc_program.specs.declared.program.Program.{Program}
use Rattle.cc_rules_asked.specs.declared.asked.Asked.{Asked}
use Rattle.cc_rules_asked.specs.Asked.{needs_of, all_needs}
use Rattle.cc_rules_asked.proofs.CcRulesNeeds.ByParts.{parts_below}
use Rattle.cc_rules_asked.specs.CcRulesNeeds.declared.needs.Part.{Part}
use Rattle.cc_rules_asked.specs.CcRulesNeeds.declared.needs.Slot.{Slot}
use Rattle.cc_rules_asked.specs.CcRulesNeeds.Flowing.{of_fact, needs_at}
use Rattle.cc_rules_asked.specs.CcRulesNeeds.Needs.{Needs, Has, HasAll, IsBelow}
use Rattle.cc_rules_asked.specs.CcRulesNeeds.Points.{ArePointsAlike, HasFlow, IsRaisedAt}
use Rattle.cc_rules_raised.proofs.Change.{known_shaped}
use Rattle.cc_rules_raised.proofs.Completing.{completed_serves}
use Rattle.cc_rules_raised.proofs.Fitting.{flat_next, flat_all, drop_first}
use Rattle.cc_rules_raised.proofs.NeedsAt.{parts_of}
use Rattle.cc_rules_raised.proofs.SlotSteps.{is_risen}
use Rattle.cc_rules_raised.proofs.Stepping.{IsOrdered, Serves, step_itself, step_more, step_through, has_both, has_first, has_second, has_later, raised_step, raised_gives, raised_other}
use Rattle.cc_rules_raised.specs.Completed.{IsCompleted}
use Rattle.cc_rules_layout.specs.Raisable.{IsLaidOutAt, IsRaisableSlot}
use Rattle.cc_rules_raised.specs.Slots.{IsRisen}
use Rattle.cc_rules_raised.specs.Steps.{IsStep, IsFit, AllFit}
use Rattle.cc_rules_shaped.proofs.Fit.{point_counted}
use Rattle.cc_rules_shaped.proofs.Joining.{JoinsTyped}
use Rattle.cc_rules_shaped.specs.Shaped.{Fits}
use Rattle.cc_rules_grow.specs.CcState.Shape.{HaveShape}
use Rattle.cc_rules_asked.specs.CcStateFacts.declared.facts.Facts.{Facts}
use Rattle.cc_rules_asked.specs.CcStateFacts.declared.facts.PointFact.{PointFact}
use Rattle.cc_rules_asked.specs.CcStateFacts.Facts.{fact_at}
use Rattle.cc_rules_asked.specs.CcStateFacts.laws.OrderLaws.{facts_same}
use Rattle.cc_rules_asked.specs.CcStateKeys.Tracked.{registers, tracked}
use Rattle.cc_state_limits.specs.Held.{AreHeld}
use Rattle.cc_rules_asked.specs.CcStateOperators.Domains.{Domain}
use Rattle.cc_state_shape.proofs.Alike.{facts_alike, well_formed, points_alike}

-- what the laws of a domain say of it
pub record AreLaws {I : Type 0} (d : Domain I) : Type 0 where
  pub ordered : IsOrdered d
  pub joins : JoinsTyped d
  pub same : (a b : I) → d.below a b → d.below b a → a ≡ b

pub laws_of : {I : Type 0} (d : Domain I) (alike : I → I → Type 0) → ((a b : I) → alike a b) → ((a : I) → alike a a → d.below a a) → ((a b c : I) → alike a b → alike b c → alike a c → d.below a b → d.below b c → d.below a c) →
    ((a b : I) → alike a b → d.below a b → d.below b a → a ≡ b) → ((x y : I) → ((n : ℤ) → d.has x n → d.has y n) → d.below x y) → ((x y : I) → d.below x y → (n : ℤ) → d.has x n → d.has y n) →
    ((x y j : I) (t : IntType) (target : Target) → IsLeastUpperBound alike d.below x y j → ((n : ℤ) → d.has x n → IsValueOf t target n) → ((n : ℤ) → d.has y n → IsValueOf t target n) → (n : ℤ) → d.has j n → IsValueOf t target n) → AreLaws d
laws_of d alike all itself through same by_members grows typed = record {
  ordered = record { itself = abs_itself alike d.below itself all; through = abs_through alike d.below through all };
  joins = record {
    itself = λ x. itself x (all x x);
    by_members = by_members;
    grows = grows;
    typed = λ x y j t target left right least. typed x y j t target (record { left_alike = all x j; right_alike = all y j; left = left; right = right; least = λ u a b. least u });
  };
  same = λ a b h k. same a b (all a b) h k;
}

module _ {I : Type 0} (d : Domain I) (p : Program) where
  -- what one call leaves
  pub record IsOutcome {E : Type 0} (ns : Needs I) (f g : Facts I) (r : Result Bool E) : Type 0 where
    pub step : IsStep d p ns f g
    pub has : OnOk r (HasAll d.below ns g)
    pub rose : IfOk r (λ rose. rose ≡ true → g ≡ f → ⊥)
    pub same : IfOk r (λ rose. rose ≡ false → g ≡ f)

  -- and what calls left so far
  pub record IsProgress (ns : Needs I) (old f : Facts I) (risen : Bool) : Type 0 where
    pub step : IsStep d p ns old f
    pub has : HasAll d.below ns f
    pub rose : risen ≡ true → f ≡ old → ⊥
    pub same : risen ≡ false → f ≡ old
    pub held : AreHeld old → AreHeld f

module _ {I : Type 0} (d : Domain I) (laws : AreLaws d) (p : Program) where
  -- ---- one call

  abbrev Rises : Needs I → Facts I → Facts I → Bool → Type 0
  Rises ns f g rose = rose ≡ true → IsStep d p ns f g × HasAll d.below ns g × (g ≡ f → ⊥)

  abbrev Stays : Needs I → Facts I → Facts I → Bool → Type 0
  Stays ns f g rose = rose ≡ false → HasAll d.below ns f × (g ≡ f)

  stayed : (ns : Needs I) (f g : Facts I) → HaveShape d p f → g ≡ f → IsStep d p ns f g
  stayed ns f g shape e = subst (IsStep d p ns f) (sym e) (step_itself d laws.ordered p ns f shape)

  pub outcome : {E : Type 0} (ns : Needs I) (f g : Facts I) → HaveShape d p f → (r : Result Bool E) → IfOk r (Rises ns f g) → IfOk r (Stays ns f g) → OnErr r (g ≡ f) → IsOutcome d p ns f g r
  outcome ns f g shape (Ok true) h k e = record { step = (h refl).0; has = (h refl).1; rose = λ q. (h refl).2; same = λ q. absurd (true≢false q) }
  outcome ns f g shape (Ok false) h k e =
      record { step = stayed ns f g shape (k refl).1; has = subst (HasAll d.below ns) (sym (k refl).1) (k refl).0; rose = λ q. absurd (true≢false (sym q)); same = λ q. (k refl).1 }
  outcome ns f g shape (Err x) h k e = record { step = stayed ns f g shape e; has = tt; rose = tt; same = tt }

  -- ---- a part of a slot

  abbrev SlotRises : Slot → Part I → Facts I → Facts I → Bool → Type 0
  SlotRises slot part f g rose = rose ≡ true → (Has d.below f (slot, part) → ⊥) × IsRisen d.below slot part f g

  abbrev SlotStays : Slot → Part I → Facts I → Facts I → Bool → Type 0
  SlotStays slot part f g rose = rose ≡ false → Has d.below f (slot, part) × (g ≡ f)

  one_need : (f : Facts I) (need : Slot × Part I) → Has d.below f need → HasAll d.below (need ∷ []) f
  one_need f need h = λ k e l. at k e l
    where
      at : (k : ℕ) (e : Slot × Part I) → k < length (need ∷ []) → Has d.below f (get_or (need ∷ []) k e)
      at zero e l = h
      at (suc k) e l = absurd (omega (arith, l))

  slot_rises : (slot : Slot) (part : Part I) (f g : Facts I) → HaveShape d p f → IsFit d p slot part f → IsRaisableSlot d p f slot → (rose : Bool) → SlotRises slot part f g rose → Rises ((slot, part) ∷ []) f g rose
  slot_rises slot part f g shape fit may rose h e =
      let risen = is_risen d laws.ordered laws.joins p f shape slot part g fit may (h e).1 in
      (risen.step, risen.has, (λ same. (h e).0 (subst (λ (x : Facts I). Has d.below x (slot, part)) same (risen.has 0 (slot, part) (omega arith)))))

  weaker : {E : Type 0} (P Q : Bool → Type 0) → ((rose : Bool) → P rose → Q rose) → (r : Result Bool E) → IfOk r P → IfOk r Q
  weaker P Q f (Ok rose) h = f rose h
  weaker P Q f (Err x) h = tt

  pub slot_outcome : {E : Type 0} (slot : Slot) (part : Part I) (f g : Facts I) → HaveShape d p f → IsFit d p slot part f → IsRaisableSlot d p f slot → (r : Result Bool E) →
      IfOk r (SlotRises slot part f g) → IfOk r (SlotStays slot part f g) → OnErr r (g ≡ f) → IsOutcome d p ((slot, part) ∷ []) f g r
  slot_outcome slot part f g shape fit may r h k e =
      outcome ((slot, part) ∷ []) f g shape r
      (weaker (SlotRises slot part f g) (Rises ((slot, part) ∷ []) f g) (slot_rises slot part f g shape fit may) r h)
      (weaker (SlotStays slot part f g) (Stays ((slot, part) ∷ []) f g) (λ rose s q. (one_need f (slot, part) (s q).0, (s q).1)) r k) e

  -- ---- a point

  abbrev PointRises : ℕ → PointFact I → Facts I → Facts I → Bool → Type 0
  PointRises n flow f g rose = rose ≡ true → (HasFlow d.below flow (fact_at f n) → ⊥) × IsRaisedAt d.below f n flow g

  abbrev PointStays : ℕ → PointFact I → Facts I → Facts I → Bool → Type 0
  PointStays n flow f g rose = rose ≡ false → HasFlow d.below flow (fact_at f n) × (g ≡ f)

  pub point_outcome : {E : Type 0} (n : ℕ) (flow : PointFact I) (ns : Needs I) (f g : Facts I) → HaveShape d p f → Serves d laws.ordered p f n flow ns → n < length f.at → (r : Result Bool E) →
      IfOk r (PointRises n flow f g) → IfOk r (PointStays n flow f g) → OnErr r (g ≡ f) → IsOutcome d p ns f g r
  point_outcome n flow ns f g shape serves l r h k e =
      outcome ns f g shape r
      (weaker (PointRises n flow f g) (Rises ns f g) (λ rose s q.
      (raised_step d laws.ordered p laws.joins f g shape n flow ns serves l (s q).1, raised_gives d laws.ordered p laws.joins f g shape n flow ns serves l (s q).1, raised_other d laws.ordered p laws.joins f g shape n flow ns serves l (s q).1 (s q).0)) r h)
      (weaker (PointStays n flow f g) (Stays ns f g) (λ rose s q. (serves.gives f (s q).0, (s q).1)) r k) e

  -- what is told of a point of which all that is needed fits
  pub flow_serves : (f : Facts I) (n count : ℕ) (told made : PointFact I) (laid : IsLaidOutAt d p n count told) → AllFit d p (needs_at n count (length (tracked p)) (of_fact told)) → IsCompleted d p laid.func told made →
      Serves d laws.ordered p f n made (needs_at n count (length (tracked p)) (of_fact told))
  flow_serves f n count told made laid fit done =
      subst (λ (c : ℕ). Serves d laws.ordered p f n made (needs_at n c (length (tracked p)) (of_fact told))) (sym laid.all_registers)
      (completed_serves d laws.joins.by_members p n laid.id laid.func laid.point laid.is_point told made laid.laid_out done
      (parts_of (λ (need : Slot × Part I). Fits d p need.0 need.1) n (length (registers laid.func)) (length (tracked p)) (of_fact told)
      (subst (λ (c : ℕ). AllFit d p (needs_at n c (length (tracked p)) (of_fact told))) laid.all_registers fit)) laws.ordered f)

  pub flow_there : (f : Facts I) → HaveShape d p f → (n count : ℕ) (told : PointFact I) → IsLaidOutAt d p n count told → n < length f.at
  flow_there f shape n count told laid = subst (λ (c : ℕ). n < c) (sym shape.points) (point_counted p n laid.id laid.func laid.point laid.is_point)

  pub flow_alike : (f : Facts I) → HaveShape d p f → (n : ℕ) (flow : PointFact I) (ns : Needs I) → Serves d laws.ordered p f n flow ns → IfSome (fact_at f n) (λ fact. ArePointsAlike flow fact)
  flow_alike f shape n flow ns serves = by (fact_at f n) refl
    where
      by : (o : Option (PointFact I)) → fact_at f n ≡ o → IfSome o (λ fact. ArePointsAlike flow fact)
      by None e = tt
      by (Some x) e = (points_alike d p serves.func flow x serves.of_flow (known_shaped d p f shape n serves.id serves.func serves.point serves.is_point x e)).0

  -- ---- one thing after the other

  pub no_progress : (f : Facts I) → HaveShape d p f → IsProgress d p [] f f false
  no_progress f shape = record { step = step_itself d laws.ordered p [] f shape; has = λ k e l. absurd (omega (arith, l)); rose = λ e. absurd (true≢false (sym e)); same = λ e. refl; held = λ h. h }

  -- facts between that are those at both ends
  between : (f g : Facts I) → HaveShape d p f → HaveShape d p g → IsBelow d.below f g → IsBelow d.below g f → f ≡ g
  between f g shape other a b =
      let alike = facts_alike d p f g shape other in
      facts_same (λ _ _. Unit {0}) d.below (λ x y _ h k. laws.same x y h k) (λ x y. tt) f g alike
      (parts_below d.below laws.ordered.itself laws.ordered.through f g alike (well_formed d p f shape) a)
      (parts_below d.below laws.ordered.itself laws.ordered.through g f (facts_alike d p g f other shape) (well_formed d p g other) b)

  other_than : (old f g : Facts I) → HaveShape d p old → HaveShape d p f → IsBelow d.below old f → IsBelow d.below f g → (g ≡ f → ⊥) → g ≡ old → ⊥
  other_than old f g shape of_f a b differ e = differ (e ∙ between old f shape of_f a (subst (IsBelow d.below f) e b))

  module _ (list : List (Asked I)) (i : ℕ) (one : Asked I) (l : i < length list) (is : one ≡ get_or list i one) (old f g : Facts I) (shape : HaveShape d p old) (rose : Bool) (so_far : IsProgress d p (all_needs p (take i list)) old f rose) where
    abbrev before : Needs I
    before = all_needs p (take i list)

    next_needs : all_needs p (take (i + 1) list) ≡ before ++ needs_of p one
    next_needs = flat_next (needs_of p) list i one l is

    step_next : IsStep d p (needs_of p one) f g → IsStep d p (before ++ needs_of p one) old g
    step_next s = step_through d laws.ordered p before (needs_of p one) old f g so_far.step s

    has_next : IsStep d p (needs_of p one) f g → HasAll d.below (needs_of p one) g → HasAll d.below (before ++ needs_of p one) g
    has_next s h = has_both d laws.ordered p before (needs_of p one) g (has_later d laws.ordered p before f g s.above so_far.has) h

    of_next : (again : Bool) → (AreHeld f → AreHeld g) → IsStep d p (needs_of p one) f g → HasAll d.below (needs_of p one) g → (again ≡ true → g ≡ old → ⊥) → (again ≡ false → g ≡ old) → IsProgress d p (all_needs p (take (i + 1) list)) old g again
    of_next again kept s h differ same = subst (λ (ns : Needs I). IsProgress d p ns old g again) (sym next_needs) (record { step = step_next s; has = has_next s h; rose = differ; same = same; held = λ k. kept (so_far.held k) })

    -- facts that rose by it
    pub progress_risen : (AreHeld f → AreHeld g) → IsStep d p (needs_of p one) f g → HasAll d.below (needs_of p one) g → (g ≡ f → ⊥) → IsProgress d p (all_needs p (take (i + 1) list)) old g true
    progress_risen kept s h differ = of_next true kept s h (λ e. other_than old f g shape so_far.step.shape so_far.step.above s.above differ) (λ e. absurd (true≢false e))

    -- and that did not
    pub progress_same : (AreHeld f → AreHeld g) → IsStep d p (needs_of p one) f g → HasAll d.below (needs_of p one) g → g ≡ f → IsProgress d p (all_needs p (take (i + 1) list)) old g rose
    progress_same kept s h e = of_next rose kept s h (λ q k. so_far.rose q (sym e ∙ k)) (λ q. e ∙ so_far.same q)

    -- after want of memory
    pub progress_ends : IsStep d p (needs_of p one) f g → IsStep d p (all_needs p list) old g
    progress_ends s =
        let rest : Needs I = all_needs p (drop (suc i) list) in
        let all : all_needs p list ≡ before ++ (needs_of p one ++ rest) = flat_all (needs_of p) list i ∙ ap (λ ls. before ++ all_needs p ls) (drop_first list i one l is) in
        step_more d laws.ordered p (before ++ needs_of p one) (all_needs p list) old g
        (λ h has. (let whole : HasAll d.below (before ++ (needs_of p one ++ rest)) h = subst (λ (ns : Needs I). HasAll d.below ns h) all has in
        has_both d laws.ordered p before (needs_of p one) h (has_first d laws.ordered p before (needs_of p one ++ rest) h whole)
        (has_first d laws.ordered p (needs_of p one) rest h (has_second d laws.ordered p before (needs_of p one ++ rest) h whole))))
        (step_next s)
