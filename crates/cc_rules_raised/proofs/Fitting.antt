-- Of all that is asked each thing fits the facts that have what is asked before it, and can be asked of facts that have risen.
use Rattle.std.proofs.Common.{arith, ◌≡◌, ℕ, zero, suc, ◌+◌, ◌<◌, true, true≢false, List, [], ◌∷◌, ◌++◌, append_assoc, append-nil, length, get_or, take, drop, Option, Some, None, refl, sym, ap, subst, ◌∙◌}
use Rattle.std.specs.Prelude.{is_some, IfSome}
use Rattle.std.specs.List.{flat_map}
use Rattle.cc_program.specs.declared.program.Program.{Program}
use Rattle.cc_rules_asked.specs.declared.asked.Asked.{Asked}
use Rattle.cc_rules_asked.specs.declared.asked.Asked.TheVariants as asked
use Rattle.cc_rules_asked.specs.Asked.{needs_of, all_needs}
use Rattle.cc_rules_grow.proofs.Elements.{Each, each_all, all_each}
use Rattle.cc_rules_asked.specs.CcRulesNeeds.Flowing.{of_fact, needs_at}
use Rattle.cc_rules_asked.specs.CcRulesNeeds.declared.needs.Part.{Part}
use Rattle.cc_rules_asked.specs.CcRulesNeeds.declared.needs.Slot.{Slot}
use Rattle.cc_rules_asked.specs.CcRulesNeeds.declared.needs.Slot.TheVariants.{Whole, HandlerReads, HandlerWrites, ReadLevels, WriteLevels, Result, ByMain, ByHandler, Levels, From, Flag, LocalAt, CellAt, Apart}
use Rattle.cc_rules_asked.specs.CcRulesNeeds.Needs.{Needs, Has, HasAll, IsBelow}
use Rattle.cc_rules_asked.specs.CcRulesNeeds.Points.{IsWellFormed}
use Rattle.cc_rules_raised.proofs.Change.{reached_later}
use Rattle.cc_rules_layout.specs.Raisable.{IsReached, IsRaisableSlot, IsRaisable}
use Rattle.cc_rules_raised.specs.Steps.{IsFitFor}
use Rattle.cc_rules_shaped.proofs.Fit.{fit_more}
use Rattle.cc_rules_shaped.specs.Shaped.{Fits, AreFitBehind, AreFit}
use Rattle.cc_rules_grow.specs.CcState.Shape.{HaveShape}
use Rattle.cc_rules_asked.specs.CcStateFacts.declared.facts.Facts.{Facts}
use Rattle.cc_rules_asked.specs.CcStateFacts.declared.facts.PointFact.{PointFact}
use Rattle.cc_rules_asked.specs.CcStateFacts.Facts.{fact_at}
use Rattle.cc_rules_asked.specs.CcStateKeys.Tracked.{tracked}
use Rattle.cc_rules_asked.specs.CcStateOperators.Domains.{Domain}
use Rattle.cc_state_shape.proofs.Alike.{well_formed}

-- ---- lists by their beginnings

pub flat_next : {A B : Type 0} (f : A → List B) (xs : List A) (i : ℕ) (x : A) → i < length xs → x ≡ get_or xs i x → flat_map f (take (i + 1) xs) ≡ flat_map f (take i xs) ++ f x
flat_next f [] i x l e = absurd (omega (arith, l))
flat_next f (y ∷ xs) zero x l e = append-nil (f y) ∙ ap f (sym e)
flat_next f (y ∷ xs) (suc i) x l e =
    ap (λ n. flat_map f (take n (y ∷ xs))) (let k : suc i + 1 ≡ suc (i + 1) = omega arith in k)
    ∙ (ap (λ ls. f y ++ ls) (flat_next f xs i x (omega (arith, l)) e) ∙ sym (append_assoc (f y) (flat_map f (take i xs)) (f x)))

pub flat_all : {A B : Type 0} (f : A → List B) (xs : List A) (i : ℕ) → flat_map f xs ≡ flat_map f (take i xs) ++ flat_map f (drop i xs)
flat_all f xs zero = refl
flat_all f [] (suc i) = refl
flat_all f (y ∷ xs) (suc i) = ap (λ ls. f y ++ ls) (flat_all f xs i) ∙ sym (append_assoc (f y) (flat_map f (take i xs)) (flat_map f (drop i xs)))

pub drop_first : {A : Type 0} (xs : List A) (i : ℕ) (x : A) → i < length xs → x ≡ get_or xs i x → drop i xs ≡ x ∷ drop (suc i) xs
drop_first [] i x l e = absurd (omega (arith, l))
drop_first (y ∷ xs) zero x l e = ap (λ z. z ∷ xs) (sym e)
drop_first (y ∷ xs) (suc i) x l e = drop_first xs i x (omega (arith, l)) e

module _ {I : Type 0} (d : Domain I) (p : Program) where
  -- behind the first of some needs the others fit facts that have those
  fit_behind : (known : Facts I → Type 0) (xs ys : Needs I) → AreFitBehind d p known (xs ++ ys) → AreFitBehind d p (λ f. known f × Each (Has d.below f) xs) ys
  fit_behind known [] ys h = fit_more d p known (λ f. known f × Unit {0}) (λ f k. k.0) ys h
  fit_behind known (x ∷ xs) ys h =
      fit_more d p (λ f. (known f × Has d.below f x) × Each (Has d.below f) xs) (λ f. known f × Each (Has d.below f) (x ∷ xs)) (λ f k. ((k.0, k.1.0), k.1.1)) ys (fit_behind (λ f. known f × Has d.below f x) xs ys h.2)

  fit_front : (known : Facts I → Type 0) (xs ys : Needs I) → AreFitBehind d p known (xs ++ ys) → Each (λ (need : Slot × Part I). Fits d p need.0 need.1) xs
  fit_front known [] ys h = tt
  fit_front known (x ∷ xs) ys h = (h.0, fit_front (λ f. known f × Has d.below f x) xs ys h.2)

  fit_of : (known : Facts I → Type 0) (one : Asked I) (rest : Needs I) (f : Facts I) → known f → AreFitBehind d p known (needs_of p one ++ rest) → IsFitFor d p f one
  fit_of known (asked.Part slot part) rest f k h = record { fits = h.0; allowed = h.1 f k }
  fit_of known (asked.Point number registers flow) rest f k h =
      all_each (λ (need : Slot × Part I). Fits d p need.0 need.1) (needs_at number registers (length (tracked p)) (of_fact flow)) (fit_front known (needs_at number registers (length (tracked p)) (of_fact flow)) rest h)

  pub fit_next : (list : List (Asked I)) (i : ℕ) (one : Asked I) (f : Facts I) → i < length list → one ≡ get_or list i one → AreFit d p (all_needs p list) → HasAll d.below (all_needs p (take i list)) f → IsFitFor d p f one
  fit_next list i one f l e fit has =
      let before : Needs I = all_needs p (take i list) in
      let rest : Needs I = all_needs p (drop (suc i) list) in
      let is : all_needs p list ≡ before ++ (needs_of p one ++ rest) = flat_all (needs_of p) list i ∙ ap (λ ls. before ++ flat_map (needs_of p) ls) (drop_first list i one l e) in
      fit_of (λ g. Unit {0} × Each (Has d.below g) before) one rest f (tt, each_all (Has d.below f) before has)
      (fit_behind (λ g. Unit {0}) before (needs_of p one ++ rest) (subst (λ (ns : Needs I). AreFitBehind d p (λ g. Unit {0}) ns) is fit))

  -- ---- of facts that have risen

  reached_on : (f g : Facts I) → HaveShape d p f → IsBelow d.below f g → (n : ℕ) → IsReached d p f n → IsReached d p g n
  reached_on f g shape b n h = by (fact_at f n) refl h (well_formed d p f shape n)
    where
      by : (o : Option (PointFact I)) → fact_at f n ≡ o → is_some o ≡ true → IfSome o IsWellFormed → IsReached d p g n
      by None e h w = absurd (true≢false (sym h))
      by (Some x) e h w = let (y, at) = reached_later d f g n x e w.flag b in ap is_some at

  slot_on : (f g : Facts I) → HaveShape d p f → IsBelow d.below f g → (slot : Slot) → IsRaisableSlot d p f slot → IsRaisableSlot d p g slot
  slot_on f g shape b (Flag n) h = absurd h
  slot_on f g shape b (LocalAt n r) h = absurd h
  slot_on f g shape b (CellAt n j) h = reached_on f g shape b n h
  slot_on f g shape b (Apart n r j) h = reached_on f g shape b n h
  slot_on f g shape b (Whole k) h = tt
  slot_on f g shape b (Result k) h = tt
  slot_on f g shape b (HandlerReads k) h = tt
  slot_on f g shape b (HandlerWrites k) h = tt
  slot_on f g shape b (ReadLevels k) h = tt
  slot_on f g shape b (WriteLevels k) h = tt
  slot_on f g shape b (ByMain k) h = tt
  slot_on f g shape b (ByHandler k) h = tt
  slot_on f g shape b (Levels k) h = tt
  slot_on f g shape b (From k) h = tt

  pub raisable_on : (f g : Facts I) → HaveShape d p f → IsBelow d.below f g → (one : Asked I) → IsRaisable d p f one → IsRaisable d p g one
  raisable_on f g shape b (asked.Part slot part) h = slot_on f g shape b slot h
  raisable_on f g shape b (asked.Point number registers flow) h = h
