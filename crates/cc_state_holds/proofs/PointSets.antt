-- What is known at a point, set by set.
use Rattle.std.proofs.Common.{arith, ◌≡◌, ◌+◌, ℕ, zero, suc, Bool, true, false, true≢false, List, [], ◌∷◌, ◌++◌, Option, Some, None, refl, ap, sym, ◌∙◌, subst, slice_get}
use Rattle.std.specs.Prelude.{◌↔◌, ◌&&◌, ◌||◌, nat_eq, is_some}
use Rattle.std.specs.List.{list_any}
use Rattle.std.proofs.lemmas.Option.{same_Some, none-some}
use Rattle.cc_cells.specs.Cells.{scalar_in}
use Rattle.cc_flow_sound.specs.CcFlow.declared.types.Point.{Point}
use Rattle.cc_program.specs.declared.func.Func.{Func}
use Rattle.cc_program.specs.declared.program.Program.{Program}
use Rattle.cc_program.specs.declared.value.Value.{Value}
use Rattle.cc_proof_covers.specs.Covers.{AreRegistersIn}
use Rattle.cc_state.proofs.Lists.{at_contained, number_at, number_there, any_there}
use Rattle.cc_state.proofs.Numbered.{register_at, register_numbered}
use Rattle.cc_state.specs.View.{view, IsFunctionAt, MayBeAt, LocalAt, CellAt, SameAt}
use Rattle.cc_state_reads.specs.CcStateFacts.declared.facts.Facts.{Facts}
use Rattle.cc_state_reads.specs.CcStateFacts.declared.facts.PointFact.{PointFact}
use Rattle.cc_state_reads.specs.CcStateFacts.Facts.{fact_at, cell_of, local_of, may_be_in, has_pair}
use Rattle.cc_state_holds.specs.Parts.{HasIn, good, IsInRegisterSet, IsInCellSet, AreRegistersHeld, AreCellsHeld, ArePairsHeld}
use Rattle.cc_state_reads.specs.CcStateKeys.Lists.{only_if, made_from}
use Rattle.cc_state_reads.specs.CcStateKeys.Tracked.{registers, tracked, register_number, tracked_number}
use Rattle.cc_state_reads.specs.CcStateOperators.Domains.{Domain}
use Rattle.cc_state_reads.specs.CcSyntax.Registers.{is_register}

-- ---- lists

pub made_passes : {A : Type 0} (passes : ℕ → Bool) (n : ℕ) (xs : List A) (k r : ℕ) → slice_get (made_from (λ q (x : A). passes q) (λ q. q) n xs) k ≡ Some r → passes r ≡ true
made_passes passes n [] k r h = absurd (none-some r h)
made_passes {A = A} passes n (y ∷ ys) k r h = first (λ j g. made_passes passes (n + 1) ys j r g) (passes n) refl k h
  where
    first : ((j : ℕ) → slice_get (made_from (λ q (x : A). passes q) (λ q. q) (n + 1) ys) j ≡ Some r → passes r ≡ true) → (b : Bool) → passes n ≡ b → (k : ℕ) →
        slice_get (only_if b n ++ made_from (λ q (x : A). passes q) (λ q. q) (n + 1) ys) k ≡ Some r → passes r ≡ true
    first rest true e zero g = ap passes (sym (same_Some n r g)) ∙ e
    first rest true e (suc j) g = rest j g
    first rest false e j g = rest j g

pub good_some : (held : Option (Option Value)) (x : Value) → good held ≡ Some x → held ≡ Some (Some x)
good_some None x h = absurd (none-some x h)
good_some (Some held) x h = ap Some h

-- a local is a register exactly where it is among them
pub register_among : (f : Func) (r : ℕ) → is_some (register_number f r) ≡ is_register f r
register_among f r = by (register_number f r) refl (is_register f r) refl
  where
    by : (o : Option ℕ) → register_number f r ≡ o → (b : Bool) → is_register f r ≡ b → is_some (register_number f r) ≡ is_register f r
    by None e true h = absurd (let w = register_numbered f r h in none-some w.0 (sym e ∙ w.1))
    by None e false h = ap is_some e ∙ sym h
    by (Some n) e true h = ap is_some e ∙ sym h
    by (Some n) e false h = absurd (true≢false (sym (made_passes (λ q. is_register f q) 0 f.locals n r (register_at f r n e)) ∙ h))

some_there : (o : Option ℕ) → is_some o ≡ true → (n : ℕ) × (o ≡ Some n)
some_there None h = absurd (true≢false (sym h))
some_there (Some n) h = (n, refl)

any_at : {A : Type 0} (test : A → Bool) (xs : List A) (k : ℕ) (x : A) → slice_get xs k ≡ Some x → test x ≡ true → list_any test xs ≡ true
any_at test [] k x e t = absurd (none-some x e)
any_at test (y ∷ ys) zero x e t = either_left (test y) (list_any test ys) (ap test (same_Some y x e) ∙ t)
  where
    either_left : (a b : Bool) → a ≡ true → (a || b) ≡ true
    either_left true b h = refl
    either_left false b h = absurd (true≢false (sym h))
any_at test (y ∷ ys) (suc k) x e t = either_right (test y) (list_any test ys) (any_at test ys k x e t)
  where
    either_right : (a b : Bool) → b ≡ true → (a || b) ≡ true
    either_right true b h = refl
    either_right false b h = h

both_same : (a b m n : ℕ) → (nat_eq a m && nat_eq b n) ≡ true → (a ≡ m) × (b ≡ n)
both_same a b m n h = (grind (arith, h), grind (arith, h))

both_there : (a b : ℕ) → (nat_eq a a && nat_eq b b) ≡ true
both_there a b = grind arith

module _ {I : Type 0} (d : Domain I) (p : Program) (facts : Facts I) (n : ℕ) (fact : PointFact I) (there : fact_at facts n ≡ Some fact) where
  same_fact : (other : PointFact I) → fact_at facts n ≡ Some other → other ≡ fact
  same_fact other e = same_Some other fact (sym e ∙ there)

  pub flag_held : (on : Bool) → (may_be_in fact on ≡ true) ↔ MayBeAt d p facts n on
  flag_held on = ((λ t. (fact, there, t)), back)
    where
      back : MayBeAt d p facts n on → may_be_in fact on ≡ true
      back (other, same, may) = subst (λ (z : PointFact I). may_be_in z on ≡ true) (same_fact other same) may

  -- ---- tracked cells

  pub cell_held : (i : ℕ) (x : Value) → IsInCellSet d p fact i x ↔ CellAt d p facts n i x
  cell_held i x = ((λ w. (fact, w.0, there, w.1, w.2)), back)
    where
      back : CellAt d p facts n i x → IsInCellSet d p fact i x
      back (other, number, same, tracks, has) = (number, tracks, subst (λ (z : PointFact I). HasIn d (cell_of z number) x) (same_fact other same) has)

  cells_to : (statics : List (List Value)) → AreCellsHeld d p fact (tracked p) statics → (i : ℕ) (x : Value) → is_some (tracked_number p i) ≡ true → scalar_in statics i 0 ≡ Some x → CellAt d p facts n i x
  cells_to statics h i x t held =
      let m = some_there (tracked_number p i) t in
      let w = h m.0 i (number_at (tracked p) i m.0 m.1) x held in
      (fact, w.0, there, w.1, w.2)

  cells_from : (statics : List (List Value)) → ((i : ℕ) (x : Value) → is_some (tracked_number p i) ≡ true → scalar_in statics i 0 ≡ Some x → CellAt d p facts n i x) → AreCellsHeld d p fact (tracked p) statics
  cells_from statics h k i at x held =
      let m = number_there (tracked p) i (k, at) in
      let (other, number, same, tracks, has) = h i x (ap is_some m.1) held in
      (number, tracks, subst (λ (z : PointFact I). HasIn d (cell_of z number) x) (same_fact other same) has)

  pub cells_held : (statics : List (List Value)) → AreCellsHeld d p fact (tracked p) statics ↔ ((i : ℕ) (x : Value) → is_some (tracked_number p i) ≡ true → scalar_in statics i 0 ≡ Some x → CellAt d p facts n i x)
  cells_held statics = (cells_to statics, cells_from statics)

  module _ (f : Func) (function : IsFunctionAt d p facts n f) where
    same_function : (other : Func) → IsFunctionAt d p facts n other → other ≡ f
    same_function other w =
        let (q, numbered, its) = w in
        let (r, there_numbered, there_its) = function in
        let point : q ≡ r = same_Some q r (sym numbered ∙ there_numbered) in
        same_Some other f (sym its ∙ (ap (λ (z : Point). slice_get p.funcs z.func) point ∙ there_its))

    pub local_held : (r : ℕ) (x : Value) → IsInRegisterSet d fact f r x ↔ LocalAt d p facts n r x
    local_held r x = ((λ w. (fact, f, w.0, there, function, w.1, w.2)), back)
      where
        back : LocalAt d p facts n r x → IsInRegisterSet d fact f r x
        back (other, g, number, same, at_g, register, has) = (
          number,
          subst (λ (z : Func). register_number z r ≡ Some number) (same_function g at_g) register,
          subst (λ (z : PointFact I). HasIn d (local_of z number) x) (same_fact other same) has,
        )

    module _ (values : ℕ → Option (Option Value)) where
      -- ---- registers

      registers_to : (own : Func) → AreRegistersHeld d fact f (registers own) values → AreRegistersIn p (view d p facts) own n values
      registers_to own h r x is held =
          let k = register_numbered own r is in
          let w = h k.0 r (register_at own r k.0 k.1) x (ap good held) in
          (fact, f, w.0, there, function, w.1, w.2)

      registers_from : (own : Func) → AreRegistersIn p (view d p facts) own n values → AreRegistersHeld d fact f (registers own) values
      registers_from own h k r at x held =
          let (other, g, number, same, at_g, register, has) = h r x (made_passes (λ q. is_register own q) 0 own.locals k r at) (good_some (values r) x held) in (
            number,
            subst (λ (z : Func). register_number z r ≡ Some number) (same_function g at_g) register,
            subst (λ (z : PointFact I). HasIn d (local_of z number) x) (same_fact other same) has,
          )

      pub registers_held : (own : Func) → AreRegistersHeld d fact f (registers own) values ↔ AreRegistersIn p (view d p facts) own n values
      registers_held own = (registers_to own, registers_from own)

      -- ---- pairs

      abbrev pub AreSame : List (List Value) → Type 0
      AreSame statics = (r i : ℕ) (x : Value) → SameAt d p facts n r i → values r ≡ Some (Some x) → scalar_in statics i 0 ≡ Some x

      pairs_to : (statics : List (List Value)) → ArePairsHeld p f fact.same values statics → AreSame statics
      pairs_to statics h r i x same held =
          let (other, g, number, cell, is_fact, at_g, register, tracks, has) = same in
          let paired : has_pair fact number cell ≡ true = subst (λ (z : PointFact I). has_pair z number cell ≡ true) (same_fact other is_fact) has in
          let w = any_there (λ (pair : ℕ × ℕ). nat_eq pair.0 number && nat_eq pair.1 cell) fact.same paired in
          let at = at_contained fact.same w.0 w.1 in
          let e = both_same w.0.0 w.0.1 number cell w.2 in
          let its : register_number f r ≡ Some number = subst (λ (z : Func). register_number z r ≡ Some number) (same_function g at_g) register in
          h at.0 w.0 at.1 r i x (its ∙ ap Some (sym e.0)) (tracks ∙ ap Some (sym e.1)) (ap good held)

      pairs_from : (statics : List (List Value)) → AreSame statics → ArePairsHeld p f fact.same values statics
      pairs_from statics h k pair at r i x register tracks held =
          h r i x
          (fact, f, pair.0, pair.1, there, function, register, tracks, any_at (λ (q : ℕ × ℕ). nat_eq q.0 pair.0 && nat_eq q.1 pair.1) fact.same k pair at (both_there pair.0 pair.1))
          (good_some (values r) x held)

      pub pairs_held : (statics : List (List Value)) → ArePairsHeld p f fact.same values statics ↔ AreSame statics
      pairs_held statics = (pairs_to statics, pairs_from statics)
