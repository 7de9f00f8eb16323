-- What is known at a point with each set as a test leaves it is what flows where the test passes.
use Rattle.std.proofs.Common.{arith, All, inl, inr, ◌↔◌, ◌≡◌, ◌+◌, ◌*◌, ◌<◌, ◌==◌, ◌/◌, ◌%◌, ◌&&◌, nat_eq, ℕ, ℤ, List, ◌∷◌, ◌++◌, length, get_or, position, Option, Some, None, option_and_then, slice_get, refl, ap, sym, subst, ◌∙◌}
use Rattle.std.specs.List.{list_any}
use Rattle.std.specs.Option.{IfSome}
use Rattle.std.proofs.lemmas.Option.{slice_get-get_or, slice_get_within}
use Rattle.cc_rules_flows.specs.CcLattice.Domains.{AreEnds}
use Rattle.cc_rules_flows.specs.CcPlaces.declared.abs.Abs.{Abs}
use Rattle.cc_rules_flows.specs.declared.after.Here.{Here}
use Rattle.cc_rules_flows.specs.Flows.{equal_to, equals}
use Rattle.cc_rules_flows.specs.Here.{IsHere}
use Rattle.cc_rules_flows.proofs.ShapeLemmas.{keeps}
use Rattle.cc_rules_flows.specs.Tests.{IsLeft, IsLeftBy, IsOfRegister}
use Rattle.cc_rules_flows.specs.CcRulesNeeds.Flowing.{of_fact}
use Rattle.cc_rules_sides.specs.Refined.{AreLeft, AreRowsLeft, AreWorkedOf, IsCellLeft, IsLeftByIn, IsOneEmptied, equal_from}
use Rattle.cc_rules_choices.specs.Sided.{AreMembersWorked, HasLeft, IsLike, IsSideHere}
use Rattle.cc_rules_choices.proofs.Kept.{all_keep, rows_alike, rows_long, sets_alike}
use Rattle.cc_rules_sides.proofs.CellLemmas.{as_filter}
use Rattle.cc_rules_sides.proofs.Emptied.{something_left}
use Rattle.cc_rules_choices.proofs.Numbered.{register_numbered}
use Rattle.cc_rules_tests.specs.declared.tested.Tested.{Tested}
use Rattle.cc_rules_tests.specs.Tested.{IsExplicitIn, IsLeftIn, IsOfRegisterIn, IsValWith, IsWorkedAt, test_of}
use Rattle.cc_rules_flows.specs.CcStateFacts.declared.facts.PointFact.{PointFact}
use Rattle.cc_rules_flows.specs.CcStateFacts.declared.facts.Row.{Row}
use Rattle.cc_rules_flows.specs.CcStateFacts.Facts.{cell_of, has_pair, local_of, row_length}
use Rattle.cc_rules_flows.specs.CcStateKeys.Tracked.{registers, register_number}
use Rattle.cc_rules_flows.specs.CcStateFacts.Orders.{Ascend}
use Rattle.cc_rules_flows.specs.CcStateOperators.Domains.{Domain, IsHull}
use Rattle.cc_rules_flows.specs.CcStateReads.Reads.{registers_at}
use Rattle.cc_rules_flows.specs.CcStateValues.declared.context.Context.{Context}
use Rattle.cc_rules_flows.specs.CcStateValues.Contexts.{set_in}

numbered : (cell : ℕ) → row_length * (cell / row_length) + cell % row_length ≡ cell
numbered cell = omega arith

module _ {I : Type 0} (d : Domain I) (here : Here I) (h : IsHere d here) where
  -- the registers of the function at the point
  pub there : (P : (ℕ → Option (Abs I)) → Type 0) → P (set_in here.context) → P (registers_at here.facts.now here.context.func.now here.number)
  there P p =
      let a : P (λ r. option_and_then (slice_get here.context.sets.now) (register_number here.context.func.now r)) =
      subst (λ rs. P (λ r. option_and_then (slice_get here.context.sets.now) (position (λ q. q == r) rs))) h.registers p in
      let b : P (λ r. option_and_then (local_of here.fact.now) (register_number here.context.func.now r)) =
      subst (λ sets. P (λ r. option_and_then (slice_get sets) (register_number here.context.func.now r))) h.sets a in
      subst (λ x. P (λ r. option_and_then (λ local. option_and_then (λ fact. local_of fact local) x) (register_number here.context.func.now r))) (sym h.reached) b

  -- and back
  pub back : (P : (ℕ → Option (Abs I)) → Type 0) → P (registers_at here.facts.now here.context.func.now here.number) → P (set_in here.context)
  back P p = subst P (sym (there (λ s. set_in here.context ≡ s) refl)) p

  -- the registers that equal a cell
  equal_at : (cell k r : ℕ) → slice_get (registers here.context.func.now) k ≡ Some r → equals d here.context.program.now here.context.id here.context.func.now here.facts.now here.point.now here.number here.fact.now (register_number here.context.func.now r) cell ≡ has_pair here.fact.now (0 + k) cell
  equal_at cell k r e =
      let z : k ≡ 0 + k = omega arith in
      ap (λ o. equals d here.context.program.now here.context.id here.context.func.now here.facts.now here.point.now here.number here.fact.now o cell) (register_numbered here.context.func.now k r e) ∙ ap (λ m. has_pair here.fact.now m cell) z

  pub equal_there : (cell : ℕ) → equal_to d here.context.program.now here.context.id here.context.func.now here.facts.now here.point.now here.number here.fact.now cell ≡ equal_from here.fact.now cell 0 here.context.registers.now
  equal_there cell = as_filter here.fact.now cell _ 0 (registers here.context.func.now) (λ k r e. equal_at cell k r e) ∙ ap (equal_from here.fact.now cell 0) (sym h.registers)

  module _ (t : Tested I) (same : t.context.now ≡ here.context) where
    pub left_there : (r : ℕ) (y z : Abs I) → IsLeftIn d t r y z → IsLeft d here.context.program.now here.context.id here.context.func.now (registers_at here.facts.now here.context.func.now here.number) t.expression.now (test_of t.test) r y z
    left_there r y z k =
        there (λ s. IsLeft d here.context.program.now here.context.id here.context.func.now s t.expression.now (test_of t.test) r y z)
        (subst (λ (c : Context I). IsLeft d c.program.now c.id c.func.now (set_in c) t.expression.now (test_of t.test) r y z) same k)

    pub left_by_there : (rs : List ℕ) (y z : Abs I) → IsLeftByIn d t rs y z → IsLeftBy d here.context.program.now here.context.id here.context.func.now (registers_at here.facts.now here.context.func.now here.number) t.expression.now (test_of t.test) rs y z
    left_by_there rs y z k =
        there (λ s. IsLeftBy d here.context.program.now here.context.id here.context.func.now s t.expression.now (test_of t.test) rs y z)
        (subst (λ (c : Context I). IsLeftBy d c.program.now c.id c.func.now (set_in c) t.expression.now (test_of t.test) rs y z) same k)

    left_by_back : (rs : List ℕ) (y z : Abs I) → IsLeftBy d here.context.program.now here.context.id here.context.func.now (registers_at here.facts.now here.context.func.now here.number) t.expression.now (test_of t.test) rs y z → IsLeftByIn d t rs y z
    left_by_back rs y z k =
        subst (λ (c : Context I). IsLeftBy d c.program.now c.id c.func.now (set_in c) t.expression.now (test_of t.test) rs y z) (sym same)
        (back (λ s. IsLeftBy d here.context.program.now here.context.id here.context.func.now s t.expression.now (test_of t.test) rs y z) k)

    module _ (made : PointFact I) (off : made.off ≡ here.fact.now.off) (on : made.on ≡ here.fact.now.on) (pairs : made.same ≡ here.fact.now.same)
        (locals : AreLeft d t (registers here.context.func.now) here.fact.now.locals made.locals) (rows : AreRowsLeft d t here.fact.now here.fact.now.rows made.rows) where
      local_there : (number r : ℕ) (y : Abs I) → slice_get (registers here.context.func.now) number ≡ Some r → local_of here.fact.now number ≡ Some y →
          (z : Abs I) × (slice_get made.locals number ≡ Some z) × IsLeft d here.context.program.now here.context.id here.context.func.now (registers_at here.facts.now here.context.func.now here.number) t.expression.now (test_of t.test) r y z
      local_there number r y a b =
          let l = slice_get_within (registers here.context.func.now) number r a in
          let e = locals.each in
          let is = slice_get-get_or made.locals number y (omega (arith, l, e)) in
          (get_or made.locals number y, is, left_there r y (get_or made.locals number y) (locals.left number r y (get_or made.locals number y) a b is))

      -- in a row, and in all rows
      in_row : (row : Option (Row I)) (n j : ℕ) (y : Abs I) → slice_get here.fact.now.rows n ≡ row → option_and_then (λ (x : Row I). slice_get x.cells j) row ≡ Some y →
          (z : Abs I) × (option_and_then (λ (x : Row I). slice_get x.cells j) (slice_get made.rows n) ≡ Some z) × IsCellLeft d t (equal_from here.fact.now (row_length * n + j) 0 t.context.now.registers.now) y z
      in_row None n j y e k = absurd (cc)
      in_row (Some x) n j y e k =
          let l = slice_get_within here.fact.now.rows n x e in
          let q = rows.each in
          let w = get_or made.rows n x in
          let is : slice_get made.rows n ≡ Some w = slice_get-get_or made.rows n x (omega (arith, l, q)) in
          let cells = rows.cells n x w e is in
          let m = slice_get_within x.cells j y k in
          let u = cells.each in
          let z = get_or w.cells j y in
          let at : slice_get w.cells j ≡ Some z = slice_get-get_or w.cells j y (omega (arith, m, u)) in
          (z, ap (option_and_then (λ (x : Row I). slice_get x.cells j)) is ∙ at, cells.cells j y z k at)

      pub is_side : IsSideHere d here t.expression.now (test_of t.test) (of_fact made)
      is_side = record {
        off = off;
        on = on;
        locals = local_there;
        cells = cell_there;
        pairs = λ r j. ap (λ ps. list_any (λ (pair : ℕ × ℕ). nat_eq pair.0 r && nat_eq pair.1 j) ps) pairs;
      }
        where
          cell_there : (cell : ℕ) (y : Abs I) → cell_of here.fact.now cell ≡ Some y → (z : Abs I) × (cell_of made cell ≡ Some z)
              × IsLeftBy d here.context.program.now here.context.id here.context.func.now (registers_at here.facts.now here.context.func.now here.number) t.expression.now (test_of t.test)
              (equal_to d here.context.program.now here.context.id here.context.func.now here.facts.now here.point.now here.number here.fact.now cell) y z
          cell_there cell y e =
              let w = in_row (slice_get here.fact.now.rows (cell / row_length)) (cell / row_length) (cell % row_length) y refl e in
              let rs = equal_from here.fact.now cell 0 t.context.now.registers.now in
              let left : IsLeftByIn d t rs y w.0 = subst (λ n. IsLeftByIn d t (equal_from here.fact.now n 0 t.context.now.registers.now) y w.0) (numbered cell) w.2.left in
              let own : rs ≡ equal_to d here.context.program.now here.context.id here.context.func.now here.facts.now here.point.now here.number here.fact.now cell =
              ap (λ (c : Context I). equal_from here.fact.now cell 0 c.registers.now) same ∙ sym (equal_there cell) in
              (w.0, w.1, subst (λ bs. IsLeftBy d here.context.program.now here.context.id here.context.func.now (registers_at here.facts.now here.context.func.now here.number) t.expression.now (test_of t.test) bs y w.0) own (left_by_there rs y w.0 left))

      -- the value has been worked
      members_own : (number r : ℕ) (m : ℤ) → slice_get (registers here.context.func.now) number ≡ Some r → (y : Abs I) → local_of here.fact.now number ≡ Some y → IsExplicitIn d t.context.now y m → IsWorkedAt d t r m
      members_own number r m a y b explicit = locals.worked number r y m a b explicit

      members_alike : (r : ℕ) (m : ℤ) (cell : ℕ) (before behind : List ℕ) (y u : Abs I) →
          equal_to d here.context.program.now here.context.id here.context.func.now here.facts.now here.point.now here.number here.fact.now cell ≡ before ++ r ∷ behind → cell_of here.fact.now cell ≡ Some y →
          IsLeftBy d here.context.program.now here.context.id here.context.func.now (registers_at here.facts.now here.context.func.now here.number) t.expression.now (test_of t.test) before y u →
          IsOfRegisterIn d t r u → IsExplicitIn d t.context.now u m → IsWorkedAt d t r m
      members_alike r m cell before behind y u split e left of explicit =
          let w = in_row (slice_get here.fact.now.rows (cell / row_length)) (cell / row_length) (cell % row_length) y refl e in
          let rs = equal_from here.fact.now cell 0 t.context.now.registers.now in
          let worked : AreWorkedOf d t rs y = subst (λ n. AreWorkedOf d t (equal_from here.fact.now n 0 t.context.now.registers.now) y) (numbered cell) w.2.worked in
          let own : rs ≡ before ++ r ∷ behind = ap (λ (c : Context I). equal_from here.fact.now cell 0 c.registers.now) same ∙ (sym (equal_there cell) ∙ split) in
          worked r before behind u m own (left_by_back before y u left) of explicit

      at_here : (r : ℕ) (m : ℤ) → IsWorkedAt d t r m → (one : I) × (y : Abs I) × IsHull d (λ k. k ≡ m) one × IsValWith d here.context r one t.expression.now y
      at_here r m (one, y, hull, value) = (one, y, hull, subst (λ (c : Context I). IsValWith d c r one t.expression.now y) same value)

      of_here : (r : ℕ) (u : Abs I) → IsOfRegister d here.context.program.now here.context.id here.context.func.now (registers_at here.facts.now here.context.func.now here.number) t.expression.now (test_of t.test) r u → IsOfRegisterIn d t r u
      of_here r u k = subst (λ (c : Context I). IsOfRegister d c.program.now c.id c.func.now (set_in c) t.expression.now (test_of t.test) r u) (sym same) k

      pub members : AreMembersWorked d here t.expression.now (test_of t.test)
      members number r m a (inl (y, b, explicit)) = at_here r m (members_own number r m a y b explicit)
      members number r m a (inr (cell, before, behind, y, u, split, e, left, of, explicit)) = at_here r m (members_alike r m cell before behind y u split e left (of_here r u of) explicit)

      -- whether each register that had a value has one
      local_count : length here.fact.now.locals ≡ length (registers here.context.func.now)
      local_count = h.each ∙ ap length h.registers

      pub emptied : IsOneEmptied d here.fact.now.locals made.locals → HasLeft d here (of_fact made) → ⊥
      emptied (number, y, z, a, b, gone) left = let w = left number y z gone.0.0 a b gone.0.1 in gone.1 w.0 w.1

      pub all_left : (bounds : I → Option (ℤ × ℤ)) → ((x : I) → (bounds x ≡ None) ↔ ((n : ℤ) → d.has x n → ⊥)) → ((x : I) → IfSome (bounds x) (AreEnds (d.has x))) →
          (IsOneEmptied d here.fact.now.locals made.locals → ⊥) → HasLeft d here (of_fact made)
      all_left bounds none ends kept number y z v a b k =
          something_left d bounds none ends y z v (all_keep d t (registers here.context.func.now) here.fact.now.locals made.locals local_count locals number y z a b) (λ gone. kept (number, y, z, a, b, gone)) k

      -- the shape of what is known
      pub like : IsLike d here made
      like = record {
        kept = keeps (length here.context.registers.now) (length here.tracked.now) here.fact.now made (locals.each ∙ sym local_count) (rows_long d t here.fact.now here.fact.now.rows made.rows rows) (λ o. subst Ascend (sym pairs) o)
            (λ b. subst (λ (ps : List (ℕ × ℕ)). All (λ (pair : ℕ × ℕ). (pair.0 < length here.context.registers.now) × (pair.1 < length here.tracked.now)) ps) (sym pairs) b);
        alike = record {
          locals = sets_alike d t (registers here.context.func.now) here.fact.now.locals made.locals local_count locals;
          rows = rows_alike d t here.fact.now here.fact.now.rows made.rows rows;
        };
      }
