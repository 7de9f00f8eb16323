-- Lowered places, and what is read from them.
use Rattle.std.proofs.Common.{◌≡◌, ℕ, Bool, true, false, ◌+◌, [], length, Option, Some, None, is_some, refl, ap, sym, ◌∙◌, subst}
use Rattle.std.proofs.lemmas.Option.{same_Some}
use Rattle.std.specs.Prelude.{if◌then◌else◌, option_and_then}
use Rattle.cc_lower_expressions.specs.Expressions.{Piece, piece, done, ◌>>=◌, emit, set, into, fresh, Lowers, PlaceLowering, from_one, whole_by, value_of, read_at, read, whole_right, whole_read, read_unused}
use Rattle.cc_lower_expressions.specs.Temporaries.{declared_type, is_same_type}
use Rattle.cc_program.specs.declared.expr.Expr.{Expr, Load}
use Rattle.cc_program.specs.declared.expr.Expr.TheOpen as one
use Rattle.cc_program.specs.declared.expr.Place.{Place, Local, Element, Member, Deref, roll-Place, map-Place, fold-roll-Place, out-roll-Place}
use Rattle.cc_program.specs.declared.expr.Place.TheVariants.{rolls-Local, outs-Element, outs-Member, outs-Deref}
use Rattle.cc_program.specs.declared.func.Func.{Func}
use Rattle.cc_program.specs.declared.program.Program.{Program}
use Rattle.cc_eval.specs.CcSyntax.Effects.{Registers, no_one, also, is_soft, Effects, PlaceEffects, effects_of, place_effects_of, effect_step, place_effect_step}
use Rattle.cc_eval.specs.CcSyntax.Expressions.{of_one, of_two}
use Rattle.cc_eval.specs.CcSyntax.Operators.{is_integer, subscript_type}
use Rattle.cc_eval.specs.CcSyntax.Registers.{is_register}
use Rattle.cc_eval.specs.CcSyntax.Values.{ValueType, PlaceType, is_scalar, read_from, pointed_to, member_of, element_of}
use Rattle.cc_lower_sound.proofs.LoweringParts.{low, place_low, place_lowered_as, lowered_place_parts}
use Rattle.cc_lower_sound.proofs.Pieces.{Any, Declared, gives_done, gives_bind, gives_under, gives_emit, gives_fresh, gives_into, gives_if, gives_mapped, gives_both}
use Rattle.cc_lower_sound.proofs.Readings.{Reading, Laws, typed, placed, Makes, IsLoweredPlace, takes_own, local_of}
use Rattle.cc_lower_sound.proofs.Scalars.{has_one, has_two, integral, pointed_scalar, read_scalar}
use Rattle.cc_lower_sound.proofs.LoweredOperands.{Claim, PlaceClaim, At, whole_made}

-- which register a local is
local_by : (f : Func) (s r : ℕ) (b : Bool) → is_register f s ≡ b → (if b then Some s else None) ≡ Some r → (is_register f r ≡ true) × (s ≡ r)
local_by f s r true e h = let k : s ≡ r = same_Some s r h in (subst (λ (n : ℕ). is_register f n ≡ true) k e, k)
local_by f s r false e h = absurd (cc)

soft_there : (o : Option ℕ) (later : Registers) → is_soft o later ≡ true → (r : ℕ) × (o ≡ Some r)
soft_there None later h = absurd (cc)
soft_there (Some r) later h = (r, refl)

subscripted : (b : Bool) (x : Option PlaceType) (t : PlaceType) → (if b then x else None) ≡ Some t → b ≡ true
subscripted true x t h = refl
subscripted false x t h = absurd (cc)

module _ (p : Program) (f : Func) where
  pub place-effects-roll : (x : one.Place-F Expr Place) → place_effects_of f (roll-Place x) ≡ place_effect_step f (map-Place Expr Place Effects PlaceEffects (effects_of f) (place_effects_of f) x)
  unfolding effects_of place_effects_of
  place-effects-roll x = fold-roll-Place Effects PlaceEffects effect_step (place_effect_step f) x

  module _ (w : Reading) (laws : Laws p f w) where
    abbrev pub AtPlace : PlaceType → one.Place-F Expr Place → Type 0
    AtPlace t x = IsLoweredPlace p f w t (place_lowered_as p f (place_effects_of f (roll-Place x)) (Some t) (roll-Place x) (lowered_place_parts p f x))

    -- ---- places without operands

    pub at-Local : (s : ℕ) (t : PlaceType) → placed p f (roll-Place (one.Local s)) ≡ Some t → w.OldPlace (roll-Place (one.Local s)) → AtPlace t (one.Local s)
    at-Local s t h o = record {
      ctype = refl;
      operands = λ later. gives_done (roll-Place (one.Local s)) (λ q. laws.place_itself (roll-Place (one.Local s)) t no_one h o (ap (λ (e : PlaceEffects). e.pure no_one) (place-effects-roll (one.Local s))));
      same = λ later n. refl;
      local = λ r e.
          let k = local_by f s r (is_register f s) refl (sym (ap (λ (e : PlaceEffects). e.register) (place-effects-roll (one.Local s))) ∙ e) in
          (k.0, λ later n. ap (λ (a : Place). piece [] [] a) (rolls-Local s ∙ ap Local k.1));
    }

    -- of a place that is no register
    no_local : (x : one.Place-F Expr Place) (l : PlaceLowering) → l.effects ≡ place_effects_of f (roll-Place x) → (place_effect_step f (map-Place Expr Place Effects PlaceEffects (effects_of f) (place_effects_of f) x)).register ≡ None →
        (r : ℕ) → l.effects.register ≡ Some r → (is_register f r ≡ true) × ((later : Registers) (k : ℕ) → l.operands later k ≡ piece [] [] (Local r))
    no_local x l d e r h = let c : None ≡ Some r = sym e ∙ sym (ap (λ (e : PlaceEffects). e.register) (d ∙ place-effects-roll x)) ∙ h in absurd (cc)

    abbrev made_as : PlaceType → one.Place-F Expr Place → PlaceLowering
    made_as t x = place_lowered_as p f (place_effects_of f (roll-Place x)) (Some t) (roll-Place x) (lowered_place_parts p f x)

    pub at-Static : (i : ℕ) (t : PlaceType) → placed p f (roll-Place (one.Static i)) ≡ Some t → w.OldPlace (roll-Place (one.Static i)) → AtPlace t (one.Static i)
    at-Static i t h o = record {
      ctype = refl;
      operands = λ later. gives_done (roll-Place (one.Static i)) (λ q. laws.place_itself (roll-Place (one.Static i)) t no_one h o (ap (λ (e : PlaceEffects). e.pure no_one) (place-effects-roll (one.Static i))));
      same = λ later n. refl;
      local = no_local (one.Static i) (made_as t (one.Static i)) refl refl;
    }

    pub at-Device : (i : ℕ) (t : PlaceType) → placed p f (roll-Place (one.Device i)) ≡ Some t → w.OldPlace (roll-Place (one.Device i)) → AtPlace t (one.Device i)
    at-Device i t h o = record {
      ctype = refl;
      operands = λ later. gives_done (roll-Place (one.Device i)) (λ q. laws.place_itself (roll-Place (one.Device i)) t no_one h o (ap (λ (e : PlaceEffects). e.pure no_one) (place-effects-roll (one.Device i))));
      same = λ later n. refl;
      local = no_local (one.Device i) (made_as t (one.Device i)) refl refl;
    }

    -- ---- places with operands

    pub at-Element : (a : Place) (i : Expr) (t : PlaceType) → PlaceClaim p f w laws a → Claim p f w laws i → w.OldPlace a → w.Old i → of_two (placed p f a) (typed p f i) subscript_type ≡ Some t → AtPlace t (one.Element a i)
    at-Element a i t ca ci oa oi k =
        let x = has_two (placed p f a) (typed p f i) subscript_type t k in
        let s = integral x.second (subscripted (is_integer x.second) (element_of x.first) t x.gives) in
        record {
          ctype = refl;
          operands = λ later.
              gives_both Element ((place_low p f a).operands (also (low p f i).effects.assigned later)) ((low p f i).operand later) (λ b e q v u. laws.element x.first t x.second b e v u x.gives)
              ((ca x.first x.is_first oa).operands (also (low p f i).effects.assigned later)) ((ci x.second x.is_second oi).operand s later);
          same = λ later n. ap local_of (outs-Element ((place_low p f a).operands (also (low p f i).effects.assigned later) n).value ((low p f i).operand later (n + length ((place_low p f a).operands (also (low p f i).effects.assigned later) n).temps)).value) ∙ sym (ap local_of (out-roll-Place (one.Element a i)));
          local = no_local (one.Element a i) (made_as t (one.Element a i)) refl refl;
        }

    pub at-Member : (a : Place) (m : ℕ) (t : PlaceType) → PlaceClaim p f w laws a → w.OldPlace a → of_one (placed p f a) (member_of p.structures m) ≡ Some t → AtPlace t (one.Member a m)
    at-Member a m t ca oa k =
        let x = has_one (placed p f a) (member_of p.structures m) t k in
        record {
          ctype = refl;
          operands = λ later. gives_mapped (λ b. Member b m) (λ b q v. laws.member x.first t b m v x.gives) ((ca x.first x.is oa).operands later);
          same = λ later n. ap local_of (outs-Member ((place_low p f a).operands later n).value m) ∙ sym (ap local_of (out-roll-Place (one.Member a m)));
          local = no_local (one.Member a m) (made_as t (one.Member a m)) refl refl;
        }

    pub at-Deref : (e : Expr) (t : PlaceType) → Claim p f w laws e → w.Old e → of_one (typed p f e) pointed_to ≡ Some t → AtPlace t (one.Deref e)
    at-Deref e t ce oe k =
        let x = has_one (typed p f e) pointed_to t k in
        record {
          ctype = refl;
          operands = λ later. gives_mapped Deref (λ v q u. laws.pointed x.first t v u x.gives) ((ce x.first x.is oe).operand (pointed_scalar x.first t x.gives) later);
          same = λ later n. ap local_of (outs-Deref ((low p f e).operand later n).value) ∙ sym (ap local_of (out-roll-Place (one.Deref e)));
          local = no_local (one.Deref e) (made_as t (one.Deref e)) refl refl;
        }

    -- a right side goes to a register, by a temporary where its type is another one
    pub whole_right_made : (t : ValueType) (scalar : is_scalar t ≡ true) (standing : w.declares t ≡ true) (own : Option ValueType) (right : Lowers Expr) → own ≡ Some t → (o : Option ValueType) (n : ℕ) (later : Registers) → Makes p f w (Unit {0}) (w.Right t) (right later) →
        Makes p f w (w.Takes n t) Any (whole_right p f declared_type is_same_type own right o n later)
    whole_right_made t scalar standing own right e o n later g =
        gives_bind (right later) (λ x. if is_same_type own o then emit (set n x) else (into own x >>= (λ v. emit (set n v)))) (gives_under (λ q. tt) g)
        (λ x. gives_if (is_same_type own o) (emit (set n x)) (into own x >>= (λ v. emit (set n v)))
        (λ z. gives_emit (set n x) (λ q. laws.put_right n t x q.0 q.1))
        (λ z. gives_bind (into own x) (λ v. emit (set n v))
        (gives_into {V = w.Val t} own t x e scalar standing (λ q m d. (laws.put_right m t x (takes_own p f w laws m t d scalar standing) q.1, laws.temporary m t d scalar standing)))
        (λ v. gives_emit (set n v) (λ q. laws.put n t v q.0.0 q.1))))

    -- ---- reads

    module _ (a : Place) (at : PlaceType) (h : IsLoweredPlace p f w at (place_low p f a)) where
      abbrev l : PlaceLowering
      l = place_low p f a

      -- a register is named as it is
      abbrev pub Named : Place → Type 0
      Named b = (r : ℕ) → l.effects.register ≡ Some r → b ≡ Local r

      pub named_operands : (later : Registers) → Makes p f w (Unit {0}) (λ b. w.Pla at b × Named b) (l.operands later)
      named_operands later = record {
        good = (h.operands later).good;
        made = λ k q d. let x = (h.operands later).made k q d in (x.0, (x.1, λ r e. ap (λ (z : Piece Place). z.value) ((h.local r e).1 later k)));
      }

      -- the place of a register
      pub local_place : (r : ℕ) → l.effects.register ≡ Some r → w.Pla at (Local r)
      local_place r e =
          let k : l.operands no_one 0 ≡ piece [] [] (Local r) = (h.local r e).1 no_one 0 in
          let d = subst (λ (z : Piece Place). Declared w.Temp 0 z.temps) (sym k) tt in
          subst (λ (z : Piece Place). w.Pla at z.value) k ((h.operands no_one).made 0 tt d).1

      module _ (t : ValueType) (reads : read_from at ≡ Some t) (scalar : is_scalar t ≡ true) (standing : w.declares t ≡ true) where
        pub value-is : value_of l ≡ Some t
        value-is = ap (option_and_then read_from) h.ctype ∙ reads

        soft_read : (b : Place) → w.Pla at b → Named b → (later : Registers) → is_soft l.effects.register later ≡ true → w.Val t (Load b)
        soft_read b v n later e =
            let r = soft_there l.effects.register later e in
            subst (λ (z : Place). w.Val t (Load z)) (sym (n r.0 r.1)) (laws.register r.0 at t (h.local r.0 r.1).0 (local_place r.0 r.1) reads)

        pub read_at_made : (Q : Type 0) (b : Place) (later : Registers) → (Q → w.Pla at b × Named b) → Makes p f w Q (w.Val t) (read_at l later b)
        read_at_made Q b later g =
            gives_if (is_soft l.effects.register later) (done (Load b)) (into (value_of l) (Load b))
            (λ e. gives_done (Load b) (λ q. soft_read b (g q).0 (g q).1 later e))
            (λ e. gives_into {V = w.Val t} (value_of l) t (Load b) value-is scalar standing (λ q n d. (laws.put_right n t (Load b) (takes_own p f w laws n t d scalar standing) (laws.read at t b (g q).0 reads), laws.temporary n t d scalar standing)))

        pub read_made : (later : Registers) → Makes p f w (Unit {0}) (w.Val t) (read l later)
        read_made later = gives_bind (l.operands later) (read_at l later) (named_operands later) (λ b. read_at_made (Unit {0} × (w.Pla at b × Named b)) b later (λ q. q.1))

        pub whole_read_made : (o : Option ValueType) (n : ℕ) (later : Registers) → Makes p f w (w.Takes n t) Any (whole_read p f declared_type is_same_type l o n later)
        whole_read_made o n later =
            gives_if (is_some l.effects.register) (whole_by (read l) o n later) (whole_right p f declared_type is_same_type (value_of l) (from_one Load l.operands) o n later)
            (λ e. whole_made p f w laws t (read l) o n later (read_made later))
            (λ e. whole_right_made t scalar standing (value_of l) (from_one Load l.operands) value-is o n later (gives_mapped Load (λ b q v. laws.read at t b v reads) (h.operands later)))

        pub unused_read_made : (later : Registers) → Makes p f w (Unit {0}) Any (read_unused p f declared_type is_same_type l later)
        unused_read_made later =
            gives_bind (fresh (value_of l)) (λ n. whole_read p f declared_type is_same_type l (value_of l) n later) (gives_fresh (value_of l) t value-is scalar standing)
            (λ n. gives_under (λ q. takes_own p f w laws n t q.1 scalar standing) (whole_read_made (value_of l) n later))

    pub at-Load : (a : Place) (t : ValueType) (e : Expr) → PlaceClaim p f w laws a → w.OldPlace a → w.declares t ≡ true →
        of_one (placed p f a) read_from ≡ Some t → At p f w laws t e (one.Load a)
    at-Load a t e ca oa h k =
        let x = has_one (placed p f a) read_from t k in
        let c = ca x.first x.is oa in
        let s = read_scalar x.first t x.gives in
        record {
          ctype = refl;
          operand = λ q later. read_made a x.first c t x.gives s h later;
          whole = λ q o n later. whole_read_made a x.first c t x.gives s h o n later;
          effect = λ later. unused_read_made a x.first c t x.gives s h later;
        }
