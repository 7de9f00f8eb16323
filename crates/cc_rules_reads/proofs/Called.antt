-- Which functions a call may reach, by its form: one that is called by its name is that one.
use Rattle.std.proofs.Common.{◌≡◌, ℕ, Bool, true, false, List, Contains, Option, refl, ap, sym, ◌∙◌, subst}
use Rattle.cc_rules.specs.CcFlow.declared.types.Point.{Point}
use Rattle.cc_rules.specs.CcPlaces.Abstract.{HasValue}
use Rattle.cc_rules.specs.CcPlaces.declared.abs.Abs.{Abs}
use Rattle.cc_rules.specs.CcPlaces.declared.abs.Abs.TheVariants as abs
use Rattle.cc_rules.specs.CcPlaces.declared.addrs.Addrs.{Addrs}
use Rattle.cc_rules.specs.CcPlaces.Kept.{member_for}
use Rattle.cc_rules.specs.CcPlaces.Sets.{HasAddress}
use Rattle.cc_program.specs.declared.expr.Expr.{Expr, out-Expr}
use Rattle.cc_program.specs.declared.expr.Expr.TheOpen as one
use Rattle.cc_program.specs.declared.expr.Place.{Place}
use Rattle.cc_program.specs.declared.func.Func.{Func}
use Rattle.cc_program.specs.declared.program.Program.{Program}
use Rattle.cc_program.specs.declared.value.Address.TheVariants as address
use Rattle.cc_program.specs.declared.value.Value.TheVariants as value
use Rattle.cc_rules.specs.Rules.{AreCalled}
use Rattle.cc_rules_reads.specs.Reads.{MayCall}
use Rattle.cc_rules.specs.CcStateFacts.declared.facts.Facts.{Facts}
use Rattle.cc_rules.specs.CcStateFacts.declared.facts.PointFact.{PointFact}
use Rattle.cc_rules.specs.CcStateOperators.Addresses.{IsOnly}
use Rattle.cc_rules.specs.CcStateOperators.Domains.{Domain}
use Rattle.cc_rules.specs.CcStateReads.Reads.{registers_at}
use Rattle.cc_rules.specs.CcStateValues.Values.{IsVal, OfConst, OfNull, OfFunction, OfRegister, OfAddress, OfUn, OfBin, OfConv, OfQualify, OfMove, OfGap, OfCompare, OfBoth, OfEither, OfChoose}

member_kept : (exact : Bool) (g : ℕ) → member_for exact (address.Func g) ≡ address.Func g
member_kept true g = refl
member_kept false g = refl

one_function : (s : Addrs) (g h : ℕ) → IsOnly (address.Func g) s → HasAddress s (address.Func h) → h ≡ g
one_function s g h only has =
    let b = (only.has (address.Func h)).0 has in
    let same : address.Func h ≡ address.Func g = sym (sym (member_kept s.is_exact g) ∙ (ap (member_for s.is_exact) (sym b.1) ∙ (b.2 ∙ member_kept s.is_exact h))) in
    cc

module _ {I : Type 0} (d : Domain I) (p : Program) (id : ℕ) (f : Func) (register : ℕ → Option (Abs I)) where
  -- of a function's name
  abbrev CalleeAt : one.Expr-F Expr Place → Abs I → Type 0
  CalleeAt (one.FuncAddr g) y = (s : Addrs) × IsOnly (address.Func g) s × (y ≡ abs.Addrs s)
  CalleeAt _ y = Unit {0}

  callee_form : (e : Expr) (y : Abs I) → IsVal d p id f register e y → CalleeAt (out-Expr e) y
  callee_form e y (OfFunction g s h k l) = subst (λ z. CalleeAt z y) (sym h) (s, k, l)
  callee_form e y (OfConst n t x h k l) = subst (λ z. CalleeAt z y) (sym h) tt
  callee_form e y (OfNull t s h k l) = subst (λ z. CalleeAt z y) (sym h) tt
  callee_form e y (OfRegister a r h k l) = subst (λ z. CalleeAt z y) (sym h) tt
  callee_form e y (OfAddress a s h k l) = subst (λ z. CalleeAt z y) (sym h) tt
  callee_form e y (OfUn q t a x z h k w g l) = subst (λ z. CalleeAt z y) (sym h) tt
  callee_form e y (OfBin q t a b x w z h k m v g l) = subst (λ z. CalleeAt z y) (sym h) tt
  callee_form e y (OfConv t a x z h k g l) = subst (λ z. CalleeAt z y) (sym h) tt
  callee_form e y (OfQualify t a h k) = subst (λ z. CalleeAt z y) (sym h) tt
  callee_form e y (OfMove a b back s r x h k m g l) = subst (λ z. CalleeAt z y) (sym h) tt
  callee_form e y (OfGap a b s t x h k m g l) = subst (λ z. CalleeAt z y) (sym h) tt
  callee_form e y (OfCompare q a b s t x h k m g l) = subst (λ z. CalleeAt z y) (sym h) tt
  callee_form e y (OfBoth a b x w z h k m g l) = subst (λ z. CalleeAt z y) (sym h) tt
  callee_form e y (OfEither a b x w z h k m g l) = subst (λ z. CalleeAt z y) (sym h) tt
  callee_form e y (OfChoose c a b x u w h k m n g) = subst (λ z. CalleeAt z y) (sym h) tt

module _ {I : Type 0} (d : Domain I) (p : Program) (facts : Facts I) (n id : ℕ) (f : Func) (point : Point) (fact : PointFact I) where
  pub may_call : (e : Expr) (gs : List ℕ) → AreCalled d p facts n id f point fact e gs → (h : ℕ) → Contains gs h → MayCall e h
  may_call e gs called h c k is =
      let (s, only, at) = subst (λ z. CalleeAt d p id f (registers_at facts f n) z called.operand) is (callee_form d p id f (registers_at facts f n) e called.operand called.given) in
      one_function s k h only (subst (λ (y : Abs I). HasValue d.has y (value.Place (address.Func h))) at ((called.called h).0 c))
