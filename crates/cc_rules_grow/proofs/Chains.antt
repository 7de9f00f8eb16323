-- What registers that equal a tracked cell leave of its set, one after the other, grows too, also where fewer registers equal it in the
-- greater facts: each register leaves no more than there was.
use Rattle.std.proofs.Common.{◌≡◌, ℕ, Bool, true, false, true≢false, cond, List, [], ◌∷◌, ◌++◌, Option, refl, sym, ◌∙◌, append_assoc, subst}
use Rattle.std.specs.List.{filter}
use Rattle.cc_program.specs.CcNum.declared.target.Target.{Target}
use Rattle.cc_rules.specs.CcPlaces.Abstract.{IsBelowAbs}
use Rattle.cc_rules.specs.CcPlaces.declared.abs.Abs.{Abs}
use Rattle.cc_rules.specs.CcPlaces.declared.abs.Abs.TheVariants as abs
use Rattle.cc_program.specs.declared.expr.Expr.{Expr}
use Rattle.cc_program.specs.declared.func.Func.{Func}
use Rattle.cc_program.specs.declared.program.Program.{Program}
use Rattle.cc_rules.specs.CcRulesFlows.Tests.{Test, IsOfRegister, IsLeftAlike, Alike, Unlike, IsLeftBy}
use Rattle.cc_rules_grow.proofs.Kept.{IsKept, ValuesGrow, abs_through}
use Rattle.cc_rules_grow.proofs.Leaving.{AreWorkedAt, left_grows, left_below}
use Rattle.cc_rules.specs.CcStateOperators.Domains.{Domain}
use Rattle.cc_rules.specs.CcStateOperators.Types.{AreOf}
use Rattle.cc_rules.proofs.CcStateValues.Same.{IsOrdered}
use Rattle.cc_state_points.specs.CcStateValuesGrow.Growth.{AreRegistersBelow, RegistersPoint}
use Rattle.cc_rules.specs.CcSyntax.Values.{ValueType, NoValue, Integer, ToObject, ToFunction}

are_of_less : {I : Type 0} (d : Domain I) (k : IsKept d) (target : Target) (t : ValueType) (x y : Abs I) → IsBelowAbs d.below x y → AreOf d target t y → AreOf d target t x
are_of_less d k target NoValue x y h l = absurd l
are_of_less d k target (Integer t) (abs.Ints x) (abs.Ints y) h l = λ n i. l n (k.grows x y h n i)
are_of_less d k target (Integer t) (abs.Ints x) (abs.Addrs s) h l = absurd l
are_of_less d k target (Integer t) (abs.Addrs r) (abs.Ints y) h l = absurd h
are_of_less d k target (Integer t) (abs.Addrs r) (abs.Addrs s) h l = absurd l
are_of_less d k target (ToObject constant volatile t) (abs.Ints x) (abs.Ints y) h l = absurd l
are_of_less d k target (ToObject constant volatile t) (abs.Ints x) (abs.Addrs s) h l = absurd h
are_of_less d k target (ToObject constant volatile t) (abs.Addrs r) y h l = tt
are_of_less d k target (ToFunction sig) (abs.Ints x) (abs.Ints y) h l = absurd l
are_of_less d k target (ToFunction sig) (abs.Ints x) (abs.Addrs s) h l = absurd h
are_of_less d k target (ToFunction sig) (abs.Addrs r) y h l = tt

module _ {I : Type 0} (d : Domain I) (o : IsOrdered d) (k : IsKept d) (p : Program) (id : ℕ) (f : Func) (grown : ValuesGrow d p id f) (register more : ℕ → Option (Abs I))
    (points : RegistersPoint p f register) (below : AreRegistersBelow d.below register more) (e : Expr) (test : Test) where
  abbrev Below : Abs I → Abs I → Type 0
  Below x y = IsBelowAbs d.below x y

  abbrev OfRegister : (ℕ → Option (Abs I)) → ℕ → Abs I → Type 0
  OfRegister own r y = IsOfRegister d p id f own e test r y

  abbrev LeftAlike : (ℕ → Option (Abs I)) → ℕ → Abs I → Abs I → Type 0
  LeftAlike own r y z = IsLeftAlike d p id f own e test r y z

  abbrev LeftBy : (ℕ → Option (Abs I)) → List ℕ → Abs I → Abs I → Type 0
  LeftBy own rs y z = IsLeftBy d p id f own e test rs y z

  abbrev pub WorkedAt : ℕ → Abs I → Type 0
  WorkedAt r y = AreWorkedAt d o k p id f grown register more points below e test r y

  of_register_less : (r : ℕ) (x y : Abs I) → Below x y → OfRegister more r y → OfRegister register r x
  of_register_less r x y h (l, t, is, scalar, of) = (l, t, is, scalar, are_of_less d k p.target t x y h of)

  alike_grows : (r : ℕ) (y y' z z' : Abs I) → Below y y' → (OfRegister register r y → WorkedAt r y) → LeftAlike register r y z → LeftAlike more r y' z' → Below z z'
  alike_grows r y y' z z' h worked (Alike of l) (Alike of' l') = left_grows d o k p id f grown register more points below e test r y y' z z' h (worked of) l l'
  alike_grows r y y' z z' h worked (Alike of l) (Unlike none same) = subst (λ (s : Abs I). Below z s) (sym same) (abs_through d k z y y' (left_below d o k p id f grown register more points below e test register r y z l) h)
  alike_grows r y y' z z' h worked (Unlike none same) (Alike of' l') = absurd (none (of_register_less r y y' h of'))
  alike_grows r y y' z z' h worked (Unlike none same) (Unlike none' same') = subst (λ (s : Abs I). Below s z') (sym same) (subst (λ (s : Abs I). Below y s) (sym same') h)

  alike_below : (r : ℕ) (y y' z : Abs I) → Below y y' → LeftAlike register r y z → Below z y'
  alike_below r y y' z h (Alike of l) = abs_through d k z y y' (left_below d o k p id f grown register more points below e test register r y z l) h
  alike_below r y y' z h (Unlike none same) = subst (λ (s : Abs I). Below s y') (sym same) h

  -- each register in turn works the members of what the ones before leave
  abbrev pub WorkedBy : List ℕ → Abs I → Type 0
  WorkedBy [] y = Unit {0}
  WorkedBy (r ∷ rs) y = (OfRegister register r y → WorkedAt r y) × ((u : Abs I) → LeftAlike register r y u → WorkedBy rs u)

  pub chain_grows : (P Q : ℕ → Bool) → ((r : ℕ) → Q r ≡ true → P r ≡ true) → (all : List ℕ) (y y' z z' : Abs I) → Below y y' → WorkedBy (filter P all) y → LeftBy register (filter P all) y z → LeftBy more (filter Q all) y' z' → Below z z'
  chain_grows P Q less [] y y' z z' h worked l l' = subst (λ (s : Abs I). Below s z') (sym l) (subst (λ (s : Abs I). Below y s) (sym l') h)
  chain_grows P Q less (r ∷ all) y y' z z' h worked l l' = by (λ y y' g w ls ls'. chain_grows P Q less all y y' z z' g w ls ls') (P r) (Q r) refl refl worked l l'
    where
      by : ((y y' : Abs I) → Below y y' → WorkedBy (filter P all) y → LeftBy register (filter P all) y z → LeftBy more (filter Q all) y' z' → Below z z') → (a b : Bool) → P r ≡ a → Q r ≡ b → WorkedBy (cond a (r ∷ filter P all) (filter P all)) y → LeftBy register (cond a (r ∷ filter P all) (filter P all)) y z → LeftBy more (cond b (r ∷ filter Q all) (filter Q all)) y' z' → Below z z'
      by rest true true i j w (u, l, ls) (u', l', ls') = rest u u' (alike_grows r y y' u u' h w.0 l l') (w.1 u l) ls ls'
      by rest true false i j w (u, l, ls) ls' = rest u y' (alike_below r y y' u h l) (w.1 u l) ls ls'
      by rest false true i j w ls ls' = absurd (true≢false (sym (less r j) ∙ i))
      by rest false false i j w ls ls' = rest y y' h w ls ls'

  -- by what each list of registers before leaves
  pub worked_by : (start : Abs I) (front rs : List ℕ) (y : Abs I) → LeftBy register front start y →
      ((before : List ℕ) (r : ℕ) (behind : List ℕ) (u : Abs I) → front ++ rs ≡ before ++ r ∷ behind → LeftBy register before start u → OfRegister register r u → WorkedAt r u) → WorkedBy rs y
  worked_by start front [] y left each = tt
  worked_by start front (r ∷ rs) y left each = (
    each front r rs y refl left,
    λ u l. worked_by start (front ++ r ∷ []) rs u (one_more front start u l left) (λ before q behind v same. each before q behind v (sym (append_assoc front (r ∷ []) rs) ∙ same)),
  )
    where
      one_more : (front : List ℕ) (x u : Abs I) → LeftAlike register r y u → LeftBy register front x y → LeftBy register (front ++ r ∷ []) x u
      one_more [] x u l left = (u, subst (λ (s : Abs I). LeftAlike register r s u) left l, refl)
      one_more (q ∷ front) x u l (v, first, left) = (v, first, one_more front v u l left)
