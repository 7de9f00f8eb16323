-- A point accesses one place at the most, and what is done for its statement is done for it.
use Rattle.std.proofs.Common.{◌≡◌, ℕ, Bool, true, false, List, Some, None, refl, ap, sym, subst, ◌∙◌}
use Rattle.std.specs.Prelude.{slice_get}
use Rattle.std.proofs.lemmas.Option.{same_Some, none-some}
use Rattle.cc_state_points.specs.CcFlow.declared.types.Point.{Point}
use Rattle.cc_state_points.specs.CcFlow.Points.{flow_of}
use Rattle.cc_program.specs.declared.expr.Expr.{Expr}
use Rattle.cc_program.specs.declared.expr.Place.{Place}
use Rattle.cc_program.specs.declared.func.Func.{Func}
use Rattle.cc_program.specs.declared.program.Program.{Program}
use Rattle.cc_program.specs.declared.stmt.Stmt.{Stmt}
use Rattle.cc_state_points.specs.CcRulesFlows.Acts.{Act, Sets, Reads, Writes, Calls, Saves, Turns, Restores, Tests, Chooses, Returns, Passes, act_of}
use Rattle.cc_state_points.specs.CcRulesFlows.Nexts.{statement_of}
use Rattle.cc_slots_accesses.specs.declared.access.Access.{Access}
use Rattle.cc_slots_accesses.specs.Accesses.{Accesses, AReader, AWriter, AccessesAt}
use Rattle.cc_slots_points.specs.Points.{IsContextOf, IsDone, IsPassed, Quiet, Visited}
use Rattle.cc_state_points.specs.CcStateFacts.declared.facts.Facts.{Facts}
use Rattle.cc_state_points.specs.CcStateFacts.Facts.{fact_at}
use Rattle.cc_state_points.specs.CcStateOperators.Domains.{Domain}
use Rattle.cc_state_points.specs.CcStateValues.declared.context.Context.{Context}

-- ---- one access

pub record AreSame (u v : Bool) (a b : Place) : Type 0 where
  pub kind : u ≡ v
  pub place : a ≡ b

both_read : (r q : ℕ) (a b : Place) → Reads r a ≡ Reads q b → a ≡ b
both_read r q a b h = cc

both_write : (e x : Expr) (a b : Place) → Writes a e ≡ Writes b x → a ≡ b
both_write e x a b h = cc

same_access : {u v : Bool} {a b : Place} (x : Act) → Accesses u x a → Accesses v x b → AreSame u v a b
same_access x (AReader r h) (AReader q m) = record { kind = refl; place = both_read r q _ _ (sym h ∙ m) }
same_access x (AReader r h) (AWriter e m) = absurd (cc)
same_access x (AWriter e h) (AReader q m) = absurd (cc)
same_access x (AWriter e h) (AWriter y m) = record { kind = refl; place = both_write e y _ _ (sym h ∙ m) }

module _ (p : Program) (n : ℕ) (u v : Bool) (a b : Place) (x : AccessesAt p n u a) (y : AccessesAt p n v b) where
  same_point : x.point ≡ y.point
  same_point = same_Some x.point y.point (sym x.here.numbered ∙ y.here.numbered)

  pub same_id : x.id ≡ y.id
  same_id = sym x.here.own ∙ (ap (λ (q : Point). q.func) same_point ∙ y.here.own)

  pub same_func : x.func ≡ y.func
  same_func = same_Some x.func y.func (sym x.here.function ∙ (ap (slice_get p.funcs) same_id ∙ y.here.function))

  same_statement : x.statement ≡ y.statement
  same_statement = same_Some x.statement y.statement (sym x.stands ∙ (ap (λ g. statement_of g x.point) same_func ∙ (ap (statement_of y.func) same_point ∙ y.stands)))

  same_act : act_of x.func x.statement ≡ act_of y.func y.statement
  same_act = ap (λ g. act_of g x.statement) same_func ∙ ap (act_of y.func) same_statement

  pub one_access : AreSame u v a b
  one_access = same_access (act_of y.func y.statement) (subst (λ (z : Act). Accesses u z a) same_act x.access) y.access

-- ---- no access

abbrev IsSilent : Act → Type 0
IsSilent (Reads r a) = ⊥
IsSilent (Writes a e) = ⊥
IsSilent (Sets r e) = Unit {0}
IsSilent (Calls result g args) = Unit {0}
IsSilent (Saves result) = Unit {0}
IsSilent (Turns on) = Unit {0}
IsSilent (Restores e) = Unit {0}
IsSilent (Tests e these those) = Unit {0}
IsSilent (Chooses e cases) = Unit {0}
IsSilent (Returns e) = Unit {0}
IsSilent Passes = Unit {0}

silent : {w : Bool} {a : Place} (x : Act) → IsSilent x → Accesses w x a → ⊥
silent x s (AReader r h) = subst IsSilent h s
silent x s (AWriter e h) = subst IsSilent h s

-- ---- the point of a function

module _ (p : Program) (n : ℕ) where
  pub no_point : slice_get (flow_of p).points n ≡ None → (w : Bool) (a : Place) → AccessesAt p n w a → ⊥
  no_point h w a x = none-some x.point (sym h ∙ x.here.numbered)

  module _ (q : Point) (numbered : slice_get (flow_of p).points n ≡ Some q) where
    own_point : (w : Bool) (a : Place) (x : AccessesAt p n w a) → x.point ≡ q
    own_point w a x = same_Some x.point q (sym x.here.numbered ∙ numbered)

    own_id : (w : Bool) (a : Place) (x : AccessesAt p n w a) → x.id ≡ q.func
    own_id w a x = sym x.here.own ∙ ap (λ (z : Point). z.func) (own_point w a x)

    pub no_function : slice_get p.funcs q.func ≡ None → (w : Bool) (a : Place) → AccessesAt p n w a → ⊥
    no_function h w a x = none-some x.func (sym h ∙ (ap (slice_get p.funcs) (sym (own_id w a x)) ∙ x.here.function))

    module _ (f : Func) (function : slice_get p.funcs q.func ≡ Some f) where
      own_func : (w : Bool) (a : Place) (x : AccessesAt p n w a) → x.func ≡ f
      own_func w a x = same_Some x.func f (sym x.here.function ∙ (ap (slice_get p.funcs) (own_id w a x) ∙ function))

      own_statement : (w : Bool) (a : Place) (x : AccessesAt p n w a) → statement_of f q ≡ Some x.statement
      own_statement w a x = sym (ap (λ g. statement_of g x.point) (own_func w a x) ∙ ap (statement_of f) (own_point w a x)) ∙ x.stands

      pub no_statement : statement_of f q ≡ None → (w : Bool) (a : Place) → AccessesAt p n w a → ⊥
      no_statement h w a x = none-some x.statement (sym h ∙ own_statement w a x)

      module _ (s : Stmt) (stands : statement_of f q ≡ Some s) where
        pub of_act : (w : Bool) (a : Place) → AccessesAt p n w a → Accesses w (act_of f s) a
        of_act w a x =
            subst (λ (t : Stmt). Accesses w (act_of f t) a) (same_Some x.statement s (sym (own_statement w a x) ∙ stands))
            (subst (λ (g : Func). Accesses w (act_of g x.statement) a) (own_func w a x) x.access)

        abbrev there : (w : Bool) (a : Place) → Accesses w (act_of f s) a → AccessesAt p n w a
        there w a access = record {
          id = q.func;
          func = f;
          point = q;
          statement = s;
          here = record { numbered = numbered; own = refl; function = function };
          stands = stands;
          access = access;
        }

        module _ {I : Type 0} (d : Domain I) (facts : Facts I) (c : Context I) (context : IsContextOf p facts n q.func f c) (old new : List (List Access)) where
          quiet : (x : Act) → act_of f s ≡ x → IsSilent x → new ≡ old → IsPassed d p facts n old new
          quiet x e silence same = Quiet (λ w a at. silent x silence (subst (λ (z : Act). Accesses w z a) e (of_act w a at))) same

          passed : (x : Act) → act_of f s ≡ x → IsDone d c facts (fact_at facts n) n x old new → IsPassed d p facts n old new
          passed (Reads r a) e h = Visited false a (there false a (AReader r e)) c context h
          passed (Writes a x) e h = Visited true a (there true a (AWriter x e)) c context h
          passed (Sets r x) e h = quiet (Sets r x) e tt h
          passed (Calls result g args) e h = quiet (Calls result g args) e tt h
          passed (Saves result) e h = quiet (Saves result) e tt h
          passed (Turns on) e h = quiet (Turns on) e tt h
          passed (Restores x) e h = quiet (Restores x) e tt h
          passed (Tests x these those) e h = quiet (Tests x these those) e tt h
          passed (Chooses x cases) e h = quiet (Chooses x cases) e tt h
          passed (Returns x) e h = quiet (Returns x) e tt h
          passed Passes e h = quiet Passes e tt h

          pub is_passed : IsDone d c facts (fact_at facts n) n (act_of f s) old new → IsPassed d p facts n old new
          is_passed h = passed (act_of f s) refl h
