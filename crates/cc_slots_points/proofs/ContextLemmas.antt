-- What is said of a context in which expressions are worked, said of the program, the function and the sets of its registers.
use Rattle.std.proofs.Common.{◌≡◌, ℕ, Bool, true, List, Option, Some, ap, sym, subst, inl, inr}
use Rattle.std.specs.Prelude.{◌↔◌, IsTrue, is_some}
use Rattle.std.specs.List.{Contains}
use Rattle.cc_state_points.specs.CcFlow.declared.types.Point.{Point}
use Rattle.cc_state_points.specs.CcPlaces.declared.abs.Abs.{Abs}
use Rattle.cc_program.specs.declared.expr.Place.{Place}
use Rattle.cc_program.specs.declared.func.Func.{Func}
use Rattle.cc_program.specs.declared.program.Program.{Program}
use Rattle.cc_program.specs.declared.stmt.Stmt.{Stmt}
use Rattle.cc_state_points.specs.CcRulesFlows.Acts.{Act, Sets, Reads, Writes, Calls, Saves, Turns, Restores, Tests, Chooses, Returns, Passes, act_of}
use Rattle.cc_state_points.specs.CcRulesFlows.Nexts.{statement_of}
use Rattle.cc_slots_accesses.specs.declared.access.Access.{Access}
use Rattle.cc_slots_accesses.specs.Accesses.{AccessesAt, MayName, NamesByForm}
use Rattle.cc_slots_accesses.specs.Known.{is_volatile_in}
use Rattle.cc_slots_accesses.specs.Outside.{MayBeOutside}
use Rattle.cc_slots_accesses.specs.Puts.{IsPut}
use Rattle.cc_slots_accesses.specs.Visits.{IsVisit}
use Rattle.cc_slots_points.specs.Lists.{IsAccessAt, Names}
use Rattle.cc_slots_points.specs.Points.{HasPurePlace, IsContextOf}
use Rattle.cc_state_points.specs.CcState.Points.{IsPointOf}
use Rattle.cc_state_points.specs.CcState.Shape.{HaveShape}
use Rattle.cc_state_points.proofs.CcState.Sets.{known, sets_at}
use Rattle.cc_state_points.specs.CcStateFacts.declared.facts.Facts.{Facts}
use Rattle.cc_state_points.specs.CcStateFacts.declared.facts.Key.{Key}
use Rattle.cc_state_points.specs.CcStateFacts.Facts.{fact_at, levels_of, mark_of}
use Rattle.cc_state_points.specs.CcStateOperators.Domains.{Domain}
use Rattle.cc_state_points.proofs.Acting.{operands_at}
use Rattle.cc_state_points.specs.Operands.{AreOperands}
use Rattle.cc_state_points.specs.CcStateReads.Reads.{AreNamed, registers_at}
use Rattle.cc_state_points.specs.CcStateValues.declared.context.Context.{Context}
use Rattle.cc_state_points.specs.CcStateValues.Contexts.{HaveSetsIn, set_in}
use Rattle.cc_state_points.specs.CcStateValues.Typed.{HaveSets}
use Rattle.cc_state_points.specs.CcSyntax.Normal.{IsNormal}
use Rattle.cc_state_points.specs.CcSyntax.Programs.{place_type}

module _ {I : Type 0} (p : Program) (facts : Facts I) (n id : ℕ) (f : Func) (c : Context I) (h : IsContextOf p facts n id f c) where
  module _ (P : Program → ℕ → Func → Type 0) where
    pub to_context : P p id f → P c.program.now c.id c.func.now
    to_context k = subst (λ (z : Program). P z c.id c.func.now) (sym h.program) (subst (λ (z : ℕ). P p z c.func.now) (sym h.id) (subst (λ (z : Func). P p id z) (sym h.func) k))

    pub of_context : P c.program.now c.id c.func.now → P p id f
    of_context k = subst (λ (z : Func). P p id z) h.func (subst (λ (z : ℕ). P p z c.func.now) h.id (subst (λ (z : Program). P z c.id c.func.now) h.program k))

  module _ (reached : is_some (fact_at facts n) ≡ true) (P : Program → ℕ → Func → (ℕ → Option (Abs I)) → Type 0) where
    pub sets_into : P p id f (registers_at facts f n) → P c.program.now c.id c.func.now (set_in c)
    sets_into k = subst (λ (z : ℕ → Option (Abs I)). P c.program.now c.id c.func.now z) (sym (h.sets reached)) (to_context (λ x y z. P x y z (registers_at facts f n)) k)

    pub sets_from : P c.program.now c.id c.func.now (set_in c) → P p id f (registers_at facts f n)
    sets_from k = of_context (λ x y z. P x y z (registers_at facts f n)) (subst (λ (z : ℕ → Option (Abs I)). P c.program.now c.id c.func.now z) (h.sets reached) k)

  -- the registers have sets where the point is reached
  pub have_sets : (d : Domain I) → HaveShape d p facts → (q : Point) → q.func ≡ id → IsPointOf p n q f → is_some (fact_at facts n) ≡ true → HaveSetsIn d c
  have_sets d shape q own stands reached =
      sets_into reached (λ x y z registers. HaveSets d x y z registers) (subst (λ (i : ℕ). HaveSets d p i f (registers_at facts f n)) own (sets_at d p facts shape n reached q f stands))

-- an access that is put behind those of its keys, without the context
pub record IsSeen {I : Type 0} (d : Domain I) (p : Program) (facts : Facts I) (n : ℕ) (writes : Bool) (a : Place) (at : AccessesAt p n writes a) (old new : List (List Access)) : Type 0 where
  pub access : Access
  pub named : List Key
  pub stands : access.point ≡ n
  pub kind : access.writes ≡ writes
  pub keys : (k : Key) → Contains named k ↔ Names d p facts k n at.id at.func a
  pub is_access : (k : Key) → Names d p facts k n at.id at.func a → IsAccessAt d p facts k n writes access
  pub put : IsPut p named access old new

module _ {I : Type 0} (d : Domain I) (p : Program) (facts : Facts I) (n : ℕ) (writes : Bool) (a : Place) (here : AccessesAt p n writes a) (c : Context I) (h : IsContextOf p facts n here.id here.func c) (old new : List (List Access))
    (v : IsVisit d c facts (fact_at facts n) n writes a old new) where
  formed : (k : Key) → NamesByForm c.program.now c.id c.func.now a k → NamesByForm p here.id here.func a k
  formed k m = of_context p facts n here.id here.func c h (λ x y z. NamesByForm x y z a k) m

  form : (k : Key) → NamesByForm p here.id here.func a k → NamesByForm c.program.now c.id c.func.now a k
  form k m = to_context p facts n here.id here.func c h (λ x y z. NamesByForm x y z a k) m

  may-name : (k : Key) (named : List Key) → is_some (fact_at facts n) ≡ true → AreNamed d c.program.now c.id c.func.now (set_in c) a named → Contains named k → MayName p d facts n here.id here.func a k
  may-name k named reached are m =
      let fact = known (fact_at facts n) reached in
      record { fact = fact.0; keys = named; reached = fact.1; named = sets_from p facts n here.id here.func c h reached (λ x y z registers. AreNamed d x y z registers a named) are; one = m }

  to-names : (k : Key) → Contains v.named k → Names d p facts k n here.id here.func a
  to-names k m = elim ((v.are_keys k).0 m) [
    | inl w ↦ inl (formed k w)
    | inr w ↦ inr (may-name k w.1.0 w.0 w.1.1 w.1.2)
  ]

  of-names : (k : Key) → Names d p facts k n here.id here.func a → Contains v.named k
  of-names k (inl w) = (v.are_keys k).1 (inl (form k w))
  of-names k (inr m) =
      let reached : is_some (fact_at facts n) ≡ true = ap is_some m.reached in
      (v.are_keys k).1 (inr (reached, (m.keys, sets_into p facts n here.id here.func c h reached (λ x y z registers. AreNamed d x y z registers a m.keys) m.named, m.one)))

  abbrev May : Type 0
  May = (array : Key) × MayBeOutside d p here.id here.func (registers_at facts here.func n) a array

  may-be : IsTrue v.access.may_be_outside ↔ ((is_some (fact_at facts n) ≡ true) × May)
  may-be = (
    (λ t. let w = v.is_known.outside.0 t in (w.0, (w.1.0, sets_from p facts n here.id here.func c h w.0 (λ x y z registers. MayBeOutside d x y z registers a w.1.0) w.1.1))),
    (λ w. v.is_known.outside.1 (w.0, (w.1.0, sets_into p facts n here.id here.func c h w.0 (λ x y z registers. MayBeOutside d x y z registers a w.1.0) w.1.1))),
  )

  pub is_seen : IsSeen d p facts n writes a here old new
  is_seen = record {
    access = v.access;
    named = v.named;
    stands = v.is_known.stands;
    kind = v.is_known.kind;
    keys = λ k. (to-names k, of-names k);
    is_access = λ k own. record {
      place = a;
      at = here;
      names = own;
      volatile = of_context p facts n here.id here.func c h (λ x y z. v.access.is_volatile ≡ is_volatile_in (place_type x z.locals a)) v.is_known.volatile;
      outside = may-be;
      reached = v.is_known.reached;
      on = v.is_known.on;
      by_handler = of_context p facts n here.id here.func c h (λ x y z. v.access.by_handler ≡ mark_of facts.by_handler y) v.is_known.by_handler;
      levels = of_context p facts n here.id here.func c h (λ x y z. v.access.levels ≡ levels_of facts.levels y) v.is_known.levels;
      from = of_context p facts n here.id here.func c h (λ x y z. v.access.from ≡ levels_of facts.from y) v.is_known.from;
    };
    put = subst (λ (z : Program). IsPut z v.named v.access old new) h.program v.is_put;
  }

-- the place that a statement accesses has pure operands
of_act : (p : Program) (f : Func) (x : Act) → AreOperands p f x → HasPurePlace p f x
of_act p f (Sets r e) h = tt
of_act p f (Reads r a) h = h.1
of_act p f (Writes a e) h = h.0
of_act p f (Calls result g args) h = tt
of_act p f (Saves result) h = tt
of_act p f (Turns on) h = tt
of_act p f (Restores e) h = tt
of_act p f (Tests e these those) h = tt
of_act p f (Chooses e cases) h = tt
of_act p f (Returns e) h = tt
of_act p f Passes h = tt

pub of_operands : (p : Program) → IsNormal p → (n : ℕ) (q : Point) (f : Func) (s : Stmt) → IsPointOf p n q f → statement_of f q ≡ Some s → HasPurePlace p f (act_of f s)
of_operands p normal n q f s stands is = of_act p f (act_of f s) (operands_at p normal q.func f stands.function q.path s is)
