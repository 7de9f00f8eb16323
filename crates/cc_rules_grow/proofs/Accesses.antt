-- A place that a statement in normal form accesses has a type.
use Rattle.std.proofs.Common.{◌≡◌, ◌⊎◌, inl, inr, ℕ, List, Option, Some, None, refl, slice_get, subst}
use Rattle.cc_rules.specs.CcFlow.declared.types.Point.{Point}
use Rattle.cc_rules.specs.CcFlowSound.Statements.{statement_at}
use Rattle.cc_program.specs.declared.expr.Expr.{Expr}
use Rattle.cc_program.specs.declared.expr.Place.{Place}
use Rattle.cc_program.specs.declared.func.Func.{Func}
use Rattle.cc_program.specs.declared.program.Program.{Program}
use Rattle.cc_program.specs.declared.stmt.Stmt.{Stmt}
use Rattle.cc_rules.specs.Rules.{act_at}
use Rattle.cc_rules.specs.CcRulesFlows.Acts.{Act, Reads, Writes}
use Rattle.cc_rules.specs.CcRulesFlows.Nexts.{IsPoint, statement_of}
use Rattle.cc_state_points.proofs.Acting.{operands_at}
use Rattle.cc_state_points.specs.Operands.{AreOperands}
use Rattle.cc_rules.specs.CcSyntax.Normal.{IsNormal}
use Rattle.cc_rules.specs.CcSyntax.Programs.{place_type}
use Rattle.cc_rules.specs.CcSyntax.Values.{PlaceType}

operands_there : (p : Program) → IsNormal p → (id : ℕ) (f : Func) → slice_get p.funcs id ≡ Some f → (path : List ℕ) (o : Option Stmt) → statement_at f.body path ≡ o → AreOperands p f (act_at o f)
operands_there p normal id f function path None e = tt
operands_there p normal id f function path (Some s) e = operands_at p normal id f function path s e

accessed : (p : Program) (f : Func) (act : Act) → AreOperands p f act → (a : Place) → ((r : ℕ) × (act ≡ Reads r a)) ⊎ ((e : Expr) × (act ≡ Writes a e)) → (t : PlaceType) × (place_type p f.locals a ≡ Some t)
accessed p f act h a (inl (r, is)) = let own = subst (AreOperands p f) is h in own.1.typed
accessed p f act h a (inr (e, is)) = let own = subst (AreOperands p f) is h in own.0.typed

pub place_typed : (p : Program) → IsNormal p → (n id : ℕ) (f : Func) (point : Point) (a : Place) → IsPoint p n id f point →
    ((r : ℕ) × (act_at (statement_of f point) f ≡ Reads r a)) ⊎ ((e : Expr) × (act_at (statement_of f point) f ≡ Writes a e)) → (t : PlaceType) × (place_type p f.locals a ≡ Some t)
place_typed p normal n id f point a is_point at = accessed p f (act_at (statement_of f point) f) (operands_there p normal id f is_point.function point.path (statement_of f point) refl) a at
