-- What the statement at a point does, as the code has it.
use Rattle.std.specs.Prelude.{◌≡◌, ℕ, ◌==◌, Bool, true, false, List, [], Option, Some, None, is_none, slice_get, if◌then◌else◌}
use Rattle.std.specs.List.{AllZip}
use Rattle.cc_rules_asked.specs.CcFlow.declared.types.Point.{Point}
use Rattle.cc_rules_asked.specs.CcFlow.Points.{flow_of}
use Rattle.cc_rules_asked.specs.CcFlowSound.Moves.{entry}
use Rattle.cc_program.specs.declared.expr.Expr.{Expr, out-Expr}
use Rattle.cc_program.specs.declared.expr.Expr.TheOpen as one
use Rattle.cc_program.specs.declared.expr.Place.{Place, out-Place}
use Rattle.cc_program.specs.declared.func.Func.{Func}
use Rattle.cc_program.specs.declared.program.Program.{Program}
use Rattle.cc_rules_asked.specs.CcRules.Rules.{act_at}
use Rattle.cc_rules_again.specs.Again.{written, accessed, returns, entry_readers}
use Rattle.cc_rules_again.specs.Named as is
use Rattle.cc_rules_asked.specs.CcRulesFlows.Acts.{Act, Reads, Calls}
use Rattle.cc_rules_asked.specs.CcRulesFlows.Nexts.{statement_of}
use Rattle.cc_rules_numbered.specs.declared.constraints.Rule.{Rule}
use Rattle.cc_rules_numbered.specs.declared.constraints.Rule.TheVariants as rule
use Rattle.cc_rules_readers.specs.declared.deeds.Called.{Called}
use Rattle.cc_rules_readers.specs.declared.deeds.Called.TheVariants as called
use Rattle.cc_rules_readers.specs.declared.deeds.Deed.{Deed}
use Rattle.cc_rules_readers.specs.declared.naming.Named.{Named}
use Rattle.cc_rules_readers.specs.declared.naming.Named.TheVariants as named
use Rattle.cc_rules_asked.specs.CcStateFacts.declared.facts.Key.{Key}
use Rattle.cc_rules_asked.specs.CcStateFacts.declared.facts.Key.TheVariants as key
use Rattle.cc_rules_asked.specs.CcStateKeys.Tracked.{tracked}
use Rattle.cc_rules_asked.specs.CcStateReads.Reads.{object_in}

abbrev pub named_view : Named → is.Named
named_view named.NoKey = is.NoKey
named_view (named.OneKey k) = is.OneKey k
named_view (named.MembersAt m) = is.MembersAt m
named_view (named.LocalsOf g) = is.LocalsOf g
named_view named.EachKey = is.EachKey

abbrev pub no_key : is.Named
no_key = is.NoKey

-- ---- keys of one object, of the locals of one function, of the members at one position

abbrev pub key_object : Key → Option ℕ
key_object (key.Object i) = Some i
key_object (key.Local g r) = None
key_object (key.Member s m) = None

abbrev pub key_function : Key → Option ℕ
key_function (key.Object i) = None
key_function (key.Local g r) = Some g
key_function (key.Member s m) = None

abbrev pub key_member : Key → Option ℕ
key_member (key.Object i) = None
key_member (key.Local g r) = None
key_member (key.Member s m) = Some m

abbrev pub object_of : is.Named → Option ℕ
object_of is.NoKey = None
object_of (is.OneKey k) = key_object k
object_of (is.MembersAt m) = None
object_of (is.LocalsOf g) = None
object_of is.EachKey = None

abbrev pub function_of : is.Named → Option ℕ
function_of is.NoKey = None
function_of (is.OneKey k) = key_function k
function_of (is.MembersAt m) = None
function_of (is.LocalsOf g) = Some g
function_of is.EachKey = None

abbrev pub member_of : is.Named → Option ℕ
member_of is.NoKey = None
member_of (is.OneKey k) = key_member k
member_of (is.MembersAt m) = Some m
member_of (is.LocalsOf g) = None
member_of is.EachKey = None

-- ---- calls

abbrev pub calls_it : Called → ℕ → Bool
calls_it called.Nothing g = false
calls_it (called.Function h) g = g == h
calls_it called.Each g = true

abbrev pub is_some_call : Called → Bool
is_some_call called.Nothing = false
is_some_call (called.Function h) = true
is_some_call called.Each = true

abbrev pub callee_of : one.Expr-F Expr Place → Called
callee_of (one.FuncAddr h) = called.Function h
callee_of _ = called.Each

abbrev pub called_of : Act → Called
called_of (Calls result e args) = callee_of (out-Expr e)
called_of _ = called.Nothing

-- ---- a statement of a function, where these are the tracked cells

abbrev pub read_in : List ℕ → ℕ → Act → is.Named
read_in cells id (Reads r a) = if is_none (object_in cells (out-Place a)) then is.named id a else is.NoKey
read_in cells id _ = is.NoKey

pub record IsDeedBy (cells : List ℕ) (id : ℕ) (act : Act) (deed : Deed) : Type 0 where
  pub func : deed.func ≡ id
  pub read : named_view deed.read ≡ read_in cells id act
  pub written : named_view deed.written ≡ written id act
  pub accessed : named_view deed.accessed ≡ accessed id act
  pub called : deed.called ≡ called_of act
  pub returns : deed.returns ≡ returns act

module _ (p : Program) where
  -- of a point, which is one of a function
  abbrev pub IsDeedAt : Point → Deed → Type 0
  IsDeedAt point deed = (f : Func) × (slice_get p.funcs point.func ≡ Some f) × IsDeedBy (tracked p) point.func (act_at (statement_of f point) f) deed

  -- of each point
  abbrev pub AreDeeds : List Deed → Type 0
  AreDeeds deeds = AllZip IsDeedAt (flow_of p).points deeds

  -- who reads what the constraint of the start raises, where it stands at a point
  abbrev pub start_readers : ℕ → List ℕ
  start_readers point = if point == entry p p.main then entry_readers p p.main else []

-- for first values, for the start and for another rule
abbrev pub by_rule : Rule → List ℕ → List ℕ → List ℕ → List ℕ
by_rule rule.Initial first start others = first
by_rule rule.Start first start others = start
by_rule _ first start others = others
