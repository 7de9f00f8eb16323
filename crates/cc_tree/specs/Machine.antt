-- A twin of the code: the parser's machine, its state, a turn, and what turns lead to.
use Rattle.std.specs.Prelude.{◌≡◌, ◌≤◌, ◌<◌, ◌+◌, ⊤, ℕ, Bool, true, false, List, [], ◌∷◌, ◌++◌, Option, Some, None, Result, Ok, Err, length, take}
use Rattle.cc_tree.specs.declared.state.Control.{Control}
use Rattle.cc_tree.specs.declared.state.Control.TheVariants as control
use Rattle.cc_tree.specs.declared.state.Frame.{Frame}
use Rattle.cc_tree.specs.declared.state.Scoping.{Scoping}
use Rattle.cc_tree.specs.declared.state.Scoping.TheVariants as scoping
use Rattle.cc_tree.specs.declared.state.Tall.{Tall}
use Rattle.cc_tree.specs.declared.stop.Stop.{Stop}
use Rattle.cc_tree.specs.declared.stop.Stop.TheVariants as stop
use Rattle.cc_tree.specs.declared.unit.Unit.{Unit as UnitTree}
use Rattle.cc_tree.specs.Depth.{depth}
use Rattle.cc_tree.specs.Reading.{◌>>=◌, wrong}
use Rattle.cc_tree.specs.Scopes.{Scope, is_typedef}
use Rattle.cc_tree.specs.Tokens.{Tokens, Name}
use Rattle.cc_tree.specs.Turns.{Turn, Went}
use Rattle.cc_tree.specs.TurnTrees as trees
use Rattle.cc_tree.specs.TurnTypes as types
use Rattle.cc_tree.specs.TurnLines as lines

-- the typedef names in scope, what waits (the innermost first), what is to be done, and the tokens ahead
pub record State : Type 0 where
  pub scope : Scope
  pub frames : List Frame
  pub control : Control
  pub rest : Tokens

-- something that is handed over leaves the frame that waits for it
abbrev pub hands : (Frame → Turn) → List Frame → Tokens → Result (List Frame × Went) Stop
hands give [] ts = wrong ts
hands give (f ∷ fs) ts = give f >>= λ t. Ok (fs, t)

-- the frames stay
abbrev pub stays : List Frame → Turn → Result (List Frame × Went) Stop
stays fs r = r >>= λ t. Ok (fs, t)

abbrev pub turned : Scope → List Frame → Tokens → Control → Result (List Frame × Went) Stop
turned scope fs ts (control.Expr l) = stays fs (trees.expr l ts)
turned scope fs ts (control.Operand l) = stays fs (trees.operand scope l ts)
turned scope fs ts (control.Postfix e) = stays fs (trees.postfix e ts)
turned scope fs ts (control.Operators least level e) = stays fs (trees.operators least level e ts)
turned scope fs ts (control.Tree level e) = hands (lines.to_tree level e ts) fs ts
turned scope fs ts (control.Specs s) = stays fs (types.specifiers scope s ts)
turned scope fs ts (control.HaveSpecs s) = hands (lines.to_specs s ts) fs ts
turned scope fs ts (control.Structure s) = stays fs (types.structure s ts)
turned scope fs ts (control.Enumr e) = stays fs (types.enumr scope e ts)
turned scope fs ts (control.Enumeration e) = stays fs (types.enumeration e ts)
turned scope fs ts control.Declr = stays fs (types.declarator scope ts)
turned scope fs ts (control.Suffix d) = stays fs (types.suffix d ts)
turned scope fs ts (control.HaveDeclr d) = hands (lines.to_declr scope d ts) fs ts
turned scope fs ts control.Value = stays fs (lines.value ts)
turned scope fs ts (control.HaveValue g) = hands (lines.to_value g ts) fs ts
turned scope fs ts (control.Decl outside) = stays fs (lines.declaration outside ts)
turned scope fs ts (control.Inits d) = stays fs (lines.inits d ts)
turned scope fs ts (control.HaveDecl n d) = hands (lines.to_decl n d ts) fs ts
turned scope fs ts control.Statement = stays fs (lines.statement scope ts)
turned scope fs ts (control.Block b) = stays fs (lines.block scope b ts)
turned scope fs ts (control.HaveLine a) = hands (lines.to_line a ts) fs ts
turned scope fs ts (control.Test f) = stays fs (lines.for_test f ts)
turned scope fs ts (control.Step f) = stays fs (lines.for_step f ts)
turned scope fs ts (control.HaveBody b) = hands (lines.to_body b ts) fs ts
turned scope fs ts (control.Items is) = stays fs (lines.items is ts)
turned scope fs ts (control.HaveItem i) = hands (lines.to_item i ts) fs ts
turned scope fs ts (control.Done u) = wrong ts

abbrev pub with_frame : {F : Type 0} → Option F → List F → List F
with_frame None fs = fs
with_frame (Some f) fs = f ∷ fs

-- with a name that is in scope from now on; one that is in scope already is not declared again (C99 6.7, 3)
abbrev pub with_typedef : Name → Scope → Bool → Scope
with_typedef x scope true = scope
with_typedef x scope false = scope ++ x ∷ []

abbrev pub scope_after : Scoping → Scope → Scope
scope_after scoping.Same scope = scope
scope_after (scoping.Declares x) scope = with_typedef x scope (is_typedef scope x)
scope_after (scoping.Leaves n) scope = take n scope

abbrev pub state_after : Scope → List Frame × Went → State
state_after scope r = record { scope = scope_after r.1.scoping scope; frames = with_frame r.1.frame r.0; control = r.1.control; rest = r.1.rest }

-- one turn
unfoldable pub turn : State → Result State Stop
turn s = turned s.scope s.frames s.rest s.control >>= λ r. Ok (state_after s.scope r)

-- before the first turn
abbrev pub start : Tokens → State
start ts = record { scope = []; frames = []; control = control.Items (record { items = []; height = 0 }); rest = ts }

-- the height of what has just been read
abbrev pub height_of : Control → ℕ
height_of (control.Postfix e) = e.height
height_of (control.Operators least level e) = e.height
height_of (control.Tree level e) = e.height
height_of (control.Suffix d) = d.height
height_of (control.HaveDeclr d) = d.height
height_of (control.HaveValue g) = g.height
height_of (control.HaveLine a) = a.height
height_of (control.Done u) = u.height
height_of _ = 0

-- Turns lead from one state to another, over states in which nothing higher than this has just been read.
pub data Leads (limit : ℕ) : State → State → Type 0 where
  Here : (s : State) → Leads limit s s
  There : (s t u : State) → turn s ≡ Ok t → height_of t.control ≤ limit → Leads limit t u → Leads limit s u

-- whether nothing is left to do
abbrev pub is_done : Control → Bool
is_done (control.Done u) = true
is_done _ = false

-- Turns lead to the end, with this unit.
pub record Reads (limit : ℕ) (ts : Tokens) (u : Tall UnitTree) : Type 0 where
  pub last : State
  pub led : Leads limit (start ts) last
  pub done : last.control ≡ control.Done u
  pub low : u.height ≤ limit

-- how high what waits and what has just been read are together
abbrev pub whole_height : State → ℕ
whole_height s = depth s.frames + height_of s.control

-- Turns lead from one state to another, over states in which what waits and what has just been read are together no higher than this.
pub data LeadsWithin (limit : ℕ) : State → State → Type 0 where
  Stays : (s : State) → LeadsWithin limit s s
  Goes : (s t u : State) → turn s ≡ Ok t → whole_height t ≤ limit → LeadsWithin limit t u → LeadsWithin limit s u

-- Turns lead, within the limit, to a state from which there is none, since what stands n tokens in front of the end cannot stand there.
pub record Refuses (limit : ℕ) (ts : Tokens) (n : ℕ) : Type 0 where
  pub last : State
  pub led : LeadsWithin limit (start ts) last
  pub unfinished : is_done last.control ≡ false
  pub refused : turn last ≡ Err (stop.Wrong n)

-- Turns lead, within the limit, to a state, n tokens in front of the end, behind whose turn the nodes that wait and what has
-- just been read are together higher than the limit.
pub record Exceeds (limit : ℕ) (ts : Tokens) (n : ℕ) : Type 0 where
  pub last : State
  pub led : LeadsWithin limit (start ts) last
  pub next : State
  pub turned : turn last ≡ Ok next
  pub high : limit < whole_height next
  pub ahead : n ≡ length last.rest

-- where a fault is one of syntax, at n tokens in front of the end
abbrev pub IfWrong : (ℕ → Type 0) → Stop → Type 0
IfWrong P (stop.Wrong n) = P n
IfWrong P _ = ⊤

-- where a fault is one of height, at n tokens in front of the end
abbrev pub IfDeep : (ℕ → Type 0) → Stop → Type 0
IfDeep P (stop.Deep n) = P n
IfDeep P _ = ⊤
