-- The parser's machine comes to an end: each turn lowers its measure.
use Rattle.std.proofs.Common.{◌≡◌, ◌<◌, ◌+◌, ◌*◌, ℕ, List, [], ◌∷◌, Option, Some, None, Result, Ok, Err, IfOk, subst, length, arith}
use Rattle.cc_tree.specs.declared.state.Control.{Control}
use Rattle.cc_tree.specs.declared.state.Control.TheVariants as control
use Rattle.cc_tree.specs.declared.state.Frame.{Frame}
use Rattle.cc_tree.specs.declared.stop.Stop.{Stop}
use Rattle.cc_tree.specs.Machine.{State, turn, turned, hands, stays, with_frame, state_after}
use Rattle.cc_tree.specs.Measure.{rank, measure}
use Rattle.cc_tree.specs.Reading.{◌>>=◌}
use Rattle.cc_tree.specs.Scopes.{Scope}
use Rattle.cc_tree.specs.Tokens.{Tokens}
use Rattle.cc_tree.specs.Turns.{Turn, Went}
use Rattle.cc_tree.specs.TurnTrees as trees
use Rattle.cc_tree.specs.TurnTypes as types
use Rattle.cc_tree.specs.TurnLines as lines
use Rattle.cc_tree.proofs.MeasureTokens.{frame_weight, Falls}
use Rattle.cc_tree.proofs.MeasureTrees.{expr-falls, operand-falls, postfix-falls, operators-falls}
use Rattle.cc_tree.proofs.MeasureTypes.{specifiers-falls, structure-falls, enumr-falls, enumeration-falls, declarator-falls, suffix-falls}
use Rattle.cc_tree.proofs.MeasureLines.{value-falls, declaration-falls, inits-falls, statement-falls, block-falls, for_test-falls, for_step-falls, items-falls, to_tree-falls, to_specs-falls, to_declr-falls, to_value-falls, to_decl-falls, to_line-falls, to_body-falls, to_item-falls}

frame-weight : (f : Option Frame) (fs : List Frame) → 2 * length (with_frame f fs) ≡ 2 * length fs + frame_weight f
frame-weight None fs = omega arith
frame-weight (Some f) fs = omega arith

-- the weight of what waits and of what a turn left
abbrev whole : List Frame × Went → ℕ
whole r = 16 * length r.1.rest + 2 * length (with_frame r.1.frame r.0) + rank r.1.control

abbrev Lower : ℕ → Result (List Frame × Went) Stop → Type 0
Lower n r = IfOk r (λ p. whole p < n)

stays-lower : (fs : List Frame) (n k : ℕ) (r : Turn) → Falls n r → n + 2 * length fs ≡ k → Lower k (stays fs r)
stays-lower fs n k (Err e) h l = tt
stays-lower fs n k (Ok t) h l = omega (arith, frame-weight t.frame fs)

-- the frame that is taken counts for what it gets
hands-lower : (give : Frame → Turn) (fs : List Frame) (ts : Tokens) (n k : ℕ) → ((f : Frame) → Falls n (give f)) → n + 2 * length fs ≡ k + 2 → Lower k (hands give fs ts)
hands-lower give [] ts n k h l = tt
hands-lower give (f ∷ fs) ts n k h l = stays-lower fs n k (give f) (h f) (omega arith)

turned-lower : (scope : Scope) (fs : List Frame) (ts : Tokens) (c : Control) → Lower (16 * length ts + 2 * length fs + rank c) (turned scope fs ts c)
turned-lower scope fs ts (control.Expr l) = stays-lower fs (16 * length ts + 3) _ (trees.expr l ts) (expr-falls l ts) (omega arith)
turned-lower scope fs ts (control.Operand l) = stays-lower fs (16 * length ts) _ (trees.operand scope l ts) (operand-falls scope l ts) (omega arith)
turned-lower scope fs ts (control.Postfix e) = stays-lower fs (16 * length ts + 1) _ (trees.postfix e ts) (postfix-falls e ts) (omega arith)
turned-lower scope fs ts (control.Operators least level e) = stays-lower fs (16 * length ts + 1) _ (trees.operators least level e ts) (operators-falls least level e ts) (omega arith)
turned-lower scope fs ts (control.Tree level e) = hands-lower (lines.to_tree level e ts) fs ts (16 * length ts + 2) _ (to_tree-falls level e ts) (omega arith)
turned-lower scope fs ts (control.Specs s) = stays-lower fs (16 * length ts + 4) _ (types.specifiers scope s ts) (specifiers-falls s scope ts) (omega arith)
turned-lower scope fs ts (control.HaveSpecs s) = hands-lower (lines.to_specs s ts) fs ts (16 * length ts + 5) _ (to_specs-falls s ts) (omega arith)
turned-lower scope fs ts (control.Structure s) = stays-lower fs (16 * length ts + 7) _ (types.structure s ts) (structure-falls s ts) (omega arith)
turned-lower scope fs ts (control.Enumr e) = stays-lower fs (16 * length ts) _ (types.enumr scope e ts) (enumr-falls scope e ts) (omega arith)
turned-lower scope fs ts (control.Enumeration e) = stays-lower fs (16 * length ts) _ (types.enumeration e ts) (enumeration-falls e ts) (omega arith)
turned-lower scope fs ts control.Declr = stays-lower fs (16 * length ts + 2) _ (types.declarator scope ts) (declarator-falls scope ts) (omega arith)
turned-lower scope fs ts (control.Suffix d) = stays-lower fs (16 * length ts + 1) _ (types.suffix d ts) (suffix-falls d ts) (omega arith)
turned-lower scope fs ts (control.HaveDeclr d) = hands-lower (lines.to_declr scope d ts) fs ts (16 * length ts + 2) _ (to_declr-falls scope d ts) (omega arith)
turned-lower scope fs ts control.Value = stays-lower fs (16 * length ts + 6) _ (lines.value ts) (value-falls ts) (omega arith)
turned-lower scope fs ts (control.HaveValue g) = hands-lower (lines.to_value g ts) fs ts (16 * length ts + 2) _ (to_value-falls g ts) (omega arith)
turned-lower scope fs ts (control.Decl outside) = stays-lower fs (16 * length ts + 7) _ (lines.declaration outside ts) (declaration-falls outside ts) (omega arith)
turned-lower scope fs ts (control.Inits d) = stays-lower fs (16 * length ts) _ (lines.inits d ts) (inits-falls d ts) (omega arith)
turned-lower scope fs ts (control.HaveDecl n d) = hands-lower (lines.to_decl n d ts) fs ts (16 * length ts + 11) _ (to_decl-falls n d ts) (omega arith)
turned-lower scope fs ts control.Statement = stays-lower fs (16 * length ts + 6) _ (lines.statement scope ts) (statement-falls scope ts) (omega arith)
turned-lower scope fs ts (control.Block b) = stays-lower fs (16 * length ts + 10) _ (lines.block scope b ts) (block-falls scope b ts) (omega arith)
turned-lower scope fs ts (control.HaveLine a) = hands-lower (lines.to_line a ts) fs ts (16 * length ts + 11) _ (to_line-falls a ts) (omega arith)
turned-lower scope fs ts (control.Test f) = stays-lower fs (16 * length ts + 6) _ (lines.for_test f ts) (for_test-falls f ts) (omega arith)
turned-lower scope fs ts (control.Step f) = stays-lower fs (16 * length ts + 6) _ (lines.for_step f ts) (for_step-falls f ts) (omega arith)
turned-lower scope fs ts (control.HaveBody b) = hands-lower (lines.to_body b ts) fs ts (16 * length ts + 10) _ (to_body-falls b ts) (omega arith)
turned-lower scope fs ts (control.Items is) = stays-lower fs (16 * length ts + 10) _ (lines.items is ts) (items-falls is ts) (omega arith)
turned-lower scope fs ts (control.HaveItem i) = hands-lower (lines.to_item i ts) fs ts (16 * length ts + 11) _ (to_item-falls i ts) (omega arith)
turned-lower scope fs ts (control.Done u) = tt

after-falls : (s : State) (r : Result (List Frame × Went) Stop) → Lower (16 * length s.rest + 2 * length s.frames + rank s.control) r → IfOk (r >>= λ p. Ok (state_after s.scope p)) (λ t. measure t < measure s)
unfolding measure
after-falls s (Err e) h = tt
after-falls s (Ok p) h = h

turn-falls : (s : State) → IfOk (turn s) (λ t. measure t < measure s)
unfolding turn
turn-falls s = after-falls s (turned s.scope s.frames s.rest s.control) (turned-lower s.scope s.frames s.rest s.control)

-- each turn lowers the measure
pub falls : (s t : State) → turn s ≡ Ok t → measure t < measure s
falls s t e = subst (λ r. IfOk r (λ u. measure u < measure s)) e (turn-falls s)
