-- How high the whole becomes at least, from what waits and what is being read: each turn keeps that number, or raises it
-- by one and takes a token.
use Rattle.std.proofs.Common.{◌≡◌, ◌≤◌, ◌+◌, ℕ, zero, suc, Bool, true, false, List, [], ◌∷◌, Option, Some, None, Result, Ok, Err, IfOk, length, max, sym, subst, arith}
use Rattle.cc_tree.specs.declared.state.Control.{Control}
use Rattle.cc_tree.specs.declared.state.Control.TheVariants as control
use Rattle.cc_tree.specs.declared.state.DeclrFrame.{DeclrFrame}
use Rattle.cc_tree.specs.declared.state.DeclrFrame.TheVariants as for_declr
use Rattle.cc_tree.specs.declared.state.Frame.{Frame}
use Rattle.cc_tree.specs.declared.state.Frame.TheVariants as frame
use Rattle.cc_tree.specs.declared.state.LineFrame.{LineFrame}
use Rattle.cc_tree.specs.declared.state.LineFrame.TheVariants as for_line
use Rattle.cc_tree.specs.declared.state.PartFrame.{PartFrame}
use Rattle.cc_tree.specs.declared.state.PartFrame.TheVariants as for_part
use Rattle.cc_tree.specs.declared.state.Scoping.{Scoping}
use Rattle.cc_tree.specs.declared.state.SpecsFrame.{SpecsFrame}
use Rattle.cc_tree.specs.declared.state.SpecsFrame.TheVariants as for_specs
use Rattle.cc_tree.specs.declared.state.TreeFrame.{TreeFrame}
use Rattle.cc_tree.specs.declared.state.TreeFrame.TheVariants as for_tree
use Rattle.cc_tree.specs.declared.state.ValueFrame.{ValueFrame}
use Rattle.cc_tree.specs.declared.state.ValueFrame.TheVariants as for_value
use Rattle.cc_tree.specs.Depth.{nodes, nodes_of_tree, nodes_of_part, nodes_of_specs, nodes_of_declr, nodes_of_value, nodes_of_block, depth}
use Rattle.cc_tree.specs.Machine.{height_of}
use Rattle.cc_tree.specs.Turns.{Turn, Went}
use Rattle.cc_tree.specs.TurnLines.{scoped}

-- the height of what a frame has beside the part that it waits for

abbrev pub held_in_tree : TreeFrame → ℕ
held_in_tree (for_tree.Binary least o k a) = a.height
held_in_tree (for_tree.Choice least c) = c.height
held_in_tree (for_tree.Otherwise least c a) = max c.height a.height
held_in_tree (for_tree.Assign least o a) = a.height
held_in_tree (for_tree.Comma least a) = a.height
held_in_tree (for_tree.Subscript a) = a.height
held_in_tree (for_tree.Call f es) = f.height
held_in_tree (for_tree.Cast n t) = t.height
held_in_tree _ = 0

abbrev pub held_in_part : PartFrame → ℕ
held_in_part (for_part.Bound d) = d.height
held_in_part (for_part.Enumr e n x) = e.height
held_in_part (for_part.Do n a) = a.height
held_in_part (for_part.Test f) = f.height
held_in_part (for_part.Step f) = f.height
held_in_part _ = 0

abbrev pub held_in_specs : SpecsFrame → ℕ
held_in_specs (for_specs.Param f n) = f.height
held_in_specs (for_specs.Member s n) = s.height
held_in_specs _ = 0

abbrev pub held_in_declr : DeclrFrame → ℕ
held_in_declr (for_declr.TypeName u n s) = s.height
held_in_declr (for_declr.Param f n s) = max f.height s.height
held_in_declr (for_declr.Member d) = d.height
held_in_declr (for_declr.Init d) = d.height
held_in_declr _ = 0

abbrev pub held_in_value : ValueFrame → ℕ
held_in_value (for_value.Init d e a) = d.height
held_in_value (for_value.Many n gs) = gs.height

abbrev pub held_in_line : LineFrame → ℕ
held_in_line (for_line.Then n c) = c.height
held_in_line (for_line.Else n c b) = max c.height b.height
held_in_line (for_line.While n c) = c.height
held_in_line (for_line.Switch n c) = c.height
held_in_line (for_line.For f) = f.height
held_in_line (for_line.Case n c) = c.height
held_in_line _ = 0

abbrev pub held : Frame → ℕ
held (frame.Tree f) = held_in_tree f
held (frame.Part f) = held_in_part f
held (frame.Specs f) = held_in_specs f
held (frame.Declr f) = held_in_declr f
held (frame.Value f) = held_in_value f
held (frame.Line f) = held_in_line f
held (frame.Block b) = b.height
held (frame.First n count) = 0
held (frame.Body h) = h.height
held (frame.Items is) = is.height

-- the height of a frame's construct at least, once its part has this height
abbrev pub over : Frame → ℕ → ℕ
over f h = nodes f + max (held f) h

-- the height of all that waits at least, once the innermost part has this height
abbrev pub whole : List Frame → ℕ → ℕ
whole [] h = h
whole (f ∷ fs) h = whole fs (over f h)

-- the height of what is being read at least
abbrev pub so_far : Control → ℕ
so_far (control.Postfix e) = e.height
so_far (control.Operators least level e) = e.height
so_far (control.Tree level e) = e.height
so_far (control.Specs s) = s.height
so_far (control.HaveSpecs s) = s.height
so_far (control.Structure s) = s.height
so_far (control.Enumr e) = e.height
so_far (control.Enumeration e) = e.height
so_far (control.Suffix d) = d.height
so_far (control.HaveDeclr d) = d.height
so_far (control.HaveValue g) = g.height
so_far (control.Inits d) = d.height
so_far (control.HaveDecl n d) = d.height
so_far (control.Block b) = nodes_of_block b.body + b.height
so_far (control.HaveLine a) = a.height
so_far (control.Test f) = suc f.height
so_far (control.Step f) = suc f.height
so_far (control.HaveBody b) = b.height
so_far (control.Items is) = is.height
so_far (control.HaveItem i) = i.height
so_far (control.Done u) = u.height
so_far _ = 0

pub height-so_far : (c : Control) → height_of c ≤ so_far c
height-so_far (control.Postfix e) = omega arith
height-so_far (control.Operators least level e) = omega arith
height-so_far (control.Tree level e) = omega arith
height-so_far (control.Suffix d) = omega arith
height-so_far (control.HaveDeclr d) = omega arith
height-so_far (control.HaveValue g) = omega arith
height-so_far (control.HaveLine a) = omega arith
height-so_far (control.Done u) = omega arith
height-so_far c = omega arith

-- more in a frame is more in the whole, and one more at most is one more at most

pub whole-more : (fs : List Frame) (a b : ℕ) → a ≤ b → whole fs a ≤ whole fs b
whole-more [] a b h = h
whole-more (f ∷ fs) a b h = whole-more fs (over f a) (over f b) (omega arith)

pub whole-one_more : (fs : List Frame) (a b : ℕ) → b ≤ suc a → whole fs b ≤ suc (whole fs a)
whole-one_more [] a b h = h
whole-one_more (f ∷ fs) a b h = whole-one_more fs (over f a) (over f b) (omega arith)

pub whole-by : (fs : List Frame) (a b n k : ℕ) → a ≤ b → b ≤ suc a → b + k ≤ a + n → whole fs b + k ≤ whole fs a + n
whole-by [] a b n k h l g = g
whole-by (f ∷ fs) a b n k h l g = whole-by fs (over f a) (over f b) n k (omega arith) (omega arith) (omega arith)

-- the nodes that wait, and the height of the part, are in the whole
pub depth-whole : (fs : List Frame) (h : ℕ) → depth fs + h ≤ whole fs h
depth-whole [] h = omega arith
depth-whole (f ∷ fs) h = omega (arith, depth-whole fs (over f h))

-- what a turn leaves

abbrev pub above : Option Frame → ℕ → ℕ
above None h = h
above (Some f) h = over f h

abbrev pub reached : Went → ℕ
reached t = above t.frame (so_far t.control)

-- From this height and this many tokens, a turn reaches the same height, or one more and takes a token.
abbrev pub Climb : ℕ → ℕ → Went → Type 0
Climb a n t = (a ≤ reached t) × (reached t ≤ suc a) × (reached t + length t.rest ≤ a + n)

abbrev pub Climbs : ℕ → ℕ → Turn → Type 0
Climbs a n r = IfOk r (Climb a n)

pub scoped-climbs : (a n : ℕ) (s : Scoping) (r : Turn) → Climbs a n r → Climbs a n (scoped s r)
scoped-climbs a n s (Err e) h = tt
scoped-climbs a n s (Ok t) h = h

-- the height may be written otherwise
pub same : (a b n : ℕ) → a ≡ b → (r : Turn) → Climbs b n r → Climbs a n r
same a b n e r h = subst (λ (x : ℕ). Climbs x n r) (sym e) h

-- a frame stands for one node at most, so no more nodes wait than frames

nodes_of_tree-one : (f : TreeFrame) → nodes_of_tree f ≤ 1
nodes_of_tree-one (for_tree.Operators least) = omega arith
nodes_of_tree-one f = omega arith

nodes_of_part-one : (f : PartFrame) → nodes_of_part f ≤ 1
nodes_of_part-one (for_part.Enumr e n x) = omega arith
nodes_of_part-one for_part.Value = omega arith
nodes_of_part-one (for_part.Expr n) = omega arith
nodes_of_part-one f = omega arith

nodes_of_specs-one : (f : SpecsFrame) → nodes_of_specs f ≤ 1
nodes_of_specs-one (for_specs.TypeName u n) = omega arith
nodes_of_specs-one (for_specs.Param f n) = omega arith
nodes_of_specs-one (for_specs.Member s n) = omega arith
nodes_of_specs-one (for_specs.Decl outside n) = omega arith

nodes_of_declr-one : (f : DeclrFrame) → nodes_of_declr f ≤ 1
nodes_of_declr-one (for_declr.Member d) = omega arith
nodes_of_declr-one (for_declr.Init d) = omega arith
nodes_of_declr-one f = omega arith

nodes_of_value-one : (f : ValueFrame) → nodes_of_value f ≤ 1
nodes_of_value-one (for_value.Init d e a) = omega arith
nodes_of_value-one (for_value.Many n gs) = omega arith

nodes_of_block-one : (b : Bool) → nodes_of_block b ≤ 1
nodes_of_block-one true = omega arith
nodes_of_block-one false = omega arith

pub nodes-one : (f : Frame) → nodes f ≤ 1
nodes-one (frame.Tree f) = nodes_of_tree-one f
nodes-one (frame.Part f) = nodes_of_part-one f
nodes-one (frame.Specs f) = nodes_of_specs-one f
nodes-one (frame.Declr f) = nodes_of_declr-one f
nodes-one (frame.Value f) = nodes_of_value-one f
nodes-one (frame.Line f) = omega arith
nodes-one (frame.Block b) = nodes_of_block-one b.body
nodes-one (frame.First n count) = omega arith
nodes-one (frame.Body h) = omega arith
nodes-one (frame.Items is) = omega arith

pub depth-length : (fs : List Frame) → depth fs ≤ length fs
depth-length [] = omega arith
depth-length (f ∷ fs) = omega (arith, nodes-one f, depth-length fs)
