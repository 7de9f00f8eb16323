-- A twin of the code: how many nodes of the tree wait for a part. A node counts once a token of its own has been taken, and
-- not one of its parts alone: an operator, a mark, a word. So an expression that is a statement counts only once its `;` is
-- taken.
use Rattle.std.specs.Prelude.{ℕ, ◌+◌, Bool, true, false, List, [], ◌∷◌}
use Rattle.cc_tree.specs.declared.state.Block.{Block}
use Rattle.cc_tree.specs.declared.state.DeclrFrame.{DeclrFrame}
use Rattle.cc_tree.specs.declared.state.DeclrFrame.TheVariants as for_declr
use Rattle.cc_tree.specs.declared.state.Frame.{Frame}
use Rattle.cc_tree.specs.declared.state.Frame.TheVariants as frame
use Rattle.cc_tree.specs.declared.state.PartFrame.{PartFrame}
use Rattle.cc_tree.specs.declared.state.PartFrame.TheVariants as for_part
use Rattle.cc_tree.specs.declared.state.SpecsFrame.{SpecsFrame}
use Rattle.cc_tree.specs.declared.state.SpecsFrame.TheVariants as for_specs
use Rattle.cc_tree.specs.declared.state.TreeFrame.{TreeFrame}
use Rattle.cc_tree.specs.declared.state.TreeFrame.TheVariants as for_tree
use Rattle.cc_tree.specs.declared.state.ValueFrame.{ValueFrame}
use Rattle.cc_tree.specs.declared.state.ValueFrame.TheVariants as for_value

abbrev pub nodes_of_tree : TreeFrame → ℕ
nodes_of_tree (for_tree.Operators least) = 0
nodes_of_tree _ = 1

abbrev pub nodes_of_part : PartFrame → ℕ
nodes_of_part (for_part.Enumr e n x) = 0
nodes_of_part for_part.Value = 0
nodes_of_part (for_part.Expr n) = 0
nodes_of_part _ = 1

abbrev pub nodes_of_specs : SpecsFrame → ℕ
nodes_of_specs (for_specs.TypeName u n) = 1
nodes_of_specs (for_specs.Param f n) = 1
nodes_of_specs (for_specs.Member s n) = 0
nodes_of_specs (for_specs.Decl outside n) = 0

abbrev pub nodes_of_declr : DeclrFrame → ℕ
nodes_of_declr (for_declr.Member d) = 0
nodes_of_declr (for_declr.Init d) = 0
nodes_of_declr _ = 1

abbrev pub nodes_of_value : ValueFrame → ℕ
nodes_of_value (for_value.Init d e a) = 0
nodes_of_value (for_value.Many n gs) = 1

-- a function's body is no node
abbrev pub nodes_of_block : Bool → ℕ
nodes_of_block true = 0
nodes_of_block false = 1

abbrev pub nodes : Frame → ℕ
nodes (frame.Tree f) = nodes_of_tree f
nodes (frame.Part f) = nodes_of_part f
nodes (frame.Specs f) = nodes_of_specs f
nodes (frame.Declr f) = nodes_of_declr f
nodes (frame.Value f) = nodes_of_value f
nodes (frame.Line f) = 1
nodes (frame.Block b) = nodes_of_block b.body
nodes (frame.First n count) = 1
nodes (frame.Body h) = 0
nodes (frame.Items is) = 0

-- the nodes that wait
abbrev pub depth : List Frame → ℕ
depth [] = 0
depth (f ∷ fs) = nodes f + depth fs
