-- How many names and parameters a construct has, a variant at a time.
use Rattle.std.proofs.Common.{◌≡◌, ◌+◌, ℕ, suc, List, [], ◌∷◌, ◌++◌, map, Option, Some, None, refl, ap, sym, ◌∙◌, arith}
use Rattle.cc_type.specs.CcLex.declared.token.Mark.{Mark}
use Rattle.cc_type.specs.CcLex.declared.token.Suffix.{Suffix}
use Rattle.cc_program.specs.CcWords.declared.word.Word.{Word}
use Rattle.cc_tree.specs.Tokens.{Name}
use Rattle.cc_tree.specs.declared.at.At.{At}
use Rattle.cc_tree.specs.declared.tree.Attr.{Attr}
use Rattle.cc_tree.specs.declared.tree.Declr as declr
use Rattle.cc_tree.specs.declared.tree.Declr.{Declr, fold-roll-Declr}
use Rattle.cc_tree.specs.declared.tree.Declr.TheVariants as declr_rolls
use Rattle.cc_tree.specs.declared.tree.Declr.TheOpen as one
use Rattle.cc_tree.specs.declared.tree.Enumr.{Enumr, fold-roll-Enumr}
use Rattle.cc_tree.specs.declared.tree.MemberDecl.{MemberDecl, fold-roll-MemberDecl}
use Rattle.cc_tree.specs.declared.tree.Param.{Param, fold-roll-Param}
use Rattle.cc_tree.specs.declared.tree.Params as params
use Rattle.cc_tree.specs.declared.tree.Params.{Params, fold-roll-Params}
use Rattle.cc_tree.specs.declared.tree.Params.TheVariants as params_rolls
use Rattle.cc_tree.specs.declared.tree.Spec as spec
use Rattle.cc_tree.specs.declared.tree.Spec.{Spec, fold-roll-Spec}
use Rattle.cc_tree.specs.declared.tree.Spec.TheVariants as spec_rolls
use Rattle.cc_tree.specs.declared.tree.Tree as tree
use Rattle.cc_tree.specs.declared.tree.Tree.{Tree, fold-roll-Tree}
use Rattle.cc_tree.specs.declared.tree.Tree.TheVariants as tree_rolls
use Rattle.cc_tree.specs.declared.tree.TypeName.{TypeName, fold-roll-TypeName}
use Rattle.cc_tree.specs.declared.unit.Decl.{Decl}
use Rattle.cc_tree.specs.declared.unit.First.{First}
use Rattle.cc_tree.specs.declared.unit.Given as given
use Rattle.cc_tree.specs.declared.unit.Given.{Given, fold-roll-Given}
use Rattle.cc_tree.specs.declared.unit.Given.TheOpen as one_given
use Rattle.cc_tree.specs.declared.unit.Given.TheVariants as given_rolls
use Rattle.cc_tree.specs.declared.unit.Line as line
use Rattle.cc_tree.specs.declared.unit.Line.{Line, fold-roll-Line}
use Rattle.cc_tree.specs.declared.unit.Line.TheOpen as one_line
use Rattle.cc_tree.specs.declared.unit.Line.TheVariants as line_rolls
use Rattle.cc_named_units.specs.Counts.{each_count, total, maybe_count, declr_counts, params_counts, spec_counts, tree_counts, enumr_counts, members_counts, param_counts, type_name_counts, tree_count, declr_count, params_count, spec_count, enumr_count, members_count, param_count, type_name_count, given_counts, given_count, decl_count, first_count, line_counts, line_count}

-- ---- lists

pub each_more : {A : Type 0} (count : A → ℕ) (xs : List (At A)) (x : At A) → each_count count (xs ++ x ∷ []) ≡ each_count count xs + count x.node
each_more count [] x = omega arith
each_more count (y ∷ xs) x = let e = each_more count xs x in omega (arith, e)

pub each_one : {A : Type 0} (count : A → ℕ) (x : At A) → each_count count (x ∷ []) ≡ count x.node
each_one count x = omega arith

each-mapped : {A : Type 0} (count : A → ℕ) (xs : List (At A)) → total (map (λ (x : At A). record { at = x.at; node = count x.node }) xs) ≡ each_count count xs
each-mapped count [] = refl
each-mapped count (x ∷ xs) = ap (λ n. count x.node + n) (each-mapped count xs)

-- ---- variants

pub tree-Named : (x : Name) → tree_count (tree.Named x) ≡ 0
unfolding tree_count declr_count params_count spec_count enumr_count members_count param_count type_name_count
tree-Named x = ap tree_count (sym (tree_rolls.rolls-Named x)) ∙ fold-roll-Tree ℕ ℕ ℕ ℕ ℕ ℕ ℕ ℕ declr_counts params_counts spec_counts tree_counts enumr_counts members_counts param_counts type_name_counts (one.Tree::Named x)

pub tree-Number : (n : ℕ) → (f : Suffix) → tree_count (tree.Number n f) ≡ 0
unfolding tree_count declr_count params_count spec_count enumr_count members_count param_count type_name_count
tree-Number n f = ap tree_count (sym (tree_rolls.rolls-Number n f)) ∙ fold-roll-Tree ℕ ℕ ℕ ℕ ℕ ℕ ℕ ℕ declr_counts params_counts spec_counts tree_counts enumr_counts members_counts param_counts type_name_counts (one.Number n f)

pub tree-Character : (c : ℕ) → tree_count (tree.Character c) ≡ 0
unfolding tree_count declr_count params_count spec_count enumr_count members_count param_count type_name_count
tree-Character c = ap tree_count (sym (tree_rolls.rolls-Character c)) ∙ fold-roll-Tree ℕ ℕ ℕ ℕ ℕ ℕ ℕ ℕ declr_counts params_counts spec_counts tree_counts enumr_counts members_counts param_counts type_name_counts (one.Character c)

pub tree-Text : (b : List ℕ) → tree_count (tree.Text b) ≡ 1
unfolding tree_count declr_count params_count spec_count enumr_count members_count param_count type_name_count
tree-Text b = ap tree_count (sym (tree_rolls.rolls-Text b)) ∙ fold-roll-Tree ℕ ℕ ℕ ℕ ℕ ℕ ℕ ℕ declr_counts params_counts spec_counts tree_counts enumr_counts members_counts param_counts type_name_counts (one.Text b)

pub tree-Paren : (e : At Tree) → tree_count (tree.Paren e) ≡ tree_count e.node
unfolding tree_count declr_count params_count spec_count enumr_count members_count param_count type_name_count
tree-Paren e = ap tree_count (sym (tree_rolls.rolls-Paren e)) ∙ fold-roll-Tree ℕ ℕ ℕ ℕ ℕ ℕ ℕ ℕ declr_counts params_counts spec_counts tree_counts enumr_counts members_counts param_counts type_name_counts (one.Tree::Paren e)

pub tree-Comma : (a : At Tree) → (b : At Tree) → tree_count (tree.Comma a b) ≡ (tree_count a.node + tree_count b.node)
unfolding tree_count declr_count params_count spec_count enumr_count members_count param_count type_name_count
tree-Comma a b = ap tree_count (sym (tree_rolls.rolls-Comma a b)) ∙ fold-roll-Tree ℕ ℕ ℕ ℕ ℕ ℕ ℕ ℕ declr_counts params_counts spec_counts tree_counts enumr_counts members_counts param_counts type_name_counts (one.Comma a b)

pub tree-Assign : (o : Mark) → (a : At Tree) → (b : At Tree) → tree_count (tree.Assign o a b) ≡ (tree_count a.node + tree_count b.node)
unfolding tree_count declr_count params_count spec_count enumr_count members_count param_count type_name_count
tree-Assign o a b = ap tree_count (sym (tree_rolls.rolls-Assign o a b)) ∙ fold-roll-Tree ℕ ℕ ℕ ℕ ℕ ℕ ℕ ℕ declr_counts params_counts spec_counts tree_counts enumr_counts members_counts param_counts type_name_counts (one.Assign o a b)

pub tree-Choose : (c : At Tree) → (a : At Tree) → (b : At Tree) → tree_count (tree.Choose c a b) ≡ (tree_count c.node + (tree_count a.node + tree_count b.node))
unfolding tree_count declr_count params_count spec_count enumr_count members_count param_count type_name_count
tree-Choose c a b = ap tree_count (sym (tree_rolls.rolls-Choose c a b)) ∙ fold-roll-Tree ℕ ℕ ℕ ℕ ℕ ℕ ℕ ℕ declr_counts params_counts spec_counts tree_counts enumr_counts members_counts param_counts type_name_counts (one.Choose c a b)

pub tree-Binary : (o : Mark) → (a : At Tree) → (b : At Tree) → tree_count (tree.Binary o a b) ≡ (tree_count a.node + tree_count b.node)
unfolding tree_count declr_count params_count spec_count enumr_count members_count param_count type_name_count
tree-Binary o a b = ap tree_count (sym (tree_rolls.rolls-Binary o a b)) ∙ fold-roll-Tree ℕ ℕ ℕ ℕ ℕ ℕ ℕ ℕ declr_counts params_counts spec_counts tree_counts enumr_counts members_counts param_counts type_name_counts (one.Binary o a b)

pub tree-Prefix : (o : Mark) → (e : At Tree) → tree_count (tree.Prefix o e) ≡ suc (tree_count e.node)
unfolding tree_count declr_count params_count spec_count enumr_count members_count param_count type_name_count
tree-Prefix o e = ap tree_count (sym (tree_rolls.rolls-Prefix o e)) ∙ fold-roll-Tree ℕ ℕ ℕ ℕ ℕ ℕ ℕ ℕ declr_counts params_counts spec_counts tree_counts enumr_counts members_counts param_counts type_name_counts (one.Prefix o e)

pub tree-Postfix : (e : At Tree) → (o : Mark) → tree_count (tree.Postfix e o) ≡ tree_count e.node
unfolding tree_count declr_count params_count spec_count enumr_count members_count param_count type_name_count
tree-Postfix e o = ap tree_count (sym (tree_rolls.rolls-Postfix e o)) ∙ fold-roll-Tree ℕ ℕ ℕ ℕ ℕ ℕ ℕ ℕ declr_counts params_counts spec_counts tree_counts enumr_counts members_counts param_counts type_name_counts (one.Postfix e o)

pub tree-SizeOf : (e : At Tree) → tree_count (tree.SizeOf e) ≡ tree_count e.node
unfolding tree_count declr_count params_count spec_count enumr_count members_count param_count type_name_count
tree-SizeOf e = ap tree_count (sym (tree_rolls.rolls-SizeOf e)) ∙ fold-roll-Tree ℕ ℕ ℕ ℕ ℕ ℕ ℕ ℕ declr_counts params_counts spec_counts tree_counts enumr_counts members_counts param_counts type_name_counts (one.SizeOf e)

pub tree-SizeOfType : (t : TypeName) → tree_count (tree.SizeOfType t) ≡ type_name_count t
unfolding tree_count declr_count params_count spec_count enumr_count members_count param_count type_name_count
tree-SizeOfType t = ap tree_count (sym (tree_rolls.rolls-SizeOfType t)) ∙ fold-roll-Tree ℕ ℕ ℕ ℕ ℕ ℕ ℕ ℕ declr_counts params_counts spec_counts tree_counts enumr_counts members_counts param_counts type_name_counts (one.SizeOfType t)

pub tree-Extension : (e : At Tree) → tree_count (tree.Extension e) ≡ tree_count e.node
unfolding tree_count declr_count params_count spec_count enumr_count members_count param_count type_name_count
tree-Extension e = ap tree_count (sym (tree_rolls.rolls-Extension e)) ∙ fold-roll-Tree ℕ ℕ ℕ ℕ ℕ ℕ ℕ ℕ declr_counts params_counts spec_counts tree_counts enumr_counts members_counts param_counts type_name_counts (one.Extension e)

pub tree-Cast : (t : TypeName) → (e : At Tree) → tree_count (tree.Cast t e) ≡ (type_name_count t + tree_count e.node)
unfolding tree_count declr_count params_count spec_count enumr_count members_count param_count type_name_count
tree-Cast t e = ap tree_count (sym (tree_rolls.rolls-Cast t e)) ∙ fold-roll-Tree ℕ ℕ ℕ ℕ ℕ ℕ ℕ ℕ declr_counts params_counts spec_counts tree_counts enumr_counts members_counts param_counts type_name_counts (one.Cast t e)

pub tree-Subscript : (a : At Tree) → (i : At Tree) → tree_count (tree.Subscript a i) ≡ (tree_count a.node + tree_count i.node)
unfolding tree_count declr_count params_count spec_count enumr_count members_count param_count type_name_count
tree-Subscript a i = ap tree_count (sym (tree_rolls.rolls-Subscript a i)) ∙ fold-roll-Tree ℕ ℕ ℕ ℕ ℕ ℕ ℕ ℕ declr_counts params_counts spec_counts tree_counts enumr_counts members_counts param_counts type_name_counts (one.Subscript a i)

pub tree-Member : (e : At Tree) → (x : Name) → tree_count (tree.Member e x) ≡ tree_count e.node
unfolding tree_count declr_count params_count spec_count enumr_count members_count param_count type_name_count
tree-Member e x = ap tree_count (sym (tree_rolls.rolls-Member e x)) ∙ fold-roll-Tree ℕ ℕ ℕ ℕ ℕ ℕ ℕ ℕ declr_counts params_counts spec_counts tree_counts enumr_counts members_counts param_counts type_name_counts (one.Member e x)

pub tree-Arrow : (e : At Tree) → (x : Name) → tree_count (tree.Arrow e x) ≡ tree_count e.node
unfolding tree_count declr_count params_count spec_count enumr_count members_count param_count type_name_count
tree-Arrow e x = ap tree_count (sym (tree_rolls.rolls-Arrow e x)) ∙ fold-roll-Tree ℕ ℕ ℕ ℕ ℕ ℕ ℕ ℕ declr_counts params_counts spec_counts tree_counts enumr_counts members_counts param_counts type_name_counts (one.Arrow e x)

pub declr-Nothing : declr_count declr.Nothing ≡ 0
unfolding tree_count declr_count params_count spec_count enumr_count members_count param_count type_name_count
declr-Nothing = ap declr_count (sym declr_rolls.rolls-Nothing) ∙ fold-roll-Declr ℕ ℕ ℕ ℕ ℕ ℕ ℕ ℕ declr_counts params_counts spec_counts tree_counts enumr_counts members_counts param_counts type_name_counts one.Nothing

pub declr-Named : (x : Name) → declr_count (declr.Named x) ≡ 1
unfolding tree_count declr_count params_count spec_count enumr_count members_count param_count type_name_count
declr-Named x = ap declr_count (sym (declr_rolls.rolls-Named x)) ∙ fold-roll-Declr ℕ ℕ ℕ ℕ ℕ ℕ ℕ ℕ declr_counts params_counts spec_counts tree_counts enumr_counts members_counts param_counts type_name_counts (one.Declr::Named x)

pub declr-Paren : (d : At Declr) → declr_count (declr.Paren d) ≡ declr_count d.node
unfolding tree_count declr_count params_count spec_count enumr_count members_count param_count type_name_count
declr-Paren d = ap declr_count (sym (declr_rolls.rolls-Paren d)) ∙ fold-roll-Declr ℕ ℕ ℕ ℕ ℕ ℕ ℕ ℕ declr_counts params_counts spec_counts tree_counts enumr_counts members_counts param_counts type_name_counts (one.Declr::Paren d)

pub declr-Pointer : (q : List Word) → (d : At Declr) → declr_count (declr.Pointer q d) ≡ declr_count d.node
unfolding tree_count declr_count params_count spec_count enumr_count members_count param_count type_name_count
declr-Pointer q d = ap declr_count (sym (declr_rolls.rolls-Pointer q d)) ∙ fold-roll-Declr ℕ ℕ ℕ ℕ ℕ ℕ ℕ ℕ declr_counts params_counts spec_counts tree_counts enumr_counts members_counts param_counts type_name_counts (one.Pointer q d)

pub declr-Func : (d : At Declr) → (ps : Params) → declr_count (declr.Func d ps) ≡ (declr_count d.node + params_count ps)
unfolding tree_count declr_count params_count spec_count enumr_count members_count param_count type_name_count
declr-Func d ps = ap declr_count (sym (declr_rolls.rolls-Func d ps)) ∙ fold-roll-Declr ℕ ℕ ℕ ℕ ℕ ℕ ℕ ℕ declr_counts params_counts spec_counts tree_counts enumr_counts members_counts param_counts type_name_counts (one.Func d ps)

pub params-Empty : params_count params.Empty ≡ 0
unfolding tree_count declr_count params_count spec_count enumr_count members_count param_count type_name_count
params-Empty = ap params_count (sym params_rolls.rolls-Empty) ∙ fold-roll-Params ℕ ℕ ℕ ℕ ℕ ℕ ℕ ℕ declr_counts params_counts spec_counts tree_counts enumr_counts members_counts param_counts type_name_counts one.Empty

pub params-Void : params_count params.Void ≡ 0
unfolding tree_count declr_count params_count spec_count enumr_count members_count param_count type_name_count
params-Void = ap params_count (sym params_rolls.rolls-Void) ∙ fold-roll-Params ℕ ℕ ℕ ℕ ℕ ℕ ℕ ℕ declr_counts params_counts spec_counts tree_counts enumr_counts members_counts param_counts type_name_counts one.Void

pub spec-Word : (x : Word) → spec_count (spec.Word x) ≡ 0
unfolding tree_count declr_count params_count spec_count enumr_count members_count param_count type_name_count
spec-Word x = ap spec_count (sym (spec_rolls.rolls-Word x)) ∙ fold-roll-Spec ℕ ℕ ℕ ℕ ℕ ℕ ℕ ℕ declr_counts params_counts spec_counts tree_counts enumr_counts members_counts param_counts type_name_counts (one.Word x)

pub spec-Named : (x : Name) → spec_count (spec.Named x) ≡ 0
unfolding tree_count declr_count params_count spec_count enumr_count members_count param_count type_name_count
spec-Named x = ap spec_count (sym (spec_rolls.rolls-Named x)) ∙ fold-roll-Spec ℕ ℕ ℕ ℕ ℕ ℕ ℕ ℕ declr_counts params_counts spec_counts tree_counts enumr_counts members_counts param_counts type_name_counts (one.Spec::Named x)

pub spec-Attr : (a : Attr) → spec_count (spec.Attr a) ≡ 0
unfolding tree_count declr_count params_count spec_count enumr_count members_count param_count type_name_count
spec-Attr a = ap spec_count (sym (spec_rolls.rolls-Attr a)) ∙ fold-roll-Spec ℕ ℕ ℕ ℕ ℕ ℕ ℕ ℕ declr_counts params_counts spec_counts tree_counts enumr_counts members_counts param_counts type_name_counts (one.Attr a)

pub tree-Call : (f : At Tree) (es : List (At Tree)) → tree_count (tree.Call f es) ≡ (tree_count f.node + each_count tree_count es)
unfolding tree_count declr_count params_count spec_count enumr_count members_count param_count type_name_count
tree-Call f es = ap tree_count (sym (tree_rolls.rolls-Call f es)) ∙ fold-roll-Tree ℕ ℕ ℕ ℕ ℕ ℕ ℕ ℕ declr_counts params_counts spec_counts tree_counts enumr_counts members_counts param_counts type_name_counts (one.Call f es) ∙ ap (λ b. tree_count f.node + b) (each-mapped tree_count es)

pub declr-Array : (d : At Declr) (n : At Tree) → declr_count (declr.Array d (Some n)) ≡ (declr_count d.node + tree_count n.node)
unfolding tree_count declr_count params_count spec_count enumr_count members_count param_count type_name_count
declr-Array d n = ap declr_count (sym (declr_rolls.rolls-Array d (Some n))) ∙ fold-roll-Declr ℕ ℕ ℕ ℕ ℕ ℕ ℕ ℕ declr_counts params_counts spec_counts tree_counts enumr_counts members_counts param_counts type_name_counts (one.Array d (Some n))

pub declr-OpenArray : (d : At Declr) → declr_count (declr.Array d None) ≡ (declr_count d.node + 0)
unfolding tree_count declr_count params_count spec_count enumr_count members_count param_count type_name_count
declr-OpenArray d = ap declr_count (sym (declr_rolls.rolls-Array d None)) ∙ fold-roll-Declr ℕ ℕ ℕ ℕ ℕ ℕ ℕ ℕ declr_counts params_counts spec_counts tree_counts enumr_counts members_counts param_counts type_name_counts (one.Array d None)

pub params-Many : (ps : List (At Param)) → params_count (params.Many ps) ≡ each_count param_count ps
unfolding tree_count declr_count params_count spec_count enumr_count members_count param_count type_name_count
params-Many ps = ap params_count (sym (params_rolls.rolls-Many ps)) ∙ fold-roll-Params ℕ ℕ ℕ ℕ ℕ ℕ ℕ ℕ declr_counts params_counts spec_counts tree_counts enumr_counts members_counts param_counts type_name_counts (one.Many ps) ∙ each-mapped param_count ps

pub spec-Struct : (x : Option Name) (ms : List (At MemberDecl)) (a b : List (At Attr)) → spec_count (spec.Struct x (Some ms) a b) ≡ suc (suc (each_count members_count ms))
unfolding tree_count declr_count params_count spec_count enumr_count members_count param_count type_name_count
spec-Struct x ms a b = ap spec_count (sym (spec_rolls.rolls-Struct x (Some ms) a b)) ∙ fold-roll-Spec ℕ ℕ ℕ ℕ ℕ ℕ ℕ ℕ declr_counts params_counts spec_counts tree_counts enumr_counts members_counts param_counts type_name_counts (one.Struct x (Some ms) a b) ∙ ap (λ n. suc (suc n)) (each-mapped members_count ms)

pub spec-NamedStruct : (x : Option Name) (a b : List (At Attr)) → spec_count (spec.Struct x None a b) ≡ 1
unfolding tree_count declr_count params_count spec_count enumr_count members_count param_count type_name_count
spec-NamedStruct x a b = ap spec_count (sym (spec_rolls.rolls-Struct x None a b)) ∙ fold-roll-Spec ℕ ℕ ℕ ℕ ℕ ℕ ℕ ℕ declr_counts params_counts spec_counts tree_counts enumr_counts members_counts param_counts type_name_counts (one.Struct x None a b)

pub spec-Enum : (x : Option Name) (es : List (At Enumr)) → spec_count (spec.Enum x (Some es)) ≡ each_count enumr_count es
unfolding tree_count declr_count params_count spec_count enumr_count members_count param_count type_name_count
spec-Enum x es = ap spec_count (sym (spec_rolls.rolls-Enum x (Some es))) ∙ fold-roll-Spec ℕ ℕ ℕ ℕ ℕ ℕ ℕ ℕ declr_counts params_counts spec_counts tree_counts enumr_counts members_counts param_counts type_name_counts (one.Enum x (Some es)) ∙ each-mapped enumr_count es

pub spec-NamedEnum : (x : Option Name) → spec_count (spec.Enum x None) ≡ 0
unfolding tree_count declr_count params_count spec_count enumr_count members_count param_count type_name_count
spec-NamedEnum x = ap spec_count (sym (spec_rolls.rolls-Enum x None)) ∙ fold-roll-Spec ℕ ℕ ℕ ℕ ℕ ℕ ℕ ℕ declr_counts params_counts spec_counts tree_counts enumr_counts members_counts param_counts type_name_counts (one.Enum x None)

pub type_name-is : (specs : List (At Spec)) (d : At Declr) → type_name_count (record { specs = specs; declr = d }) ≡ (each_count spec_count specs + declr_count d.node)
unfolding tree_count declr_count params_count spec_count enumr_count members_count param_count type_name_count
type_name-is specs d = fold-roll-TypeName ℕ ℕ ℕ ℕ ℕ ℕ ℕ ℕ declr_counts params_counts spec_counts tree_counts enumr_counts members_counts param_counts type_name_counts (record { specs = specs; declr = d }) ∙ ap (λ b. b + declr_count d.node) (each-mapped spec_count specs)

pub param-is : (specs : List (At Spec)) (d : At Declr) → param_count (record { specs = specs; declr = d }) ≡ suc (each_count spec_count specs + declr_count d.node)
unfolding tree_count declr_count params_count spec_count enumr_count members_count param_count type_name_count
param-is specs d = fold-roll-Param ℕ ℕ ℕ ℕ ℕ ℕ ℕ ℕ declr_counts params_counts spec_counts tree_counts enumr_counts members_counts param_counts type_name_counts (record { specs = specs; declr = d }) ∙ ap (λ b. suc (b + declr_count d.node)) (each-mapped spec_count specs)

pub members-is : (specs : List (At Spec)) (ds : List (At Declr)) → members_count (record { specs = specs; declrs = ds }) ≡ (each_count spec_count specs + each_count declr_count ds)
unfolding tree_count declr_count params_count spec_count enumr_count members_count param_count type_name_count
members-is specs ds =
    fold-roll-MemberDecl ℕ ℕ ℕ ℕ ℕ ℕ ℕ ℕ declr_counts params_counts spec_counts tree_counts enumr_counts members_counts param_counts type_name_counts (record { specs = specs; declrs = ds })
    ∙ ap (λ b. b + total (map (λ (x : At Declr). record { at = x.at; node = declr_count x.node }) ds)) (each-mapped spec_count specs) ∙ ap (λ b. each_count spec_count specs + b) (each-mapped declr_count ds)

pub enumr-none : (x : Name) → enumr_count (record { name = x; value = None }) ≡ 0
unfolding tree_count declr_count params_count spec_count enumr_count members_count param_count type_name_count
enumr-none x = fold-roll-Enumr ℕ ℕ ℕ ℕ ℕ ℕ ℕ ℕ declr_counts params_counts spec_counts tree_counts enumr_counts members_counts param_counts type_name_counts (record { name = x; value = None })

pub enumr-some : (x : Name) (e : At Tree) → enumr_count (record { name = x; value = Some e }) ≡ tree_count e.node
unfolding tree_count declr_count params_count spec_count enumr_count members_count param_count type_name_count
enumr-some x e = fold-roll-Enumr ℕ ℕ ℕ ℕ ℕ ℕ ℕ ℕ declr_counts params_counts spec_counts tree_counts enumr_counts members_counts param_counts type_name_counts (record { name = x; value = Some e })

-- ---- initialisers and statements

pub given-One : (e : At Tree) → given_count (given.One e) ≡ tree_count e.node
unfolding given_count
given-One e = ap given_count (sym (given_rolls.rolls-One e)) ∙ fold-roll-Given ℕ given_counts (one_given.One e)

pub given-Many : (gs : List (At Given)) → given_count (given.Many gs) ≡ each_count given_count gs
unfolding given_count
given-Many gs = ap given_count (sym (given_rolls.rolls-Many gs)) ∙ fold-roll-Given ℕ given_counts (one_given.Many gs) ∙ each-mapped given_count gs

pub line-Block : (ls : List (At Line)) → line_count (line.Block ls) ≡ each_count line_count ls
unfolding line_count
line-Block ls = ap line_count (sym (line_rolls.rolls-Block ls)) ∙ fold-roll-Line ℕ line_counts (one_line.Block ls) ∙ each-mapped line_count ls

pub line-Decl : (d : Decl) → line_count (line.Decl d) ≡ decl_count d
unfolding line_count
line-Decl d = ap line_count (sym (line_rolls.rolls-Decl d)) ∙ fold-roll-Line ℕ line_counts (one_line.Decl d)

pub line-Expr : (e : Option (At Tree)) → line_count (line.Expr e) ≡ maybe_count tree_count e
unfolding line_count
line-Expr e = ap line_count (sym (line_rolls.rolls-Expr e)) ∙ fold-roll-Line ℕ line_counts (one_line.Expr e)

pub line-While : (e : At Tree) → (a : At Line) → line_count (line.While e a) ≡ (tree_count e.node + line_count a.node)
unfolding line_count
line-While e a = ap line_count (sym (line_rolls.rolls-While e a)) ∙ fold-roll-Line ℕ line_counts (one_line.While e a)

pub line-DoWhile : (a : At Line) → (e : At Tree) → line_count (line.DoWhile a e) ≡ (tree_count e.node + line_count a.node)
unfolding line_count
line-DoWhile a e = ap line_count (sym (line_rolls.rolls-DoWhile a e)) ∙ fold-roll-Line ℕ line_counts (one_line.DoWhile a e)

pub line-For : (f : First) → (t : Option (At Tree)) → (n : Option (At Tree)) → (a : At Line) → line_count (line.For f t n a) ≡ (first_count f + (maybe_count tree_count t + (maybe_count tree_count n + line_count a.node)))
unfolding line_count
line-For f t n a = ap line_count (sym (line_rolls.rolls-For f t n a)) ∙ fold-roll-Line ℕ line_counts (one_line.For f t n a)

pub line-Switch : (e : At Tree) → (a : At Line) → line_count (line.Switch e a) ≡ (tree_count e.node + line_count a.node)
unfolding line_count
line-Switch e a = ap line_count (sym (line_rolls.rolls-Switch e a)) ∙ fold-roll-Line ℕ line_counts (one_line.Switch e a)

pub line-Case : (e : At Tree) → (a : At Line) → line_count (line.Case e a) ≡ (tree_count e.node + line_count a.node)
unfolding line_count
line-Case e a = ap line_count (sym (line_rolls.rolls-Case e a)) ∙ fold-roll-Line ℕ line_counts (one_line.Case e a)

pub line-Default : (a : At Line) → line_count (line.Default a) ≡ line_count a.node
unfolding line_count
line-Default a = ap line_count (sym (line_rolls.rolls-Default a)) ∙ fold-roll-Line ℕ line_counts (one_line.Default a)

pub line-Break : line_count line.Break ≡ 0
unfolding line_count
line-Break = ap line_count (sym line_rolls.rolls-Break) ∙ fold-roll-Line ℕ line_counts one_line.Break

pub line-Continue : line_count line.Continue ≡ 0
unfolding line_count
line-Continue = ap line_count (sym line_rolls.rolls-Continue) ∙ fold-roll-Line ℕ line_counts one_line.Continue

pub line-Return : (e : Option (At Tree)) → line_count (line.Return e) ≡ maybe_count tree_count e
unfolding line_count
line-Return e = ap line_count (sym (line_rolls.rolls-Return e)) ∙ fold-roll-Line ℕ line_counts (one_line.Return e)

pub line-If : (e : At Tree) (a : At Line) → line_count (line.If e a None) ≡ (tree_count e.node + (line_count a.node + 0))
unfolding line_count
line-If e a = ap line_count (sym (line_rolls.rolls-If e a None)) ∙ fold-roll-Line ℕ line_counts (one_line.If e a None)

pub line-IfElse : (e : At Tree) (a b : At Line) → line_count (line.If e a (Some b)) ≡ (tree_count e.node + (line_count a.node + line_count b.node))
unfolding line_count
line-IfElse e a b = ap line_count (sym (line_rolls.rolls-If e a (Some b))) ∙ fold-roll-Line ℕ line_counts (one_line.If e a (Some b))
