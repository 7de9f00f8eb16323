-- The heights of trees, a variant at a time.
use Rattle.std.proofs.Common.{◌≡◌, ℕ, suc, List, [], ◌∷◌, ◌++◌, Option, Some, None, refl, ap, sym, ◌∙◌, max, map, arith}
use Rattle.cc_lex.specs.declared.token.Mark.{Mark}
use Rattle.cc_lex.specs.declared.token.Suffix.{Suffix}
use Rattle.cc_words.specs.declared.word.Word.{Word}
use Rattle.cc_tree.specs.declared.at.At.{At}
use Rattle.cc_tree.specs.declared.tree.Attr.{Attr}
use Rattle.cc_tree.specs.declared.tree.Declr as declr
use Rattle.cc_tree.specs.declared.tree.Declr.{Declr, fold-roll-Declr}
use Rattle.cc_tree.specs.declared.tree.Declr.TheVariants as declr_rolls
use Rattle.cc_tree.specs.declared.tree.Declr.TheOpen as one
use Rattle.cc_tree.specs.declared.tree.Enumr.{Enumr, fold-roll-Enumr}
use Rattle.cc_tree.specs.declared.tree.MemberDecl.{MemberDecl, fold-roll-MemberDecl}
use Rattle.cc_tree.specs.declared.tree.Param.{Param, fold-roll-Param}
use Rattle.cc_tree.specs.declared.tree.Params as params
use Rattle.cc_tree.specs.declared.tree.Params.{Params, fold-roll-Params}
use Rattle.cc_tree.specs.declared.tree.Params.TheVariants as params_rolls
use Rattle.cc_tree.specs.declared.tree.Spec as spec
use Rattle.cc_tree.specs.declared.tree.Spec.{Spec, fold-roll-Spec}
use Rattle.cc_tree.specs.declared.tree.Spec.TheVariants as spec_rolls
use Rattle.cc_tree.specs.declared.tree.Tree as tree
use Rattle.cc_tree.specs.declared.tree.Tree.{Tree, fold-roll-Tree}
use Rattle.cc_tree.specs.declared.tree.Tree.TheVariants as tree_rolls
use Rattle.cc_tree.specs.declared.tree.TypeName.{TypeName, fold-roll-TypeName}
use Rattle.cc_tree.specs.Height.{height, height_of_declr, height_of_spec, height_of_params, height_of_type, height_of_param, height_of_member, height_of_enumr, heights, specs_height, maybe_height, of_list, declr_height, params_height, spec_height, tree_height, enumr_height, member_height, param_height, type_name_height, given_height, given_layer, decl_height, first_height, line_height, line_layer}
use Rattle.cc_tree.specs.declared.unit.Decl.{Decl}
use Rattle.cc_tree.specs.declared.unit.First.{First}
use Rattle.cc_tree.specs.declared.unit.Given as given
use Rattle.cc_tree.specs.declared.unit.Given.{Given, fold-roll-Given}
use Rattle.cc_tree.specs.declared.unit.Given.TheOpen as one_given
use Rattle.cc_tree.specs.declared.unit.Given.TheVariants as given_rolls
use Rattle.cc_tree.specs.declared.unit.Line as line
use Rattle.cc_tree.specs.declared.unit.Line.{Line, fold-roll-Line}
use Rattle.cc_tree.specs.declared.unit.Line.TheOpen as one_line
use Rattle.cc_tree.specs.declared.unit.Line.TheVariants as line_rolls
use Rattle.cc_tree.specs.Tokens.{Name}

-- lists

max_assoc : (a b c : ℕ) → max a (max b c) ≡ max (max a b) c
max_assoc a b c = omega arith

max_zero : (a : ℕ) → max a 0 ≡ max 0 a
max_zero a = omega arith

pub heights-behind : {A : Type 0} (of : A → ℕ) (xs : List (At A)) (x : At A) → heights of (xs ++ x ∷ []) ≡ max (heights of xs) (of x.node)
heights-behind of [] x = max_zero (of x.node)
heights-behind of (y ∷ ys) x = ap (max (of y.node)) (heights-behind of ys x) ∙ max_assoc (of y.node) (heights of ys) (of x.node)

pub heights-first : {A : Type 0} (of : A → ℕ) (x : At A) → heights of (x ∷ []) ≡ of x.node
heights-first of x = omega arith

pub heights-map : {A : Type 0} (of : A → ℕ) (xs : List (At A)) → of_list (map (λ (x : At A). record { at = x.at; node = of x.node }) xs) ≡ heights of xs
heights-map of [] = refl
heights-map of (x ∷ xs) = ap (max (of x.node)) (heights-map of xs)

-- expressions

pub height-Named : (x : Name) → height (tree.Named x) ≡ 0
height-Named x = ap height (sym (tree_rolls.rolls-Named x)) ∙ fold-roll-Tree ℕ ℕ ℕ ℕ ℕ ℕ ℕ ℕ declr_height params_height spec_height tree_height enumr_height member_height param_height type_name_height (one.Tree::Named x)

pub height-Number : (n : ℕ) (f : Suffix) → height (tree.Number n f) ≡ 0
height-Number n f = ap height (sym (tree_rolls.rolls-Number n f)) ∙ fold-roll-Tree ℕ ℕ ℕ ℕ ℕ ℕ ℕ ℕ declr_height params_height spec_height tree_height enumr_height member_height param_height type_name_height (one.Number n f)

pub height-Character : (c : ℕ) → height (tree.Character c) ≡ 0
height-Character c = ap height (sym (tree_rolls.rolls-Character c)) ∙ fold-roll-Tree ℕ ℕ ℕ ℕ ℕ ℕ ℕ ℕ declr_height params_height spec_height tree_height enumr_height member_height param_height type_name_height (one.Character c)

pub height-Text : (b : List ℕ) → height (tree.Text b) ≡ 0
height-Text b = ap height (sym (tree_rolls.rolls-Text b)) ∙ fold-roll-Tree ℕ ℕ ℕ ℕ ℕ ℕ ℕ ℕ declr_height params_height spec_height tree_height enumr_height member_height param_height type_name_height (one.Text b)

pub height-Paren : (e : At Tree) → height (tree.Paren e) ≡ suc (height e.node)
height-Paren e = ap height (sym (tree_rolls.rolls-Paren e)) ∙ fold-roll-Tree ℕ ℕ ℕ ℕ ℕ ℕ ℕ ℕ declr_height params_height spec_height tree_height enumr_height member_height param_height type_name_height (one.Tree::Paren e)

pub height-Comma : (a b : At Tree) → height (tree.Comma a b) ≡ suc (max (height a.node) (height b.node))
height-Comma a b = ap height (sym (tree_rolls.rolls-Comma a b)) ∙ fold-roll-Tree ℕ ℕ ℕ ℕ ℕ ℕ ℕ ℕ declr_height params_height spec_height tree_height enumr_height member_height param_height type_name_height (one.Comma a b)

pub height-Assign : (o : Mark) (a b : At Tree) → height (tree.Assign o a b) ≡ suc (max (height a.node) (height b.node))
height-Assign o a b = ap height (sym (tree_rolls.rolls-Assign o a b)) ∙ fold-roll-Tree ℕ ℕ ℕ ℕ ℕ ℕ ℕ ℕ declr_height params_height spec_height tree_height enumr_height member_height param_height type_name_height (one.Assign o a b)

pub height-Choose : (a b c : At Tree) → height (tree.Choose a b c) ≡ suc (max (height a.node) (max (height b.node) (height c.node)))
height-Choose a b c = ap height (sym (tree_rolls.rolls-Choose a b c)) ∙ fold-roll-Tree ℕ ℕ ℕ ℕ ℕ ℕ ℕ ℕ declr_height params_height spec_height tree_height enumr_height member_height param_height type_name_height (one.Choose a b c)

pub height-Binary : (o : Mark) (a b : At Tree) → height (tree.Binary o a b) ≡ suc (max (height a.node) (height b.node))
height-Binary o a b = ap height (sym (tree_rolls.rolls-Binary o a b)) ∙ fold-roll-Tree ℕ ℕ ℕ ℕ ℕ ℕ ℕ ℕ declr_height params_height spec_height tree_height enumr_height member_height param_height type_name_height (one.Binary o a b)

pub height-Prefix : (o : Mark) (e : At Tree) → height (tree.Prefix o e) ≡ suc (height e.node)
height-Prefix o e = ap height (sym (tree_rolls.rolls-Prefix o e)) ∙ fold-roll-Tree ℕ ℕ ℕ ℕ ℕ ℕ ℕ ℕ declr_height params_height spec_height tree_height enumr_height member_height param_height type_name_height (one.Prefix o e)

pub height-Postfix : (e : At Tree) (o : Mark) → height (tree.Postfix e o) ≡ suc (height e.node)
height-Postfix e o = ap height (sym (tree_rolls.rolls-Postfix e o)) ∙ fold-roll-Tree ℕ ℕ ℕ ℕ ℕ ℕ ℕ ℕ declr_height params_height spec_height tree_height enumr_height member_height param_height type_name_height (one.Postfix e o)

pub height-SizeOf : (e : At Tree) → height (tree.SizeOf e) ≡ suc (height e.node)
height-SizeOf e = ap height (sym (tree_rolls.rolls-SizeOf e)) ∙ fold-roll-Tree ℕ ℕ ℕ ℕ ℕ ℕ ℕ ℕ declr_height params_height spec_height tree_height enumr_height member_height param_height type_name_height (one.SizeOf e)

pub height-SizeOfType : (t : TypeName) → height (tree.SizeOfType t) ≡ suc (height_of_type t)
height-SizeOfType t = ap height (sym (tree_rolls.rolls-SizeOfType t)) ∙ fold-roll-Tree ℕ ℕ ℕ ℕ ℕ ℕ ℕ ℕ declr_height params_height spec_height tree_height enumr_height member_height param_height type_name_height (one.SizeOfType t)

pub height-Extension : (e : At Tree) → height (tree.Extension e) ≡ suc (height e.node)
height-Extension e = ap height (sym (tree_rolls.rolls-Extension e)) ∙ fold-roll-Tree ℕ ℕ ℕ ℕ ℕ ℕ ℕ ℕ declr_height params_height spec_height tree_height enumr_height member_height param_height type_name_height (one.Extension e)

pub height-Cast : (t : TypeName) (e : At Tree) → height (tree.Cast t e) ≡ suc (max (height_of_type t) (height e.node))
height-Cast t e = ap height (sym (tree_rolls.rolls-Cast t e)) ∙ fold-roll-Tree ℕ ℕ ℕ ℕ ℕ ℕ ℕ ℕ declr_height params_height spec_height tree_height enumr_height member_height param_height type_name_height (one.Cast t e)

pub height-Subscript : (a b : At Tree) → height (tree.Subscript a b) ≡ suc (max (height a.node) (height b.node))
height-Subscript a b = ap height (sym (tree_rolls.rolls-Subscript a b)) ∙ fold-roll-Tree ℕ ℕ ℕ ℕ ℕ ℕ ℕ ℕ declr_height params_height spec_height tree_height enumr_height member_height param_height type_name_height (one.Subscript a b)

pub height-Member : (e : At Tree) (x : Name) → height (tree.Member e x) ≡ suc (height e.node)
height-Member e x = ap height (sym (tree_rolls.rolls-Member e x)) ∙ fold-roll-Tree ℕ ℕ ℕ ℕ ℕ ℕ ℕ ℕ declr_height params_height spec_height tree_height enumr_height member_height param_height type_name_height (one.Member e x)

pub height-Arrow : (e : At Tree) (x : Name) → height (tree.Arrow e x) ≡ suc (height e.node)
height-Arrow e x = ap height (sym (tree_rolls.rolls-Arrow e x)) ∙ fold-roll-Tree ℕ ℕ ℕ ℕ ℕ ℕ ℕ ℕ declr_height params_height spec_height tree_height enumr_height member_height param_height type_name_height (one.Arrow e x)

pub height-Call : (f : At Tree) (es : List (At Tree)) → height (tree.Call f es) ≡ suc (max (height f.node) (heights height es))
height-Call f es = (ap height (sym (tree_rolls.rolls-Call f es)) ∙ fold-roll-Tree ℕ ℕ ℕ ℕ ℕ ℕ ℕ ℕ declr_height params_height spec_height tree_height enumr_height member_height param_height type_name_height (one.Call f es)) ∙ ap (λ n. suc (max (height f.node) n)) (heights-map height es)

-- declarators

pub height_of_declr-Nothing : height_of_declr declr.Nothing ≡ 0
height_of_declr-Nothing = ap height_of_declr (sym declr_rolls.rolls-Nothing) ∙ fold-roll-Declr ℕ ℕ ℕ ℕ ℕ ℕ ℕ ℕ declr_height params_height spec_height tree_height enumr_height member_height param_height type_name_height one.Nothing

pub height_of_declr-Named : (x : Name) → height_of_declr (declr.Named x) ≡ 0
height_of_declr-Named x = ap height_of_declr (sym (declr_rolls.rolls-Named x)) ∙ fold-roll-Declr ℕ ℕ ℕ ℕ ℕ ℕ ℕ ℕ declr_height params_height spec_height tree_height enumr_height member_height param_height type_name_height (one.Declr::Named x)

pub height_of_declr-Paren : (d : At Declr) → height_of_declr (declr.Paren d) ≡ suc (height_of_declr d.node)
height_of_declr-Paren d = ap height_of_declr (sym (declr_rolls.rolls-Paren d)) ∙ fold-roll-Declr ℕ ℕ ℕ ℕ ℕ ℕ ℕ ℕ declr_height params_height spec_height tree_height enumr_height member_height param_height type_name_height (one.Declr::Paren d)

pub height_of_declr-Pointer : (qs : List Word) (d : At Declr) → height_of_declr (declr.Pointer qs d) ≡ suc (height_of_declr d.node)
height_of_declr-Pointer qs d = ap height_of_declr (sym (declr_rolls.rolls-Pointer qs d)) ∙ fold-roll-Declr ℕ ℕ ℕ ℕ ℕ ℕ ℕ ℕ declr_height params_height spec_height tree_height enumr_height member_height param_height type_name_height (one.Pointer qs d)

pub height_of_declr-Func : (d : At Declr) (ps : Params) → height_of_declr (declr.Func d ps) ≡ suc (max (height_of_declr d.node) (height_of_params ps))
height_of_declr-Func d ps = ap height_of_declr (sym (declr_rolls.rolls-Func d ps)) ∙ fold-roll-Declr ℕ ℕ ℕ ℕ ℕ ℕ ℕ ℕ declr_height params_height spec_height tree_height enumr_height member_height param_height type_name_height (one.Func d ps)

pub height_of_declr-Array : (d : At Declr) (e : At Tree) → height_of_declr (declr.Array d (Some e)) ≡ suc (max (height_of_declr d.node) (height e.node))
height_of_declr-Array d e = ap height_of_declr (sym (declr_rolls.rolls-Array d (Some e))) ∙ fold-roll-Declr ℕ ℕ ℕ ℕ ℕ ℕ ℕ ℕ declr_height params_height spec_height tree_height enumr_height member_height param_height type_name_height (one.Array d (Some e))

max_none : (a : ℕ) → suc (max a 0) ≡ suc a
max_none a = omega arith

pub height_of_declr-OpenArray : (d : At Declr) → height_of_declr (declr.Array d None) ≡ suc (height_of_declr d.node)
height_of_declr-OpenArray d = (ap height_of_declr (sym (declr_rolls.rolls-Array d None)) ∙ fold-roll-Declr ℕ ℕ ℕ ℕ ℕ ℕ ℕ ℕ declr_height params_height spec_height tree_height enumr_height member_height param_height type_name_height (one.Array d None)) ∙ max_none (height_of_declr d.node)

pub height_of_params-Empty : height_of_params params.Empty ≡ 0
height_of_params-Empty = ap height_of_params (sym params_rolls.rolls-Empty) ∙ fold-roll-Params ℕ ℕ ℕ ℕ ℕ ℕ ℕ ℕ declr_height params_height spec_height tree_height enumr_height member_height param_height type_name_height one.Empty

pub height_of_params-Void : height_of_params params.Void ≡ 0
height_of_params-Void = ap height_of_params (sym params_rolls.rolls-Void) ∙ fold-roll-Params ℕ ℕ ℕ ℕ ℕ ℕ ℕ ℕ declr_height params_height spec_height tree_height enumr_height member_height param_height type_name_height one.Void

pub height_of_params-Many : (ps : List (At Param)) → height_of_params (params.Many ps) ≡ heights height_of_param ps
height_of_params-Many ps = (ap height_of_params (sym (params_rolls.rolls-Many ps)) ∙ fold-roll-Params ℕ ℕ ℕ ℕ ℕ ℕ ℕ ℕ declr_height params_height spec_height tree_height enumr_height member_height param_height type_name_height (one.Many ps)) ∙ heights-map height_of_param ps

-- specifiers

pub height_of_spec-Word : (x : Word) → height_of_spec (spec.Word x) ≡ 0
height_of_spec-Word x = ap height_of_spec (sym (spec_rolls.rolls-Word x)) ∙ fold-roll-Spec ℕ ℕ ℕ ℕ ℕ ℕ ℕ ℕ declr_height params_height spec_height tree_height enumr_height member_height param_height type_name_height (one.Word x)

pub height_of_spec-Named : (x : Name) → height_of_spec (spec.Named x) ≡ 0
height_of_spec-Named x = ap height_of_spec (sym (spec_rolls.rolls-Named x)) ∙ fold-roll-Spec ℕ ℕ ℕ ℕ ℕ ℕ ℕ ℕ declr_height params_height spec_height tree_height enumr_height member_height param_height type_name_height (one.Spec::Named x)

pub height_of_spec-Attr : (a : Attr) → height_of_spec (spec.Attr a) ≡ 0
height_of_spec-Attr a = ap height_of_spec (sym (spec_rolls.rolls-Attr a)) ∙ fold-roll-Spec ℕ ℕ ℕ ℕ ℕ ℕ ℕ ℕ declr_height params_height spec_height tree_height enumr_height member_height param_height type_name_height (one.Attr a)

pub height_of_spec-Struct : (x : Option Name) (ms : List (At MemberDecl)) (a b : List (At Attr)) → height_of_spec (spec.Struct x (Some ms) a b) ≡ heights height_of_member ms
height_of_spec-Struct x ms a b = (ap height_of_spec (sym (spec_rolls.rolls-Struct x (Some ms) a b)) ∙ fold-roll-Spec ℕ ℕ ℕ ℕ ℕ ℕ ℕ ℕ declr_height params_height spec_height tree_height enumr_height member_height param_height type_name_height (one.Struct x (Some ms) a b)) ∙ heights-map height_of_member ms

pub height_of_spec-NamedStruct : (x : Option Name) (a b : List (At Attr)) → height_of_spec (spec.Struct x None a b) ≡ 0
height_of_spec-NamedStruct x a b = ap height_of_spec (sym (spec_rolls.rolls-Struct x None a b)) ∙ fold-roll-Spec ℕ ℕ ℕ ℕ ℕ ℕ ℕ ℕ declr_height params_height spec_height tree_height enumr_height member_height param_height type_name_height (one.Struct x None a b)

pub height_of_spec-Enum : (x : Option Name) (es : List (At Enumr)) → height_of_spec (spec.Enum x (Some es)) ≡ heights height_of_enumr es
height_of_spec-Enum x es = (ap height_of_spec (sym (spec_rolls.rolls-Enum x (Some es))) ∙ fold-roll-Spec ℕ ℕ ℕ ℕ ℕ ℕ ℕ ℕ declr_height params_height spec_height tree_height enumr_height member_height param_height type_name_height (one.Enum x (Some es))) ∙ heights-map height_of_enumr es

pub height_of_spec-NamedEnum : (x : Option Name) → height_of_spec (spec.Enum x None) ≡ 0
height_of_spec-NamedEnum x = ap height_of_spec (sym (spec_rolls.rolls-Enum x None)) ∙ fold-roll-Spec ℕ ℕ ℕ ℕ ℕ ℕ ℕ ℕ declr_height params_height spec_height tree_height enumr_height member_height param_height type_name_height (one.Enum x None)

-- structures of the cycle, which have no variants

pub height_of_type-TypeName : (specs : List (At Spec)) (d : At Declr) → height_of_type (record { specs = specs; declr = d }) ≡ max (specs_height specs) (height_of_declr d.node)
height_of_type-TypeName specs d = fold-roll-TypeName ℕ ℕ ℕ ℕ ℕ ℕ ℕ ℕ declr_height params_height spec_height tree_height enumr_height member_height param_height type_name_height (record { specs = specs; declr = d }) ∙ ap (λ n. max n (height_of_declr d.node)) (heights-map height_of_spec specs)

pub height_of_param-Param : (specs : List (At Spec)) (d : At Declr) → height_of_param (record { specs = specs; declr = d }) ≡ max (specs_height specs) (height_of_declr d.node)
height_of_param-Param specs d = fold-roll-Param ℕ ℕ ℕ ℕ ℕ ℕ ℕ ℕ declr_height params_height spec_height tree_height enumr_height member_height param_height type_name_height (record { specs = specs; declr = d }) ∙ ap (λ n. max n (height_of_declr d.node)) (heights-map height_of_spec specs)

pub height_of_member-MemberDecl : (specs : List (At Spec)) (ds : List (At Declr)) → height_of_member (record { specs = specs; declrs = ds }) ≡ max (specs_height specs) (heights height_of_declr ds)
height_of_member-MemberDecl specs ds = fold-roll-MemberDecl ℕ ℕ ℕ ℕ ℕ ℕ ℕ ℕ declr_height params_height spec_height tree_height enumr_height member_height param_height type_name_height (record { specs = specs; declrs = ds })
    ∙ (ap (λ n. max n (of_list (map (λ (x : At Declr). record { at = x.at; node = height_of_declr x.node }) ds))) (heights-map height_of_spec specs)
    ∙ ap (max (specs_height specs)) (heights-map height_of_declr ds))

pub height_of_enumr-Enumr : (x : Name) (v : Option (At Tree)) → height_of_enumr (record { name = x; value = v }) ≡ maybe_height v
height_of_enumr-Enumr x None = fold-roll-Enumr ℕ ℕ ℕ ℕ ℕ ℕ ℕ ℕ declr_height params_height spec_height tree_height enumr_height member_height param_height type_name_height (record { name = x; value = None })
height_of_enumr-Enumr x (Some e) = fold-roll-Enumr ℕ ℕ ℕ ℕ ℕ ℕ ℕ ℕ declr_height params_height spec_height tree_height enumr_height member_height param_height type_name_height (record { name = x; value = Some e })

-- initialisers

pub given_height-One : (e : At Tree) → given_height (given.One e) ≡ height e.node
given_height-One e = ap given_height (sym (given_rolls.rolls-One e)) ∙ fold-roll-Given ℕ given_layer (one_given.One e)

pub given_height-Many : (gs : List (At Given)) → given_height (given.Many gs) ≡ suc (heights given_height gs)
given_height-Many gs = (ap given_height (sym (given_rolls.rolls-Many gs)) ∙ fold-roll-Given ℕ given_layer (one_given.Many gs)) ∙ ap suc (heights-map given_height gs)

-- statements

pub line_height-Decl : (d : Decl) → line_height (line.Decl d) ≡ decl_height d
line_height-Decl d = ap line_height (sym (line_rolls.rolls-Decl d)) ∙ fold-roll-Line ℕ line_layer (one_line.Decl d)

pub line_height-Expr : (e : Option (At Tree)) → line_height (line.Expr e) ≡ suc (maybe_height e)
line_height-Expr e = ap line_height (sym (line_rolls.rolls-Expr e)) ∙ fold-roll-Line ℕ line_layer (one_line.Expr e)

pub line_height-While : (c : At Tree) (a : At Line) → line_height (line.While c a) ≡ suc (max (height c.node) (line_height a.node))
line_height-While c a = ap line_height (sym (line_rolls.rolls-While c a)) ∙ fold-roll-Line ℕ line_layer (one_line.While c a)

pub line_height-DoWhile : (a : At Line) (c : At Tree) → line_height (line.DoWhile a c) ≡ suc (max (line_height a.node) (height c.node))
line_height-DoWhile a c = ap line_height (sym (line_rolls.rolls-DoWhile a c)) ∙ fold-roll-Line ℕ line_layer (one_line.DoWhile a c)

pub line_height-For : (f : First) (t s : Option (At Tree)) (a : At Line) → line_height (line.For f t s a) ≡ suc (max (first_height f) (max (maybe_height t) (max (maybe_height s) (line_height a.node))))
line_height-For f t s a = ap line_height (sym (line_rolls.rolls-For f t s a)) ∙ fold-roll-Line ℕ line_layer (one_line.For f t s a)

pub line_height-Switch : (c : At Tree) (a : At Line) → line_height (line.Switch c a) ≡ suc (max (height c.node) (line_height a.node))
line_height-Switch c a = ap line_height (sym (line_rolls.rolls-Switch c a)) ∙ fold-roll-Line ℕ line_layer (one_line.Switch c a)

pub line_height-Case : (c : At Tree) (a : At Line) → line_height (line.Case c a) ≡ suc (max (height c.node) (line_height a.node))
line_height-Case c a = ap line_height (sym (line_rolls.rolls-Case c a)) ∙ fold-roll-Line ℕ line_layer (one_line.Case c a)

pub line_height-Default : (a : At Line) → line_height (line.Default a) ≡ suc (line_height a.node)
line_height-Default a = ap line_height (sym (line_rolls.rolls-Default a)) ∙ fold-roll-Line ℕ line_layer (one_line.Default a)

pub line_height-Break : line_height line.Break ≡ 1
line_height-Break = ap line_height (sym line_rolls.rolls-Break) ∙ fold-roll-Line ℕ line_layer one_line.Break

pub line_height-Continue : line_height line.Continue ≡ 1
line_height-Continue = ap line_height (sym line_rolls.rolls-Continue) ∙ fold-roll-Line ℕ line_layer one_line.Continue

pub line_height-Return : (e : Option (At Tree)) → line_height (line.Return e) ≡ suc (maybe_height e)
line_height-Return e = ap line_height (sym (line_rolls.rolls-Return e)) ∙ fold-roll-Line ℕ line_layer (one_line.Return e)

pub line_height-Block : (ls : List (At Line)) → line_height (line.Block ls) ≡ suc (heights line_height ls)
line_height-Block ls = (ap line_height (sym (line_rolls.rolls-Block ls)) ∙ fold-roll-Line ℕ line_layer (one_line.Block ls)) ∙ ap suc (heights-map line_height ls)

max_no_else : (c a : ℕ) → suc (max c (max a 0)) ≡ suc (max c a)
max_no_else c a = omega arith

pub line_height-If : (c : At Tree) (a : At Line) → line_height (line.If c a None) ≡ suc (max (height c.node) (line_height a.node))
line_height-If c a = (ap line_height (sym (line_rolls.rolls-If c a None)) ∙ fold-roll-Line ℕ line_layer (one_line.If c a None)) ∙ max_no_else (height c.node) (line_height a.node)

pub line_height-IfElse : (c : At Tree) (a b : At Line) → line_height (line.If c a (Some b)) ≡ suc (max (height c.node) (max (line_height a.node) (line_height b.node)))
line_height-IfElse c a b = ap line_height (sym (line_rolls.rolls-If c a (Some b))) ∙ fold-roll-Line ℕ line_layer (one_line.If c a (Some b))
