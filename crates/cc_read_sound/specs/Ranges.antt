-- Statements and units whose numbers fit 64 bits, as those of each text do (C99 6.4.4.1, 5); and tokens.
use Rattle.std.specs.Prelude.{◌^◌, Bool, true, ◌&&◌, nat_lt, List, map, Option, Some, None}
use Rattle.std.specs.List.{list_all}
use Rattle.cc_type.specs.CcLex.declared.token.Kind.{Kind}
use Rattle.cc_type.specs.CcLex.declared.token.Kind.TheVariants as kind
use Rattle.cc_type.specs.CcLex.declared.token.Token.{Token}
use Rattle.cc_sound_declarations.specs.Ranges.{decl_fits}
use Rattle.cc_sound_terms.specs.Ranges.{all_fit, fits, declr_in_range, spec_in_range}
use Rattle.cc_tree.specs.declared.at.At.{At}
use Rattle.cc_tree.specs.declared.tree.Spec.{Spec}
use Rattle.cc_tree.specs.declared.unit.First.{First}
use Rattle.cc_tree.specs.declared.unit.First.TheVariants as first
use Rattle.cc_tree.specs.declared.unit.Item.{Item}
use Rattle.cc_tree.specs.declared.unit.Item.TheVariants as item
use Rattle.cc_tree.specs.declared.unit.Line.{Line, fold-Line}
use Rattle.cc_tree.specs.declared.unit.Line.TheOpen as one_line
use Rattle.cc_tree.specs.declared.unit.Unit.{Unit as UnitTree}

-- ---- tokens

abbrev pub kind_fits : Kind → Bool
kind_fits (kind.Number n suffix) = nat_lt n (2 ^ 64)
kind_fits _ = true

abbrev pub tokens_fit : List Token → Bool
tokens_fit ts = list_all (λ (t : Token). kind_fits t.kind) ts

-- ---- lists, and parts that may be missing

abbrev pub each_fits : {A : Type 0} → (A → Bool) → List (At A) → Bool
each_fits test xs = list_all (λ x. test x.node) xs

abbrev pub part_fits : {A : Type 0} → (A → Bool) → Option (At A) → Bool
part_fits test None = true
part_fits test (Some x) = test x.node

-- ---- specifiers of a definition (6.9.1)

abbrev pub specs_in_range : List (At Spec) → Bool
specs_in_range specs = all_fit (map (λ (x : At Spec). record { at = x.at; node = spec_in_range x.node }) specs)

-- ---- statements (6.8)

abbrev pub first_fits : First → Bool
first_fits (first.Decl d) = decl_fits d
first_fits (first.Expr e) = part_fits fits e

abbrev pub maybe_fits : Option (At Bool) → Bool
maybe_fits None = true
maybe_fits (Some a) = a.node

abbrev pub line_fits : one_line.Line-F Bool → Bool
line_fits (one_line.Block ls) = all_fit ls
line_fits (one_line.Decl d) = decl_fits d
line_fits (one_line.Expr e) = part_fits fits e
line_fits (one_line.If e a b) = fits e.node && (a.node && maybe_fits b)
line_fits (one_line.While e a) = fits e.node && a.node
line_fits (one_line.DoWhile a e) = fits e.node && a.node
line_fits (one_line.For f test step a) = first_fits f && (part_fits fits test && (part_fits fits step && a.node))
line_fits (one_line.Switch e a) = fits e.node && a.node
line_fits (one_line.Case e a) = fits e.node && a.node
line_fits (one_line.Default a) = a.node
line_fits one_line.Break = true
line_fits one_line.Continue = true
line_fits (one_line.Return e) = part_fits fits e

unfoldable pub line_in_range : Line → Bool
line_in_range l = fold-Line Bool line_fits l

-- ---- units (6.9)

abbrev pub item_fits : Item → Bool
item_fits (item.Decl d) = decl_fits d
item_fits (item.Func specs d attrs body) = specs_in_range specs && (declr_in_range d.node && each_fits line_in_range body)

abbrev pub unit_fits : UnitTree → Bool
unit_fits u = each_fits item_fits u.items
