-- Attributes: which there are, and at what each has a meaning.
use Rattle.std.specs.Prelude.{ℕ, Bool, true, false, not, ◌||◌, List, [], ◌∷◌, ◌++◌, Option, Some, None, codes, Ok, if◌then◌else◌}
use Rattle.std.specs.List.{list_all, list_any}
use Rattle.std.specs.Str.{bytes_eq}
use Rattle.cc_operands.specs.Verdicts.{Judged, judge_then, must, some_or}
use Rattle.cc_operands.specs.declared.rule.Rule.TheVariants as rule
use Rattle.cc_program.specs.declared.func.Entry.{Entry}
use Rattle.cc_program.specs.declared.func.Entry.TheVariants as entry
use Rattle.cc_specifiers.specs.Places.{JudgedAt, judged_at, at_then, ahead, behind}
use Rattle.cc_specifiers.specs.declared.attribute.Attribute.{Attribute}
use Rattle.cc_specifiers.specs.declared.attribute.Attribute.TheVariants as attribute
use Rattle.cc_specifiers.specs.declared.attribute.Entity.{Entity}
use Rattle.cc_specifiers.specs.declared.attribute.Entity.TheVariants as entity
use Rattle.cc_tree.specs.declared.at.At.{At}
use Rattle.cc_tree.specs.declared.tree.Attr.{Attr}

-- a word, with double underscores or without
abbrev pub is_word : List ℕ → List ℕ → Bool
is_word w x = bytes_eq x w || bytes_eq x (codes "__" ++ (w ++ codes "__"))

abbrev pub mode_of : List ℕ → Option Attribute
mode_of x =
    if is_word (codes "QI") x then Some (attribute.Mode 1)
    else (if is_word (codes "HI") x then Some (attribute.Mode 2)
    else (if is_word (codes "SI") x then Some (attribute.Mode 4)
    else (if is_word (codes "DI") x then Some (attribute.Mode 8) else None)))

abbrev pub plain_attribute : List ℕ → Option Attribute
plain_attribute x =
    if is_word (codes "signal") x then Some attribute.Signal
    else (if is_word (codes "interrupt") x then Some attribute.Interrupt
    else (if is_word (codes "used") x then Some attribute.Used
    else (if is_word (codes "unused") x then Some attribute.Unused
    else (if is_word (codes "externally_visible") x then Some attribute.ExternallyVisible
    else (if is_word (codes "noinline") x then Some attribute.NoInline
    else (if is_word (codes "always_inline") x then Some attribute.AlwaysInline else None))))))

-- `mode` alone has an argument
abbrev pub attribute_of : List ℕ → Option (List ℕ) → Option Attribute
attribute_of x None = plain_attribute x
attribute_of x (Some argument) = if is_word (codes "mode") x then mode_of argument else None

abbrev pub attributes_in : List (List ℕ × Option (List ℕ)) → Judged (List Attribute)
attributes_in [] = Ok []
attributes_in (x ∷ xs) = judge_then (some_or rule.Attribute (attribute_of x.0 x.1)) (λ m. ahead (m ∷ []) (attributes_in xs))

abbrev pub is_function : Entity → Bool
is_function entity.Function = true
is_function _ = false

abbrev pub is_used : Entity → Bool
is_used entity.Function = true
is_used entity.Static = true
is_used _ = false

abbrev pub is_typedef : Entity → Bool
is_typedef entity.Typedef = true
is_typedef _ = false

abbrev pub declares_nothing : Entity → Bool
declares_nothing entity.Nothing = true
declares_nothing _ = false

-- whether an attribute has a meaning there
abbrev pub has_meaning : Entity → Attribute → Bool
has_meaning e attribute.Signal = is_function e
has_meaning e attribute.Interrupt = is_function e
has_meaning e attribute.NoInline = is_function e
has_meaning e attribute.AlwaysInline = is_function e
has_meaning e attribute.Used = is_used e
has_meaning e attribute.ExternallyVisible = is_used e
has_meaning e attribute.Unused = not (declares_nothing e)
has_meaning e (attribute.Mode n) = is_typedef e

-- attributes that are said of each of these, in their order
abbrev pub are_meant : List Entity → List Attribute → Bool
are_meant entities ms = list_all (λ e. list_all (has_meaning e) ms) entities

abbrev pub attribute_judged : List Entity → List (List ℕ × Option (List ℕ)) → Judged (List Attribute)
attribute_judged entities words = judge_then (attributes_in words) (λ ms. must (are_meant entities ms) rule.Attribute (Ok ms))

-- attributes behind a declarator or at a structure
abbrev pub attributes : List Entity → List (At Attr) → JudgedAt (List (At (List Attribute)))
attributes entities [] = Ok []
attributes entities (a ∷ rest) =
    at_then (judged_at a.at (attribute_judged entities a.node.words)) (λ ms. behind (record { at = a.at; node = ms } ∷ []) (attributes entities rest))

-- ---- a handler: `signal` wins over `interrupt`

abbrev pub is_signal : Attribute → Bool
is_signal attribute.Signal = true
is_signal _ = false

abbrev pub is_interrupt : Attribute → Bool
is_interrupt attribute.Interrupt = true
is_interrupt _ = false

abbrev pub is_said : (Attribute → Bool) → List (At (List Attribute)) → Bool
is_said test marks = list_any (λ ms. list_any test ms.node) marks

abbrev pub entry_by : List (At (List Attribute)) → Option Entry
entry_by marks = if is_said is_signal marks then Some entry.Signal else (if is_said is_interrupt marks then Some entry.Interrupt else None)
