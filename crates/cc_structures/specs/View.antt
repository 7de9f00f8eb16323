-- What the code's structures and keys stand for.
use Rattle.std.specs.Prelude.{ℕ, Bool, ◌&&◌, nat_eq, List, map, Vec}
use Rattle.std.specs.Borrow.{Bor}
use Rattle.std.specs.declared.alloc.Global.{Global}
use denote.Enum.Declared.{tag_of}
use Rattle.std.specs.Cmp.Lexicographic.{pointwise}
use Rattle.std.specs.Bool.{beq}
use Rattle.cc_structures.specs.Structures.{Known}
use Rattle.cc_structures.specs.Looks.{Look, Node}
use Rattle.cc_structures.specs.declared.known.Known.{Known as KnownOf}
use Rattle.cc_structures.specs.declared.looks.Look.{Look as LookOf}
use Rattle.cc_structures.specs.contracts.words.Kind as kind
use Rattle.cc_structures.specs.declared.words.Kind.{Kind}
use Rattle.cc_structures.specs.declared.words.Word.{Word}
use Rattle.cc_structures.specs.declared.nodes.Node.{Node as NodeOf}
use Rattle.cc_things.specs.declared.text.Text.{Text}
use Rattle.cc_unit.specs.declared.unit.TypedUnit.{TypedUnit}

abbrev pub units_of : List Text → List TypedUnit
units_of texts = map (λ x. x.unit) texts

abbrev pub known_of : KnownOf → Known
known_of s = record { text = s.text; position = s.position; structure = s.structure.now }

unfoldable pub knowns_of : List KnownOf → List Known
knowns_of ss = map known_of ss

unfoldable pub names_of : List (Bor (List ℕ)) → List (List ℕ)
names_of names = map (λ n. n.now) names

abbrev pub look_view : LookOf → Look
look_view l = record {
  named = l.named;
  text = l.text;
  position = l.position;
  tag = l.tag.now;
  complete = l.complete;
  names = names_of l.names.items;
  words = l.words.items;
}

unfoldable pub looks_of : List LookOf → List Look
looks_of ls = map look_view ls

abbrev pub node_view : NodeOf → Node
node_view n = record { known = known_of n.known; parts = n.parts.items }

unfoldable pub nodes_of : List NodeOf → List Node
nodes_of ns = map node_view ns

-- lists of numbers
unfoldable pub lists_of : List (Vec ℕ Global) → List (List ℕ)
lists_of keys = map (λ k. k.items) keys

-- ---- what the code's looks are compared by

abbrev pub same_kind : Kind → Kind → Bool
same_kind a b = nat_eq (tag_of kind.the_type a) (tag_of kind.the_type b)

abbrev pub same_word : Word → Word → Bool
same_word a b = beq a.constant b.constant && (beq a.volatile b.volatile && (same_kind a.kind b.kind && nat_eq a.number b.number))

abbrev pub same_name : Bor (List ℕ) → Bor (List ℕ) → Bool
same_name a b = pointwise nat_eq a.now b.now

abbrev pub same_look : LookOf → LookOf → Bool
same_look a b =
    beq a.named b.named && (nat_eq a.text b.text && (nat_eq a.position b.position && (pointwise nat_eq a.tag.now b.tag.now
    && (beq a.complete b.complete && (pointwise same_name a.names.items b.names.items && pointwise same_word a.words.items b.words.items)))))
