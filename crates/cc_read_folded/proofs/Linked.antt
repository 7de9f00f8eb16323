-- The program that units link to has folded expressions, where they have: each of its functions is the definition of one in a unit,
-- by the program's numbers.
use Rattle.std.proofs.Common.{◌≡◌, ℕ, zero, suc, true, List, [], ◌∷◌, map, Option, Some, None, option_map, refl, ap, sym, ◌∙◌, subst}
use Rattle.std.specs.Prelude.{option_and_then, slice_get}
use Rattle.cc_causes.specs.Entries.{entry_at}
use Rattle.cc_definitions.specs.Definitions.{thing_at, definition, func_in}
use Rattle.cc_link.specs.Linked.{Links, all_ids, func_at, func_by, ids_in, name_or_none, program}
use Rattle.cc_linked_names.specs.Given.{name_at, local_names, reserved_names}
use Rattle.cc_linked_programs.proofs.ContentLists.{list_all-in}
use Rattle.cc_linked_programs.proofs.NameLists.{in-filter_map}
use Rattle.cc_linked_programs.proofs.ThingLists.{found-in}
use Rattle.cc_linked_programs.proofs.ThingSources.{is_mention}
use Rattle.cc_lower_sound.specs.Folded.{are_folded, has_folded_expressions}
use Rattle.cc_program.specs.CcNum.declared.target.Target.{Target}
use Rattle.cc_program.specs.declared.func.Entry.{Entry}
use Rattle.cc_program.specs.declared.func.Func.{Func}
use Rattle.cc_program.specs.declared.program.Program.{Program}
use Rattle.cc_program.specs.declared.program.Roles.{Roles}
use Rattle.cc_read_folded.specs.Folded.{IsFoldedUnit}
use Rattle.cc_read_folded.proofs.Renumbered.{bodies_same}
use Rattle.cc_relocation.specs.Relocated.{func_with}
use Rattle.cc_structures.proofs.Elements.{In}
use Rattle.cc_structures.proofs.OrderLemmas.{in-filter}
use Rattle.cc_structures.specs.Structures.{Known, Numbering}
use Rattle.cc_things.specs.Mentions.{Mention, mentions}
use Rattle.cc_things.specs.Things.{Identity, is_definition, is_of, thing_of, identities, things_in, things}
use Rattle.cc_things.specs.declared.text.Text.{Text}
use Rattle.cc_type.specs.CcUnit.declared.ids.Ids.{Ids}
use Rattle.cc_type.specs.CcUnit.declared.unit.UnitKind.{UnitKind}
use Rattle.cc_type.specs.CcUnit.declared.unit.UnitKind.TheVariants as kind

one_is : {A : Type 0} (a b : A) → Some a ≡ Some b → a ≡ b
one_is a b h = cc

-- ---- a mention of a thing is a mention

mention_from : (ms : List Mention) (xs : List Identity) (k : ℕ) (m : Mention) → In m (thing_at (map (thing_of ms) xs) k).mentions → In m ms
mention_from ms [] k m h = absurd h
mention_from ms (x ∷ xs) zero m h = in-filter (is_of x) ms m h
mention_from ms (x ∷ xs) (suc k) m h = mention_from ms xs k m h

mention_in : (texts : List Text) (k : ℕ) (m : Mention) → In m (thing_at (things texts) k).mentions → In m (mentions texts)
unfolding things_in
mention_in texts k m h = mention_from (mentions texts) (identities (mentions texts)) k m h

-- ---- functions

func_is : (k : UnitKind) (f : Func) → func_in k ≡ Some f → (entry : Option Entry) × (k ≡ kind.Func entry (Some f))
func_is (kind.Func entry (Some g)) f h = (entry, ap (λ (z : Func). kind.Func entry (Some z)) (one_is g f h))
func_is (kind.Func entry None) f h = absurd (cc)
func_is (kind.Object leaves) f h = absurd (cc)
func_is (kind.Device d) f h = absurd (cc)

module _ (texts : List Text) (target : Target) (folded : (t : ℕ) (x : Text) → slice_get texts t ≡ Some x → IsFoldedUnit target x.unit) where
  -- what a thing is defined as
  defined_folds : (k : ℕ) (m : Mention) (f : Func) → definition (thing_at (things texts) k) ≡ Some m → func_in m.name.kind ≡ Some f → are_folded target f.body ≡ true
  defined_folds k m f d h =
      let there = found-in is_definition (thing_at (things texts) k).mentions m d in
      let x = is_mention texts m (mention_in texts k m there.0) in
      let e = func_is m.name.kind f h in
      folded m.text x.text x.there m.position m.name e.0 f x.named e.1

  module _ (ids : List Ids) (name : List ℕ) (names : List (List ℕ)) (entry : Option Entry) (k : ℕ) where
    abbrev with_ids : Mention → Option Func → Option Func
    with_ids m o = option_map (func_with name names entry (ids_in ids m.text)) o

    func_by_folds : (m : Mention) (o : Option Func) (f : Func) → definition (thing_at (things texts) k) ≡ Some m → func_in m.name.kind ≡ o → with_ids m o ≡ Some f → are_folded target f.body ≡ true
    func_by_folds m None f d h e = absurd (cc)
    func_by_folds m (Some g) f d h e =
        subst (λ (z : Func). are_folded target z.body ≡ true) (one_is (func_with name names entry (ids_in ids m.text) g) f e) (bodies_same target (ids_in ids m.text) g.body ∙ defined_folds k m g d h)

    thing_folds : (o : Option Mention) (f : Func) → definition (thing_at (things texts) k) ≡ o → option_and_then (λ (m : Mention). with_ids m (option_and_then (λ (m : Mention). func_in m.name.kind) o)) o ≡ Some f → are_folded target f.body ≡ true
    thing_folds None f d e = absurd (cc)
    thing_folds (Some m) f d e = func_by_folds m (func_in m.name.kind) f d refl e

    pub func_folds : (f : Func) → func_by ids name names entry (thing_at (things texts) k) ≡ Some f → are_folded target f.body ≡ true
    func_folds f e = thing_folds (definition (thing_at (things texts) k)) f refl e

  -- ---- the program

  module _ (roles : Roles) (numbering : Numbering) (firsts : List Known) where
    abbrev p : Program
    p = program texts roles numbering firsts target

    abbrev name_of : ℕ → Option (List ℕ)
    name_of k = name_at (things texts) (reserved_names texts roles) roles firsts k

    abbrev ids : List Ids
    ids = all_ids texts numbering

    in_program : (f : Func) → In f p.funcs → are_folded target f.body ≡ true
    in_program f i =
        let g = in-filter_map (func_at (things texts) name_of roles ids) (local_names (things texts) (reserved_names texts roles) roles firsts) f i in
        func_folds ids (name_or_none (things texts) name_of g.0.0) g.0.1 (entry_at (things texts) roles name_of g.0.0) g.0.0 f g.2

    pub program_folds : has_folded_expressions p ≡ true
    program_folds = list_all-in (λ (f : Func). are_folded target f.body) p.funcs in_program

pub linked_folds : (texts : List Text) (target : Target) (roles : Roles) (p : Program) → ((t : ℕ) (x : Text) → slice_get texts t ≡ Some x → IsFoldedUnit target x.unit) → Links texts target roles p → has_folded_expressions p ≡ true
linked_folds texts target roles p h l = subst (λ (z : Program). has_folded_expressions z ≡ true) (sym l.is) (program_folds texts target h roles l.numbering l.firsts)
