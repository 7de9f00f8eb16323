-- Sound programs: what reading C makes, and what each pass is given.
use Rattle.std.specs.Prelude.{◌≡◌, ℕ, ◌*◌, ◌^◌, Bool, true, false, not, ◌&&◌, ◌||◌, nat_eq, nat_lt, List, [], ◌∷◌, ◌++◌, All, length, drop, Option, Some, None, slice_get, codes, if◌then◌else◌, map}
use Rattle.std.specs.List.{list_all, list_any}
use Rattle.std.specs.Option.{is_none}
use Rattle.std.specs.Str.{bytes_eq}
use Rattle.cc_program.specs.CcNum.declared.int_type.IntType.TheVariants as int
use Rattle.cc_program.specs.CcNum.declared.target.Target.{Target}
use Rattle.cc_program.specs.Qualifiers.{is_const}
use Rattle.cc_program.specs.declared.func.Entry.{Entry}
use Rattle.cc_program.specs.declared.func.Entry.TheVariants as entry
use Rattle.cc_program.specs.declared.func.Func.{Func}
use Rattle.cc_program.specs.declared.object.Device.{Device}
use Rattle.cc_program.specs.declared.object.Object.{Object}
use Rattle.cc_program.specs.declared.program.Program.{Program}
use Rattle.cc_program.specs.declared.types.CType.{CType}
use Rattle.cc_program.specs.declared.types.Shape.{out-Shape}
use Rattle.cc_program.specs.declared.types.Sig.{out-Sig}
use Rattle.cc_program.specs.declared.types.Structure.{Structure}
use Rattle.cc_syntax.specs.Programs.{IsInitial, kind_in, is_sound_body}
use Rattle.cc_syntax.specs.Kinds.{kind_of, is_result, is_plain_scalar, is_object_type, extent_with}
use Rattle.cc_syntax.specs.Lists.{come_first}
use Rattle.cc_syntax.specs.Names.{are_names, file_names, tags, local_names}
use Rattle.cc_syntax.specs.Operators.{is_unqualified, is_handler}
use Rattle.cc_syntax.specs.SameTypes.{same_int, same_flag, same_shape, is_int_shape}
use Rattle.cc_syntax.specs.Types.{Named}
use Rattle.cc_syntax.specs.Values.{is_void}

-- so many things have ids, which are of 32 bits
abbrev pub have_ids : ℕ → Bool
have_ids n = nat_lt n 4294967296

-- structures: those that are only named come first; a member has a complete object type over the structures
-- before its own (6.7.2.1, 2), and a name that no other has (6.7.2.1, 13)
abbrev pub is_only_named : Structure → Bool
is_only_named s = nat_eq (length s.members) 0

abbrev pub is_member : List Structure → ℕ → Target → Named → Bool
is_member before count target m = is_object_type (kind_of target (extent_with before count target) m.1)

-- no rule for names
abbrev pub any_names : List (List ℕ) → Bool
any_names names = true

-- the rule for the names that stand in one scope or space is `are_names`, or none
module _ (named : List (List ℕ) → Bool) where
  abbrev pub is_structure_by : List Structure → ℕ → Target → Structure → Bool
  is_structure_by before count target s = have_ids (length s.members) && (named (local_names s.members) && list_all (is_member before count target) s.members)

  abbrev pub are_structures_by : List Structure → ℕ → Target → List Structure → Bool
  are_structures_by before count target [] = true
  are_structures_by before count target (s ∷ rest) = is_structure_by before count target s && are_structures_by (before ++ s ∷ []) count target rest

abbrev pub is_structure : List Structure → ℕ → Target → Structure → Bool
is_structure before count target s = is_structure_by are_names before count target s

abbrev pub are_structures : List Structure → ℕ → Target → List Structure → Bool
are_structures before count target list = are_structures_by are_names before count target list

-- devices: a named one has no number, the number of another is an address; no two without names are equal
abbrev pub is_numbered : Device → Bool
is_numbered d = is_none d.name

abbrev pub is_device : Target → Device → Bool
is_device target d = if is_numbered d then nat_lt d.number (2 ^ (8 * target.pointer_bytes)) else nat_eq d.number 0

abbrev pub is_same_device : Device → Device → Bool
is_same_device d e = is_numbered d && (is_numbered e && (nat_eq d.number e.number && (same_int d.int e.int && same_flag d.constant e.constant)))

abbrev pub devices_differ : List Device → Bool
devices_differ [] = true
devices_differ (d ∷ ds) = not (list_any (is_same_device d) ds) && devices_differ ds

-- functions
abbrev pub takes_nothing : Func → Bool
takes_nothing f = nat_eq (length (out-Sig f.sig).params) 0

abbrev pub is_plain_void : CType → Bool
is_plain_void t = is_unqualified t && is_void t

abbrev pub is_plain_int : CType → Bool
is_plain_int t = is_unqualified t && is_int_shape int.Int (out-Shape t.shape)

-- main is `int main(void)` or `void main(void)` (5.1.2.2.1); a handler is `void f(void)` and not main
abbrev pub main_name : List ℕ
main_name = codes "main"

abbrev pub is_main : Func → Bool
is_main f = bytes_eq f.name main_name

abbrev pub form_fits : Func → Bool
form_fits f =
    if is_main f then not (is_handler f) && (takes_nothing f && (is_plain_int (out-Sig f.sig).result || is_plain_void (out-Sig f.sig).result))
    else (if is_handler f then takes_nothing f && is_plain_void (out-Sig f.sig).result else true)

abbrev pub is_main_there : Option Func → Bool
is_main_there None = false
is_main_there (Some f) = is_main f

-- the first locals are the parameters, with their types (6.9.1, 7 and 9); a local that is none is not const
abbrev pub are_parameters : List CType → List Named → Bool
are_parameters [] locals = true
are_parameters (t ∷ ts) [] = false
are_parameters (t ∷ ts) (l ∷ ls) = same_shape t.shape l.1.shape && are_parameters ts ls

abbrev pub is_automatic : Named → Bool
is_automatic l = not (is_const l.1)

module _ (p : Program) where
  -- static objects
  abbrev pub is_object : Object → Bool
  is_object o = is_object_type (kind_in p o.ctype)

  -- handlers: a function is one by its attribute, or where the roles name it
  abbrev pub is_handler_name : List ℕ → Bool
  is_handler_name name = list_any (bytes_eq name) p.roles.handlers

  abbrev pub entry_fits : Func → Option Entry → Bool
  entry_fits f None = not (is_handler_name f.name)
  entry_fits f (Some entry.Signal) = true
  entry_fits f (Some entry.Interrupt) = true
  entry_fits f (Some entry.Listed) = is_handler_name f.name

  -- each handler of the roles is a function of the program
  abbrev pub handlers_are_there : Bool
  handlers_are_there = list_all (λ h. list_any (bytes_eq h) (map (λ f. f.name) p.funcs)) p.roles.handlers

  abbrev pub is_local : Named → Bool
  is_local l = is_object_type (kind_in p l.1)

  -- by the rule for the names that stand in one scope or space (6.2.1, 6.2.3)
  module _ (named : List (List ℕ) → Bool) where
    pub record IsFuncBy (f : Func) : Type 0 where
      pub result : is_result (kind_in p (out-Sig f.sig).result) ≡ true
      pub parameters : list_all (λ t. is_plain_scalar (kind_in p t)) (out-Sig f.sig).params ≡ true
      pub form : form_fits f ≡ true
      pub entry : entry_fits f f.entry ≡ true
      pub count : nat_eq f.params (length (out-Sig f.sig).params) ≡ true
      pub first : are_parameters (out-Sig f.sig).params f.locals ≡ true
      pub few : have_ids (length f.locals) ≡ true
      pub locals : list_all is_local f.locals ≡ true
      pub automatic : list_all is_automatic (drop f.params f.locals) ≡ true
      pub names : named (local_names f.locals ++ file_names p) ≡ true
      pub body : is_sound_body p f f.body ≡ true

    pub record IsSoundBy : Type 0 where
      -- ids are of 32 bits
      pub few_structures : have_ids (length p.structures) ≡ true
      pub few_devices : have_ids (length p.devices) ≡ true
      pub few_objects : have_ids (length p.objects) ≡ true
      pub few_funcs : have_ids (length p.funcs) ≡ true
      -- names and tags
      pub tag_names : named (tags p) ≡ true
      pub names : named (file_names p) ≡ true
      -- what they name
      pub order : come_first is_only_named p.structures ≡ true
      pub structures : are_structures_by named [] (length p.structures) p.target p.structures ≡ true
      pub devices : list_all (is_device p.target) p.devices ≡ true
      pub distinct_devices : devices_differ p.devices ≡ true
      pub objects : list_all is_object p.objects ≡ true
      pub initial : All (λ o. IsInitial p o.ctype o.init) p.objects
      pub funcs : All IsFuncBy p.funcs
      pub handlers : handlers_are_there ≡ true
      pub main : is_main_there (slice_get p.funcs p.main) ≡ true

  abbrev pub IsFunc : Func → Type 0
  IsFunc f = IsFuncBy are_names f

  abbrev pub IsSound : Type 0
  IsSound = IsSoundBy are_names

  -- the rules of types, sizes and order, whatever the names are: what the meaning of a program rests on
  abbrev pub IsTypedProgram : Type 0
  IsTypedProgram = IsSoundBy any_names

  -- the rules of names: of structures, of members, of what a file declares, and of the locals of each function beside that
  pub record AreNamesApart : Type 0 where
    pub tag_names : are_names (tags p) ≡ true
    pub names : are_names (file_names p) ≡ true
    pub members : list_all (λ s. are_names (local_names s.members)) p.structures ≡ true
    pub locals : list_all (λ f. are_names (local_names f.locals ++ file_names p)) p.funcs ≡ true
