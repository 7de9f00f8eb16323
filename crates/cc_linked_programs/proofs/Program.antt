-- The program that sound sources link to is sound, with names that may stand together and few things.
use Rattle.std.proofs.Common.{◌≡◌, ℕ, List, Option, Some, None, option_map, slice_get, refl, ap, sym, subst}
use Rattle.cc_causes.specs.Causes.{bad_handler, cause_of_things}
use Rattle.cc_causes.specs.declared.fault.LinkFault.TheVariants as fault
use Rattle.cc_link.specs.Linked.{Links, program}
use Rattle.cc_linked_programs.proofs.Contents.{func_in, function_sound, object_sound}
use Rattle.cc_linked_programs.proofs.Devices.{devices_apart, devices_fit}
use Rattle.cc_linked_programs.proofs.ContentLists.{all-in, list_all-in}
use Rattle.cc_linked_names.specs.Given.{name_at, reserved_names, tags}
use Rattle.cc_relocated_units.proofs.Standing.{in-order-program, named-first-program}
use Rattle.cc_linked_programs.proofs.Agreeing.{first_none, second_none}
use Rattle.cc_linked_programs.proofs.Units.{all_stand, tags-as_many, units_of}
use Rattle.cc_program.specs.CcNum.declared.target.Target.{Target}
use Rattle.cc_program.specs.declared.func.Func.{Func}
use Rattle.cc_program.specs.declared.object.Object.{Object}
use Rattle.cc_program.specs.declared.program.Program.{Program}
use Rattle.cc_program.specs.declared.program.Roles.{Roles}
use Rattle.cc_relocated_units.specs.Units.{IsSoundUnit}
use Rattle.cc_structures.proofs.Elements.{In}
use Rattle.cc_structures.specs.Structures.{AreNumbered, Known, Numbering}
use Rattle.cc_operands.specs.CcSyntax.Programs.{IsInitial}
use Rattle.cc_operands.specs.CcSyntax.Sound.{IsFunc, IsSound, is_object}
use Rattle.cc_things.specs.Things.{things}
use Rattle.cc_things.specs.declared.text.Text.{Text}
use Rattle.cc_linked_programs.proofs.Entries.{entry_there}
use Rattle.cc_linked_programs.proofs.Forms.{form_there}
use Rattle.cc_linked_programs.proofs.Handlers.{handlers_there}
use Rattle.cc_linked_programs.proofs.Main.{main_runs}
use Rattle.cc_linked_programs.proofs.MainName.{main_keeps}
use Rattle.cc_linked_programs.proofs.Own.{own_main}
use Rattle.cc_linked_programs.specs.Named.{AreFew, AreNamed, HasOwnMain, IsMainNamed}

unmapped : {A B : Type 0} (f : A → B) (o : Option A) → option_map f o ≡ None → o ≡ None
unmapped f None e = refl
unmapped f (Some x) e = absurd (cc e)

module _ (texts : List Text) (target : Target) (sound : (t : ℕ) (x : Text) → slice_get texts t ≡ Some x → IsSoundUnit target x.unit) (roles : Roles) (numbering : Numbering) (firsts : List Known) (are : AreNumbered (units_of texts) numbering firsts)
    (none : cause_of_things numbering (things texts) ≡ None) (no_bad : bad_handler (things texts) roles (name_at (things texts) (reserved_names texts roles) roles firsts) ≡ None) where
  abbrev p : Program
  p = program texts roles numbering firsts target

  abbrev given : List (List ℕ)
  given = tags (things texts) (reserved_names texts roles) roles firsts

  abbrev name_of : ℕ → Option (List ℕ)
  name_of k = name_at (things texts) (reserved_names texts roles) roles firsts k

  module _ (main_named : IsMainNamed texts roles firsts) (named : AreNamed p) (few : AreFew p) where
    pub func_is : (f : Func) → In f p.funcs → IsFunc p f
    func_is f i =
        let s = function_sound texts target sound roles numbering firsts are none no_bad f i in
        let r = func_in texts target sound roles numbering firsts are none no_bad f i in
        record {
          result = s.result;
          parameters = s.parameters;
          form = form_there texts target sound roles numbering firsts are none no_bad main_named named.names f r;
          entry = entry_there texts target sound roles numbering firsts f r.number r.at.defined (ap (λ (g : Func). g.name) r.is) (ap (λ (g : Func). g.entry) r.is);
          count = s.count;
          first = s.first;
          few = few.locals f i;
          locals = s.locals;
          automatic = s.automatic;
          names = named.locals f i;
          body = s.body;
        }

    pub program_sound : IsSound p
    program_sound = record {
      few_structures = few.structures;
      few_devices = few.devices;
      few_objects = few.objects;
      few_funcs = few.funcs;
      tag_names = named.tag_names;
      names = named.names;
      order = named-first-program (units_of texts) numbering firsts given target are (tags-as_many (things texts) (reserved_names texts roles) roles firsts) (all_stand texts target sound);
      structures = in-order-program (units_of texts) numbering firsts given target are (tags-as_many (things texts) (reserved_names texts roles) roles firsts) (all_stand texts target sound);
      devices = devices_fit texts target sound roles numbering firsts;
      distinct_devices = devices_apart texts target sound roles numbering firsts;
      objects = list_all-in (is_object p) p.objects (λ o i. (object_sound texts target sound roles numbering firsts are none no_bad o i).object);
      initial = all-in (λ (o : Object). IsInitial p o.ctype o.init) p.objects (λ o i. (object_sound texts target sound roles numbering firsts are none no_bad o i).initial);
      funcs = all-in (IsFunc p) p.funcs func_is;
      handlers = handlers_there texts target sound roles numbering firsts no_bad;
      main = main_runs texts target sound roles numbering firsts none main_named;
    }

-- of linked sources
pub linked_sound : (texts : List Text) (target : Target) (roles : Roles) (p : Program) → Links texts target roles p → ((t : ℕ) (x : Text) → slice_get texts t ≡ Some x → IsSoundUnit target x.unit) →
    ((t : ℕ) (x : Text) → slice_get texts t ≡ Some x → HasOwnMain roles x.unit) → AreNamed p → AreFew p → IsSound p
linked_sound texts target roles p links sound own named few =
    let none = first_none (cause_of_things links.numbering (things texts)) _ links.none in
    let bad = unmapped fault.BadHandler (bad_handler (things texts) roles (name_at (things texts) (reserved_names texts roles) roles links.firsts)) (second_none (cause_of_things links.numbering (things texts)) _ links.none) in
    let main_named = main_keeps texts target sound roles links.firsts (own_main texts target sound roles links.numbering none own) in
    subst (λ (q : Program). IsSound q) (sym links.is)
    (program_sound texts target sound roles links.numbering links.firsts links.numbered none bad main_named (subst (λ (q : Program). AreNamed q) links.is named) (subst (λ (q : Program). AreFew q) links.is few))
