-- A program whose temporaries have names and stand in the order of their first writing, and whose devices stand in the order of the text.
use Rattle.std.specs.Prelude.{ℕ, suc, max, List, [], ◌∷◌, ◌++◌, map, flat_map, fold, replicate, take, zip, length, codes, if◌then◌else◌}
use Rattle.cc_names.specs.Names.{Numbered, names_for}
use Rattle.cc_program.specs.declared.func.Func.{Func}
use Rattle.cc_program.specs.declared.object.Device.{Device}
use Rattle.cc_program.specs.declared.program.Program.{Program}
use Rattle.cc_syntax.specs.Names.{file_names, local_names, tags}
use Rattle.cc_syntax.specs.Normal.{devices_in_text, has_name}
use Rattle.cc_syntax.specs.Types.{Named}
use Rattle.cc_lower_numbers.specs.Order.{ordered, place_in, arranged}
use Rattle.cc_lower_numbers.specs.Renamed.{stmt_renamed}
use Rattle.cc_lower_numbers.specs.Temporaries.{kept_count, temporary_count, temporaries}

-- ---- names

-- all names that a program has: tags, members, devices, objects, functions, intrinsics and locals
abbrev pub names_of_program : Program → List (List ℕ)
names_of_program p = tags p ++ (flat_map (λ s. local_names s.members) p.structures ++ (file_names p ++ flat_map (λ f. local_names f.locals) p.funcs))

abbrev pub most_temporaries : Program → ℕ
most_temporaries p = fold max 0 (map temporary_count p.funcs)

-- `t__1`, `t__2` and so on without those that the program has, as many as a function has temporaries at most
abbrev pub temporary_names : Program → List (List ℕ)
temporary_names p = names_for (names_of_program p) [] [] (replicate (most_temporaries p) (Numbered (codes "t")))

-- ---- devices: those that have names, and then the others in the order of the text

abbrev pub named_from : ℕ → List Device → List ℕ
named_from i [] = []
named_from i (d ∷ ds) = if has_name d then i ∷ named_from (suc i) ds else named_from (suc i) ds

abbrev pub device_order : Program → List ℕ
device_order p = ordered 0 (length p.devices) (named_from 0 p.devices ++ devices_in_text p)

-- ---- the program

abbrev pub with_name : List ℕ × Named → Named
with_name x = (x.0, x.1.1)

abbrev pub numbered_locals : List (List ℕ) → Func → List Named
numbered_locals names f = take (kept_count f) f.locals ++ map with_name (zip names (arranged f.locals (temporaries f)))

abbrev pub numbered_func : List (List ℕ) → (ℕ → ℕ) → Func → Func
numbered_func names device f = record {
  name = f.name;
  sig = f.sig;
  entry = f.entry;
  params = f.params;
  locals = numbered_locals names f;
  body = map (stmt_renamed (place_in (kept_count f) (temporaries f)) device) f.body;
}

abbrev pub numbered : Program → Program
numbered p = record {
  target = p.target;
  roles = p.roles;
  structures = p.structures;
  devices = arranged p.devices (device_order p);
  objects = p.objects;
  funcs = map (numbered_func (temporary_names p) (place_in 0 (device_order p))) p.funcs;
  main = p.main;
}
