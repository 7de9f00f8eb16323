-- The tests of a function, as the code makes them.
use Rattle.std.specs.Prelude.{Bool, ◌&&◌, ◌++◌, [], nat_eq, drop, length, slice_get}
use Rattle.std.specs.List.{list_all}
use Rattle.cc_program.specs.declared.func.Func.{Func}
use Rattle.cc_program.specs.declared.program.Program.{Program}
use Rattle.cc_program.specs.declared.types.Sig.{out-Sig}
use Rattle.cc_typed.specs.CcSyntax.Kinds.{is_result, is_plain_scalar}
use Rattle.cc_typed.specs.CcSyntax.Programs.{kind_in, is_sound_body}
use Rattle.cc_typed.specs.CcSyntax.Lists.{come_first}
use Rattle.cc_typed.specs.CcSyntax.Names.{are_names, local_names, file_names, tags}
use Rattle.cc_typed.specs.CcSyntax.Sound.{form_fits, entry_fits, are_parameters, have_ids, is_local, is_automatic, is_only_named, are_structures, is_device, devices_differ, is_object, handlers_are_there, is_main_there}

-- but for its names and its statements
abbrev pub is_signature : Program → Func → Bool
is_signature p f =
    is_result (kind_in p (out-Sig f.sig).result)
    && (list_all (λ t. is_plain_scalar (kind_in p t)) (out-Sig f.sig).params
    && (form_fits f
    && (entry_fits p f f.entry
    && (nat_eq f.params (length (out-Sig f.sig).params)
    && (are_parameters (out-Sig f.sig).params f.locals && (have_ids (length f.locals) && (list_all (is_local p) f.locals && list_all is_automatic (drop f.params f.locals))))))))

abbrev pub is_func : Program → Func → Bool
is_func p f = is_signature p f && (are_names (local_names f.locals ++ file_names p) && is_sound_body p f f.body)

abbrev pub are_sizes_few : Program → Bool
are_sizes_few p = have_ids (length p.structures) && (have_ids (length p.devices) && (have_ids (length p.objects) && have_ids (length p.funcs)))

abbrev pub are_all_names : Program → Bool
are_all_names p = are_names (tags p) && are_names (file_names p)

abbrev pub are_declared : Program → Bool
are_declared p =
    come_first is_only_named p.structures
    && (are_structures [] (length p.structures) p.target p.structures && (list_all (is_device p.target) p.devices && (devices_differ p.devices && list_all (is_object p) p.objects)))

abbrev pub are_run : Program → Bool
are_run p = list_all (is_func p) p.funcs && (handlers_are_there p && is_main_there (slice_get p.funcs p.main))

-- a program but for the first values of its objects
abbrev pub is_checked : Program → Bool
is_checked p = are_sizes_few p && (are_all_names p && (are_declared p && are_run p))
