-- Where a storage class has a meaning (C99 6.7.1, 6.8.5, 6.9).
use Rattle.std.specs.Prelude.{Bool, true, false, not, [], ◌∷◌}
use Rattle.std.specs.List.{list_any}
use Rattle.cc_specifiers.specs.Attributes.{is_function}
use Rattle.cc_specifiers.specs.declared.attribute.Entity.{Entity}
use Rattle.cc_specifiers.specs.declared.storage.Setting.{Setting}
use Rattle.cc_specifiers.specs.declared.storage.Where.{Where}
use Rattle.cc_specifiers.specs.declared.storage.Where.TheVariants as stands
use Rattle.cc_program.specs.CcWords.declared.word.Word.{Word}
use Rattle.cc_program.specs.CcWords.declared.word.Word.TheVariants as w

-- the flags say that a function is declared, and that something is initialised
abbrev pub fits_file : Bool → Word → Bool
fits_file given w.Typedef = not given
fits_file given w.Extern = true
fits_file given w.Static = true
fits_file given _ = false

abbrev pub fits_block : Bool → Bool → Word → Bool
fits_block function given w.Typedef = not given
fits_block function given w.Extern = not given
fits_block function given w.Static = not function
fits_block function given w.Auto = not function
fits_block function given w.Register = not function
fits_block function given _ = false

abbrev pub fits_for : Bool → Word → Bool
fits_for function w.Auto = not function
fits_for function w.Register = not function
fits_for function _ = false

abbrev pub fits_definition : Word → Bool
fits_definition w.Extern = true
fits_definition w.Static = true
fits_definition _ = false

abbrev pub fits_parameter : Word → Bool
fits_parameter w.Register = true
fits_parameter _ = false

abbrev pub storage_fits : Where → Bool → Bool → Word → Bool
storage_fits stands.AtFile function given x = fits_file given x
storage_fits stands.InBlock function given x = fits_block function given x
storage_fits stands.InFor function given x = fits_for function x
storage_fits stands.OfDefinition function given x = fits_definition x
storage_fits stands.AsParameter function given x = fits_parameter x
storage_fits stands.AsMember function given x = false
storage_fits stands.InTypeName function given x = false

-- of one thing that is declared, and not initialised
abbrev pub setting : Where → Entity → Setting
setting place entity = record { place = place; entities = entity ∷ []; given = false }

abbrev pub fits_storage : Setting → Word → Bool
fits_storage setting x = storage_fits setting.place (list_any is_function setting.entities) setting.given x
