-- The names of sources as mentions; and what has a name there: all with external linkage; what has none is defined where it stands, or a device.
use Rattle.std.specs.Prelude.{◌≡◌, ℕ, true, false, ◌||◌, nat_eq, is_some}
use Rattle.std.specs.List.{list_any}
use Rattle.cc_things.specs.Mentions.{Mention}
use Rattle.cc_things.specs.Things.{is_definition, is_device_kind, is_external_linkage}
use Rattle.cc_things.specs.declared.text.Text.{Text}
use Rattle.cc_unit.specs.Mentioned.{mentioned}
use Rattle.cc_unit.specs.declared.unit.UnitName.{UnitName}

-- the name at a position of a source
abbrev pub mention_of : ℕ → Text → ℕ → UnitName → Mention
mention_of t x i n = record { text = t; position = i; used = list_any (nat_eq i) (mentioned x.unit.names); name = n }

pub record IsNamed (m : Mention) : Type 0 where
  pub external : is_external_linkage m.name.linkage ≡ true → is_some m.name.name ≡ true
  pub nameless : is_some m.name.name ≡ false → is_definition m || is_device_kind m.name.kind ≡ true
