-- Sizes as 64 bits hold them.
use Rattle.std.specs.Prelude.{◌-◌, ◌^◌, min}
use Rattle.cc_operands.specs.CcSyntax.declared.sizes.Layout.{Layout}

-- a size that they do not hold is the greatest that they hold
abbrev pub saturated : Layout → Layout
saturated l = record { size = min l.size (2 ^ 64 - 1); align = l.align }
