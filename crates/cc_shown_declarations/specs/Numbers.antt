-- First values with the numbers that a translation unit gives to objects and functions.
use Rattle.cc_program.specs.declared.value.Address.{Address}
use Rattle.cc_program.specs.declared.value.Address.TheVariants as address
use Rattle.cc_program.specs.declared.value.Leaf.{Leaf}
use Rattle.cc_program.specs.declared.value.Leaf.TheVariants as leaf
use Rattle.cc_program.specs.declared.value.Root.{Root}
use Rattle.cc_program.specs.declared.value.Root.TheVariants as root
use Rattle.cc_shown_expressions.specs.OperationNumbers.{Numbers}

module _ (n : Numbers) where
  abbrev pub root_numbered : Root → Root
  root_numbered (root.Static i) = root.Static (n.object i)
  root_numbered (root.Auto activation func local) = root.Auto activation (n.func func) local

  abbrev pub address_numbered : Address → Address
  address_numbered address.Null = address.Null
  address_numbered (address.Func f) = address.Func (n.func f)
  address_numbered (address.At object path index count) = address.At (root_numbered object) path index count

  abbrev pub leaf_numbered : Leaf → Leaf
  leaf_numbered (leaf.Int k) = leaf.Int k
  leaf_numbered (leaf.Place a) = leaf.Place (address_numbered a)
