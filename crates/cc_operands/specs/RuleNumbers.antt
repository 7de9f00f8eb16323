-- The numbers of the rules, as refusals tell them.
use Rattle.std.specs.Prelude.{ℕ}
use Rattle.cc_operands.specs.declared.rule.Rule.{Rule}
use Rattle.cc_operands.specs.declared.rule.Rule.TheVariants as rule

abbrev pub number_of : Rule → ℕ
number_of rule.Undeclared = 1
number_of rule.DeclaredTwice = 2
number_of rule.NoType = 3
number_of rule.StorageClass = 4
number_of rule.ArrayBound = 5
number_of rule.NoObjectType = 6
number_of rule.MemberTwice = 7
number_of rule.PointerToVoid = 8
number_of rule.StructureValue = 9
number_of rule.FunctionResult = 10
number_of rule.Attribute = 11
number_of rule.EnumerationConstant = 12
number_of rule.ConstantTraps = 13
number_of rule.StaticInitialiser = 14
number_of rule.TooManyInitialisers = 15
number_of rule.InitialiserShape = 16
number_of rule.Indirection = 17
number_of rule.AddressOf = 18
number_of rule.Subscript = 19
number_of rule.Member = 20
number_of rule.Arrow = 21
number_of rule.Callee = 22
number_of rule.ArgumentCount = 23
number_of rule.NotModifiable = 24
number_of rule.NotAssignable = 25
number_of rule.NoInteger = 26
number_of rule.NoSum = 27
number_of rule.NoComparison = 28
number_of rule.NoScalar = 29
number_of rule.NoCommonType = 30
number_of rule.Cast = 31
number_of rule.SizeOf = 32
number_of rule.Break = 33
number_of rule.Continue = 34
number_of rule.CaseLabel = 35
number_of rule.Switch = 36
number_of rule.ReturnValue = 37
number_of rule.VoidUsed = 38
number_of rule.MainOrIntrinsic = 39
number_of rule.Device = 40
