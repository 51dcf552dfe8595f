-- Computed operands that whole numbers of 64 bits can be added to.
use Rattle.std.specs.Prelude.{◌≤ℤ◌, pos, negsuc}
use Rattle.term_meaning.specs.declared.leaf.Computed.{Computed}
use Rattle.term_meaning.specs.declared.leaf.Computed.TheVariants.{Number, Truth, Letters, Missing}

-- a number of 64 bits, or no number
abbrev pub IsWord : Computed → Type 0
IsWord (Number n) = (negsuc 9223372036854775807 ≤ℤ n) × (n ≤ℤ pos 9223372036854775807)
IsWord (Truth b) = Unit {0}
IsWord (Letters text) = Unit {0}
IsWord Missing = Unit {0}

-- a sum or difference of two of 64 bits, or no number
abbrev pub IsSmall : Computed → Type 0
IsSmall (Number n) = (negsuc 36893488147419103231 ≤ℤ n) × (n ≤ℤ pos 36893488147419103232)
IsSmall (Truth b) = Unit {0}
IsSmall (Letters text) = Unit {0}
IsSmall Missing = Unit {0}
