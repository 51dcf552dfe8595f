-- Which bases stand for another value once the globals change.
use Rattle.std.specs.Prelude.{Bool, true, false}
use Rattle.path_bases.specs.declared.base.Base.{Base}
use Rattle.path_bases.specs.declared.base.Base.TheVariants as base

-- what is reached from a global
abbrev pub is_from_global : Base → Bool
is_from_global (base.Own v) = false
is_from_global (base.Lent v) = false
is_from_global (base.Global n moves) = true
