-- The names that most files here cite, passed on from one place. Declares nothing.
pub use Rattle.std.specs.List.{AllByRecursion}
pub use Rattle.std.specs.Prelude.{Bool, IfSome, List, None, Option, Some, [], false, filter, length, map, nat_le, nat_lt, slice_get, suc, true, zero, ℕ}
