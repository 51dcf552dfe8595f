-- Numbers of places, and the limits of an event expression.
use Rattle.std.specs.Prelude.{ℕ, ◌+◌, List, [], ◌∷◌, min, nat_le, if◌then◌else◌}
use Rattle.span_text.specs.declared.spot.Spot.{Spot}
use Rattle.type_table.specs.Found.{told}
use Rattle.listener_check.specs.declared.sofar.Sofar.{Sofar}
use Rattle.listener_check.specs.Went.{Went, went, behind}

-- the number of a place
abbrev pub short : ℕ → ℕ
short n = min 65535 n

-- 4 at the 65th leaf: a template, a wait or the deadline of a group
abbrev pub leaf_codes : Sofar → List ℕ
leaf_codes s = if nat_le 64 s.leaves then 4 ∷ [] else []

abbrev pub with_leaf : Sofar → Sofar
with_leaf s = record s { leaves = s.leaves + 1 }

unfoldable pub leaf_read : Spot → Sofar → Went (Unit {0})
leaf_read spot s = behind (told spot (leaf_codes s)) (went tt (with_leaf s))

-- 4 at the 193rd operand or duration
abbrev pub sum_codes : Sofar → List ℕ
sum_codes s = if nat_le 192 s.sums then 4 ∷ [] else []

abbrev pub with_sum : Sofar → Sofar
with_sum s = record s { sums = s.sums + 1 }

unfoldable pub sum_read : Spot → Sofar → Went (Unit {0})
sum_read spot s = behind (told spot (sum_codes s)) (went tt (with_sum s))
