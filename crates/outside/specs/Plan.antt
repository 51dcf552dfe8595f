-- Calls that fail by their numbers.
use Rattle.std.specs.Prelude.{◌+◌, ◌-◌, ◌^◌, min, Bool, nat_eq}
use Rattle.std.specs.List.{list_any}
use Rattle.outside.specs.declared.plan.Plan.{Plan}

-- The plan with one more call counted, up to the end of its type.
abbrev pub counted : Plan → Plan
counted p = record p { calls = min (p.calls + 1) (2 ^ 64 - 1) }

-- Whether the number of the next call stands among those that fail.
abbrev pub next_fails : Plan → Bool
next_fails p = list_any (λ n. nat_eq n (min (p.calls + 1) (2 ^ 64 - 1))) p.failing
