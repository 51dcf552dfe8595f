-- That counts are in order is a fact: it has at most one proof.
use Rattle.std.specs.Prelude.{◌≡◌, List, [], ◌∷◌}
use Rattle.std.specs.List.{AllByRecursion, AllByRecursion-prop}
use Rattle.std.specs.declared.cmp.Ordering.TheVariants.{Less}
use Rattle.std.specs.Ordering.{Ordering-set}
use Rattle.std.proofs.Math.Bridge.{le_prop}
use Rattle.action_host.specs.declared.tally.Tally.{Tally}
use Rattle.action_host.specs.Counts.{AreCounts, place_cmp}

-- each place is before all those behind it
behind_prop : (t : Tally) (ts : List Tally) → IsProp (AllByRecursion (λ u. place_cmp t u ≡ Less) ts)
behind_prop t ts = AllByRecursion-prop (λ u. place_cmp t u ≡ Less) (λ u. Ordering-set (place_cmp t u) Less) ts

-- counts are in order in one way
pub counts_prop : (ts : List Tally) → IsProp (AreCounts ts)
counts_prop [] a b = λ i. tt
counts_prop (t ∷ ts) a b = λ i. (le_prop a.0 b.0 i, behind_prop t ts a.1 b.1 i, counts_prop ts a.2 b.2 i)
