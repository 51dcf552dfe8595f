-- Where all visible names are known, those that pass a test are; where those of a whole are known, those of its parts are.
use Rattle.std.proofs.Common.{◌≡◌, ◌∷◌}
use Rattle.program_laws.proofs.Common.{ℕ, true, List, Option, Some, None, AllByRecursion, or_left, or_right, Scope, Seen, Table, seen_of, Names, item_at, Knows, KnowsName, KnowsNamed, KnowsTable, either, any_of}
use Rattle.stmt_check.specs.Captures.{Names as Naming}
use Rattle.program_laws.proofs.Shapes.Lists.{all_at}

pub knows_table : {table : Table} {names : Names} {scope : Scope} → Knows table names scope → KnowsTable table names scope
knows_table k = record { types = k.types; few = k.few; kinds = k.kinds; actions = k.actions }

item_known : (names : Names) (seens : List Seen) (o : Option ℕ) (s : Seen) → AllByRecursion (KnowsName names) seens → item_at seens o ≡ Some s → KnowsName names s
item_known names seens None s all h = absurd (cc)
item_known names seens (Some n) s all h = all_at (KnowsName names) seens n s all h

pub knows_named : {table : Table} {names : Names} {scope : Scope} → Knows table names scope → (named : Naming) → KnowsNamed names scope named
knows_named {names = names} {scope = scope} k named = record { known_at = λ name s is at. item_known names scope.names (seen_of scope name) s k.seen at }

module _ (names : Names) (scope : Scope) where
  -- a test that fewer names pass
  pub knows_fewer : (few more : Naming) → ((name : List ℕ) → few name ≡ true → more name ≡ true) → KnowsNamed names scope more → KnowsNamed names scope few
  knows_fewer few more within k = record { known_at = λ name s is at. k.known_at name s (within name is) at }

  pub knows_left : (one other : Naming) → KnowsNamed names scope (either one other) → KnowsNamed names scope one
  knows_left one other k = knows_fewer one (either one other) (λ name h. or_left (one name) (other name) h) k

  pub knows_right : (one other : Naming) → KnowsNamed names scope (either one other) → KnowsNamed names scope other
  knows_right one other k = knows_fewer other (either one other) (λ name h. or_right (one name) (other name) h) k

  pub knows_first : (part : Naming) (parts : List Naming) → KnowsNamed names scope (any_of (part ∷ parts)) → KnowsNamed names scope part
  knows_first part parts k = knows_fewer part (any_of (part ∷ parts)) (λ name h. or_left (part name) (any_of parts name) h) k

  pub knows_rest : (part : Naming) (parts : List Naming) → KnowsNamed names scope (any_of (part ∷ parts)) → KnowsNamed names scope (any_of parts)
  knows_rest part parts k = knows_fewer (any_of parts) (any_of (part ∷ parts)) (λ name h. or_right (part name) (any_of parts name) h) k
