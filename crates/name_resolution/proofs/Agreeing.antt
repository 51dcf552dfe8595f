-- Where the names that a text names stand for what the checker sees by them.
use Rattle.std.proofs.Common.{◌≡◌, ℕ, true, List, [], ◌∷◌, map}
use Rattle.std.specs.List.{AllByRecursion}
use Rattle.std.proofs.lemmas.Bool.{or_left, or_right}
use Rattle.type_table.specs.declared.scope.Scope.{Scope}
use Rattle.stmt_check.specs.Captures.{Names, either, any_of}
use Rattle.name_resolution.specs.Names.{Named}
pub use Rattle.name_resolution.proofs.Seeing.{variable_by, meant_by, Agrees, ActionIs, ActionsAgree}

module _ (names : List Named) (scope : Scope) where
  pub agrees_fewer : (few more : Names) → ((name : List ℕ) → few name ≡ true → more name ≡ true) → Agrees names scope more → Agrees names scope few
  agrees_fewer few more within k = record { same = λ name is. k.same name (within name is) }

  pub agrees_left : (one other : Names) → Agrees names scope (either one other) → Agrees names scope one
  agrees_left one other k = agrees_fewer one (either one other) (λ name h. or_left (one name) (other name) h) k

  pub agrees_right : (one other : Names) → Agrees names scope (either one other) → Agrees names scope other
  agrees_right one other k = agrees_fewer other (either one other) (λ name h. or_right (one name) (other name) h) k

  pub agrees_first : (part : Names) (parts : List Names) → Agrees names scope (any_of (part ∷ parts)) → Agrees names scope part
  agrees_first part parts k = agrees_fewer part (any_of (part ∷ parts)) (λ name h. or_left (part name) (any_of parts name) h) k

  pub agrees_rest : (part : Names) (parts : List Names) → Agrees names scope (any_of (part ∷ parts)) → Agrees names scope (any_of parts)
  agrees_rest part parts k = agrees_fewer (any_of parts) (any_of (part ∷ parts)) (λ name h. or_right (part name) (any_of parts name) h) k

  -- of each part it is known where its names agree
  pub agrees_all : {T : Type 0} (P : T → Type 0) (called : T → Names) (ts : List T) → AllByRecursion (λ t. Agrees names scope (called t) → P t) ts → Agrees names scope (any_of (map called ts)) → AllByRecursion P ts
  agrees_all P called [] all k = tt
  agrees_all P called (t ∷ ts) all k = (all.0 (agrees_first (called t) (map called ts) k), agrees_all P called ts all.1 (agrees_rest (called t) (map called ts) k))
