-- What expressions, places, arguments and event expressions keep where no fault is found in them.
use Rattle.std.proofs.Common.{◌≡◌}
use Rattle.program_laws.proofs.Common.{ℕ, length, map, List, [], true, false, list_all, EventExpr, Expr, Place, Site, TypedTerm, assigns, Names, mentions, all_mention, place_mentions, Sight, path_of, term_lawful, Scope, ParamHead, Table, Demand, typed_arguments, place_found, expr_found, term_found, expr_names, place_names, event_names, exprs_name, KnowsTable, KnowsNamed, SeesNamed, KeepsSpecial, permitted, Mentioned}
use Rattle.typed_program.specs.declared.statement.TypedPlace.{TypedPlace}
use Rattle.typed_program.specs.Paths.{plain}
use Rattle.expr_check.specs.Expressions.{part_of as expr_part}

-- a place that is assigned: a visible variable, steps that keep the rules, and an end that may be changed
pub record PlaceLawful (names : Names) (sight : Sight) (place : TypedPlace) : Type 0 where
  pub assigned : (sites : List Site) (low : ℕ) → assigns names sites sight.special low sight.visible place ≡ true

pub record TermLawful (names : Names) (sight : Sight) (typed : TypedTerm) : Type 0 where
  pub term : term_lawful names.types (length typed.bound) typed.term ≡ true
  pub operands : list_all (λ e. plain (path_of sight e)) typed.operands ≡ true

-- what is proved elsewhere of expressions and event expressions whose names are seen
pub record LawRules : Type 0 where
  pub expressions : (table : Table) (sight : Sight) (scope : Scope) (e : Expr) (demand : Demand) → SeesNamed sight.visible scope (expr_names e) → KeepsSpecial table scope sight.special → (expr_found table scope e demand).faults ≡ [] → permitted demand.paths (path_of sight (expr_found table scope e demand).part) ≡ true
  pub places : (table : Table) (names : Names) (sight : Sight) (scope : Scope) (place : Place) → KnowsTable table names scope → KnowsNamed names scope (place_names place) → SeesNamed sight.visible scope (place_names place) → KeepsSpecial table scope sight.special → (place_found table scope place).faults ≡ [] → PlaceLawful names sight (place_found table scope place).part.place
  pub arguments : (table : Table) (sight : Sight) (scope : Scope) (params : List ParamHead) (args : List Expr) → SeesNamed sight.visible scope (exprs_name args) → KeepsSpecial table scope sight.special → (typed_arguments false params (map (expr_part table scope) args)).faults ≡ [] → list_all (λ e. plain (path_of sight e)) (typed_arguments false params (map (expr_part table scope) args)).part ≡ true
  pub terms : (table : Table) (names : Names) (sight : Sight) (scope : Scope) (event : EventExpr) → KnowsTable table names scope → KnowsNamed names scope (event_names event) → SeesNamed sight.visible scope (event_names event) → KeepsSpecial table scope sight.special → (term_found table scope event).faults ≡ [] → TermLawful names sight (term_found table scope event).part
  -- what the text names, the typed tree mentions
  pub expressions_mention : (table : Table) (scope : Scope) (e : Expr) (demand : Demand) → (expr_found table scope e demand).faults ≡ [] → Mentioned scope (expr_names e) (mentions (expr_found table scope e demand).part)
  pub places_mention : (table : Table) (scope : Scope) (place : Place) → (place_found table scope place).faults ≡ [] → Mentioned scope (place_names place) (place_mentions (place_found table scope place).part.place)
  pub arguments_mention : (table : Table) (scope : Scope) (params : List ParamHead) (args : List Expr) → (typed_arguments false params (map (expr_part table scope) args)).faults ≡ [] → Mentioned scope (exprs_name args) (all_mention (typed_arguments false params (map (expr_part table scope) args)).part)
  pub terms_mention : (table : Table) (scope : Scope) (event : EventExpr) → (term_found table scope event).faults ≡ [] → Mentioned scope (event_names event) (all_mention (term_found table scope event).part.operands)
