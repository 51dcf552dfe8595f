-- An expression in which no fault is found has its shape; so have places that are assigned, and arguments.
use Rattle.std.proofs.Common.{◌≡◌, ◌∷◌}
use Rattle.program_laws.proofs.Common.{Bool, true, List, [], map, length, Some, refl, ◌∙◌, list_all, AllByRecursion, and_from, and_parts, length-map, bytes_eq-Decides, bytes_eq, Shape, Expr, Suffix, Place, TypedExpr, stands, Names, holds, shape_of, have, Scope, ParamHead, Table, Demand, Wish, Exactly, param_wants, typed_arguments, seen, name_found, place_found, typed_of, expr_found, Knows, KnowsTable, KnowsNamed, wish_stands, wished, answers, any_of, expr_names, suffix_names, place_names}
use Rattle.typed_program.specs.Expressions.{has}
use Rattle.expr_rules.specs.Postfix.{leads}
use Rattle.expr_check.specs.Expressions.{part_of, step_of}
use Rattle.program_laws.proofs.Exprs.Sure.{sure_then, sure_sound}
use Rattle.program_laws.proofs.Exprs.Answering.{Answering, Answers, exact_known}
use Rattle.program_laws.proofs.Exprs.Holding.{is_of_known}
use Rattle.program_laws.proofs.Exprs.Arguments.{arguments_have}
use Rattle.program_laws.proofs.Exprs.Knowing.{knows_table, knows_named, knows_left, knows_right, knows_first, knows_rest}
use Rattle.program_laws.proofs.Exprs.Names.{root_sure}
use Rattle.program_laws.proofs.Exprs.Steps.{StepAnswers}
use Rattle.program_laws.proofs.Exprs.Trees.{part_answers, step_answers}
use Rattle.program_laws.proofs.Exprs.Walks.{TargetAnswers, place_sure}

-- ---- where the names are known that are named

-- for every expression and every place
pub named_expression_answers : {table : Table} {names : Names} {scope : Scope} → KnowsTable table names scope → (e : Expr) → KnowsNamed names scope (expr_names e) → (demand : Demand) → wish_stands names.types demand.wish ≡ true → (expr_found table scope e demand).faults ≡ [] → answers names demand.wish (expr_found table scope e demand).part ≡ true
named_expression_answers {table = table} {names = names} {scope = scope} k e named demand stands none =
    let found = sure_then (Answering names demand.wish) (λ x. answers names demand.wish x ≡ true) (part_of table scope e demand) typed_of
    ((part_answers table names scope k e named).at_demand demand stands)
    (λ j a. sure_sound (λ x. answers names demand.wish x ≡ true) j.typed (and_from (holds names j.typed) (wished demand.wish (shape_of j.typed)) a.whole a.fit)) in
    found.where_clear none

all_steps : (table : Table) (names : Names) (scope : Scope) → KnowsTable table names scope → (us : List Suffix) → KnowsNamed names scope (any_of (map suffix_names us)) → AllByRecursion (StepAnswers names) (map (step_of table scope) us)
all_steps table names scope k [] named = tt
all_steps table names scope k (s ∷ us) named = (step_answers table names scope k s (knows_first names scope (suffix_names s) (map suffix_names us) named), all_steps table names scope k us (knows_rest names scope (suffix_names s) (map suffix_names us) named))

-- a place that is assigned: its shape is known and stands, and its steps lead there from its variable
pub named_place_answers : {table : Table} {names : Names} {scope : Scope} → KnowsTable table names scope → (place : Place) → KnowsNamed names scope (place_names place) → (place_found table scope place).faults ≡ [] → TargetAnswers names (place_found table scope place).part
named_place_answers {table = table} {names = names} {scope = scope} k place named none =
    let steps = map (step_of table scope) place.steps in
    let first = knows_left names scope (bytes_eq place.name) (any_of (map suffix_names place.steps)) named in
    let behind = knows_right names scope (bytes_eq place.name) (any_of (map suffix_names place.steps)) named in
    let found = place_sure names (leads true (map (λ s. s.kind) steps)) (λ demand. name_found place.spot demand (seen scope place.name)) steps place.spot
    (λ demand. root_sure names scope place.name (λ s at. first.known_at place.name s ((bytes_eq-Decides place.name place.name).1 refl) at) place.spot demand)
    (all_steps table names scope k place.steps behind) in
    found.where_clear none

all_parts : (table : Table) (names : Names) (scope : Scope) → KnowsTable table names scope → (es : List Expr) → KnowsNamed names scope (any_of (map expr_names es)) → AllByRecursion (Answers names) (map (part_of table scope) es)
all_parts table names scope k [] named = tt
all_parts table names scope k (e ∷ es) named = (part_answers table names scope k e (knows_first names scope (expr_names e) (map expr_names es) named), all_parts table names scope k es (knows_rest names scope (expr_names e) (map expr_names es) named))

-- arguments, each of the shape of its parameter, where as many stand as are asked
pub named_arguments_answer : {table : Table} {names : Names} {scope : Scope} → KnowsTable table names scope → (is_call : Bool) (params : List ParamHead) (shapes : List Shape) (es : List Expr) → KnowsNamed names scope (any_of (map expr_names es)) → param_wants params ≡ map (λ s. Some s) shapes → list_all (stands names.types) shapes ≡ true → length es ≡ length params → (typed_arguments is_call params (map (part_of table scope) es)).faults ≡ [] → have names shapes (typed_arguments is_call params (map (part_of table scope) es)).part ≡ true
named_arguments_answer {table = table} {names = names} {scope = scope} k is_call params shapes es named is all len none =
    (arguments_have names is_call params shapes (map (part_of table scope) es) is all (all_parts table names scope k es named) (length-map es (part_of table scope) ∙ len)).where_clear none

-- ---- where all visible names are known

pub expression_answers : {table : Table} {names : Names} {scope : Scope} → Knows table names scope → (e : Expr) (demand : Demand) → wish_stands names.types demand.wish ≡ true → (expr_found table scope e demand).faults ≡ [] → answers names demand.wish (expr_found table scope e demand).part ≡ true
expression_answers k e demand stands none = named_expression_answers (knows_table k) e (knows_named k (expr_names e)) demand stands none

pub place_answers : {table : Table} {names : Names} {scope : Scope} → Knows table names scope → (place : Place) → (place_found table scope place).faults ≡ [] → TargetAnswers names (place_found table scope place).part
place_answers k place none = named_place_answers (knows_table k) place (knows_named k (place_names place)) none

pub arguments_answer : {table : Table} {names : Names} {scope : Scope} → Knows table names scope → (is_call : Bool) (params : List ParamHead) (shapes : List Shape) (es : List Expr) → param_wants params ≡ map (λ s. Some s) shapes → list_all (stands names.types) shapes ≡ true → length es ≡ length params → (typed_arguments is_call params (map (part_of table scope) es)).faults ≡ [] → have names shapes (typed_arguments is_call params (map (part_of table scope) es)).part ≡ true
arguments_answer k is_call params shapes es is all len none = named_arguments_answer (knows_table k) is_call params shapes es (knows_named k (any_of (map expr_names es))) is all len none

-- ---- what an answer says

-- what an answer says: its parts hold, and its shape is one that is asked
pub answered : (names : Names) (wish : Wish) (e : TypedExpr) → answers names wish e ≡ true → (holds names e ≡ true) × (wished wish (shape_of e) ≡ true)
answered names wish e h = and_parts (holds names e) (wished wish (shape_of e)) h

-- where a shape is asked, it stands there
pub has_exact : (names : Names) (s : Shape) (e : TypedExpr) → answers names (Exactly s) e ≡ true → has names s e ≡ true
has_exact names s e h =
    let both = answered names (Exactly s) e h in
    is_of_known names s e both.0 (exact_known s (shape_of e) both.1)
