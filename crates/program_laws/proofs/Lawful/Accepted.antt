-- Expressions, places and arguments in which no fault is found keep the rules of paths and changes, and what they name in the
-- text their typed trees mention by number.
use Rattle.std.proofs.Common.{◌≡◌}
use Rattle.program_laws.proofs.Common.{ℕ, Bool, false, true, List, [], map, Some, refl, list_all, bytes_eq, bytes_eq-Decides, Expr, Place, TypedExpr, Names, Mention, mentions, all_mention, place_mentions, Sight, path_of, Scope, Seen, ParamHead, Table, Demand, typed_arguments, seen, place_found, expr_found, typed_of, any_of, expr_names, suffix_names, place_names, exprs_name, KnowsTable, KnowsNamed, SeesNamed, KeepsSpecial, permitted, Mentioned}
use Rattle.typed_program.specs.Paths.{plain}
use Rattle.expr_rules.specs.Places.{is_global}
use Rattle.expr_check.specs.Expressions.{part_of, step_of}
use Rattle.program_laws.proofs.Exprs.Knowing.{knows_left}
use Rattle.program_laws.proofs.Exprs.Sure.{sure_then, sure_sound}
use Rattle.program_laws.proofs.Lawful.Calls.{typed_kept}
use Rattle.program_laws.proofs.Lawful.Operands.{PartKept}
use Rattle.program_laws.proofs.Lawful.Places.{named_place_kept}
use Rattle.program_laws.proofs.Lawful.Rules.{PlaceLawful}
use Rattle.program_laws.proofs.Lawful.Said.{forms_say}
use Rattle.program_laws.proofs.Lawful.Saying.{Hit, Mentions, PartSays}
use Rattle.program_laws.proofs.Lawful.SayingCalls.{PairSays, typed_say}
use Rattle.program_laws.proofs.Lawful.SayingOperands.{LinkSays}
use Rattle.program_laws.proofs.Lawful.SayingSteps.{StepSays, place_says}
use Rattle.program_laws.proofs.Lawful.Seeing.{PartSeen, StepSeen, PairSeen, LinkSeen, sees_left, sees_right, all_seen, forms_kept}
use Rattle.program_laws.proofs.Lawful.Standing.{Standing, permits}
use Rattle.program_laws.proofs.Lawful.Steps.{StepKept}
use Rattle.program_laws.proofs.Exprs.Inductions.{part_is, parts_are, steps_are}

-- an expression keeps the rules, and is what its place permits
pub expressions_lawful : (table : Table) (sight : Sight) (scope : Scope) (e : Expr) (demand : Demand) → SeesNamed sight.visible scope (expr_names e) → KeepsSpecial table scope sight.special → (expr_found table scope e demand).faults ≡ [] → permitted demand.paths (path_of sight (expr_found table scope e demand).part) ≡ true
expressions_lawful table sight scope e demand sees special none =
    let kept = part_is table scope (PartSeen table sight scope special) (StepSeen table sight scope special) (PairSeen table sight scope special) (LinkSeen table sight scope special) (forms_kept table sight scope special) e sees in
    let found = sure_then (Standing sight demand) (λ (x : TypedExpr). permitted demand.paths (path_of sight x) ≡ true) (part_of table scope e demand) typed_of (kept.at_demand demand)
    (λ j s. sure_sound (λ (x : TypedExpr). permitted demand.paths (path_of sight x) ≡ true) j.typed (permits demand j.root (path_of sight j.typed) s.keeps)) in
    found.where_clear none

-- a place that is assigned keeps the rules
pub places_lawful : (table : Table) (names : Names) (sight : Sight) (scope : Scope) (place : Place) → KnowsTable table names scope → KnowsNamed names scope (place_names place) → SeesNamed sight.visible scope (place_names place) → KeepsSpecial table scope sight.special → (place_found table scope place).faults ≡ [] → PlaceLawful names sight (place_found table scope place).part.place
places_lawful table names sight scope place k named sees special none =
    let steps = map (step_of table scope) place.steps in
    let first = knows_left names scope (bytes_eq place.name) (any_of (map suffix_names place.steps)) named in
    let begins = sees_left sight.visible scope (bytes_eq place.name) (any_of (map suffix_names place.steps)) sees in
    let behind = sees_right sight.visible scope (bytes_eq place.name) (any_of (map suffix_names place.steps)) sees in
    let each = steps_are table scope (PartSeen table sight scope special) (StepSeen table sight scope special) (PairSeen table sight scope special) (LinkSeen table sight scope special) (forms_kept table sight scope special) place.steps in
    let found = named_place_kept names sight (seen scope place.name) steps place.spot place.spot
    (λ s at. first.known_at place.name s ((bytes_eq-Decides place.name place.name).1 refl) at)
    (λ s at inner free. begins.sees_at place.name s ((bytes_eq-Decides place.name place.name).1 refl) at inner free)
    (all_seen sight.visible scope (StepKept sight) (map suffix_names place.steps) steps behind each) in
    found.where_clear none

-- arguments are no paths of reference type
pub arguments_lawful : (table : Table) (sight : Sight) (scope : Scope) (params : List ParamHead) (args : List Expr) → SeesNamed sight.visible scope (exprs_name args) → KeepsSpecial table scope sight.special → (typed_arguments false params (map (part_of table scope) args)).faults ≡ [] → list_all (λ e. plain (path_of sight e)) (typed_arguments false params (map (part_of table scope) args)).part ≡ true
arguments_lawful table sight scope params args sees special none =
    let each = parts_are table scope (PartSeen table sight scope special) (StepSeen table sight scope special) (PairSeen table sight scope special) (LinkSeen table sight scope special) (forms_kept table sight scope special) args in
    (typed_kept sight params (map (part_of table scope) args) (all_seen sight.visible scope (PartKept sight) (map expr_names args) (map (part_of table scope) args) sees each)).where_clear none

-- ---- mentions

hit_mentioned : {scope : Scope} {named : List ℕ → Bool} {mention : Mention} → ((name : List ℕ) (s : Seen) → named name ≡ true → seen scope name ≡ Some s → is_global s.kind ≡ false → Hit s mention) → Mentioned scope named mention
hit_mentioned h = record { mentioned = λ name s is at inner. let hit = h name s is at inner in (hit.mentioned, hit.free) }

-- an expression mentions what it names
pub expressions_mention : (table : Table) (scope : Scope) (e : Expr) (demand : Demand) → (expr_found table scope e demand).faults ≡ [] → Mentioned scope (expr_names e) (mentions (expr_found table scope e demand).part)
expressions_mention table scope e demand none = hit_mentioned (λ name s is at inner.
    let says = part_is table scope (PartSays name s) (StepSays name s) (PairSays name s) (LinkSays name s) (forms_say table scope name s at inner) e in
    let found = sure_then (Mentions name s) (λ (x : TypedExpr). Hit s (mentions x)) (part_of table scope e demand) typed_of (says.at_demand is demand)
    (λ j m. sure_sound (λ (x : TypedExpr). Hit s (mentions x)) j.typed m) in
    found.where_clear none)

-- a place that is assigned mentions what it names
pub places_mention : (table : Table) (scope : Scope) (place : Place) → (place_found table scope place).faults ≡ [] → Mentioned scope (place_names place) (place_mentions (place_found table scope place).part.place)
places_mention table scope place none = hit_mentioned (λ name s is at inner.
    let each = steps_are table scope (PartSays name s) (StepSays name s) (PairSays name s) (LinkSays name s) (forms_say table scope name s at inner) place.steps in
    (place_says name s scope at inner place.name (map (step_of table scope) place.steps) (map suffix_names place.steps) place.spot place.spot each is).where_clear none)

-- arguments mention what they name
pub arguments_mention : (table : Table) (scope : Scope) (params : List ParamHead) (args : List Expr) → (typed_arguments false params (map (part_of table scope) args)).faults ≡ [] → Mentioned scope (exprs_name args) (all_mention (typed_arguments false params (map (part_of table scope) args)).part)
arguments_mention table scope params args none = hit_mentioned (λ name s is at inner.
    let each = parts_are table scope (PartSays name s) (StepSays name s) (PairSays name s) (LinkSays name s) (forms_say table scope name s at inner) args in
    (typed_say name s false params (map (part_of table scope) args) (map expr_names args) each is).where_clear none)
