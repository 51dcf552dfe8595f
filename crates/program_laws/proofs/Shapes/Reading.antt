-- Expressions, places and arguments where a body is read: what is known there, and what they answer.
use Rattle.std.proofs.Common.{◌≡◌, if◌then◌else◌}
use Rattle.program_laws.proofs.Common.{ℕ, length, map, List, Some, None, Bool, true, false, Option, refl, ap, sym, ◌∙◌, slice_get, arith, option_map, is_some, IfSome, list_all, Shape, Expr, Place, have, stands, Scope, MonitorHead, ParamHead, Table, Demand, action_named, typed_arguments, param_wants, item_at, place_found, expr_found, answers, wish_stands, result_stands, State, Around, action_in, expr_names, place_names, exprs_name, optional_names, reads, args_read, maybe_read}
use Rattle.type_table.specs.Table.{action_of}
use Rattle.expr_rules.specs.Calls.{action_in as head_in}
use Rattle.expr_check.specs.Expressions.{part_of as expr_part}
use Rattle.stmt_check.specs.Bodies.{action_named as head_named}
use Rattle.stmt_check.specs.Captures.{Names as Named}
use Rattle.stmt_check.specs.Steps.{looks}
use Rattle.program_laws.proofs.Shapes.Frames.{Frame, World, KnowsNamed, Before, Claim, names_of, claim_looks, claim_as}
use Rattle.program_laws.proofs.Shapes.Lists.{all_of_same}
use Rattle.program_laws.proofs.Shapes.Locals.{optional_claim}
use Rattle.program_laws.proofs.Shapes.Rules.{Rules, PlaceAnswers}

-- a body is read as its frame says
pub record Fitting (f : Frame) (around : Around) : Type 0 where
  pub world : World f.program around.table f.monitor
  pub callbacks : around.callbacks ≡ f.callbacks
  pub result : around.result ≡ f.result
  pub stands : result_stands f.program.types f.result ≡ true

-- names that are all among others
abbrev pub Within : Named → Named → Type 0
Within names others = (name : List ℕ) → names name ≡ true → others name ≡ true

-- ---- what is known at a state

-- an action of a monitor is the same in expressions and in bodies
pub same_head : (monitor : Option MonitorHead) (name : List ℕ) → head_in monitor name ≡ action_in monitor name
same_head None name = refl
same_head (Some monitor) name = at (action_of monitor name)
  where
    at : (o : Option ℕ) → item_at monitor.actions o ≡ elim o [ None ↦ None | Some n ↦ slice_get monitor.actions n ]
    at None = refl
    at (Some n) = refl

-- and so is one that is visible
pub named_head : (table : Table) (scope : Scope) (monitor : ℕ) (name : List ℕ) → scope.actions ≡ true → scope.monitor ≡ monitor → action_named table scope name ≡ head_named table monitor name
named_head table scope monitor name visible at =
    ap (λ (b : Bool). if b then head_in (slice_get table.monitors scope.monitor) name else None) visible
    ∙ ap (λ (n : ℕ). head_in (slice_get table.monitors n) name) at
    ∙ same_head (slice_get table.monitors monitor) name

pub known_at : (f : Frame) (around : Around) → Fitting f around → (k : ℕ) (all : List Shape) (s : State) → Before f k all s → (named : Named) → Within named f.named → KnowsNamed named around.table (names_of f all) s.scope
known_at f around fitting k all s before named within = record {
  types = fitting.world.types;
  few = (let few = fitting.world.few in omega arith);
  kinds = fitting.world.kinds;
  seen = all_of_same s.scope.names (λ x h is. h (within x.name is)) before.seen;
  actions = λ name head found. fitting.world.actions all name head (sym (named_head around.table s.scope f.monitor name before.visible before.monitor) ∙ found);
}

module _ (rules : Rules) (f : Frame) (around : Around) (fitting : Fitting f around) where
  -- an expression
  pub reads_claim : {k : ℕ} {H : List Shape → Type 0} (demand : Demand) (e : Expr) → Within (expr_names e) f.named → (s : State) → ((all : List Shape) → H all → wish_stands f.program.types demand.wish ≡ true) → Claim f k k H (λ all x. answers (names_of f all) demand.wish x ≡ true) s (reads around.table demand e s)
  reads_claim {k} demand e within s g = claim_looks f (λ s. expr_found around.table s.scope e demand) s (λ all h none before.
      rules.expressions around.table (names_of f all) s.scope e demand (known_at f around fitting k all s before (expr_names e) within) (g all h) none)

  -- a place that is assigned
  pub place_claim : {k : ℕ} {H : List Shape → Type 0} (place : Place) → Within (place_names place) f.named → (s : State) → Claim f k k H (λ all x. PlaceAnswers (names_of f all) x) s (looks (λ s. place_found around.table s.scope place) s)
  place_claim {k} place within s = claim_looks f (λ s. place_found around.table s.scope place) s (λ all h none before.
      rules.places around.table (names_of f all) s.scope place (known_at f around fitting k all s before (place_names place) within) none)

  -- the arguments of an action
  pub args_claim : {k : ℕ} {H : List Shape → Type 0} (params : List ParamHead) (args : List Expr) → Within (exprs_name args) f.named → (s : State) → Claim f k k H (λ all x. (shapes : List Shape) → param_wants params ≡ map (λ s. Some s) shapes → list_all (stands f.program.types) shapes ≡ true → length args ≡ length params → have (names_of f all) shapes x ≡ true) s (args_read around.table params args s)
  args_claim {k} params args within s = claim_looks f (λ s. typed_arguments false params (map (expr_part around.table s.scope) args)) s (λ all h none before shapes wants stand long.
      rules.arguments around.table (names_of f all) s.scope params shapes args (known_at f around fitting k all s before (exprs_name args) within) wants stand long none)

  mapped : {A B : Type 0} (g : A → B) (o : Option A) → is_some (option_map g o) ≡ is_some o
  mapped g None = refl
  mapped g (Some x) = refl

  some_read : (k : ℕ) (H : List Shape → Type 0) (demand : Demand) (e : Option Expr) → Within (optional_names e) f.named → ((all : List Shape) → H all → wish_stands f.program.types demand.wish ≡ true) → IfSome (option_map (reads around.table demand) e) (λ n. (s : State) → Claim f k k H (λ all x. answers (names_of f all) demand.wish x ≡ true) s (n s))
  some_read k H demand None within g = tt
  some_read k H demand (Some e) within g = λ s. reads_claim demand e within s g

  -- an expression that may be there
  pub maybe_claim : {k : ℕ} {H : List Shape → Type 0} (demand : Demand) (e : Option Expr) → Within (optional_names e) f.named → (s : State) → ((all : List Shape) → H all → wish_stands f.program.types demand.wish ≡ true) → Claim f k k H (λ all o. IfSome o (λ x. answers (names_of f all) demand.wish x ≡ true) × (is_some o ≡ is_some e)) s (maybe_read around.table demand e s)
  maybe_claim {k} {H} demand e within s g = claim_as f (λ all h. h) (λ all h q. (q.0, q.1 ∙ mapped (reads around.table demand) e)) (optional_claim f k H (λ all x. answers (names_of f all) demand.wish x ≡ true) (option_map (reads around.table demand) e) (some_read k H demand e within g) s)
