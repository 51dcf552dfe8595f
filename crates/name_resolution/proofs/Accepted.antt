-- What the checker's definitions give for trees in which no fault is found is those trees with names resolved.
use Rattle.std.proofs.Common.{◌≡◌, ℕ, List, [], ◌∷◌, map, refl, sym, subst}
use Rattle.std.specs.List.{AllByRecursion}
use Rattle.epl_tree.specs.declared.statement.Stmt.{Stmt as Tree}
use Rattle.typed_program.specs.declared.program.Site.{Site}
use Rattle.typed_program.specs.declared.statement.Stmt.{Stmt}
use Rattle.expr_check.specs.Expressions.{part_of, typed_of}
use Rattle.stmt_check.specs.declared.state.State.{State}
use Rattle.stmt_check.specs.Bodies.{bound_in}
use Rattle.stmt_check.specs.Bodies.{Around as Body}
use Rattle.stmt_check.specs.Captures.{event_names}
use Rattle.stmt_check.specs.Statements.{row_read}
use Rattle.stmt_check.specs.Statements.{part_of as stmt_part}
use Rattle.stmt_check.specs.Steps.{Reads, each}
use Rattle.name_resolution.specs.Names.{Around}
use Rattle.name_resolution.specs.Expressions.{ExprIs}
use Rattle.name_resolution.specs.Statements.{Here, RowIs}
use Rattle.name_resolution.proofs.Bodies.{Fit, Matches, Ready, Fits, every, ExpressionsResolve, EventsResolve, RowResolves, StatementsResolve}
use Rattle.name_resolution.proofs.Sure.{sure_then, sure_sound}
use Rattle.name_resolution.proofs.Judging.{plain_at}
use Rattle.name_resolution.proofs.Trees.{expr_reads}
use Rattle.name_resolution.proofs.Claims.{by_seen, Claim}
use Rattle.name_resolution.proofs.StatementsRead.{map_map, each_claim, S}
use Rattle.name_resolution.proofs.StatementTrees.{term_at, stmt_reads}

pub expressions : ExpressionsResolve
expressions table scope around names types acts e known demand plain none =
    let found = sure_then (λ j. ExprIs around names e j.typed) (λ x. ExprIs around names e x) (part_of table scope e demand) typed_of
    (plain_at around names e (part_of table scope e) demand plain (expr_reads table scope around names types acts e known))
    (λ j is. sure_sound (λ x. ExprIs around names e x) j.typed is) in
    found.where_clear none

pub events : EventsResolve
events around monitor callbacks body fit scope own actions names e known none =
    let s : State = record { scope = scope; locals = []; next = 0; whole = 0; sites = [] } in
    let h : Here = record { names = names; next = 0; locals = [] } in
    let term = term_at around [] monitor (event_names e) callbacks body fit e (λ name w. w) s h none (record { own = own; actions = actions }) (record { names = known; next = refl; locals = refl }) in
    record { bound = map by_seen (bound_in body.table scope e); bound_are = term.0; resolved = term.1 }

module _ (around : Around) (sites : List Site) (monitor callbacks : ℕ) (body : Body) (fit : Fit around monitor callbacks body) where
  abbrev Reading : Tree → Type 0
  Reading t = (s : State) → Claim sites monitor every callbacks (S around sites monitor t) s ((stmt_part t).reads body s)

  all_read : (ts : List Tree) → AllByRecursion Reading ts
  all_read [] = tt
  all_read (t ∷ ts) = (let r = stmt_reads around sites monitor t in r.claims every callbacks body fit (λ name h. refl), all_read ts)

  pub row_claim : (ts : List Tree) (s : State) → Claim sites monitor every callbacks (λ ys h k. RowIs around sites h ts ys k) s (row_read body (map stmt_part ts) s)
  row_claim ts s = subst (λ (ms : List (Reads State Stmt)). Claim sites monitor every callbacks (λ ys h k. RowIs around sites h ts ys k) s (each ms s)) (sym (map_map around sites monitor stmt_part (λ p. p.reads body) ts))
      (each_claim around sites monitor every callbacks body fit (λ t. (stmt_part t).reads body) ts (all_read ts) s)

  pub row_resolves : (ts : List Tree) (s : State) (h : Here) → (row_read body (map stmt_part ts) s).faults ≡ [] → Fits sites monitor callbacks s (row_read body (map stmt_part ts) s).part.state → Ready sites monitor s → Matches every h s → RowResolves around sites body ts s h
  row_resolves ts s h none fits ready matches =
      let held = (row_claim ts s).holds h none fits ready matches in
      record { end = held.after; row = held.good; matches = held.matches }

pub statements : StatementsResolve
statements around sites monitor callbacks body fit ts s h none fits ready matches = row_resolves around sites monitor callbacks body fit ts s h none fits ready matches
